-- The items of a sheet: what stands at the front of an item's octets is that item, and what is accepted there is an item.
-- Assumes nothing.
use mathlib.Core.Path.{◌≡◌, refl, sym, ap, ◌∙◌}
use mathlib.Core.Logic.{⊎_elim}
use mathlib.Core.Bool.{Bool, true, false, cond, not, ◌&&◌}
use mathlib.Core.List.{List, ◌++◌}
use Prim.Native.Nat.{ℕ, ◌+◌, ◌-◌, ◌<◌, ◌≤◌}
use native.Mathlib.Omega.{arith}
use lib.Dec.{T, eqb, ltb, leb→le}
use borrow.Author.Tests.{le-ltb, ne_eqb, ltb-false, eqb-true}
use lib.ListN.{length, take, drop, get_or, length-append}
use lib.Seq.{take_at, length-take-le}
use Rattle.meaning.specs.Octets.{Octets, same}
use Rattle.meaning.specs.Versions.{Version}
use Rattle.meaning.specs.Framing.{gpp, is_plain, carries}
use Rattle.meaning.specs.Shapes.{shape_of, plain_shape}
use Rattle.meaning.specs.Sheet.{type_of, sub_of, form_of, decodes, form, stored, count, item, number_in, value_in, stored_length, holds}
use Rattle.meaning.specs.Sheet.{refused, judged_item, whole_item, entered}
use Rattle.meaning.proofs.Tests.{both, parts, is_true, passes, same_one, same_itself}
use Rattle.meaning.proofs.Octets.{octet_at}
use Rattle.meaning.proofs.Forms.{announced, stands_for_lem, either_way}

form_26 : (ver : Version) (v : List ℕ) → form ver 26 v ≡ 0
unfolding form decodes shape_of plain_shape form_of
form_26 ver v = refl

form_3gpp : (ver : Version) (n : ℕ) (v : List ℕ) → is_plain n ≡ false → form ver n v ≡ 0 → ⊥
form_3gpp ver n v p e = ⊎_elim (λ d. let g : 2 ≤ form_of (shape_of n) = leb→le 2 _ d.own in let f = d.form_is in omega arith) (λ q. let f : form ver n v ≡ 1 = q.form_is ∙ rw p in omega arith) (either_way ver n v)

-- An item's head names its number.
number_in_lem : (ver : Version) (n : ℕ) (v : List ℕ) → number_in (type_of n) (sub_of n) (form ver n v) ≡ n
number_in_lem ver n v = go (is_plain n) refl
  where
    low : (c : Bool) → eqb n 26 ≡ c → cond (c && not (eqb (form ver n v) 0)) (gpp 0) n ≡ n
    low true e = let q : n ≡ 26 = eqb-true n 26 e in rw (q, form_26 ver v)
    low false e = refl

    go : (b : Bool) → is_plain n ≡ b → cond (eqb (cond b n 26) 26 && not (eqb (form ver n v) 0)) (gpp (cond b 0 (n - 256))) (cond b n 26) ≡ n
    go true e = low (eqb n 26) refl
    go false e = let h : 256 ≤ n = ltb-false n 256 e in rw (ne_eqb (form ver n v) 0 (form_3gpp ver n v e)) (omega arith)

-- the item's own octets, out of what follows
front :
    (ver : Version) (n : ℕ) (v rest : List ℕ)
    → take (4 + stored_length ver (form ver n v) (count ver n v)) (item ver n v ++ rest) ≡ item ver n v
unfolding item
front ver n v rest = take_at (item ver n v) rest (4 + stored_length ver (form ver n v) (count ver n v)) (omega (arith, announced ver n v))

accepts : (ver : Version) (n : ℕ) (v : List ℕ) → T (carries n v) → judged_item ver n v (item ver n v) ≡ holds n v (length (item ver n v))
unfolding judged_item
accepts ver n v t = rw (is_true (carries n v && same (item ver n v) (item ver n v)) (both (carries n v) (same (item ver n v) (item ver n v)) t (same_itself (item ver n v))))

-- An item at the front is accepted as the item that it is.
pub item_entered :
    (ver : Version) (n : ℕ) (v rest : List ℕ) → T (carries n v) → entered ver (item ver n v ++ rest) ≡ holds n v (length (item ver n v))
unfolding entered whole_item item
item_entered ver n v rest t =
    let l : length (stored ver n v ++ rest) ≡ length (stored ver n v) + length rest = length-append (stored ver n v) rest in
    let s : stored_length ver (form ver n v) (count ver n v) ≡ length (stored ver n v) = announced ver n v in
    let four : ltb (length (item ver n v ++ rest)) 4 ≡ false = le-ltb (length (item ver n v ++ rest)) 4 (omega arith) in
    let whole : ltb (length (item ver n v ++ rest)) (4 + stored_length ver (form ver n v) (count ver n v)) ≡ false =
    le-ltb (length (item ver n v ++ rest)) (4 + stored_length ver (form ver n v) (count ver n v)) (omega arith) in
    rw (four, whole, front ver n v rest, number_in_lem ver n v, stands_for_lem ver n v) (accepts ver n v t)

-- What is accepted at the front of some octets of a sheet.
pub record AcceptedItem (ver : Version) (l : List ℕ) (n : ℕ) (v : List ℕ) (size : ℕ) : Type 0 where
  pub carried : T (carries n v)
  pub same_octets : item ver n v ≡ take size l
  pub inside : size ≤ length l
  pub low : n < 512

record JudgedAs (ver : Version) (n : ℕ) (v it : List ℕ) (n' : ℕ) (v' : List ℕ) (size : ℕ) : Type 0 where
  number_is : n ≡ n'
  size_is : length it ≡ size
  carried : T (carries n' v')
  same_octets : item ver n' v' ≡ it

judged_holds :
    (ver : Version) (n : ℕ) (v it : List ℕ) (n' : ℕ) (v' : List ℕ) (size : ℕ) → judged_item ver n v it ≡ holds n' v' size
    → JudgedAs ver n v it n' v' size
unfolding judged_item
judged_holds ver n v it n' v' size e = go (carries n v && same (item ver n v) it) refl e
  where
    go :
        (b : Bool) → carries n v && same (item ver n v) it ≡ b → cond b (holds n v (length it)) (refused 23) ≡ holds n' v' size
        → JudgedAs ver n v it n' v' size
    go true q e =
        let en : n ≡ n' = cc in
        let ev : v ≡ v' = cc in
        let t : T (carries n' v' && same (item ver n' v') it) = rw (en, ev) at (passes _ q) in
        record {
          number_is = en;
          size_is = cc;
          carried = (parts (carries n' v') (same (item ver n' v') it) t).0;
          same_octets = same_one (item ver n' v') it (parts (carries n' v') (same (item ver n' v') it) t).1;
        }
    go false q e = absurd (let z : ◌≡◌ {A = ℕ} 0 1 = cc in omega arith)

-- The number that a head names is carried by some attribute.
pub number_low : (t s f : ℕ) → t < 256 → s < 256 → number_in t s f < 512
number_low t s f h g = go (eqb t 26 && not (eqb f 0))
  where
    go : (b : Bool) → cond b (gpp s) t < 512
    go true = omega arith
    go false = omega arith

-- What is accepted at the front is the item of what it holds.
pub entered_holds :
    (ver : Version) (l : List ℕ) (n : ℕ) (v : List ℕ) (size : ℕ) → Octets l → entered ver l ≡ holds n v size
    → AcceptedItem ver l n v size
unfolding entered whole_item
entered_holds ver l n v size o e = go (ltb (length l) 4) (ltb (length l) (4 + stored_length ver (get_or l 2 0) (get_or l 3 0))) refl e
  where
    long : ℕ
    long = 4 + stored_length ver (get_or l 2 0) (get_or l 3 0)

    named : ℕ
    named = number_in (get_or l 0 0) (get_or l 1 0) (get_or l 2 0)

    whole :
        4 + stored_length ver (get_or l 2 0) (get_or l 3 0) ≤ length l
        → judged_item ver named (value_in ver named (get_or l 2 0) (get_or l 3 0) (drop 4 (take long l))) (take long l) ≡ holds n v size
        → AcceptedItem ver l n v size
    whole h e =
        let j = judged_holds ver named (value_in ver named (get_or l 2 0) (get_or l 3 0) (drop 4 (take long l))) (take long l) n v size e in
        let s : long ≡ size = sym (length-take-le long l h) ∙ j.size_is in
        record {
          carried = j.carried;
          same_octets = j.same_octets ∙ ap (λ (k : ℕ). take k l) s;
          inside = omega (arith, s);
          low = omega (arith, j.number_is, number_low (get_or l 0 0) (get_or l 1 0) (get_or l 2 0) (octet_at l 0 o) (octet_at l 1 o));
        }

    go :
        (a b : Bool) → ltb (length l) (4 + stored_length ver (get_or l 2 0) (get_or l 3 0)) ≡ b
        → cond a (refused 22) (cond b (refused 22) (whole_item ver l)) ≡ holds n v size → AcceptedItem ver l n v size
    go true b q e = absurd (let z : ◌≡◌ {A = ℕ} 0 1 = cc in omega arith)
    go false true q e = absurd (let z : ◌≡◌ {A = ℕ} 0 1 = cc in omega arith)
    go false false q e = whole (ltb-false _ _ q) e
