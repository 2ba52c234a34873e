-- Two different breaches have different entries: an entry tells its place, rule and number, where the number can break a rule. The
-- numbers that can are those that have a shape; a plain 26 cannot, whose entry would be that of 3GPP 0. Assumes nothing.
use mathlib.Core.Path.{◌≡◌, refl, sym, ◌∙◌}
use mathlib.Core.Logic.{◌⊎◌, inl, inr, ⊎_elim, ◌↔◌}
use mathlib.Core.Bool.{Bool, true, false, cond, not, ◌&&◌, ◌||◌}
use mathlib.Core.List.{List, [], ◌∷◌}
use Prim.Native.Nat.{ℕ, zero, suc, ◌+◌, ◌*◌, ◌-◌, ◌≤◌, ◌<◌}
use native.Mathlib.Omega.{arith}
use lib.Dec.{T, eqb, ltb, eqb→eq, ltb→lt, T_not}
use lib.ListN.{length}
use borrow.Author.Tests.{ltb-true, ltb-false}
use Rattle.meaning.specs.Octets.{is_in, between, all, Octets}
use Rattle.meaning.specs.Versions.{current}
use Rattle.meaning.specs.Jobs.{class, Context}
use Rattle.meaning.specs.Framing.{gpp, Attribute, walk, attributes}
use Rattle.meaning.specs.Shapes.{shape_of, meets, allowed}
use Rattle.meaning.specs.Presence.{is_session, never_here, asks_class, not_permitted, mandatory}
use Rattle.meaning.specs.Breaches.{entry, misses, offends, is_listed3gpp, once_only, barred, Among, Absent, After}
use Rattle.meaning.specs.Breaches.{Wanted}
use Rattle.meaning.specs.Breaches.{Breach, shape1, value2, again3, here4, both5, lacks6, wants7}
use Rattle.meaning.specs.Listing.{put, demandable, wantable}
use Rattle.meaning.proofs.Tests.{parts, either, in_among, all_at}
use Rattle.meaning.proofs.Computing.{computing}
use Rattle.meaning.proofs.Rising.{among_right}
use Rattle.meaning.proofs.Breaches.{Placed, name_low, demanded_among, wanted_among}
use Rattle.meaning.proofs.Placed.{walk_placed}
use Rattle.meaning.proofs.Enumerated.{those_before, have_shape}
use Rattle.meaning.proofs.Shaped.{shapeless}

-- the number can break a rule
abbrev pub can_break : (number : ℕ) → Bool
can_break n = is_in n have_shape

-- and each of these does, by an empty value
pub each_can : (n place : ℕ) → T (can_break n) → T (misses (record { place = place; number = n; value = [] }))
unfolding computing
each_can n place t = all_at (λ n. not (meets current (shape_of n) [])) have_shape tt n (in_among n have_shape t)

-- ---- An entry tells its breach

-- a carried number, and not a plain 26
abbrev Known : ℕ → Type 0
Known n = (n < 512) × (n ≡ 26 → ⊥)

can_known : (n : ℕ) → T (can_break n) → Known n
can_known n t =
    let b = parts (ltb n 512) (not (eqb n 26)) (all_at (λ n. ltb n 512 && not (eqb n 26)) have_shape tt n (in_among n have_shape t)) in
    (ltb→lt n 512 b.0, λ e. rw e at b.1)

-- the type and the sub-attribute number of a plain number, or of another
abbrev name : (plain : Bool) (number : ℕ) → ℕ
name x n = cond x n 26 * 256 + cond x 0 (n - 256)

one_name : (n n' : ℕ) → Known n → Known n' → name (ltb n 256) n ≡ name (ltb n' 256) n' → n ≡ n'
one_name n n' k k' e = go (ltb n 256) (ltb n' 256) refl refl e
  where
    go : (x y : Bool) → ltb n 256 ≡ x → ltb n' 256 ≡ y → name x n ≡ name y n' → n ≡ n'
    go true true q q' e = omega arith
    go true false q q' e = absurd (k.1 (omega (arith, ltb-true)))
    go false true q q' e = absurd (k'.1 (omega (arith, ltb-true)))
    go false false q q' e = omega (arith, ltb-false)

-- An entry has one rule, also where its number breaks none.
one_rule : (p r n p' r' n' : ℕ) → r ≤ 7 → r' ≤ 7 → n < 512 → n' < 512 → entry p r n ≡ entry p' r' n' → r ≡ r'
unfolding entry
one_rule p r n p' r' n' h h' k k' e = omega (arith, name_low n k, name_low n' k')

-- An entry has one place, rule and number.
pub one_breach : (p r n p' r' n' : ℕ) →
    r ≤ 7 → r' ≤ 7 → T (can_break n) → T (can_break n') → entry p r n ≡ entry p' r' n' → (p ≡ p') × (r ≡ r') × (n ≡ n')
unfolding entry
one_breach p r n p' r' n' h h' t t' e =
    let k = can_known n t in
    let k' = can_known n' t' in
    let low = name_low n k.0 in
    let low' = name_low n' k'.0 in
    let u : p ≡ p' = omega arith in
    let v : r ≡ r' = one_rule p r n p' r' n' h h' k.0 k'.0 e in
    (u, v, one_name n n' k k' (omega arith))

-- ---- Every breach is such an entry

among_put : (b : Bool) (k n : ℕ) (l : List ℕ) → Among n l → Among n (put b k l)
among_put true k n l m = inr m
among_put false k n l m = m

put_here : (b : Bool) (k : ℕ) (l : List ℕ) → T b → Among k (put b k l)
put_here true k l t = inl refl
put_here false k l t = absurd t

among_before : (p : ℕ → Bool) (k : ℕ) (l : List ℕ) (n : ℕ) → Among n l → Among n (those_before p k l)
among_before p zero l n m = m
among_before p (suc k) l n m = among_before p k (put (p k) k l) n (among_put (p k) k n l m)

-- a number below k that passes a test is among those that do
among_those : (p : ℕ → Bool) (k : ℕ) (l : List ℕ) (n : ℕ) → n < k → T (p n) → Among n (those_before p k l)
among_those p zero l n h t = absurd (omega arith)
among_those p (suc k) l n h t = go (λ h. among_those p k (put (p k) k l) n h t) (ltb n k) refl
  where
    go : (n < k → Among n (those_before p (suc k) l)) → (b : Bool) → ltb n k ≡ b → Among n (those_before p (suc k) l)
    go f true e = f (ltb-true n k e)
    go f false e =
        let q : n ≡ k = omega (arith, ltb-false n k e) in
        rw q (among_before p k (put (p k) k l) k (put_here (p k) k l (rw q at t)))

-- a test that no number without a shape passes
only : (p : ℕ → Bool) → T (all (λ n. not (p n)) shapeless) → (n : ℕ) → n < 512 → T (p n) → T (can_break n)
only p none n h t = go (can_break n) refl
  where
    go : (b : Bool) → can_break n ≡ b → T b
    go true q = tt
    go false q =
        T_not (p n) (all_at (λ n. not (p n)) shapeless none n (among_those (λ n. not (can_break n)) 512 [] n h (rw q tt))) t

-- the numbers that rule 4 never permits outside kind 1
abbrev never : List ℕ
never = 2 ∷ 3 ∷ 18 ∷ 24 ∷ []

-- rules 1 to 4 speak of numbers that have a shape
module _ (c : Context) (n : ℕ) (h : n < 512) where
  misses_can : (v : List ℕ) → T (not (meets current (shape_of n) v)) → T (can_break n)
  unfolding computing
  misses_can v t = only (λ n. not (meets current (shape_of n) v)) tt n h t

  offends_can : (v : List ℕ) → T (not (allowed c n v)) → T (can_break n)
  unfolding computing
  offends_can v t = only (λ n. not (allowed c n v)) tt n h t

  once_can : T (once_only n) → T (can_break n)
  unfolding computing
  once_can t = only once_only tt n h t

  listed_can : T (is_listed3gpp n) → T (can_break n)
  unfolding computing
  listed_can t = only is_listed3gpp tt n h t

  barred_can : T (barred c n) → T (can_break n)
  unfolding barred not_permitted
  barred_can t =
      ⊎_elim (λ u. all_at can_break (gpp 11 ∷ []) tt n (inl (eqb→eq n (gpp 11) (parts (eqb n (gpp 11)) (not (eqb c.kind 3)) u).0)))
      (λ u. ⊎_elim (λ w. listed_can (parts (between 4 5 c.kind) (is_listed3gpp n) w).1) plain
      (either (between 4 5 c.kind && is_listed3gpp n) (not_permitted c n) u))
      (either (eqb n (gpp 11) && not (eqb c.kind 3)) ((between 4 5 c.kind && is_listed3gpp n) || not_permitted c n) t)
    where
      plain : T (not_permitted c n) → T (can_break n)
      plain t =
          ⊎_elim (λ u. all_at can_break never tt n (in_among n never (parts (between 2 6 c.kind) (is_in n never) u).1))
          (λ u. let v = parts (is_session c.kind) (eqb n 25) (parts (asks_class c.kind n) (not (class c.flags)) u).0 in
          all_at can_break (25 ∷ []) tt n (inl (eqb→eq n 25 v.1)))
          (either (never_here c.kind n) (asks_class c.kind n && not (class c.flags)) t)

-- ---- The law

-- an attribute of the list carries a number below 512
low : (p to : ℕ) (l : List Attribute) → Placed p l to → (a : Attribute) → Among a l → a.number < 512
low p to [] w a m = absurd m
low p to (x ∷ l) w a (inl q) = rw q w.1
low p to (x ∷ l) w a (inr m) = low (suc x.place) to l w.2 a m

-- a breach's place, rule and number, whose entry is e
pub record Tells (e : ℕ) : Type 0 where
  pub place : ℕ
  pub rule : ℕ
  pub number : ℕ
  pub least : 1 ≤ rule
  pub most : rule ≤ 7
  pub can : T (can_break number)
  pub is : e ≡ entry place rule number

-- and no other place, rule or number has it
pub one_telling : (e : ℕ) (t u : Tells e) → (t.place ≡ u.place) × (t.rule ≡ u.rule) × (t.number ≡ u.number)
one_telling e t u = one_breach _ _ _ _ _ _ t.most u.most t.can u.can (sym t.is ∙ u.is)

module _ (c : Context) (to : ℕ) (l : List Attribute) (placed : Placed 0 l to) (e : ℕ) where
  tells : (place rule number : ℕ) → 1 ≤ rule → rule ≤ 7 → T (can_break number) → e ≡ entry place rule number → Tells e
  tells p r n least most can is = record { place = p; rule = r; number = n; least = least; most = most; can = can; is = is }

  demanded_can : (n : ℕ) → T (mandatory c n) → T (can_break n)
  demanded_can n t = all_at can_break demandable tt n (demanded_among c n t)

  wanted_can : (n : ℕ) → Wanted c l n → T (can_break n)
  wanted_can n w = all_at can_break wantable tt n (wanted_among n c l w)

  after_low : (a : Attribute) (earlier : List Attribute) → After l a earlier → a.number < 512
  after_low a earlier s = low 0 to l placed a (rw s.whole (among_right a earlier (a ∷ s.later) (inl refl)))

  pub breach_tells : Breach c to l e → Tells e
  unfolding misses offends
  breach_tells (shape1 a m t p) =
      tells a.place 1 a.number (omega arith) (omega arith) (misses_can c a.number (low 0 to l placed a m) a.value t) p
  breach_tells (value2 a m t p) =
      tells a.place 2 a.number (omega arith) (omega arith)
      (offends_can c a.number (low 0 to l placed a m) a.value (parts (meets current (shape_of a.number) a.value) _ t).1) p
  breach_tells (again3 a earlier s t f p) =
      tells a.place 3 a.number (omega arith) (omega arith)
      (once_can c a.number (after_low a earlier s) t) p
  breach_tells (here4 a m t p) =
      tells a.place 4 a.number (omega arith) (omega arith) (barred_can c a.number (low 0 to l placed a m) t) p
  breach_tells (both5 q f g p) = tells to 5 3 (omega arith) (omega arith) tt p
  breach_tells (lacks6 n t f p) = tells to 6 n (omega arith) (omega arith) (demanded_can n t) p
  breach_tells (wants7 n w f p) = tells to 7 n (omega arith) (omega arith) (wanted_can n w) p

  -- an entry of rule 6 is that of a number which is mandatory and absent
  lacking_alone : (n : ℕ) → T (can_break n) → e ≡ entry to 6 n → Breach c to l e → T (mandatory c n) × Absent n l
  lacking_alone n can is b = go b
    where
      ruled : (place rule number : ℕ) → rule ≤ 7 → number < 512 → e ≡ entry place rule number → rule ≡ 6
      ruled p r m h k q = one_rule p r m to 6 n h (omega arith) k (can_known n can).0 (sym q ∙ is)

      go : Breach c to l e → T (mandatory c n) × Absent n l
      go (shape1 a m t p) = absurd (omega (arith, ruled a.place 1 a.number (omega arith) (low 0 to l placed a m) p))
      go (value2 a m t p) = absurd (omega (arith, ruled a.place 2 a.number (omega arith) (low 0 to l placed a m) p))
      go (again3 a earlier s t f p) = absurd (omega (arith, ruled a.place 3 a.number (omega arith) (after_low a earlier s) p))
      go (here4 a m t p) = absurd (omega (arith, ruled a.place 4 a.number (omega arith) (low 0 to l placed a m) p))
      go (both5 q f g p) = absurd (omega (arith, ruled to 5 3 (omega arith) (omega arith) p))
      go (lacks6 m t f p) =
          let q : m ≡ n = (one_breach to 6 m to 6 n (omega arith) (omega arith) (demanded_can m t) can (sym p ∙ is)).2 in
          (rw q at t, rw q at f)
      go (wants7 m w f p) = absurd (omega (arith, ruled to 7 m (omega arith) (can_known m (wanted_can m w)).0 p))

-- the same of an area
pub area_breach_tells : (c : Context) (area : List ℕ) (e : ℕ) →
    Octets area → Breach c (length area) (attributes (walk area)) e → Tells e
area_breach_tells c area e o b =
    breach_tells c (length area) (attributes (walk area)) (walk_placed area o) e b

-- ---- Rule 6 of an area

-- The entry of a number is a breach exactly where the number is mandatory and no attribute carries it.
pub lacks_exactly : (c : Context) (area : List ℕ) (n : ℕ) → Octets area → T (can_break n)
    → Breach c (length area) (attributes (walk area)) (entry (length area) 6 n)
    ↔ (T (mandatory c n) × Absent n (attributes (walk area)))
lacks_exactly c area n o can = (
  λ b. lacking_alone c (length area) (attributes (walk area)) (walk_placed area o) (entry (length area) 6 n) n can refl b,
  λ q. lacks6 n q.0 q.1 refl,
)
