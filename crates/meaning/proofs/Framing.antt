-- Framing: an attribute that is found is carried, and its octets are those it was found in; an attribute's octets are found as that
-- attribute. Assumes nothing.
use mathlib.Core.Path.{◌≡◌, refl, ap, ◌∙◌}
use mathlib.Core.Bool.{Bool, true, false, cond, not, ◌&&◌, ◌||◌}
use mathlib.Core.List.{List, [], ◌∷◌, ◌++◌}
use Prim.Native.Nat.{ℕ, zero, suc, ◌+◌, ◌-◌, ◌<◌, ◌≤◌}
use native.Mathlib.Omega.{arith}
use lib.Dec.{T, eqb, leb, ltb, leb→le}
use borrow.Author.Tests.{lt-ltb, le-ltb, le-leb, eq-eqb, ne_eqb, ltb-false, leb-true, eqb-true, eqb-false, not-true}
use lib.ListN.{length, take, drop, get_or, length-append, length-drop}
use lib.Seq.{length-take-le, take-take, take_at, take-append-le}
use Rattle.meaning.specs.Octets.{Octets, number_of, octets_of}
use Rattle.meaning.specs.Framing.{gpp, is_plain, head_length, attribute_octets, carries, Found, attribute, refused, nothing, one_sub}
use Rattle.meaning.specs.Framing.{vendor3gpp, vendor_found, found}
use Rattle.meaning.proofs.Tests.{parts, is_true}
use Rattle.meaning.proofs.Octets.{octet_at}
use Rattle.meaning.proofs.Numbers.{number_one}

-- ---- The octets of an attribute

-- those of a plain attribute, or of a 3GPP one
abbrev pub octets_by : (plain : Bool) (number : ℕ) → List ℕ → List ℕ
octets_by b n v =
    cond b (n ∷ (length v + 2) ∷ v)
    (26 ∷ (length v + 8) ∷ octets_of 4 vendor3gpp ++ (n - 256) ∷ (length v + 2) ∷ v)

-- its head has two octets at least
pub head_two : (n : ℕ) → 2 ≤ head_length n
unfolding head_length
head_two n = go (is_plain n)
  where
    go : (b : Bool) → 2 ≤ cond b 2 8
    go true = omega arith
    go false = omega arith

-- and eight at most
pub head_eight : (n : ℕ) → head_length n ≤ 8
unfolding head_length
head_eight n = go (is_plain n)
  where
    go : (b : Bool) → cond b 2 8 ≤ 8
    go true = omega arith
    go false = omega arith

-- Its octets are those of the head and those of the value.
pub attribute_long : (n : ℕ) (v : List ℕ) → length (attribute_octets n v) ≡ head_length n + length v
unfolding attribute_octets octets_of head_length
attribute_long n v = go (is_plain n)
  where
    go : (b : Bool) → length (octets_by b n v) ≡ cond b 2 8 + length v
    go true = omega arith
    go false = omega arith

-- ---- What is found is carried

-- What is known of an attribute found at the front of d.
pub record Framed (d : List ℕ) (n head size : ℕ) : Type 0 where
  pub low : n < 512
  pub headed : 2 ≤ head
  pub within : head ≤ size
  pub inside : size ≤ length d
  pub carried : T (carries n (take (size - head) (drop head d)))
  pub same_octets : attribute_octets n (take (size - head) (drop head d)) ≡ take size d

-- the same of whatever is found
abbrev pub FoundIn : List ℕ → Found → Type 0
FoundIn d (attribute n h s) = Framed d n h s
FoundIn d (refused k) = Unit {0}
FoundIn d nothing = d ≡ []

plain_octets : (t n : ℕ) (r : List ℕ) → t < 256 → 2 ≤ n → n ≤ length r + 2 → attribute_octets t (take (n - 2) r) ≡ take n (t ∷ n ∷ r)
unfolding attribute_octets
plain_octets t zero r h a b = absurd (omega arith)
plain_octets t (suc zero) r h a b = absurd (omega arith)
plain_octets t (suc (suc m)) r h a b =
    let e : suc (suc m) - 2 ≡ m = omega arith in
    let f : length (take m r) + 2 ≡ suc (suc m) = omega (arith, length-take-le m r (omega arith)) in
    rw (lt-ltb t 256 h, e, f)

plain_carried : (t : ℕ) (v : List ℕ) → t < 256 → (t ≡ 26 → ⊥) → length v ≤ 253 → T (carries t v)
unfolding carries
plain_carried t v h d l = rw (lt-ltb t 256 h, le-leb (length v) 253 l, ne_eqb t 26 d) tt

other_carried : (v : List ℕ) → length v ≤ 253 → 5 ≤ length v → (number_of (take 4 v) ≡ vendor3gpp → ⊥) → T (carries 26 v)
unfolding carries
other_carried v l m d = rw (le-leb (length v) 253 l, le-leb 5 (length v) m, ne_eqb (number_of (take 4 v)) vendor3gpp d) tt

gpp_carried : (s : ℕ) (v : List ℕ) → length v ≤ 246 → T (carries (gpp s) v)
unfolding carries
gpp_carried s v l = rw (le-ltb (gpp s) 256 (omega arith), le-leb (length v) 246 l) tt

module _ (n : ℕ) (r : List ℕ) (two : 2 ≤ n) (octet : n < 256) (fits : n ≤ length r + 2) where
  long : length (take (n - 2) r) ≡ n - 2
  long = length-take-le (n - 2) r (omega arith)

  plain_framed : (t : ℕ) → t < 256 → (t ≡ 26 → ⊥) → Framed (t ∷ n ∷ r) t 2 n
  plain_framed t h d =
      record {
        low = omega arith;
        headed = omega arith;
        within = two;
        inside = omega arith;
        carried = plain_carried t (take (n - 2) r) h d (omega (arith, long));
        same_octets = plain_octets t n r h two fits;
      }

  other_framed : 7 ≤ n → (number_of (take 4 r) ≡ vendor3gpp → ⊥) → Framed (26 ∷ n ∷ r) 26 2 n
  other_framed h d =
      record {
        low = omega arith;
        headed = omega arith;
        within = two;
        inside = omega arith;
        carried = other_carried (take (n - 2) r) (omega (arith, long)) (omega (arith, long)) (rw (take-take 4 (n - 2) r (omega arith)) d);
        same_octets = plain_octets 26 n r (omega arith) two fits;
      }

-- the vendor id 10415 is these four octets
id_octets : (l : List ℕ) → Octets l → length l ≡ 4 → number_of l ≡ vendor3gpp → l ≡ 0 ∷ 0 ∷ 40 ∷ 175 ∷ []
unfolding number_of
id_octets l o n e = number_one l (0 ∷ 0 ∷ 40 ∷ 175 ∷ []) o (omega arith, (omega arith, (omega arith, (omega arith, tt)))) n e

gpp_octets :
    (k : ℕ) (r : List ℕ) → Octets r → k + 6 ≤ length r → number_of (take 4 r) ≡ vendor3gpp → get_or r 5 0 ≡ k + 2
    → attribute_octets (gpp (get_or r 4 0)) (take k (drop 6 r)) ≡ 26 ∷ (k + 8) ∷ take (k + 6) r
unfolding attribute_octets octets_of
gpp_octets k [] o h b m = absurd (omega arith)
gpp_octets k (a ∷ []) o h b m = absurd (omega arith)
gpp_octets k (a ∷ b ∷ []) o h e m = absurd (omega arith)
gpp_octets k (a ∷ b ∷ c ∷ []) o h e m = absurd (omega arith)
gpp_octets k (a ∷ b ∷ c ∷ d ∷ []) o h e m = absurd (omega arith)
gpp_octets k (a ∷ b ∷ c ∷ d ∷ s ∷ []) o h e m = absurd (omega arith)
gpp_octets k (a ∷ b ∷ c ∷ d ∷ s ∷ x ∷ q) o h e m =
    let i : a ∷ b ∷ c ∷ d ∷ [] ≡ 0 ∷ 0 ∷ 40 ∷ 175 ∷ [] =
    id_octets (a ∷ b ∷ c ∷ d ∷ []) (o.0, (o.1.0, (o.1.1.0, (o.1.1.1.0, tt)))) refl e in
    let n : length (take k q) ≡ k = length-take-le k q (omega arith) in
    let six : k + 6 ≡ suc (suc (suc (suc (suc (suc k))))) = omega arith in
    let back : gpp s - 256 ≡ s = omega arith in
    let ea : a ≡ 0 = cc in
    let eb : b ≡ 0 = cc in
    let ec : c ≡ 40 = cc in
    let ed : d ≡ 175 = cc in
    rw (le-ltb (gpp s) 256 (omega arith), n, six, back, ea, eb, ec, ed, m)

vendor_found_lem : (n : ℕ) (r : List ℕ) → Octets r → 2 ≤ n → n < 256 → n ≤ length r + 2 → FoundIn (26 ∷ n ∷ r) (vendor_found n r)
unfolding vendor_found one_sub
vendor_found_lem n r o two octet fits = go (ltb n 7) (eqb (number_of (take 4 r)) vendor3gpp) (leb 2 (get_or r 5 0)) (leb (get_or r 5 0) 248) (eqb (get_or r 5 0) (n - 6)) refl refl refl refl refl
  where
    ours :
        number_of (take 4 r) ≡ vendor3gpp → 2 ≤ get_or r 5 0 → get_or r 5 0 ≤ 248 → get_or r 5 0 ≡ n - 6
        → Framed (26 ∷ n ∷ r) (gpp (get_or r 4 0)) 8 n
    ours id a b e =
        let eight : n - 8 + 8 ≡ n = omega arith in
        let six : suc (suc (n - 8 + 6)) ≡ n = omega arith in
        let sub : get_or r 4 0 < 256 = octet_at r 4 o in
        record {
          low = omega arith;
          headed = omega arith;
          within = omega arith;
          inside = omega arith;
          carried = gpp_carried (get_or r 4 0) (take (n - 8) (drop 6 r)) (omega (arith, length-take-le (n - 8) (drop 6 r) (omega (arith, length-drop 6 r))));
          same_octets = gpp_octets (n - 8) r o (omega arith) id (omega arith) ∙ rw eight (ap (λ (k : ℕ). take k (26 ∷ n ∷ r)) six);
        }

    go :
        (a b x y z : Bool) → ltb n 7 ≡ a → eqb (number_of (take 4 r)) vendor3gpp ≡ b → leb 2 (get_or r 5 0) ≡ x → leb (get_or r 5 0) 248 ≡ y
        → eqb (get_or r 5 0) (n - 6) ≡ z
        → FoundIn (26 ∷ n ∷ r) (cond a (refused 7) (cond b (cond (x && (y && z)) (attribute (gpp (get_or r 4 0)) 8 n) (refused 8))
        (attribute 26 2 n)))
    go true b x y z ea eb ex ey ez = tt
    go false false x y z ea eb ex ey ez = other_framed n r two octet fits (ltb-false n 7 ea) (eqb-false _ vendor3gpp eb)
    go false true false y z ea eb ex ey ez = tt
    go false true true false z ea eb ex ey ez = tt
    go false true true true false ea eb ex ey ez = tt
    go false true true true true ea eb ex ey ez = ours (eqb-true _ _ eb) (leb-true _ _ ex) (leb-true _ _ ey) (eqb-true _ _ ez)

-- What is found at the front of octets is carried there.
pub found_in : (d : List ℕ) → Octets d → FoundIn d (found d)
unfolding found
found_in [] o = refl
found_in (t ∷ []) o = tt
found_in (t ∷ n ∷ r) o = go (ltb n 2) (ltb (length r + 2) n) (eqb t 26) refl refl refl
  where
    go :
        (a b x : Bool) → ltb n 2 ≡ a → ltb (length r + 2) n ≡ b → eqb t 26 ≡ x
        → FoundIn (t ∷ n ∷ r) (cond a (refused 5) (cond b (refused 6) (cond x (vendor_found n r) (attribute t 2 n))))
    go true b x ea eb ex = tt
    go false true x ea eb ex = tt
    go false false true ea eb ex = rw (eqb-true t 26 ex) (vendor_found_lem n r o.1.1 (ltb-false n 2 ea) o.1.0 (ltb-false _ n eb))
    go false false false ea eb ex = plain_framed n r (ltb-false n 2 ea) o.1.0 (ltb-false _ n eb) t o.0 (eqb-false t 26 ex)

-- ---- The way back

pub plain_lines :
    (t : ℕ) (v : List ℕ) → is_plain t ≡ true → T (carries t v)
    → T (leb (length v) 253 && (not (eqb t 26) || (leb 5 (length v) && not (eqb (number_of (take 4 v)) vendor3gpp))))
unfolding carries
plain_lines t v p c = rw p at c

pub gpp_lines : (n : ℕ) (v : List ℕ) → is_plain n ≡ false → T (carries n v) → length v ≤ 246
unfolding carries
gpp_lines n v p c = leb→le (length v) 246 (rw p at c)

module _ (v rest : List ℕ) where
  behind : length (v ++ rest) ≡ length v + length rest
  behind = length-append v rest

  -- a plain attribute other than 26
  plain_back : (t : ℕ) → eqb t 26 ≡ false → found (t ∷ (length v + 2) ∷ (v ++ rest)) ≡ attribute t 2 (length v + 2)
  unfolding found
  plain_back t e =
      rw (le-ltb (length v + 2) 2 (omega arith), le-ltb (length (v ++ rest) + 2) (length v + 2) (omega (arith, behind)), e)

  -- another vendor's
  other_back :
      5 ≤ length v → eqb (number_of (take 4 v)) vendor3gpp ≡ false → found (26 ∷ (length v + 2) ∷ (v ++ rest)) ≡ attribute 26 2 (length v + 2)
  unfolding found vendor_found
  other_back h e =
      rw (le-ltb (length v + 2) 2 (omega arith), le-ltb (length (v ++ rest) + 2) (length v + 2) (omega (arith, behind)), le-ltb (length v + 2) 7 (omega arith), take-append-le 4 v rest (omega arith), e)

  -- a 3GPP sub-attribute
  gpp_back :
      (s : ℕ) → length v ≤ 246
      → found (26 ∷ (length v + 8) ∷ octets_of 4 vendor3gpp ++ s ∷ (length v + 2) ∷ (v ++ rest)) ≡ attribute (gpp s) 8 (length v + 8)
  unfolding found vendor_found one_sub number_of octets_of
  gpp_back s h =
      rw (le-ltb (length v + 8) 2 (omega arith), le-ltb (suc (suc (suc (suc (suc (suc (length (v ++ rest))))))) + 2) (length v + 8) (omega (arith, behind)), le-ltb (length v + 8) 7 (omega arith), le-leb 2 (length v + 2) (omega arith), le-leb (length v + 2) 248 (omega arith), eq-eqb (length v + 2) (length v + 8 - 6) (omega arith))

-- The octets of a carried attribute, whatever follows, are found as that attribute.
pub carried_found :
    (n : ℕ) (v rest : List ℕ) → T (carries n v)
    → found (attribute_octets n v ++ rest) ≡ attribute n (head_length n) (length (attribute_octets n v))
unfolding attribute_octets octets_of head_length
carried_found n v rest c = go (is_plain n) refl
  where
    two : length v + 2 ≡ suc (suc (length v))
    two = omega arith

    eight : length v + 8 ≡ suc (suc (suc (suc (suc (suc (suc (suc (length v))))))))
    eight = omega arith

    plain :
        is_plain n ≡ true → (b : Bool) → eqb n 26 ≡ b
        → T (leb (length v) 253 && (not b || (leb 5 (length v) && not (eqb (number_of (take 4 v)) vendor3gpp))))
        → found (n ∷ (length v + 2) ∷ (v ++ rest)) ≡ attribute n 2 (length v + 2)
    plain p false e t = plain_back v rest n e
    plain p true e t =
        let q : n ≡ 26 = eqb-true n 26 e in
        let u : T (leb 5 (length v) && not (eqb (number_of (take 4 v)) vendor3gpp)) =
        (parts (leb (length v) 253) (leb 5 (length v) && not (eqb (number_of (take 4 v)) vendor3gpp)) t).1 in
        rw q
        (other_back v rest (leb→le 5 (length v) (parts (leb 5 (length v)) (not (eqb (number_of (take 4 v)) vendor3gpp)) u).0)
        (not-true (eqb (number_of (take 4 v)) vendor3gpp) (is_true (not (eqb (number_of (take 4 v)) vendor3gpp)) (parts (leb 5 (length v)) (not (eqb (number_of (take 4 v)) vendor3gpp)) u).1)))

    go :
        (b : Bool) → is_plain n ≡ b
        → found (octets_by b n v ++ rest) ≡ attribute n (cond b 2 8) (length (octets_by b n v))
    go true p = plain p (eqb n 26) refl (plain_lines n v p c) ∙ ap (attribute n 2) two
    go false p =
        let h : 256 ≤ n = ltb-false n 256 p in
        let e : gpp (n - 256) ≡ n = omega arith in
        gpp_back v rest (n - 256) (gpp_lines n v p c) ∙ rw (e, eight)

-- and its value is the attribute's value
pub carried_value :
    (n : ℕ) (v rest : List ℕ)
    → take (length (attribute_octets n v) - head_length n) (drop (head_length n) (attribute_octets n v ++ rest)) ≡ v
unfolding attribute_octets octets_of head_length
carried_value n v rest = go (is_plain n)
  where
    go : (b : Bool) → take (length (octets_by b n v) - cond b 2 8) (drop (cond b 2 8) (octets_by b n v ++ rest)) ≡ v
    go true = take_at v rest (suc (suc (length v)) - 2) (omega arith)
    go false = take_at v rest (suc (suc (suc (suc (suc (suc (suc (suc (length v)))))))) - 8) (omega arith)
