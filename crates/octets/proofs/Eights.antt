-- The octets of a number at once: what arithmetic on the number does to each of them, and numbers of halves. Assumes nothing.
use mathlib.Core.Path.{◌≡◌, refl, sym, ap, ap₂, ◌∙◌}
use mathlib.Core.Bool.{Bool, true, false, cond, ◌&&◌}
use mathlib.Core.List.{List, [], ◌∷◌, ◌++◌, map, append_assoc}
use Prim.Native.Nat.{ℕ, zero, suc, ◌+◌, ◌*◌, ◌-◌, ◌/◌, ◌%◌, ◌^◌, ◌<◌, ◌≤◌}
use native.Mathlib.Nat.{suc-mul, pow-suc, pow-succ', pow-le-pow_right, mul-suc, mul_assoc, mul_right_comm, add-mul, add_assoc, add-zero}
use native.Mathlib.Nat.{one-mul, mod-eq_of_lt, mul-div_cancel, mul-mod_left, div-le_self, lt_of_le_of_lt}
use native.Mathlib.Numerals.{unary_clauses}
use native.Mathlib.Omega.{arith}
use borrow.Author.Tests.{leb-true, leb-false, eq-eqb, ne_eqb}
use mir.Syntax.{w64}
use mir.Val.{Fits}
use lib.Arith.{digits_mod, digits_lt, mod-mul}
use lib.Bits.{bit_and, bit_or, bit_xor, and_block, or_block, xor_block, and_mask, and_high, and_zero_r, or_zero_l, and_le_l, and_le_r, xor_lt}
use lib.Bits.{or_add_and}
use lib.Dec.{T, eqb, leb}
use lib.ListN.{length, take, drop, replicate, replicate-append-replicate, length-replicate, length-append, length-map, length-drop}
use lib.ListN.{take-append-drop}
use lib.Pow.{pow-add, add-lt-pow, shl_exact, mod-mod-pow}
use lib.Seq.{length-take-le, drop-drop}
use Rattle.meaning.specs.Octets.{Octets, all, number_of, octets_of, pack}
use Rattle.meaning.proofs.Numbers.{number_fits, number_back, octets_octets, octets_back}
use Rattle.meaning.proofs.Packing.{Halves, pack_length, pack_octets}
use Rattle.meaning.proofs.Tests.{parts, passes, is_true}
use Rattle.meaning.specs.Answers.{over}
use Rattle.octets.specs.DigitStrings.{padded, turned_of, below_ten}
use Rattle.octets.proofs.Halves.{padded_length}

-- powers of a power
powers : (b k n : ℕ) → b ^ (k * n) ≡ (b ^ k) ^ n
powers b k zero = simp unary_clauses
powers b k (suc n) = ap (λ (i : ℕ). b ^ i) (mul-suc k n) ∙ pow-add b (k * n) k ∙ ap (λ (p : ℕ). p * b ^ k) (powers b k n) ∙ sym (pow-suc (b ^ k) n)

-- ---- Octet by octet

map_octets : (f : ℕ → ℕ) → ((x : ℕ) → x < 256 → f x < 256) → (l : List ℕ) → Octets l → Octets (map f l)
map_octets f h [] o = tt
map_octets f h (x ∷ l) o = (h x o.0, map_octets f h l o.1)

-- What takes no carry from one part of a number to the next is done to its octets, one by one.
module _ (op : ℕ → ℕ → ℕ) (none : op 0 0 ≡ 0)
    (block : (k a b r s : ℕ) → r < 2 ^ k → s < 2 ^ k → op (a * 2 ^ k + r) (b * 2 ^ k + s) ≡ op a b * 2 ^ k + op r s) where
  number_each : {A : Type 0} (f g : A → ℕ) (l : List A) → Octets (map f l) → Octets (map g l)
      → op (number_of (map f l)) (number_of (map g l)) ≡ number_of (map (λ x. op (f x) (g x)) l)
  unfolding number_of
  number_each f g [] o q = none
  number_each f g (x ∷ l) o q =
      let p : 256 ^ length l ≡ 2 ^ (8 * length l) = sym (powers 2 8 (length l)) in
      let a : number_of (map f l) < 2 ^ (8 * length l) = rw (length-map l f, p) at (number_fits (map f l) o.1) in
      let b : number_of (map g l) < 2 ^ (8 * length l) = rw (length-map l g, p) at (number_fits (map g l) q.1) in
      rw (length-map l f, length-map l g, length-map l (λ x. op (f x) (g x)), p) (block (8 * length l) (f x) (g x) _ _ a b ∙ ap (λ (r : ℕ). op (f x) (g x) * 2 ^ (8 * length l) + r) (number_each f g l o.1 q.1))

  -- two numbers of which each octet comes of the same octet
  octets_each : (f g : ℕ → ℕ) → ((x : ℕ) → x < 256 → f x < 256) → ((x : ℕ) → x < 256 → g x < 256) → (l : List ℕ) → Octets l
      → op (number_of (map f l)) (number_of (map g l)) ≡ number_of (map (λ x. op (f x) (g x)) l)
  octets_each f g hf hg l o = number_each f g l (map_octets f hf l o) (map_octets g hg l o)

-- So two bits of each of eight octets are turned.
pub eight_turned : (a : ℕ) → a < 256 ^ 8 → octets_of 8 (bit_xor a 0x3030303030303030) ≡ turned_of (octets_of 8 a)
unfolding number_of octets_of turned_of
eight_turned a h =
    let l : List ℕ = octets_of 8 a in
    let o : Octets l = octets_octets 8 a in
    let number : bit_xor a 0x3030303030303030 ≡ number_of (map (λ x. bit_xor x 48) l) =
    ap (λ (n : ℕ). bit_xor n 0x3030303030303030) (sym (number_back 8 a h)) ∙ octets_each bit_xor refl xor_block (λ x. x) (λ x. 48) (λ x k. k) (λ x k. omega arith) l o in
    ap (octets_of 8) number ∙ octets_back (map (λ x. bit_xor x 48) l) (map_octets (λ x. bit_xor x 48) (λ x k. xor_lt 8 x 48 k (omega arith)) l o)

-- ---- Eight octets are below 10

-- two numbers are 0 where all their bits together are
pub or_zero : (p q : ℕ) → bit_or p q ≡ 0 → (p ≡ 0) × (q ≡ 0)
or_zero p q e = (omega (arith, or_add_and p q, and_le_r p q), omega (arith, or_add_and p q, and_le_l p q))

some_not : (n : ℕ) → eqb (suc n) 0 ≡ false
some_not n = ne_eqb (suc n) 0 (λ e. omega arith)

pub or_none : (p q : ℕ) → eqb (bit_or p q) 0 ≡ eqb p 0 && eqb q 0
or_none zero q = ap (λ (n : ℕ). eqb n 0) (or_zero_l q)
or_none (suc p) q = rw (some_not p) (ne_eqb (bit_or (suc p) q) 0 (λ e. omega (arith, or_zero (suc p) q e)))

sum_none : (y q r : ℕ) → 0 < q → eqb (y * q + r) 0 ≡ eqb y 0 && eqb r 0
sum_none zero q r h = let e : 0 * q + r ≡ r = omega arith in rw e
sum_none (suc y) q r h = rw (some_not y) (ne_eqb (suc y * q + r) 0 (λ e. omega (arith, suc-mul y q)))

-- a number is 0 where each octet is, told by a test of what the octet comes of
number_none : (f : ℕ → ℕ) (p : ℕ → Bool) → ((x : ℕ) → x < 256 → eqb (f x) 0 ≡ p x) → (l : List ℕ) → Octets l
    → eqb (number_of (map f l)) 0 ≡ all p l
unfolding number_of
number_none f p is [] o = refl
number_none f p is (x ∷ l) o =
    sum_none (f x) (256 ^ length (map f l)) (number_of (map f l)) (pow-le-pow_right {n = 256} (omega arith) {i = 0} (omega arith))
    ∙ ap₂ ◌&&◌ (is x o.0) (number_none f p is l o.1)

-- what an octet is beyond 9: its high half, and that which it has with 6 more
abbrev excess : ℕ → ℕ
excess x = bit_or (bit_and x 240) (bit_and (bit_and x 15 + 6) 240)

excess_none : (x : ℕ) → x < 256 → eqb (excess x) 0 ≡ leb x 9
excess_none x h =
    go (bit_and x 240) (bit_and (bit_and x 15 + 6) 240) (leb x 9) (and_high x 4 4 ∙ omega arith) (and_high (bit_and x 15 + 6) 4 4 ∙ omega (arith, and_mask x 4)) refl
  where
    go : (p q : ℕ) (b : Bool) → p ≡ x / 16 * 16 → q ≡ (x % 16 + 6) / 16 * 16 → leb x 9 ≡ b → eqb (bit_or p q) 0 ≡ b
    go p q true high low e =
        let k : x ≤ 9 = leb-true x 9 e in
        eq-eqb (bit_or p q) 0 (omega (arith, or_add_and p q))
    go p q false high low e =
        let k : 9 < x = leb-false x 9 e in
        ne_eqb (bit_or p q) 0 (λ z. omega (arith, or_zero p q z))

-- a sum goes part by part
sum_block : (k a b r s : ℕ) → r < 2 ^ k → s < 2 ^ k → (a * 2 ^ k + r) + (b * 2 ^ k + s) ≡ (a + b) * 2 ^ k + (r + s)
sum_block k a b r s h g = rw (add-mul a b (2 ^ k)) (omega arith)

-- So eight octets are tested at once.
pub eight_below : (d : ℕ) → d < 256 ^ 8
    → eqb (bit_or (bit_and d 0xF0F0F0F0F0F0F0F0) (bit_and (bit_and d 0x0F0F0F0F0F0F0F0F + 0x0606060606060606) 0xF0F0F0F0F0F0F0F0)) 0
    ≡ below_ten (octets_of 8 d)
unfolding number_of octets_of
eight_below d h =
    let l : List ℕ = octets_of 8 d in
    let o : Octets l = octets_octets 8 d in
    let back : d ≡ number_of l = sym (number_back 8 d h) in
    let high : bit_and d 0xF0F0F0F0F0F0F0F0 ≡ number_of (map (λ x. bit_and x 240) l) =
    ap (λ (n : ℕ). bit_and n 0xF0F0F0F0F0F0F0F0) back ∙ octets_each bit_and refl and_block (λ x. x) (λ x. 240) (λ x k. k) (λ x k. omega arith) l o in
    let low : bit_and d 0x0F0F0F0F0F0F0F0F ≡ number_of (map (λ x. bit_and x 15) l) =
    ap (λ (n : ℕ). bit_and n 0x0F0F0F0F0F0F0F0F) back ∙ octets_each bit_and refl and_block (λ x. x) (λ x. 15) (λ x k. k) (λ x k. omega arith) l o in
    let more : bit_and d 0x0F0F0F0F0F0F0F0F + 0x0606060606060606 ≡ number_of (map (λ x. bit_and x 15 + 6) l) =
    ap (λ (n : ℕ). n + 0x0606060606060606) low ∙ octets_each ◌+◌ refl sum_block (λ x. bit_and x 15) (λ x. 6) (λ x k. omega (arith, and_le_r x 15)) (λ x k. omega arith) l o in
    let passed : bit_and (bit_and d 0x0F0F0F0F0F0F0F0F + 0x0606060606060606) 0xF0F0F0F0F0F0F0F0 ≡ number_of (map (λ x. bit_and (bit_and x 15 + 6) 240) l) =
    ap (λ (n : ℕ). bit_and n 0xF0F0F0F0F0F0F0F0) more ∙ octets_each bit_and refl and_block (λ x. bit_and x 15 + 6) (λ x. 240) (λ x k. omega (arith, and_le_r x 15)) (λ x k. omega arith) l o in
    ap (λ (n : ℕ). eqb n 0) (ap₂ bit_or high passed ∙ octets_each bit_or refl or_block (λ x. bit_and x 240) (λ x. bit_and (bit_and x 15 + 6) 240) (λ x k. omega (arith, and_le_r x 240)) (λ x k. omega (arith, and_le_r (bit_and x 15 + 6) 240)) l o)
    ∙ number_none excess (λ x. leb x 9) excess_none l o

-- ---- Eight halves, each in an octet, two to an octet

-- octets, each to be kept whole or made 0
abbrev mask : Bool × ℕ → ℕ
mask p = cond p.0 255 0

abbrev kept : Bool × ℕ → ℕ
kept p = cond p.0 p.1 0

mask_octets : (l : List (Bool × ℕ)) → Octets (map mask l)
mask_octets [] = tt
mask_octets ((true, x) ∷ l) = (omega arith, mask_octets l)
mask_octets ((false, x) ∷ l) = (omega arith, mask_octets l)

mask_kept : (l : List (Bool × ℕ)) → Octets (map (λ p. p.1) l) → map (λ p. bit_and p.1 (mask p)) l ≡ map kept l
mask_kept [] o = refl
mask_kept ((true, x) ∷ l) o = ap₂ (λ (y : ℕ) (m : List ℕ). y ∷ m) (and_mask x 8 ∙ mod-eq_of_lt o.0) (mask_kept l o.1)
mask_kept ((false, x) ∷ l) o = ap₂ (λ (y : ℕ) (m : List ℕ). y ∷ m) (and_zero_r x) (mask_kept l o.1)

number_kept : (l : List (Bool × ℕ)) (n : ℕ) → n ≡ number_of (map (λ p. p.1) l) → Octets (map (λ p. p.1) l)
    → bit_and n (number_of (map mask l)) ≡ number_of (map kept l)
number_kept l n e o =
    ap (λ (m : ℕ). bit_and m (number_of (map mask l))) e ∙ number_each bit_and refl and_block (λ p. p.1) mask l o (mask_octets l) ∙ ap number_of (mask_kept l o)

-- eight halves are put two to an octet
by_two : (a b c d e f g h x : ℕ) → Halves (a ∷ b ∷ c ∷ d ∷ e ∷ f ∷ g ∷ h ∷ []) → x ≡ number_of (a ∷ b ∷ c ∷ d ∷ e ∷ f ∷ g ∷ h ∷ [])
    → bit_and (x + x / 16) 0x00FF00FF00FF00FF ≡ number_of (0 ∷ (a * 16 + b) ∷ 0 ∷ (c * 16 + d) ∷ 0 ∷ (e * 16 + f) ∷ 0 ∷ (g * 16 + h) ∷ [])
unfolding number_of
by_two a b c d e f g h x (ha, (hb, (hc, (hd, (he, (hf, (hg, (hh, _)))))))) is =
    number_kept ((false, a) ∷ (true, a * 16 + b) ∷ (false, b * 16 + c) ∷ (true, c * 16 + d) ∷ (false, d * 16 + e) ∷ (true, e * 16 + f) ∷ (false, f * 16 + g) ∷ (true, g * 16 + h) ∷ []) (x + x / 16) (omega arith)
    (omega arith, (omega arith, (omega arith, (omega arith, (omega arith, (omega arith, (omega arith, (omega arith, tt))))))))

-- then four, and then all of them to one number
module _ (p q r t : ℕ) (o : Octets (p ∷ q ∷ r ∷ t ∷ [])) where
  by_four : (y : ℕ) → y ≡ number_of (0 ∷ p ∷ 0 ∷ q ∷ 0 ∷ r ∷ 0 ∷ t ∷ [])
      → bit_and (y + y / 256) 0x0000FFFF0000FFFF ≡ number_of (0 ∷ 0 ∷ p ∷ q ∷ 0 ∷ 0 ∷ r ∷ t ∷ [])
  unfolding number_of
  by_four y is =
      number_kept ((false, 0) ∷ (false, p) ∷ (true, p) ∷ (true, q) ∷ (false, q) ∷ (false, r) ∷ (true, r) ∷ (true, t) ∷ []) (y + y / 256) (omega (arith, o.1.1.1.0))
      (omega arith, (o.0, (o.0, (o.1.0, (o.1.0, (o.1.1.0, (o.1.1.0, (o.1.1.1.0, tt))))))))

  by_eight : (z : ℕ) → z ≡ number_of (0 ∷ 0 ∷ p ∷ q ∷ 0 ∷ 0 ∷ r ∷ t ∷ [])
      → bit_and (z + z / 65536) 0x00000000FFFFFFFF ≡ number_of (p ∷ q ∷ r ∷ t ∷ [])
  unfolding number_of
  by_eight z is =
      number_kept ((false, 0) ∷ (false, 0) ∷ (false, p) ∷ (false, q) ∷ (true, p) ∷ (true, q) ∷ (true, r) ∷ (true, t) ∷ []) (z + z / 65536) (omega (arith, o.1.1.0, o.1.1.1.0))
      (omega arith, (omega arith, (o.0, (o.1.0, (o.0, (o.1.0, (o.1.1.0, (o.1.1.1.0, tt)))))))) ∙ omega arith

-- each sum on the way has 64 bits
pub sum_fits : (d n : ℕ) → n < 2 ^ 63 → Fits w64 (n + n / d)
sum_fits d n h = record { fits = add-lt-pow 63 h (lt_of_le_of_lt (div-le_self n d) h) }

-- numbers below 10 are halves
below_halves : (l : List ℕ) → T (below_ten l) → Halves l
below_halves [] t = tt
below_halves (x ∷ l) t =
    let p = parts (leb x 9) (below_ten l) t in
    let k : x ≤ 9 = leb-true x 9 (is_true _ p.0) in
    (omega arith, below_halves l p.1)

-- So eight octets below 10 are put two to an octet.
module _ (x : ℕ) (h : x < 256 ^ 8) (below : below_ten (octets_of 8 x) ≡ true) where
  pub below_fits : x < 2 ^ 63
  unfolding octets_of
  below_fits = let k : Halves (octets_of 8 x) = below_halves (octets_of 8 x) (passes _ below) in omega (arith, k.0)

  pub in_four : (y z : ℕ) → y ≡ bit_and (x + x / 16) 0x00FF00FF00FF00FF → z ≡ bit_and (y + y / 256) 0x0000FFFF0000FFFF
      → bit_and (z + z / 65536) 0x00000000FFFFFFFF ≡ number_of (pack (octets_of 8 x))
  unfolding octets_of pack
  in_four y z ey ez =
      let k : Halves (octets_of 8 x) = below_halves (octets_of 8 x) (passes _ below) in
      let o : Octets (pack (octets_of 8 x)) = pack_octets (octets_of 8 x) k in
      by_eight _ _ _ _ o z (ez ∙ by_four _ _ _ _ o y (ey ∙ by_two _ _ _ _ _ _ _ _ x k (sym (number_back 8 x h))))

-- ---- Numbers in a base

-- the number that digits of a base stand for, the high one first
unfoldable pub value_in : (base : ℕ) → List ℕ → ℕ
value_in b [] = 0
value_in b (x ∷ l) = x * b ^ length l + value_in b l

pub number_in_lem : (l : List ℕ) → number_of l ≡ value_in 256 l
unfolding number_of value_in
number_in_lem [] = refl
number_in_lem (x ∷ l) = ap (λ (n : ℕ). x * 256 ^ length l + n) (number_in_lem l)

pub value_append : (b : ℕ) (k l : List ℕ) → value_in b (k ++ l) ≡ value_in b k * b ^ length l + value_in b l
unfolding value_in
value_append b [] l = omega arith
value_append b (x ∷ k) l =
    ap₂ (λ (p r : ℕ). x * p + r) (ap (λ (n : ℕ). b ^ n) (length-append k l) ∙ pow-add b (length k) (length l)) (value_append b k l)
    ∙ joined (b ^ length k) (b ^ length l) (value_in b k) (value_in b l)
  where
    joined : (p q v w : ℕ) → x * (p * q) + (v * q + w) ≡ (x * p + v) * q + w
    joined p q v w = rw (add-mul (x * p) v q, mul_assoc x p q) (omega arith)

-- halves stand for a number of their width
value_fits : (l : List ℕ) → Halves l → value_in 16 l < 16 ^ length l
unfolding value_in
value_fits [] h = omega arith
value_fits (x ∷ l) h = rw (pow-succ' 16 (length l)) (digits_lt h.0 (value_fits l h.1))

halves_take : (k : ℕ) (l : List ℕ) → Halves l → Halves (take k l)
halves_take zero l h = tt
halves_take (suc k) [] h = tt
halves_take (suc k) (x ∷ l) h = (h.0, halves_take k l h.1)

halves_drop : (k : ℕ) (l : List ℕ) → Halves l → Halves (drop k l)
halves_drop zero l h = h
halves_drop (suc k) [] h = tt
halves_drop (suc k) (x ∷ l) h = halves_drop k l h.1

-- the number of the last of them
value_end : (l : List ℕ) (i n : ℕ) → Halves l → length l ≡ i + n → value_in 16 l % 16 ^ n ≡ value_in 16 (drop i l)
value_end l i n h e =
    let size : length (drop i l) ≡ n = length-drop i l ∙ omega arith in
    ap (λ (m : List ℕ). value_in 16 m % 16 ^ n) (sym (take-append-drop i l))
    ∙ ap (λ (m : ℕ). m % 16 ^ n) (value_append 16 (take i l) (drop i l) ∙ ap (λ (k : ℕ). value_in 16 (take i l) * 16 ^ k + value_in 16 (drop i l)) size)
    ∙ digits_mod (value_in 16 (take i l)) (rw size at (value_fits (drop i l) (halves_drop i l h)))

-- an even count of halves, two to an octet
pub value_packed : (l : List ℕ) → length l % 2 ≡ 0 → number_of (pack l) ≡ value_in 16 l
unfolding number_of pack value_in
value_packed [] e = refl
value_packed (a ∷ []) e = absurd (omega arith)
value_packed (a ∷ b ∷ l) e =
    let half : length (pack l) ≡ length l / 2 = pack_length l ∙ omega arith in
    let whole : 2 * (length l / 2) ≡ length l = omega arith in
    let p : 256 ^ length (pack l) ≡ 16 ^ length l =
    ap (λ (n : ℕ). 256 ^ n) half ∙ sym (powers 16 2 (length l / 2)) ∙ ap (λ (n : ℕ). 16 ^ n) whole in
    rw (p, value_packed l (omega arith), pow-suc 16 (length l)) (joined (16 ^ length l) (value_in 16 l))
  where
    joined : (q w : ℕ) → (a * 16 + b) * q + w ≡ a * (q * 16) + (b * q + w)
    joined q w = rw (add-mul (a * 16) b q, mul_right_comm a 16 q, ← mul_assoc a q 16) (omega arith)

pub power_some : (n : ℕ) → 0 < 16 ^ n
power_some n = pow-le-pow_right {n = 16} (omega arith) {i = 0} {j = n} (omega arith)

-- fifteens fill their place
value_fifteens : (n : ℕ) → value_in 16 (replicate n 15) ≡ 16 ^ n - 1
unfolding value_in
value_fifteens zero = refl
value_fifteens (suc n) = rw (length-replicate {A = ℕ} n 15, value_fifteens n, pow-suc 16 n) (omega (arith, power_some n))

-- ---- Digits with 15s behind them

drop_replicate : (k n x : ℕ) → drop k (replicate n x) ≡ replicate (n - k) x
drop_replicate zero n x = let e : n ≡ n - 0 = omega arith in ap (λ (m : ℕ). replicate m x) e
drop_replicate (suc k) zero x = let e : 0 ≡ 0 - suc k = omega arith in ap (λ (m : ℕ). replicate m x) e
drop_replicate (suc k) (suc n) x = let e : n - k ≡ suc n - suc k = omega arith in drop_replicate k n x ∙ ap (λ (m : ℕ). replicate m x) e

-- beside an odd last half stands 15
pack_odd : (l : List ℕ) → length l % 2 ≡ 1 → pack l ≡ pack (l ++ (15 ∷ []))
unfolding pack
pack_odd [] e = absurd (omega arith)
pack_odd (a ∷ []) e = refl
pack_odd (a ∷ b ∷ l) e = ap (λ (m : List ℕ). (a * 16 + b) ∷ m) (pack_odd l (omega arith))

filled_append : (v : List ℕ) (r : ℕ) → length v + r ≡ 16 → 0 < r → padded 15 15 v ++ (15 ∷ []) ≡ v ++ replicate r 15
unfolding padded over
filled_append v r e some =
    let one : r - 1 + 1 ≡ r = omega arith in
    let rest : 15 - length v ≡ r - 1 = omega arith in
    ap (λ (d : List ℕ). (v ++ d) ++ (15 ∷ [])) (drop_replicate (length v) 15 15 ∙ ap (λ (n : ℕ). replicate n 15) rest)
    ∙ append_assoc v (replicate (r - 1) 15) (15 ∷ []) ∙ ap (λ (d : List ℕ). v ++ d) (replicate-append-replicate {A = ℕ} (r - 1) 1 15 ∙ ap (λ (n : ℕ). replicate n 15) one)

pub value_filled : (v : List ℕ) (r : ℕ) → length v + r ≡ 16 → 0 < r
    → number_of (pack (padded 15 15 v)) ≡ value_in 16 v * 16 ^ r + (16 ^ r - 1)
value_filled v r e some =
    let size : length (padded 15 15 v) ≡ 15 = padded_length v 15 (omega arith) in
    let even : length (padded 15 15 v ++ (15 ∷ [])) % 2 ≡ 0 = omega (arith, length-append (padded 15 15 v) (15 ∷ [])) in
    ap number_of (pack_odd (padded 15 15 v) (omega arith)) ∙ value_packed (padded 15 15 v ++ (15 ∷ [])) even ∙ ap (value_in 16) (filled_append v r e some) ∙ value_append 16 v (replicate r 15)
    ∙ ap₂ (λ (n w : ℕ). value_in 16 v * 16 ^ n + w) (length-replicate {A = ℕ} r 15) (value_fifteens r)

-- Of j and q digits, the first j and the last j make the number, with 15s behind it.
value_ends : (v : List ℕ) (j q r : ℕ) → Halves v → length v ≡ j + q → q + r ≡ j
    → value_in 16 v * 16 ^ r ≡ value_in 16 (take j v) * 16 ^ j + value_in 16 (drop q v) * 16 ^ r % 16 ^ j
value_ends v j q r h e s =
    let size : length (drop j v) ≡ q = length-drop j v ∙ omega arith in
    let end : value_in 16 (drop q v) % 16 ^ q ≡ value_in 16 (drop j v) =
    value_end (drop q v) r q (halves_drop q v h) (length-drop q v ∙ omega arith) ∙ ap (value_in 16) (drop-drop r q v ∙ ap (λ (n : ℕ). drop n v) s) in
    let whole : value_in 16 v ≡ value_in 16 (take j v) * 16 ^ q + value_in 16 (drop q v) % 16 ^ q =
    ap (value_in 16) (sym (take-append-drop j v)) ∙ value_append 16 (take j v) (drop j v) ∙ ap₂ (λ (n w : ℕ). value_in 16 (take j v) * 16 ^ n + w) size (sym end) in
    let power : 16 ^ j ≡ 16 ^ q * 16 ^ r = ap (λ (n : ℕ). 16 ^ n) (sym s) ∙ pow-add 16 q r in
    let b : ℕ = value_in 16 (drop q v) in
    let shifted : b * 16 ^ r % 16 ^ j ≡ b % 16 ^ q * 16 ^ r =
    ap (λ (p : ℕ). b * 16 ^ r % p) power ∙ mod-mul (b * 16 ^ r) (power_some q) (power_some r)
    ∙ ap₂ (λ (d m : ℕ). d % 16 ^ q * 16 ^ r + m) (mul-div_cancel b (power_some r)) (mul-mod_left b (16 ^ r)) ∙ add-zero (b % 16 ^ q * 16 ^ r) in
    ap (λ (n : ℕ). n * 16 ^ r) whole ∙ add-mul (value_in 16 (take j v) * 16 ^ q) (b % 16 ^ q) (16 ^ r)
    ∙ ap₂ (λ (x y : ℕ). x + y) (mul_assoc (value_in 16 (take j v)) (16 ^ q) (16 ^ r) ∙ ap (λ (p : ℕ). value_in 16 (take j v) * p) (sym power)) (sym shifted)

-- ---- Shifts, in a number of 64 bits

one_shifted : (k : ℕ) → k ≤ 8 → 1 * 2 ^ (4 * k) % 18446744073709551616 ≡ 16 ^ k
one_shifted k h = shl_exact {a = 1} 1 (4 * k) 64 (omega arith) (omega arith) ∙ one-mul (2 ^ (4 * k)) ∙ powers 2 4 k

long_shifted : (a b k : ℕ) → a < 16 ^ 8 → k ≤ 8
    → a * 4294967296 % 18446744073709551616
    + (b * 2 ^ (4 * k) % 18446744073709551616 % 4294967296 + (1 * 2 ^ (4 * k) % 18446744073709551616 - 1))
    ≡ a * 16 ^ 8 + (b * 16 ^ k % 16 ^ 8 + (16 ^ k - 1))
long_shifted a b k ha h =
    ap₂ (λ (x y : ℕ). x + y) (shl_exact 32 32 64 ha (omega arith))
    (ap₂ (λ (x y : ℕ). x + (y - 1)) (mod-mod-pow (b * 2 ^ (4 * k)) 32 32 ∙ ap (λ (p : ℕ). b * p % 4294967296) (powers 2 4 k)) (one_shifted k h))

short_shifted : (a b k : ℕ) → a < 16 ^ 4 → b < 16 ^ 4 → k ≤ 4
    → (a * 65536 + b) / 65536 * 281474976710656 % 18446744073709551616
    + (((a * 65536 + b) * 2 ^ (4 * k) % 18446744073709551616 % 65536 + (1 * 2 ^ (4 * k) % 18446744073709551616 - 1))
    * 4294967296 % 18446744073709551616 + 4294967295)
    ≡ (a * 16 ^ 4 + (b * 16 ^ k % 16 ^ 4 + (16 ^ k - 1))) * 16 ^ 8 + (16 ^ 8 - 1)
short_shifted a b k ha hb h =
    let low : (a * 65536 + b) * 2 ^ (4 * k) % 18446744073709551616 % 65536 ≡ b * 16 ^ k % 65536 =
    mod-mod-pow ((a * 65536 + b) * 2 ^ (4 * k)) 48 16 ∙ ap (λ (p : ℕ). (a * 65536 + b) * p % 65536) (powers 2 4 k)
    ∙ rw (add-mul (a * 65536) b (16 ^ k), mul_right_comm a 65536 (16 ^ k)) (omega arith) in
    let small : 16 ^ k ≤ 16 ^ 4 = pow-le-pow_right {n = 16} (omega arith) h in
    rw (low, one_shifted k (omega arith)) (omega arith)

-- ---- The first and the last of a text's digits

module _ (v : List ℕ) (h : Halves v) where
  -- the first eight of 8 to 15, and the last eight
  pub long_filled : (a b k : ℕ) → 8 ≤ length v → length v ≤ 15 → length v + k ≡ 16 → a ≡ value_in 16 (take 8 v)
      → b ≡ value_in 16 (drop (length v - 8) v)
      → a * 4294967296 % 18446744073709551616
      + (b * 2 ^ (4 * k) % 18446744073709551616 % 4294967296 + (1 * 2 ^ (4 * k) % 18446744073709551616 - 1))
      ≡ number_of (pack (padded 15 15 v))
  long_filled a b k some few e ea eb =
      let size : length (take 8 v) ≡ 8 = length-take-le 8 v some in
      let below : a < 16 ^ 8 = rw ea (rw size at (value_fits (take 8 v) (halves_take 8 v h))) in
      long_shifted a b k below (omega arith)
      ∙ ap₂ (λ (x y : ℕ). x * 16 ^ 8 + (y * 16 ^ k % 16 ^ 8 + (16 ^ k - 1))) ea eb
      ∙ sym (add_assoc (value_in 16 (take 8 v) * 16 ^ 8) _ (16 ^ k - 1))
      ∙ ap (λ (x : ℕ). x + (16 ^ k - 1)) (sym (value_ends v 8 (length v - 8) k h (omega arith) (omega arith)))
      ∙ sym (value_filled v k e (omega arith))

  -- the first four of 4 to 7, and the last four
  pub short_filled : (a b x k : ℕ) → 4 ≤ length v → length v ≤ 7 → length v + k ≡ 8 → a ≡ value_in 16 (take 4 v)
      → b ≡ value_in 16 (drop (length v - 4) v) → x ≡ a * 65536 + b
      → x / 65536 * 281474976710656 % 18446744073709551616
      + ((x * 2 ^ (4 * k) % 18446744073709551616 % 65536 + (1 * 2 ^ (4 * k) % 18446744073709551616 - 1))
      * 4294967296 % 18446744073709551616 + 4294967295)
      ≡ number_of (pack (padded 15 15 v))
  short_filled a b x k some few e ea eb ex =
      let n : ℕ = length v - 4 in
      let size : length (take 4 v) ≡ 4 = length-take-le 4 v some in
      let last : length (drop n v) ≡ 4 = length-drop n v ∙ omega arith in
      let below : a < 16 ^ 4 = rw ea (rw size at (value_fits (take 4 v) (halves_take 4 v h))) in
      let under : b < 16 ^ 4 = rw eb (rw last at (value_fits (drop n v) (halves_drop n v h))) in
      let ends : value_in 16 v * 16 ^ k ≡ a * 16 ^ 4 + b * 16 ^ k % 16 ^ 4 =
      value_ends v 4 n k h (omega arith) (omega arith) ∙ ap₂ (λ (y z : ℕ). y * 16 ^ 4 + z * 16 ^ k % 16 ^ 4) (sym ea) (sym eb) in
      let more : value_in 16 v * 16 ^ (k + 8) + (16 ^ (k + 8) - 1) ≡ (a * 16 ^ 4 + (b * 16 ^ k % 16 ^ 4 + (16 ^ k - 1))) * 16 ^ 8 + (16 ^ 8 - 1) =
      rw (pow-add 16 k 8, ← mul_assoc (value_in 16 v) (16 ^ k) (16 ^ 8)) (omega (arith, power_some k)) in
      rw ex (short_shifted a b k below under (omega arith) ∙ sym (value_filled v (k + 8) (omega arith) (omega arith) ∙ more))
