-- Digits gathered in one number, eight octets with 15s behind the digits: two at a time from the end of a text, or eight at a time.
-- Assumes nothing.
use mathlib.Core.Path.{◌≡◌, refl, sym, ap, ap₂, ◌∙◌}
use mathlib.Core.Bool.{Bool, true, false, ◌&&◌, and-false}
use mathlib.Core.List.{List, [], ◌∷◌, ◌++◌, map-append, reverse, reverse-cons}
use Prim.Native.Nat.{ℕ, zero, suc, ◌+◌, ◌*◌, ◌-◌, ◌/◌, ◌%◌, ◌^◌, ◌<◌, ◌≤◌}
use native.Mathlib.Nat.{pow-le-pow_right, pow-suc, mul_assoc, add-mul}
use Rattle.std.proofs.Common.{pow-add}
use native.Mathlib.Omega.{arith}
use borrow.Author.Tests.{leb-true, leb-false, le-leb, lt-leb}
use lib.Bits.{bit_or, bit_xor, and_high, xor_add_and}
use lib.Dec.{T, eqb, leb}
use lib.ListN.{length, take, drop, length-append}
use Rattle.std.specs.List.{fold}
use Rattle.std.proofs.lemmas.List.Sums.{fold-append}
use Rattle.meaning.specs.Octets.{Octets, all, number_of, octets_of, pack, packed_length, unpack, is_digit, digit_value, values}
use Rattle.meaning.specs.Answers.{over}
use Rattle.meaning.proofs.Octets.{octets_append}
use Rattle.meaning.proofs.Numbers.{number_fits, octets_back}
use Rattle.meaning.proofs.Packing.{Halves, pack_length, pack_octets, unpack_pack, values_length, values_halves, digits_hexes}
use Rattle.meaning.proofs.Tests.{both, parts, passes, is_true}
use Rattle.octets.specs.declared.Digits.{Digits}
use Rattle.octets.specs.Parts.{part_of}
use Rattle.octets.specs.DigitStrings.{padded, digits_of, gathered_of, got_of, turned_of, below_ten}
use Rattle.octets.proofs.Parts.{part_within, part_rest, part_octets}
use Rattle.octets.proofs.EachOne.{same_test, all_append, all_covered}
use Rattle.octets.proofs.Halves.{padded_length, padded_halves}
use Rattle.octets.proofs.DigitStrings.{got_long, got_other, got_whole}
use Rattle.octets.proofs.Eights.{or_none, value_in, number_in_lem, value_append, value_packed, value_filled, power_some, long_filled, short_filled}

-- ---- What a text gives

module _ (l : List ℕ) where
  gathered_digits : length l ≤ 15 → all is_digit l ≡ true → gathered_of l ≡ number_of (pack (padded 15 15 (values l)))
  unfolding gathered_of
  gathered_digits few e = simp (le-leb (length l) 15 few, e)

  -- 0 of a text that has another octet, or is too long
  pub gathered_other : all is_digit l ≡ false → gathered_of l ≡ 0
  unfolding gathered_of
  gathered_other e = simp (e, and-false)

  pub gathered_long : 15 < length l → gathered_of l ≡ 0
  unfolding gathered_of
  gathered_long h = simp (lt-leb (length l) 15 h)

-- ---- One at a time from the end

digit_bounds : (x : ℕ) → T (is_digit x) → (48 ≤ x) × (x ≤ 57)
digit_bounds x t = let p = parts (leb 48 x) (leb x 57) t in (leb-true 48 x (is_true _ p.0), leb-true x 57 (is_true _ p.1))

-- a decimal digit's low half is what it stands for
digit_half : (x : ℕ) → T (is_digit x) → x % 16 ≡ digit_value x
digit_half x t = let b = digit_bounds x t in rw (le-leb x 57 b.1) (omega arith)

-- a digit's half put before those of the digits l
put_plain : (d w q k : ℕ) → 0 < q → (w * 16 + (q * 16 - 1)) / 16 + k ≡ k + w + (q - 1)
put_plain d w q k some = omega arith

put_number : (d v p q : ℕ) → 0 < q → p * q ≡ 1152921504606846976
    → (v * (q * 16) + (q * 16 - 1)) / 16 + d * 1152921504606846976 ≡ (d * p + v) * q + (q - 1)
put_number d v p q some e =
    rw (← mul_assoc v q 16, add-mul (d * p) v q, mul_assoc d p q, e) (put_plain d (v * q) q (d * 1152921504606846976) some)

put_digit : (x : ℕ) (l : List ℕ) → length l ≤ 14 → T (is_digit x)
    → number_of (pack (padded 15 15 (values l))) / 16 + x % 16 * 1152921504606846976 ≡ number_of (pack (padded 15 15 (values (x ∷ l))))
unfolding values value_in
put_digit x l few t =
    let size = values_length l in
    let r : ℕ = 15 - length l in
    let power : 16 ^ length (values l) * 16 ^ r ≡ 1152921504606846976 =
    sym (pow-add 16 (length (values l)) r) ∙ ap (λ (n : ℕ). 16 ^ n) {y = 15} (omega (arith, size)) in
    rw (digit_half x t, value_filled (values l) (suc r) (omega (arith, size)) (omega arith), value_filled (values (x ∷ l)) r (omega (arith, size)) (omega arith), pow-suc 16 r)
    (put_number (digit_value x) (value_in 16 (values l)) (16 ^ length (values l)) (16 ^ r) (power_some r) power)

-- So all that are put are gathered.
put_all : (l : List ℕ) → length l ≤ 15 → T (all is_digit l)
    → fold (λ p x. p / 16 + x % 16 * 1152921504606846976) 18446744073709551615 (reverse l) ≡ number_of (pack (padded 15 15 (values l)))
unfolding values padded over pack number_of
put_all [] few t = refl
put_all (x ∷ l) few t =
    let p = parts (is_digit x) (all is_digit l) t in
    ap (fold (λ p y. p / 16 + y % 16 * 1152921504606846976) 18446744073709551615) (reverse-cons x l)
    ∙ fold-append (λ p y. p / 16 + y % 16 * 1152921504606846976) 18446744073709551615 (reverse l) (x ∷ [])
    ∙ ap (λ (n : ℕ). n / 16 + x % 16 * 1152921504606846976) (put_all l (omega arith) p.1)
    ∙ put_digit x l (omega arith) p.0

pub gathered_put : (l : List ℕ) → length l ≤ 3 → all is_digit l ≡ true
    → fold (λ p x. p / 16 + x % 16 * 1152921504606846976) 18446744073709551615 (reverse l) ≡ gathered_of l
gathered_put l few e = put_all l (omega arith) (passes _ e) ∙ sym (gathered_digits l (omega arith) e)

-- ---- Eight at a time

-- an octet with two bits turned, as a sum
turned_is : (x : ℕ) → bit_xor x 48 + x / 16 % 4 * 32 ≡ x + 48
turned_is x = omega (arith, xor_add_and x 48, and_high x 2 4)

-- it is below 10 where the octet is a digit
turned_test : (x : ℕ) → leb (bit_xor x 48) 9 ≡ is_digit x
turned_test x =
    same_test (leb (bit_xor x 48) 9) (is_digit x)
    (λ t.
    let k : bit_xor x 48 ≤ 9 = leb-true _ 9 (is_true _ t) in
    both (leb 48 x) (leb x 57) (passes _ (le-leb 48 x (omega (arith, turned_is x)))) (passes _ (le-leb x 57 (omega (arith, turned_is x)))))
    (λ t. passes _ (le-leb (bit_xor x 48) 9 (omega (arith, digit_bounds x t, turned_is x))))

pub digits_turned : (l : List ℕ) → below_ten (turned_of l) ≡ all is_digit l
unfolding turned_of
digits_turned [] = refl
digits_turned (x ∷ l) = ap₂ ◌&&◌ (turned_test x) (digits_turned l)

-- and then it is what the digit stands for
values_turned : (l : List ℕ) → T (all is_digit l) → turned_of l ≡ values l
unfolding turned_of values
values_turned [] t = refl
values_turned (x ∷ l) t =
    let p = parts (is_digit x) (all is_digit l) t in
    let low : bit_xor x 48 ≡ x % 16 = omega (arith, digit_bounds x p.0, turned_is x) in
    ap₂ (λ (y : ℕ) (m : List ℕ). y ∷ m) (low ∙ digit_half x p.0) (values_turned l p.1)

values_take : (k : ℕ) (l : List ℕ) → values (take k l) ≡ take k (values l)
unfolding values
values_take zero l = refl
values_take (suc k) [] = refl
values_take (suc k) (x ∷ l) = ap (λ (m : List ℕ). digit_value x ∷ m) (values_take k l)

values_drop : (k : ℕ) (l : List ℕ) → values (drop k l) ≡ drop k (values l)
unfolding values
values_drop zero l = refl
values_drop (suc k) [] = refl
values_drop (suc k) (x ∷ l) = values_drop k l

-- eight digits, two to an octet
eight_value : (l : List ℕ) (d x : ℕ) → length l ≡ 8 → T (all is_digit l) → octets_of 8 d ≡ turned_of l → x ≡ number_of (pack (octets_of 8 d))
    → x ≡ value_in 16 (values l)
eight_value l d x e t o h = h ∙ ap (λ (m : List ℕ). number_of (pack m)) (o ∙ values_turned l t) ∙ value_packed (values l) (omega (arith, values_length l))

module _ (text : List ℕ) where
  whole_halves : all is_digit text ≡ true → Halves (values text)
  whole_halves e = values_halves text (digits_hexes text (passes _ e))

  -- the first and the last of a text cover it
  ends_test : (n : ℕ) → n ≤ length text → length text ≤ n + n
      → all is_digit (part_of text 0 n) && all is_digit (part_of text (length text - n) n) ≡ all is_digit text
  unfolding part_of
  ends_test n some few =
      ap (λ (l : List ℕ). all is_digit (take n text) && all is_digit l) (part_rest text (length text - n) n (omega arith))
      ∙ all_covered is_digit text (length text - n) n (omega arith)

  first_value : (n : ℕ) → value_in 16 (values (part_of text 0 n)) ≡ value_in 16 (take n (values text))
  unfolding part_of
  first_value n = ap (value_in 16) (values_take n text)

  last_value : (n : ℕ) → n ≤ length text
      → value_in 16 (values (part_of text (length text - n) n)) ≡ value_in 16 (drop (length (values text) - n) (values text))
  last_value n h =
      ap (λ (l : List ℕ). value_in 16 (values l)) (part_rest text (length text - n) n (omega arith))
      ∙ ap (value_in 16) (values_drop (length text - n) text ∙ ap (λ (m : ℕ). drop (m - n) (values text)) (sym (values_length text)))

  -- 8 to 15 digits
  module _ (a b : ℕ) (some : 8 ≤ length text) (few : length text ≤ 15) (ea : octets_of 8 a ≡ turned_of (part_of text 0 8))
      (eb : octets_of 8 b ≡ turned_of (part_of text (length text - 8) 8)) where
    pub long_test : (p q : ℕ) → eqb p 0 ≡ below_ten (octets_of 8 a) → eqb q 0 ≡ below_ten (octets_of 8 b) → eqb (bit_or p q) 0 ≡ all is_digit text
    long_test p q ep eq =
        or_none p q ∙ ap₂ ◌&&◌ (ep ∙ ap below_ten ea ∙ digits_turned (part_of text 0 8)) (eq ∙ ap below_ten eb ∙ digits_turned (part_of text (length text - 8) 8)) ∙ ends_test 8 some (omega arith)

    pub long_gathered : all is_digit text ≡ true → (x y : ℕ) → x ≡ number_of (pack (octets_of 8 a)) → y ≡ number_of (pack (octets_of 8 b))
        → x * 4294967296 % 18446744073709551616
        + (y * 2 ^ (4 * (16 - length text)) % 18446744073709551616 % 4294967296
        + (1 * 2 ^ (4 * (16 - length text)) % 18446744073709551616 - 1))
        ≡ gathered_of text
    long_gathered e x y ex ey =
        let t = parts (all is_digit (part_of text 0 8)) (all is_digit (part_of text (length text - 8) 8)) (passes _ (ends_test 8 some (omega arith) ∙ e)) in
        let n = values_length text in
        let first : x ≡ value_in 16 (take 8 (values text)) =
        eight_value (part_of text 0 8) a x (part_within text 0 8 (omega arith)) t.0 ea ex ∙ first_value 8 in
        let last : y ≡ value_in 16 (drop (length (values text) - 8) (values text)) = eight_value (part_of text (length text - 8) 8) b y (part_within text (length text - 8) 8 (omega arith)) t.1 eb ey ∙ last_value 8 some in
        long_filled (values text) (whole_halves e) x y (16 - length text) (omega arith) (omega arith) (omega arith) first last
        ∙ sym (gathered_digits text few e)

  -- 4 to 7 digits
  module _ (a b d : ℕ) (o : Octets text) (some : 4 ≤ length text) (few : length text ≤ 7) (ea : a ≡ number_of (part_of text 0 4))
      (eb : b ≡ number_of (part_of text (length text - 4) 4)) (ed : octets_of 8 d ≡ turned_of (octets_of 8 (a * 4294967296 + b))) where
    last_four : length (part_of text (length text - 4) 4) ≡ 4
    last_four = part_within text (length text - 4) 4 (omega arith)

    both_fours : length (part_of text 0 4 ++ part_of text (length text - 4) 4) ≡ 8
    both_fours = length-append (part_of text 0 4) (part_of text (length text - 4) 4) ∙ ap₂ (λ (x y : ℕ). x + y) (part_within text 0 4 (omega arith)) last_four

    fours_turned : octets_of 8 d ≡ turned_of (part_of text 0 4 ++ part_of text (length text - 4) 4)
    fours_turned =
        let k : List ℕ = part_of text 0 4 in
        let l : List ℕ = part_of text (length text - 4) 4 in
        let number : number_of (k ++ l) ≡ a * 4294967296 + b =
        number_in_lem (k ++ l) ∙ value_append 256 k l ∙ ap (λ (m : ℕ). value_in 256 k * 256 ^ m + value_in 256 l) last_four
        ∙ ap₂ (λ (x y : ℕ). x * 4294967296 + y) (sym (ea ∙ number_in_lem k)) (sym (eb ∙ number_in_lem l)) in
        ed ∙ ap (λ (n : ℕ). turned_of (octets_of 8 n)) (sym number)
        ∙ ap turned_of (rw both_fours at (octets_back (k ++ l) (octets_append k l (part_octets text 0 4 o) (part_octets text (length text - 4) 4 o))))

    pub short_test : below_ten (octets_of 8 d) ≡ all is_digit text
    short_test = ap below_ten fours_turned ∙ digits_turned (part_of text 0 4 ++ part_of text (length text - 4) 4) ∙ all_append is_digit (part_of text 0 4) (part_of text (length text - 4) 4) ∙ ends_test 4 some (omega arith)

    pub short_gathered : all is_digit text ≡ true → (x : ℕ) → x ≡ number_of (pack (octets_of 8 d))
        → x / 65536 * 281474976710656 % 18446744073709551616
        + ((x * 2 ^ (4 * (8 - length text)) % 18446744073709551616 % 65536 + (1 * 2 ^ (4 * (8 - length text)) % 18446744073709551616 - 1))
        * 4294967296 % 18446744073709551616 + 4294967295)
        ≡ gathered_of text
    unfolding values
    short_gathered e x ex =
        let k : List ℕ = part_of text 0 4 in
        let l : List ℕ = part_of text (length text - 4) 4 in
        let m = values_length text in
        let digits : all is_digit (k ++ l) ≡ true = all_append is_digit k l ∙ ends_test 4 some (omega arith) ∙ e in
        let number : x ≡ value_in 16 (values k) * 65536 + value_in 16 (values l) =
        eight_value (k ++ l) d x both_fours (passes _ digits) fours_turned ex
        ∙ ap (value_in 16) (map-append digit_value k l) ∙ value_append 16 (values k) (values l) ∙ ap (λ (z : ℕ). value_in 16 (values k) * 16 ^ z + value_in 16 (values l)) (values_length l ∙ last_four) in
        short_filled (values text) (whole_halves e) (value_in 16 (values k)) (value_in 16 (values l)) x (8 - length text) (omega arith) (omega arith) (omega arith) (first_value 4) (last_value 4 some) number
        ∙ sym (gathered_digits text (omega arith) e)

-- ---- What is got

module _ (l : List ℕ) (few : length l ≤ 15) where
  digits_wide : length (padded 15 15 (values l)) ≡ 15
  digits_wide = padded_length (values l) 15 (omega (arith, values_length l))

  digits_eight : length (pack (padded 15 15 (values l))) ≡ 8
  digits_eight = pack_length (padded 15 15 (values l)) ∙ ap packed_length digits_wide

  module _ (e : all is_digit l ≡ true) where
    digits_halves : Halves (padded 15 15 (values l))
    digits_halves = padded_halves (values l) 15 (omega (arith, values_length l)) (whole_halves l e)

    -- what is gathered has 64 bits, and is not 0
    pub gathered_fits : gathered_of l < 18446744073709551616
    gathered_fits = rw (gathered_digits l few e) (rw digits_eight at (number_fits (pack (padded 15 15 (values l))) (pack_octets (padded 15 15 (values l)) digits_halves)))

    gathered_some : 0 < gathered_of l
    gathered_some =
        let r : ℕ = 16 - length l in
        let p : 16 ^ 1 ≤ 16 ^ r = pow-le-pow_right {n = 16} (omega arith) {i = 1} {j = r} (omega arith) in
        rw (gathered_digits l few e, value_filled (values l) r (omega (arith, values_length l)) (omega arith)) (omega arith)

    digits_back : octets_of 8 (gathered_of l) ≡ pack (padded 15 15 (values l))
    digits_back = ap (octets_of 8) (gathered_digits l few e) ∙ rw digits_eight at (octets_back (pack (padded 15 15 (values l))) (pack_octets (padded 15 15 (values l)) digits_halves))

    spread_back : unpack 15 (octets_of 8 (gathered_of l)) ≡ padded 15 15 (values l)
    spread_back = ap (unpack 15) digits_back ∙ rw digits_wide at (unpack_pack (padded 15 15 (values l)) digits_halves)

-- where nothing is gathered, nothing is got
pub got_nothing : (l : List ℕ) (p : ℕ) → p ≡ gathered_of l → p ≡ 0 → got_of l ≡ digits_of []
got_nothing l p e z = go (leb (length l) 15) (all is_digit l) refl refl
  where
    go : (a b : Bool) → leb (length l) 15 ≡ a → all is_digit l ≡ b → got_of l ≡ digits_of []
    go false b f g = got_long l (leb-false (length l) 15 f)
    go true false f g = got_other l g
    go true true f g =
        let few : length l ≤ 15 = leb-true (length l) 15 f in
        absurd (omega (arith, gathered_some l few g))

-- What is gathered, spread again, is what is got.
pub got_gathered : (l : List ℕ) (p : ℕ) → p ≡ gathered_of l → (p ≡ 0 → ⊥) → {d : Digits} → d.octets ≡ unpack 15 (octets_of 8 p)
    → d.len ≡ length l → d ≡ got_of l
unfolding digits_of
got_gathered l p e some {d} oe le = go (leb (length l) 15) (all is_digit l) refl refl
  where
    go : (a b : Bool) → leb (length l) 15 ≡ a → all is_digit l ≡ b → d ≡ got_of l
    go false b f g = absurd (some (e ∙ gathered_long l (leb-false (length l) 15 f)))
    go true false f g = absurd (some (e ∙ gathered_other l g))
    go true true f g =
        let few : length l ≤ 15 = leb-true (length l) 15 f in
        let o : d.octets ≡ padded 15 15 (values l) = oe ∙ ap (λ (n : ℕ). unpack 15 (octets_of 8 n)) e ∙ spread_back l few g in
        let n : d.len ≡ length (values l) = le ∙ sym (values_length l) in
        (λ k. record { octets = o k; len = n k }) ∙ sym (got_whole l few (passes _ g))
