-- Lines and their pieces, laid over the start of a buffer. Assumes nothing.
use mathlib.Core.Path.{◌≡◌, refl, sym, ap, subst, ◌∙◌}
use mathlib.Core.Bool.{Bool, true, false, cond}
use mathlib.Core.List.{List, [], ◌∷◌, ◌++◌, append_assoc}
use Prim.Native.Nat.{ℕ, zero, suc, ◌+◌, ◌*◌, ◌-◌, ◌<◌, ◌≤◌, min}
use native.Mathlib.Omega.{arith}
use borrow.Author.Tests.{leb-false}
use lib.ListN.{length, take, drop, length-append, length-take}
use lib.Seq.{take_at, drop-drop, length-take-le, take-append-add, take-append-le, drop-append_seam}
use Rattle.meaning.specs.Octets.{unpack, text}
use Rattle.meaning.specs.Answers.{over, Written}
use Rattle.octets.specs.Parts.{part_of, fits_at, laid_at, Laid}
use Rattle.octets.specs.DigitStrings.{padded}
use Rattle.octets.proofs.Overs.{laid_two, laid_first, laid_none, laid_fits, fits_room, over_length}
use Rattle.octets.proofs.Unpacking.{unpacked_length}
use Rattle.lines.specs.declared.Text.{Text}
use Rattle.lines.specs.Lines.{decimal, space, line_feed, entry_digits, entry_with, entries_with, StartLaid, text_of, followed, refusal_line}
use Rattle.lines.proofs.Spelling.{decimal_length}
use Rattle.lines.proofs.Pieces.{then}
use Rattle.lines.proofs.Listing.{start_laid, start_not_laid, digits_length, entry_length, entries_length, take_least}
use Rattle.printing.specs.Printed.{not_judged, refusal_told, hex_line, list_line, kind_flags, area_line, open_line, area_octets}

-- ---- Octets

fits_not : (s d : List ℕ) → fits_at 0 s d ≡ false → length d < length s
unfolding fits_at
fits_not s d e = omega (arith, leb-false (0 + length s) (length d) e)

pub put_there : (s d held : List ℕ) (said : Bool) → Laid 0 s d said held → said ≡ true → StartLaid s d (length s) held
put_there s d held said l e =
    record { says = sym (ap (λ (b : Bool). cond b (length s) 0) (sym l.says ∙ e)); holds = l.holds }

pub put_not : (s d held : List ℕ) (said : Bool) → Laid 0 s d said held → said ≡ false → StartLaid s d 0 held
put_not s d held said l e =
    record { says = sym (ap (λ (b : Bool). cond b (length s) 0) (sym l.says ∙ e)); holds = l.holds }

-- what is laid, by another name
pub start_as : (s t d held : List ℕ) (said : ℕ) → s ≡ t → StartLaid s d said held → StartLaid t d said held
start_as s t d held said e p = subst (λ (x : List ℕ). StartLaid x d said held) e p

-- ---- Texts

pub text_shown : (t : Text) (l : List ℕ) → t ≡ text_of l → part_of t.octets 0 t.len ≡ l
unfolding text_of padded part_of over
text_shown t l e =
    ap (λ (x : Text). take x.len x.octets) e ∙ take_at l _ (length l) refl

pub put_line : (t : Text) (l d held : List ℕ) (said : ℕ) → t ≡ text_of l → StartLaid (part_of t.octets 0 t.len) d said held
    → StartLaid l d said held
put_line t l d held said e p = start_as (part_of t.octets 0 t.len) l d held said (text_shown t l e) p

pub put_told : (all n s told : ℕ) (t : Text) (d held : List ℕ) (said : ℕ) → t ≡ text_of (refusal_line n told)
    → refusal_line n told ≡ refusal_told all n s → StartLaid (part_of t.octets 0 t.len) d said held
    → StartLaid (refusal_told all n s) d said held
put_told all n s told t d held said e r p = put_line t (refusal_told all n s) d held said (e ∙ ap text_of r) p

pub kind_flags_pieces : (k f : ℕ) {none a b c r : Text} → none ≡ text_of [] → a ≡ followed none (decimal k) → b ≡ followed a (space ∷ [])
    → c ≡ followed b (decimal f) → r ≡ followed c (space ∷ []) → r ≡ text_of (kind_flags k f)
unfolding kind_flags
kind_flags_pieces k f p q u v w =
    let k1 : List ℕ = decimal k ++ (space ∷ []) in
    let k2 : List ℕ = k1 ++ decimal f in
    let n1 : length k1 ≤ 21 = omega (arith, length-append (decimal k) (space ∷ []), decimal_length k) in
    let n2 : length k2 ≤ 41 = omega (arith, length-append k1 (decimal f), decimal_length f) in
    let a' = then [] (decimal k) p q (omega (arith, decimal_length k)) in
    let b' = then (decimal k) (space ∷ []) a' u (omega (arith, decimal_length k)) in
    let c' = then k1 (decimal f) b' v (omega (arith, decimal_length f)) in
    let r' = then k2 (space ∷ []) c' w (omega arith) in
    r' ∙ ap text_of (append_assoc k1 (decimal f) (space ∷ []) ∙ append_assoc (decimal k) (space ∷ []) (decimal f ++ (space ∷ [])))

pub kind_flags_length : (k f : ℕ) → length (kind_flags k f) ≤ 42
unfolding kind_flags
kind_flags_length k f =
    let rest : List ℕ = decimal f ++ (space ∷ []) in
    omega (arith, length-append (decimal k) ((space ∷ []) ++ rest), length-append (space ∷ []) rest, length-append (decimal f) (space ∷ []), decimal_length k, decimal_length f)

pub open_pieces : (n : ℕ) {none a b r : Text} → none ≡ text_of [] → a ≡ followed none (111 ∷ 118 ∷ 101 ∷ 114 ∷ 32 ∷ [])
    → b ≡ followed a (decimal n) → r ≡ followed b not_judged → r ≡ text_of (open_line n)
unfolding open_line
open_pieces n p q u v =
    let front : List ℕ = 111 ∷ 118 ∷ 101 ∷ 114 ∷ 32 ∷ [] in
    let both : List ℕ = front ++ decimal n in
    let k : length both ≤ 25 = omega (arith, length-append front (decimal n), decimal_length n) in
    let a' = then [] front p q (omega arith) in
    let b' = then front (decimal n) a' u (omega (arith, decimal_length n)) in
    let r' = then both not_judged b' v (omega arith) in
    r' ∙ ap text_of (append_assoc front (decimal n) not_judged)

-- ---- Hexadecimal

pub hex_length : (s : List ℕ) → length (hex_line s) ≡ 2 * length s + 1
unfolding hex_line
hex_length s =
    length-append (text (unpack (2 * length s) s)) (line_feed ∷ []) ∙ omega (arith, unpacked_length (2 * length s) s)

pub hex_laid : (at n : ℕ) (s d held out : List ℕ) (b c : Bool) → n ≡ 2 * length s → at + (2 * length s + 1) ≤ length d
    → Laid at (text (unpack n s)) d b held → Laid (at + n) (10 ∷ []) held c out → out ≡ laid_at at (hex_line s) d
unfolding hex_line
hex_laid at n s d held out b c e h p q =
    let size : length (text (unpack n s)) ≡ n = unpacked_length n s ∙ omega arith in
    q.holds
    ∙ ap (laid_at (at + n) (10 ∷ [])) p.holds
    ∙ laid_two at n (text (unpack n s)) (10 ∷ []) d size (omega arith)
    ∙ ap (λ (k : ℕ). laid_at at (text (unpack k s) ++ (10 ∷ [])) d) e

pub hex_there : (s d out : List ℕ) (n : ℕ) → n ≡ 2 * length s + 1 → n ≤ length d → out ≡ laid_at 0 (hex_line s) d
    → StartLaid (hex_line s) d n out
hex_there s d out n e h o =
    let size : length (hex_line s) ≡ n = hex_length s ∙ sym e in
    start_laid (hex_line s) d out n size h (o ∙ laid_first (hex_line s) d (omega arith))

pub hex_not : (s d : List ℕ) → length d < 2 * length s + 1 → StartLaid (hex_line s) d 0 d
hex_not s d h = start_not_laid (hex_line s) d (omega (arith, hex_length s))

-- ---- An area's line

module _ (k f : ℕ) (area d : List ℕ) where
  abbrev w : Written
  w = record { kind = k; flags = f; area = area }

  area_length_lem : length (area_line w) ≡ length (kind_flags k f) + (2 * length area + 1)
  unfolding area_line
  area_length_lem = length-append (kind_flags k f) (hex_line area) ∙ omega (arith, hex_length area)

  pub area_not : length d < length (kind_flags k f) + (2 * length area + 1) → StartLaid (area_line w) d 0 d
  area_not h = start_not_laid (area_line w) d (omega (arith, area_length_lem))

  pub area_there : (front held out : List ℕ) (said at n : ℕ) → front ≡ kind_flags k f → at ≡ length front → n ≡ at + (2 * length area + 1)
      → n ≤ length d → StartLaid front d said held → out ≡ laid_at at (hex_line area) held → StartLaid (area_line w) d n out
  unfolding area_line
  area_there front held out said at n e at_is n_is h p o =
      let size : length (area_line w) ≡ n = area_length_lem ∙ omega (arith, ap length e) in
      let behind : at ≡ 0 + length front = omega arith in
      start_laid (area_line w) d out n size h
      (o ∙ ap (λ (x : List ℕ). laid_at at (hex_line area) x) p.holds
      ∙ ap (λ (m : ℕ). laid_at m (hex_line area) (laid_at 0 front d)) behind
      ∙ laid_two 0 (length front) front (hex_line area) d refl (omega (arith, hex_length area))
      ∙ ap (λ (x : List ℕ). laid_at 0 (x ++ hex_line area) d) e
      ∙ laid_first (area_line w) d (omega arith))

  pub octets_not : length d < 2 + length area → StartLaid (area_octets w) d 0 d
  octets_not h = start_not_laid (area_octets w) d (omega arith)

  pub octets_there : (held out : List ℕ) (b c : Bool) (n : ℕ) → n ≡ 2 + length area → n ≤ length d → Laid 0 (k ∷ f ∷ []) d b held
      → Laid 2 area held c out → StartLaid (area_octets w) d n out
  octets_there held out b c n e h p q =
      start_laid (area_octets w) d out n (omega arith) h
      (q.holds ∙ ap (laid_at 2 area) p.holds ∙ laid_two 0 2 (k ∷ f ∷ []) area d refl (omega arith) ∙ laid_first (area_octets w) d (omega arith))

-- ---- A list's line

-- entries with a space behind each, and the line's end in place of the last
line_but_last : (e : ℕ) (l : List ℕ) (n : ℕ) → suc n ≡ 9 * length (e ∷ l)
    → take n (entries_with space (e ∷ l)) ++ (line_feed ∷ []) ≡ list_line (e ∷ l)
unfolding entries_with entry_with list_line
line_but_last e [] n h =
    let digits : List ℕ = entry_digits e in
    let eight : length digits ≡ n = digits_length e ∙ omega arith in
    ap (λ (l : List ℕ). take n l ++ (line_feed ∷ [])) (append_assoc digits (space ∷ []) [])
    ∙ ap (λ (l : List ℕ). l ++ (line_feed ∷ [])) (take_at digits (space ∷ []) n eight)
line_but_last e (x ∷ l) n h =
    let one : List ℕ = entry_with space e in
    let rest : List ℕ = entries_with space (x ∷ l) in
    let size : n ≡ length one + (n - 9) = omega (arith, entry_length space e) in
    ap (λ (k : ℕ). take k (one ++ rest) ++ (line_feed ∷ [])) size
    ∙ ap (λ (l : List ℕ). l ++ (line_feed ∷ [])) (take-append-add one rest (n - 9))
    ∙ append_assoc one (take (n - 9) rest) (line_feed ∷ [])
    ∙ ap (λ (l : List ℕ). one ++ l) (line_but_last x l (n - 9) (omega arith))

pub line_length : (e : ℕ) (l : List ℕ) → length (list_line (e ∷ l)) ≡ 9 * length (e ∷ l)
unfolding list_line
line_length e [] = entry_length line_feed e ∙ omega arith
line_length e (x ∷ l) = length-append (entry_with space e) (list_line (x ∷ l)) ∙ omega (arith, entry_length space e, line_length x l)

-- one octet laid over the last of what was laid
over_last : (s d : List ℕ) (x n : ℕ) → length s ≡ suc n → suc n ≤ length d → laid_at n (x ∷ []) (over s d) ≡ over (take n s ++ (x ∷ [])) d
unfolding over
over_last s d x n e h =
    let rest : List ℕ = drop (length s) d in
    let last : n + 1 ≡ length s = omega arith in
    let whole : length (s ++ rest) ≡ length d = over_length s d (omega arith) in
    let front : length (take n s) ≡ n = length-take-le n s (omega arith) in
    let both : length (take n s ++ (x ∷ [])) ≡ length s = length-append (take n s) (x ∷ []) ∙ omega arith in
    laid_fits n (x ∷ []) (s ++ rest) (omega arith)
    ∙ ap (λ (l : List ℕ). take n (s ++ rest) ++ (x ∷ l)) (drop-drop 1 n (s ++ rest) ∙ ap (λ (k : ℕ). drop k (s ++ rest)) last ∙ drop-append_seam s rest)
    ∙ ap (λ (l : List ℕ). l ++ (x ∷ rest)) (take-append-le n s rest (omega arith))
    ∙ sym (append_assoc (take n s) (x ∷ []) rest)
    ∙ ap (λ (k : ℕ). (take n s ++ (x ∷ [])) ++ drop k d) (sym both)

-- by the entries with a space behind each, where there are some
module _ (d held : List ℕ) (said : ℕ) where
  line_not : (l : List ℕ) → 0 < length l → StartLaid (entries_with space l) d said held → said ≡ 0 → StartLaid (list_line l) d 0 held
  line_not [] h p e = absurd (omega arith)
  line_not (x ∷ l) h p e = go (fits_at 0 (entries_with space (x ∷ l)) d) refl
    where
      size : length (entries_with space (x ∷ l)) ≡ 9 * length (x ∷ l)
      size = entries_length space (x ∷ l)

      go : (b : Bool) → fits_at 0 (entries_with space (x ∷ l)) d ≡ b → StartLaid (list_line (x ∷ l)) d 0 held
      go true f = absurd (let z : said ≡ length (entries_with space (x ∷ l)) = p.says ∙ rw f in omega (arith, size))
      go false f =
          subst (λ (o : List ℕ). StartLaid (list_line (x ∷ l)) d 0 o) (sym (p.holds ∙ laid_none 0 (entries_with space (x ∷ l)) d f))
          (start_not_laid (list_line (x ∷ l)) d (omega (arith, fits_not (entries_with space (x ∷ l)) d f, size, line_length x l)))

  line_there : (l : List ℕ) → 0 < length l → StartLaid (entries_with space l) d said held → (out : List ℕ) (b : Bool) → (said ≡ 0 → ⊥)
      → Laid (said - 1) (10 ∷ []) held b out → StartLaid (list_line l) d said out
  line_there [] h p out b e q = absurd (omega arith)
  line_there (x ∷ l) h p out b e q = go (fits_at 0 (entries_with space (x ∷ l)) d) refl
    where
      size : length (entries_with space (x ∷ l)) ≡ 9 * length (x ∷ l)
      size = entries_length space (x ∷ l)

      go : (b : Bool) → fits_at 0 (entries_with space (x ∷ l)) d ≡ b → StartLaid (list_line (x ∷ l)) d said out
      go false f = absurd (e (p.says ∙ rw f))
      go true f =
          let all : said ≡ length (entries_with space (x ∷ l)) = p.says ∙ rw f in
          let room : length (entries_with space (x ∷ l)) ≤ length d = omega (arith, fits_room 0 (entries_with space (x ∷ l)) d f) in
          let one : said ≡ suc (said - 1) = omega arith in
          start_laid (list_line (x ∷ l)) d out said (omega (arith, size, line_length x l)) (omega arith)
          (q.holds
          ∙ ap (laid_at (said - 1) (10 ∷ [])) (p.holds ∙ laid_first (entries_with space (x ∷ l)) d room)
          ∙ over_last (entries_with space (x ∷ l)) d 10 (said - 1) (omega arith) (omega arith)
          ∙ ap (λ (t : List ℕ). over t d) (line_but_last x l (said - 1) (omega (arith, size))))

-- the first entries of a list
module _ (list d : List ℕ) (count : ℕ) where
  pub list_none : (held : List ℕ) (said : ℕ) → min count (length list) ≡ 0 → StartLaid (10 ∷ []) d said held
      → StartLaid (list_line (take count list)) d said held
  unfolding list_line
  list_none held said e p = start_as (10 ∷ []) (list_line (take count list)) d held said (sym (ap list_line none)) p
    where
      none : take count list ≡ []
      none = sym (take_least count list) ∙ ap (λ (k : ℕ). take k list) e

  module _ (said : ℕ) (held : List ℕ) (some : min count (length list) ≡ 0 → ⊥)
      (p : StartLaid (entries_with space (take count list)) d said held) where
    there_are : 0 < length (take count list)
    there_are = go (min count (length list)) refl
      where
        go : (n : ℕ) → min count (length list) ≡ n → 0 < length (take count list)
        go zero e = absurd (some e)
        go (suc n) e = omega (arith, length-take count list)

    pub list_not : said ≡ 0 → StartLaid (list_line (take count list)) d 0 held
    list_not e = line_not d held said (take count list) there_are p e

    pub list_there : (out : List ℕ) (b : Bool) → (said ≡ 0 → ⊥) → Laid (said - 1) (10 ∷ []) held b out
        → StartLaid (list_line (take count list)) d said out
    list_there out b e q = line_there d held said (take count list) there_are p out b e q
