-- Entries as text, one behind the other. Assumes nothing.
use mathlib.Core.Path.{◌≡◌, refl, sym, ap, ◌∙◌}
use mathlib.Core.Bool.{Bool, true, false, cond}
use mathlib.Core.List.{List, [], ◌∷◌, ◌++◌, append_assoc, append-nil}
use Prim.Native.Nat.{ℕ, ◌+◌, ◌*◌, ◌<◌, ◌≤◌, min}
use native.Mathlib.Numerals.{add-one}
use native.Mathlib.Omega.{arith}
use borrow.Author.Tests.{lt-leb, leb-true, leb-false}
use lib.Dec.{leb}
use lib.ListN.{length, take, drop, get_or, replicate, length-append}
use lib.Seq.{take-suc, take_all, length-take-le}
use Rattle.meaning.specs.Octets.{octets_of, unpack, text}
use Rattle.meaning.specs.Answers.{over}
use Rattle.meaning.proofs.Numbers.{octets_length}
use Rattle.octets.specs.Parts.{fits_at, laid_at, Laid}
use Rattle.octets.proofs.Overs.{over_none, room_fits, laid_first, laid_none, laid_behind}
use Rattle.octets.proofs.Unpacking.{unpacked_length}
use Rattle.lines.specs.Lines.{entry_digits, entry_with, entries_with, StartLaid}

pub digits_length : (e : ℕ) → length (entry_digits e) ≡ 8
unfolding entry_digits
digits_length e = unpacked_length 8 (octets_of 4 e) ∙ omega (arith, octets_length 4 e)

pub entry_length : (b e : ℕ) → length (entry_with b e) ≡ 9
unfolding entry_with
entry_length b e = length-append (entry_digits e) (b ∷ []) ∙ omega (arith, digits_length e)

-- the digits over nine octets that are all the one behind
pub entry_made : (b e : ℕ) (o line : List ℕ) (said : Bool) → o ≡ octets_of 4 e → Laid 0 (text (unpack 8 o)) (replicate 9 b) said line
    → line ≡ entry_with b e
unfolding entry_with entry_digits over
entry_made b e o line said i l =
    l.holds
    ∙ ap (λ (x : List ℕ). laid_at 0 (text (unpack 8 x)) (replicate 9 b)) i
    ∙ laid_first (entry_digits e) (replicate 9 b) (omega (arith, digits_length e))
    ∙ ap (λ (n : ℕ). entry_digits e ++ drop n (replicate 9 b)) (digits_length e)

-- ---- One behind the other

pub entries_length : (b : ℕ) (l : List ℕ) → length (entries_with b l) ≡ 9 * length l
unfolding entries_with
entries_length b [] = refl
entries_length b (e ∷ l) = length-append (entry_with b e) (entries_with b l) ∙ omega (arith, entry_length b e, entries_length b l)

pub entries_snoc : (b : ℕ) (l : List ℕ) (e : ℕ) → entries_with b (l ++ (e ∷ [])) ≡ entries_with b l ++ entry_with b e
unfolding entries_with
entries_snoc b [] e = append-nil (entry_with b e)
entries_snoc b (x ∷ l) e = ap (λ (t : List ℕ). entry_with b x ++ t) (entries_snoc b l e) ∙ sym (append_assoc (entry_with b x) (entries_with b l) (entry_with b e))

-- the first i entries of l stand over the start of d
pub record Entered (b : ℕ) (l d out : List ℕ) (i : ℕ) : Type 0 where
  pub within : i ≤ length l
  pub room : 9 * length l ≤ length d
  pub kept : length out ≡ length d
  pub is : out ≡ over (entries_with b (take i l)) d

pub entered_none : (b : ℕ) (l d : List ℕ) → 9 * length l ≤ length d → Entered b l d d 0
unfolding entries_with
entered_none b l d h = record { within = omega arith; room = h; kept = refl; is = sym (over_none d) }

pub entered_more : (b : ℕ) (l d out : List ℕ) (i : ℕ) (line held : List ℕ) (said : Bool) → Entered b l d out i
    → i < length l → line ≡ entry_with b (get_or l i 0)
    → Laid (9 * i) line out said held → length held ≡ length out → Entered b l d held (i + 1)
entered_more b l d out i line held said u h e laid size =
    let before : length (entries_with b (take i l)) ≡ 9 * i =
    entries_length b (take i l) ∙ omega (arith, length-take-le i l u.within) in
    let nine : length line ≡ 9 = ap length e ∙ entry_length b (get_or l i 0) in
    let next : entries_with b (take i l) ++ line ≡ entries_with b (take (i + 1) l) =
    ap (λ (t : List ℕ). entries_with b (take i l) ++ t) e ∙ sym (entries_snoc b (take i l) (get_or l i 0)) ∙ ap (entries_with b) (sym (rw (add-one i) (take-suc l i 0 h))) in
    record {
      within = omega arith;
      room = u.room;
      kept = size ∙ u.kept;
      is = laid.holds ∙ laid_behind (entries_with b (take i l)) line d out (9 * i) before u.is (omega (arith, u.room)) ∙ ap (λ (t : List ℕ). over t d) next;
    }

pub entered_all : (b : ℕ) (l d out : List ℕ) (i : ℕ) → Entered b l d out i → length l ≤ i → out ≡ over (entries_with b l) d
entered_all b l d out i u h = u.is ∙ ap (λ (t : List ℕ). over (entries_with b t) d) (take_all i l h)

-- ---- Whether they fit

no_room : (s d : List ℕ) → length d < length s → fits_at 0 s d ≡ false
unfolding fits_at
no_room s d h = lt-leb (0 + length s) (length d) (omega arith)

pub start_laid : (s d out : List ℕ) (n : ℕ) → length s ≡ n → n ≤ length d → out ≡ over s d → StartLaid s d n out
start_laid s d out n e h o =
    let fits : fits_at 0 s d ≡ true = room_fits 0 s d (omega arith) in
    record { says = sym (ap (λ (b : Bool). cond b (length s) 0) fits ∙ e); holds = o ∙ sym (laid_first s d (omega arith)) }

pub start_not_laid : (s d : List ℕ) → length d < length s → StartLaid s d 0 d
start_not_laid s d h =
    let fits : fits_at 0 s d ≡ false = no_room s d h in
    record { says = sym (ap (λ (b : Bool). cond b (length s) 0) fits); holds = sym (laid_none 0 s d fits) }

-- no more of a list than it has
pub take_least : (n : ℕ) (l : List ℕ) → take (min n (length l)) l ≡ take n l
take_least n l = go (leb n (length l)) refl
  where
    go : (b : Bool) → leb n (length l) ≡ b → take (min n (length l)) l ≡ take n l
    go true e = let h : n ≤ length l = leb-true n (length l) e in let m : min n (length l) ≡ n = omega arith in rw m
    go false e = let h : length l < n = leb-false n (length l) e in take_all (min n (length l)) l (omega arith) ∙ sym (take_all n l (omega arith))

-- the first `count` of l, of which there are `end`
module _ (b : ℕ) (l d : List ℕ) (count end : ℕ) (e : end ≡ min count (length l)) where
  first : take end l ≡ take count l
  first = ap (λ (n : ℕ). take n l) e ∙ take_least count l

  size : length (entries_with b (take count l)) ≡ 9 * length (take end l)
  size = entries_length b (take count l) ∙ ap (λ (t : List ℕ). 9 * length t) (sym first)

  pub entries_laid : (out : List ℕ) → 9 * length (take end l) ≤ length d → out ≡ over (entries_with b (take end l)) d
      → StartLaid (entries_with b (take count l)) d (9 * length (take end l)) out
  entries_laid out h o =
      start_laid (entries_with b (take count l)) d out (9 * length (take end l)) size h (o ∙ ap (λ (t : List ℕ). over (entries_with b t) d) first)

  pub entries_not : length d < 9 * length (take end l) → StartLaid (entries_with b (take count l)) d 0 d
  entries_not h = start_not_laid (entries_with b (take count l)) d (omega (arith, size))

-- Any two answers that the promise permits are the same, the buffer included.
pub one_start_laid : (s d : List ℕ) (said said' : ℕ) (held held' : List ℕ) → StartLaid s d said held → StartLaid s d said' held'
    → (said ≡ said') × (held ≡ held')
one_start_laid s d said said' held held' p q = (p.says ∙ sym q.says, p.holds ∙ sym q.holds)
