-- A text made of pieces, one behind the other: the line of a refusal. Assumes nothing.
use mathlib.Core.Path.{◌≡◌, refl, sym, ap, ◌∙◌}
use mathlib.Core.Bool.{Bool, true, false, cond}
use mathlib.Core.List.{List, [], ◌∷◌, ◌++◌, append_assoc}
use Prim.Native.Nat.{ℕ, ◌+◌, ◌≤◌}
use native.Mathlib.Omega.{arith}
use lib.ListN.{length, replicate, length-append}
use Rattle.meaning.specs.Answers.{over}
use Rattle.octets.specs.Parts.{fits_at, Laid}
use Rattle.octets.specs.DigitStrings.{padded}
use Rattle.octets.proofs.Overs.{over_length, over_none, room_fits, laid_behind}
use Rattle.lines.specs.declared.Text.{Text}
use Rattle.lines.specs.Lines.{decimal, refused_word, refusal_line, text_of, followed}
use Rattle.lines.proofs.Spelling.{decimal_length}

-- zeros, and nothing before them
pub text_none : {t : Text} → t.octets ≡ replicate 50 0 → t.len ≡ 0 → t ≡ text_of []
unfolding text_of padded
text_none e f = λ k. record { octets = (e ∙ sym (over_none (replicate 50 0))) k; len = f k }

-- ---- One piece more

-- laid behind the text, if it fits, and if not
pub followed_fits : (t : Text) (s held : List ℕ) (said : Bool) → Laid t.len s t.octets said held → said ≡ true → {r : Text}
    → r.octets ≡ held → r.len ≡ t.len + length s → r ≡ followed t s
unfolding followed
followed_fits t s held said l e p q =
    let fits : fits_at t.len s t.octets ≡ true = sym l.says ∙ e in
    let len = q ∙ sym (ap (λ (b : Bool). cond b (t.len + length s) t.len) fits) in
    λ k. record { octets = (p ∙ l.holds) k; len = len k }

pub followed_not : (t : Text) (s held : List ℕ) (said : Bool) → Laid t.len s t.octets said held → said ≡ false → {r : Text}
    → r.octets ≡ held → r.len ≡ t.len → r ≡ followed t s
unfolding followed
followed_not t s held said l e p q =
    let fits : fits_at t.len s t.octets ≡ false = sym l.says ∙ e in
    let len = q ∙ sym (ap (λ (b : Bool). cond b (t.len + length s) t.len) fits) in
    λ k. record { octets = (p ∙ l.holds) k; len = len k }

-- with room for both, a text with octets behind it is the text of both
pub text_more : (l s : List ℕ) → length l + length s ≤ 50 → followed (text_of l) s ≡ text_of (l ++ s)
unfolding followed text_of padded
text_more l s h =
    let zeros : List ℕ = replicate 50 0 in
    let fits : fits_at (length l) s (over l zeros) ≡ true =
    room_fits (length l) s (over l zeros) (omega (arith, over_length l zeros (omega arith))) in
    let octets = laid_behind l s zeros (over l zeros) (length l) refl refl h in
    let len = ap (λ (b : Bool). cond b (length l + length s) (length l)) fits ∙ sym (length-append l s) in
    λ k. record { octets = octets k; len = len k }

pub then : {r t : Text} (l s : List ℕ) → t ≡ text_of l → r ≡ followed t s → length l + length s ≤ 50 → r ≡ text_of (l ++ s)
then l s e f h = f ∙ ap (λ (t : Text). followed t s) e ∙ text_more l s h

-- ---- The line of a refusal

-- its five pieces
pub refusal_pieces : (n s : ℕ) {none word first between second line : Text} → none ≡ text_of [] → word ≡ followed none refused_word
    → first ≡ followed word (decimal n)
    → between ≡ followed first (32 ∷ []) → second ≡ followed between (decimal s) → line ≡ followed second (10 ∷ [])
    → line ≡ text_of (refusal_line n s)
unfolding refusal_line
refusal_pieces n s a b c d e f =
    let w : List ℕ = refused_word in
    let wn : List ℕ = w ++ decimal n in
    let wns : List ℕ = wn ++ (32 ∷ []) in
    let wnss : List ℕ = wns ++ decimal s in
    let k1 : length wn ≤ 28 = omega (arith, length-append w (decimal n), decimal_length n) in
    let k2 : length wns ≤ 29 = omega (arith, length-append wn (32 ∷ [])) in
    let k3 : length wnss ≤ 49 = omega (arith, length-append wns (decimal s), decimal_length s) in
    let b' = then [] w a b (omega arith) in
    let c' = then w (decimal n) b' c (omega (arith, decimal_length n)) in
    let d' = then wn (32 ∷ []) c' d (omega arith) in
    let e' = then wns (decimal s) d' e (omega (arith, decimal_length s)) in
    let f' = then wnss (10 ∷ []) e' f (omega arith) in
    f' ∙ ap text_of (append_assoc wns (decimal s) (10 ∷ []) ∙ append_assoc wn (32 ∷ []) (decimal s ++ (10 ∷ [])) ∙ append_assoc w (decimal n) ((32 ∷ []) ++ (decimal s ++ (10 ∷ []))))
