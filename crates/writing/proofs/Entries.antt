-- The attribute that an item gives, as the writers lay it, and an item that is found at a place of a sheet. Assumes nothing.
use mathlib.Core.Path.{◌≡◌, sym, ap, ◌∙◌}
use mathlib.Core.Bool.{true, false}
use mathlib.Core.List.{List}
use Prim.Native.Nat.{ℕ, ◌+◌, ◌-◌, ◌<◌, ◌≤◌}
use native.Mathlib.Omega.{arith}
use lib.ListN.{length, take, drop, get_or, length-drop}
use lib.Seq.{length-take-le, take_all}
use Rattle.meaning.specs.Versions.{current}
use Rattle.meaning.specs.Octets.{Octets}
use Rattle.meaning.specs.Framing.{head_length, attribute_octets}
use Rattle.meaning.specs.Sheet.{stored_length, holds, refused}
use Rattle.meaning.proofs.Octets.{octet_at, octets_take, octets_drop}
use Rattle.meaning.proofs.Framing.{attribute_long}
use Rattle.meaning.proofs.Items.{number_low}
use Rattle.octets.specs.Parts.{laid_at}
use Rattle.item.specs.declared.Head.{Head}
use Rattle.item.specs.Stands.{stands_as}
use Rattle.item.specs.Answers.{Headed, entered_at, headed_at}
use Rattle.item.proofs.Entering.{size_at, AHead, a_head, size_stored, item_is}
use Rattle.std.specs.Prelude.{Option, None, Some, Ok}
use Rattle.writing.specs.Attributes.{value_as, attribute_front, lengths_at, Laying, Attributed}
use Rattle.writing.proofs.Putting.{attribute_stands}
use Rattle.writing.proofs.Values.{shown}
use Rattle.writing.proofs.Valuing.{laying_none, laying_begun, laid_not, laid_stands, laid_long}

-- ---- The attribute of an item

-- the front was laid, and the writer of the value answered
module _ (n f c : ℕ) (st : List ℕ) (o : Octets st) (long : length st ≡ stored_length current f c) (at : ℕ) (said : Option ℕ)
    (front first : List ℕ) (v : Laying (at + head_length n) (stands_as n f c st) (value_as n f c st) front said first) where
  -- no readable attribute gives the item
  pub attributed_none : said ≡ None → (d out : List ℕ) → Attributed at n f c st d None out
  attributed_none e d out = laying_none at (stands_as n f c st) (attribute_octets n (value_as n f c st)) d out (laid_not _ _ _ _ _ _ v e)

  -- one does
  module _ (k : ℕ) (h : said ≡ Some k) where
    pub put_short : head_length n + k < 256
    put_short = omega (arith, laid_long _ _ _ _ _ _ v k h, (shown n f c st o long (laid_stands _ _ _ _ _ _ v k h)).short)

    pub attributed : (d out : List ℕ) → at + head_length n ≤ length d → front ≡ laid_at at (attribute_front n) d
        → out ≡ lengths_at at (head_length n) k first → Attributed at n f c st d (Some (head_length n + k)) out
    attributed d out room g p =
        let stands = laid_stands _ _ _ _ _ _ v k h in
        let is = laid_long _ _ _ _ _ _ v k h in
        laying_begun at (stands_as n f c st) (attribute_octets n (value_as n f c st)) d out stands (head_length n + k)
        (omega (arith, is, attribute_long n (value_as n f c st)))
        (attribute_stands n k at (value_as n f c st) d front first out is room g (v.is stands) p)

-- ---- At a place

-- an item at a place of the sheet l, with its value, which some readable attribute gives
pub record Entry (l : List ℕ) (p n : ℕ) (v : List ℕ) (behind : ℕ) : Type 0 where
  pub size : ℕ
  pub entered_is : entered_at l p ≡ holds n v size
  pub behind_is : behind ≡ p + size
  pub short : length (attribute_octets n v) < 256

-- the item whose head `head_at` answered
module _ (l : List ℕ) (p : ℕ) (o : Octets l) (r : Headed) (says : r ≡ headed_at l p) (h : Head) (q : r ≡ Ok h) where
  abbrev head : AHead l p o r says h.number h.form h.count h.next
  head = a_head l p o r says h q

  -- its stored octets
  abbrev pub stored_here : List ℕ
  stored_here = take (h.next - (p + 4)) (drop (p + 4) l)

  stored_octets : Octets stored_here
  stored_octets = octets_take (h.next - (p + 4)) (drop (p + 4) l) (octets_drop (p + 4) l o)

  pub behind_within : h.next ≤ length l
  behind_within = omega (arith, head.room, head.behind_is)

  pub behind_head : p + 4 ≤ h.next
  behind_head = omega (arith, head.behind_is)

  pub carried_low : h.number < 512
  carried_low = omega (arith, head.number_is, number_low (get_or l p 0) (get_or l (p + 1) 0) (get_or l (p + 2) 0) (octet_at l p o) (octet_at l (p + 1) o))

  stored_size : length stored_here ≡ stored_length current h.form h.count
  stored_size = size_stored l p o r says h.number h.form h.count h.next head

  -- what stands behind its head
  abbrev rest_here : List ℕ
  rest_here = take (length l - (p + 4)) (drop (p + 4) l)

  rest_is : rest_here ≡ drop (p + 4) l
  rest_is = take_all (length l - (p + 4)) (drop (p + 4) l) (omega (arith, length-drop (p + 4) l))

  pub size_is : h.next - (p + 4) ≡ stored_length current h.form h.count
  size_is = sym (length-take-le (h.next - (p + 4)) (drop (p + 4) l) (omega (arith, behind_within, length-drop (p + 4) l))) ∙ stored_size

  pub size_within : h.next - (p + 4) ≤ length rest_here
  size_within = omega (arith, ap length rest_is, length-drop (p + 4) l, behind_within)

  -- the first of it are its stored octets
  pub attributed_here : (at : ℕ) (said : Option ℕ) (d out : List ℕ) → Attributed at h.number h.form h.count (take (h.next - (p + 4)) rest_here) d said out
      → Attributed at h.number h.form h.count stored_here d said out
  attributed_here at put d out a = rw rest_is at a

  pub no_entry : stands_as h.number h.form h.count stored_here ≡ false → entered_at l p ≡ refused 23
  no_entry e = item_is l p o r says h.number h.form h.count h.next head ∙ rw e

  pub entry_here : stands_as h.number h.form h.count stored_here ≡ true → Entry l p h.number (value_as h.number h.form h.count stored_here) h.next
  entry_here e =
      let k = shown h.number h.form h.count stored_here stored_octets stored_size e in
      record {
        size = size_at l p;
        entered_is = item_is l p o r says h.number h.form h.count h.next head ∙ rw e (ap (λ (v : List ℕ). holds h.number v (size_at l p)) k.value_is);
        behind_is = head.behind_is;
        short = omega (arith, k.short, attribute_long h.number (value_as h.number h.form h.count stored_here));
      }
