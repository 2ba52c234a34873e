-- The pass over the items of a sheet: each is tested and its attribute laid behind those before it. Assumes nothing.
use mathlib.Core.Path.{◌≡◌, refl, sym, ap, ◌∙◌}
use mathlib.Core.Bool.{true}
use mathlib.Core.List.{List, [], ◌++◌, append-nil, append_assoc}
use Prim.Native.Nat.{ℕ, zero, suc, ◌^◌, ◌+◌, ◌*◌, ◌-◌, ◌<◌, ◌≤◌, min}
use native.Mathlib.Omega.{arith}
use lib.ListN.{length, take, drop, length-append, length-take}
use Rattle.meaning.specs.Octets.{Octets, number_of}
use Rattle.meaning.proofs.Numbers.{number_fits}
use Rattle.meaning.proofs.Octets.{octets_take, octets_drop}
use Rattle.meaning.specs.Framing.{Walk, end, next, attributes, attribute_octets, area_of}
use Rattle.meaning.specs.Refusals.{none, refusal, fault}
use Rattle.meaning.specs.Sheet.{items_in, area_in, refused}
use Rattle.area.specs.declared.Refusal.{Refusal}
use Rattle.octets.specs.Parts.{part_of}
use Rattle.item.specs.declared.Head.{Head}
use Rattle.item.specs.Stands.{stands_as}
use Rattle.item.specs.Answers.{Headed, entered_at, headed_at}
use Rattle.item.proofs.Entering.{a_refusal}
use Rattle.std.specs.Prelude.{Option, None, Some, Ok, Err}
use Rattle.writing.specs.Attributes.{span, value_as, Attributed}
use Rattle.writing.specs.Answers.{refused_as, Transcribed}
use Rattle.writing.proofs.Valuing.{laid_not, laid_stands, laid_long}
use Rattle.writing.proofs.Entries.{Entry, stored_here, no_entry, entry_here}
use Rattle.writing.proofs.Walking.{items_at, items_start, items_enter, items_refuse, items_end, items_remain}

-- The loop stands at a place with so many items left. The attributes before it have so many octets, and are what the buffer begins with
-- where it has room for one more behind them.
pub record Transcribing (l out : List ℕ) (left place written : ℕ) : Type 0 where
  pub gone : List ℕ
  pub whole : area_in l ≡ gone ++ area_of (attributes (items_at l left place))
  pub faults : fault (items_in l) ≡ fault (items_at l left place)
  pub long : length gone ≡ written
  pub few : written + 256 * left ≤ 256 * 65535
  pub held : written + span ≤ length out → take written out ≡ gone

-- the number of items in two octets
announced_low : (l : List ℕ) (left : ℕ) → Octets l → left ≡ number_of (part_of l 7 2) → left ≤ 65535
unfolding part_of
announced_low l left o e =
    let two : length (take 2 (drop 7 l)) ≤ 2 = omega (arith, length-take 2 (drop 7 l)) in
    let low : number_of (take 2 (drop 7 l)) < 256 ^ length (take 2 (drop 7 l)) =
    number_fits (take 2 (drop 7 l)) (octets_take 2 (drop 7 l) (octets_drop 7 l o)) in
    go (length (take 2 (drop 7 l))) two low
  where
    go : (k : ℕ) → k ≤ 2 → number_of (take 2 (drop 7 l)) < 256 ^ k → left ≤ 65535
    go zero h g = omega (arith, e)
    go (suc zero) h g = omega (arith, e)
    go (suc (suc zero)) h g = omega (arith, e)
    go (suc (suc (suc k))) h g = absurd (omega arith)

pub transcribing_none : (l out : List ℕ) (left : ℕ) → Octets l → left ≡ number_of (part_of l 7 2) → Transcribing l out left 9 0
unfolding area_in
transcribing_none l out left o e =
    let s = items_start l left e in
    record {
      gone = [];
      whole = ap (λ (w : Walk). area_of (attributes w)) s;
      faults = ap fault s;
      long = refl;
      few = omega (arith, announced_low l left o e);
      held = λ h. refl;
    }

-- a refusal of the first item that is left
broken_here : (l out : List ℕ) (left place written k : ℕ) → Transcribing l out left place written → 0 < left → entered_at l place ≡ refused k
    → fault (items_in l) ≡ refusal k place
unfolding fault
broken_here l out left place written k j some e = j.faults ∙ ap fault (items_refuse l left place k some e)

-- where a refusal applies, nothing is said of the buffer
refused_by : (l out : List ℕ) (n s : ℕ) → fault (items_in l) ≡ refusal n s → Transcribed l (Err (refused_as n s)) out
refused_by l out n s e = record { says = rw e; holds = λ q. absurd (let z : ◌≡◌ {A = ℕ} 0 1 = cc in omega arith) }

module _ (l d : List ℕ) (left place written : ℕ) (j : Transcribing l d left place written) (some : 0 < left) (o : Octets l) (r : Headed)
    (says : r ≡ headed_at l place) where
  -- a head that is refused
  pub transcribing_refused : (out : List ℕ) (x : Refusal) → r ≡ Err x → Transcribed l (Err x) out
  transcribing_refused out x q =
      let a = a_refusal l place o r says x q in
      refused_by l out x.number x.second
      (broken_here l d left place written x.number j some a.0 ∙ ap (refusal x.number) (sym a.1))

  -- an item, and what the writer of its attribute answered
  module _ (h : Head) (q : r ≡ Ok h) (at : ℕ) (said : Option ℕ) (out : List ℕ)
      (v : Attributed at h.number h.form h.count (stored_here l place o r says h q) d said out) where
    -- the octets that it stores
    abbrev st : List ℕ
    st = stored_here l place o r says h q

    -- and the attribute that it gives
    abbrev attribute : List ℕ
    attribute = attribute_octets h.number (value_as h.number h.form h.count st)

    pub transcribing_23 : said ≡ None → Transcribed l (Err (refused_as 23 place)) out
    transcribing_23 e =
        refused_by l out 23 place
        (broken_here l d left place written 23 j some (no_entry l place o r says h q (laid_not _ _ _ _ _ _ v e)))

    module _ (put : ℕ) (x : said ≡ Some put) where
      stands : stands_as h.number h.form h.count st ≡ true
      stands = laid_stands _ _ _ _ _ _ v put x

      put_is : put ≡ length attribute
      put_is = laid_long _ _ _ _ _ _ v put x

      -- what is known of it
      abbrev e : Entry l place h.number (value_as h.number h.form h.count st) h.next
      e = entry_here l place o r says h q stands

      pub put_short : put < 256
      put_short = omega (arith, e.short, put_is)

      pub transcribing_more : span ≤ length d → at ≡ min written (length d - span) → Transcribing l out (left - 1) h.next (written + put)
      unfolding fault attributes area_of
      transcribing_more room place_is =
          let b = v.is stands in
          let w : items_at l left place ≡ next (record { place = place; number = h.number; value = value_as h.number h.form h.count st }) (items_at l (left - 1) h.next) =
          items_enter l left place h.number (value_as h.number h.form h.count st) e.size some e.entered_is
          ∙ ap (λ (b : ℕ). next (record { place = place; number = h.number; value = value_as h.number h.form h.count st }) (items_at l (left - 1) b)) (sym e.behind_is) in
          record {
            gone = j.gone ++ attribute;
            whole =
                j.whole ∙ ap (λ (w : Walk). j.gone ++ area_of (attributes w)) w
                ∙ sym (append_assoc j.gone attribute (area_of (attributes (items_at l (left - 1) h.next))));
            faults = j.faults ∙ ap fault w;
            long = length-append j.gone attribute ∙ omega (arith, j.long, put_is);
            few = omega (arith, put_short, j.few);
            held = λ fits.
                let here : at ≡ written = omega (arith, b.kept) in
                let much : written + put ≡ at + length attribute = omega (arith, put_is) in
                ap (λ (k : ℕ). take k out) much ∙ b.is
                ∙ ap (λ (g : List ℕ). g ++ attribute) (ap (λ (k : ℕ). take k d) here ∙ j.held (omega (arith, b.kept)));
          }

-- no item is left: 22, or the octets of the attributes
module _ (l out : List ℕ) (left place written : ℕ) (j : Transcribing l out left place written) (none_left : left ≡ 0) where
  pub transcribing_22 : place < length l → Transcribed l (Err (refused_as 22 place)) out
  unfolding fault
  transcribing_22 h = refused_by l out 22 place (j.faults ∙ ap fault (items_remain l left place none_left h))

  pub transcribing_all : length l ≤ place → Transcribed l (Ok written) out
  unfolding fault attributes area_of
  transcribing_all h =
      let done : items_at l left place ≡ end = items_end l left place none_left h in
      let all : area_in l ≡ j.gone = j.whole ∙ ap (λ (w : Walk). j.gone ++ area_of (attributes w)) done ∙ append-nil j.gone in
      let n : length (area_in l) ≡ written = ap length all ∙ j.long in
      let sound : fault (items_in l) ≡ none = j.faults ∙ ap fault done in
      record {
        says = rw (sound, n);
        holds = λ q room. ap (λ (k : ℕ). take k out) n ∙ j.held (omega (arith, n)) ∙ sym all;
      }
