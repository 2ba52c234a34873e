-- The walk over the items of a sheet that finds the place of the first item of a number. Assumes nothing.
use Rattle.std.proofs.Common.{◌≡◌, ℕ, ◌-◌, ◌<◌, Bool, true, false, List, [], ◌∷◌, drop, sym, refl, ap, subst, ◌∙◌, arith}
use Rattle.std.specs.Prelude.{Option, None, Some, Ok, Err}
use Rattle.std.specs.Option.{option_or}
use Rattle.meaning.specs.Octets.{Octets, number_of}
use Rattle.meaning.specs.Framing.{Walk, next, attributes}
use Rattle.meaning.specs.Refusals.{none, fault}
use Rattle.meaning.specs.Versions.{current}
use Rattle.meaning.specs.Sheet.{items, judged, refused}
use Rattle.meaning.proofs.Walked.{no_refusal}
use Rattle.meaning.proofs.Sheets.{unrefused}
use Rattle.octets.specs.Parts.{part_of}
use Rattle.area.specs.declared.Refusal.{Refusal}
use Rattle.item.specs.declared.Head.{Head}
use Rattle.item.specs.Stands.{stands_as}
use Rattle.item.specs.Answers.{Headed, entered_at, headed_at}
use Rattle.item.proofs.Entering.{a_refusal}
use Rattle.writing.specs.Attributes.{value_as}
use Rattle.writing.proofs.Entries.{stored_here, no_entry, entry_here}
use Rattle.writing.proofs.Walking.{items_at, items_start, items_enter, items_refuse}
use Rattle.ledger.specs.declared.Firsts.{Firsts}
use Rattle.ledger.specs.Firsts.{first_place, place_in, first_with, firsts_of, firsts_with}

-- of the items before a place the first of a number stands at the place that was found, if any does; behind it so many are left
abbrev pub Found : (n : ℕ) (l : List ℕ) (left place : ℕ) (found : Option ℕ) → Type 0
Found n l left place found = place_in n l ≡ option_or found (first_place n (attributes (items_at l left place)))

-- The loop stands at a place with so many items left, of which none is refused, and found the first places before it.
pub record Looking (l : List ℕ) (left place : ℕ) (firsts : Firsts) : Type 0 where
  pub sound : fault (items_at l left place) ≡ none
  pub input_octets : Found 42 l left place firsts.input_octets
  pub output_octets : Found 43 l left place firsts.output_octets
  pub session : Found 44 l left place firsts.session
  pub input_packets : Found 47 l left place firsts.input_packets
  pub output_packets : Found 48 l left place firsts.output_packets

-- none before the first
abbrev NoneFound : Firsts → Type 0
NoneFound f =
    (f.input_octets ≡ None) × ((f.output_octets ≡ None) × ((f.session ≡ None) × ((f.input_packets ≡ None) × (f.output_packets ≡ None))))

pub looking_none : (l : List ℕ) (left : ℕ) → left ≡ number_of (part_of l 7 2) → judged l ≡ none → (firsts : Firsts) → NoneFound firsts
    → Looking l left 9 firsts
looking_none l left e j firsts h =
    record {
      sound = ap fault (sym (items_start l left e)) ∙ (unrefused l j).sound;
      input_octets = none_found 42 _ h.0;
      output_octets = none_found 43 _ h.1.0;
      session = none_found 44 _ h.1.1.0;
      input_packets = none_found 47 _ h.1.1.1.0;
      output_packets = none_found 48 _ h.1.1.1.1;
    }
  where
    none_found : (n : ℕ) (found : Option ℕ) → found ≡ None → Found n l left 9 found
    none_found n found q = rw q (ap (λ (w : Walk). first_place n (attributes w)) (items_start l left e))

-- an item that is left is entered, and what is behind it
record Stepped (l : List ℕ) (left place number behind : ℕ) : Type 0 where
  value : List ℕ
  onward : items_at l left place ≡ next (record { place = place; number = number; value = value }) (items_at l (left - 1) behind)

module _ (l : List ℕ) (left place : ℕ) (firsts : Firsts) (k : Looking l left place firsts) (some : 0 < left) (o : Octets l) (r : Headed)
    (says : r ≡ headed_at l place) where
  -- nothing is refused
  never : {X : Type 0} (n : ℕ) → entered_at l place ≡ refused n → X
  unfolding fault
  never n e = no_refusal n place (sym (ap fault (items_refuse l left place n some e)) ∙ k.sound)

  pub no_head : {X : Type 0} (x : Refusal) → r ≡ Err x → X
  no_head x q = never x.number (a_refusal l place o r says x q).0

  module _ (h : Head) (q : r ≡ Ok h) where
    stepped : Stepped l left place h.number h.next
    stepped = go (stands_as h.number h.form h.count (stored_here l place o r says h q)) refl
      where
        value_here : List ℕ
        value_here = value_as h.number h.form h.count (stored_here l place o r says h q)

        go : (b : Bool) → stands_as h.number h.form h.count (stored_here l place o r says h q) ≡ b → Stepped l left place h.number h.next
        go true e =
            let here = entry_here l place o r says h q e in
            record {
              value = value_here;
              onward = items_enter l left place h.number value_here here.size some here.entered_is
                  ∙ ap (λ (b : ℕ). next (record { place = place; number = h.number; value = value_here }) (items_at l (left - 1) b)) (sym here.behind_is);
            }
        go false e = never 23 (no_entry l place o r says h q e)

    -- with the item
    pub found_more : (m : ℕ) (found : Option ℕ) → Found m l left place found → Found m l (left - 1) h.next (first_with m h.number place found)
    unfolding attributes first_place
    found_more m found f = f ∙ rw stepped.onward (grind arith)

    pub looking_more : (now : Firsts) → now ≡ firsts_with firsts h.number place → Looking l (left - 1) h.next now
    unfolding firsts_with fault
    looking_more now e =
        rw e (record {
          sound = sym (ap fault stepped.onward) ∙ k.sound;
          input_octets = found_more 42 firsts.input_octets k.input_octets;
          output_octets = found_more 43 firsts.output_octets k.output_octets;
          session = found_more 44 firsts.session k.session;
          input_packets = found_more 47 firsts.input_packets k.input_packets;
          output_packets = found_more 48 firsts.output_packets k.output_packets;
        })

-- no item is left
module _ (l : List ℕ) (place : ℕ) where
  nothing_left : (n : ℕ) → first_place n (attributes (items_at l 0 place)) ≡ None
  unfolding items_at items attributes first_place
  nothing_left n = go (drop place l)
    where
      go : (d : List ℕ) → first_place n (attributes (items current 0 place d)) ≡ None
      go [] = refl
      go (x ∷ d) = refl

  pub found_all : (n : ℕ) (found : Option ℕ) → Found n l 0 place found → found ≡ place_in n l
  found_all n None f = sym (f ∙ nothing_left n)
  found_all n (Some p) f = sym f

  pub looking_all : (left : ℕ) → left ≡ 0 → (firsts : Firsts) → Looking l left place firsts → firsts ≡ firsts_of l
  unfolding firsts_of
  looking_all left e firsts k =
      let i = subst (λ (n : ℕ). Looking l n place firsts) e k in
      rw (
        sym (found_all 42 firsts.input_octets i.input_octets),
        sym (found_all 43 firsts.output_octets i.output_octets),
        sym (found_all 44 firsts.session i.session),
        sym (found_all 47 firsts.input_packets i.input_packets),
        sym (found_all 48 firsts.output_packets i.output_packets),
      )
