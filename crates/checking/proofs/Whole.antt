-- The whole list: what the attributes break, and then the end; and what checking answers. Assumes nothing.
use mathlib.Core.Path.{◌≡◌, refl, sym, ap, subst, ◌∙◌}
use mathlib.Core.Bool.{Bool}
use mathlib.Core.List.{List, []}
use Prim.Native.Nat.{ℕ, ◌≤◌, ◌<◌}
use native.Mathlib.Omega.{arith}
use lib.Dec.{leb, leb→le}
use lib.ListN.{length, take, drop, length-take}
use lib.Seq.{take_at}
use borrow.Author.Tests.{lt-ltb, le-ltb}
use Rattle.meaning.specs.Jobs.{is_kind, Context}
use Rattle.meaning.specs.Framing.{walk}
use Rattle.meaning.specs.Refusals.{none, area_refusal, area_order}
use Rattle.meaning.specs.Listing.{chosen, along, at_end, numbers_of, breaches, views_of, list_of}
use Rattle.meaning.specs.Answers.{over, after, check_answer}
use Rattle.meaning.proofs.Tests.{parts, passes}
use Rattle.meaning.proofs.Walked.{no_refusal}
use Rattle.area.specs.declared.Refusal.{Refusal}
use Rattle.std.specs.Prelude.{Result, Ok, Err}
use Rattle.area.specs.Answers.{in_book, arrival_of}
use Rattle.area.proofs.Arriving.{Arrived, fit_arrived}
use Rattle.presence.specs.Rows.{row_of}
use Rattle.checking.specs.Table.{Known}
use Rattle.checking.specs.Lists.{LaysEntries, end_by, Ready, Broke, WalkedWhole, AlongSays, Listed, PassSays}
use Rattle.checking.specs.Answers.{Checked}
use Rattle.checking.proofs.Rows.{row_known}
use Rattle.checking.proofs.Laying.{laid_over, chosen_both}
use Rattle.checking.proofs.Ends.{end_meant}

-- ---- A pass

-- What the attributes break and then the end are the whole list.
pub pass_laid : (c : Context) (area codes : List ℕ) (seen : List Bool) → Ready c area codes → (d one held : List ℕ) (first said : ℕ)
    → WalkedWhole c area d first one seen → LaysEntries (chosen (end_by c codes seen (length area))) one first said held
    → PassSays c area d (Ok said) held
unfolding PassSays list_of breaches
pass_laid c area codes seen y d one held first said p q =
    let end = end_meant c (length area) codes seen (numbers_of (views_of c (walk area))) y.known y.row p.notes in
    record {
      sound = p.sound;
      lays =
          chosen_both (along c [] (views_of c (walk area))) (at_end c (length area) (numbers_of (views_of c (walk area)))) d one held 0 first
          said p.lays (rw end at q);
    }

-- The answer of `along`, known by what it ensures and by the arm of a match.
module _ (c : Context) (area d : List ℕ) (r : Result ℕ Refusal) (held : List ℕ) (seen : List Bool) (says : AlongSays c area d r held seen) where
  pub along_whole : (n : ℕ) → r ≡ Ok n → WalkedWhole c area d n held seen
  unfolding AlongSays
  along_whole n q = subst (λ (t : Result ℕ Refusal). AlongSays c area d t held seen) q says

  -- a refusal is handed on
  pub along_broken : (refused : Refusal) → r ≡ Err refused → PassSays c area d (Err refused) held
  unfolding AlongSays PassSays
  along_broken refused q = subst (λ (t : Result ℕ Refusal). AlongSays c area d t held seen) q says

-- ---- The answer

-- The first that applies is a refusal, which leaves the buffer as it was.
pub refused_checked : (c : Context) (area : List ℕ) (refused : Refusal) (d : List ℕ)
    → area_refusal c.kind c.flags area ≡ in_book refused → Checked c area d (Err refused) d
unfolding check_answer area_order after
refused_checked c area refused d e = record { says = rw e; holds = rw e }

-- Nothing of 1 to 3 applies.
module _ (c : Context) (area : List ℕ) (fit : arrival_of c.kind c.flags (length area) ≡ Ok tt) where
  arrived : Arrived c.kind c.flags area
  arrived = fit_arrived c.kind c.flags area (arrival_of c.kind c.flags (length area)) refl fit

  pub arrived_ready : (codes : List ℕ) → codes ≡ row_of c.kind → Ready c area codes
  unfolding is_kind
  arrived_ready codes e =
      let t = parts (leb 1 c.kind) (leb c.kind 6) (passes (is_kind c.kind) arrived.kind_ok) in
      let known : Known c.kind = record { least = leb→le 1 c.kind t.0; most = leb→le c.kind 6 t.1 } in
      record { short = arrived.short; known = known; row = row_known c codes known e }

  -- The first pass lays into a buffer e of its own, which is p then.
  module _ (d e p : List ℕ) (r : Result ℕ Refusal) (first : PassSays c area e r p) where
    -- the first of 4 to 8
    pub framing_refused : (refused : Refusal) → r ≡ Err refused → Checked c area d (Err refused) d
    unfolding PassSays
    framing_refused refused q =
        let b : Broke area e refused p = subst (λ (t : Result ℕ Refusal). PassSays c area e t p) q first in
        refused_checked c area refused d (arrived.left ∙ b.first)

    -- so many entries are needed
    module _ (needed : ℕ) (q : r ≡ Ok needed) where
      whole : Listed c area e needed p
      unfolding PassSays
      whole = subst (λ (t : Result ℕ Refusal). PassSays c area e t p) q first

      accepted : area_refusal c.kind c.flags area ≡ none
      accepted = arrived.left ∙ whole.sound

      counted : needed ≡ length (list_of c area)
      counted = omega (arith, whole.lays.counts)

      -- refusal 10
      pub too_long : length d < needed → Checked c area d (Err (record { number = 10; second = needed })) d
      unfolding check_answer area_order after
      too_long h =
          let t = lt-ltb (length d) (length (list_of c area)) (omega (arith, counted)) in
          record { says = rw (counted, accepted, t); holds = rw (accepted, t) }

      -- the list
      list_given : (held : List ℕ) → needed ≤ length d → held ≡ over (list_of c area) d → Checked c area d (Ok needed) held
      unfolding check_answer area_order after
      list_given held h same =
          let t = le-ltb (length d) (length (list_of c area)) (omega (arith, counted)) in
          record { says = rw (counted, accepted, t); holds = rw (accepted, t) same }

      -- it stands at the start of the buffer of the first pass, where that has room for it
      pub list_few : (held : List ℕ) → needed ≤ length e → needed ≤ length d → held ≡ over (take needed p) d
          → Checked c area d (Ok needed) held
      unfolding over
      list_few held few h same =
          let list : List ℕ = list_of c area in
          let there : take needed p ≡ list =
          ap (take needed) (laid_over list e p needed whole.lays (omega (arith, counted)))
          ∙ take_at list (drop (length list) e) needed (sym counted) in
          list_given held h (same ∙ ap (λ (l : List ℕ). over l d) there)

      -- else another pass lays it
      pub list_laid : (held : List ℕ) (said : Result ℕ Refusal) → needed ≤ length d → PassSays c area d said held → Checked c area d said held
      unfolding PassSays
      list_laid held (Ok n) h second =
          let same : n ≡ needed = omega (arith, second.lays.counts, counted) in
          rw same (list_given held h (laid_over (list_of c area) d held n second.lays (omega (arith, counted))))
      list_laid held (Err x) h second = no_refusal x.number x.second (sym second.first ∙ whole.sound)
