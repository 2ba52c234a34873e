-- What writing answers: the first refusal that applies, or the area. Assumes nothing.
use mathlib.Core.Path.{◌≡◌, refl, sym, ◌∙◌}
use mathlib.Core.Bool.{Bool, true, false, not, ◌&&◌}
use mathlib.Core.List.{List}
use Prim.Native.Nat.{ℕ, ◌+◌, ◌≤◌, ◌<◌}
use native.Mathlib.Omega.{arith}
use lib.Dec.{leb, leb→le}
use borrow.Author.Tests.{lt-ltb, le-ltb}
use lib.ListN.{length, take}
use lib.Seq.{length-take-le}
use Rattle.meaning.specs.Octets.{octets_of}
use Rattle.meaning.specs.Jobs.{is_kind, are_flags}
use Rattle.meaning.specs.Refusals as book
use Rattle.meaning.specs.Refusals.{none, refusal, fault, too_short, sheet_refusal}
use Rattle.meaning.specs.Sheet.{items_in, kind_in, flags_in, area_in, marked, judged}
use Rattle.meaning.specs.Answers as meant
use Rattle.meaning.specs.Answers.{unless, over, after, write_answer, area_answer}
use Rattle.meaning.proofs.Tests.{parts, passes}
use Rattle.meaning.proofs.Sheets.{unrefused}
use Rattle.octets.specs.Handing.{handing, Handed}
use Rattle.octets.proofs.Handing.{handed_not, handed_over}
use Rattle.area.specs.declared.Refusal.{Refusal}
use Rattle.std.specs.Prelude.{Result, Ok, Err}
use Rattle.writing.specs.declared.Written.{Written}
use Rattle.writing.specs.Attributes.{span}
use Rattle.writing.specs.Answers.{front_refusal, front_from, front_of, pass_from, Transcribed, Made}
use Rattle.writing.specs.Answers.{Judgement, judgement_of, judgement_by, area_said, HandedOver, writing_of, Wrote}

-- a marked sheet has its nine octets
pub marked_nine : (l : List ℕ) → marked l ≡ true → 9 ≤ length l
unfolding marked octets_of
marked_nine l e = leb→le 9 (length l) (parts (leb 9 (length l)) _ (passes _ e)).0

-- ---- The judgement

-- kind and flags are allowed
abbrev allowed : List ℕ → Bool
allowed l = is_kind (kind_in l) && are_flags (flags_in l)

module _ (l : List ℕ) where
  pub front_20 : marked l ≡ false → front_from (refusal 20 0) ≡ front_of l
  unfolding front_of front_refusal
  front_20 m = rw m

  -- what the tests of kind and flags say
  module _ (m : marked l ≡ true) (a b : Bool) (p : a ≡ is_kind (kind_in l)) (q : b ≡ are_flags (flags_in l)) where
    pub front_21 : not (a && b) ≡ true → front_from (refusal 21 0) ≡ front_of l
    unfolding front_of front_refusal
    front_21 e = rw (m, sym p, sym q, e)

    pub front_fit : not (a && b) ≡ false → Ok tt ≡ front_of l
    unfolding front_of front_refusal
    front_fit e = rw (m, sym p, sym q, e)

  -- by what the front says
  module _ (r : Result (Unit {0}) Refusal) (says : r ≡ front_of l) where
    pub judged_front : (x : Refusal) → r ≡ Err x → judged l ≡ refusal x.number x.second
    unfolding front_of front_refusal judged sheet_refusal
    judged_front x e = go (marked l) refl (allowed l) refl (sym e ∙ says)
      where
        go :
            (m : Bool) → marked l ≡ m → (a : Bool) → allowed l ≡ a → Err x ≡ front_of l
            → judged l ≡ refusal x.number x.second
        go false p a q h = let is : x ≡ record { number = 20; second = 0 } = (let g : Err x ≡ front_from (refusal 20 0) = rw p at h in cc) in rw (p, is)
        go true p false q h = let is : x ≡ record { number = 21; second = 0 } = (let g : Err x ≡ front_from (refusal 21 0) = rw (p, q) at h in cc) in rw (p, q, is)
        go true p true q h = absurd (let g : Err x ≡ Ok tt = rw (p, q) at h in let z : ◌≡◌ {A = ℕ} 0 1 = cc in omega arith)

    module _ (e : r ≡ Ok tt) where
      passed_front : (marked l ≡ true) × (allowed l ≡ true)
      unfolding front_of front_refusal
      passed_front = go (marked l) refl (allowed l) refl (sym e ∙ says)
        where
          go : (m : Bool) → marked l ≡ m → (a : Bool) → allowed l ≡ a → Ok tt ≡ front_of l → (marked l ≡ true) × (allowed l ≡ true)
          go false p a q h = absurd (let g : Ok tt ≡ front_from (refusal 20 0) = rw p at h in let z : ◌≡◌ {A = ℕ} 0 1 = cc in omega arith)
          go true p false q h = absurd (let g : Ok tt ≡ front_from (refusal 21 0) = rw (p, q) at h in let z : ◌≡◌ {A = ℕ} 0 1 = cc in omega arith)
          go true p true q h = (p, q)

      pub front_nine : 9 ≤ length l
      front_nine = marked_nine l passed_front.0

      -- by what the items say
      module _ (t : Result ℕ Refusal) (buf : List ℕ) (w : Transcribed l t buf) where
        -- a refusal of an item
        pub items_refused : (x : Refusal) → t ≡ Err x → Made l (Err x) buf
        unfolding judgement_of judged sheet_refusal
        items_refused x h = record { says = go (fault (items_in l)) refl w.says; holds = w.holds }
          where
            go : (r : book.Refusal) → fault (items_in l) ≡ r → t ≡ pass_from r (length (area_in l)) → Err x ≡ judgement_of l
            go none f q = absurd (let g : Err x ≡ Ok (length (area_in l)) = sym h ∙ q in let z : ◌≡◌ {A = ℕ} 0 1 = cc in omega arith)
            go (refusal n s) f q =
                let g : Err x ≡ Err (record { number = n; second = s }) = sym h ∙ q in
                let is : x ≡ record { number = n; second = s } = cc in
                rw (passed_front.0, passed_front.1, f, is)

        -- none is refused
        module _ (n : ℕ) (h : t ≡ Ok n) where
          sound : (fault (items_in l) ≡ none) × (n ≡ length (area_in l))
          sound = go (fault (items_in l)) refl w.says
            where
              go : (r : book.Refusal) → fault (items_in l) ≡ r → t ≡ pass_from r (length (area_in l))
                  → (fault (items_in l) ≡ none) × (n ≡ length (area_in l))
              go none f q = (f, (let g : Ok n ≡ Ok (length (area_in l)) = sym h ∙ q in cc))
              go (refusal m s) f q = absurd (let g : Ok n ≡ Err (record { number = m; second = s }) = sym h ∙ q in let z : ◌≡◌ {A = ℕ} 0 1 = cc in omega arith)

          pub area_long : 4076 < n → Made l (Err (record { number = 24; second = n })) buf
          unfolding judgement_of judged sheet_refusal
          area_long long =
              record {
                says = rw (passed_front.0, passed_front.1, sound.0, sym sound.1, lt-ltb 4076 n long);
                holds = w.holds;
              }

          pub area_made : n ≤ 4076 → Made l (Ok (record { length = n; kind = kind_in l; flags = flags_in l })) buf
          unfolding judgement_of judged sheet_refusal
          area_made short =
              record {
                says = rw (passed_front.0, passed_front.1, sound.0, sym sound.1, le-ltb 4076 n short);
                holds = w.holds;
              }

-- the judgement without a buffer
pub judged_refused : (l : List ℕ) (x : Refusal) → judged l ≡ refusal x.number x.second → Err x ≡ judgement_of l
unfolding judgement_of
judged_refused l x e = rw e

-- a sheet that is written by its judgement
pub judged_written : (l : List ℕ) (w : Written) → Ok w ≡ judgement_of l
    → (judged l ≡ none) × (w ≡ record { length = length (area_in l); kind = kind_in l; flags = flags_in l })
unfolding judgement_of
judged_written l w e = go (judged l) refl e
  where
    go : (r : book.Refusal) → judged l ≡ r → Ok w ≡ judgement_by r l
        → (judged l ≡ none) × (w ≡ record { length = length (area_in l); kind = kind_in l; flags = flags_in l })
    go none f q = (f, cc)
    go (refusal n s) f q = absurd (let z : ◌≡◌ {A = ℕ} 0 1 = cc in omega arith)

-- a written area has at most 4,076 octets
pub size_short : (l : List ℕ) (w : Written) → Ok w ≡ judgement_of l → w.length ≤ 4076
size_short l w e = let j = judged_written l w e in rw j.1 (unrefused l j.0).short

-- ---- What is handed over

module _ (w : Written) (made d : List ℕ) (within : w.length ≤ length made) where
  pub made_long : length (take w.length made) ≡ w.length
  made_long = length-take-le w.length made within

  pub over_not : length d < w.length → HandedOver w made d (Err (record { number = 25; second = w.length })) d
  unfolding HandedOver
  over_not h = rw made_long at (handed_not (area_said w.kind w.flags) 25 (take w.length made) d (omega (arith, made_long)))

  pub over_laid : (out : List ℕ) → w.length ≤ length d → out ≡ over (take w.length made) d → HandedOver w made d (Ok w) out
  unfolding HandedOver
  over_laid out h e =
      rw made_long at (handed_over (area_said w.kind w.flags) 25 (take w.length made) d out (omega (arith, made_long)) e)

-- ---- What is written

-- what is answered for a refusal, and for the area
answered : (r : book.Refusal) (w : meant.Written) → (d : List ℕ) (said : Judgement) (held : List ℕ)
    → meant.Promise (area_said w.kind w.flags (unless r w.area)) (unless r w.area) d said held
    → meant.Promise (writing_of (unless r w)) (area_answer (unless r w)) d said held
unfolding area_answer
answered none w d said held p = p
answered (refusal n s) w d said held p = p

-- A refusal that was judged leaves the buffer as it was.
pub refused_wrote : (l d : List ℕ) (x : Refusal) → judged l ≡ refusal x.number x.second → Wrote l d (Err x) d
unfolding write_answer area_answer after
refused_wrote l d x e = record { says = rw e; holds = rw e }

-- A refusal of a sheet whose area was to be made leaves the buffer as it was.
pub made_refused : (l made d : List ℕ) (r : Judgement) → Made l r made → (x : Refusal) → r ≡ Err x → Wrote l d (Err x) d
unfolding judgement_of
made_refused l made d r m x q = refused_wrote l d x (go (judged l) refl (sym q ∙ m.says))
  where
    go : (y : book.Refusal) → judged l ≡ y → Err x ≡ judgement_by y l → judged l ≡ refusal x.number x.second
    go none f e = absurd (let z : ◌≡◌ {A = ℕ} 0 1 = cc in omega arith)
    go (refusal n s) f e =
        let g : Err x ≡ Err (record { number = n; second = s }) = e in
        let is : x ≡ record { number = n; second = s } = cc in
        rw (f, is)

-- What is handed over of a sheet that is written, by a buffer with room behind its area, is what writing answers.
pub written : (l made d : List ℕ) (r : Judgement) → Made l r made → (w : Written) → r ≡ Ok w → w.length + span ≤ length made
    → (said : Judgement) (held : List ℕ) → HandedOver w made d said held → Wrote l d said held
unfolding write_answer HandedOver handing area_answer after
written l made d r m w q room said held h =
    let j = judged_written l w (sym q ∙ m.says) in
    let all : take (length (area_in l)) made ≡ area_in l = m.holds (unrefused l j.0).sound (rw j.1 at room) in
    let p : Handed (area_said (kind_in l) (flags_in l)) 25 (area_in l) d said held = rw all at (rw j.1 at h) in
    rw j.0
    (answered (too_short 25 (length (area_in l)) (length d)) (record { kind = kind_in l; flags = flags_in l; area = area_in l }) d said held p)
