-- Sheets that begin with the same octets: what these decide is so for each of them. Assumes nothing.
use mathlib.Core.Path.{◌≡◌, refl, sym, ap, subst, ◌∙◌}
use mathlib.Core.Logic.{◌⊎◌, inl, inr}
use mathlib.Core.Bool.{Bool, true, false, ◌&&◌}
use mathlib.Core.List.{List, [], ◌∷◌, ◌++◌, append_assoc}
use Prim.Native.Nat.{ℕ, zero, suc, ◌+◌, ◌<◌, ◌≤◌}
use native.Mathlib.Omega.{arith}
use borrow.Author.Tests.{le-ltb, ltb-false, le-leb, leb-true, leb-false, eqb-true}
use lib.Dec.{leb, ltb}
use lib.ListN.{length, take, drop, get_or, length-append, length-drop, length-take, take-append-drop, get_or-append}
use lib.Seq.{take-append-le, drop-append-le, take_all, length-take-le}
use Rattle.meaning.specs.Octets.{same, number_of}
use Rattle.meaning.specs.Versions.{Version, one}
use Rattle.meaning.specs.Jobs.{is_kind, are_flags}
use Rattle.meaning.specs.Framing.{carries, Walk}
use Rattle.meaning.specs.Refusals.{Refusal, none, refusal, when, fault, too_long, sheet_refusal}
use Rattle.meaning.specs.Sheet.{stored_length, Entered, holds, refused, item, judged_item, whole_item, entered, on_item, items}
use Rattle.meaning.specs.Sheet.{items_in, kind_in, flags_in, area_in, marked, judged}
use Rattle.writing.specs.Starts.{filled, start_by, start_refusal}
use Rattle.writing.proofs.Whole.{marked_nine}

-- ---- One item

module _ (ver : Version) where
  -- an item's head and stored octets are there
  pub record IsWhole (l : List ℕ) : Type 0 where
    pub head : 4 ≤ length l
    pub all : 4 + stored_length ver (get_or l 2 0) (get_or l 3 0) ≤ length l

  -- it is the same item whatever follows
  whole_more : (l rest : List ℕ) → IsWhole l → entered ver (l ++ rest) ≡ entered ver l
  unfolding entered whole_item
  whole_more l rest w =
      let more : length (l ++ rest) ≡ length l + length rest = length-append l rest in
      let size : ℕ = 4 + stored_length ver (get_or l 2 0) (get_or l 3 0) in
      rw (
        get_or-append l rest 0 0 (omega (arith, w.head)),
        get_or-append l rest 0 1 (omega (arith, w.head)),
        get_or-append l rest 0 2 (omega (arith, w.head)),
        get_or-append l rest 0 3 (omega (arith, w.head)),
        le-ltb (length (l ++ rest)) 4 (omega (arith, w.head)),
        le-ltb (length l) 4 w.head,
        le-ltb (length (l ++ rest)) (4 + stored_length ver (get_or l 2 0) (get_or l 3 0)) (omega (arith, w.all)),
        le-ltb (length l) (4 + stored_length ver (get_or l 2 0) (get_or l 3 0)) w.all,
        take-append-le (4 + stored_length ver (get_or l 2 0) (get_or l 3 0)) l rest w.all,
      )

  -- an item is whole, or refused by 22
  whole_or_22 : (l : List ℕ) → IsWhole l ⊎ (entered ver l ≡ refused 22)
  unfolding entered
  whole_or_22 l = go (ltb (length l) 4) (ltb (length l) (4 + stored_length ver (get_or l 2 0) (get_or l 3 0))) refl refl
    where
      go :
          (a b : Bool) → ltb (length l) 4 ≡ a → ltb (length l) (4 + stored_length ver (get_or l 2 0) (get_or l 3 0)) ≡ b
          → IsWhole l ⊎ (entered ver l ≡ refused 22)
      go true b p q = inr (rw p)
      go false true p q = inr (rw (p, q))
      go false false p q = inl (record { head = ltb-false (length l) 4 p; all = ltb-false (length l) _ q })

  -- what is said of a whole item
  item_size : (n : ℕ) (v it : List ℕ) {m : ℕ} {u : List ℕ} {k : ℕ} → judged_item ver n v it ≡ holds m u k → k ≡ length it
  unfolding judged_item
  item_size n v it {m} {u} {k} e = go (carries n v && same (item ver n v) it) refl
    where
      go : (b : Bool) → (carries n v && same (item ver n v) it) ≡ b → k ≡ length it
      go true p = let g : holds n v (length it) ≡ holds m u k = rw p at e in cc
      go false p = absurd (let g : refused 23 ≡ holds m u k = rw p at e in let z : ◌≡◌ {A = ℕ} 0 1 = cc in omega arith)

  item_refused : (n : ℕ) (v it : List ℕ) {k : ℕ} → judged_item ver n v it ≡ refused k → k ≡ 23
  unfolding judged_item
  item_refused n v it {k} e = go (carries n v && same (item ver n v) it) refl
    where
      go : (b : Bool) → (carries n v && same (item ver n v) it) ≡ b → k ≡ 23
      go true p = absurd (let g : holds n v (length it) ≡ refused k = rw p at e in let z : ◌≡◌ {A = ℕ} 0 1 = cc in omega arith)
      go false p = let g : refused 23 ≡ refused k = rw p at e in cc

  whole_is : (l : List ℕ) → IsWhole l → entered ver l ≡ whole_item ver l
  unfolding entered
  whole_is l w = rw (le-ltb (length l) 4 w.head, le-ltb (length l) (4 + stored_length ver (get_or l 2 0) (get_or l 3 0)) w.all)

  holds_within : (l : List ℕ) {n : ℕ} {v : List ℕ} {size : ℕ} → IsWhole l → entered ver l ≡ holds n v size → size ≤ length l
  unfolding whole_item
  holds_within l w e =
      let k = item_size _ _ _ (sym (whole_is l w) ∙ e) in
      omega (arith, k, length-take (4 + stored_length ver (get_or l 2 0) (get_or l 3 0)) l)

  refused_by : (l : List ℕ) {k : ℕ} → entered ver l ≡ refused k → (k ≡ 22) ⊎ (k ≡ 23)
  unfolding whole_item
  refused_by l {k} e = go (whole_or_22 l)
    where
      go : IsWhole l ⊎ (entered ver l ≡ refused 22) → (k ≡ 22) ⊎ (k ≡ 23)
      go (inl w) = inr (item_refused _ _ _ (sym (whole_is l w) ∙ e))
      go (inr h) = inl (let g : refused k ≡ refused 22 = sym e ∙ h in cc)

  -- ---- The items

  -- the walk over items ends in no other refusal
  walk_by : (c p : ℕ) (l : List ℕ) {k q : ℕ} → fault (items ver c p l) ≡ refusal k q → (k ≡ 22) ⊎ (k ≡ 23)
  unfolding fault items
  walk_by zero p [] e = absurd (let z : ◌≡◌ {A = ℕ} 0 1 = cc in omega arith)
  walk_by zero p (x ∷ l) e = inl cc
  walk_by (suc c) p l {k} {q} e = go (entered ver l) refl e (λ size f. walk_by c (p + size) (drop size l) f)
    where
      rest : ℕ → Walk
      rest size = items ver c (p + size) (drop size l)

      go :
          (x : Entered) → entered ver l ≡ x → fault (on_item p rest x) ≡ refusal k q
          → ((size : ℕ) → fault (rest size) ≡ refusal k q → (k ≡ 22) ⊎ (k ≡ 23)) → (k ≡ 22) ⊎ (k ≡ 23)
      go (holds n v size) h f on = on size f
      go (refused i) h f on = let same_number : i ≡ k = cc in subst (λ (j : ℕ). (j ≡ 22) ⊎ (j ≡ 23)) same_number (refused_by l h)

  -- what is refused of kept octets with more behind them, where by themselves they are refused so and not by 22
  abbrev further_of : (behind : ℕ) → Refusal → Refusal
  further_of b none = refusal 22 b
  further_of b (refusal k q) = refusal k q

  abbrev NotCut : Refusal → Type 0
  NotCut none = Unit {0}
  NotCut (refusal k q) = k ≡ 22 → ⊥

  -- an item that is not cut is whole
  not_cut : (l : List ℕ) → (entered ver l ≡ refused 22 → ⊥) → IsWhole l
  not_cut l h = go (whole_or_22 l)
    where
      go : IsWhole l ⊎ (entered ver l ≡ refused 22) → IsWhole l
      go (inl w) = w
      go (inr e) = absurd (h e)

  walk_more : (c p : ℕ) (l rest : List ℕ) → 0 < length rest → (r : Refusal) → fault (items ver c p l) ≡ r → NotCut r
      → fault (items ver c p (l ++ rest)) ≡ further_of (p + length l) r
  unfolding fault items
  walk_more zero p [] [] h r e k = absurd (omega arith)
  walk_more zero p [] (y ∷ rest) h none e k = ap (refusal 22) (omega arith)
  walk_more zero p [] (y ∷ rest) h (refusal i j) e k = absurd (let z : ◌≡◌ {A = ℕ} 0 1 = cc in omega arith)
  walk_more zero p (x ∷ l) rest h none e k = absurd (let z : ◌≡◌ {A = ℕ} 0 1 = cc in omega arith)
  walk_more zero p (x ∷ l) rest h (refusal i j) e k = absurd (k cc)
  walk_more (suc c) p l rest h r e k = go (entered ver l) refl e (λ size f. walk_more c (p + size) (drop size l) rest h r f k)
    where
      on : ℕ → Walk
      on size = items ver c (p + size) (drop size l)

      onward : ℕ → Walk
      onward size = items ver c (p + size) (drop size (l ++ rest))

      cut_not : (i : ℕ) (s : Refusal) → NotCut s → refusal i p ≡ s → i ≡ 22 → ⊥
      cut_not i none n f z = absurd (let z : ◌≡◌ {A = ℕ} 0 1 = cc in omega arith)
      cut_not i (refusal j q) n f z = n (let g : i ≡ j = cc in sym g ∙ z)

      further : (i : ℕ) (s : Refusal) → refusal i p ≡ s → refusal i p ≡ further_of (p + length l) s
      further i none f = absurd (let z : ◌≡◌ {A = ℕ} 0 1 = cc in omega arith)
      further i (refusal j q) f = f

      go :
          (x : Entered) → entered ver l ≡ x → fault (on_item p on x) ≡ r
          → ((size : ℕ) → fault (on size) ≡ r
          → fault (items ver c (p + size) (drop size l ++ rest)) ≡ further_of (p + size + length (drop size l)) r)
          → fault (on_item p onward (entered ver (l ++ rest))) ≡ further_of (p + length l) r
      go (refused i) q f more =
          let w : IsWhole l = not_cut l (λ z. cut_not i r k f (let g : refused i ≡ refused 22 = sym q ∙ z in cc)) in
          ap (λ (x : Entered). fault (on_item p onward x)) (whole_more l rest w ∙ q) ∙ further i r f
      go (holds n v size) q f more =
          let w : IsWhole l = not_cut l (λ z. let g : holds n v size ≡ refused 22 = sym q ∙ z in let z : ◌≡◌ {A = ℕ} 0 1 = cc in omega arith) in
          let fits : size ≤ length l = holds_within l w q in
          let same_end : p + size + length (drop size l) ≡ p + length l = omega (arith, length-drop size l) in
          ap (λ (x : Entered). fault (on_item p onward x)) (whole_more l rest w ∙ q)
          ∙ ap (λ (t : List ℕ). fault (items ver c (p + size) t)) (drop-append-le size l rest fits)
          ∙ more size f
          ∙ ap (λ (b : ℕ). further_of b r) same_end

-- ---- The sheet

abbrev allowed_in : List ℕ → Bool
allowed_in l = is_kind (kind_in l) && are_flags (flags_in l)

-- its judgement, by the first that applies
module _ (l : List ℕ) where
  by_20 : marked l ≡ false → judged l ≡ refusal 20 0
  unfolding judged sheet_refusal
  by_20 m = rw m

  module _ (m : marked l ≡ true) where
    by_21 : allowed_in l ≡ false → judged l ≡ refusal 21 0
    unfolding judged sheet_refusal
    by_21 a = rw (m, a)

    by_items : {k q : ℕ} → allowed_in l ≡ true → fault (items_in l) ≡ refusal k q → judged l ≡ refusal k q
    unfolding judged sheet_refusal
    by_items a f = rw (m, a, f)

    by_length : allowed_in l ≡ true → fault (items_in l) ≡ none → judged l ≡ too_long 24 (length (area_in l))
    unfolding judged sheet_refusal
    by_length a f = rw (m, a, f)

-- nine octets and more are the front of a longer sheet too
module _ (l rest : List ℕ) (h : 9 ≤ length l) where
  longer : length (l ++ rest) ≡ length l + length rest
  longer = length-append l rest

  marked_more : marked (l ++ rest) ≡ marked l
  unfolding marked
  marked_more = rw (le-leb 9 (length (l ++ rest)) (omega (arith, longer)), le-leb 9 (length l) h, take-append-le 5 l rest (omega arith))

  allowed_more : allowed_in (l ++ rest) ≡ allowed_in l
  allowed_more = rw (get_or-append l rest 0 5 (omega arith), get_or-append l rest 0 6 (omega arith))

  items_more : 0 < length rest → (r : Refusal) → fault (items_in l) ≡ r → NotCut one r
      → fault (items_in (l ++ rest)) ≡ further_of one (length l) r
  unfolding items_in
  items_more some r f k =
      let count : take 2 (drop 7 (l ++ rest)) ≡ take 2 (drop 7 l) =
      ap (take 2) (drop-append-le 7 l rest (omega arith)) ∙ take-append-le 2 (drop 7 l) rest (omega (arith, length-drop 7 l)) in
      let size : 9 + length (drop 9 l) ≡ length l = omega (arith, length-drop 9 l) in
      rw (count, drop-append-le 9 l rest h)
      (walk_more one (number_of (take 2 (drop 7 l))) 9 (drop 9 l) rest some r f k ∙ ap (λ (b : ℕ). further_of one b r) size)

  -- items that fill the kept octets leave the rest
  filled_more : 0 < length rest → marked l ≡ true → allowed_in l ≡ true → fault (items_in l) ≡ none
      → judged (l ++ rest) ≡ refusal 22 (length l)
  filled_more some m a f = by_items (l ++ rest) (marked_more ∙ m) (allowed_more ∙ a) (items_more some none f tt)

-- what is filled has no refusal but 24
filled_is : (l : List ℕ) → filled (judged l) ≡ true → (marked l ≡ true) × ((allowed_in l ≡ true) × (fault (items_in l) ≡ none))
unfolding filled items_in
filled_is l e = go (marked l) refl (allowed_in l) refl (fault (items_in l)) refl
  where
    go :
        (m : Bool) → marked l ≡ m → (a : Bool) → allowed_in l ≡ a → (r : Refusal) → fault (items_in l) ≡ r
        → (marked l ≡ true) × ((allowed_in l ≡ true) × (fault (items_in l) ≡ none))
    go false p a q r f = absurd (let g : filled (refusal 20 0) ≡ true = rw (by_20 l p) at e in let z : ◌≡◌ {A = ℕ} 0 1 = cc in omega arith)
    go true p false q r f = absurd (let g : filled (refusal 21 0) ≡ true = rw (by_21 l p q) at e in let z : ◌≡◌ {A = ℕ} 0 1 = cc in omega arith)
    go true p true q none f = (p, (q, f))
    go true p true q (refusal k s) f =
        let g : filled (refusal k s) ≡ true = rw (by_items l p q f) at e in
        absurd (not_24 (walk_by one _ 9 (drop 9 l) f) (eqb-true k 24 g))
      where
        not_24 : (k ≡ 22) ⊎ (k ≡ 23) → k ≡ 24 → ⊥
        not_24 (inl x) y = omega arith
        not_24 (inr x) y = omega arith

-- a refusal that is given has its test passed
when_is : (b : Bool) (k q : ℕ) {n s : ℕ} → when b k q ≡ refusal n s → (b ≡ true) × (refusal k q ≡ refusal n s)
when_is true k q e = (refl, e)
when_is false k q e = absurd (let z : ◌≡◌ {A = ℕ} 0 1 = cc in omega arith)

-- What the kept octets decide is the first refusal of every longer sheet that begins with them.
module _ (l rest : List ℕ) (some : 0 < length rest) where
  -- a 22 that stands where the items before it end
  remains : (q : ℕ) → judged l ≡ refusal 22 q → filled (judged (take q l)) ≡ true → judged (l ++ rest) ≡ refusal 22 q
  unfolding filled
  remains q e f = go (leb q (length l)) refl
    where
      go : (b : Bool) → leb q (length l) ≡ b → judged (l ++ rest) ≡ refusal 22 q
      go false h =
          let all : take q l ≡ l = take_all q l (omega (arith, leb-false q (length l) h)) in
          absurd (let g : filled (refusal 22 q) ≡ true = rw (all, e) at f in let z : ◌≡◌ {A = ℕ} 0 1 = cc in omega arith)
      go true h =
          let size : length (take q l) ≡ q = length-take-le q l (leb-true q (length l) h) in
          let more : 0 < length (drop q l ++ rest) = omega (arith, length-append (drop q l) rest) in
          let parts : l ++ rest ≡ take q l ++ (drop q l ++ rest) =
          ap (λ (t : List ℕ). t ++ rest) (sym (take-append-drop q l)) ∙ append_assoc (take q l) (drop q l) rest in
          let is = filled_is (take q l) f in
          ap judged parts
          ∙ filled_more (take q l) (drop q l ++ rest) (marked_nine (take q l) is.0) more is.0 is.1.0 is.1.1
          ∙ ap (refusal 22) size

  pub start_decides : {n s : ℕ} → start_refusal l ≡ refusal n s → judged (l ++ rest) ≡ refusal n s
  unfolding start_refusal items_in
  start_decides {n} {s} e = go (marked l) refl (allowed_in l) refl (fault (items_in l)) refl e
    where
      long : (b : Bool) (size : ℕ) → start_by l (when b 24 size) ≡ refusal n s → refusal 22 (length l) ≡ refusal n s
      long true size h = h
      long false size h = h

      by : {k j : ℕ} → marked l ≡ true → allowed_in l ≡ true → fault (items_in l) ≡ refusal k j → (k ≡ 22) ⊎ (k ≡ 23)
          → start_by l (refusal k j) ≡ refusal n s → judged (l ++ rest) ≡ refusal n s
      by {k} {j} p q f (inl x) h =
          let w = when_is (filled (judged (take j l))) 22 j (rw x at h) in
          remains j (by_items l p q (rw x at f)) w.0 ∙ w.1
      by {k} {j} p q f (inr x) h =
          let nine = marked_nine l p in
          let w = when_is (leb 9 (length l)) 23 j (rw x at h) in
          by_items (l ++ rest) (marked_more l rest nine ∙ p) (allowed_more l rest nine ∙ q)
          (items_more l rest nine some (refusal 23 j) (rw x at f) (λ e. let z : ◌≡◌ {A = ℕ} 23 22 = e in omega arith))
          ∙ w.1

      go :
          (m : Bool) → marked l ≡ m → (a : Bool) → allowed_in l ≡ a → (r : Refusal) → fault (items_in l) ≡ r → start_by l (judged l) ≡ refusal n s
          → judged (l ++ rest) ≡ refusal n s
      go false p a q r f h =
          let w = when_is (leb 9 (length l)) 20 0 (rw (by_20 l p) at h) in
          by_20 (l ++ rest) (marked_more l rest (leb-true 9 (length l) w.0) ∙ p) ∙ w.1
      go true p false q r f h =
          let w = when_is (leb 9 (length l)) 21 0 (rw (by_21 l p q) at h) in
          let k = leb-true 9 (length l) w.0 in
          by_21 (l ++ rest) (marked_more l rest k ∙ p) (allowed_more l rest k ∙ q) ∙ w.1
      go true p true q none f h =
          filled_more l rest (marked_nine l p) some p q f ∙ long (ltb 4076 (length (area_in l))) (length (area_in l)) (rw (by_length l p q f) at h)
      go true p true q (refusal k j) f h = by p q f (walk_by one _ 9 (drop 9 l) f) (rw (by_items l p q f) at h)
