-- What stands at a place of a sheet, by how much is left there and by the item's head and stored octets. Assumes nothing.
use mathlib.Core.Path.{◌≡◌, refl, sym, ap, ◌∙◌}
use mathlib.Core.Bool.{Bool, true, false, cond, not, ◌&&◌}
use mathlib.Core.List.{List, [], ◌∷◌}
use Prim.Native.Nat.{ℕ, suc, ◌+◌, ◌-◌, ◌<◌, ◌≤◌}
use native.Mathlib.Nat.{add-zero}
use native.Mathlib.Omega.{arith}
use lib.Dec.{eqb, ltb}
use borrow.Author.Tests.{lt-ltb, le-ltb, ltb-true, ltb-false}
use lib.ListN.{length, take, drop, get_or, length-drop}
use lib.Seq.{drop-drop, get_or-drop, length-take-le}
use Rattle.meaning.specs.Versions.{current}
use Rattle.meaning.specs.Octets.{Octets, packed_length}
use Rattle.meaning.specs.Sheet.{number_in, value_in, stored_length, Entered, holds, refused, judged_item, whole_item, entered}
use Rattle.meaning.proofs.Octets.{octet_at}
use Rattle.octets.specs.Parts.{part_of}
use Rattle.octets.proofs.Parts.{part_within}
use Rattle.area.specs.declared.Refusal.{Refusal}
use Rattle.std.specs.Prelude.{Ok, Err}
use Rattle.item.specs.declared.Head.{Head}
use Rattle.item.specs.Stands.{stands_for, stands_as}
use Rattle.item.specs.Answers.{Headed, entered_at, head_refused, head_from, headed_at}
use Rattle.item.proofs.Judging.{sub_wrong, stands_as_lem}

-- the judgement of an item whose octets are there
whole_stands : (d : List ℕ) → 4 + stored_length current (get_or d 2 0) (get_or d 3 0) ≤ length d →
    (let n = number_in (get_or d 0 0) (get_or d 1 0) (get_or d 2 0) in
    let k = stored_length current (get_or d 2 0) (get_or d 3 0) in
    let st = take k (drop 4 d) in
    whole_item current d ≡ cond (stands_for (get_or d 0 0) (get_or d 1 0) (get_or d 2 0) (get_or d 3 0) st) (holds n (value_in current n (get_or d 2 0) (get_or d 3 0) st) (4 + k)) (refused 23))
unfolding whole_item judged_item stands_for
whole_stands [] h = absurd (omega arith)
whole_stands (a ∷ []) h = absurd (omega arith)
whole_stands (a ∷ b ∷ []) h = absurd (omega arith)
whole_stands (a ∷ b ∷ x ∷ []) h = absurd (omega arith)
whole_stands (a ∷ b ∷ x ∷ y ∷ r) h =
    let k : ℕ = stored_length current x y in
    let e : 4 + k ≡ suc (suc (suc (suc k))) = omega arith in
    let n : length (take k r) ≡ k = length-take-le k r (omega arith) in
    rw (e, n)

module _ (l : List ℕ) (p : ℕ) where
  -- the head's octets, the octets it stores, and what it names
  abbrev form_at : ℕ
  form_at = get_or l (p + 2) 0

  abbrev count_at : ℕ
  count_at = get_or l (p + 3) 0

  abbrev pub size_at : ℕ
  size_at = 4 + stored_length current form_at count_at

  abbrev number_at : ℕ
  number_at = number_in (get_or l p 0) (get_or l (p + 1) 0) form_at

  abbrev stored_at : List ℕ
  stored_at = part_of l (p + 4) (stored_length current form_at count_at)

  no_head : length l - p < 4 → entered_at l p ≡ refused 22
  unfolding entered_at entered
  no_head h = rw (length-drop p l, lt-ltb (length l - p) 4 h)

  no_stored : 4 ≤ length l - p → length l - p < size_at → entered_at l p ≡ refused 22
  unfolding entered_at entered
  no_stored h g = rw (length-drop p l, le-ltb (length l - p) 4 h, get_or-drop p l 2 0, get_or-drop p l 3 0, lt-ltb (length l - p) size_at g)

  judged_at : size_at ≤ length l - p
      → entered_at l p ≡ cond (stands_for (get_or l p 0) (get_or l (p + 1) 0) form_at count_at stored_at)
      (holds number_at (value_in current number_at form_at count_at stored_at) size_at) (refused 23)
  unfolding entered_at entered part_of
  judged_at g =
      let first : get_or (drop p l) 0 0 ≡ get_or l p 0 = get_or-drop p l 0 0 ∙ ap (λ (k : ℕ). get_or l k 0) (add-zero p) in
      let whole : 4 + stored_length current (get_or (drop p l) 2 0) (get_or (drop p l) 3 0) ≤ length (drop p l) =
      rw (get_or-drop p l 2 0, get_or-drop p l 3 0, length-drop p l) g in
      rw (length-drop p l, le-ltb (length l - p) 4 (omega arith), get_or-drop p l 2 0, get_or-drop p l 3 0, le-ltb (length l - p) size_at g)
      (rw (first, get_or-drop p l 1 0, get_or-drop p l 2 0, get_or-drop p l 3 0, drop-drop 4 p l) at (whole_stands (drop p l) whole))

  -- ---- What `head_at` answers, by k, which `stored_len` gave, and n, which `number_in` gave

  pub headed_short : length l - p < 4 → head_refused 22 p ≡ headed_at l p
  unfolding headed_at
  headed_short h = rw (lt-ltb (length l - p) 4 h)

  module _ (k : ℕ) (is : k ≡ stored_length current form_at count_at) where
    pub headed_cut : 4 ≤ length l - p → length l - p < 4 + k → head_refused 22 p ≡ headed_at l p
    unfolding headed_at
    headed_cut h g = rw (le-ltb (length l - p) 4 h, lt-ltb (length l - p) size_at (omega (arith, is)))

    module _ (room : 4 + k ≤ length l - p) (n : ℕ) (named : n ≡ number_at) where
      pub headed_sub : ltb n 256 && not (eqb (get_or l (p + 1) 0) 0) ≡ true → head_refused 23 p ≡ headed_at l p
      unfolding headed_at head_from
      headed_sub e = let g = rw named at e in rw (le-ltb (length l - p) 4 (omega arith), le-ltb (length l - p) size_at (omega (arith, is)), g)

      pub headed_item : ltb n 256 && not (eqb (get_or l (p + 1) 0) 0) ≡ false → Ok (record { number = n; form = form_at; count = count_at; next = p + (4 + k) }) ≡ headed_at l p
      unfolding headed_at head_from
      headed_item e = let g = rw named at e in rw (le-ltb (length l - p) 4 (omega arith), le-ltb (length l - p) size_at (omega (arith, is)), g, named, is)

-- ---- For a caller of `head_at`

-- The answer r of `head_at`, known by what it ensures and by the arm of a match.
module _ (l : List ℕ) (p : ℕ) (o : Octets l) (r : Headed) (says : r ≡ headed_at l p) where
  -- the head of an item whose octets are there
  pub record AHead (number form count behind : ℕ) : Type 0 where
    pub room : size_at l p ≤ length l - p
    pub number_is : number ≡ number_at l p
    pub form_is : form ≡ form_at l p
    pub count_is : count ≡ count_at l p
    pub behind_is : behind ≡ p + size_at l p
    pub sub_is : ltb (number_at l p) 256 && not (eqb (get_or l (p + 1) 0) 0) ≡ false

  -- what it says
  abbrev here : Head
  here = record { number = number_at l p; form = form_at l p; count = count_at l p; next = p + size_at l p }

  -- the octets that it stores
  stored_long : size_at l p ≤ length l - p → length (stored_at l p) ≡ stored_length current (form_at l p) (count_at l p)
  stored_long g = part_within l (p + 4) (stored_length current (form_at l p) (count_at l p)) (omega arith)

  pub a_head : (h : Head) → r ≡ Ok h → AHead h.number h.form h.count h.next
  unfolding headed_at head_from
  a_head h q = go (ltb (length l - p) 4) (ltb (length l - p) (size_at l p)) (ltb (number_at l p) 256 && not (eqb (get_or l (p + 1) 0) 0)) refl refl (sym q ∙ says)
    where
      go : (a b c : Bool) → ltb (length l - p) (size_at l p) ≡ b → ltb (number_at l p) 256 && not (eqb (get_or l (p + 1) 0) 0) ≡ c
          → Ok h ≡ cond a (head_refused 22 p)
          (cond b (head_refused 22 p) (cond c (head_refused 23 p) (Ok here)))
          → AHead h.number h.form h.count h.next
      go true b c g s e = absurd (let z : ◌≡◌ {A = ℕ} 0 1 = cc in omega arith)
      go false true c g s e = absurd (let z : ◌≡◌ {A = ℕ} 0 1 = cc in omega arith)
      go false false true g s e = absurd (let z : ◌≡◌ {A = ℕ} 0 1 = cc in omega arith)
      go false false false g s e =
          let is : h ≡ here = cc in
          record {
            room = ltb-false (length l - p)
                (size_at l p) g;
            number_is = ap (λ (x : Head). x.number) is;
            form_is = ap (λ (x : Head). x.form) is;
            count_is = ap (λ (x : Head). x.count) is;
            behind_is = ap (λ (x : Head). x.next) is;
            sub_is = s;
          }

  pub a_refusal : (refusal : Refusal) → r ≡ Err refusal → (entered_at l p ≡ refused refusal.number) × (refusal.second ≡ p)
  unfolding headed_at head_from
  a_refusal refusal q = go (ltb (length l - p) 4) (ltb (length l - p) (size_at l p)) (ltb (number_at l p) 256 && not (eqb (get_or l (p + 1) 0) 0)) refl refl refl (sym q ∙ says)
    where
      with : (k : ℕ) → entered_at l p ≡ refused k → Err refusal ≡ head_refused k p
          → (entered_at l p ≡ refused refusal.number) × (refusal.second ≡ p)
      with k h e = let n : k ≡ refusal.number = cc in (h ∙ rw n, cc)

      go : (a b c : Bool) → ltb (length l - p) 4 ≡ a → ltb (length l - p) (size_at l p) ≡ b
          → ltb (number_at l p) 256 && not (eqb (get_or l (p + 1) 0) 0) ≡ c
          → Err refusal ≡ cond a (head_refused 22 p)
          (cond b (head_refused 22 p) (cond c (head_refused 23 p) (Ok here)))
          → (entered_at l p ≡ refused refusal.number) × (refusal.second ≡ p)
      go true b c h g s e = with 22 (no_head l p (ltb-true (length l - p) 4 h)) e
      go false true c h g s e = with 22 (no_stored l p (ltb-false (length l - p) 4 h) (ltb-true (length l - p) (size_at l p) g)) e
      go false false true h g s e =
          let room : size_at l p ≤ length l - p = ltb-false (length l - p) (size_at l p) g in
          let wrong : false ≡ stands_for (get_or l p 0) (get_or l (p + 1) 0) (form_at l p) (count_at l p) (stored_at l p) = sub_wrong (get_or l p 0) (get_or l (p + 1) 0) (form_at l p) (count_at l p) (stored_at l p) (octet_at l p o) (stored_long room) (number_at l p) refl s in
          with 23 (judged_at l p room ∙ rw (sym wrong)) e
      go false false false h g s e = absurd (let z : ◌≡◌ {A = ℕ} 0 1 = cc in omega arith)

  -- an item stands where some readable attribute of its number gives it
  module _ (number form count behind : ℕ) (h : AHead number form count behind) where
    -- the stored octets, from behind the head to the place behind the item
    stored_part_lem : take (behind - (p + 4)) (drop (p + 4) l) ≡ stored_at l p
    unfolding part_of
    stored_part_lem = let size : behind - (p + 4) ≡ stored_length current (form_at l p) (count_at l p) = omega (arith, h.behind_is) in rw size

    pub size_stored : length (take (behind - (p + 4)) (drop (p + 4) l)) ≡ stored_length current form count
    size_stored = ap length stored_part_lem ∙ stored_long h.room ∙ sym (λ i. stored_length current (h.form_is i) (h.count_is i))

    item_stands : stands_as number form count (take (behind - (p + 4)) (drop (p + 4) l)) ≡ stands_for (get_or l p 0) (get_or l (p + 1) 0)
        (form_at l p) (count_at l p) (stored_at l p)
    item_stands =
        rw (stored_part_lem, h.number_is, h.form_is, h.count_is)
        (stands_as_lem (get_or l p 0) (get_or l (p + 1) 0) (form_at l p) (count_at l p) (stored_at l p) (octet_at l p o) (stored_long h.room) (number_at l p) refl h.sub_is)

    -- what stands at the place, by the test of the item
    pub item_is : entered_at l p ≡ cond (stands_as number form count (take (behind - (p + 4)) (drop (p + 4) l)))
        (holds number (value_in current number form count (take (behind - (p + 4)) (drop (p + 4) l))) (size_at l p)) (refused 23)
    item_is =
        judged_at l p h.room ∙ ap (λ (b : Bool). cond b (holds (number_at l p) (value_in current (number_at l p) (form_at l p) (count_at l p) (stored_at l p)) (size_at l p)) (refused 23)) (sym item_stands)
        ∙ ap (λ (e : Entered). cond (stands_as number form count (take (behind - (p + 4)) (drop (p + 4) l))) e (refused 23)) (sym (λ i. holds (h.number_is i) (value_in current (h.number_is i) (h.form_is i) (h.count_is i) (stored_part_lem i)) (size_at l p)))
