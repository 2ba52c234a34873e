-- The computed list of an area's breaches has exactly the breaches, in rising order. Assumes nothing.
use mathlib.Core.Path.{◌≡◌, refl, sym, ap, ap₂}
use mathlib.Core.Logic.{◌⊎◌, inl, inr, ⊎_elim}
use mathlib.Core.Bool.{Bool, true, false, cond, not, ◌&&◌, ◌||◌}
use mathlib.Core.List.{List, [], ◌∷◌, ◌++◌, map, append_assoc, append-nil}
use Prim.Native.Nat.{ℕ, suc, ◌+◌, ◌*◌, ◌-◌, ◌≤◌, ◌<◌}
use native.Mathlib.Omega.{arith}
use lib.Dec.{T, eqb, ltb, eqb→eq, T_not, not_T}
use lib.ListN.{length}
use borrow.Author.Tests.{ltb-true}
use Rattle.meaning.specs.Octets.{is_in, between, all}
use Rattle.meaning.specs.Jobs.{pap, chap, class, Context}
use Rattle.meaning.specs.Framing.{gpp, Attribute, walk}
use Rattle.meaning.specs.Sheet.{type_of, sub_of}
use Rattle.meaning.specs.Presence.{is_session, mandatory, with_pap, with_chap, with_class, conditional}
use Rattle.meaning.specs.Breaches.{entry, misses, offends, once_only, asks_pdp_type, Among, Present, Absent, After}
use Rattle.meaning.specs.Breaches.{Wanted, by_name, by_flags, by_protocol}
use Rattle.meaning.specs.Breaches.{Breach, shape1, value2, again3, here4, both5, lacks6, wants7, Lists}
use Rattle.meaning.specs.Listing.{Candidate, chosen, View, view, broken_by, at_attribute, along, demandable, wantable, lacking}
use Rattle.meaning.specs.Listing.{wants, wanting, at_end, numbers_of, breaches, views_of, list_of}
use Rattle.meaning.proofs.Tests.{parts, both, either, left_or, right_or, in_among, among_in, in_within}
use Rattle.meaning.proofs.Rising.{among_left, among_right, among_map, Ordered, ordered_lower, ordered_append, key_between}
use Rattle.meaning.proofs.Rising.{Chosen, chosen_left, chosen_right, Each, each_append, each_map, each_chosen, chosen_lists}

-- the attributes stand at rising places, from p on, below the size, and their numbers are below 512
abbrev pub Placed : (p : ℕ) → List Attribute → (size : ℕ) → Type 0
Placed p [] size = p ≤ size
Placed p (a ∷ l) size = (p ≤ a.place) × (a.number < 512) × Placed (suc a.place) l size

-- For request 12: areas of one length whose attributes have the same views have the same list.
pub same_views : (c : Context) (area other : List ℕ) → length area ≡ length other → views_of c (walk area) ≡ views_of c (walk other)
    → list_of c area ≡ list_of c other
unfolding list_of
same_views c area other s v = ap₂ (breaches c) s v

-- ---- Presence as a test on the numbers

-- the numbers that attributes carry
abbrev pub carried_by : List Attribute → List ℕ
carried_by = map (λ (a : Attribute). a.number)

-- are those seen by their views
pub numbers_viewed : (c : Context) (l : List Attribute) → numbers_of (map (view c) l) ≡ carried_by l
unfolding view
numbers_viewed c [] = refl
numbers_viewed c (a ∷ l) = ap (λ (m : List ℕ). a.number ∷ m) (numbers_viewed c l)

in_present : (n : ℕ) (l : List Attribute) → Among n (carried_by l) → Present n l
in_present n [] m = absurd m
in_present n (a ∷ l) (inl p) = record { which = a; among = inl refl; carries = sym p }
in_present n (a ∷ l) (inr m) = let r = in_present n l m in record { which = r.which; among = inr r.among; carries = r.carries }

module _ (n : ℕ) (l : List Attribute) where
  pub seen_present : T (is_in n (carried_by l)) → Present n l
  seen_present t = in_present n l (in_among n (carried_by l) t)

  pub present_seen : Present n l → T (is_in n (carried_by l))
  present_seen p =
      among_in n (carried_by l) (rw p.carries at (among_map (λ (a : Attribute). a.number) p.which l p.among))

  pub unseen_absent : T (not (is_in n (carried_by l))) → Absent n l
  unseen_absent t p = T_not (is_in n (carried_by l)) t (present_seen p)

  pub absent_unseen : Absent n l → T (not (is_in n (carried_by l)))
  absent_unseen f = not_T (is_in n (carried_by l)) (λ t. f (seen_present t))

-- ---- Rule 7 as a test

module _ (c : Context) (l : List Attribute) (n : ℕ) where
  name : Bool
  name = eqb n 4 && not (is_in 32 (carried_by l))

  protocol : Bool
  protocol = eqb n (gpp 3) && (asks_pdp_type c && is_in 7 (carried_by l))

  wants_wanted : T (wants c (carried_by l) n) → Wanted c l n
  unfolding wants name protocol
  wants_wanted t = ⊎_elim by_flags (λ u. ⊎_elim named asked (either name protocol u)) (either (conditional c n) (name || protocol) t)
    where
      named : T (eqb n 4 && not (is_in 32 (carried_by l))) → Wanted c l n
      named u =
          let b = parts (eqb n 4) (not (is_in 32 (carried_by l))) u in
          by_name (unseen_absent 32 l b.1) (eqb→eq n 4 b.0)

      asked : T (eqb n (gpp 3) && (asks_pdp_type c && is_in 7 (carried_by l))) → Wanted c l n
      asked u =
          let b = parts (eqb n (gpp 3)) (asks_pdp_type c && is_in 7 (carried_by l)) u in
          let d = parts (asks_pdp_type c) (is_in 7 (carried_by l)) b.1 in
          by_protocol d.0 (seen_present 7 l d.1) (eqb→eq n (gpp 3) b.0)

  wanted_wants : Wanted c l n → T (wants c (carried_by l) n)
  unfolding wants name protocol
  wanted_wants (by_flags t) = left_or (conditional c n) (name || protocol) t
  wanted_wants (by_name f q) =
      right_or (conditional c n) (name || protocol)
      (left_or name protocol (both (eqb n 4) (not (is_in 32 (carried_by l))) (rw q tt) (absent_unseen 32 l f)))
  wanted_wants (by_protocol t f q) =
      right_or (conditional c n) (name || protocol)
      (right_or name protocol
      (both (eqb n (gpp 3)) (asks_pdp_type c && is_in 7 (carried_by l)) (rw q tt)
      (both (asks_pdp_type c) (is_in 7 (carried_by l)) t (present_seen 7 l f))))

-- ---- No other number is demanded or wanted

pub demanded_among : (c : Context) (n : ℕ) → T (mandatory c n) → Among n demandable
unfolding mandatory
demanded_among c n t =
    let request = eqb c.kind 1 && is_in n (1 ∷ 30 ∷ []) in
    let session = is_session c.kind && is_in n (8 ∷ 30 ∷ 40 ∷ 44 ∷ []) in
    let status = between 4 5 c.kind && is_in n (40 ∷ []) in
    ⊎_elim (line (eqb c.kind 1) (1 ∷ 30 ∷ []) tt)
    (λ u.
    ⊎_elim (line (is_session c.kind) (8 ∷ 30 ∷ 40 ∷ 44 ∷ []) tt) (line (between 4 5 c.kind) (40 ∷ []) tt) (either session status u))
    (either request (session || status) t)
  where
    -- by one line: of a kind and the numbers that it names
    line : (of_kind : Bool) (l : List ℕ) → T (all (λ m. is_in m demandable) l) → T (of_kind && is_in n l) → Among n demandable
    line of_kind l f u = in_within n l demandable f (parts of_kind (is_in n l) u).1

module _ (n : ℕ) where
  -- by one of the wantable numbers, and by a line of a kind and a flag that names some of them
  by_number : (k : ℕ) → T (is_in k wantable) → T (eqb n k) → Among n wantable
  by_number k w t = in_among n wantable (rw (eqb→eq n k t) w)

  by_line : (kind named flag : Bool) → (T named → Among n wantable) → T ((kind && named) && flag) → Among n wantable
  by_line kind named flag f t = f (parts kind named (parts (kind && named) flag t).0).1

  flags_among : (c : Context) → T (conditional c n) → Among n wantable
  unfolding conditional
  flags_among c t =
      let k = c.kind in
      let two = with_pap k n && pap c.flags in
      let three = with_chap k n && chap c.flags in
      let four = with_class k n && class c.flags in
      ⊎_elim (by_line (eqb k 1) (eqb n 2) (pap c.flags) (by_number 2 tt))
      (λ u.
      ⊎_elim (by_line (eqb k 1) (is_in n (3 ∷ 60 ∷ [])) (chap c.flags) (in_within n (3 ∷ 60 ∷ []) wantable tt))
      (by_line (eqb k 2) (eqb n 25) (class c.flags) (by_number 25 tt)) (either three four u))
      (either two (three || four) t)

  pub wanted_among : (c : Context) (l : List Attribute) → Wanted c l n → Among n wantable
  wanted_among c l (by_flags t) = flags_among c t
  wanted_among c l (by_name f q) = in_among n wantable (rw q tt)
  wanted_among c l (by_protocol t f q) = in_among n wantable (rw q tt)

-- ---- The order of the entries

pub name_low : (n : ℕ) → n < 512 → type_of n * 256 + sub_of n < 65536
name_low n h = go (ltb n 256) refl
  where
    go : (b : Bool) → ltb n 256 ≡ b → cond b n 26 * 256 + cond b 0 (n - 256) < 65536
    go true p = omega (arith, ltb-true)
    go false p = omega arith

module _ (c : Context) where
  at_ordered : (seen : List ℕ) (x : View) → x.number < 512
      → Ordered (x.place * 1048576) (at_attribute c seen x) (suc x.place * 1048576)
  unfolding entry at_attribute broken_by
  at_ordered seen x h = omega (arith, name_low x.number h)

  along_ordered : (p size : ℕ) (seen : List ℕ) (l : List Attribute) → Placed p l size
      → Ordered (p * 1048576) (along c seen (map (view c) l)) (size * 1048576)
  unfolding along view
  along_ordered p size seen [] h = omega arith
  along_ordered p size seen (a ∷ l) h =
      ordered_append (p * 1048576) (suc a.place * 1048576) (size * 1048576) (at_attribute c seen (view c a))
      (along c (seen ++ a.number ∷ []) (map (view c) l))
      (ordered_lower (p * 1048576) (a.place * 1048576) (suc a.place * 1048576) (at_attribute c seen (view c a)) (omega arith)
      (at_ordered seen (view c a) h.1))
      (along_ordered (suc a.place) size (seen ++ a.number ∷ []) l h.2)

  end_ordered : (size : ℕ) (seen : List ℕ) → Ordered (size * 1048576) (at_end c size seen) (suc size * 1048576)
  unfolding entry at_end
  end_ordered size seen = omega arith

-- ---- A candidate whose test passes is a breach

numbers_more : (l : List Attribute) (a : Attribute) → carried_by (l ++ a ∷ []) ≡ carried_by l ++ a.number ∷ []
numbers_more [] a = refl
numbers_more (x ∷ l) a = ap (λ (m : List ℕ). x.number ∷ m) (numbers_more l a)

module _ (c : Context) (size : ℕ) where
  -- the candidates of some attributes, and of their end
  abbrev before : List Attribute → List Candidate
  before l = along c [] (map (view c) l)

  abbrev end_of : List Attribute → List Candidate
  end_of l = at_end c size (carried_by l)

  at_sound : (earlier : List Attribute) (a : Attribute) (later : List Attribute)
      → Each (Breach c size (earlier ++ a ∷ later)) (at_attribute c (carried_by earlier) (view c a))
  unfolding at_attribute broken_by view misses offends
  at_sound earlier a later = (λ t. shape1 a here t refl, (λ t. value2 a here t refl, (again, (λ t. here4 a here t refl, tt))))
    where
      here : Among a (earlier ++ a ∷ later)
      here = among_right a earlier (a ∷ later) (inl refl)

      again : T (once_only a.number && is_in a.number (carried_by earlier))
          → Breach c size (earlier ++ a ∷ later) (entry a.place 3 a.number)
      again t =
          let b = parts (once_only a.number) (is_in a.number (carried_by earlier)) t in
          again3 a earlier (record { later = later; whole = refl }) b.0 (seen_present a.number earlier b.1) refl

  along_sound : (earlier l : List Attribute) → Each (Breach c size (earlier ++ l)) (along c (carried_by earlier) (map (view c) l))
  unfolding along view
  along_sound earlier [] = tt
  along_sound earlier (a ∷ l) =
      each_append (Breach c size (earlier ++ a ∷ l)) (at_attribute c (carried_by earlier) (view c a))
      (along c (carried_by earlier ++ a.number ∷ []) (map (view c) l)) (at_sound earlier a l)
      (rw (append_assoc, numbers_more) at (along_sound (earlier ++ a ∷ []) l))

  end_sound : (l : List Attribute) → Each (Breach c size l) (end_of l)
  unfolding at_end
  end_sound l = (
    names_both,
    each_append (Breach c size l) (map (lacking c size (carried_by l)) demandable) (map (wanting c size (carried_by l)) wantable)
        (each_map (Breach c size l) (lacking c size (carried_by l)) demandable lacks)
        (each_map (Breach c size l) (wanting c size (carried_by l)) wantable wants_it),
  )
    where
      seen : List ℕ
      seen = carried_by l

      names_both : T (eqb c.kind 1 && (is_in 2 seen && is_in 3 seen)) → Breach c size l (entry size 5 3)
      names_both t =
          let b = parts (eqb c.kind 1) (is_in 2 seen && is_in 3 seen) t in
          let d = parts (is_in 2 seen) (is_in 3 seen) b.1 in
          both5 (eqb→eq c.kind 1 b.0) (seen_present 2 l d.0) (seen_present 3 l d.1) refl

      lacks : (n : ℕ) → T (mandatory c n && not (is_in n seen)) → Breach c size l (entry size 6 n)
      lacks n t =
          let b = parts (mandatory c n) (not (is_in n seen)) t in
          lacks6 n b.0 (unseen_absent n l b.1) refl

      wants_it : (n : ℕ) → T (wants c seen n && not (is_in n seen)) → Breach c size l (entry size 7 n)
      wants_it n t =
          let b = parts (wants c seen n) (not (is_in n seen)) t in
          wants7 n (wants_wanted c l n b.0) (unseen_absent n l b.1) refl

-- ---- A breach is a candidate whose test passes

-- one of the attributes with those before it
among_after : (a : Attribute) (l : List Attribute) → Among a l → (earlier : List Attribute) × After l a earlier
among_after a [] m = absurd m
among_after a (x ∷ l) (inl p) = ([], record { later = l; whole = rw p })
among_after a (x ∷ l) (inr m) =
    let r = among_after a l m in
    (x ∷ r.0, record { later = r.1.later; whole = ap (λ (t : List Attribute). x ∷ t) r.1.whole })

along_among : (c : Context) (d : Candidate) (seen : List ℕ) (earlier : List Attribute) (a : Attribute) (later : List Attribute)
    → Among d (at_attribute c (seen ++ carried_by earlier) (view c a)) → Among d (along c seen (map (view c) (earlier ++ a ∷ later)))
unfolding along view
along_among c d seen [] a later m =
    among_left d (at_attribute c seen (view c a)) (along c (seen ++ a.number ∷ []) (map (view c) later)) (rw append-nil at m)
along_among c d seen (x ∷ earlier) a later m =
    among_right d (at_attribute c seen (view c x)) (along c (seen ++ x.number ∷ []) (map (view c) (earlier ++ a ∷ later)))
    (along_among c d (seen ++ x.number ∷ []) earlier a later (rw append_assoc m))

module _ (c : Context) (size : ℕ) (l : List Attribute) (e : ℕ) where
  at_chosen : (a : Attribute) (earlier : List Attribute) → After l a earlier
      → (d : Candidate) → Among d (at_attribute c (carried_by earlier) (view c a)) → T d.stands → e ≡ d.key → Chosen e (before c size l)
  at_chosen a earlier s d m t p =
      record { which = d; among = rw s.whole (along_among c d [] earlier a s.later m); passes = t; named = p }

  end_chosen : (d : Candidate) → Among d (end_of c size l) → T d.stands → e ≡ d.key → Chosen e (end_of c size l)
  end_chosen d m t p = record { which = d; among = m; passes = t; named = p }

  breach_chosen : Breach c size l e → Chosen e (before c size l) ⊎ Chosen e (end_of c size l)
  unfolding at_attribute broken_by view misses offends at_end
  breach_chosen (shape1 a m t p) = let r = among_after a l m in inl (at_chosen a r.0 r.1 _ (inl refl) t p)
  breach_chosen (value2 a m t p) = let r = among_after a l m in inl (at_chosen a r.0 r.1 _ (inr (inl refl)) t p)
  breach_chosen (again3 a earlier s t f p) =
      inl (at_chosen a earlier s _ (inr (inr (inl refl)))
      (both (once_only a.number) (is_in a.number (carried_by earlier)) t (present_seen a.number earlier f)) p)
  breach_chosen (here4 a m t p) = let r = among_after a l m in inl (at_chosen a r.0 r.1 _ (inr (inr (inr (inl refl)))) t p)
  breach_chosen (both5 q f g p) =
      inr (end_chosen _ (inl refl)
      (both (eqb c.kind 1) (is_in 2 (carried_by l) && is_in 3 (carried_by l)) (rw q tt)
      (both (is_in 2 (carried_by l)) (is_in 3 (carried_by l)) (present_seen 2 l f) (present_seen 3 l g))) p)
  breach_chosen (lacks6 n t f p) =
      let lacks = lacking c size (carried_by l) in
      inr (end_chosen (lacks n)
      (inr (among_left (lacks n) (map lacks demandable) (map (wanting c size (carried_by l)) wantable)
      (among_map lacks n demandable (demanded_among c n t))))
      (both (mandatory c n) (not (is_in n (carried_by l))) t (absent_unseen n l f)) p)
  breach_chosen (wants7 n w f p) =
      let wants_it = wanting c size (carried_by l) in
      inr (end_chosen (wants_it n)
      (inr (among_right (wants_it n) (map (lacking c size (carried_by l)) demandable) (map wants_it wantable)
      (among_map wants_it n wantable (wanted_among n c l w))))
      (both (wants c (carried_by l) n) (not (is_in n (carried_by l))) (wanted_wants c l n w) (absent_unseen n l f)) p)

-- ---- The list

-- a breach that stands before the area's end: of the rules 1 to 4
abbrev pub BreachBefore : Context → (size : ℕ) → List Attribute → ℕ → Type 0
BreachBefore c size l e = Breach c size l e × (e < size * 1048576)

module _ (c : Context) (size : ℕ) (l : List Attribute) (placed : Placed 0 l size) where
  here_ordered : Ordered 0 (before c size l) (size * 1048576)
  here_ordered = along_ordered c 0 size [] l placed

  there_ordered : Ordered (size * 1048576) (end_of c size l) (suc size * 1048576)
  there_ordered = end_ordered c size (carried_by l)

  pub along_lists : Lists (chosen (before c size l)) (BreachBefore c size l)
  along_lists = chosen_lists (BreachBefore c size l) 0 (size * 1048576) (before c size l) here_ordered sound whole
    where
      sound : (e : ℕ) → Chosen e (before c size l) → BreachBefore c size l e
      sound e d =
          let k = key_between 0 (size * 1048576) (before c size l) here_ordered d.which d.among in
          (each_chosen (Breach c size l) (before c size l) (along_sound c size [] l) e d, omega (arith, d.named))

      -- what the end breaks is not before it
      late : (e : ℕ) → e < size * 1048576 → Chosen e (end_of c size l) → Chosen e (before c size l)
      late e h d =
          let k = key_between (size * 1048576) (suc size * 1048576) (end_of c size l) there_ordered d.which d.among in
          absurd (omega (arith, d.named))

      whole : (e : ℕ) → BreachBefore c size l e → Chosen e (before c size l)
      whole e b = ⊎_elim (λ d. d) (late e b.1) (breach_chosen c size l e b.0)

  pub breaches_lists : Lists (breaches c size (map (view c) l)) (Breach c size l)
  unfolding breaches
  breaches_lists =
      rw (numbers_viewed c l)
      (chosen_lists (Breach c size l) 0 (suc size * 1048576) (before c size l ++ end_of c size l)
      (ordered_append 0 (size * 1048576) (suc size * 1048576) (before c size l) (end_of c size l) here_ordered there_ordered)
      (each_chosen (Breach c size l) (before c size l ++ end_of c size l)
      (each_append (Breach c size l) (before c size l) (end_of c size l) (along_sound c size [] l) (end_sound c size l)))
      (λ e b.
      ⊎_elim (chosen_left e (before c size l) (end_of c size l)) (chosen_right e (before c size l) (end_of c size l))
      (breach_chosen c size l e b)))
