-- The longest list: three entries for each of 2,038 attributes, and twelve at the end. Assumes nothing.
use mathlib.Core.Path.{ap, ◌∙◌}
use mathlib.Core.Bool.{Bool, true, false, not, ◌&&◌}
use mathlib.Core.List.{List, [], ◌∷◌, ◌++◌}
use Prim.Native.Nat.{ℕ, ◌*◌, ◌≤◌}
use native.Mathlib.Omega.{arith}
use lib.ListN.{length, length-append, length-map}
use Rattle.meaning.specs.Octets.{is_in}
use Rattle.meaning.specs.Jobs.{Context}
use Rattle.meaning.specs.Framing.{walk, attributes}
use Rattle.meaning.specs.Sheet.{Readable}
use Rattle.meaning.specs.Breaches.{entry, once_only, barred}
use Rattle.meaning.specs.Listing.{put, chosen, View, view, broken_by, at_attribute, along, at_end, numbers_of, breaches, views_of, list_of}
use Rattle.meaning.proofs.Bounds.{items_fit}
use Rattle.checking.proofs.Laying.{chosen_append, chosen_few}

module _ (c : Context) where
  -- an attribute that misses its shape does not offend by its value
  at_most_three : (again : Bool) (x : View) → length (chosen (broken_by c again x)) ≤ 3
  unfolding chosen broken_by
  at_most_three again x = go x.shaped (not x.fine) again (barred c x.number)
    where
      low : (t b : Bool) → length (put t (entry x.place 3 x.number) (put b (entry x.place 4 x.number) [])) ≤ 2
      low true true = omega arith
      low true false = omega arith
      low false true = omega arith
      low false false = omega arith

      go : (m o t b : Bool) → length (put (not m) (entry x.place 1 x.number) (put (m && o) (entry x.place 2 x.number)
          (put t (entry x.place 3 x.number) (put b (entry x.place 4 x.number) [])))) ≤ 3
      go true true t b = omega (arith, low t b)
      go true false t b = omega (arith, low t b)
      go false o t b = omega (arith, low t b)

  along_bound : (seen : List ℕ) (l : List View) → length (chosen (along c seen l)) ≤ 3 * length l
  unfolding chosen along at_attribute
  along_bound seen [] = omega arith
  along_bound seen (x ∷ l) =
      let again = once_only x.number && is_in x.number seen in
      let rest = along c (seen ++ x.number ∷ []) l in
      let e = ap length (chosen_append (broken_by c again x) rest) ∙ length-append (chosen (broken_by c again x)) (chosen rest) in
      omega (arith, e, at_most_three again x, along_bound (seen ++ x.number ∷ []) l)

  end_bound : (size : ℕ) (seen : List ℕ) → length (chosen (at_end c size seen)) ≤ 12
  unfolding at_end
  end_bound size seen = chosen_few (at_end c size seen)

  -- The list of a readable area has at most 6,126 entries.
  pub list_bound : (area : List ℕ) → Readable c.kind c.flags area → length (list_of c area) ≤ 6126
  unfolding list_of breaches
  list_bound area r =
      let l = views_of c (walk area) in
      let end = at_end c (length area) (numbers_of l) in
      let e = ap length (chosen_append (along c [] l) end) ∙ length-append (chosen (along c [] l)) (chosen end) in
      omega (
        arith,
        e,
        along_bound [] l,
        end_bound (length area) (numbers_of l),
        length-map (attributes (walk area)) (view c),
        items_fit c.kind c.flags area r,
      )
