-- What holds of every run of filing one sheet. A run is a list of the steps taken, each with its answer and each following by `next` from
-- the one before it (`Run Take l`); OUT, the temporary file and the steps are those of `src/lib.rt`. Assumes nothing.
use mathlib.Core.Path.{◌≡◌, refl, sym, ap, subst, ◌∙◌}
use mathlib.Core.Bool.{true, false}
use mathlib.Core.List.{List, [], ◌∷◌, ◌++◌, append_assoc, append-nil}
use Prim.Native.Nat.{ℕ, ◌+◌, ◌≤◌, ◌<◌}
use native.Mathlib.Omega.{arith}
use lib.Dec.{T, lt→ltb}
use lib.ListN.{length}
use Rattle.meaning.proofs.Tests.{both, parts}
use Rattle.filing.specs.declared.Step.{Step}
use Rattle.filing.specs.declared.Step.TheVariants.{Take, Rename, Filed, Failed, Kept}
use Rattle.filing.specs.declared.Answer.{Answer}
use Rattle.filing.specs.declared.Answer.TheVariants.{Well, Badly}
use Rattle.filing.specs.Steps.{onward, back, next_of}
use Rattle.filing.specs.Runs.{Taken, ◌went◌, left, goes, Run, comes_to, safely, wholly, clears, only_clears, Standing, standing}
use Rattle.filing.specs.Runs.{changed, after, nothing}
use Rattle.filing.proofs.EachStep.{well, way_to, stands_at, badly_leads_away, well_before, away_clears, standing_kept, fewer_left}

-- ---- A run in two parts

-- the first part of a run is a run
first_part : (s : Step) (b c : List Taken) → Run s (b ++ c) → Run s b
first_part s [] c r = tt
first_part s (t went a ∷ b) c r = (r.0, (r.1.0, first_part (next_of t a) b c r.1.1))

-- and the rest is a run from the step that it comes to
last_part : (s : Step) (b c : List Taken) → Run s (b ++ c) → Run (comes_to s b) c
last_part s [] c r = r
last_part s (t went a ∷ b) c r = last_part (next_of t a) b c r.1.1

-- ---- Where all goes well

-- a run to a step of the good way has taken the steps of that way, each answered well
on_the_way : (s : Step) (l : List Taken) → Run s l → T (well (comes_to s l)) → T (well s) × (way_to s ++ l ≡ way_to (comes_to s l))
on_the_way s [] r w = (w, append-nil (way_to s))
on_the_way s (t went Well ∷ l) r w =
    let later = on_the_way (onward t) l r.1.1 w in
    let here = well_before t r.1.0 later.0 in
    subst (λ (x : Step). T (well x) × (way_to x ++ t went Well ∷ l ≡ way_to (comes_to (onward t) l))) r.0
    (here.0, sym (append_assoc (way_to t) (t went Well ∷ []) l) ∙ ap (λ (m : List Taken). m ++ l) (sym here.1) ∙ later.1)
on_the_way s (t went Badly ∷ l) r w =
    absurd (badly_leads_away t r.1.0 (on_the_way (back t) l r.1.1 w).0)

-- A run that takes the rename has taken before it exactly these steps, each answered well and in this order: it has taken IN, read it
-- into a sheet, compared the return trip, seen that nothing stands at OUT, created the temporary file, written it, synced it, closed
-- it, opened it again, compared what is there with the sheet, synced its name, and seen again that nothing stands at OUT.
pub renamed_only_after : (b c : List Taken) (a : Answer) → Run Take (b ++ Rename went a ∷ c) → b ≡ safely
renamed_only_after b c a r =
    let comes = (last_part Take b (Rename went a ∷ c) r).0 in
    (on_the_way Take b (first_part Take b (Rename went a ∷ c) r) (subst (λ (s : Step). T (well s)) comes tt)).1
    ∙ ap way_to (sym comes)

-- A run that ends with `Filed` has taken exactly these steps, then the rename and the folder's sync, each answered well.
pub filed_only_after : (l : List Taken) → Run Take l → comes_to Take l ≡ Filed → l ≡ wholly
filed_only_after l r e = (on_the_way Take l r (subst (λ (s : Step). T (well s)) (sym e) tt)).1 ∙ ap way_to e

-- ---- Where something goes badly

away : (s : Step) (l : List Taken) → Run s l → (T (well s) → ⊥) → T (only_clears l)
away s [] r w = tt
away s (t went a ∷ l) r w =
    let out : T (well t) → ⊥ = subst (λ (x : Step). T (well x) → ⊥) (sym r.0) w in
    both (clears t) (only_clears l) (away_clears t r.1.0 out) (away (next_of t a) l r.1.1 (still t a r.1.0 out))
  where
    still : (t : Step) (a : Answer) → T (goes t) → (T (well t) → ⊥) → T (well (next_of t a)) → ⊥
    still t Well h out w = out (well_before t h w).0
    still t Badly h out w = badly_leads_away t h w

-- Behind a step that went badly a run only clears up: it closes or removes the temporary file, or takes the name OUT back.
pub badly_then_clears : (b c : List Taken) (s : Step) → Run Take (b ++ s went Badly ∷ c) → T (only_clears c)
badly_then_clears b c s r =
    let rest = (last_part Take b (s went Badly ∷ c) r).1 in
    away (back s) c rest.1 (badly_leads_away s rest.0)

-- So a run in which some step went badly before the rename never renames.
pub badly_never_renames : (b c d : List Taken) (s : Step) (a : Answer) → Run Take (b ++ s went Badly ∷ (c ++ Rename went a ∷ d)) → ⊥
badly_never_renames b c d s a r = none c (badly_then_clears b (c ++ Rename went a ∷ d) s r)
  where
    none : (c : List Taken) → T (only_clears (c ++ Rename went a ∷ d)) → ⊥
    none [] t = t
    none (x went y ∷ c) t = none c (parts (clears x) (only_clears (c ++ Rename went a ∷ d)) t).1

-- ---- What stands at the end

stood : (s : Step) (l : List Taken) → Run s l → after (stands_at s) l ≡ stands_at (comes_to s l)
stood s [] r = refl
stood s (t went a ∷ l) r =
    ap (λ (x : Step). after (changed (stands_at x) (t went a)) l) (sym r.0)
    ∙ ap (λ (w : Standing). after w l) (standing_kept t a r.1.0)
    ∙ stood (next_of t a) l r.1.1

-- A run that ends with `Failed` leaves nothing: no name OUT, the temporary file removed if it was created, its descriptor closed.
pub failed_leaves_nothing : (l : List Taken) → Run Take l → comes_to Take l ≡ Failed → after nothing l ≡ nothing
failed_leaves_nothing l r e = stood Take l r ∙ ap stands_at e

-- A run that ends with `Filed` leaves the name OUT and nothing else.
pub filed_leaves_out : (l : List Taken) → Run Take l → comes_to Take l ≡ Filed → after nothing l ≡ standing false true false false
filed_leaves_out l r e = stood Take l r ∙ ap stands_at e

-- A run that ends with `Kept` leaves the sheet under the name where it is kept, no name OUT and no temporary file.
pub kept_leaves_the_sheet : (l : List Taken) → Run Take l → comes_to Take l ≡ Kept → after nothing l ≡ standing false false true false
kept_leaves_the_sheet l r e = stood Take l r ∙ ap stands_at e

-- ---- Every run ends

counted : (s : Step) (l : List Taken) → Run s l → length l + left (comes_to s l) ≤ left s
counted s [] r = omega arith
counted s (t went a ∷ l) r =
    let later = counted (next_of t a) l r.1.1 in
    let fewer = fewer_left t a r.1.0 in
    subst (λ (x : Step). length (t went a ∷ l) + left (comes_to (next_of t a) l) ≤ left x) r.0 (omega arith)

-- A run takes at most fifteen steps, then it is at an end.
pub every_run_ends : (l : List Taken) → Run Take l → length l ≤ 15
every_run_ends l r = omega (arith, counted Take l r)

-- What a loop that takes one step a turn needs: while steps are left, fewer are left behind each.
pub left_falls : (s then : Step) (a : Answer) (n : ℕ) → n ≡ left s → 0 < n → then ≡ next_of s a → left then < left s
left_falls s then a n e h q =
    let fewer = fewer_left s a (lt→ltb 0 (left s) (omega arith)) in
    subst (λ (x : Step). left x < left s) (sym q) fewer
