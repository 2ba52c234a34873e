-- What holds of each step and its answer. The theorems on whole runs rest on these. Assumes nothing.
use mathlib.Core.Path.{◌≡◌}
use mathlib.Core.Bool.{Bool, true, false}
use mathlib.Core.List.{List, [], ◌∷◌, ◌++◌}
use Prim.Native.Nat.{◌-◌, ◌<◌}
use native.Mathlib.Omega.{arith}
use Rattle.std.proofs.lemmas.Bool.Decides.{nat_tests}
use lib.Dec.{T}
use lib.ListN.{take}
use Rattle.filing.specs.declared.Step.{Step}
use Rattle.filing.specs.declared.Step.TheVariants.{Take, Read, Return, Look, Create, Write, Sync, Close, Open, Compare, SyncName}
use Rattle.filing.specs.declared.Step.TheVariants.{LookAgain, Rename, SyncFolder, Abandon, Remove, Withdraw, Filed, Failed, Kept}
use Rattle.filing.specs.declared.Answer.{Answer}
use Rattle.filing.specs.declared.Answer.TheVariants.{Well}
use Rattle.filing.specs.Steps.{onward, back, next_of}
use Rattle.filing.specs.Runs.{Taken, ◌went◌, left, goes, wholly, clears, Standing, standing, changed}

-- the step is one to which all went well
abbrev pub well : Step → Bool
well Take = true
well Read = true
well Return = true
well Look = true
well Create = true
well Write = true
well Sync = true
well Close = true
well Open = true
well Compare = true
well SyncName = true
well LookAgain = true
well Rename = true
well SyncFolder = true
well Abandon = false
well Remove = false
well Withdraw = false
well Filed = true
well Failed = false
well Kept = false

-- the steps before a step to which all went well
abbrev pub way_to : Step → List Taken
way_to s = take (15 - left s) wholly

-- what stands when a step comes
abbrev pub stands_at : Step → Standing
stands_at Take = standing false false false false
stands_at Read = standing false false false false
stands_at Return = standing false false false false
stands_at Look = standing false false false false
stands_at Create = standing false false false false
stands_at Write = standing true false false true
stands_at Sync = standing true false false true
stands_at Close = standing true false false true
stands_at Open = standing true false false false
stands_at Compare = standing true false false true
stands_at SyncName = standing true false false false
stands_at LookAgain = standing true false false false
stands_at Rename = standing true false false false
stands_at SyncFolder = standing false true false false
stands_at Abandon = standing true false false true
stands_at Remove = standing true false false false
stands_at Withdraw = standing false true false false
stands_at Filed = standing false true false false
stands_at Failed = standing false false false false
stands_at Kept = standing false false true false

-- a step that went badly leads away for good
pub badly_leads_away : (s : Step) → T (goes s) → T (well (back s)) → ⊥
badly_leads_away s h g = grind (arith, nat_tests)

-- where all went well behind a step, it went well before it, and the way is one step longer
pub well_before : (s : Step) → T (goes s) → T (well (onward s)) → T (well s) × (way_to (onward s) ≡ way_to s ++ s went Well ∷ [])
well_before s h g = (grind (arith, nat_tests), grind (arith, nat_tests))

-- a step to which not all went well only clears up
pub away_clears : (s : Step) → T (goes s) → (T (well s) → ⊥) → T (clears s)
away_clears s h g = grind (arith, nat_tests)

-- a step changes what stands to what stands when the next one comes
pub standing_kept : (s : Step) (a : Answer) → T (goes s) → changed (stands_at s) (s went a) ≡ stands_at (next_of s a)
standing_kept s a h = grind (arith, nat_tests)

-- fewer steps are left behind every step but an end
pub fewer_left : (s : Step) (a : Answer) → T (goes s) → left (next_of s a) < left s
fewer_left s a h = grind (arith, nat_tests)
