-- Runs of filing as values: the steps taken, each with its answer; and what stands in the folder after them. Assumes nothing.
use Rattle.std.specs.Prelude.{ℕ, ◌≡◌, Bool, true, false, ◌&&◌, List, [], ◌∷◌, ◌++◌, T, ltb}
use Rattle.filing.specs.declared.Step.{Step}
use Rattle.filing.specs.declared.Step.TheVariants.{Take, Read, Return, Look, Create, Write, Sync, Close, Open, Compare, SyncName}
use Rattle.filing.specs.declared.Step.TheVariants.{LookAgain, Rename, SyncFolder, Abandon, Remove, Withdraw, Filed, Failed, Kept}
use Rattle.filing.specs.declared.Answer.{Answer}
use Rattle.filing.specs.declared.Answer.TheVariants.{Well, Badly}
use Rattle.filing.specs.Steps.{next_of}

infix 70 ◌went◌
-- a step that was taken, and its answer
pub data Taken : Type 0 where
  ◌went◌ : Step → Answer → Taken

-- at most so many steps are left
abbrev pub left : Step → ℕ
left Take = 15
left Read = 14
left Return = 13
left Look = 12
left Create = 11
left Write = 10
left Sync = 9
left Close = 8
left Open = 7
left Compare = 6
left SyncName = 5
left LookAgain = 4
left Rename = 3
left SyncFolder = 2
left Abandon = 2
left Remove = 1
left Withdraw = 1
left Filed = 0
left Failed = 0
left Kept = 0

-- a run goes on while steps are left: it ends at `Filed`, `Failed` and `Kept`
abbrev pub goes : Step → Bool
goes s = ltb 0 (left s)

-- a run from a step on: the step that is taken is that one, it is no end, and what is taken then is a run from the step that follows
abbrev pub Run : Step → List Taken → Type 0
Run s [] = Unit {0}
Run s (t went a ∷ l) = (t ≡ s) × (T (goes t) × Run (next_of t a) l)

-- the step that a run comes to, and that is not taken yet
abbrev pub comes_to : Step → List Taken → Step
comes_to s [] = s
comes_to s (t went a ∷ l) = comes_to (next_of t a) l

-- the steps before the rename, where all goes well
abbrev pub safely : List Taken
safely =
    Take went Well ∷ Read went Well ∷ Return went Well ∷ Look went Well
    ∷ Create went Well ∷ Write went Well ∷ Sync went Well ∷ Close went Well
    ∷ Open went Well ∷ Compare went Well ∷ SyncName went Well ∷ LookAgain went Well ∷ []

-- all the steps of a filing where all goes well
abbrev pub wholly : List Taken
wholly = safely ++ Rename went Well ∷ SyncFolder went Well ∷ []

-- a step that only clears up after a failure
abbrev pub clears : Step → Bool
clears Take = false
clears Read = false
clears Return = false
clears Look = false
clears Create = false
clears Write = false
clears Sync = false
clears Close = false
clears Open = false
clears Compare = false
clears SyncName = false
clears LookAgain = false
clears Rename = false
clears SyncFolder = false
clears Abandon = true
clears Remove = true
clears Withdraw = true
clears Filed = false
clears Failed = false
clears Kept = false

-- every step that was taken only clears up
abbrev pub only_clears : List Taken → Bool
only_clears [] = true
only_clears (t went a ∷ l) = clears t && only_clears l

-- what stands: the temporary file, the name OUT, the name under which a withdrawn sheet is kept, and an open descriptor
pub data Standing : Type 0 where
  standing : (temporary out kept held : Bool) → Standing

-- what a step that was taken changes; a removal and a withdrawal count as asked for, whatever they answer
abbrev pub changed : Standing → Taken → Standing
changed (standing t o k h) (Take went a) = standing t o k h
changed (standing t o k h) (Read went a) = standing t o k h
changed (standing t o k h) (Return went a) = standing t o k h
changed (standing t o k h) (Look went a) = standing t o k h
changed (standing t o k h) (Create went Well) = standing true o k true
changed (standing t o k h) (Create went Badly) = standing t o k h
changed (standing t o k h) (Write went a) = standing t o k h
changed (standing t o k h) (Sync went a) = standing t o k h
changed (standing t o k h) (Close went a) = standing t o k false
changed (standing t o k h) (Open went Well) = standing t o k true
changed (standing t o k h) (Open went Badly) = standing t o k h
changed (standing t o k h) (Compare went a) = standing t o k false
changed (standing t o k h) (SyncName went a) = standing t o k h
changed (standing t o k h) (LookAgain went a) = standing t o k h
changed (standing t o k h) (Rename went Well) = standing false true k h
changed (standing t o k h) (Rename went Badly) = standing t o k h
changed (standing t o k h) (SyncFolder went a) = standing t o k h
changed (standing t o k h) (Abandon went a) = standing t o k false
changed (standing t o k h) (Remove went a) = standing false o k h
changed (standing t o k h) (Withdraw went a) = standing t false true h
changed (standing t o k h) (Filed went a) = standing t o k h
changed (standing t o k h) (Failed went a) = standing t o k h
changed (standing t o k h) (Kept went a) = standing t o k h

-- what stands after a run, of what stood before it
abbrev pub after : Standing → List Taken → Standing
after w [] = w
after w (x ∷ l) = after (changed w x) l

-- nothing stands: as it is before a run
abbrev pub nothing : Standing
nothing = standing false false false false
