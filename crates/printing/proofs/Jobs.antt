-- What the job of a record says of the octet that it begins with. Assumes nothing.
use mathlib.Core.Path.{◌≡◌, refl, sym, subst, ◌∙◌}
use mathlib.Core.Bool.{Bool, true, false, cond}
use Prim.Native.Nat.{ℕ}
use lib.Dec.{eqb}
use borrow.Author.Tests.{eqb-true, eqb-false}
use Rattle.std.specs.Prelude.{Result, Ok, Err}
use Rattle.printing.specs.declared.Job.{Job}
use Rattle.printing.specs.declared.Job.TheVariants.{Read, Check, Write}
use Rattle.printing.specs.declared.NoJob.{NoJob}
use Rattle.printing.specs.Jobs.{job_of}

-- the octet of each job; none of the three where there is no job
abbrev pub Begins : ℕ → Result Job NoJob → Type 0
Begins x (Ok Read) = x ≡ 82
Begins x (Ok Check) = x ≡ 67
Begins x (Ok Write) = x ≡ 87
Begins x (Err e) = (x ≡ 82 → ⊥) × (x ≡ 67 → ⊥) × (x ≡ 87 → ⊥)

begins : (x : ℕ) → Begins x (job_of x)
begins x = go (eqb x 82) refl (eqb x 67) refl (eqb x 87) refl
  where
    go :
        (a : Bool) → eqb x 82 ≡ a → (b : Bool) → eqb x 67 ≡ b → (c : Bool) → eqb x 87 ≡ c
        → Begins x (cond a (Ok Read) (cond b (Ok Check) (cond c (Ok Write) (Err (record {})))))
    go true p b q c r = eqb-true x 82 p
    go false p true q c r = eqb-true x 67 q
    go false p false q true r = eqb-true x 87 r
    go false p false q false r = (eqb-false x 82 p, eqb-false x 67 q, eqb-false x 87 r)

-- by what the conversion says
pub begins_as : (x : ℕ) (said : Result Job NoJob) → said ≡ job_of x → (r : Result Job NoJob) → said ≡ r → Begins x r
begins_as x said says r is = subst (Begins x) (sym says ∙ is) (begins x)
