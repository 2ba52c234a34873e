-- The jobs of records, by the octet that a record begins with. Assumes nothing.
use Rattle.std.specs.Prelude.{ℕ, cond, eqb, Result, Ok, Err}
use Rattle.printing.specs.declared.Job.{Job}
use Rattle.printing.specs.declared.Job.TheVariants.{Read, Check, Write}
use Rattle.printing.specs.declared.NoJob.{NoJob}
use Rattle.printing.specs.Printed.{job_read, job_check, job_write}

-- R, C, W
abbrev pub job_of : (octet : ℕ) → Result Job NoJob
job_of x =
    cond (eqb x job_read) (Ok Read) (cond (eqb x job_check) (Ok Check) (cond (eqb x job_write) (Ok Write) (Err (record {}))))
