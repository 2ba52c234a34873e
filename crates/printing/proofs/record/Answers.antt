-- By the job. Assumes nothing.
use mathlib.Core.Path.{ap, ◌∙◌}
use Rattle.std.specs.Prelude.{Ok}
use Rattle.printing.proofs.Jobs.{begins_as}
use Rattle.printing.proofs.Shown.{record_read, record_check, record_write, record_none}
use Rattle.printing.proofs.record.Goals as goal

pub returns-in-Ok-Read : goal.returns-in-Ok-Read
returns-in-Ok-Read c =
    let a = c.args in
    record_read a.job a.payload.now a.all a.room a.octets.now a.entries.now a.out.now (begins_as a.job _ c.try_from.ensures _ (c.in-Ok-Read.is ∙ ap Ok c.in-Ok-Read.field-0-is)) (c.read_line.ensures.start_laid, c.read_line.ensures.sheet_after)

pub returns-in-Ok-Check : goal.returns-in-Ok-Check
returns-in-Ok-Check c =
    let a = c.args in
    record_check a.job a.payload.now a.all a.room a.octets.now a.entries.now a.out.now (begins_as a.job _ c.try_from.ensures _ (c.in-Ok-Check.is ∙ ap Ok c.in-Ok-Check.field-0-is)) (c.check_line.ensures.start_laid, c.check_line.ensures.list_after)

pub returns-in-Ok-Write : goal.returns-in-Ok-Write
returns-in-Ok-Write c =
    let a = c.args in
    record_write a.job a.payload.now a.all a.room a.octets.now a.entries.now a.out.now (begins_as a.job _ c.try_from.ensures _ (c.in-Ok-Write.is ∙ ap Ok c.in-Ok-Write.field-0-is)) (c.write_line.ensures.start_laid, c.write_line.ensures.area_after)

pub returns-in-Err : goal.returns-in-Err
returns-in-Err c =
    let a = c.args in
    let none = begins_as a.job _ c.try_from.ensures _ c.in-Err.is in
    record_none a.job a.payload.now a.all a.room a.octets.now a.entries.now a.out.now none.0 none.1 none.2
