-- The library's spelling is ours. Assumes nothing.
use Rattle.std.proofs.Common.{ap, ◌∙◌, arith}
use Rattle.lines.specs.Lines.{followed}
use Rattle.lines.proofs.Spelling.{library_decimal}
use Rattle.lines.proofs.Text.with_decimal.Goals as goal

pub returns : goal.returns
returns c = c.with.ensures ∙ ap (followed c.args.self) (c.as_bytes.ensures.value ∙ c.format.ensures.text ∙ library_decimal _ (omega arith))
