-- The pass over the items. Assumes nothing.
use mathlib.Core.Path.{◌≡◌}
use Prim.Native.Nat.{◌-◌}
use lib.ListN.{length}
use Rattle.writing.proofs.Transcribing.{Transcribing}
use Rattle.writing.proofs.transcribe.Given as goal

abbrev pub invariant-loop-item : goal.invariant-loop-item
invariant-loop-item l = Transcribing l.sheet l.buf (l.count - l._item) l.place l.written × (length l.buf ≡ length l.initial.buf)
