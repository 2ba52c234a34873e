-- What is counted is what was had and what the reader gave, an octet or more each time.
use Rattle.std.proofs.Common.{◌≡◌, ℕ, ◌+◌, ◌^◌, ◌<◌, ◌≤◌, List, length}
use Rattle.std.specs.Io.KnownBytes.{Consumes}
use Rattle.streams.proofs.count.Given as goal

abbrev pub invariant-loop : goal.invariant-loop
invariant-loop g l = record {
  fits : l.total < 2 ^ 64;
  least : l.fn.had + l.counter ≤ l.total;
  counted : (given : List ℕ) × Consumes (g.R.Read.remaining l.initial.from) (g.R.Read.remaining l.from) given × (l.total ≡ l.fn.had + length given);
}
