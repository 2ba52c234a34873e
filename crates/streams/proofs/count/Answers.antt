-- What is counted is what was had and what the reader gave, up to the largest number.
use Rattle.std.proofs.Common.{rules, arith, ◌≡◌, ◌+◌, ◌-◌, ◌^◌, ◌<◌, ◌≤◌, ap, min, IfSome, length, length-append, ℕ, List, ◌++◌, Option, Some, None}
use Rattle.std.specs.Io.KnownBytes.{Consumes, IsAtEnd}
use Rattle.std.proofs.KnownBytes.{Consumes-trans}
use Rattle.streams.proofs.count.Goals as goal

-- at the reader's end all that it had is counted
ended : (old mid new : Option (List ℕ)) (a b : List ℕ) (had total : ℕ) → Consumes old mid a → Consumes mid new b → length b ≡ 0 → IsAtEnd new → total ≡ had + length a → total < 2 ^ 64 → IfSome old (λ xs. total ≡ min (had + length xs) (2 ^ 64 - 1))
ended None mid new a b had total first second nil end sum fits = tt
ended (Some xs) None new a b had total first second nil end sum fits = absurd first
ended (Some xs) (Some ys) None a b had total first second nil end sum fits = absurd second
ended (Some xs) (Some ys) (Some zs) a b had total first second nil end sum fits =
    omega (arith, length-append a ys, length-append b zs, ap length first, ap length second, ap length end)

-- after so many octets the count is the largest number, whatever is left
most : (old mid : Option (List ℕ)) (a : List ℕ) (had total times : ℕ) → Consumes old mid a → total ≡ had + length a → had + times ≤ total → 2 ^ 64 - 1 ≤ times → total < 2 ^ 64 → IfSome old (λ xs. total ≡ min (had + length xs) (2 ^ 64 - 1))
most None mid a had total times first sum least long fits = tt
most (Some xs) None a had total times first sum least long fits = absurd first
most (Some xs) (Some ys) a had total times first sum least long fits = omega (arith, length-append a ys, ap length first)

pub returns-then-n-eq0-clause-all : goal.returns-then-n-eq0-clause-all
returns-then-n-eq0-clause-all g c =
    let before = c.loop.invariant.counted in
    let now = c.in_ok-n.ensures.octets in
    ended _ _ _ before.0 now.0 _ _ before.1 now.1 (search rules) (search rules) before.2 (omega arith)

pub loop-preserved : goal.loop-preserved
loop-preserved g c =
    let before = c.loop.invariant.counted in
    let now = c.in_ok-n.ensures.octets in
    record {
      fits = search rules;
      least = omega arith;
      counted = (before.0 ++ now.0, Consumes-trans _ _ _ _ _ before.1 now.1, omega (arith, length-append before.0 now.0, now.2, before.2));
    }

pub returns-clause-all : goal.returns-clause-all
returns-clause-all g c =
    let before = c.loop.invariant.counted in
    most _ _ before.0 _ _ c.loop.counter before.1 before.2 c.loop.invariant.least (omega arith) (omega arith)
