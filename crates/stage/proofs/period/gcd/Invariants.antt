use Rattle.std.proofs.Common.{ℕ}
use Rattle.stage.specs.Periods.{GreatestCommonDivisor}
use Rattle.stage.proofs.period.gcd.Given as goal

-- what is the greatest common divisor of the two numbers at hand is that of the first two
abbrev pub invariant-loop-b : goal.invariant-loop-b
invariant-loop-b l = (g : ℕ) → GreatestCommonDivisor l.a l.b g → GreatestCommonDivisor l.initial.a l.initial.b g

abbrev pub decreases-loop-b : goal.decreases-loop-b
decreases-loop-b l = l.b
