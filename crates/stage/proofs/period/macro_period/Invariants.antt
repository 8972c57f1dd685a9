use Rattle.std.proofs.Common.{◌≤◌}
use Rattle.stage.proofs.Divisors.{LeastOfFirst}
use Rattle.stage.proofs.period.macro_period.Given as goal

abbrev pub invariant-loop-cycle : goal.invariant-loop-cycle
invariant-loop-cycle l = LeastOfFirst l.cycles l.cycle-index l.period × (l.period ≤ 100_000_000)
