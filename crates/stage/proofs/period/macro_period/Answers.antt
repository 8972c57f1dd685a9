use Rattle.std.proofs.Common.{arith}
use Rattle.stage.proofs.Divisors.{least_none, least_more, none_more}
use Rattle.stage.proofs.period.macro_period.Goals as goal

pub loop-cycle-init : goal.loop-cycle-init
loop-cycle-init c = (least_none _, omega arith)

pub returns-in_err-period : goal.returns-in_err-period
returns-in_err-period c =
    rw c.from_residual.ensures
    (none_more c.args.cycles.now c.loop-cycle.cycle-index c.loop-cycle.period (omega arith)
    c.loop-cycle.invariant.0 c.in_err-period.ensures)

pub loop-cycle-preserved : goal.loop-cycle-preserved
loop-cycle-preserved c =
    let more = c.in_ok-period.ensures in (
      least_more c.args.cycles.now c.loop-cycle.cycle-index c.loop-cycle.period c.in_ok-period.period
          c.loop-cycle.invariant.0 more.0,
      more.1,
    )
