use Rattle.std.proofs.Common.{ℕ, Some, MatchResult, sym, ◌∙◌, subst, arith}
use Rattle.stage.specs.Periods.{IsMacroPeriod}
use Rattle.path.specs.Given.{stages_of}
use Rattle.path.specs.Refusals.{Refused, cycles_of}
use Rattle.path.proofs.Cycles.{cycles_more, cycles_all, period_answered}
use Rattle.path.proofs.Given.{stages_length}
use Rattle.path.proofs.route.Route.macro_period.Goals as goal

pub loop-row-preserved : goal.loop-row-preserved
loop-row-preserved c =
    rw (c.push.ensures.items, c.row.ensures.value)
    (cycles_more c.args.self.now.rows.now c.loop-row.row-index c.loop-row.cycles.items c.row-item.result c.loop-row-test.true c.loop-row.invariant c.row-item.is)

pub returns : goal.returns
returns c =
    let route = c.args.self.now in
    let rows = route.rows.now in
    let all = c.as_slice.ensures.value ∙ c.loop-row.invariant ∙ cycles_all rows c.loop-row.row-index c.loop-row-test.false in
    let period = subst (λ cycles. IsMacroPeriod cycles c.macro_period.result) all c.macro_period.ensures in
    subst (λ r. MatchResult r (λ span. IsMacroPeriod (cycles_of (stages_of rows)) (Some span)) (λ fault. (room : ℕ) → Refused fault (stages_of rows) room))
    (sym c.ok_or.ensures.value)
    (period_answered (stages_of rows) c.macro_period.result
    (omega (arith, route.some, stages_length rows), omega (arith, route.few, stages_length rows)) period)
