use Rattle.std.proofs.Common.{◌∙◌, arith}
use Rattle.path.proofs.Walking.{walked_more}
use Rattle.path.proofs.route.Route.ahead.Goals as goal

pub loop-writer-preserved : goal.loop-writer-preserved
loop-writer-preserved c =
    let turn = c.in-Some.ensures.steps.1 in
    let size = c.in-Some.ensures.steps.0 in (
      (omega (arith, c.loop-writer.invariant.0.0), size ∙ c.loop-writer.invariant.0.1),
      tt,
      walked_more _ _ _ _ c.loop-writer.invariant.0.1 turn.0 turn.1 _ _ c.loop-writer.invariant.2 _ _ _ _ turn.2 c.ahead-at.ensures,
    )
