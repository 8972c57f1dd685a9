use Rattle.std.proofs.Common.{◌∙◌, arith}
use Rattle.path.proofs.Walking.{traced_early, traced_there, traced_more}
use Rattle.path.proofs.route.Route.back.Goals as goal

pub back-at-requires : goal.back-at-requires
back-at-requires c =
    let turn = c.in-Some.ensures.steps.1 in
    record {
      early = traced_early _ _ _ _ c.loop-writer.invariant.0.1 turn.0 turn.1 _ _ c.requires.there c.loop-writer.invariant.2 c.index-next-0.result _;
      there = traced_there _ _ _ _ c.loop-writer.invariant.0.1 turn.0 turn.1 _ _ c.requires.there c.loop-writer.invariant.2 _ _;
    }

pub loop-writer-preserved : goal.loop-writer-preserved
loop-writer-preserved c =
    let size = c.in-Some.ensures.steps.0 in
    let turn = c.in-Some.ensures.steps.1 in (
      (omega (arith, c.loop-writer.invariant.0.0), size ∙ c.loop-writer.invariant.0.1),
      tt,
      traced_more _ _ _ _ c.loop-writer.invariant.0.1 turn.0 turn.1 _ _ c.requires.there c.loop-writer.invariant.2 _ _ _ _ turn.2 c.back-at.ensures,
    )
