use Rattle.std.proofs.Common.{◌∙◌, length, take, drop, ap, sym, arith}
use Rattle.std.proofs.lemmas.List.{length-set, length-take-le}
use Rattle.path.proofs.Walking.{traced_early, traced_there, traced_more, traced_witness}
use Rattle.path.proofs.Writing.{writing_more, writing_all}
use Rattle.path.proofs.Given.{stages_length}
use Rattle.path.proofs.route.Route.write_path.Goals as goal

pub back-at-requires : goal.back-at-requires
back-at-requires c =
    let turn = c.in-Some.ensures.steps.1.0.1 in
    record {
      early = traced_early _ _ _ _ c.loop-k.invariant.0.0.1 turn.0 turn.1 _ _ c.requires.end.there c.loop-k.invariant.3 c.index-next-0.result _;
      there = traced_there _ _ _ _ c.loop-k.invariant.0.0.1 turn.0 turn.1 _ _ c.requires.end.there c.loop-k.invariant.3 _ _;
    }

pub loop-k-preserved : goal.loop-k-preserved
loop-k-preserved c =
    let rows = c.args.self.now.rows.now in
    let count = c.in-Some.ensures.steps.0 in
    let size = c.in-Some.ensures.steps.1.0.0 ∙ c.loop-k.invariant.0.0.1 in
    let turn = c.in-Some.ensures.steps.1.0.1 in
    let index = c.in-Some.ensures.steps.1.1 in
    let shorter = ap length turn.2 ∙ length-take-le _ _ (omega arith) in (
      ((omega (arith, size), size), tt, omega (arith, count, c.loop-k.invariant.2, c.loop-k.invariant.0.2)),
      tt,
      count ∙ c.loop-k.invariant.2,
      traced_more _ _ _ _ c.loop-k.invariant.0.0.1 turn.0 turn.1 _ _ c.requires.end.there c.loop-k.invariant.3 _ _ _ _ turn.2 c.back-at.ensures,
      writing_more rows c.args.j c.args.path.now (omega (arith, c.requires.room, stages_length rows)) _ _ _ _ _ _ (c.loop-k.auto.path ∙ length-set _ _ _) (omega (arith, turn.0, c.loop-k.invariant.0.0.1))
          shorter (omega (arith, index, c.loop-k.invariant.2, size))
          (traced_witness _ _ _ _ c.loop-k.invariant.0.0.1 turn.0 turn.1 _ _ c.requires.end.there c.loop-k.invariant.3 _ _ _ _ turn.2 c.back-at.ensures)
          c.loop-k.invariant.4,
    )

pub returns : goal.returns
returns c =
    let rows = c.args.self.now.rows.now in
    let one = c.in-None.ensures.steps.1.1.0 in
    let path = c.loop-k.path in
    let n = stages_length rows in
    record {
      written = ap (λ m. take m path) n ∙
          writing_all rows c.args.j c.args.path.now (omega (arith, c.requires.room)) _ _ _ (c.loop-k.auto.path ∙ length-set _ _ _) (omega (arith, one, c.loop-k.invariant.0.0.1)) c.loop-k.invariant.3 c.loop-k.invariant.4;
      rest = ap (λ m. drop m path) n ∙ c.loop-k.invariant.4.rest ∙ ap (λ m. drop m c.args.path.now) (sym n);
    }
