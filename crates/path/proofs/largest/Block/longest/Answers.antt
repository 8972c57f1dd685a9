use Rattle.std.proofs.Common.{◌≤◌, ap, sym, subst, IfSome, arith}
use Rattle.stage.specs.Stages.{start_of, stop_of}
use Rattle.path.specs.Route.{stages_along}
use Rattle.path.specs.Steps.{end_in}
use Rattle.path.specs.Timed.{first_stage, last_stage}
use Rattle.path.proofs.Searching.{stop_early}
use Rattle.path.proofs.Stepping.{answered}
use Rattle.path.proofs.largest.Block.longest.Goals as goal

pub unwrap-start-requires : goal.unwrap-start-requires
unwrap-start-requires c =
    let b = c.args.self.now in
    let m = c.args.semantics in
    let taking =
    subst (λ o. IfSome o (λ o. start_of (first_stage (stages_along b.route)) o ≤ stop_of (last_stage (stages_along b.route)) (end_in m b.near b.far)))
    (sym c.in_ok-origin.ensures) c.requires in
    answered c.start.result _ c.start.ensures
    (omega (arith, taking, stop_early m b, ap (λ s. start_of s c.in_ok-origin.origin) c.first.ensures))

pub unwrap-stop-requires : goal.unwrap-stop-requires
unwrap-stop-requires c =
    let b = c.args.self.now in
    let m = c.args.semantics in
    answered c.stop.result _ c.stop.ensures
    (omega (
      arith,
      stop_early m b,
      ap (λ s. stop_of s c.end-last.result) c.last.ensures,
      ap (stop_of (last_stage (stages_along b.route))) c.end-last.ensures,
    ))
