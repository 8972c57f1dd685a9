use Rattle.std.proofs.Common.{◌≡◌, ◌∙◌, refl, sym, subst, arith}
use Rattle.stage.specs.Instances.{FirstFrom}
use Rattle.stage.specs.LawfulRow.{stage_in}
use Rattle.path.specs.Steps.{ready_of}
use Rattle.path.proofs.Given.{laws_in}
use Rattle.path.proofs.Ready.{ready_start, ready_stop, ahead_first}
use Rattle.path.proofs.Stepping.{answered, answer_is, refuted, stop_soon}
use Rattle.path.proofs.hop.Hop.ahead.Goals as goal
use Rattle.path.proofs.hop.Hop.ahead.Goals.{then-waits, else-waits}

pub unwrap-ready-requires-else-waits : goal.unwrap-ready-requires-else-waits
unwrap-ready-requires-else-waits c =
    let writer = c.args.self.now.writer.now in
    answered c.stop.result _ c.stop.ensures (omega (arith, stop_soon (stage_in writer) (laws_in writer) c.args.i))

pub returns : goal.returns
returns c =
    let w = stage_in c.args.self.now.writer.now in
    let r = stage_in c.args.self.now.reader.now in
    let i = c.args.i in
    let ready : c.if-waits.ready ≡ ready_of (stage_in c.args.self.now.writer.now) (stage_in c.args.self.now.reader.now) c.args.i =
    elim c.if-waits.branch [
      | then-waits v ↦
          v.ready-is ∙ answer_is v.start.result _ _ v.start.ensures v.unwrap-ready.ensures
          ∙ sym (ready_start w r i (v.if-waits.ensures.0 refl))
      | else-waits v ↦
          v.ready-is ∙ answer_is v.stop.result _ _ v.stop.ensures v.unwrap-ready-else-waits.ensures
          ∙ sym (ready_stop w r i (refuted _ v.if-waits.ensures))
    ] in
    ahead_first w r (laws_in c.args.self.now.writer.now) (laws_in c.args.self.now.reader.now) i c.next.result
    (subst (λ t. FirstFrom (stage_in c.args.self.now.reader.now) t c.next.result) ready c.next.ensures)
