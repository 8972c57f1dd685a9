use Rattle.std.proofs.Common.{refl, arith}
use Rattle.path.proofs.Stepping.{answered, answer_is, refuted, step_back}
use Rattle.path.proofs.hop.Hop.back.Goals as goal

pub overflow_sub-started : goal.overflow_sub-started
overflow_sub-started c =
    (step_back c.args.self.now c.args.j _ _ _ c.start.ensures c.unwrap-time.ensures c.next-started.ensures c.requires.there).some

pub returns-then-waits : goal.returns-then-waits
returns-then-waits c =
    (step_back c.args.self.now c.args.j _ _ _ c.start.ensures c.unwrap-time.ensures c.next-started.ensures c.requires.there).waiting
    (c.if-waits.ensures.0 refl)

pub unwrap-requires : goal.unwrap-requires
unwrap-requires c =
    let e = answer_is c.start.result _ _ c.start.ensures c.unwrap-time.ensures in
    let back = step_back c.args.self.now c.args.j _ _ _ c.start.ensures c.unwrap-time.ensures c.next-started.ensures c.requires.there in
    answered c.stop.result _ c.stop.ensures (omega (arith, e, back.stops))

pub returns-then-unwrap-time : goal.returns-then-unwrap-time
returns-then-unwrap-time c =
    let stop = answer_is c.stop.result _ _ c.stop.ensures c.unwrap.ensures in
    (step_back c.args.self.now c.args.j _ _ _ c.start.ensures c.unwrap-time.ensures c.next-started.ensures c.requires.there).stopped
    (refuted _ c.if-waits.ensures) (omega arith)

pub overflow_sub-result : goal.overflow_sub-result
overflow_sub-result c =
    let stop = answer_is c.stop.result _ _ c.stop.ensures c.unwrap.ensures in
    let back = step_back c.args.self.now c.args.j _ _ _ c.start.ensures c.unwrap-time.ensures c.next-started.ensures c.requires.there in
    omega (arith, c.requires.there, back.running (refuted _ c.if-waits.ensures) (omega arith))

pub returns-else-unwrap-time : goal.returns-else-unwrap-time
returns-else-unwrap-time c =
    let stop = answer_is c.stop.result _ _ c.stop.ensures c.unwrap.ensures in
    let back = step_back c.args.self.now c.args.j _ _ _ c.start.ensures c.unwrap-time.ensures c.next-started.ensures c.requires.there in
    omega (arith, c.requires.there, back.running (refuted _ c.if-waits.ensures) (omega arith))
