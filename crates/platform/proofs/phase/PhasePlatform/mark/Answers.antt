use Rattle.std.proofs.Common.{◌-◌, ◌%◌, ◌<◌, ◌≤◌, arith}
use Rattle.platform.proofs.Told.{shaped}
use Rattle.platform.proofs.Phasing.{leaves_cycle}
use Rattle.platform.proofs.phase.PhasePlatform.mark.Given as given
use Rattle.platform.proofs.phase.PhasePlatform.mark.Goals as goal

leaves : (g : given.Over) (c : goal.After-instance-start g)
    → (c.in-Some.stage.cycle - c.args.self.now.shift % c.in-Some.stage.cycle ≤ c.instance-start.result.0)
    × (c.instance-start.result.0 < c.instance-start.result.1)
leaves g c =
    let stage = c.in-Some.stage in
    let p = shaped (g.P.Platform.sound stage.platform.now stage.number) stage.told in
    leaves_cycle c.args.self.now.shift _ _ _ p c.args.a _ _ _ c.marks_before-first.ensures c.instance-start.ensures

pub overflow_sub-result : goal.overflow_sub-result
overflow_sub-result g c = (leaves g c).0

pub overflow_sub-result-2 : goal.overflow_sub-result-2
overflow_sub-result-2 g c = let at = leaves g c in omega arith
