use Rattle.std.proofs.Common.{mod-lt, arith}
use Rattle.stage.proofs.Marks.{ranges_of}
use Rattle.stage.proofs.lawful.LawfulRow.time_of.Goals as goal

pub bounds-marks-i : goal.bounds-marks-i
bounds-marks-i c =
    let ranges = ranges_of _ c.args.self.now.lawful in
    omega (arith, mod-lt c.args.i ranges.count_low)
