use Rattle.std.proofs.Common.{◌-◌, ◌≤◌}
use Rattle.platform.specs.Layers.{marks_before}
use Rattle.platform.proofs.stage_below.StageBelow.marks_before.Given as goal

abbrev pub invariant-loop-low : goal.invariant-loop-low
invariant-loop-low g l =
    record {
      early : l.low ≤ marks_before l.end (g.P.Platform.meaning l.self.platform.now l.self.number);
      late : marks_before l.end (g.P.Platform.meaning l.self.platform.now l.self.number) ≤ l.high;
      within : l.high ≤ l.self.count;
    }

abbrev pub decreases-loop-low : goal.decreases-loop-low
decreases-loop-low g l = l.high - l.low
