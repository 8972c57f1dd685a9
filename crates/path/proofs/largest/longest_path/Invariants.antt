use Rattle.std.proofs.Common.{◌+◌, ◌-◌}
use Rattle.path.proofs.Searching.{Reached}
use Rattle.path.proofs.largest.longest_path.Given as goal

abbrev pub invariant-loop-block : goal.invariant-loop-block
invariant-loop-block l = Reached l.semantics l.fn.route l.span l.end l.block l.best

abbrev pub decreases-loop-block : goal.decreases-loop-block
decreases-loop-block l = l.end + 1 - l.block.begin
