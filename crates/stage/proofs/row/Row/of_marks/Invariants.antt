use Rattle.std.proofs.Common.{get_or}
use Rattle.stage.proofs.Filled.{Filled}
use Rattle.stage.proofs.row.Row.of_marks.Given as goal

-- the marks passed so far are written
abbrev pub invariant-loop-a : goal.invariant-loop-a
invariant-loop-a l =
    Filled (λ k. (get_or l.marks k (0, 0)).0) l.a l.starts × Filled (λ k. (get_or l.marks k (0, 0)).1) l.a l.stops
