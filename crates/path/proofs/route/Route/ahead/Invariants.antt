use Rattle.std.specs.Slice.Iter.{windows_rest}
use Rattle.path.proofs.Walking.{Walked}
use Rattle.path.proofs.route.Route.ahead.Given as goal

abbrev pub invariant-loop-writer : goal.invariant-loop-writer
invariant-loop-writer l =
    (goal.iterator-loop-writer).can_next l.writer-iterator
    × (goal.iterator-loop-writer).is_finite l.writer-iterator
    × Walked l.self.rows.now (windows_rest l.writer-iterator.parts) l.i l.at
