use Rattle.std.specs.Slice.Iter.{windows_rest}
use Rattle.std.specs.Iterator.Adapters.{rev_source}
use Rattle.path.proofs.Walking.{Traced}
use Rattle.path.proofs.route.Route.back.Given as goal

abbrev pub invariant-loop-writer : goal.invariant-loop-writer
invariant-loop-writer l =
    (goal.iterator-loop-writer).can_next l.writer-iterator
    × (goal.iterator-loop-writer).is_finite l.writer-iterator
    × Traced l.self.rows.now (windows_rest (rev_source l.writer-iterator).parts) l.j l.at
