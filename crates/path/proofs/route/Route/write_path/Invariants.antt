use Rattle.std.proofs.Common.{◌≡◌}
use Rattle.std.specs.Slice.Iter.{windows_rest}
use Rattle.std.specs.Iterator.Adapters.{rev_source, enumerate_source, enumerate_count}
use Rattle.path.proofs.Walking.{Traced}
use Rattle.path.proofs.Writing.{Writing}
use Rattle.path.proofs.route.Route.write_path.Given as goal

abbrev pub invariant-loop-k : goal.invariant-loop-k
invariant-loop-k l =
    (goal.iterator-loop-k).can_next l.k-iterator
    × (goal.iterator-loop-k).is_finite l.k-iterator
    × (enumerate_count (rev_source l.k-iterator) ≡ 0)
    × Traced l.self.rows.now (windows_rest (enumerate_source (rev_source l.k-iterator)).parts) l.j l.at
    × Writing l.self.rows.now (windows_rest (enumerate_source (rev_source l.k-iterator)).parts) l.j l.at l.path l.fn.path
