use Rattle.std.proofs.Common.{◌≡◌, length}
use Rattle.stage.proofs.Marks.{Kept, floor_at}
use Rattle.stage.proofs.row.Row.is_lawful.Given as goal

abbrev pub invariant-loop-start : goal.invariant-loop-start
invariant-loop-start l = Kept l.self (length l.yielded) × (l.floor ≡ floor_at l.self (length l.yielded))
