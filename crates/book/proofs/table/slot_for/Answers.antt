use Rattle.std.proofs.Common.{rules}
use Rattle.book.proofs.Slots.{either_ready}
use Rattle.book.proofs.table.slot_for.Goals as goal

pub returns-clause-ready : goal.returns-clause-ready
returns-clause-ready c = λ distinct ranged.
    let h = c.or_else.ensures in
    either_ready c.args.slots.now distinct ranged c.told-slots c.args.number c.slot_of.result _ c.slot_of.ensures
    (λ e. let at = rw e at h in search rules) (λ i e. let at = rw e at h in search rules)
