use Rattle.std.proofs.Common.{◌≡◌, false, Some, Option, ℕ, sym, subst, MatchOption, rules}
use Rattle.book.specs.Tasks.{Ready, has_room}
use Rattle.book.specs.declared.table.Task.{Task}
use Rattle.book.proofs.Slots.{put_held, filled_distinct, filled_ranged}
use Rattle.book.proofs.table.Table.put.Goals as goal

pub returns-clause-put : goal.returns-clause-put
returns-clause-put c = λ distinct ranged.
    let slots = c.args.self.now.slots in
    let i = c.in_ok-slot.slot in
    let task : Task = record { number = c.args.number; «record» = c.args.«record» } in
    let there : c.slot_for.result ≡ Some i = search rules in
    let ready : Ready slots i task.number =
    subst (λ (o : Option ℕ). MatchOption o (has_room slots task.number ≡ false) (λ k. Ready slots k task.number)) there
    (c.slot_for.ensures.ready distinct ranged) in
    record {
      room = sym ready.room;
      held = put_held slots i task ready;
      distinct = filled_distinct slots i task distinct ready.alone;
      ranged = λ low range. filled_ranged slots i task low range ranged;
    }
