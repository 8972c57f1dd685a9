use Rattle.book.proofs.Slots.{found_ready, emptied_held, emptied_distinct, emptied_ranged}
use Rattle.book.proofs.table.Table.remove.Goals as goal

pub returns-in-Some : goal.returns-in-Some
returns-in-Some c = λ distinct ranged.
    let slots = c.args.self.now.slots in
    record {
      held = emptied_held slots c.in-Some.slot c.args.number
          (found_ready slots c.in-Some.slot c.args.number distinct c.in-Some.ensures);
      distinct = emptied_distinct slots c.in-Some.slot distinct;
      ranged = emptied_ranged slots c.in-Some.slot ranged;
    }
