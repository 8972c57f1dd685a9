use Rattle.std.proofs.Common.{rules, tests}
use Rattle.std.proofs.lemmas.Iterator.{YieldsList-from_slice}
use Rattle.std.proofs.lemmas.Iterator.Search.{position_from_yields_List}
use Rattle.book.specs.Tasks.{has_number}
use Rattle.book.proofs.Slots.{found_by_number}
use Rattle.book.proofs.table.slot_of.Goals as goal

pub returns : goal.returns
returns c =
    found_by_number c.args.slots.now c.args.number _
    (position_from_yields_List (λ s. has_number s c.args.number) _ _ _ c.position.ensures.ran
    (YieldsList-from_slice c.args.slots.now cc) (λ x b q k. search (rules, tests)))
