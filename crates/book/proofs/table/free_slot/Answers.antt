use Rattle.std.proofs.Common.{not, is_some, rules, tests}
use Rattle.std.proofs.lemmas.Iterator.{YieldsList-from_slice}
use Rattle.std.proofs.lemmas.Iterator.Search.{position_from_yields_List}
use Rattle.book.proofs.Slots.{found_vacant}
use Rattle.book.proofs.table.free_slot.Goals as goal

pub returns : goal.returns
returns c =
    found_vacant c.args.slots.now _
    (position_from_yields_List (λ s. not (is_some s)) _ _ _ c.position.ensures.ran
    (YieldsList-from_slice c.args.slots.now cc) (λ x b q k. search (rules, tests)))
