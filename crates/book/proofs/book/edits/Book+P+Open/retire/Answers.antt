use Rattle.std.proofs.Common.{◌≡◌, false, sym, ◌∙◌, rules}
use Rattle.book.specs.Ledgers.{on_route}
use Rattle.book.proofs.Kept.{kept, remove_keeps}
use Rattle.book.proofs.Routes.{on_route-any}
use Rattle.book.proofs.book.edits.Book+P+Open.retire.Goals as goal

pub returns-then-contains : goal.returns-then-contains
returns-then-contains g c =
    let on = on_route-any c.args.self.now.route.items c.args.number in
    search rules

pub invariant_of-self : goal.invariant_of-self
invariant_of-self g c =
    let book = c.args.self.now in
    let keeps = kept _ _ book.keeps in
    let removed = c.remove.ensures keeps.distinct keeps.ranged in
    let off : on_route book.route.items c.args.number ≡ false = sym (on_route-any book.route.items c.args.number) ∙ search rules in record {
      keeps = ∣ remove_keeps book.table c.remove.new.self book.route c.args.number keeps
          off removed.distinct removed.ranged removed.held ∣₁;
    }

pub returns : goal.returns
returns g c =
    let keeps = kept _ _ c.args.self.now.keeps in
    let removed = c.remove.ensures keeps.distinct keeps.ranged in
    let on = on_route-any c.args.self.now.route.items c.args.number in
    search rules
