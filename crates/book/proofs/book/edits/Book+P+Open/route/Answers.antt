use Rattle.book.proofs.Kept.{kept, route_keeps}
use Rattle.book.proofs.Queries.{none_absent}
use Rattle.book.proofs.book.edits.Book+P+Open.route.Goals as goal

pub invariant_of-self : goal.invariant_of-self
invariant_of-self g c =
    let book = c.args.self.now in record {
      keeps = ∣ route_keeps (g.P.Platform.meaning book.platform) book.table book.route c.in_ok-route.route c.args.entries.now
          (kept _ _ book.keeps) c.in_ok-route.ensures.entries (none_absent _ c.in_ok-check_entries.ensures) ∣₁;
    }
