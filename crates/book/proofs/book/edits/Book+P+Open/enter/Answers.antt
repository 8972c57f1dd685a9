use Rattle.std.proofs.Common.{is_ok, rules}
use Rattle.book.proofs.Kept.{kept, put_keeps, number_low, record_checked}
use Rattle.book.proofs.book.edits.Book+P+Open.enter.Goals as goal

pub invariant_of-self : goal.invariant_of-self
invariant_of-self g c =
    let book = c.args.self.now in
    let keeps = kept _ _ book.keeps in
    let put = c.put.ensures.put keeps.distinct keeps.ranged in
    let low = number_low c.args.number c.in_ok-check_number.ensures in record {
      keeps = ∣ put_keeps book.table c.put.new.self book.route c.args.number c.in_ok-record.«record».«record» (is_ok c.put.result) keeps
          put.distinct (put.ranged low c.in_ok-record.«record».lawful) put.held ∣₁;
    }

pub returns : goal.returns
returns g c =
    let keeps = kept _ _ c.args.self.now.keeps in
    let put = c.put.ensures.put keeps.distinct keeps.ranged in
    let checked = record_checked c.args.«record» c.in_ok-record.ensures.1 in
    let same = c.in_ok-record.ensures.0 in
    search rules
