use Rattle.std.proofs.Common.{arith, rules}
use Rattle.book.specs.Books.{view_of}
use Rattle.book.specs.Ledgers.{entry_stage}
use Rattle.book.proofs.Kept.{kept}
use Rattle.book.proofs.Rows.{entry_lawful, all_copied, row_accepted}
use Rattle.book.proofs.book.Book.entry_row.Goals as goal

pub returns : goal.returns
returns g c =
    let book = c.args.self.now in
    let stage = entry_stage (view_of g.P.Platform book) c.args.entry in
    let lawful =
    entry_lawful (g.P.Platform.meaning book.platform) (λ n. g.P.Platform.sound book.platform n) book.table book.route
    (kept _ _ book.keeps) c.args.entry in
    let copied = all_copied stage _ _ _ c.loop-a.marks.items lawful c.in_ok-cycle.ensures (omega arith) (λ b h. c.loop-a.invariant.1 b (omega arith)) in
    row_accepted stage c.in_ok-of_marks.field-0 _ c.new.result lawful copied.0 (search rules) c.new.ensures.refused
