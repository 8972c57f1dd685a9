use Rattle.std.proofs.Common.{◌≡◌, None, is_some, option_map, sym, ap, ◌∙◌, arith, rules}
use Rattle.book.specs.Books.{view_of}
use Rattle.book.specs.Ledgers.{absent_at, entry_stage}
use Rattle.book.proofs.Routes.{absent_here, absent_nowhere, described_some}
use Rattle.book.proofs.book.Book.check_entries.Goals as goal

pub returns-in_err-ok_or : goal.returns-in_err-ok_or
returns-in_err-ok_or g c =
    let stage = entry_stage (view_of g.P.Platform c.args.self.now) in
    let none : c.describe_entry.result ≡ None = search rules in
    let here = absent_here stage c.args.entries.now c.loop-position.position (omega arith) c.loop-position.invariant
    (sym (described_some _) ∙ ap is_some (sym c.describe_entry.ensures ∙ none)) in
    search rules

pub returns : goal.returns
returns g c =
    let stage = entry_stage (view_of g.P.Platform c.args.self.now) in
    sym (ap (option_map absent_at) (absent_nowhere stage c.args.entries.now (λ k h. c.loop-position.invariant k (omega arith))))
