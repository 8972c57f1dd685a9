use Rattle.std.proofs.Common.{◌≡◌, ℕ, ◌<◌, true, get_or, is_some}
use Rattle.book.specs.Books.{view_of}
use Rattle.book.specs.Ledgers.{entry_stage}
use Rattle.book.proofs.book.Book.check_entries.Given as goal

-- the entries passed so far are held or present
abbrev pub invariant-loop-position : goal.invariant-loop-position
invariant-loop-position g l =
    (k : ℕ) → k < l.position → is_some (entry_stage (view_of g.P.Platform l.self) (get_or l.entries k 0)) ≡ true
