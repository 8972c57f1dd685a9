use Rattle.std.proofs.Common.{◌≡◌, ℕ, ◌<◌, length, get_or, Some}
use Rattle.platform.specs.Platforms.{marked}
use Rattle.book.specs.Books.{view_of}
use Rattle.book.specs.Ledgers.{entry_stage}
use Rattle.book.proofs.book.Book.entry_row.Given as goal

-- the marks passed so far are copied
abbrev pub invariant-loop-a : goal.invariant-loop-a
invariant-loop-a g l =
    (length l.marks.items ≡ l.a)
    × ((b : ℕ) → b < l.a → Some (get_or l.marks.items b (0, 0)) ≡ marked (entry_stage (view_of g.P.Platform l.self) l.entry) b)
