use Rattle.std.proofs.Common.{◌≡◌, take}
use Rattle.book.specs.Books.{view_of}
use Rattle.book.specs.Ledgers.{cycles_along}
use Rattle.book.proofs.book.Book.macro_period.Given as goal

-- the cycles of the entries passed so far are noted
abbrev pub invariant-loop-entry : goal.invariant-loop-entry
invariant-loop-entry g l = l.cycles.items ≡ take l.entry-index (cycles_along (view_of g.P.Platform l.self))
