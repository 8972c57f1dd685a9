use Rattle.std.proofs.Common.{◌≡◌, length, map, take}
use Rattle.path.specs.Given.{stages_of}
use Rattle.book.specs.Books.{view_of}
use Rattle.book.specs.Ledgers.{entry_stage, present_stages}
use Rattle.book.proofs.book.Book.route_rows.Given as goal

-- the rows of the entries passed so far are noted
abbrev pub invariant-loop-entry : goal.invariant-loop-entry
invariant-loop-entry g l =
    (length l.rows.items ≡ l.entry-index)
    × (stages_of l.rows.items ≡ present_stages (map (entry_stage (view_of g.P.Platform l.self)) (take l.entry-index l.self.route.items)))
