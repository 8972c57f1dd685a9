-- The ledger that a book stands for, and what a reader sees of a book.
-- Assumes nothing.
use Rattle.std.specs.Prelude.{◌≡◌}
use Rattle.platform.specs.declared.platform.Platform.{Ghosts}
use Rattle.book.specs.Keeping.{seen, stands}
use Rattle.book.specs.Ledgers.{Ledger, View}
use Rattle.book.specs.declared.book.Book.{Book}

abbrev pub ledger_of : {P S : Type 0} → Book P S → Ledger
ledger_of b = stands b.table b.route

-- `platform` says what the book's platform means
abbrev pub view_of : {P S : Type 0} → Ghosts P → Book P S → View
view_of platform b = seen (platform.meaning b.platform) b.table b.route

-- the book stands for another ledger now, over the same platform
pub record Becomes {P S : Type 0} (before after : Book P S) (next : Ledger) : Type 0 where
  pub ledger : ledger_of after ≡ next
  pub platform : after.platform ≡ before.platform
