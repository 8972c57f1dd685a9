-- What the numbers on a route name.
-- Assumes nothing.
use Rattle.std.specs.Prelude.{ℕ, ◌-◌, cond, nat_lt}
use Rattle.book.specs.declared.entry.Entry.{Entry}
use Rattle.book.specs.declared.entry.Entry.TheVariants.{Task, Stage}

-- below 128 a title task, from 128 on a stage of the platform
abbrev pub entry_of : ℕ → Entry
entry_of n = cond (nat_lt n 128) (Task n) (Stage (n - 128))
