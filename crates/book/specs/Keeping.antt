-- What every book keeps, and the ledger that its contents stand for.
-- Assumes nothing.
use Rattle.std.specs.Prelude.{◌≡◌, ℕ, ◌<◌, true, length, is_some, Option, slice_index}
use Rattle.arrayvec.specs.ArrayVec.{ArrayVec}
use Rattle.stage.specs.Stages.{Stage}
use Rattle.book.specs.Ledgers.{Ledger, View}
use Rattle.book.specs.Tasks.{held_under, Distinct, Ranged}
use Rattle.book.specs.declared.table.Table.{Table}

abbrev pub stands : Table → ArrayVec ℕ → Ledger
stands table route = record { records = held_under table.slots; route = route.items }

-- what a reader sees of a table and a route over a platform's stages
abbrev pub seen : (ℕ → Option Stage) → Table → ArrayVec ℕ → View
seen meaning table route = record { platform = meaning; ledger = stands table route }

-- Numbers differ, records are in range, and each route entry below 128 is held.
pub record Keeps (table : Table) (route : ArrayVec ℕ) : Type 0 where
  pub distinct : Distinct table.slots
  pub ranged : Ranged table.slots
  pub held : (k : ℕ) → k < length route.items → slice_index route.items k < 128
      → is_some (held_under table.slots (slice_index route.items k)) ≡ true
  deriving IsProp as keeps_prop
