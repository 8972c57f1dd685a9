-- What the book's inner table holds under a number.
-- Assumes nothing.
use Rattle.std.specs.Prelude.{◌≡◌, ℕ, ◌+◌, ◌<◌, Bool, true, false, cond, ◌||◌, List, [], ◌∷◌, length, get_or, is_some, Some, None, Option, ◌==◌, ◌≢◌, nat_eq, nat_lt, slice_index_or, slice_set}
use Rattle.std.specs.Map.{update}
use Rattle.platform.specs.declared.record.Record.{Record}
use Rattle.platform.specs.declared.lawful_record.LawfulRecord.{LawfulRecord}
use Rattle.platform.specs.Records.{in_range}
use Rattle.book.specs.Ledgers.{held_count}
use Rattle.book.specs.declared.table.Task.{Task}

-- whether a slot's task has the number
abbrev pub has_number : Option Task → ℕ → Bool
has_number None n = false
has_number (Some t) n = n == t.number

abbrev pub record_of : LawfulRecord → Record
record_of l = l.record

abbrev pub record_in : Option Task → Option Record
record_in None = None
record_in (Some t) = Some (record_of t.record)

-- the record in the first slot that has the number
abbrev pub held_under : List (Option Task) → ℕ → Option Record
held_under [] n = None
held_under (slot ∷ slots) n = cond (has_number slot n) (record_in slot) (held_under slots n)

-- numbers differ
abbrev pub Distinct : List (Option Task) → Type 0
Distinct [] = Unit {0}
Distinct (None ∷ slots) = Distinct slots
Distinct (Some t ∷ slots) = (is_some (held_under slots t.number) ≡ false) × Distinct slots

-- numbers are below 128, and records in range
abbrev pub Ranged : List (Option Task) → Type 0
Ranged [] = Unit {0}
Ranged (None ∷ slots) = Ranged slots
Ranged (Some t ∷ slots) = (t.number < 128) × (in_range t.record.record ≡ true) × Ranged slots

-- slot i has a task of this number, and its record is the one held
pub record Found (slots : List (Option Task)) (i n : ℕ) : Type 0 where
  pub inside : i < length slots
  pub has : has_number (slice_index_or slots i None) n ≡ true
  pub held : held_under slots n ≡ record_in (slice_index_or slots i None)

-- slot i has no task
pub record Vacant (slots : List (Option Task)) (i : ℕ) : Type 0 where
  pub inside : i < length slots
  pub empty : get_or slots i None ≡ None

-- how many slots have none
abbrev pub vacant : List (Option Task) → ℕ
vacant [] = 0
vacant (None ∷ slots) = vacant slots + 1
vacant (Some t ∷ slots) = vacant slots

-- whether a record can be held under the number: one is held already, or fewer than 32 are
abbrev pub has_room : List (Option Task) → ℕ → Bool
has_room slots n = is_some (held_under slots n) || nat_lt (held_count (held_under slots) 128) 32

-- slot i can take a record under the number n: no other slot has n, and the slot has no other number
pub record Ready (slots : List (Option Task)) (i n : ℕ) : Type 0 where
  pub inside : i < length slots
  pub room : has_room slots n ≡ true
  pub alone : held_under (slice_set slots i None) n ≡ None
  pub free : (m : ℕ) → (m ≢ n) → has_number (slice_index_or slots i None) m ≡ false

-- the record is held under the number, where there was room for it, and nothing else is held otherwise than before
pub record Put (before after : List (Option Task)) (n : ℕ) (r : Record) (done : Bool) : Type 0 where
  pub room : done ≡ has_room before n
  pub held : (m : ℕ) → held_under after m ≡ cond done (update nat_eq (held_under before) n (Some r) m) (held_under before m)
  pub distinct : Distinct after
  pub ranged : n < 128 → in_range r ≡ true → Ranged after

-- nothing is held under the number, and nothing else is held otherwise than before
pub record Removed (before after : List (Option Task)) (n : ℕ) : Type 0 where
  pub held : (m : ℕ) → held_under after m ≡ update nat_eq (held_under before) n None m
  pub distinct : Distinct after
  pub ranged : Ranged after
