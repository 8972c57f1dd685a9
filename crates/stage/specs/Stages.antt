-- A stage: something that runs again and again in a cycle, and the four laws that every stage keeps.
-- Assumes nothing.
use Rattle.std.specs.Prelude.{ℕ, ◌+◌, ◌-◌, ◌*◌, ◌/◌, ◌%◌, ◌<◌, ◌≤◌, List, length, slice_index_or}

-- A stage repeats its marks once in each cycle. A mark is a start and a stop, in microseconds from the cycle's
-- beginning. A stage of higher rank is more urgent.
pub record Stage : Type 0 where
  pub cycle : ℕ
  pub rank : ℕ
  pub marks : List (ℕ × ℕ)

abbrev pub count_of : Stage → ℕ
count_of s = length s.marks

abbrev pub mark_of : Stage → ℕ → ℕ × ℕ
mark_of s a = slice_index_or s.marks a (0, 0)

-- Instance q × count + a starts q cycles after mark a does, and stops q cycles after that mark stops.
unfoldable pub start_of : Stage → ℕ → ℕ
start_of s i = i / count_of s * s.cycle + (mark_of s (i % count_of s)).0

unfoldable pub stop_of : Stage → ℕ → ℕ
stop_of s i = i / count_of s * s.cycle + (mark_of s (i % count_of s)).1

-- the ranges and the four laws
pub record Lawful (s : Stage) : Type 0 where
  pub cycle_low : 1 ≤ s.cycle
  pub cycle_high : s.cycle ≤ 100_000_000
  pub count_low : 1 ≤ count_of s
  pub count_high : count_of s ≤ 48
  pub rank_high : s.rank ≤ 255
  -- each mark starts within the cycle
  pub start_in_cycle : (a : ℕ) → a < count_of s → (mark_of s a).0 < s.cycle
  -- and takes some time
  pub stop_after_start : (a : ℕ) → a < count_of s → (mark_of s a).0 < (mark_of s a).1
  -- marks do not overlap
  pub start_after_stop : (a : ℕ) → a + 1 < count_of s → (mark_of s a).1 ≤ (mark_of s (a + 1)).0
  -- the last one ends before the first comes again
  pub last_stop_in_time : (mark_of s (count_of s - 1)).1 ≤ s.cycle + (mark_of s 0).0
  deriving IsProp as lawful_prop

-- a mark keeps the laws within its cycle, where the mark before it stops at `floor`
pub record LawfulMark (cycle floor start stop : ℕ) : Type 0 where
  pub after_floor : floor ≤ start
  pub in_cycle : start < cycle
  pub stops_later : start < stop
