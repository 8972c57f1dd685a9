-- The stage that a row in memory means.
-- Assumes nothing.
use Rattle.std.specs.Prelude.{ℕ, ◌+◌, ◌*◌, ◌/◌, ◌%◌, ◌<◌, ◌≤◌, List, map, length, slice_index, slice_index_or}
use Rattle.std.specs.List.{range_with_len}
use Rattle.stage.specs.Stages.{Stage, count_of, mark_of}
use Rattle.stage.specs.declared.row.Row.{Row}

-- The row's first `count` starts and stops are the marks; entries from the count on are not read.
abbrev pub stage_of : Row → Stage
stage_of r =
    record {
      cycle = r.cycle;
      rank = r.rank;
      marks = map (λ (a : ℕ). (slice_index r.starts a, slice_index r.stops a)) (range_with_len 0 r.count);
    }

-- the row of a list of marks, with zeros past them
abbrev pub row_of : ℕ → ℕ → List (ℕ × ℕ) → Row
row_of cycle rank marks =
    record {
      cycle = cycle;
      count = length marks;
      rank = rank;
      starts = map (λ (a : ℕ). (slice_index_or marks a (0, 0)).0) (range_with_len 0 48);
      stops = map (λ (a : ℕ). (slice_index_or marks a (0, 0)).1) (range_with_len 0 48);
    }

-- just the first n marks start before a time within the cycle
pub record StartBefore (s : Stage) (time n : ℕ) : Type 0 where
  pub within : n ≤ count_of s
  pub early : (a : ℕ) → a < n → (mark_of s a).0 < time
  pub late : (a : ℕ) → n ≤ a → a < count_of s → time ≤ (mark_of s a).0

-- a is the last mark that starts at or before a time within the cycle
pub record Latest (s : Stage) (time a : ℕ) : Type 0 where
  pub present : a < count_of s
  pub started : (mark_of s a).0 ≤ time
  pub last : (b : ℕ) → b < count_of s → (mark_of s b).0 ≤ time → b ≤ a

-- when a row's instance i comes to what the list `times` has for its mark
abbrev pub time_of : Row → List ℕ → ℕ → ℕ
time_of r times i = i / r.count * r.cycle + slice_index times (i % r.count)
