-- What holds of the instances of a stage, for ever.
-- Assumes nothing.
use Rattle.std.specs.Prelude.{◌≡◌, ℕ, ◌+◌, ◌<◌, ◌≤◌}
use Rattle.stage.specs.Stages.{Stage, count_of, start_of, stop_of}

-- The instances of a stage come one after the other and repeat with the cycle.
pub record InOrder (s : Stage) : Type 0 where
  -- a count of instances later everything happens one cycle later
  pub start_shift : (i : ℕ) → start_of s (i + count_of s) ≡ start_of s i + s.cycle
  pub stop_shift : (i : ℕ) → stop_of s (i + count_of s) ≡ stop_of s i + s.cycle
  pub starts_rise : (i j : ℕ) → i < j → start_of s i < start_of s j
  pub start_before_stop : (i : ℕ) → start_of s i < stop_of s i
  pub stop_before_next : (i : ℕ) → stop_of s i ≤ start_of s (i + 1)
  pub next_within_cycle : (i : ℕ) → start_of s (i + 1) ≤ start_of s i + s.cycle
  pub number_below_start : (i : ℕ) → i ≤ start_of s i

-- n is the first instance that starts at or after t: those below n start before t, and no other does.
pub record FirstFrom (s : Stage) (t n : ℕ) : Type 0 where
  pub earlier : (i : ℕ) → i < n → start_of s i < t
  pub later : (i : ℕ) → start_of s i < t → i < n
