-- What a layer knows of a stage below, once that stage is described.
-- Assumes nothing.
use Rattle.std.specs.Prelude.{◌≡◌, ℕ, Some, None, Option}
use Rattle.std.specs.Option.{option_map}
use Rattle.stage.specs.Stages.{Stage, Lawful, count_of, start_of, stop_of}
use Rattle.platform.specs.Phases.{before}

-- the stage is there, keeps the laws, and has this cycle and count
pub record Shaped (o : Option Stage) (cycle count : ℕ) : Type 0 where
  pub stage : Stage
  pub present : o ≡ Some stage
  pub lawful : Lawful stage
  pub cycle_is : stage.cycle ≡ cycle
  pub count_is : count_of stage ≡ count

-- when instance i of a stage starts and stops
abbrev pub instanced : Option Stage → ℕ → Option (ℕ × ℕ)
instanced o i = option_map (λ s. (start_of s i, stop_of s i)) o

-- how many marks of a stage come before the first that starts at `end` or later
abbrev pub marks_before : ℕ → Option Stage → ℕ
marks_before end None = 0
marks_before end (Some s) = before end s.marks
