-- A span of time after which a list of stages repeats itself.
-- Assumes nothing.
use Rattle.std.specs.Prelude.{◌≡◌, ℕ, ◌*◌, ◌/◌, ◌%◌, ◌<◌, List}
use Rattle.std.specs.List.{AllByRecursion}
use Rattle.stage.specs.Stages.{Stage, count_of}

-- the cycle of s goes into the span a whole number of times
abbrev pub Whole : ℕ → Stage → Type 0
Whole span s = span % s.cycle ≡ 0

-- a common multiple of the cycles, and not zero
pub record Common (span : ℕ) (ss : List Stage) : Type 0 where
  pub positive : 0 < span
  pub whole : AllByRecursion (Whole span) ss

-- how many instances of s start in the span
unfoldable pub instances_in : ℕ → Stage → ℕ
instances_in span s = span / s.cycle * count_of s
