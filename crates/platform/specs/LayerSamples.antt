-- A stage of two marks in 10 milliseconds, moved by half its cycle and thinned to every second instance.
-- Assumes nothing.
use Rattle.std.specs.Prelude.{◌≡◌, ℕ, [], ◌∷◌}
use Rattle.stage.specs.Stages.{Stage}
use Rattle.platform.specs.Phases.{phase_stage}
use Rattle.platform.specs.Thins.{thin_stage}

abbrev pub two_marks : ℕ → ℕ × ℕ → ℕ × ℕ → Stage
two_marks cycle first second = record { cycle = cycle; rank = 7; marks = first ∷ (second ∷ []) }

abbrev pub sample : Stage
sample = two_marks 10_000 (1_000, 2_000) (6_000, 9_000)

pub record SamplesHold : Type 0 where
  -- the second mark leaves the cycle and comes first
  pub moved : phase_stage 5_000 sample ≡ two_marks 10_000 (1_000, 4_000) (6_000, 7_000)
  -- instances 1 and 3 below
  pub thinned : thin_stage 2 1 sample ≡ two_marks 20_000 (6_000, 9_000) (16_000, 19_000)
