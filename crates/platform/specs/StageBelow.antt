-- The stage that a layer's view of a stage below stands for.
-- Assumes nothing.
use Rattle.std.specs.Prelude.{Option}
use Rattle.stage.specs.Stages.{Stage}
use Rattle.platform.specs.declared.platform.Platform.{Ghosts}
use Rattle.platform.specs.declared.stage_below.StageBelow.{StageBelow}

-- `platform` says what the platform below means
abbrev pub stage_below : {P : Type 0} (platform : Ghosts P) → StageBelow P platform → Option Stage
stage_below platform s = platform.meaning s.platform.now s.number
