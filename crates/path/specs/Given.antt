-- The stages that lawful rows in memory mean.
-- Assumes nothing.
use Rattle.std.specs.Prelude.{List, map}
use Rattle.stage.specs.Stages.{Stage}
use Rattle.stage.specs.LawfulRow.{stage_in}
use Rattle.stage.specs.declared.lawful.LawfulRow.{LawfulRow}

abbrev pub stages_of : List LawfulRow → List Stage
stages_of rows = map stage_in rows
