-- The stage that a lawful row means.
-- Assumes nothing.
use Rattle.stage.specs.Stages.{Stage}
use Rattle.stage.specs.Rows.{stage_of}
use Rattle.stage.specs.declared.lawful.LawfulRow.{LawfulRow}

abbrev pub stage_in : LawfulRow → Stage
stage_in l = stage_of l.row
