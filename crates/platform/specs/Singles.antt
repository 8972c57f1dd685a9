-- A platform that has one lawful row under every number.
-- Assumes nothing.
use Rattle.std.specs.Prelude.{ℕ, cond, Some, None, Option, nat_lt}
use Rattle.std.proofs.Common.{arith}
use Rattle.std.proofs.lemmas.Bool.Decides.{nat_tests}
use Rattle.stage.specs.Stages.{Stage}
use Rattle.stage.specs.Rows.{stage_of}
use Rattle.stage.specs.declared.lawful.LawfulRow.{LawfulRow}
use Rattle.stage.proofs.Marks.{laws_of}
use Rattle.platform.specs.Platforms.{Sound}

abbrev pub single : LawfulRow → ℕ → Option Stage
single l n = cond (nat_lt n 128) (Some (stage_of l.row)) None

pub single_sound : (l : LawfulRow) (n : ℕ) → Sound n (single l n)
single_sound l n =
    record {
      lawful = grind (arith, nat_tests, laws_of _ l.lawful);
      absent_above = λ h. grind (arith, nat_tests);
    }
