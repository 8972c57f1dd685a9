-- Lawful rows in memory: their stages keep the laws.
-- Assumes nothing.
use Rattle.std.proofs.Common.{◌≡◌, ℕ, ◌-◌, ◌<◌, List, [], ◌∷◌, length, get_or, refl, ap, ◌∙◌, arith}
use Rattle.std.specs.List.{AllByRecursion}
use Rattle.std.proofs.lemmas.List.{get_or-map, length-map}
use Rattle.stage.specs.Stages.{Stage, Lawful}
use Rattle.stage.specs.declared.lawful.LawfulRow.{LawfulRow}
use Rattle.stage.proofs.Marks.{laws_of}
use Rattle.stage.specs.LawfulRow.{stage_in}
use Rattle.path.specs.Given.{stages_of}
use Rattle.path.specs.Timed.{last_or, last_stage}

pub laws_in : (x : LawfulRow) → Lawful (stage_in x)
laws_in x = laws_of (stage_in x) x.lawful

pub all_laws : (rows : List LawfulRow) → AllByRecursion Lawful (stages_of rows)
all_laws [] = tt
all_laws (x ∷ rows) = (laws_in x, all_laws rows)

pub stages_length : (rows : List LawfulRow) → length (stages_of rows) ≡ length rows
stages_length rows = length-map rows stage_in

pub stage_at : (rows : List LawfulRow) (k : ℕ) (x : LawfulRow) (d : Stage) → k < length rows → get_or (stages_of rows) k d ≡ stage_in (get_or rows k x)
stage_at rows k x d h = get_or-map stage_in rows k x d h

last_or_at : (r : LawfulRow) (rows : List LawfulRow) (x : LawfulRow) → last_or (stage_in r) (stages_of rows) ≡ stage_in (get_or (r ∷ rows) (length rows) x)
last_or_at r [] x = refl
last_or_at r (q ∷ rows) x = last_or_at q rows x

pub last_at : (rows : List LawfulRow) (x : LawfulRow) → 0 < length rows → last_stage (stages_of rows) ≡ stage_in (get_or rows (length rows - 1) x)
last_at [] x some = absurd (omega arith)
last_at (r ∷ rows) x some = last_or_at r rows x ∙ ap (λ n. stage_in (get_or (r ∷ rows) n x)) (omega arith)
