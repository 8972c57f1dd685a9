-- Worked cases: routes of stages with one mark each, and the figures that they have.
-- Assumes nothing.
use Rattle.std.specs.Prelude.{ℕ, ◌+◌, List, [], ◌∷◌, Some, None, Option}
use Rattle.stage.specs.Stages.{Stage}
use Rattle.path.specs.declared.semantics.Semantics.{Semantics}
use Rattle.path.specs.declared.semantics.Semantics.TheVariants.{LL, LF, FL, FF}
use Rattle.path.specs.Figures.{Figure}

-- a stage with one mark: period, offset, response, rank
abbrev pub one_mark : ℕ → ℕ → ℕ → ℕ → Stage
one_mark period offset response rank =
    record { cycle = period; rank = rank; marks = (offset, offset + response) ∷ [] }

abbrev pub stage_1 : Stage
stage_1 = one_mark 10_000 0 2_000 5

abbrev pub stage_3 : Stage
stage_3 = one_mark 4_000 0 500 1

abbrev pub stage_4 : Stage
stage_4 = one_mark 4_000 0 500 9

abbrev pub stage_5 : Stage
stage_5 = one_mark 10_000 0 3_000 5

abbrev pub stage_128 : Stage
stage_128 = one_mark 20_000 0 5_000 1

-- a case: under a semantics, a route has a delay, a predecessor and a witness
pub record Sample : Type 0 where
  pub semantics : Semantics
  pub stages : List Stage
  pub delay : ℕ
  pub predecessor : Option ℕ
  pub witness : List ℕ

abbrev pub Holds : Sample → Type 0
Holds c = Figure c.semantics c.stages c.delay c.predecessor c.witness

abbrev pub case_of : Semantics → List Stage → ℕ → Option ℕ → List ℕ → Sample
case_of m ss d p w = record { semantics = m; stages = ss; delay = d; predecessor = p; witness = w }

abbrev pub samples : List Sample
samples =
    case_of LL (stage_1 ∷ (stage_3 ∷ [])) 8_500 None (0 ∷ (2 ∷ []))
    ∷ (case_of LF (stage_1 ∷ (stage_3 ∷ [])) 2_500 None (1 ∷ (3 ∷ []))
    ∷ (case_of FL (stage_1 ∷ (stage_3 ∷ [])) 18_500 (Some 1) (2 ∷ (7 ∷ []))
    ∷ (case_of FF (stage_1 ∷ (stage_3 ∷ [])) 12_500 (Some 0) (1 ∷ (3 ∷ []))
    ∷ (case_of LL (stage_3 ∷ (stage_1 ∷ [])) 6_000 None (4 ∷ (2 ∷ []))
    ∷ (case_of LF (stage_3 ∷ (stage_1 ∷ [])) 6_000 None (4 ∷ (2 ∷ []))
    ∷ (case_of FL (stage_3 ∷ (stage_1 ∷ [])) 16_000 (Some 4) (7 ∷ (3 ∷ []))
    ∷ (case_of FF (stage_3 ∷ (stage_1 ∷ [])) 16_000 (Some 4) (7 ∷ (3 ∷ []))
    ∷ (case_of LL (stage_1 ∷ []) 2_000 None (0 ∷ [])
    ∷ (case_of LF (stage_1 ∷ []) 2_000 None (0 ∷ [])
    ∷ (case_of FL (stage_1 ∷ []) 12_000 (Some 0) (1 ∷ [])
    ∷ (case_of FF (stage_1 ∷ []) 12_000 (Some 0) (1 ∷ [])
    ∷ (case_of LL (stage_1 ∷ (stage_1 ∷ [])) 12_000 None (0 ∷ (1 ∷ []))
    ∷ (case_of LF (stage_1 ∷ (stage_1 ∷ [])) 12_000 None (0 ∷ (1 ∷ []))
    ∷ (case_of FL (stage_1 ∷ (stage_1 ∷ [])) 22_000 (Some 0) (1 ∷ (2 ∷ []))
    ∷ (case_of FF (stage_1 ∷ (stage_1 ∷ [])) 22_000 (Some 0) (1 ∷ (2 ∷ []))
    ∷ (case_of LL (stage_4 ∷ (stage_5 ∷ (stage_128 ∷ []))) 5_000 None (0 ∷ (0 ∷ (0 ∷ [])))
    ∷ (case_of LF (stage_4 ∷ (stage_5 ∷ (stage_128 ∷ []))) 5_000 None (0 ∷ (0 ∷ (0 ∷ [])))
    ∷ (case_of FL (stage_4 ∷ (stage_5 ∷ (stage_128 ∷ []))) 25_000 (Some 0) (5 ∷ (2 ∷ (1 ∷ [])))
    ∷ (case_of FF (stage_4 ∷ (stage_5 ∷ (stage_128 ∷ []))) 25_000 (Some 0) (5 ∷ (2 ∷ (1 ∷ [])))
    ∷ [])))))))))))))))))))
