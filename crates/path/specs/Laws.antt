-- What holds of every figure.
-- Assumes nothing.
use Rattle.std.specs.Prelude.{◌≡◌, ℕ, ◌<◌, List, length, Option}
use Rattle.std.specs.List.{AllByRecursion}
use Rattle.stage.specs.Stages.{Stage, Lawful}
use Rattle.path.specs.declared.semantics.Semantics.{Semantics}
use Rattle.path.specs.Figures.{Figure}
use Rattle.path.specs.Samples.{Holds, samples}

-- the worked cases
abbrev pub SamplesHold : Type 0
SamplesHold = AllByRecursion Holds samples

-- stages have a figure under a semantics
pub record Answer (m : Semantics) (ss : List Stage) : Type 0 where
  pub delay : ℕ
  pub predecessor : Option ℕ
  pub witness : List ℕ
  pub figure : Figure m ss delay predecessor witness

-- two answers agree in everything
pub record SameAnswer (d e : ℕ) (p q : Option ℕ) (v w : List ℕ) : Type 0 where
  pub delay : d ≡ e
  pub predecessor : p ≡ q
  pub witness : v ≡ w

-- Lawful stages, if there are any, have a figure under each semantics.
abbrev pub SomeFigure : Type 0
SomeFigure = (m : Semantics) (ss : List Stage) → 0 < length ss → AllByRecursion Lawful ss → Answer m ss

-- And they have no other.
abbrev pub OnlyFigure : Type 0
OnlyFigure =
    (m : Semantics) (ss : List Stage) (d e : ℕ) (p q : Option ℕ) (v w : List ℕ)
    → Figure m ss d p v → Figure m ss e q w → SameAnswer d e p q v w
