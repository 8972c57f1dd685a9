-- Timed paths along a list of stages: which there are, where they begin and when they end.
-- Assumes nothing.
use Rattle.std.specs.Prelude.{◌≡◌, ℕ, ◌<◌, ◌≤◌, List, [], ◌∷◌}
use Rattle.stage.specs.Stages.{Stage, stop_of}
use Rattle.path.specs.Forward.{Reaches}

-- the first and the last of a list, and d of an empty one
abbrev pub first_or : {A : Type 0} → A → List A → A
first_or d [] = d
first_or d (x ∷ xs) = x

abbrev pub last_or : {A : Type 0} → A → List A → A
last_or d [] = d
last_or d (x ∷ xs) = last_or x xs

-- A timed path takes one instance of each stage, and each instance reaches the next.
abbrev pub Timed : List Stage → List ℕ → Type 0
Timed [] p = ⊥
Timed (s ∷ []) [] = ⊥
Timed (s ∷ []) (i ∷ []) = Unit {0}
Timed (s ∷ []) (i ∷ (j ∷ p)) = ⊥
Timed (w ∷ (r ∷ ss)) [] = ⊥
Timed (w ∷ (r ∷ ss)) (i ∷ []) = ⊥
Timed (w ∷ (r ∷ ss)) (i ∷ (j ∷ p)) = Reaches w r i j × Timed (r ∷ ss) (j ∷ p)

-- the first and the last instance of a path
abbrev pub first_of : List ℕ → ℕ
first_of p = first_or 0 p

abbrev pub last_of : List ℕ → ℕ
last_of p = last_or 0 p

-- a stage that never runs, which stands for the first and the last of no stages
abbrev pub no_stage : Stage
no_stage = record { cycle = 0; rank = 0; marks = [] }

abbrev pub first_stage : List Stage → Stage
first_stage ss = first_or no_stage ss

abbrev pub last_stage : List Stage → Stage
last_stage ss = last_or no_stage ss

-- A path ends when its last instance stops.
abbrev pub end_of : List Stage → List ℕ → ℕ
end_of ss p = stop_of (last_stage ss) (last_of p)

-- Some timed path has f as its first instance.
abbrev pub Begins : List Stage → ℕ → Type 0
Begins ss f = (p : List ℕ) × Timed ss p × (first_of p ≡ f)

-- b is the largest number below f that begins a timed path.
pub record Predecessor (ss : List Stage) (f b : ℕ) : Type 0 where
  pub earlier : b < f
  pub begins : Begins ss b
  pub latest : (c : ℕ) → c < f → Begins ss c → c ≤ b
