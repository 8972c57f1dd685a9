-- The four ways to count delays along a list of stages, and the figure that each gives.
-- Assumes nothing.
use Rattle.std.specs.Prelude.{◌≡◌, ℕ, ◌-◌, ◌<◌, ◌≤◌, ◌⊎◌, List, Some, None, Option}
use Rattle.stage.specs.Stages.{Stage, start_of}
use Rattle.path.specs.Timed.{Timed, first_of, last_of, first_stage, end_of, Predecessor}
use Rattle.path.specs.declared.semantics.Semantics.{Semantics}
use Rattle.path.specs.declared.semantics.Semantics.TheVariants.{LL, LF, FL, FF}

-- p is the first path from its first instance: no other from there ends sooner.
abbrev pub Soonest : List Stage → List ℕ → Type 0
Soonest ss p = (q : List ℕ) → Timed ss q → first_of q ≡ first_of p → last_of p ≤ last_of q

-- Some smaller number than the first instance of p begins a timed path too.
abbrev pub Preceded : List Stage → List ℕ → Type 0
Preceded ss p = (b : ℕ) × Predecessor ss (first_of p) b

-- Which timed paths count. First letter: F asks for a predecessor. Second letter: F asks for a first path.
abbrev pub Counts : Semantics → List Stage → List ℕ → Type 0
Counts LL ss p = Timed ss p
Counts LF ss p = Timed ss p × Soonest ss p
Counts FL ss p = Timed ss p × Preceded ss p
Counts FF ss p = Timed ss p × Soonest ss p × Preceded ss p

-- The delay of p is counted from the start of instance o of the first stage: from the first instance of p, or from
-- its predecessor.
abbrev pub Origin : Semantics → List Stage → List ℕ → ℕ → Type 0
Origin LL ss p o = o ≡ first_of p
Origin LF ss p o = o ≡ first_of p
Origin FL ss p o = Predecessor ss (first_of p) o
Origin FF ss p o = Predecessor ss (first_of p) o

-- how long p takes, counted from o
abbrev pub delay_of : List Stage → List ℕ → ℕ → ℕ
delay_of ss p o = end_of ss p - start_of (first_stage ss) o

-- the predecessor is answered where the delay is counted from it
abbrev pub shown_predecessor : Semantics → ℕ → Option ℕ
shown_predecessor LL o = None
shown_predecessor LF o = None
shown_predecessor FL o = Some o
shown_predecessor FF o = Some o

-- The figure of a list of stages: the largest delay of a path that counts, whichever instances it takes, and of the
-- paths with that delay the one whose last instance is smallest.
pub record Figure (m : Semantics) (ss : List Stage) (delay : ℕ) (predecessor : Option ℕ) (witness : List ℕ) : Type 0 where
  pub counts : Counts m ss witness
  pub origin : ℕ
  pub from_origin : Origin m ss witness origin
  pub takes : delay ≡ delay_of ss witness origin
  pub answers : predecessor ≡ shown_predecessor m origin
  -- every path that counts takes at most as long
  pub largest : (p : List ℕ) (o : ℕ) → Counts m ss p → Origin m ss p o → delay_of ss p o ≤ delay
  -- one that takes just as long has a larger last instance, or is the witness itself
  pub smallest : (p : List ℕ) (o : ℕ) → Counts m ss p → Origin m ss p o → delay_of ss p o ≡ delay → (last_of witness < last_of p) ⊎ (p ≡ witness)
