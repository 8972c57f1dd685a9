-- Which searches for the largest delay are refused, and why.
-- Assumes nothing.
use Rattle.std.specs.Prelude.{ℕ, ◌<◌, ◌≤◌, List, map, length}
use Rattle.stage.specs.Stages.{Stage}
use Rattle.stage.specs.Periods.{CommonMultiple}
use Rattle.path.specs.declared.delay.SearchFault.{SearchFault}
use Rattle.path.specs.declared.delay.SearchFault.TheVariants.{Length, MacroPeriod, Buffer}

abbrev pub cycles_of : List Stage → List ℕ
cycles_of ss = map (λ (s : Stage). s.cycle) ss

-- a route has 1 to 16 stages
abbrev pub RightLength : List Stage → Type 0
RightLength ss = (1 ≤ length ss) × (length ss ≤ 16)

-- the cycles have a common multiple of at most 100,000,000
abbrev pub HasMacroPeriod : List Stage → Type 0
HasMacroPeriod ss = (span : ℕ) × CommonMultiple (cycles_of ss) span × (span ≤ 100_000_000)

-- A search along stages, with room for so many numbers of the witness, is refused by a fault where that is the first of
-- the three to apply.
abbrev pub Refused : SearchFault → List Stage → ℕ → Type 0
Refused Length ss room = ¬ RightLength ss
Refused MacroPeriod ss room = RightLength ss × ¬ HasMacroPeriod ss
Refused Buffer ss room = RightLength ss × HasMacroPeriod ss × (room < length ss)

-- It is accepted where none applies.
abbrev pub Accepted : List Stage → ℕ → Type 0
Accepted ss room = RightLength ss × HasMacroPeriod ss × (length ss ≤ room)
