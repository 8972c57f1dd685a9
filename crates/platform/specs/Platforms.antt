-- What a platform means: for each number absent, or one stage.
-- Assumes nothing.
use Rattle.std.specs.Prelude.{◌≡◌, ℕ, ◌<◌, cond, IfSome, Some, None, Option, nat_lt}
use Rattle.stage.specs.Stages.{Stage, Lawful, count_of, mark_of}

-- the answer to `describe`: nothing for an absent number, otherwise cycle, count and rank
abbrev pub described : Option Stage → Option (ℕ × ℕ × ℕ)
described None = None
described (Some s) = Some (s.cycle, count_of s, s.rank)

-- the answer to `mark`: nothing where the stage is absent or has no mark a, otherwise its start and stop
abbrev pub marked : Option Stage → ℕ → Option (ℕ × ℕ)
marked None a = None
marked (Some s) a = cond (nat_lt a (count_of s)) (Some (mark_of s a)) None

-- What every writer of a platform shows of each number: a stage keeps the laws, and there is none above 127.
pub record Sound (number : ℕ) (stage : Option Stage) : Type 0 where
  pub lawful : IfSome stage Lawful
  pub absent_above : 127 < number → stage ≡ None
