-- The macro-period: the time after which stages of several cycles repeat together.
-- Assumes nothing.
use Rattle.std.specs.Prelude.{◌≡◌, ℕ, ◌*◌, ◌<◌, ◌≤◌, List, length, Option, MatchOption, slice_index}

-- some multiple of a is b
abbrev pub Divides : ℕ → ℕ → Type 0
Divides a b = ∥ ((c : ℕ) × (b ≡ a * c)) ∥₁

-- m is positive, and each cycle divides it
pub record CommonMultiple (cycles : List ℕ) (m : ℕ) : Type 0 where
  pub positive : 0 < m
  pub divided : (a : ℕ) → a < length cycles → Divides (slice_index cycles a) m

-- the least common multiple: it divides every other
pub record LeastCommonMultiple (cycles : List ℕ) (m : ℕ) : Type 0 where
  pub common : CommonMultiple cycles m
  pub least : (n : ℕ) → CommonMultiple cycles n → Divides m n

-- the macro-period of a list of cycles is their least common multiple, where one of at most 100,000,000 exists
abbrev pub IsMacroPeriod : List ℕ → Option ℕ → Type 0
IsMacroPeriod cycles answer =
    MatchOption answer
    ((m : ℕ) → CommonMultiple cycles m → 100_000_000 < m)
    (λ m. LeastCommonMultiple cycles m × (m ≤ 100_000_000))

-- g is the greatest common divisor of a and b: it divides both, and what divides both, times any m, divides g times m
pub record GreatestCommonDivisor (a b g : ℕ) : Type 0 where
  pub divides_first : Divides g a
  pub divides_second : Divides g b
  pub greatest : (d m : ℕ) → Divides d (a * m) → Divides d (b * m) → Divides d (g * m)
