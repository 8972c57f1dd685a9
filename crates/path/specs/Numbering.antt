-- The numbers and the names by which the four semantics are called.
-- Assumes nothing.
use Rattle.std.specs.Prelude.{◌≡◌, ℕ, List, Result, MatchResult, ◌≢◌, codes}
use Rattle.path.specs.declared.semantics.Semantics.{Semantics}
use Rattle.path.specs.declared.semantics.Semantics.TheVariants.{LL, LF, FL, FF}
use Rattle.path.specs.declared.semantics.UnknownSemantics.{UnknownSemantics}

abbrev pub semantics_number : Semantics → ℕ
semantics_number LL = 0
semantics_number LF = 1
semantics_number FL = 2
semantics_number FF = 3

abbrev pub semantics_name : Semantics → List ℕ
semantics_name LL = codes "LL"
semantics_name LF = codes "LF"
semantics_name FL = codes "FL"
semantics_name FF = codes "FF"

-- the answer is the semantics of that number, or none has it
abbrev pub Numbers : ℕ → Result Semantics UnknownSemantics → Type 0
Numbers n r = MatchResult r (λ m. semantics_number m ≡ n) (λ _. (m : Semantics) → semantics_number m ≢ n)

-- the answer is the semantics of that name, or none has it
abbrev pub Names : List ℕ → Result Semantics UnknownSemantics → Type 0
Names text r = MatchResult r (λ m. semantics_name m ≡ text) (λ _. (m : Semantics) → semantics_name m ≢ text)
