-- What a query answers.
-- Assumes nothing.
use Rattle.std.specs.Prelude.{◌≡◌, ℕ, List, length}
use Rattle.path.specs.Figures.{Figure}
use Rattle.path.specs.Numbering.{semantics_number}
use Rattle.path.specs.declared.semantics.Semantics.{Semantics}
use Rattle.book.specs.Ledgers.{View, stages_along}
use Rattle.book.specs.declared.answer.Answer.{Answer}

-- The answer is the figure of the stages along the route under the semantics of that number, with its witness.
pub record QueryAnswer (v : View) (number : ℕ) (a : Answer) (witness : List ℕ) : Type 0 where
  pub semantics : Semantics
  pub numbered : semantics_number semantics ≡ number
  pub long : a.length ≡ length v.ledger.route
  pub figure : Figure semantics (stages_along v) a.delay a.predecessor witness
