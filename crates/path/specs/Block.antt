-- What a block of the search answers.
-- Assumes nothing.
use Rattle.std.specs.Prelude.{◌≡◌, ◌-◌, Option, None, Some}
use Rattle.stage.specs.Stages.{start_of, stop_of}
use Rattle.path.specs.declared.largest.Block.{Block}
use Rattle.path.specs.declared.largest.Longest.{Longest}
use Rattle.path.specs.declared.semantics.Semantics.{Semantics}
use Rattle.path.specs.Route.{first_along, last_along}
use Rattle.path.specs.Steps.{end_in, origin_in}

-- l is the longest path of block b that counts: it ends where that takes longest, and its delay is counted from its
-- origin
pub record IsLongest (m : Semantics) (b : Block) (l : Longest) : Type 0 where
  pub origin : origin_in m b.begin b.before ≡ Some l.origin
  pub last : l.last ≡ end_in m b.near b.far
  pub delay : l.delay ≡ stop_of (last_along b.route) l.last - start_of (first_along b.route) l.origin

-- a block's longest path that counts, or nothing where none does
abbrev pub LongestOf : Semantics → Block → Option Longest → Type 0
LongestOf m b None = origin_in m b.begin b.before ≡ None
LongestOf m b (Some l) = IsLongest m b l
