use Rattle.std.proofs.Common.{◌≡◌, take}
use Rattle.path.specs.Refusals.{cycles_of}
use Rattle.path.specs.Route.{stages_along}
use Rattle.path.proofs.route.Route.macro_period.Given as goal

-- the cycles of the rows passed so far are noted
abbrev pub invariant-loop-row : goal.invariant-loop-row
invariant-loop-row l = l.cycles.items ≡ take l.row-index (cycles_of (stages_along l.self))
