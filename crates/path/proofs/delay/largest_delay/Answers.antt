use Rattle.path.specs.Route.{stages_along}
use Rattle.path.proofs.Cycles.{common_span}
use Rattle.path.proofs.delay.largest_delay.Goals as goal

pub longest_path-longest-requires-clause-common : goal.longest_path-longest-requires-clause-common
longest_path-longest-requires-clause-common c =
    common_span (stages_along c.in_ok-route.route) c.in_ok-span.span c.in_ok-span.ensures.0.common
