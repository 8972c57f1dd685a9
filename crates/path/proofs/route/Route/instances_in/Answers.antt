use Rattle.std.proofs.Common.{ap, ◌∙◌}
use Rattle.path.specs.Periods.{instances_in}
use Rattle.path.proofs.Searching.{count_instances}
use Rattle.path.proofs.route.Route.instances_in.Goals as goal

pub returns-clause-count : goal.returns-clause-count
returns-clause-count c =
    rw (c.from.ensures, c.from-2.ensures)
    (count_instances c.first.result.now c.row-row.result.now c.args.span c.row-row.ensures.value ∙ ap (instances_in c.args.span) c.first.ensures)
