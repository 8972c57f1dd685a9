use Rattle.path.proofs.Unique.{figure_some, figure_only}
use Rattle.path.proofs.laws.one_figure.Goals as goal

pub returns : goal.returns
returns c = record { some = figure_some; only = figure_only }
