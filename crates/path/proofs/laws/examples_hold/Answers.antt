use Rattle.path.proofs.Samples.{samples_hold}
use Rattle.path.proofs.laws.examples_hold.Goals as goal

pub returns : goal.returns
returns c = samples_hold
