use Rattle.stage.proofs.Marks.{start_time}
use Rattle.stage.proofs.lawful.LawfulRow.start.Goals as goal

pub returns : goal.returns
returns c = rw (start_time _ c.args.self.now.lawful c.args.i) c.time_of.ensures
