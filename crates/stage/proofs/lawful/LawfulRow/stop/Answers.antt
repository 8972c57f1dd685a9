use Rattle.stage.proofs.Marks.{stop_time}
use Rattle.stage.proofs.lawful.LawfulRow.stop.Goals as goal

pub returns : goal.returns
returns c = rw (stop_time _ c.args.self.now.lawful c.args.i) c.time_of.ensures
