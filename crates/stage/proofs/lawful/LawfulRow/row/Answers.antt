use Rattle.std.proofs.Common.{refl}
use Rattle.stage.proofs.Marks.{laws_of}
use Rattle.stage.proofs.lawful.LawfulRow.row.Goals as goal

pub returns : goal.returns
returns c = record { value = refl; lawful = laws_of _ c.args.self.now.lawful }
