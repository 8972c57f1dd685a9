use Rattle.std.proofs.Common.{refl}
use Rattle.stage.proofs.Order.{in_order}
use Rattle.stage.proofs.lawful.LawfulRow.new.Goals as goal

pub returns-then-is_lawful : goal.returns-then-is_lawful
returns-then-is_lawful c = record { refused = refl; ordered = in_order _ (c.if-is_lawful.ensures.0 refl) }
