use Rattle.std.proofs.Common.{rules}
use Rattle.stage.proofs.Marks.{laws_of}
use Rattle.stage.proofs.Next.{next_from, first_from_low, whole_count_low}
use Rattle.stage.proofs.lawful.LawfulRow.next.Goals as goal

pub overflow_mul-result : goal.overflow_mul-result
overflow_mul-result c =
    let low = whole_count_low c.args.self.now.row (laws_of _ c.args.self.now.lawful) c.args.time in
    search rules

pub overflow_add-result : goal.overflow_add-result
overflow_add-result c =
    let row = c.args.self.now.row in
    let lawful = laws_of _ c.args.self.now.lawful in
    let low = first_from_low _ lawful _ _ (next_from row lawful c.args.time _ c.starts_before.ensures) in
    search rules

pub returns : goal.returns
returns c = next_from c.args.self.now.row (laws_of _ c.args.self.now.lawful) c.args.time _ c.starts_before.ensures
