use Rattle.std.proofs.Common.{◌≡◌, length, take, ltb, refl, rules}
use Rattle.std.proofs.lemmas.List.Sorted.{IsPartitionPoint-from_clause}
use Rattle.stage.proofs.Marks.{laws_of, ranges_of}
use Rattle.stage.proofs.Next.{starts_parted, starts_before}
use Rattle.stage.proofs.lawful.LawfulRow.starts_before.Goals as goal

pub shared_ref_as_front-starts : goal.shared_ref_as_front-starts
shared_ref_as_front-starts c = (ranges_of _ c.args.self.now.lawful).count_high

pub returns : goal.returns
returns c =
    let row = c.args.self.now.row in
    let lawful = laws_of _ c.args.self.now.lawful in
    let long : length (take row.count row.starts) ≡ row.count = search rules in
    let point = IsPartitionPoint-from_clause (λ x. ltb x c.args.time) _ _ c.partition_point.ensures.partitioned (starts_parted row lawful _ refl long c.args.time) (λ a r q k. search rules) in
    starts_before row lawful _ refl long c.args.time _ c.partition_point.ensures.bound point
