use Rattle.std.proofs.Common.{◌+◌, ◌^◌, ◌<◌, arith, rules}
use Rattle.path.proofs.Searching.{begun, small}
use Rattle.path.proofs.largest.Block.opening.Goals as goal

pub overflow_add-begin : goal.overflow_add-begin
overflow_add-begin c =
    let low : c.back-begin.result + 1 < 2 ^ 36 = omega (arith, c.back-begin.ensures, small c.args.route _ c.requires.early) in
    search rules

pub invariant_of-result : goal.invariant_of-result
invariant_of-result c =
    let begun = begun c.args.route c.requires.from _ _ c.requires.leads c.back-begin.ensures in
    record {
      near_is = begun.near_is;
      far_is = c.ahead-far.ensures.ahead;
      opens = omega (arith, begun.opens, c.ahead-far.ensures.ahead);
      early = c.ahead-far.ensures.early;
    }
