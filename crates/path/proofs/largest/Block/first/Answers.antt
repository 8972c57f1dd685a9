use Rattle.path.proofs.Searching.{opens_block, zero_early}
use Rattle.path.proofs.largest.Block.first.Goals as goal

pub ahead-requires : goal.ahead-requires
ahead-requires c = zero_early c.args.route

pub opening-requires : goal.opening-requires
opening-requires c = opens_block c.args.route 0 _ c.ahead.ensures.ahead c.ahead.ensures.early c.requires
