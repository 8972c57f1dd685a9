use Rattle.std.proofs.Common.{◌+◌}
use Rattle.path.proofs.Searching.{opens_block}
use Rattle.path.proofs.largest.Block.next.Goals as goal

pub opening-requires : goal.opening-requires
opening-requires c =
    let block = c.args.self.now in
    opens_block block.route (block.begin + 1) _ block.far_is block.early c.requires
