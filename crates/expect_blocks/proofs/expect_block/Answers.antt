-- A block of whole records leaves no bytes.
use lib.ListN.{take}
use Prim.Native.Nat.{◌*◌}
use Rattle.expect_blocks.proofs.Blocks.{whole_block}
use Rattle.expect_blocks.proofs.expect_block.Goals as goal

pub write_next-requires : goal.write_next-requires
write_next-requires c =
    let done = c.go_on-q in
    record {
      bytes = c.args.block.now;
      goes_on = whole_block c.args.p done.result c.args.block.now (take (4 * done.result.count) done.new.bytes) c.told-block done.ensures.by_index;
    }

pub returns-clause-by_index : goal.returns-clause-by_index
returns-clause-by_index c =
    let done = c.go_on-q in
    whole_block c.args.p done.result c.args.block.now (take (4 * done.result.count) done.new.bytes) c.told-block done.ensures.by_index
