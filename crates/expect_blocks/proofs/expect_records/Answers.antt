-- The bytes read so far lead to `p`, and the place stays far below its bound.
use Rattle.std.proofs.Common.{Ok}
use Rattle.std.proofs.lemmas.Result.{IfOk-at_ok}
use mathlib.Core.Path.{◌≡◌}
use Prim.Native.Nat.{◌*◌}
use lib.ListN.{take}
use native.Mathlib.Omega.{arith}
use borrow.Author.Rules.{rules}
use Rattle.expect_blocks.proofs.Blocks.{led_none, led_next, led_stands}
use Rattle.expect_blocks.proofs.expect_records.Goals as goal

pub loop-init : goal.loop-init
loop-init g c = (omega arith, led_none _)

pub returns-then-p-ne-DONE : goal.returns-then-p-ne-DONE
returns-then-p-ne-DONE g c = led_stands c.loop.invariant.1 c.if-p-ne-DONE.true

pub loop-preserved : goal.loop-preserved
loop-preserved g c =
    let inv = c.loop.invariant in
    let p = c.in_ok-p.p in
    let done = c.expect_block in
    let is : done.result ≡ Ok p = search rules in (
      omega (arith, inv.0, IfOk-at_ok _ is done.ensures.count_bound),
      led_next inv.1 p c.fill.new.block (take (4 * p.count) done.new.block) (IfOk-at_ok _ is done.ensures.by_index),
    )
