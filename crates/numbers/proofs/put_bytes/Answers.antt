-- The first `i` bytes are copied.
use Rattle.text.proofs.Copies.{copy_begins, copy_turns, copy_ends_at}
use borrow.Author.Rules.{scaled_Fits, rules}
use mathlib.Core.Path.{◌≡◌}
use lib.ListN.{length}
use native.Mathlib.Omega.{arith}
use Rattle.numbers.proofs.put_bytes.Goals as goal

pub loop-i-init : goal.loop-i-init
loop-i-init c = copy_begins _ _ _

pub overflow_add-out : goal.overflow_add-out
overflow_add-out c = omega (arith, c.loop-i.invariant.long)

pub offset_bounds-out-at : goal.offset_bounds-out-at
offset_bounds-out-at c = scaled_Fits _ (length c.loop-i.out) 4 (omega (arith, c.loop-i.invariant.long)) (rw c.loop-i.invariant.long (search rules))

pub bounds-out-at : goal.bounds-out-at
bounds-out-at c = omega (arith, c.loop-i.invariant.long)

pub loop-i-preserved : goal.loop-i-preserved
loop-i-preserved c =
    let long : length c.args.bytes ≡ 64 = search rules in
    copy_turns _ c.loop-i.invariant (omega arith) (omega arith) c.from.ensures

pub shape_of-out : goal.shape_of-out
shape_of-out c = c.loop-i.invariant.long

pub returns : goal.returns
returns c = copy_ends_at 64 c.loop-i.invariant (search rules) (omega arith)
