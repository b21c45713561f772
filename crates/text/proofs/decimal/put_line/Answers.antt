-- The numbers before `i` stand in the buffer.
use Rattle.std.proofs.Common.{rules}
use Rattle.text.proofs.Decimals.{write_room, write_turns, write_ends, separates_more, separates_last}
use Rattle.text.specs.Decimal.{separator}
use Prim.Native.Nat.{◌+◌}
use lib.ListN.{drop}
use mathlib.Core.Path.{◌≡◌, ◌∙◌}
use native.Mathlib.Omega.{arith}
use Rattle.text.proofs.decimal.put_line.Goals as goal
use Rattle.text.proofs.decimal.put_line.Goals.{then-i-numbers, else-i-numbers}

pub put_word-requires : goal.put_word-requires
put_word-requires g c =
    (search rules, write_room c.from.result _ c.loop-i.invariant c.loop-i-test.true c.requires c.from.ensures (omega (arith, c.type_inv.n.fits)))

pub loop-i-preserved : goal.loop-i-preserved
loop-i-preserved g c =
    let after : c.if-i-numbers.after ≡ separator (drop (c.loop-i.i + 1) c.args.numbers.now) = elim c.if-i-numbers.branch [ then-i-numbers w ↦ w.after-is ∙ separates_more _ _ w.if-i-numbers.true | else-i-numbers w ↦ w.after-is ∙ separates_last _ _ w.if-i-numbers.false ] in
    let small = c.type_inv.numbers c.loop-i.i in
    write_turns _ _ _ c.loop-i.invariant c.loop-i-test.true c.from.ensures (omega (arith, small.fits)) after c.put_word.ensures

pub returns : goal.returns
returns g c = write_ends c.loop-i.invariant (omega arith)
