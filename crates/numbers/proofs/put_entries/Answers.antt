-- The numbers of the first `i` entries are copied.
use Rattle.queue.proofs.Laws.{length_mapped}
use Rattle.numbers.proofs.Places.{spread_begins, spread_turns, spread_ends}
use mathlib.Core.Path.{◌≡◌, ap}
use lib.ListN.{length}
use native.Mathlib.Omega.{arith}
use borrow.Author.Rules.{rules}
use Rattle.numbers.proofs.put_entries.Goals as goal

pub loop-i-init : goal.loop-i-init
loop-i-init c = spread_begins _ _ _

pub put_at-requires : goal.put_at-requires
put_at-requires c =
    let long : length c.entry_numbers-four.result ≡ 4 = ap length c.entry_numbers-four.ensures in
    omega (arith, c.loop-i.invariant.long)

pub loop-i-preserved : goal.loop-i-preserved
loop-i-preserved c =
    let long : length c.args.entries ≡ 64 = search (length_mapped, rules) in
    spread_turns _ _ _ c.loop-i.invariant (omega arith) c.entry_numbers-four.ensures c.put_at.auto.out (rw c.put_at.ensures.place at c.put_at.ensures)

pub shape_of-out : goal.shape_of-out
shape_of-out c = c.loop-i.invariant.long

pub returns : goal.returns
returns c = spread_ends 64 c.loop-i.invariant (search (length_mapped, rules)) (omega arith)
