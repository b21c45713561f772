-- The first `i` places have their entries.
use Rattle.numbers.proofs.Made.{make_turns, make_ends, entries_count, entry_at}
use Rattle.queue.specs.Queue.{no_entry}
use Rattle.numbers.specs.Numbers.{entry_of}
use Rattle.text.proofs.Splitting.{rest_of}
use Prim.Native.Nat.{◌*◌}
use mathlib.Core.Path.{ap, ◌∙◌}
use native.Mathlib.Omega.{arith}
use Rattle.numbers.proofs.entries_of.Goals as goal

pub loop-i-init : goal.loop-i-init
loop-i-init c = record { long = entries_count 64 _; most = omega arith; so_far = rw c.none-entries.ensures }

pub loop-i-preserved : goal.loop-i-preserved
loop-i-preserved c =
    make_turns _ c.loop-i.invariant c.loop-i-test.true
    (c.entry_of.ensures ∙ ap entry_of (rest_of c.args.n.now (4 * c.loop-i.i)) ∙ entry_at 64 c.args.n.now c.loop-i.i no_entry c.loop-i-test.true)

pub returns : goal.returns
returns c = make_ends c.loop-i.invariant (omega arith)
