-- The search of all that are queued is that of those seen and that of those from the index on, and in the end that of those seen.
use Prim.Native.Nat.{◌<◌}
use lib.Seq.{get_or-take}
use native.Mathlib.Omega.{arith}
use Rattle.queue.specs.Queue.{entry_errors, no_entry}
use Rattle.queue.proofs.Laws.{find_turns, find_ends}
use Rattle.queue.proofs.entries.any_error.Goals as goal

pub loop-e-preserved : goal.loop-e-preserved
loop-e-preserved c =
    let w = c.loop-e.invariant in
    let i = c.loop-e.e-index in
    let k : i < c.min-n.result = omega arith in
    let same = get_or-take c.min-n.result c.args.q.entries i no_entry k in
    (w.0, rw (c.any_set-error.ensures, c.errors_of.ensures, same) (find_turns no_entry w.1 (omega (arith, w.0))))

pub returns : goal.returns
unfolding entry_errors
returns c = find_ends c.loop-e.invariant.1 (omega (arith, c.loop-e.invariant.0))
