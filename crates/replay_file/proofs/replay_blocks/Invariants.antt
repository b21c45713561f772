use Prim.Native.Nat.{◌*◌, ◌≤◌}
use Rattle.replay_file.proofs.Blocks.{Read}
use Rattle.replay_file.proofs.replay_blocks.Given as goal

abbrev pub invariant-loop : goal.invariant-loop
invariant-loop g l = (l.p.place ≤ 8192 * l.counter) × Read l.fn.begun l.p
