use Rattle.expect_blocks.proofs.Blocks.{Led}
use Prim.Native.Nat.{◌*◌, ◌≤◌}
use Rattle.expect_blocks.proofs.expect_records.Given as goal

abbrev pub invariant-loop : goal.invariant-loop
invariant-loop g l = (l.done ≤ 8192 * l.counter) × Led l.fn.begun l.p
