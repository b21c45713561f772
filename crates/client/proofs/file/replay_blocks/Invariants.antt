use Rattle.capture_file.proofs.Parts.{Blocks}
use Prim.Native.Nat.{◌*◌, ◌≤◌, ◌^◌}
use mathlib.Core.Path.{◌≡◌}
use lib.ListN.{length}
use Rattle.client.proofs.file.replay_blocks.Given as goal

abbrev pub invariant-loop-block : goal.invariant-loop-block
invariant-loop-block l = (Blocks l.initial.q l.bytes l.q (16384 * l.block-index)) × (length l.records ≡ 4096) × (l.initial.q.place ≤ 2 ^ 62)
