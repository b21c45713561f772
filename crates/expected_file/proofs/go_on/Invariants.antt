use Rattle.expected_file.proofs.Pieces.{Pieces}
use Prim.Native.Nat.{◌-◌}
use mathlib.Core.Path.{◌≡◌}
use lib.ListN.{length}
use Rattle.expected_file.proofs.go_on.Given as goal

abbrev pub invariant-loop-bytes : goal.invariant-loop-bytes
invariant-loop-bytes l = (Pieces l.initial.q l.initial.bytes l.q l.bytes l.at) × (length l.records ≡ 512) × (length l.words ≡ 512)

abbrev pub decreases-loop-bytes : goal.decreases-loop-bytes
decreases-loop-bytes l = length l.initial.bytes - l.at
