use Rattle.std.proofs.Common.{◌≡◌, take, map}
use Rattle.std.specs.Int.{w32, from_le_bytes}
use Rattle.recorder.proofs.file.decode.Given as goal

abbrev pub invariant-loop-i : goal.invariant-loop-i
invariant-loop-i l = take l.i l.words ≡ map (from_le_bytes w32) (take l.i l.quads)
