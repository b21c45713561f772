-- All whole records of the bytes, and then what is left of them.
use Rattle.capture_file.proofs.Parts.{rest-ends}
use Prim.Native.Nat.{◌+◌, ◌-◌, ◌*◌, ◌/◌, ◌≤◌}
use mathlib.Core.Path.{◌∙◌}
use lib.ListN.{length}
use native.Mathlib.Omega.{arith}
use Rattle.pieces.proofs.finish.Goals as goal

pub returns : goal.returns
returns c =
    let bytes = c.args.bytes.now in
    let n = length bytes - 4 * (length bytes / 4) in
    let whole : length bytes ≤ 4 * (length bytes / 4) + n = omega arith in
    let done = c.go_on-q in
    c.finish.ensures ∙ rest-ends c.args.p done.result bytes n whole done.ensures.by_index
