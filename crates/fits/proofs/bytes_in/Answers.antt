-- The places a to b are the part of b - (a - 1) numbers.
use Prim.Native.Nat.{◌+◌, ◌-◌}
use mathlib.Core.Path.{◌≡◌}
use native.Mathlib.Omega.{arith}
use Rattle.numbers.specs.Numbers.{bytes_in}
use Rattle.fits.proofs.bytes_in.Goals as goal

pub returns : goal.returns
unfolding bytes_in
returns c =
    let a = c.args.a in
    let b = c.args.b in
    let e : b - (a - 1) ≡ b + 1 - a = omega arith in
    rw (← e) c.all_bytes.ensures
