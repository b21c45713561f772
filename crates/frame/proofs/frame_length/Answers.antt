-- The three parts are the definition's; its bounds are a law.
use Rattle.frame.specs.Format.{frame_length}
use Rattle.frame.proofs.Frames.{frame_length_bounds}
use Prim.Native.Nat.{◌+◌, ◌*◌}
use mathlib.Core.Path.{◌≡◌}
use native.Mathlib.Omega.{arith}
use Rattle.frame.proofs.frame_length.Goals as goal

pub returns : goal.returns
unfolding frame_length
returns c =
    let b = frame_length_bounds c.args.format in
    let e : 16 * (1 + c.data_bits.result + c.parity_bits.result) + c.stop_pulses.result ≡ frame_length c.args.format = cc in
    record { value = e; lower_bound = (omega arith, omega arith) }
