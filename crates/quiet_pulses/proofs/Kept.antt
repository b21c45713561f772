-- Pulses keep a state well formed.
use Prim.Native.Nat.{ℕ, zero, suc}
use mathlib.Core.Path.{◌≡◌}
use Rattle.device.specs.declared.State.{State}
use Rattle.device.specs.Autoflow.{settled}
use Rattle.device.specs.Tick.{pulsed}
use Rattle.invariant.proofs.Good.{good_of}
use Rattle.invariant.proofs.Settled.{sound_of, Kept, settled-kept, settled_same}
use Rattle.invariant.proofs.Line.{pulsed_sound}
use Rattle.quiet_pulses.specs.Quiet.{pulses_of}

-- the rules that end a step leave it as it is
pub kept-settled : (s : State) → Kept s → settled s ≡ s
kept-settled s w = settled_same s (good_of s w.well)

-- after a pulse, and after many
pub pulse_kept : (s : State) → Kept s → Kept (settled (pulsed s))
pulse_kept s w = settled-kept _ (pulsed_sound s (sound_of s w.places (good_of s w.well)))

pub pulses_kept : (m : ℕ) (s : State) → Kept s → Kept (pulses_of m s)
unfolding pulses_of
pulses_kept zero s w = w
pulses_kept (suc m) s w = pulse_kept _ (pulses_kept m s w)
