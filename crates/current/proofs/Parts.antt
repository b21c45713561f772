-- The part of the state after `load` is that of the numbers.
use Prim.Native.Nat.{ℕ}
use mathlib.Core.Path.{◌≡◌, refl, ap, ◌∙◌}
use mathlib.Core.Bool.{Bool, true, false, cond}
use mathlib.Core.List.{List, [], ◌∷◌}
use Rattle.flag.specs.Flag.{every}
use Rattle.flag.proofs.Laws.{cond_map}
use Rattle.text.proofs.Tests.{and_false}
use Rattle.queue.specs.declared.ByteQueue.{ByteQueue}
use Rattle.queue.specs.declared.EntryQueue.{EntryQueue}
use Rattle.queue.specs.declared.Errors.{Errors}
use Rattle.device.specs.declared.Registers.{Registers}
use Rattle.device.specs.declared.FifoControl.{FifoControl}
use Rattle.device.specs.declared.Receiver.{Receiver}
use Rattle.device.specs.declared.Latches.{Latches}
use Rattle.device.specs.declared.State.{State}
use Rattle.device.specs.State.{with_overrun}
use Rattle.device.specs.Ranges.{setting_ranges, transmit_ranges, receive_ranges, latch_ranges, parts, first_failing, part_of}
use Rattle.numbers.specs.Numbers.{registers_fit, settings_fit, transmit_fits, receive_fits, latches_fit, fitting, fits, unfit_part, state_of}
use Rattle.current.specs.declared.Session.{Session}
use Rattle.current.specs.Current.{out_of_phase, broken, both_of, loaded_of, loaded_part}

-- A broken field breaks its part.

settings_broken : (f : FifoControl) (m : ℕ) → every (setting_ranges f (record { modem = m; sin = 255 })) ≡ false
settings_broken f m = simp and_false

transmit-broken : (f : FifoControl) (q : ByteQueue) (l b : ℕ) → every (transmit_ranges f q (record { left = l; byte = b; format = 255 })) ≡ false
transmit-broken f q l b = simp and_false

receive_broken : (f : FifoControl) (q : EntryQueue) (v : Receiver) (k : Errors) → every (receive_ranges f q (out_of_phase v) k) ≡ false
receive_broken f q v k = simp and_false

latches-broken : (r : Registers) (f : FifoControl) (m n : ℕ) (l : Latches) → every (latch_ranges r f m n (with_overrun l 255)) ≡ false
latches-broken r f m n l = simp and_false

-- the state where the five parts' numbers fit so
abbrev after : List Bool → State → State
after ts s = cond (every ts) s (broken (first_failing 1 ts) s)

-- the ranges before the first part that does not fit stand, and then that part
part-after : (s : State) (a b c d e : Bool) →
    first_failing 1 (parts (after (a ∷ b ∷ c ∷ d ∷ e ∷ []) s)) ≡ first_failing 1 (both_of (a ∷ b ∷ c ∷ d ∷ e ∷ []) (parts s))
unfolding broken
part-after s true true true true true = refl
part-after s false b c d e = refl
part-after s true false c d e = rw (settings_broken s.fifo s.inputs.modem) refl
part-after s true true false d e = rw (transmit-broken s.fifo s.tx s.frame.left s.frame.byte) refl
part-after s true true true false e = rw (receive_broken s.fifo s.rx s.receiver s.kept) refl
part-after s true true true true false = rw (latches-broken s.registers s.fifo s.tx.count s.rx.count s.latches) refl

pub load_part : (ns : List ℕ) → part_of (loaded_of ns).state ≡ loaded_part ns
unfolding loaded_of fits unfit_part loaded_part part_of
load_part ns =
    ap (λ (s : State). first_failing 1 (parts s)) (cond_map (λ (t : Session). t.state) (every (fitting ns)) _ _ _ _ refl refl)
    ∙ part-after (state_of ns) (registers_fit ns) (settings_fit ns) (transmit_fits ns) (receive_fits ns) (latches_fit ns)
