-- What the parts of a pulse need of a state; a well-formed one has it, and it stays from part to part.
use Prim.Native.Nat.{ℕ, ◌≤◌, min}
use native.Mathlib.Decide.{ℕ_discrete}
use native.Mathlib.Omega.{arith}
use mathlib.Core.Path.{◌≡◌, refl}
use mathlib.Core.Bool.{◌&&◌}
use lib.Dec.{eqb}
use lib.Pow.{pow_pos}
use Rattle.std.specs.Prelude.{Option, Some, None}
use Rattle.flag.proofs.Laws.{by_test, cond_same}
use Rattle.frame.specs.Format.{data_bits}
use Rattle.queue.specs.declared.Entry.{Entry}
use Rattle.device.specs.declared.Receiver.{Receiver}
use Rattle.device.specs.declared.Received.{Received}
use Rattle.device.specs.declared.State.{State}
use Rattle.device.specs.Transmitter.{ready, shifted_out, loaded, transmitted}
use Rattle.device.specs.State.{with_receiver}
use Rattle.device.specs.Receiver.{samples_taken, with_entry, with_ended, with_received}
use Rattle.invariant.proofs.Good.{ReceiverFacts, good_of}
use Rattle.invariant.proofs.Settled.{Kept}
use Rattle.receiver.specs.Needs.{Placed, Sampling, Hearing}

-- A well-formed state has it.

receiver_placed : (v : Receiver) → ReceiverFacts v → Placed v
receiver_placed v g =
    elim (ℕ_discrete v.phase 2) [
      | yes e ↦ let h = g.character e in record { place = omega arith; samples = h.samples_less }
      | no e ↦
          let h = g.outside e in
          let few = pow_pos (min (data_bits v.format) (samples_taken v.position)) in
          record { place = omega arith; samples = omega arith }
    ]

pub state_sampling : (s : State) → Kept s → Sampling s.inputs.sin s.receiver
state_sampling s w =
    let g = good_of s w.well in
    record { level = g.settings.sin-most; placed = receiver_placed s.receiver g.receive.receiver }

pub state_hearing : (s : State) → Kept s → Hearing s
state_hearing s w = let h = state_sampling s w in record { sin = h.level; placed = h.placed }

pub state_idle : (s : State) → Kept s → s.latches.idle ≤ 769
state_idle s w = (good_of s w.well).latches.wait.idle_most

-- The parts of a pulse keep it.

-- the transmitter does not touch the receiver and its pin
loaded_hearing : (s : State) → Hearing s → Hearing (loaded s)
unfolding loaded
loaded_hearing s h =
    by_test Hearing (eqb s.tx.count 1) _ _ (λ _. record { sin = h.sin; placed = h.placed }) (λ _. record { sin = h.sin; placed = h.placed })

pub transmitted_hearing : (s : State) → Hearing s → Hearing (transmitted s)
unfolding transmitted
transmitted_hearing s h =
    by_test Hearing (eqb (shifted_out s.frame).left 0 && ready s) _ _
    (λ _. loaded_hearing s h)
    (λ _. record { sin = h.sin; placed = h.placed })

-- transmitter and receiver leave the idle count as it is
abbrev idle_count : State → ℕ
idle_count s = s.latches.idle

loaded_idle : (s : State) → (loaded s).latches.idle ≡ s.latches.idle
unfolding loaded
loaded_idle s = cond_same idle_count (eqb s.tx.count 1) _ _ _ refl refl

pub transmitted_idle : (s : State) → (transmitted s).latches.idle ≡ s.latches.idle
unfolding transmitted
transmitted_idle s =
    cond_same idle_count (eqb (shifted_out s.frame).left 0 && ready s) _ _ _ (loaded_idle s) refl

pub received_idle : (s : State) (r : Received) → (with_received s r).latches.idle ≡ s.latches.idle
unfolding with_received with_entry
received_idle s r = go r.entry
  where
    go : (o : Option Entry) → idle_count (with_ended (with_receiver s r.receiver) o) ≡ s.latches.idle
    go None = refl
    go (Some e) = refl
