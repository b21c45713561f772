-- What is claimed of the number of jumps.
use Prim.Native.Nat.{ℕ, zero, suc, ◌-◌, ◌≤◌}
use native.Mathlib.Omega.{arith}
use mathlib.Core.Path.{◌≡◌, refl, ap, ◌∙◌}
use mathlib.Core.Bool.{Bool, true, false, cond, ◌||◌}
use lib.Dec.{ltb, eqb, eqb-suc-zero}
use borrow.Author.Tests.{eq-eqb, ltb-false}
use Rattle.device.specs.declared.JumpRan.{JumpRan}
use Rattle.device.specs.declared.State.{State}
use Rattle.frame.specs.Format.{stop_pulses, frame_length}
use Rattle.queue.specs.Queue.{no_bytes, byte_rest, no_entries, entry_rest, entries_within}
use Rattle.device.specs.State.{fresh_of}
use Rattle.device.specs.Fifo.{capacity}
use Rattle.device.specs.Autoflow.{autoflow, auto_rts, held, settled_changes, settled_hold, settled_latches, settled}
use Rattle.device.specs.Transmitter.{ready, shifted_out, transmitted}
use Rattle.device.specs.Lsr.{temt}
use Rattle.device.specs.Receiver.{receiver_pulse, heard, enters, with_received, received}
use Rattle.device.specs.Idle.{idled}
use Rattle.device.specs.Tick.{pulsed, ticked}
use Rattle.device.specs.Ranges.{well_formed, part_of}
use Rattle.device.specs.Calls.{done, tick_of, ticks_of}
use Rattle.device.specs.Jump.{jump_length, no_jump, jump_then, jumps_until}
use Rattle.device.specs.Jumps.{Jumps, JumpRows}

-- the rows, by computation
pub jump_rows : JumpRows
unfolding stop_pulses frame_length no_bytes byte_rest no_entries entry_rest entries_within fresh_of capacity autoflow auto_rts held settled_changes settled_hold settled_latches settled ready shifted_out transmitted receiver_pulse heard enters with_received received idled pulsed ticked well_formed part_of done tick_of jump_length jumps_until
jump_rows = record { two = refl; three = refl; four = refl; eight = refl; nine = refl }

-- LSR6 is looked at before the first jump
stopped_already : (s : State) (n : ℕ) → temt s ≡ true → jumps_until temt n s n ≡ no_jump s
unfolding jumps_until
stopped_already s zero e = refl
stopped_already s (suc n) e = simp (eqb-suc-zero, e)

-- no ticks are left
none_left : (stops : State → Bool) (most : ℕ) (s : State) → jumps_until stops most s 0 ≡ no_jump s
unfolding jumps_until
none_left stops zero s = refl
none_left stops (suc most) s = refl

module _ (s : State) where
  -- without a clock, and up to the next pulse, a jump has all n ticks
  length_stopped : (n : ℕ) → s.baud.divisor ≡ 0 → jump_length s n ≡ n
  unfolding jump_length
  length_stopped n d = simp (eq-eqb _ _ d)

  length_short : (n : ℕ) → n ≤ s.baud.k → jump_length s n ≡ n
  unfolding jump_length
  length_short n h = go (eqb s.baud.divisor 0) (ltb n s.baud.k) refl
    where
      go : (a b : Bool) → ltb n s.baud.k ≡ b → cond (a || b) n s.baud.k ≡ n
      go true b p = refl
      go false true p = refl
      go false false p = omega (arith, ltb-false n s.baud.k p)

  -- and then no ticks are left
  one_jump : (stops : State → Bool) (n : ℕ) → 1 ≤ n → stops s ≡ false → jump_length s n ≡ n → jumps_until stops n s n ≡ jump_then n (no_jump (ticks_of n s))
  unfolding jumps_until
  one_jump stops zero some go all = absurd (omega arith)
  one_jump stops (suc n) some go all =
      let rest : suc n - suc n ≡ 0 = omega arith in
      simp (eqb-suc-zero, go, all)
      (ap (jump_then (suc n)) (ap (λ (m : ℕ). jumps_until stops n (ticks_of (suc n) s) m) rest ∙ none_left stops n (ticks_of (suc n) s)))

pub jumps : (s : State) → Jumps s
unfolding jumps_until
jumps s =
    record {
      no_ticks = refl;
      no_clock = λ n d some. ap (λ (r : JumpRan). r.jumps) (one_jump s (λ _. false) n some refl (length_stopped s n d));
      one_pulse = λ n some h. ap (λ (r : JumpRan). r.jumps) (one_jump s (λ _. false) n some refl (length_short s n h));
      empty_already = stopped_already s;
      work_without_clock = λ n work d some. one_jump s temt n some work (length_stopped s n d);
    }
