-- The invariant: every call on a well-formed state leaves a well-formed state.
use Prim.Native.Nat.{ℕ, zero, suc, ◌≤◌}
use mathlib.Core.Path.{◌≡◌, refl}
use mathlib.Core.Bool.{Bool, true, cond}
use lib.Dec.{leb}
use native.Mathlib.Omega.{arith}
use borrow.Author.Tests.{leb-true}
use Rattle.flag.proofs.Laws.{by_test}
use Rattle.frame.specs.Format.{stop_pulses, frame_length}
use Rattle.queue.specs.Queue.{no_bytes, byte_rest, no_entries, entry_rest, entries_within}
use Rattle.queue.proofs.Contents.{no_bytes_long, no_entries_long}
use Rattle.device.specs.declared.Answer.{Answer}
use Rattle.device.specs.declared.State.{State}
use Rattle.device.specs.State.{fresh_of, reset_state}
use Rattle.device.specs.Fifo.{capacity, trigger_level}
use Rattle.device.specs.Autoflow.{autoflow, auto_rts}
use Rattle.device.specs.Ranges.{well_formed}
use Rattle.device.specs.Calls.{done, reset_of, read_of, write_of, sin_of, modem_of, tick_of, ticks_of}
use Rattle.invariant.proofs.Good.{good_of, Places}
use Rattle.invariant.proofs.Settled.{Sound, sound_of, Kept, settled-kept}
use Rattle.invariant.proofs.Parts.{sound_inputs, transmit-none, receive_none}
use Rattle.invariant.proofs.Registers.{levels_sound, read_sound, write_sound}
use Rattle.invariant.proofs.Reception.{idle_facts}
use Rattle.invariant.proofs.Line.{ticked_sound}

-- Fresh and reset.

pub reset_sound : (s : State) → Sound s → Sound (reset_state s)
unfolding reset_state fresh_of no_bytes no_entries
reset_sound s w =
    record {
      bytes_long = no_bytes_long;
      entries_long = no_entries_long;
      registers =
          record {
            ier_most = omega arith;
            mcr_most = omega arith;
            lcr_most = omega arith;
            scr_most = w.registers.scr_most;
            divisor-most = w.registers.divisor-most;
            k_most = omega arith;
            k_least = λ h. h;
          };
      settings = omega arith;
      transmit = transmit-none (omega arith);
      receive = receive_none idle_facts refl;
      latches = omega arith;
    }

pub fresh_kept : Kept fresh_of
unfolding fresh_of well_formed capacity byte_rest no_bytes frame_length stop_pulses entry_rest entries_within no_entries autoflow auto_rts trigger_level
fresh_kept = record { well = refl; places = record { bytes_long = refl; entries_long = refl } }

-- The calls. A refusal hands the state back.

-- what either way of a test keeps
kept_if : (t : Bool) (x y : Answer) → (t ≡ true → Kept x.state) → Kept y.state → Kept (cond t x y).state
kept_if t x y f k = by_test (λ (r : Answer). Kept r.state) t x y f (λ _. k)

module _ (s : State) (places : Places s) (well : well_formed s ≡ true) where
  same : Kept s
  same = record { well = well; places = places }

  sound : Sound s
  sound = sound_of s places (good_of s well)

  pub reset_kept : Kept (reset_of s).state
  unfolding reset_of done
  reset_kept = kept_if (well_formed s) _ _ (λ _. settled-kept _ (reset_sound s sound)) same

  pub read_kept : (a : ℕ) → Kept (read_of s a).state
  unfolding read_of done
  read_kept a = kept_if (well_formed s) _ _ (λ _. kept_if (leb a 7) _ _ (λ _. settled-kept _ (read_sound s a sound)) same) same

  pub write_kept : (a b : ℕ) → b ≤ 255 → Kept (write_of s a b).state
  unfolding write_of done
  write_kept a b h = kept_if (well_formed s) _ _ (λ _. kept_if (leb a 7) _ _ (λ _. settled-kept _ (write_sound s a b h sound)) same) same

  pub sin-kept : (v : ℕ) → Kept (sin_of s v).state
  unfolding sin_of done
  sin-kept v =
      let w = sound in
      kept_if (well_formed s) _ _
      (λ _. kept_if (leb v 1) _ _ (λ e. settled-kept _ (sound_inputs w _ (omega (arith, leb-true v 1 e)))) same)
      same

  pub modem-kept : (v : ℕ) → Kept (modem_of s v).state
  unfolding modem_of done
  modem-kept v =
      let w = sound in
      kept_if (well_formed s) _ _
      (λ _. kept_if (leb v 15) _ _ (λ e. settled-kept _ (levels_sound s _ (sound_inputs w _ (omega (arith, leb-true v 15 e))))) same)
      same

  pub tick_kept : Kept (tick_of s).state
  unfolding tick_of done
  tick_kept = kept_if (well_formed s) _ _ (λ _. settled-kept _ (ticked_sound s sound)) same

-- and so after any number of ticks
pub ticks-kept : (t : ℕ) (s : State) → Kept s → Kept (ticks_of t s)
ticks-kept zero s w = w
ticks-kept (suc t) s w = ticks-kept t (tick_of s).state (tick_kept s w.places w.well)
