-- A pulse and a tick by their cases, and what many ticks keep.
use Prim.Native.Nat.{ℕ, zero, suc, ◌-◌, ◌≤◌}
use native.Mathlib.Omega.{arith}
use mathlib.Core.Path.{◌≡◌}
use mathlib.Core.Bool.{Bool, true, false, ◌||◌}
use lib.ListN.{length, get_or, drop}
use lib.Dec.{eqb}
use borrow.Author.Tests.{eqb-true, eqb-false}
use Rattle.flag.proofs.Laws.{by_test}
use Rattle.frame.specs.Format.{frame_length}
use Rattle.frame.proofs.Transmitter.{Transmitter, with_k, with_frame, pulse, tick, ticks}

-- no byte is queued, or it is held
abbrev pub nothing_to_take : Transmitter → Bool
nothing_to_take s = eqb (length s.queue) 0 || s.held

-- a claim about the state after a pulse: the frame is over and nothing is taken, or the oldest byte is; or the frame goes on
pub by_pulse : (P : Transmitter → Type 0) (s : Transmitter)
    → (s.left ≤ 1 → nothing_to_take s ≡ true → P (with_frame s 0 0 0 s.queue))
    → (s.left ≤ 1 → nothing_to_take s ≡ false → P (with_frame s (frame_length s.next) (get_or s.queue 0 0) s.next (drop 1 s.queue)))
    → (2 ≤ s.left → P (with_frame s (s.left - 1) s.byte s.format s.queue))
    → P (pulse s)
unfolding pulse
by_pulse P s none taken goes =
    by_test P (eqb (s.left - 1) 0) _ _
    (λ e. by_test P (nothing_to_take s) _ _ (none (omega (arith, eqb-true))) (taken (omega (arith, eqb-true))))
    (λ e. goes (omega (arith, eqb-false)))

-- a claim about the state after a tick: the clock stands, a pulse happens, or it does not
pub by_tick : (P : Transmitter → Type 0) (s : Transmitter)
    → (s.divisor ≡ 0 → P s)
    → (1 ≤ s.divisor → s.k ≤ 1 → P (pulse (with_k s s.divisor)))
    → (1 ≤ s.divisor → 2 ≤ s.k → P (with_k s (s.k - 1)))
    → P (tick s)
unfolding tick
by_tick P s stands pulses quiet =
    by_test P (eqb s.divisor 0) _ _
    (λ d. stands (omega (arith, eqb-true)))
    (λ d.
    by_test P (eqb (s.k - 1) 0) _ _
    (λ k. pulses (omega (arith, eqb-false)) (omega (arith, eqb-true)))
    (λ k. quiet (omega (arith, eqb-false)) (omega (arith, eqb-false))))

-- what a tick keeps, many keep
pub ticks_keep : (P : Transmitter → Type 0) → ((s : Transmitter) → P s → P (tick s)) → (t : ℕ) (s : Transmitter) → P s → P (ticks t s)
ticks_keep P keeps zero s p = p
ticks_keep P keeps (suc t) s p = ticks_keep P keeps t (tick s) (keeps s p)
