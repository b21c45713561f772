-- The loop over pulses: its invariant, and a turn of it.
use Prim.Native.Nat.{ℕ, ◌+◌, ◌-◌, ◌≤◌}
use native.Mathlib.Omega.{arith}
use mathlib.Core.Path.{◌≡◌, sym, ap, subst, ◌∙◌}
use Rattle.device.specs.declared.State.{State}
use Rattle.device.specs.Autoflow.{settled}
use Rattle.device.specs.Tick.{pulsed}
use Rattle.invariant.proofs.Settled.{Kept}
use Rattle.quiet_pulses.specs.Quiet.{pulses_of}
use Rattle.quiet_pulses.proofs.Kept.{pulses_kept}
use Rattle.clock.proofs.Pulsed.{pulses_sum}

-- with so many of the n pulses left, the others are made
pub record Going (n : ℕ) (s t : State) (left : ℕ) : Type 0 where
  pub most : left ≤ n
  pub so_far : t ≡ pulses_of (n - left) s
  pub kept : Kept t

pub going_start : (n : ℕ) (s : State) → Kept s → Going n s s n
unfolding pulses_of
going_start n s w =
    let none : 0 ≡ n - n = omega arith in
    record { most = omega arith; so_far = ap (λ (i : ℕ). pulses_of i s) none; kept = w }

module _ (n : ℕ) (s t : State) (left : ℕ) (g : Going n s t left) where
  -- m pulses more
  pub going_on : (m : ℕ) (u : State) → m ≤ left → u ≡ pulses_of m t → Going n s u (left - m)
  going_on m u within e =
      let most = g.most in
      let next : n - left + m ≡ n - (left - m) = omega arith in
      record {
        most = omega arith;
        so_far =
            e
            ∙ ap (λ (r : State). pulses_of m r) g.so_far
            ∙ sym (pulses_sum (n - left) m s)
            ∙ ap (λ (i : ℕ). pulses_of i s) next;
        kept = subst Kept (sym e) (pulses_kept m t g.kept);
      }

  -- one pulse more
  pub going_once : (u : State) → 1 ≤ left → u ≡ settled (pulsed t) → Going n s u (left - 1)
  unfolding pulses_of
  going_once u within e = going_on 1 u within e

  -- none left
  pub going_ends : left ≤ 0 → t ≡ pulses_of n s
  going_ends none = let all : n - left ≡ n = omega arith in g.so_far ∙ ap (λ (i : ℕ). pulses_of i s) all
