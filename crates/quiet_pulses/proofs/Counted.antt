-- The idle count over quiet pulses, one pulse more.
use Prim.Native.Nat.{ℕ, zero, suc, ◌+◌, ◌≤◌, ◌<◌, min}
use native.Mathlib.Decide.{dec_lt}
use native.Mathlib.Omega.{arith}
use mathlib.Core.Path.{◌≡◌, refl, ap}
use mathlib.Core.Bool.{cond}
use lib.Dec.{ltb}
use borrow.Author.Tests.{lt-ltb, le-ltb}
use Rattle.device.specs.declared.Latches.{Latches}
use Rattle.device.specs.State.{with_timeout, with_idle}
use Rattle.device.specs.Idle.{counted}
use Rattle.quiet_pulses.specs.Quiet.{counted_by}

-- the latch that a count sets stays set at a larger one
set_once : (limit n n' t : ℕ) → (limit < n → limit < n') → cond (ltb limit n') 1 (cond (ltb limit n) 1 t) ≡ cond (ltb limit n') 1 t
set_once limit n n' t more =
    elim (dec_lt limit n) [
      | yes h ↦ simp (lt-ltb limit n h, lt-ltb limit n' (more h))
      | no h ↦ simp (le-ltb limit n (omega arith))
    ]

-- one pulse or more
pub counted_some : (limit m : ℕ) (l : Latches) → 1 ≤ m
    → counted_by limit m l ≡ with_idle (with_timeout l (cond (ltb limit (min (l.idle + m) 769)) 1 l.timeout)) (min (l.idle + m) 769)
unfolding counted_by
counted_some limit zero l h = absurd (omega arith)
counted_some limit (suc m) l h = refl

pub counted_next : (limit i : ℕ) (l : Latches) → counted limit (counted_by limit i l) ≡ counted_by limit (suc i) l
unfolding counted counted_by
counted_next limit zero l = refl
counted_next limit (suc i) l =
    let n : ℕ = min (l.idle + suc i) 769 in
    let next : min (n + 1) 769 ≡ min (l.idle + suc (suc i)) 769 = omega arith in
    rw next (ap (λ (t : ℕ). with_idle (with_timeout l t) (min (l.idle + suc (suc i)) 769)) (set_once limit n (min (l.idle + suc (suc i)) 769) l.timeout (omega arith)))
