-- The transmitter over quiet pulses, one pulse more: L falls by 1, and nothing is loaded.
use Prim.Native.Nat.{ℕ, suc, ◌-◌, ◌≤◌}
use native.Mathlib.Decide.{dec_lt, ℕ_discrete}
use native.Mathlib.Omega.{arith}
use mathlib.Core.Path.{◌≡◌, refl, ap}
use mathlib.Core.Bool.{Bool, true, false, ◌&&◌}
use lib.Dec.{eqb}
use borrow.Author.Tests.{le-leb, lt-leb, eq-eqb, ne_eqb}
use Rattle.device.specs.declared.Frame.{Frame}
use Rattle.device.specs.State.{no_frame}
use Rattle.device.specs.Transmitter.{shifted_out}
use Rattle.invariant.proofs.Good.{FrameFacts}
use Rattle.quiet_pulses.specs.Quiet.{sends, shifted_by}

-- a frame of which some is left, or of which nothing is
abbrev frame : ℕ → ℕ → ℕ → Frame
frame l b f = record { left = l; byte = b; format = f }

nothing_left : (l b f : ℕ) → l ≡ 0 → b ≡ 0 → f ≡ 0 → no_frame ≡ frame l b f
nothing_left l b f p q r = rw (p, q, r)

pub shifted_none : (x : Frame) → FrameFacts x → shifted_by 0 x ≡ x
unfolding shifted_by
shifted_none x g =
    elim (ℕ_discrete x.left 0) [
      | yes e ↦ simp (le-leb x.left 0 (omega arith)) (nothing_left x.left x.byte x.format e (g.byte-none e) (g.format_none e))
      | no e ↦
          let same : x.left - 0 ≡ x.left = omega arith in
          simp (lt-leb x.left 0 (omega arith)) (ap (λ (l : ℕ). frame l x.byte x.format) same)
    ]

pub shifted_next : (i : ℕ) (x : Frame) → shifted_out (shifted_by i x) ≡ shifted_by (suc i) x
unfolding shifted_by shifted_out
shifted_next i x =
    elim (dec_lt i x.left) [
      | no e ↦ simp (le-leb x.left i (omega arith), le-leb x.left (suc i) (omega arith))
      | yes e ↦
          let less : x.left - i - 1 ≡ x.left - suc i = omega arith in
          elim (dec_lt (suc i) x.left) [
            | no h ↦
                simp (
                  lt-leb x.left i (omega arith),
                  le-leb x.left (suc i) (omega arith),
                  eq-eqb (x.left - i - 1) 0 (omega arith),
                )
            | yes h ↦
                simp (
                  lt-leb x.left i (omega arith),
                  lt-leb x.left (suc i) (omega arith),
                  ne_eqb (x.left - i - 1) 0 (λ z. absurd (omega arith)),
                )
                (ap (λ (l : ℕ). frame l x.byte x.format) less)
          ]
    ]

not-true : (b : Bool) → (b && false) ≡ false
not-true true = refl
not-true false = refl

pub nothing-loaded : (b : Bool) (i : ℕ) (x : Frame) → suc i ≤ sends b x.left → (eqb (shifted_by (suc i) x).left 0 && b) ≡ false
unfolding shifted_by sends
nothing-loaded false i x h = not-true (eqb (shifted_by (suc i) x).left 0)
nothing-loaded true i x h =
    simp (lt-leb x.left (suc i) (omega arith), ne_eqb (x.left - suc i) 0 (λ z. absurd (omega arith)))
