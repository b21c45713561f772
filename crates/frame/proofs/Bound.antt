-- The longest forecast: at most 12480 pulses, at most 817,876,800 ticks (document 01, "Forecast and run").
use Prim.Native.Nat.{ℕ, ◌-◌, ◌*◌, ◌≤◌}
use native.Mathlib.Nat.{mul-le-mul}
use native.Mathlib.Omega.{arith}
use lib.Dec.{ltb, eqb}
use Rattle.flag.proofs.Laws.{by_test}
use Rattle.frame.specs.Format.{frame_length}
use Rattle.frame.specs.Forecast.{pulses_left, ticks_left}
use Rattle.frame.proofs.Frames.{frame_length_bounds}

pub pulses_bound : (l n f : ℕ) → l ≤ 192 → n ≤ 64 → pulses_left l n (frame_length f) ≤ 12480
unfolding pulses_left
pulses_bound l n f hl hn =
    let hf : frame_length f ≤ 192 = (frame_length_bounds f).1 in
    let most : n * frame_length f ≤ 64 * 192 = mul-le-mul hn hf in
    by_test (λ (p : ℕ). p ≤ 12480) (ltb 0 l) _ _
    (λ _. omega arith)
    (λ _. by_test (λ (p : ℕ). p ≤ 12480) (ltb 0 n) _ _ (λ _. omega arith) (λ _. omega arith))

pub ticks_bound : (k d p : ℕ) → k ≤ d → d ≤ 65535 → p ≤ 12480 → ticks_left k d p ≤ 817876800
unfolding ticks_left
ticks_bound k d p hk hd hp =
    let less : p - 1 ≤ 12479 = omega arith in
    let most : (p - 1) * d ≤ 12479 * 65535 = mul-le-mul less hd in
    by_test (λ (t : ℕ). t ≤ 817876800) (eqb p 0) _ _ (λ _. omega arith) (λ _. omega arith)
