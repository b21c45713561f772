-- Where the forecast is refused the transmitter never empties: the clock stands with work left, or bytes wait and are held.
use Prim.Native.Nat.{ℕ, ◌≤◌}
use native.Mathlib.Omega.{arith}
use mathlib.Core.Path.{◌≡◌, ap}
use mathlib.Core.Bool.{Bool, true, false, ◌||◌, true≢false, false≢true}
use lib.ListN.{length}
use lib.Dec.{eqb}
use Rattle.frame.specs.Forecast.{work_left}
use Rattle.frame.proofs.Transmitter.{Transmitter, with_k, pulse, tick, ticks, Empty}
use Rattle.frame.proofs.Ticks.{by_pulse, by_tick, ticks_keep}

-- D = 0 and work left (number 4)
record Stopped (s : Transmitter) : Type 0 where
  stands : s.divisor ≡ 0
  work : work_left s.left (length s.queue) ≡ true

stopped_at_tick : (s : Transmitter) → Stopped s → Stopped (tick s)
stopped_at_tick s o = by_tick Stopped s (λ _. o) (λ d _. absurd (omega arith)) (λ d _. absurd (omega arith))

pub stopped_never_empty : (s : Transmitter) → s.divisor ≡ 0 → work_left s.left (length s.queue) ≡ true
    → (t : ℕ) → Empty (ticks t s) → ⊥
stopped_never_empty s d w t e =
    let o = ticks_keep Stopped stopped_at_tick t s (record { stands = d; work = w }) in
    false≢true (rw (e.sent, e.taken) at o.work)

-- bytes queued and held (number 5)
record Held (s : Transmitter) : Type 0 where
  held : s.held ≡ true
  bytes : 1 ≤ length s.queue

held_takes_none : (none : Bool) → (none || true) ≡ false → ⊥
held_takes_none true e = true≢false e
held_takes_none false e = true≢false e

held_at_pulse : (s : Transmitter) → Held s → Held (pulse s)
held_at_pulse s o =
    by_pulse Held s
    (λ _ _. record { held = o.held; bytes = o.bytes })
    (λ _ e. absurd (held_takes_none (eqb (length s.queue) 0) (rw o.held at e)))
    (λ _. record { held = o.held; bytes = o.bytes })

held_at_tick : (s : Transmitter) → Held s → Held (tick s)
held_at_tick s o =
    let at : (k : ℕ) → Held (with_k s k) = λ k. record { held = o.held; bytes = o.bytes } in
    by_tick Held s (λ _. o) (λ _ _. held_at_pulse (with_k s s.divisor) (at _)) (λ _ _. at _)

pub held-never_empty : (s : Transmitter) → s.held ≡ true → 1 ≤ length s.queue → (t : ℕ) → Empty (ticks t s) → ⊥
held-never_empty s h b t e =
    let o = ticks_keep Held held_at_tick t s (record { held = h; bytes = b }) in
    omega (arith, ap length e.taken, o.bytes)
