-- The forecast, the line's level, and run (document 01, "Forecast and run"; numbers 4 and 5 of "Numbers answered"). p,
-- T, q and the string are those of the frame crate's Forecast.antt.
use Rattle.std.specs.Prelude.{ℕ, ◌≤◌, ◌<◌, min, ◌≡◌, Bool, true, false, cond, ◌&&◌, List, ltb, eqb}
use Rattle.frame.specs.Format.{format_of, frame_length}
use Rattle.frame.specs.Forecast.{work_left, pulses_left, ticks_left, spelled, level_after}
use Rattle.queue.specs.Queue.{contents}
use Rattle.device.specs.declared.State.{State}
use Rattle.device.specs.declared.Forecasted.{Forecasted}
use Rattle.device.specs.declared.Leveled.{Leveled}
use Rattle.device.specs.declared.Ran.{Ran}
use Rattle.device.specs.Autoflow.{held}
use Rattle.device.specs.Ranges.{well_formed, part_of}
use Rattle.device.specs.Lsr.{temt}
use Rattle.device.specs.Transmitter.{line}
use Rattle.device.specs.Calls.{tick_of, ticks_of}

-- p, with F from the present LCR
abbrev pub pulses_to_come : State → ℕ
pulses_to_come s = pulses_left s.frame.left s.tx.count (frame_length (format_of s.registers.lcr))

-- T
abbrev pub ticks_to_come : State → ℕ
ticks_to_come s = ticks_left s.baud.k s.baud.divisor (pulses_to_come s)

-- what the rest of the current frame and the queued bytes spell
abbrev pub levels_to_come : State → List ℕ
levels_to_come s =
    spelled s.frame.left s.frame.byte s.frame.format (format_of s.registers.lcr)
    (contents s.tx.count s.tx.bytes)

-- the line's level after t ticks
abbrev pub level_to_come : State → ℕ → ℕ
level_to_come s t = level_after s.baud.k s.baud.divisor (pulses_to_come s) (levels_to_come s) t

-- 4: work left and D = 0
unfoldable pub no_clock : State → Bool
no_clock s = work_left s.frame.left s.tx.count && eqb s.baud.divisor 0

-- 5: bytes queued and held
unfoldable pub held_back : State → Bool
held_back s = ltb 0 s.tx.count && held s.registers s.fifo s.inputs

-- the number that the forecast answers, the lowest first
unfoldable pub forecast_number : State → ℕ
forecast_number s = cond (well_formed s) (cond (no_clock s) 4 (cond (held_back s) 5 0)) 1

-- the forecast: T. Beside a refusal's number stands the part that is bad (document 02 b), which is 0 with 4 and 5
unfoldable pub forecast_of : State → Forecasted
forecast_of s =
    cond (eqb (forecast_number s) 0)
    (record { number = 0; part = 0; ticks = ticks_to_come s })
    (record { number = forecast_number s; part = part_of s; ticks = 0 })

-- the line's level after t ticks; the same refusals
unfoldable pub level_of : State → ℕ → Leveled
level_of s t =
    cond (eqb (forecast_number s) 0)
    (record { number = 0; part = 0; level = level_to_come s t })
    (record { number = forecast_number s; part = part_of s; level = 0 })

-- the ticks that run uses of at most n: the smaller of n and T, or n where the forecast gives 4 or 5
unfoldable pub used_of : State → ℕ → ℕ
used_of s n = cond (eqb (forecast_number s) 0) (min n (ticks_to_come s)) n

-- run: its state is that many single ticks
unfoldable pub run_of : State → ℕ → Ran
run_of s n =
    cond (well_formed s)
    (record { number = 0; part = 0; used = used_of s n; state = ticks_of (used_of s n) s })
    (record { number = 1; part = part_of s; used = 0; state = s })

-- Demand 3: what the forecast T of s says of t ticks, each on the state that the last one returned. The next tick
-- isn't refused; queue and shift register are both empty (TEMT) exactly when t is at least T; the transmitter's line
-- has the level at place q of the string of s, high from place p on
pub record Foretold (s : State) (T t : ℕ) : Type 0 where
  pub accepted : (tick_of (ticks_of t s)).number ≡ 0
  pub empties : T ≤ t → temt (ticks_of t s) ≡ true
  pub not_before : temt (ticks_of t s) ≡ true → T ≤ t
  pub level : line (ticks_of t s).frame ≡ level_to_come s t

-- run stops as soon as LSR6 (TEMT) would be 1, and not before
pub record StopsInTime (s : State) (n used : ℕ) : Type 0 where
  pub within : used ≤ n
  pub temt_then : used < n → temt (ticks_of used s) ≡ true
  pub not_before : (t : ℕ) → t < used → temt (ticks_of t s) ≡ false
