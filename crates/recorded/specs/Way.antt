-- The ways of a record, which serve the loop of a replay.
use Rattle.std.specs.Prelude.{ℕ, ◌≡◌, true, false}
use Rattle.recorder.specs.Record.{kind, address, is_read}
use Rattle.device.specs.declared.State.{State}
use Rattle.device.specs.Lcr.{divisor_access}
use Rattle.invariant.specs.Touch.{reaches_queue}
use Rattle.recorded.specs.Record.{step_of}
use Rattle.recorded.specs.declared.Way.{Way}

-- what the way of a record says of it: it changes nothing, is a write that reaches no queue, a write to THR, a read that
-- may change the state, ticks, or any other record
abbrev pub IsWay : State → ℕ → Way → Type 0
IsWay s w Way.Nothing = (step_of s w).state ≡ s
IsWay s w Way.Numbers = (kind w ≡ 2) × (reaches_queue s (address w) ≡ false)
IsWay s w Way.Transmit = (kind w ≡ 2) × (address w ≡ 0) × (divisor_access s.registers ≡ false)
IsWay s w Way.Read = is_read w ≡ true
IsWay s w Way.Ticks = kind w ≡ 0
IsWay s w Way.Other = (kind w ≡ 0 → ⊥) × (kind w ≡ 1 → ⊥)
