-- Which writes reach a queue, and what the others touch.
use Rattle.std.specs.Prelude.{ℕ, Bool, cond, not, eqb}
use Rattle.device.specs.declared.Numbers.{Numbers}
use Rattle.device.specs.declared.State.{State}
use Rattle.device.specs.Lcr.{divisor_access}

-- Which writes reach a queue: THR, and FCR, which may clear both (document 01, "Registers").
abbrev pub reaches_queue : State → ℕ → Bool
reaches_queue s a = cond (eqb a 0) (not (divisor_access s.registers)) (eqb a 2)

-- the parts that a write touches which reaches none
abbrev pub numbers_of : State → Numbers
numbers_of s = record { registers = s.registers; baud = s.baud; latches = s.latches }
