-- The divisor latches, DLL and DLM, at addresses 0 and 1 with DLAB set (SLLS191C, "programmable baud generator";
-- document 01, "Registers").
use Rattle.std.specs.Prelude.{ℕ, ◌+◌, ◌*◌, ◌/◌, ◌%◌}
use Rattle.device.specs.declared.State.{State}
use Rattle.device.specs.State.{with_divisor}

-- the two bytes of D: DLL
abbrev pub divisor_low : State → ℕ
divisor_low s = s.baud.divisor % 256

-- and DLM
abbrev pub divisor_high : State → ℕ
divisor_high s = s.baud.divisor / 256

-- writing either divisor byte sets k = the new D

unfoldable pub divisor_low_write : State → ℕ → State
divisor_low_write s b = with_divisor s (256 * divisor_high s + b)

unfoldable pub divisor_high_write : State → ℕ → State
divisor_high_write s b = with_divisor s (256 * b + divisor_low s)
