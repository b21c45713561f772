-- LCR, line control register (SLLS191C, "line control register (LCR)"; document 01, "LCR, SCR as written").
use Rattle.std.specs.Prelude.{ℕ, Bool}
use Rattle.flag.specs.Flag.{bit}
use Rattle.device.specs.declared.Registers.{Registers}
use Rattle.device.specs.declared.State.{State}
use Rattle.device.specs.State.{with_registers, with_lcr}

-- Where each bit acts. 0, 1 (WLS0, WLS1), 2 (STB), 3 (PEN), 4 (EPS), 5 (stick parity): the format of a character, taken
-- when it is loaded (Transmitter.antt) or begins to be received (Receiver.antt), and what a format means in the frame
-- crate's Format.antt; as they are now also in 4F of the time-out (Idle.antt) and in the forecast (Forecast.antt). 6
-- (break control): SOUT (Pins.antt). 7 (DLAB): here, what addresses 0 and 1 reach (Calls.antt), and FCR's bit 5
-- (Fcr.antt).

-- LCR7 (DLAB): addresses 0 and 1 are the divisor latches, DLL and DLM
abbrev pub divisor_access : Registers → Bool
divisor_access r = bit 7 r.lcr

-- as written
unfoldable pub lcr_write : State → ℕ → State
lcr_write s b = with_registers s (with_lcr s.registers b)
