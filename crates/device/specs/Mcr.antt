-- MCR, modem control register (SLLS191C, "modem control register (MCR)"; document 01, "MCR" and "Loopback").
use Rattle.std.specs.Prelude.{ℕ, ◌%◌}
use Rattle.device.specs.declared.State.{State}
use Rattle.device.specs.State.{with_registers, with_mcr}
use Rattle.device.specs.Msr.{with_levels}

-- Where each bit acts. 0 (DTR), 2 (OUT1), 3 (OUT2): their pins (Pins.antt). 1 (RTS): its pin, and auto-RTS
-- (Autoflow.antt). In loopback 0 is DSR, 1 CTS (which may hold the transmitter, Autoflow.antt), 2 RI, 3 DCD
-- (Modem.antt). 4 (LOOP): the effective levels (Modem.antt), the pins (Pins.antt), what the receiver hears
-- (Receiver.antt). 5 (AFE): Autoflow.antt.

-- low six bits; a change of the effective levels made by the write counts as a change
unfoldable pub mcr_write : State → ℕ → State
mcr_write s b = with_levels s (with_registers s (with_mcr s.registers (b % 64)))
