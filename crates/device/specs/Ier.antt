-- IER, interrupt enable register (SLLS191C, "interrupt enable register (IER)"; document 01, "IER write").
use Rattle.std.specs.Prelude.{ℕ, ◌%◌, cond, not, ◌&&◌, eqb}
use Rattle.flag.specs.Flag.{bit}
use Rattle.device.specs.declared.State.{State}
use Rattle.device.specs.State.{with_registers, with_latches, with_ier, with_empty}

-- Where each bit acts: 0 (ERBI), 1 (ETBEI), 2 (ELSI) and 3 (EDSSI) in Iir.antt; 4 (sleep mode) and 5 (low-power mode)
-- are stored only.

-- low six bits. Raising bit 1 with the transmit queue empty sets the transmit-empty latch (house rule)
unfoldable pub ier_write : State → ℕ → State
ier_write s b =
    with_latches (with_registers s (with_ier s.registers (b % 64)))
    (cond (not (bit 1 s.registers.ier) && (bit 1 b && eqb s.tx.count 0))
    (with_empty s.latches 1)
    s.latches)
