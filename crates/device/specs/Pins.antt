-- The output pins (SLLS191C, "terminal functions", "modem control register (MCR)" and LCR bit 6; document 01,
-- "Loopback" and "Interrupts").
use Rattle.std.specs.Prelude.{ℕ, cond, not, ◌&&◌, eqb}
use Rattle.flag.specs.Flag.{on, bit, bit_of}
use Rattle.device.specs.declared.Outputs.{Outputs}
use Rattle.device.specs.declared.State.{State}
use Rattle.device.specs.Modem.{loopback}
use Rattle.device.specs.Iir.{interrupt_code}
use Rattle.device.specs.Transmitter.{line}

-- INTRPT is high exactly when the code isn't 01
unfoldable pub intrpt : State → ℕ
intrpt s = bit_of (not (eqb (interrupt_code s) 0x01))

-- in loopback SOUT is high and RTS, DTR, OUT1, OUT2 are not asserted. Outside, SOUT is the transmitter's line and the
-- others are MCR1 without hold, MCR0, MCR2, MCR3. LCR6 (break control) makes SOUT low outside loopback and touches
-- nothing else (house rule)
unfoldable pub outputs : State → Outputs
outputs s =
    cond (loopback s.registers)
    (record { sout = 1; rts = 0; dtr = 0; out1 = 0; out2 = 0; intrpt = intrpt s })
    (record {
      sout = cond (bit 6 s.registers.lcr) 0 (line s.frame);
      rts = bit_of (bit 1 s.registers.mcr && not (on s.latches.hold));
      dtr = bit_of (bit 0 s.registers.mcr);
      out1 = bit_of (bit 2 s.registers.mcr);
      out2 = bit_of (bit 3 s.registers.mcr);
      intrpt = intrpt s;
    })

-- what a refusal answers for the pins
abbrev pub no_outputs : Outputs
no_outputs = record { sout = 0; rts = 0; dtr = 0; out1 = 0; out2 = 0; intrpt = 0 }
