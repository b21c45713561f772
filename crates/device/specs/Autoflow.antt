-- Autoflow, and the rules that end every step (SLLS191C, "autoflow control", "auto-RTS", "auto-CTS" and table 8;
-- document 01, "The state").
use Rattle.std.specs.Prelude.{ℕ, ◌*◌, ◌/◌, Bool, cond, not, ◌&&◌, leb, eqb}
use Rattle.flag.specs.Flag.{on, bit}
use Rattle.device.specs.declared.Registers.{Registers}
use Rattle.device.specs.declared.FifoControl.{FifoControl}
use Rattle.device.specs.declared.Inputs.{Inputs}
use Rattle.device.specs.declared.Latches.{Latches}
use Rattle.device.specs.declared.State.{State}
use Rattle.device.specs.State.{with_latches, with_changes, with_hold}
use Rattle.device.specs.Fifo.{trigger_level}
use Rattle.device.specs.Modem.{effective_levels}

-- autoflow is on when MCR5 (AFE) and the FIFO are both on
unfoldable pub autoflow : Registers → FifoControl → Bool
autoflow r f = bit 5 r.mcr && on f.enabled

-- auto-RTS needs MCR1 (RTS) too
unfoldable pub auto_rts : Registers → FifoControl → Bool
auto_rts r f = autoflow r f && bit 1 r.mcr

-- the transmitter is held: autoflow is on and effective CTS is 0
unfoldable pub held : Registers → FifoControl → Inputs → Bool
held r f i = autoflow r f && not (bit 0 (effective_levels r i))

-- the CTS change bit, MSR0 (DCTS), is 0 with autoflow on
unfoldable pub settled_changes : Registers → FifoControl → ℕ → ℕ
settled_changes r f changes = cond (autoflow r f) (changes / 2 * 2) changes

-- RTS hold with n received characters queued: with auto-RTS 1 while n is at or above the trigger, 0 when n is 0, and
-- its last value between; 0 without auto-RTS (house rule, all triggers alike)
unfoldable pub settled_hold : Registers → FifoControl → ℕ → ℕ → ℕ
settled_hold r f n hold = cond (auto_rts r f) (cond (leb (trigger_level f) n) 1 (cond (eqb n 0) 0 hold)) 0

-- the latches with these rules applied, n received characters queued
unfoldable pub settled_latches : Registers → FifoControl → ℕ → Latches → Latches
settled_latches r f n l = with_hold (with_changes l (settled_changes r f l.changes)) (settled_hold r f n l.hold)

-- every step ends by applying these rules
unfoldable pub settled : State → State
settled s = with_latches s (settled_latches s.registers s.fifo s.rx.count s.latches)
