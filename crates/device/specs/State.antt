-- The state of the device: parts put in place of others, the fresh state, and what reset gives (document 01, "The
-- state"; SLLS191C, table 2). The structs and their fields are declared in src/lib.rt.
use Rattle.std.specs.Prelude.{ℕ}
use Rattle.queue.specs.declared.ByteQueue.{ByteQueue}
use Rattle.queue.specs.declared.EntryQueue.{EntryQueue}
use Rattle.queue.specs.declared.Errors.{Errors}
use Rattle.queue.specs.Queue.{no_bytes, no_entries, no_errors}
use Rattle.device.specs.declared.Registers.{Registers}
use Rattle.device.specs.declared.Baud.{Baud}
use Rattle.device.specs.declared.FifoControl.{FifoControl}
use Rattle.device.specs.declared.Inputs.{Inputs}
use Rattle.device.specs.declared.Frame.{Frame}
use Rattle.device.specs.declared.Receiver.{Receiver}
use Rattle.device.specs.declared.Latches.{Latches}
use Rattle.device.specs.declared.State.{State}

-- a state of these parts
abbrev pub state : Registers → Baud → FifoControl → Inputs → ByteQueue → Frame → EntryQueue → Receiver → Latches
    → Errors → State
state r b f i t x q v l e =
    record {
      registers = r;
      baud = b;
      fifo = f;
      inputs = i;
      tx = t;
      frame = x;
      rx = q;
      receiver = v;
      latches = l;
      kept = e;
    }

-- The state with one part put in place of the old.

abbrev pub with_registers : State → Registers → State
with_registers s p =
    state p s.baud s.fifo s.inputs s.tx s.frame s.rx s.receiver s.latches s.kept

abbrev pub with_baud : State → Baud → State
with_baud s p =
    state s.registers p s.fifo s.inputs s.tx s.frame s.rx s.receiver s.latches s.kept

abbrev pub with_fifo : State → FifoControl → State
with_fifo s p =
    state s.registers s.baud p s.inputs s.tx s.frame s.rx s.receiver s.latches s.kept

abbrev pub with_inputs : State → Inputs → State
with_inputs s p =
    state s.registers s.baud s.fifo p s.tx s.frame s.rx s.receiver s.latches s.kept

abbrev pub with_tx : State → ByteQueue → State
with_tx s p =
    state s.registers s.baud s.fifo s.inputs p s.frame s.rx s.receiver s.latches s.kept

abbrev pub with_frame : State → Frame → State
with_frame s p =
    state s.registers s.baud s.fifo s.inputs s.tx p s.rx s.receiver s.latches s.kept

abbrev pub with_rx : State → EntryQueue → State
with_rx s p =
    state s.registers s.baud s.fifo s.inputs s.tx s.frame p s.receiver s.latches s.kept

abbrev pub with_receiver : State → Receiver → State
with_receiver s p =
    state s.registers s.baud s.fifo s.inputs s.tx s.frame s.rx p s.latches s.kept

abbrev pub with_latches : State → Latches → State
with_latches s p =
    state s.registers s.baud s.fifo s.inputs s.tx s.frame s.rx s.receiver p s.kept

abbrev pub with_kept : State → Errors → State
with_kept s p =
    state s.registers s.baud s.fifo s.inputs s.tx s.frame s.rx s.receiver s.latches p

-- The registers with one of them put in place of the old.

abbrev pub with_ier : Registers → ℕ → Registers
with_ier r b = record { ier = b; mcr = r.mcr; lcr = r.lcr; scr = r.scr }

abbrev pub with_mcr : Registers → ℕ → Registers
with_mcr r b = record { ier = r.ier; mcr = b; lcr = r.lcr; scr = r.scr }

abbrev pub with_lcr : Registers → ℕ → Registers
with_lcr r b = record { ier = r.ier; mcr = r.mcr; lcr = b; scr = r.scr }

abbrev pub with_scr : Registers → ℕ → Registers
with_scr r b = record { ier = r.ier; mcr = r.mcr; lcr = r.lcr; scr = b }

-- these latches and this idle count
abbrev pub latches : ℕ → ℕ → ℕ → ℕ → ℕ → ℕ → Latches
latches e o t c h n =
    record { empty = e; overrun = o; timeout = t; changes = c; hold = h; idle = n }

-- The latches with one of them put in place of the old: the transmit-empty latch, OE, the time-out latch, the change
-- bits of MSR, RTS hold, the idle count.

abbrev pub with_empty : Latches → ℕ → Latches
with_empty l e = latches e l.overrun l.timeout l.changes l.hold l.idle

abbrev pub with_overrun : Latches → ℕ → Latches
with_overrun l o = latches l.empty o l.timeout l.changes l.hold l.idle

abbrev pub with_timeout : Latches → ℕ → Latches
with_timeout l t = latches l.empty l.overrun t l.changes l.hold l.idle

abbrev pub with_changes : Latches → ℕ → Latches
with_changes l c = latches l.empty l.overrun l.timeout c l.hold l.idle

abbrev pub with_hold : Latches → ℕ → Latches
with_hold l h = latches l.empty l.overrun l.timeout l.changes h l.idle

abbrev pub with_idle : Latches → ℕ → Latches
with_idle l n = latches l.empty l.overrun l.timeout l.changes l.hold n

-- The baud generator with k, the ticks to the next pulse, or with the divisor D and k = D.

abbrev pub with_k : State → ℕ → State
with_k s k = with_baud s (record { divisor = s.baud.divisor; k = k })

abbrev pub with_divisor : State → ℕ → State
with_divisor s d = with_baud s (record { divisor = d; k = d })

-- no frame is sent
abbrev pub no_frame : Frame
no_frame = record { left = 0; byte = 0; format = 0 }

-- The receiver's phases: idle, waiting for mark, in a character.

abbrev pub idle_phase : ℕ
idle_phase = 0

abbrev pub waiting_phase : ℕ
waiting_phase = 1

abbrev pub character_phase : ℕ
character_phase = 2

-- the receiver is idle
abbrev pub idle_receiver : Receiver
idle_receiver = record { phase = idle_phase; format = 0; samples = 0; parity = 0; position = 0 }

-- no latch is set
abbrev pub no_latches : Latches
no_latches = record { empty = 0; overrun = 0; timeout = 0; changes = 0; hold = 0; idle = 0 }

-- Fresh: IER, LCR, MCR, SCR, D, k 0; FIFO off, its bits 0; SIN 1, modem pins 0; queues empty; receiver idle; the rest
-- 0.
unfoldable pub fresh_of : State
fresh_of =
    record {
      registers = record { ier = 0; mcr = 0; lcr = 0; scr = 0 };
      baud = record { divisor = 0; k = 0 };
      fifo = record { enabled = 0; size = 0; dma = 0; trigger = 0 };
      inputs = record { modem = 0; sin = 1 };
      tx = no_bytes;
      frame = no_frame;
      rx = no_entries;
      receiver = idle_receiver;
      latches = no_latches;
      kept = no_errors;
    }

-- Reset gives the fresh state but keeps SCR, D and both pin inputs, and sets k = D.
unfoldable pub reset_state : State → State
reset_state s =
    let registers = with_scr fresh_of.registers s.registers.scr in
    with_inputs (with_divisor (with_registers fresh_of registers) s.baud.divisor) s.inputs
