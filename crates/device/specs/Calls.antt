-- The calls and the numbers that they answer (document 01, "Numbers answered" and "Registers"): 0 done; 1 state not
-- well formed; 2 register address above 7; 3 SIN above 1 or modem pins above 15. Lowest number first. A refusal hands
-- the state back as it was, every other result 0; beside number 1 stands the part that is bad (document 02 b).
use Rattle.std.specs.Prelude.{ℕ, zero, suc, cond, leb, eqb}
use Rattle.device.specs.declared.Reading.{Reading}
use Rattle.device.specs.declared.Answer.{Answer}
use Rattle.device.specs.declared.Looked.{Looked}
use Rattle.device.specs.declared.State.{State}
use Rattle.device.specs.State.{with_inputs, reset_state}
use Rattle.device.specs.Ranges.{well_formed, part_of}
use Rattle.device.specs.Autoflow.{settled}
use Rattle.device.specs.Rbr.{seen, rbr_read}
use Rattle.device.specs.Thr.{thr_write}
use Rattle.device.specs.Ier.{ier_write}
use Rattle.device.specs.Iir.{iir_read}
use Rattle.device.specs.Fcr.{fcr_write}
use Rattle.device.specs.Lcr.{divisor_access, lcr_write}
use Rattle.device.specs.Mcr.{mcr_write}
use Rattle.device.specs.Lsr.{lsr_read}
use Rattle.device.specs.Msr.{with_levels, msr_read}
use Rattle.device.specs.Scr.{scr_write}
use Rattle.device.specs.Divisor.{divisor_low, divisor_high, divisor_low_write, divisor_high_write}
use Rattle.device.specs.Tick.{ticked}
use Rattle.device.specs.Pins.{outputs, no_outputs}

-- one of eight by the register address
abbrev pub by_address : {A : Type 0} → ℕ → A → A → A → A → A → A → A → A → A
by_address a r0 r1 r2 r3 r4 r5 r6 r7 =
    cond (eqb a 0) r0
    (cond (eqb a 1) r1
    (cond (eqb a 2) r2 (cond (eqb a 3) r3 (cond (eqb a 4) r4 (cond (eqb a 5) r5 (cond (eqb a 6) r6 r7))))))

-- a register read at address 0..7 (SLLS191C, table 1)
unfoldable pub read_register : State → ℕ → Reading
read_register s a =
    by_address a
    (cond (divisor_access s.registers) (seen s (divisor_low s)) (rbr_read s))  -- RBR, or DLL with DLAB
    (seen s (cond (divisor_access s.registers) (divisor_high s) s.registers.ier))  -- IER, or DLM with DLAB
    (iir_read s)  -- IIR
    (seen s s.registers.lcr)  -- LCR
    (seen s s.registers.mcr)  -- MCR
    (lsr_read s)  -- LSR
    (msr_read s)  -- MSR
    (seen s s.registers.scr)  -- SCR

-- a register write at address 0..7 (SLLS191C, table 1). Writes to LSR and MSR do nothing (house rule)
unfoldable pub write_register : State → ℕ → ℕ → State
write_register s a b =
    by_address a
    (cond (divisor_access s.registers) (divisor_low_write s b) (thr_write s b))  -- THR, or DLL with DLAB
    (cond (divisor_access s.registers) (divisor_high_write s b) (ier_write s b))  -- IER, or DLM with DLAB
    (fcr_write s b)  -- FCR
    (lcr_write s b)  -- LCR
    (mcr_write s b)  -- MCR
    s  -- LSR
    s  -- MSR
    (scr_write s b)  -- SCR

-- the answer of a step that is done: the state as its last rules leave it, and the pins then
unfoldable pub done : State → ℕ → Answer
done s b =
    let t = settled s in
    record { number = 0; part = 0; byte = b; outputs = outputs t; state = t }

-- the answer of a refusal with number n, where part p of the state is bad
abbrev pub refused : ℕ → ℕ → State → Answer
refused n p s = record { number = n; part = p; byte = 0; outputs = no_outputs; state = s }

-- the answer for a state that is not well formed
abbrev pub malformed : State → Answer
malformed s = refused 1 (part_of s) s

-- reset
unfoldable pub reset_of : State → Answer
reset_of s = cond (well_formed s) (done (reset_state s) 0) (malformed s)

-- a register read
unfoldable pub read_of : State → ℕ → Answer
read_of s a =
    cond (well_formed s)
    (cond (leb a 7) (done (read_register s a).state (read_register s a).byte) (refused 2 0 s))
    (malformed s)

-- a register write
unfoldable pub write_of : State → ℕ → ℕ → Answer
write_of s a b = cond (well_formed s) (cond (leb a 7) (done (write_register s a b) 0) (refused 2 0 s)) (malformed s)

-- SIN at a level
unfoldable pub sin_of : State → ℕ → Answer
sin_of s v =
    cond (well_formed s)
    (cond (leb v 1) (done (with_inputs s (record { modem = s.inputs.modem; sin = v })) 0) (refused 3 0 s))
    (malformed s)

-- modem pins at their levels; a change of the effective levels counts
unfoldable pub modem_of : State → ℕ → Answer
modem_of s v =
    cond (well_formed s)
    (cond (leb v 15)
    (done (with_levels s (with_inputs s (record { modem = v; sin = s.inputs.sin }))) 0)
    (refused 3 0 s))
    (malformed s)

-- one tick
unfoldable pub tick_of : State → Answer
tick_of s = cond (well_formed s) (done (ticked s) 0) (malformed s)

-- t ticks, the first on the state given, each later one on what the last returned
abbrev pub ticks_of : ℕ → State → State
ticks_of zero s = s
ticks_of (suc t) s = ticks_of t (tick_of s).state

-- the answer of n ticks at once: that of the last one
unfoldable pub ticks_answer : State → ℕ → Answer
ticks_answer s n =
    cond (well_formed s)
    (record { number = 0; part = 0; byte = 0; outputs = outputs (ticks_of n s); state = ticks_of n s })
    (malformed s)

-- the pins as they are; those of a malformed state are all 0 with number 1 and its part
unfoldable pub pins_of : State → Looked
pins_of s =
    cond (well_formed s)
    (record { number = 0; part = 0; outputs = outputs s })
    (record { number = 1; part = part_of s; outputs = no_outputs })
