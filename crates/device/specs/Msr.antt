-- MSR, modem status register (SLLS191C, "modem status register (MSR)"; document 01, "MSR read").
use Rattle.std.specs.Prelude.{◌+◌, ◌*◌}
use Rattle.device.specs.declared.Reading.{Reading}
use Rattle.device.specs.declared.State.{State}
use Rattle.device.specs.State.{with_latches, with_changes}
use Rattle.device.specs.Modem.{effective_levels, changes_after}

-- the state t that follows s, with the changes of the effective levels between the two
unfoldable pub with_levels : State → State → State
with_levels s t =
    with_latches t
    (with_changes t.latches
    (changes_after t.latches.changes
    (effective_levels s.registers s.inputs)
    (effective_levels t.registers t.inputs)))

-- bits 4..7 the effective levels CTS, DSR, RI, DCD; 0..3 their changes (DCTS, DDSR, TERI, DDCD), then cleared
unfoldable pub msr_read : State → Reading
msr_read s =
    record {
      byte = s.latches.changes + 16 * effective_levels s.registers s.inputs;
      state = with_latches s (with_changes s.latches 0);
    }
