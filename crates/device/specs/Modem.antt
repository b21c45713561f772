-- The modem inputs: effective levels, loopback, change bits (SLLS191C, "modem status register (MSR)" and "modem control
-- register (MCR)", bit 4; SLLS597D, the same; document 01, "Loopback" and "MSR read").
use Rattle.std.specs.Prelude.{ℕ, Bool, cond, not, ◌&&◌, ◌||◌, [], ◌∷◌}
use Rattle.flag.specs.Flag.{bit, byte_of, differ}
use Rattle.device.specs.declared.Registers.{Registers}
use Rattle.device.specs.declared.Inputs.{Inputs}

-- loopback is MCR4 (LOOP)
abbrev pub loopback : Registers → Bool
loopback r = bit 4 r.mcr

-- the effective levels CTS, DSR, RI, DCD in bits 0..3: in loopback MCR1 (RTS), MCR0 (DTR), MCR2 (OUT1), MCR3 (OUT2),
-- else the pins
unfoldable pub effective_levels : Registers → Inputs → ℕ
effective_levels r i =
    cond (loopback r)
    (byte_of (bit 1 r.mcr ∷ bit 0 r.mcr ∷ bit 2 r.mcr ∷ bit 3 r.mcr ∷ []))
    i.modem

-- the change bits, MSR0 (DCTS), MSR1 (DDSR), MSR2 (TERI) and MSR3 (DDCD), where the effective levels go from a to b:
-- each change of CTS, DSR and DCD sets its bit, that of RI only when it goes from asserted to not (trailing edge)
unfoldable pub changes_after : ℕ → ℕ → ℕ → ℕ
changes_after changes a b =
    byte_of
    ((bit 0 changes || differ (bit 0 a) (bit 0 b))  -- DCTS
    ∷ (bit 1 changes || differ (bit 1 a) (bit 1 b))  -- DDSR
    ∷ (bit 2 changes || (bit 2 a && not (bit 2 b)))  -- TERI
    ∷ (bit 3 changes || differ (bit 3 a) (bit 3 b))  -- DDCD
    ∷ [])
