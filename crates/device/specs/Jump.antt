-- Ticks by jumps from pulse to pulse, and run over them (document 02 g). Each jump is some single ticks.
use Rattle.std.specs.Prelude.{ℕ, zero, suc, ◌+◌, ◌-◌, Bool, false, cond, ◌||◌, ltb, eqb}
use Rattle.device.specs.declared.State.{State}
use Rattle.device.specs.declared.Jumped.{Jumped}
use Rattle.device.specs.declared.JumpRan.{JumpRan}
use Rattle.device.specs.Lsr.{temt}
use Rattle.device.specs.Ranges.{well_formed, part_of}
use Rattle.device.specs.Calls.{ticks_of}

-- the ticks of a jump, with n to go: it ends at the next pulse, k ticks on, or at n when these fall short of it; with
-- D = 0 no pulse comes
unfoldable pub jump_length : State → ℕ → ℕ
jump_length s n = cond (eqb s.baud.divisor 0 || ltb n s.baud.k) n s.baud.k

-- no jump
abbrev pub no_jump : State → JumpRan
no_jump s = record { number = 0; part = 0; used = 0; jumps = 0; state = s }

-- a jump of m ticks, and then those of r
abbrev pub jump_then : ℕ → JumpRan → JumpRan
jump_then m r = record { number = 0; part = 0; used = m + r.used; jumps = 1 + r.jumps; state = r.state }

-- Jump after jump until n ticks are used, or until a state stops them, which is looked at before each. The first number
-- bounds them: in a well-formed state a jump has a tick or more, so that n ticks have at most n jumps
unfoldable pub jumps_until : (State → Bool) → ℕ → State → ℕ → JumpRan
jumps_until stops zero s n = no_jump s
jumps_until stops (suc most) s n =
    cond (eqb n 0 || stops s)
    (no_jump s)
    (jump_then (jump_length s n) (jumps_until stops most (ticks_of (jump_length s n) s) (n - jump_length s n)))

-- the jumps of n ticks
abbrev pub jumps_of : State → ℕ → ℕ
jumps_of s n = (jumps_until (λ _. false) n s n).jumps

-- n ticks by jumps: the state is that of n single ticks
unfoldable pub jump_of : State → ℕ → Jumped
jump_of s n =
    cond (well_formed s)
    (record { number = 0; part = 0; jumps = jumps_of s n; state = ticks_of n s })
    (record { number = 1; part = part_of s; jumps = 0; state = s })

-- run by jumps: before each it is looked whether LSR6 (TEMT) is 1
unfoldable pub jump_run_of : State → ℕ → JumpRan
jump_run_of s n =
    cond (well_formed s)
    (jumps_until temt n s n)
    (record { number = 1; part = part_of s; used = 0; jumps = 0; state = s })
