-- SCR, scratch register (SLLS191C, "scratch register"; document 01, "LCR, SCR as written").
use Rattle.std.specs.Prelude.{ℕ}
use Rattle.device.specs.declared.State.{State}
use Rattle.device.specs.State.{with_registers, with_scr}

-- as written
unfoldable pub scr_write : State → ℕ → State
scr_write s b = with_registers s (with_scr s.registers b)
