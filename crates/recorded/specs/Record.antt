-- A record's step (document 02 a): the call of document 01 that the record stands for, what it shows, and the state
-- after it.
use Rattle.std.specs.Prelude.{ℕ, Bool, cond, not, ◌&&◌, eqb}
use Rattle.recorder.specs.Record.{kind, by_kind, count, address, byte, sin, modem, is_read, with_byte}
use Rattle.device.specs.declared.Answer.{Answer}
use Rattle.device.specs.declared.State.{State}
use Rattle.device.specs.Calls.{reset_of, read_of, write_of, sin_of, modem_of, ticks_of}

-- what a step shows beside the state that it leaves: the byte read, 0 where nothing is read
pub record Shown : Type 0 where
  pub byte : ℕ

pub record Stepped : Type 0 where
  pub shown : Shown
  pub state : State

-- of a call's answer: the byte read, and the state
abbrev pub answered : Answer → Stepped
answered a = record { shown = record { byte = a.byte }; state = a.state }

-- nothing is shown
abbrev pub unseen : State → Stepped
unseen s = record { shown = record { byte = 0 }; state = s }

unfoldable pub step_of : State → ℕ → Stepped
step_of s w =
    by_kind (kind w)
    (unseen (ticks_of (count w) s))
    (answered (read_of s (address w)))
    (answered (write_of s (address w) (byte w)))
    (answered (sin_of s (sin w)))
    (answered (modem_of s (modem w)))
    (answered (reset_of s))
    (unseen s)

-- the byte that the model answers at a read
abbrev pub model_byte : State → ℕ → ℕ
model_byte s w = (step_of s w).shown.byte

-- a read whose byte differs from the model's
unfoldable pub differing : State → ℕ → Bool
differing s w = is_read w && not (eqb (byte w) (model_byte s w))

-- the record of an undisturbed chip (document 02 f): each as it stands, but a read with the model's byte in it
abbrev pub expected : State → ℕ → ℕ
expected s w = cond (is_read w) (with_byte w (model_byte s w)) w
