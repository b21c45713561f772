-- The current state, and its numbers.
use Rattle.std.specs.Prelude.{ℕ, ◌+◌, ◌*◌, Bool, true, false, cond, ◌&&◌, List, [], ◌∷◌, eqb}
use Rattle.device.specs.declared.Receiver.{Receiver}
use Rattle.device.specs.declared.State.{State}
use Rattle.device.specs.State.{with_registers, with_ier, with_inputs, with_frame, with_receiver, with_latches, with_overrun}
use Rattle.device.specs.Ranges.{parts, first_failing}
use Rattle.command.specs.Command.{most_room}
use Rattle.current.specs.declared.Session.{Session}
use Rattle.numbers.specs.Numbers.{numbers_of, fitting, fits, unfit_part, state_of}

abbrev pub held : State → Session
held s = record { state = s; fits = true }

-- the receiver in a state that it does not have
abbrev pub out_of_phase : Receiver → Receiver
out_of_phase v =
    record {
      phase = 255;
      format = v.format;
      samples = v.samples;
      parity = v.parity;
      position = v.position;
    }

-- the state with a range broken in a part
unfoldable pub broken : ℕ → State → State
broken p s =
    cond (eqb p 1)
    (with_registers s (with_ier s.registers 255))
    (cond (eqb p 2)
    (with_inputs s (record { modem = s.inputs.modem; sin = 255 }))
    (cond (eqb p 3)
    (with_frame s (record { left = s.frame.left; byte = s.frame.byte; format = 255 }))
    (cond (eqb p 4)
    (with_receiver s (out_of_phase s.receiver))
    (with_latches s (with_overrun s.latches 255)))))

-- after `load` of these numbers. Where some do not fit, the state is the one that they make when each is cut to its
-- type, with a range broken in the lowest part of which one does not fit: every call refuses it
unfoldable pub loaded_of : List ℕ → Session
loaded_of ns =
    cond (fits ns) (held (state_of ns)) (record { state = broken (unfit_part ns) (state_of ns); fits = false })

-- of two lists of tests in the same order, whether both tests at each place hold
abbrev pub both_of : List Bool → List Bool → List Bool
both_of [] us = []
both_of (t ∷ ts) [] = []
both_of (t ∷ ts) (u ∷ us) = (t && u) ∷ both_of ts us

-- the part of these numbers that is bad: one that its place's type can't hold breaks that place's range, and a lower
-- part that is broken too still stands
unfoldable pub loaded_part : List ℕ → ℕ
loaded_part ns = first_failing 1 (both_of (fitting ns) (parts (state_of ns)))

-- the numbers of the current state, of which kept were loaded last
unfoldable pub current_numbers : Session → List ℕ → List ℕ
current_numbers s kept = cond s.fits (numbers_of s.state) kept

-- with another state of the model
abbrev pub moved : Session → State → Session
moved s t = record { state = t; fits = s.fits }

-- the longest answer, `expect`'s: ten digits and the byte after them for the number, the count and each word
abbrev pub longest_answer : ℕ
longest_answer = 11 * (most_room + 2)
