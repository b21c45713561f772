-- A tick of the clock, XIN, which the baud generator divides by D; a pulse is one of its 16x clock, which RCLK is too
-- (SLLS191C, "programmable baud generator"; document 01, "A tick").
use Rattle.std.specs.Prelude.{◌-◌, cond, eqb}
use Rattle.device.specs.declared.State.{State}
use Rattle.device.specs.State.{with_k}
use Rattle.device.specs.Transmitter.{transmitted}
use Rattle.device.specs.Receiver.{enters, received}
use Rattle.device.specs.Idle.{idled}

-- one pulse: transmitter, receiver, idle count, in this order
unfoldable pub pulsed : State → State
pulsed s =
    let t = transmitted s in
    idled (enters t) (received t)

-- if D = 0 nothing changes; else k falls by 1, and at 0 it becomes D and one pulse happens
unfoldable pub ticked : State → State
ticked s =
    cond (eqb s.baud.divisor 0)
    s
    (cond (eqb (s.baud.k - 1) 0) (pulsed (with_k s s.baud.divisor)) (with_k s (s.baud.k - 1)))
