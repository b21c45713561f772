-- Each command that changes nothing has the answer that the definitions have.
use Rattle.query.proofs.Queries.{is_bad}
use Rattle.current.specs.Commands.{said_of}
use Rattle.query.proofs.put_answer.Goals as goal

pub returns-in-State : goal.returns-in-State
unfolding said_of
returns-in-State g c = rw c.in-State.is c.put_current.ensures

pub returns-in-Pins : goal.returns-in-Pins
unfolding said_of
returns-in-Pins g c = rw c.in-Pins.is c.put_pins.ensures

pub returns-in-Forecast : goal.returns-in-Forecast
unfolding said_of
returns-in-Forecast g c = rw c.in-Forecast.is c.put_forecast.ensures

pub returns-in-Level : goal.returns-in-Level
unfolding said_of
returns-in-Level g c = rw c.in-Level.is c.put_level.ensures

pub returns-in-Part : goal.returns-in-Part
unfolding said_of
returns-in-Part g c = rw c.in-Part.is c.put_part.ensures

pub returns-in-Divisor : goal.returns-in-Divisor
unfolding said_of
returns-in-Divisor g c = rw c.in-Divisor.is c.put_divisor.ensures

pub returns-in_default : goal.returns-in_default
unfolding said_of
returns-in_default g c =
    let d = c.in_default in
    rw (is_bad _ c.requires.c_value d.not-State d.not-Pins d.not-Forecast d.not-Level d.not-Part d.not-Divisor) c.put.ensures
