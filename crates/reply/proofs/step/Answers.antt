-- Each way has the call that the definition has.
use Rattle.reply.specs.Reply.{step_of}
use mathlib.Core.Path.{sym, ap, ◌∙◌}
use Rattle.reply.proofs.step.Goals as goal

pub returns-in-Reset : goal.returns-in-Reset
unfolding step_of
returns-in-Reset c = c.reset.ensures ∙ ap (step_of c.args.s) (sym c.in-Reset.is)

pub returns-in-Read : goal.returns-in-Read
unfolding step_of
returns-in-Read c = c.read.ensures ∙ ap (step_of c.args.s) (sym c.in-Read.is)

pub returns-in-Write : goal.returns-in-Write
unfolding step_of
returns-in-Write c = c.write.ensures ∙ ap (step_of c.args.s) (sym c.in-Write.is)

pub returns-in-Sin : goal.returns-in-Sin
unfolding step_of
returns-in-Sin c = c.set_sin.ensures ∙ ap (step_of c.args.s) (sym c.in-Sin.is)

pub returns-in-Modem : goal.returns-in-Modem
unfolding step_of
returns-in-Modem c = c.set_modem.ensures ∙ ap (step_of c.args.s) (sym c.in-Modem.is)

pub returns-in-Tick : goal.returns-in-Tick
unfolding step_of
returns-in-Tick c = c.tick.ensures ∙ ap (step_of c.args.s) (sym c.in-Tick.is)

pub returns-in-Ticks : goal.returns-in-Ticks
unfolding step_of
returns-in-Ticks c = c.ticks.ensures ∙ ap (step_of c.args.s) (sym c.in-Ticks.is)
