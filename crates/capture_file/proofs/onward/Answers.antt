-- Each case's place, n records on.
use Rattle.capture_file.specs.File.{later}
use Rattle.capture.specs.Replay.{values_of}
use Rattle.capture.specs.declared.Outcome.{Outcome}
use mathlib.Core.Path.{sym, ap, ◌∙◌}
use native.Mathlib.Omega.{arith}
use Rattle.capture_file.proofs.onward.Goals as goal

pub overflow_add-result : goal.overflow_add-result
overflow_add-result c =
    let e = ap (λ (o : Outcome). (values_of o).place) c.in-Differs.is in omega (arith, e, c.requires)

pub overflow_add-result-in-Refused : goal.overflow_add-result-in-Refused
overflow_add-result-in-Refused c =
    let e = ap (λ (o : Outcome). (values_of o).place) c.in-Refused.is in omega (arith, e, c.requires)

pub returns-in-Agreed : goal.returns-in-Agreed
returns-in-Agreed c =
    let e = c.in-Agreed.is in ap (λ (o : Outcome). record { state = c.args.r.state; outcome = o }) (e ∙ ap (later c.args.n) (sym e))

pub returns-in-Differs : goal.returns-in-Differs
returns-in-Differs c = ap (λ (o : Outcome). record { state = c.args.r.state; outcome = later c.args.n o }) (sym c.in-Differs.is)

pub returns-in-Refused : goal.returns-in-Refused
returns-in-Refused c = ap (λ (o : Outcome). record { state = c.args.r.state; outcome = later c.args.n o }) (sym c.in-Refused.is)
