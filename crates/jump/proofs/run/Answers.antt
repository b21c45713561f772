-- What run answers, and the jumps of the ticks that it uses.
use Rattle.jump.proofs.Jumps.{run_by_jumps, run_some, run_most}
use Rattle.device.specs.declared.Ran.{Ran}
use Rattle.jump.specs.Count.{jump_count}
use Rattle.invariant.proofs.Good.{Places}
use Rattle.queue.proofs.Laws.{length_mapped}
use mathlib.Core.Path.{ap, ◌∙◌}
use borrow.Author.Rules.{rules}
use Rattle.jump.proofs.run.Goals as goal

pub count-requires : goal.count-requires
count-requires c =
    let places : Places c.args.s = record { bytes_long = search rules; entries_long = search (length_mapped, c.well_formed, rules) } in
    λ some d. run_some c.args.s places c.args.n (rw (← c.run-r.ensures.outcome) some) d

pub returns : goal.returns
returns c =
    let places : Places c.args.s = record { bytes_long = search rules; entries_long = search (length_mapped, c.well_formed, rules) } in
    let s = c.args.s in
    let ran = c.run-r.ensures.outcome in
    let counted = c.count.ensures ∙ ap (λ (r : Ran). jump_count s.baud.divisor s.baud.k r.used) ran in
    record { outcome = rw (ran, counted) (run_by_jumps s places c.args.n); as_run = ran; at_most = λ d. rw counted (run_most s c.args.n d) }
