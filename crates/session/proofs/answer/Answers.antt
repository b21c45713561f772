-- Each command has the answer and the state that the definitions have.
use lib.Seq.{length-take-le}
use Rattle.session.proofs.Answering.{drop-take, no_change, unchanged}
use Rattle.command.specs.Command.{beside}
use Rattle.numbers.specs.Numbers.{state_count}
use mathlib.Core.List.{◌++◌}
use Rattle.current.specs.Commands.{next_of, kept_of, said_of}
use Prim.Native.Nat.{◌+◌, ◌≤◌}
use mathlib.Core.Path.{refl, sym, ap, ◌∙◌}
use lib.ListN.{length, take}
use native.Mathlib.Omega.{arith}
use borrow.Author.Rules.{rules}
use Rattle.session.proofs.answer.Goals as goal

pub slice_bounds-load-end : goal.slice_bounds-load-end
slice_bounds-load-end g c =
    let h : state_count ≤ length c.args.numbers.now = rw c.in-Load.is at c.requires.c_in_bounds in
    sym (length-take-le state_count c.args.numbers.now h)

pub load-requires : goal.load-requires
load-requires g c =
    let h : state_count ≤ length c.args.numbers.now = rw c.in-Load.is at c.requires.c_in_bounds in
    (search rules, (length-take-le state_count c.args.numbers.now h, omega (arith, c.requires.longest_answer_in_bounds)))

pub overflow_add-end : goal.overflow_add-end
overflow_add-end g c =
    let h : c.in-Replay.n + 1 ≤ length c.args.numbers.now = rw c.in-Replay.is at c.requires.c_in_bounds in
    omega (arith, h)

pub overflow_add-end-in-Expect : goal.overflow_add-end-in-Expect
overflow_add-end-in-Expect g c =
    let h : c.in-Expect.n + 2 ≤ length c.args.numbers.now = rw c.in-Expect.is at c.requires.c_in_bounds in
    omega (arith, h)

pub expected-requires : goal.expected-requires
expected-requires g c =
    (search rules, (rw c.in-Expect.is at c.requires.c_bound, c.requires.longest_answer_in_bounds))

pub put_answer-requires : goal.put_answer-requires
put_answer-requires g c =
    let d = c.in_default in
    (search rules, (no_change _ d.not-Step d.not-Fresh d.not-Load d.not-Run d.not-Jump d.not-JumpRun d.not-Replay d.not-Expect, c.requires.longest_answer_in_bounds))

pub returns-in-Step : goal.returns-in-Step
unfolding next_of kept_of said_of
returns-in-Step g c = rw c.in-Step.is record { value = c.stepped.ensures.value; kept_after = refl; appended = c.stepped.ensures.appended }

pub returns-in-Fresh : goal.returns-in-Fresh
unfolding next_of kept_of said_of
returns-in-Fresh g c = rw c.in-Fresh.is record { value = c.restart.ensures.value; kept_after = refl; appended = c.restart.ensures.appended }

pub returns-in-Load : goal.returns-in-Load
unfolding next_of kept_of said_of
returns-in-Load g c = rw c.in-Load.is record { value = c.load.ensures.value; kept_after = c.load.ensures.kept_after; appended = c.load.ensures.appended }

pub returns-in-Run : goal.returns-in-Run
unfolding next_of kept_of said_of
returns-in-Run g c = rw c.in-Run.is record { value = c.ran.ensures.value; kept_after = refl; appended = c.ran.ensures.appended }

pub returns-in-Jump : goal.returns-in-Jump
unfolding next_of kept_of said_of
returns-in-Jump g c = rw c.in-Jump.is record { value = c.jumped.ensures.value; kept_after = refl; appended = c.jumped.ensures.appended }

pub returns-in-JumpRun : goal.returns-in-JumpRun
unfolding next_of kept_of said_of
returns-in-JumpRun g c = rw c.in-JumpRun.is record { value = c.jump_ran.ensures.value; kept_after = refl; appended = c.jump_ran.ensures.appended }

pub returns-in-Replay : goal.returns-in-Replay
unfolding next_of kept_of said_of
returns-in-Replay g c =
    let p = drop-take 1 (c.in-Replay.n + 1) c.args.numbers.now in
    rw c.in-Replay.is record { value = rw p at c.replayed.ensures.value; kept_after = refl; appended = rw p at c.replayed.ensures.appended }

pub returns-in-Expect : goal.returns-in-Expect
unfolding next_of kept_of said_of
returns-in-Expect g c =
    let p = drop-take 2 (c.in-Expect.n + 2) c.args.numbers.now in
    rw c.in-Expect.is record { value = rw p at c.expected.ensures.value; kept_after = refl; appended = rw p at c.expected.ensures.appended }

pub returns-in_default : goal.returns-in_default
returns-in_default g c =
    let a = c.args in
    let d = c.in_default in
    let same = unchanged a.s a.kept.now (take (beside a.c) a.numbers.now) a.c (no_change _ d.not-Step d.not-Fresh d.not-Load d.not-Run d.not-Jump d.not-JumpRun d.not-Replay d.not-Expect) in
    record { value = same.0; kept_after = same.1; appended = c.put_answer.ensures ∙ ap (λ s. a.out.now.items ++ s) same.2 }
