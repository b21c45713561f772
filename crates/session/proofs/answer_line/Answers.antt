-- The command is that of the line, and so are the numbers beside it.
use Rattle.session.proofs.Answering.{line_next_lem, line_said_lem}
use Prim.Native.Nat.{◌≤◌}
use mathlib.Core.Path.{sym, subst, ap, ◌∙◌}
use mathlib.Core.List.{◌++◌}
use Rattle.command.specs.declared.Command.{Command}
use Rattle.command.specs.Command.{most_room, room_of}
use Rattle.command.proofs.Room.{room_most}
use borrow.Author.Rules.{rules}
use Rattle.session.proofs.answer_line.Goals as goal

pub answer-requires : goal.answer-requires
answer-requires g c =
    let room = subst (λ (x : Command). room_of x ≤ most_room) (sym c.command_of-c.ensures.value) (room_most _) in
    (search rules, (search rules, (room, c.requires.longest_answer_in_bounds)))

pub returns : goal.returns
returns g c =
    let line = c.command_of-c.ensures in
    record { kept_after = line_next_lem _ _ _ _ _ line.value line.to_after _ _ c.answer.ensures.value c.answer.ensures.kept_after; appended = c.answer.ensures.appended ∙ ap (λ s. c.args.out.now.items ++ s) (line_said_lem _ _ _ _ _ line.value line.to_after) }
