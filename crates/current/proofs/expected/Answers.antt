-- The writer's answer and words, put as one line.
use Rattle.std.proofs.Common.{rules}
use Prim.Native.Nat.{◌≤◌}
use mathlib.Core.Path.{ap, ◌∙◌}
use mathlib.Core.List.{◌++◌}
use Rattle.text.specs.Decimal.{line_of}
use Rattle.command.specs.Command.{most_room}
use Rattle.expected.specs.Expected.{Written, expect_of}
use Rattle.current.specs.Current.{moved}
use Rattle.current.specs.Commands.{written_numbers}
use Rattle.current.proofs.Words.{words_lent, words_fit, words_count, words_said, words-room}
use Rattle.current.proofs.expected.Goals as goal

pub slice_bounds-said-end-2 : goal.slice_bounds-said-end-2
slice_bounds-said-end-2 g c = words_fit _ _ c.requires.room_le_most_room c.expect-w.new.words c.expect-w.auto.words

pub slice_bounds-put_line-end : goal.slice_bounds-put_line-end
slice_bounds-put_line-end g c = words_count _ _ c.requires.room_le_most_room c.expect-w.new.words c.expect-w.auto.words _ _

pub put_line-requires : goal.put_line-requires
put_line-requires g c = (search rules, words-room _ _ c.requires.room_le_most_room c.expect-w.new.words c.expect-w.auto.words _ _ _ _ c.requires.longest_answer_in_bounds)

pub returns : goal.returns
returns g c =
    let args = c.args in
    let room : args.room ≤ most_room = c.requires.room_le_most_room in
    let e = c.expect-w.ensures.outcome ∙ ap (expect_of args.version args.s.state args.records.now) (words_lent _ _ room) in
    record { value = c.moved_to.ensures ∙ ap (λ (w : Written). moved args.s w.answer.state) e; appended = c.put_line.ensures ∙ ap (λ s. args.out.now.items ++ s) (ap line_of (words_said _ _ room c.expect-w.new.words c.expect-w.auto.words _ _ ∙ ap written_numbers e)) }
