-- The numbers of the state, or those loaded last.
use Rattle.text.proofs.Decimals.{line_room}
use Rattle.numbers.specs.Numbers.{state_count}
use Rattle.current.specs.Current.{current_numbers}
use mathlib.Core.Path.{◌≡◌}
use lib.ListN.{length}
use native.Mathlib.Omega.{arith}
use borrow.Author.Rules.{rules}
use Rattle.current.proofs.put_current.Goals as goal

pub put_line-requires : goal.put_line-requires
put_line-requires g c =
    let long : length c.put_state.new.out ≡ state_count = search rules in
    (search rules, omega (arith, line_room c.put_state.new.out, c.requires.longest_answer_in_bounds))

pub put_line-requires-else-s : goal.put_line-requires-else-s
put_line-requires-else-s g c =
    let long : length c.args.kept.now ≡ state_count = search rules in
    (search rules, omega (arith, line_room c.args.kept.now, c.requires.longest_answer_in_bounds))

pub returns-then-s : goal.returns-then-s
unfolding current_numbers
returns-then-s g c = simp c.if-s.true (rw c.put_state.ensures at c.put_line.ensures)

pub returns-else-s : goal.returns-else-s
unfolding current_numbers
returns-else-s g c = simp c.if-s.false c.put_line-else-s.ensures
