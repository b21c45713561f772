-- A word that is one of these has its row; any other has none, or one that asks for a number.
use Rattle.text.specs.Text.{text, same}
use Rattle.command.specs.Command.{table, look_up}
use Rattle.command.proofs.Commands.{found, no_bare}
use mathlib.Core.Path.{refl, sym, ◌∙◌}
use mathlib.Core.List.{[]}
use Rattle.command.proofs.bare.Goals as goal

pub returns-then-same : goal.returns-then-same
unfolding look_up table same
returns-then-same c = record { value = found c.args.word.now (text "tick") [] (sym c.same.ensures ∙ c.if-same.true); result_value = refl }

pub returns-then-same-2 : goal.returns-then-same-2
unfolding look_up table same
returns-then-same-2 c = record { value = found c.args.word.now (text "pins") [] (sym c.same-2.ensures ∙ c.if-same-2.true); result_value = refl }

pub returns-then-same-3 : goal.returns-then-same-3
unfolding look_up table same
returns-then-same-3 c = record { value = found c.args.word.now (text "state") [] (sym c.same-3.ensures ∙ c.if-same-3.true); result_value = refl }

pub returns-then-same-4 : goal.returns-then-same-4
unfolding look_up table same
returns-then-same-4 c = record { value = found c.args.word.now (text "fresh") [] (sym c.same-4.ensures ∙ c.if-same-4.true); result_value = refl }

pub returns-then-same-5 : goal.returns-then-same-5
unfolding look_up table same
returns-then-same-5 c = record { value = found c.args.word.now (text "reset") [] (sym c.same-5.ensures ∙ c.if-same-5.true); result_value = refl }

pub returns-then-same-6 : goal.returns-then-same-6
unfolding look_up table same
returns-then-same-6 c = record { value = found c.args.word.now (text "forecast") [] (sym c.same-6.ensures ∙ c.if-same-6.true); result_value = refl }

pub returns-then-same-7 : goal.returns-then-same-7
unfolding look_up table same
returns-then-same-7 c = record { value = found c.args.word.now (text "part") [] (sym c.same-7.ensures ∙ c.if-same-7.true); result_value = refl }

pub returns : goal.returns
returns c =
    record {
      value = no_bare _
          (sym c.same.ensures ∙ c.if-same.false)
          (sym c.same-2.ensures ∙ c.if-same-2.false)
          (sym c.same-3.ensures ∙ c.if-same-3.false)
          (sym c.same-4.ensures ∙ c.if-same-4.false)
          (sym c.same-5.ensures ∙ c.if-same-5.false)
          (sym c.same-6.ensures ∙ c.if-same-6.false)
          (sym c.same-7.ensures ∙ c.if-same-7.false);
      result_value = refl;
    }
