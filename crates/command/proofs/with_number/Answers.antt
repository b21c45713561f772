-- A word that is one of these has its row, which takes the number if it is in range; any other has none, or one that asks for more numbers or for none.
use Rattle.text.specs.Text.{text}
use Rattle.command.proofs.Commands.{found, ticks-none, ticks_some, level_some, run_some, jump_some, jumprun_some, read_some, sin_some, modem_some, no_large, no_one}
use mathlib.Core.Path.{refl, sym, ◌∙◌}
use mathlib.Core.List.{[], ◌∷◌}
use native.Mathlib.Omega.{arith}
use Rattle.command.proofs.with_number.Goals as goal

pub returns-then-n-eq0 : goal.returns-then-n-eq0
returns-then-n-eq0 c = record { by_index = λ a e. sym (ticks-none a _ e (omega arith)) ∙ found c.args.word.now (text "ticks") (a ∷ []) (sym c.same.ensures ∙ c.if-same.true); result_value = refl }

pub returns-then-same : goal.returns-then-same
returns-then-same c = record { by_index = λ a e. sym (ticks_some a _ e (omega arith) (omega arith)) ∙ found c.args.word.now (text "ticks") (a ∷ []) (sym c.same.ensures ∙ c.if-same.true); result_value = refl }

pub returns-then-same-2 : goal.returns-then-same-2
returns-then-same-2 c = record { by_index = λ a e. sym (level_some a _ e (omega arith) (omega arith)) ∙ found c.args.word.now (text "level") (a ∷ []) (sym c.same-2.ensures ∙ c.if-same-2.true); result_value = refl }

pub returns-then-same-3 : goal.returns-then-same-3
returns-then-same-3 c = record { by_index = λ a e. sym (run_some a _ e (omega arith) (omega arith)) ∙ found c.args.word.now (text "run") (a ∷ []) (sym c.same-3.ensures ∙ c.if-same-3.true); result_value = refl }

pub returns-then-same-4 : goal.returns-then-same-4
returns-then-same-4 c = record { by_index = λ a e. sym (jump_some a _ e (omega arith) (omega arith)) ∙ found c.args.word.now (text "jump") (a ∷ []) (sym c.same-4.ensures ∙ c.if-same-4.true); result_value = refl }

pub returns-then-same-5 : goal.returns-then-same-5
returns-then-same-5 c = record { by_index = λ a e. sym (jumprun_some a _ e (omega arith) (omega arith)) ∙ found c.args.word.now (text "jumprun") (a ∷ []) (sym c.same-5.ensures ∙ c.if-same-5.true); result_value = refl }

pub returns-then-n-gt255 : goal.returns-then-n-gt255
returns-then-n-gt255 c = record { by_index = λ a e. no_large _ a _ e c.if-n-gt255.true (sym c.same.ensures ∙ c.if-same.false) (sym c.same-2.ensures ∙ c.if-same-2.false) (sym c.same-3.ensures ∙ c.if-same-3.false) (sym c.same-4.ensures ∙ c.if-same-4.false) (sym c.same-5.ensures ∙ c.if-same-5.false) c.requires; result_value = refl }

pub returns-then-same-6 : goal.returns-then-same-6
returns-then-same-6 c = record { by_index = λ a e. sym (read_some a _ e (omega arith) (omega arith)) ∙ found c.args.word.now (text "read") (a ∷ []) (sym c.same-6.ensures ∙ c.if-same-6.true); result_value = refl }

pub returns-then-same-7 : goal.returns-then-same-7
returns-then-same-7 c = record { by_index = λ a e. sym (sin_some a _ e (omega arith) (omega arith)) ∙ found c.args.word.now (text "sin") (a ∷ []) (sym c.same-7.ensures ∙ c.if-same-7.true); result_value = refl }

pub returns-then-same-8 : goal.returns-then-same-8
returns-then-same-8 c = record { by_index = λ a e. sym (modem_some a _ e (omega arith) (omega arith)) ∙ found c.args.word.now (text "modem") (a ∷ []) (sym c.same-8.ensures ∙ c.if-same-8.true); result_value = refl }

pub returns : goal.returns
returns c = record { by_index = λ a e. no_one _ a _ e (sym c.same.ensures ∙ c.if-same.false) (sym c.same-2.ensures ∙ c.if-same-2.false) (sym c.same-3.ensures ∙ c.if-same-3.false) (sym c.same-4.ensures ∙ c.if-same-4.false) (sym c.same-5.ensures ∙ c.if-same-5.false) (sym c.same-6.ensures ∙ c.if-same-6.false) (sym c.same-7.ensures ∙ c.if-same-7.false) (sym c.same-8.ensures ∙ c.if-same-8.false) c.requires; result_value = refl }
