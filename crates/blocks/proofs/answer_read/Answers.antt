-- The lines are made, and what is held of the rest leads on.
use Rattle.lines.specs.Lines.{reading, read_after}
use Rattle.lines.proofs.Held.{led_on}
use mathlib.Core.Path.{sym, ap, ◌∙◌}
use mathlib.Core.List.{[]}
use Rattle.blocks.proofs.answer_read.Goals as goal

pub returns-clause-led : goal.returns-clause-led
returns-clause-led g c = λ w₀ input line came e led.
    led_on w₀ _ _ input line came _ led (ap (read_after _ []) (sym e) ∙ c.in_ok-p.ensures.block_value) ∙ ap (reading _) (sym c.hold-used.ensures.block_after)
