-- One digit is pushed.
use Rattle.std.proofs.Common.{rules, ◌∙◌, ap, arith}
use mathlib.Core.List.{◌++◌}
use Rattle.text.proofs.Decimals.{one_digit, one_long}
use Rattle.text.proofs.decimal.put_number.Goals as goal

pub push-requires : goal.push-requires
push-requires g c = (search rules, omega (arith, c.requires, one_long c.args.n c.if-n-lt10.true))

pub returns-then-n-lt10 : goal.returns-then-n-lt10
returns-then-n-lt10 g c = c.push.ensures.items ∙ ap (λ ds. c.args.out.now.items ++ ds) (one_digit c.args.n c.if-n-lt10.true)
