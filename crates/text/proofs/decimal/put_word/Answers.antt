-- One digit, two or three are appended with the byte that follows them.
use Rattle.std.proofs.Common.{rules, ◌∙◌, ap, arith}
use mathlib.Core.List.{◌++◌}
use Rattle.text.proofs.Decimals.{one_long, two_long, three_long, word_one, word_two, word_three}
use Rattle.text.proofs.decimal.put_word.Goals as goal

pub put-requires : goal.put-requires
put-requires g c = (search rules, omega (arith, c.requires, one_long c.args.n c.if-n-lt10.true))

pub put-requires-then-n-lt100 : goal.put-requires-then-n-lt100
put-requires-then-n-lt100 g c = (search rules, omega (arith, c.requires, two_long c.args.n c.if-n-lt10.false c.if-n-lt100.true))

pub returns-then-n-lt10 : goal.returns-then-n-lt10
returns-then-n-lt10 g c =
    c.put.ensures ∙ ap (λ ds. c.args.out.now.items ++ ds) (word_one c.args.n _ c.args.after c.if-n-lt10.true (omega arith))

pub returns-then-n-lt100 : goal.returns-then-n-lt100
returns-then-n-lt100 g c =
    c.put-then-n-lt100.ensures
    ∙ ap (λ ds. c.args.out.now.items ++ ds) (word_two c.args.n _ _ c.args.after c.if-n-lt10.false c.if-n-lt100.true (omega arith) (omega arith))

pub put-requires-then-n-lt1000 : goal.put-requires-then-n-lt1000
put-requires-then-n-lt1000 g c = (search rules, omega (arith, c.requires, three_long c.args.n c.if-n-lt100.false c.if-n-lt1000.true))

pub returns-then-n-lt1000 : goal.returns-then-n-lt1000
returns-then-n-lt1000 g c =
    c.put-then-n-lt1000.ensures
    ∙ ap (λ ds. c.args.out.now.items ++ ds) (word_three c.args.n _ _ _ c.args.after c.if-n-lt100.false c.if-n-lt1000.true (omega arith) (omega arith) (omega arith))
