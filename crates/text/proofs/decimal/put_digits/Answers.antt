-- The digits are those that the library writes.
use Rattle.std.proofs.Common.{rules, ◌∙◌, ap, length, arith}
use mathlib.Core.List.{◌++◌}
use Rattle.text.proofs.Decimals.{long_decimal_is}
use Rattle.text.proofs.decimal.put_digits.Goals as goal

pub put-requires : goal.put-requires
put-requires g c =
    let digits = c.as_bytes.ensures.value ∙ c.format.ensures.text ∙ long_decimal_is c.args.n c.ranges.n.fits in
    (search rules, omega (arith, ap length digits, c.requires))

pub returns : goal.returns
returns g c =
    let digits = c.as_bytes.ensures.value ∙ c.format.ensures.text ∙ long_decimal_is c.args.n c.ranges.n.fits in
    c.put.ensures ∙ ap (λ ds. c.args.out.now.items ++ ds) digits
