-- The library's test of every number is the definition's.
use Rattle.std.proofs.Common.{rules, tests}
use mathlib.Core.Path.{◌∙◌}
use Rattle.std.proofs.lemmas.Iterator.{YieldsList-from_slice}
use Rattle.std.proofs.lemmas.Iterator.Search.{all_from_yields_List}
use Rattle.numbers.specs.Numbers.{is_byte}
use Rattle.fits.proofs.Places.{all_is}
use Rattle.fits.proofs.all_bytes.Goals as goal

pub returns : goal.returns
returns c =
    all_from_yields_List is_byte _ _ c.all.result c.all.ensures.ran (YieldsList-from_slice c.args.n.now (cc)) (λ x b q k. search (rules, tests))
    ∙ all_is c.args.n.now
