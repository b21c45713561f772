-- The library's search finds the first b of the rest.
use Rattle.std.proofs.Common.{rules, tests, arith, ◌≡◌, ℕ, ◌-◌, ◌∙◌, eqb, take, drop, length, length-drop}
use Rattle.std.proofs.lemmas.Iterator.{YieldsList-from_slice}
use Rattle.std.proofs.lemmas.Iterator.Search.{position_from_yields_List}
use Rattle.text.specs.Text.{before}
use Rattle.text.proofs.Texts.{before_found}
use Rattle.text.proofs.Splitting.{before-most, rest_of}
use Rattle.text.proofs.words.find.Goals as goal

pub returns : goal.returns
returns c =
    let rest = take (length c.args.line.now - c.args.from) (drop c.args.from c.args.line.now) in
    let found = position_from_yields_List (λ (x : ℕ). eqb x c.args.b) _ _ c.position.result c.position.ensures.ran (YieldsList-from_slice rest (cc)) (λ x b q k. search (rules, tests)) in
    let value : c.unwrap_or.result ≡ before c.args.b (drop c.args.from c.args.line.now) = rw (rest_of c.args.line.now c.args.from) at (c.unwrap_or.ensures ∙ before_found c.args.b rest c.position.result found) in
    record { value = omega (arith, value); upper_bound = omega (arith, value, before-most c.args.b (drop c.args.from c.args.line.now), length-drop c.args.from c.args.line.now) }
