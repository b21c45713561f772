-- A block after the other; a file of too many records is refused.
use Rattle.client.proofs.Parts.{hands_on, more_told}
use mathlib.Core.Path.{sym, ap, ◌∙◌}
use borrow.Author.Tests.{ltb-false}
use mathlib.Core.List.{[]}
use native.Mathlib.Omega.{arith}
use Rattle.capture_file.specs.declared.Progress as parts
use Rattle.client.specs.declared.file.Progress.{Progress}
use Rattle.client.proofs.file.more.Goals as goal

pub returns : goal.returns
returns c =
    let place = ap (λ (x : parts.Progress). x.place) c.from-begun.ensures in
    let done = ap (λ (x : Progress). x.done) c.from-2.ensures in
    let blocks = c.replay_blocks-so_far.ensures in
    let p = c.args.p in
    let begun = c.from-begun in
    let q = c.replay_blocks-so_far.result in
    record {
      rest_value = λ h rest. hands_on p c.from-2.result begun.result q _ _ c.from-2.ensures begun.ensures (blocks.by_index rest);
      value = λ h. absurd (omega (arith, h, ltb-false _ _ (sym c.beyond.ensures ∙ c.if-beyond.false)));
      done_bound = omega (arith, done, place, blocks.place_bound);
      told_so_far = λ t. more_told p c.from-2.result begun.result q _ _ c.from-2.ensures begun.ensures (blocks.by_index []) t;
    }
