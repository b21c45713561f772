-- Where a sample is taken, those heard stand above the data taken so far; their number fits the data and the parity.
use Rattle.std.proofs.Common.{ℕ, ◌+◌, sym, ap, ◌∙◌}
use Rattle.device.specs.Receiver.{at_position}
use Rattle.receiver.specs.Samples.{with_all, sampled_by}
use Rattle.receiver.proofs.Sampled.{sampled_still, All, all_is}
use Rattle.receiver.proofs.samples.sample_by.Goals as goal

pub returns-then-after-before : goal.returns-then-after-before
returns-then-after-before c =
    let a = c.args in
    let before = c.samples_taken-before.ensures in
    let after = c.samples_taken-after.ensures in
    sym (sampled_still a.low a.place a.m a.v c.requires.character (sym after ∙ c.if-after-before.true ∙ before))

pub overflow_add-v : goal.overflow_add-v
overflow_add-v c =
    let a = c.args in
    let whole : All a.low a.place a.m _ a.v = all_is _ _ _ _ _ _ _ c.requires c.samples_taken-before.ensures c.samples_taken-after.ensures c.if-after-before.false c.samples_heard-heard.ensures in
    record { fits = whole.fits }

pub with_all-requires : goal.with_all-requires
with_all-requires c =
    let a = c.args in
    let whole : All a.low a.place a.m _ a.v = all_is _ _ _ _ _ _ _ c.requires c.samples_taken-before.ensures c.samples_taken-after.ensures c.if-after-before.false c.samples_heard-heard.ensures in
    whole.less

pub returns : goal.returns
unfolding sampled_by
returns c =
    let a = c.args in
    let whole : All a.low a.place a.m _ a.v = all_is _ _ _ _ _ _ _ c.requires c.samples_taken-before.ensures c.samples_taken-after.ensures c.if-after-before.false c.samples_heard-heard.ensures in
    c.with_all.ensures ∙ ap (λ (x : ℕ). at_position (a.v.position + a.m) (with_all x a.v)) whole.same
