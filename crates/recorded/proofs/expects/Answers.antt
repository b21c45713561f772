-- Only of a read another record is expected.
use Rattle.std.proofs.Common.{◌≡◌, ℕ, ◌<◌, sym, ap, subst, ◌∙◌, arith}
use Rattle.step.proofs.Laws.{readable}
use Rattle.recorded.specs.Record.{Shown, model_byte}
use Rattle.recorded.proofs.Laws.{kind-known, kind-unread, kind-none, read_shows, unread_shows}
use Rattle.recorder.specs.declared.record.Kind.{Kind}
use Rattle.recorder.specs.Record.{kind, with_byte}
use Rattle.device.specs.Calls.{read_register}
use borrow.Author.Tests.{eq-eqb, ne_eqb}
use Rattle.recorded.proofs.expects.Goals as goal

pub value-requires : goal.value-requires
value-requires c = readable _ c.requires

pub returns-in-Some-Read : goal.returns-in-Some-Read
returns-in-Some-Read c =
    let read = kind-known c.args.w c.of.ensures c.in-Some-Read.is c.in-Some-Read.field-0-is in
    let byte : c.value.result ≡ model_byte c.args.s c.args.w =
    c.value.ensures
    ∙ ap (λ (a : ℕ). (read_register c.args.s a).byte) c.address.ensures
    ∙ sym (ap (λ (r : Shown). r.byte) (read_shows c.args.s c.args.w c.requires read))
    in
    record { value = c.with_byte.ensures.0 ∙ ap (with_byte c.args.w) byte ∙ simp (eq-eqb _ _ read); w_bound = subst (λ (b : ℕ). b < 256) byte c.with_byte.ensures.1 }

pub returns-in_default : goal.returns-in_default
returns-in_default c =
    let other : c.in_default.field-0 ≡ Kind.Read → ⊥ = λ e. grind (arith, e) in
    let unread : kind c.args.w ≡ 1 → ⊥ = kind-unread c.args.w c.of.ensures c.in_default.is other in
    record { value = simp (ne_eqb _ _ unread); w_bound = omega (arith, ap (λ (r : Shown). r.byte) (unread_shows c.args.s c.args.w c.requires unread)) }

pub returns-in_default-2-clause-w_bound : goal.returns-in_default-2-clause-w_bound
returns-in_default-2-clause-w_bound c =
    let k = kind-none c.args.w c.of.ensures c.in_default.is in
    omega (arith, ap (λ (r : Shown). r.byte) (unread_shows c.args.s c.args.w c.requires (λ e. omega (arith, k, e))))
