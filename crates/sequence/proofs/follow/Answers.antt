-- What is left to follow from the current state leads to where the whole does, and what is written so far leads to that
-- state.
use Rattle.queue.proofs.Laws.{length_mapped}
use Rattle.device.specs.declared.Numbers.{Numbers}
use Rattle.device.specs.State.{with_registers, with_baud, with_tx, with_latches}
use Rattle.fifos.specs.declared.thr.Queued.{Queued}
use Rattle.recorded.specs.declared.Way.{Way}
use Rattle.recorded.specs.Way.{IsWay}
use Rattle.device.specs.declared.State.{State}
use Rattle.recorder.specs.Record.{byte}
use Rattle.recorded.specs.Record.{step_of, expected}
use Rattle.recorded.proofs.Expected.{expected-byte}
use Rattle.recorded.proofs.Laws.{numbers_step, transmit_step}
use Rattle.sequence.specs.Sequence.{follows, good_at}
use Rattle.sequence.proofs.Laws.{good-within, good_there, not_good, is_followed, not_followed, stopped_differs, follow_begins, follow_turns, follow_ends}
use mathlib.Core.Path.{◌≡◌, sym, ap, subst, ◌∙◌}
use mathlib.Core.Logic.{⊎_elim}
use mathlib.Core.Bool.{true, false, not, ◌&&◌, true≢false}
use Prim.Native.Nat.{ℕ}
use lib.Dec.{eqb}
use lib.ListN.{get_or, set}
use native.Mathlib.Omega.{arith}
use borrow.Author.Tests.{not-true, not-false}
use borrow.Author.Rules.{rules}
use Rattle.sequence.proofs.follow.Goals.{in-Nothing, in-Numbers, in-Transmit, in-Read, in-Ticks, in-Other}
use Rattle.sequence.proofs.follow.Goals as goal

-- what the way of a record says, in its arm
way_is : (t : State) (w : ℕ) {found way : Way} → found ≡ way → IsWay t w found → IsWay t w way
way_is t w e = subst (IsWay t w) e

pub loop-expected-init : goal.loop-expected-init
loop-expected-init c = follow_begins _ _ _ _ (record { well = c.requires; places = record { bytes_long = search rules; entries_long = search (length_mapped, c.well_formed.0.1.1.1.1.1.1.1.1.0, rules) } })

pub bounds-records-i : goal.bounds-records-i
bounds-records-i c = good-within _ _ (sym c.good_at.ensures ∙ c.if-not-good_at.false)

pub expects-expected-requires : goal.expects-expected-requires
expects-expected-requires c = c.loop-expected.invariant.kept.well

pub of-requires : goal.of-requires
of-requires c = c.loop-expected.invariant.kept.well

pub numbers-n-requires : goal.numbers-n-requires
numbers-n-requires c = record { s_value = c.loop-expected.invariant.kept.well; w_value = way_is _ _ c.in-Numbers.is c.of.ensures }

pub transmit-n-requires : goal.transmit-n-requires
transmit-n-requires c = record { s_value = c.loop-expected.invariant.kept.well; w_value = way_is _ _ c.in-Transmit.is c.of.ensures }

pub after_read-t-requires : goal.after_read-t-requires
after_read-t-requires c = record { s_value = c.loop-expected.invariant.kept.well; w_value = way_is _ _ c.in-Read.is c.of.ensures }

pub ticks-t-requires : goal.ticks-t-requires
ticks-t-requires c = record { s_value = c.loop-expected.invariant.kept.well; w_value = way_is _ _ c.in-Ticks.is c.of.ensures }

pub other-t-requires : goal.other-t-requires
other-t-requires c = record { s_value = c.loop-expected.invariant.kept.well; fact = way_is _ _ c.in-Other.is c.of.ensures }

pub overflow_add-i : goal.overflow_add-i
overflow_add-i c = omega (arith, good-within _ _ (sym c.good_at.ensures ∙ c.if-not-good_at.false), c.well_formed.1.0.0)

pub loop-expected-smaller : goal.loop-expected-smaller
loop-expected-smaller c = omega (arith, good-within _ _ (sym c.good_at.ensures ∙ c.if-not-good_at.false))

pub loop-expected-preserved : goal.loop-expected-preserved
loop-expected-preserved c =
    let args = c.args in
    let records = args.records.now in
    let loop = c.loop-expected in
    let t = loop.t in
    let i = loop.i in
    let w = get_or records i 0 in
    let well = loop.invariant.kept.well in
    let expects = c.expects-expected.ensures in
    let good = good_there records i (sym c.good_at.ensures ∙ c.if-not-good_at.false) in
    let goes : follows args.compare t w ≡ true =
    is_followed args.compare t w expects.w_bound good (c.stops.ensures ∙ ap (λ (v : ℕ). args.compare && not (eqb v w)) expects.value) ∙ ap not c.if-stops.false in
    let put : c.put.new.words ≡ set loop.words i (expected t w) = c.put.ensures ∙ ap (set loop.words i) expects.value in
    let next : c.match-of.t ≡ (step_of t w).state =
    elim c.match-of.branch [
      | in-Nothing x ↦ x.t-is ∙ sym (way_is t w x.in-Nothing.is c.of.ensures)
      | in-Numbers x ↦ x.t-is ∙ ap (λ (n : Numbers). with_latches (with_baud (with_registers t n.registers) n.baud) n.latches) x.numbers-n.ensures ∙ sym (numbers_step t w well (way_is t w x.in-Numbers.is c.of.ensures))
      | in-Transmit x ↦ x.t-is ∙ ap (λ (n : Queued). with_latches (with_tx t n.tx) n.latches) x.transmit-n.ensures ∙ sym (transmit_step t w well (way_is t w x.in-Transmit.is c.of.ensures))
      | in-Read x ↦ x.t-is ∙ x.after_read-t.ensures
      | in-Ticks x ↦ x.t-is ∙ x.ticks-t.ensures
      | in-Other x ↦ x.t-is ∙ x.other-t.ensures
    ] in
    rw (next, put) (follow_turns loop.invariant (good-within _ _ (sym c.good_at.ensures ∙ c.if-not-good_at.false)) expects.w_bound good goes)

pub returns-then-not-good_at : goal.returns-then-not-good_at
returns-then-not-good_at c =
    let records = c.args.records.now in
    let loop = c.loop-expected in
    let bad : good_at records loop.i ≡ false = sym c.good_at.ensures ∙ c.if-not-good_at.true in
    record {
      words_after = follow_ends loop.invariant (λ h. not_followed _ _ _ (not_good records loop.i h bad));
      state_value = loop.invariant.kept.well;
      expected_value = λ g. absurd (true≢false (sym g ∙ bad));
      again = loop.invariant.again;
    }

pub returns-then-stops : goal.returns-then-stops
returns-then-stops c =
    let args = c.args in
    let records = args.records.now in
    let loop = c.loop-expected in
    let t = loop.t in
    let w = get_or records loop.i 0 in
    let expects = c.expects-expected.ensures in
    let found : good_at records loop.i ≡ true = sym c.good_at.ensures ∙ c.if-not-good_at.false in
    let good = good_there records loop.i found in
    let stays : follows args.compare t w ≡ false =
    is_followed args.compare t w expects.w_bound good (c.stops.ensures ∙ ap (λ (v : ℕ). args.compare && not (eqb v w)) expects.value) ∙ ap not c.if-stops.true in
    record {
      words_after = follow_ends loop.invariant (λ _. stays);
      state_value = loop.invariant.kept.well;
      expected_value = λ _. ap byte expects.value ∙ expected-byte t w expects.w_bound (stopped_differs args.compare t w good stays);
      again = loop.invariant.again;
    }
