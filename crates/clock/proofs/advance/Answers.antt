-- With no divisor nothing changes; fewer ticks than k lower it; more are the pulses in them, and k after the last.
use Rattle.std.proofs.Common.{◌≡◌, ◌≤◌, ◌-◌, ◌%◌, sym, ◌∙◌, arith, rules}
use native.Mathlib.Nat.{mod-lt}
use Rattle.queue.proofs.Laws.{length_mapped}
use Rattle.device.specs.declared.State.{State}
use Rattle.invariant.proofs.Settled.{Kept}
use Rattle.clock.proofs.Ticked.{ticks_stopped, k_some, ticks-count, k_kept}
use Rattle.clock.proofs.Pulsed.{pulses_few, ticks_by_pulses}
use Rattle.clock.proofs.advance.Goals.{Start}
use Rattle.clock.proofs.advance.Goals as goal

start-kept : (c : Start) → Kept c.args.s
start-kept c =
    record { well = c.requires; places = record { bytes_long = search rules; entries_long = search (length_mapped, c.well_formed, rules) } }

-- a pulse is to come
some : (s : State) → (s.baud.divisor ≡ 0 → ⊥) → 1 ≤ s.baud.divisor
some s d = omega arith

pub returns-then-divisor-eq0 : goal.returns-then-divisor-eq0
returns-then-divisor-eq0 c =
    ticks_stopped c.args.n _ (start-kept (goal.at.returns-then-divisor-eq0 c).Start) c.if-divisor-eq0.true

pub returns-then-n-k : goal.returns-then-n-k
returns-then-n-k c =
    let s = c.args.s in
    c.with_k.ensures
    ∙ sym (ticks-count c.args.n s (start-kept (goal.at.returns-then-n-k c).Start) (some s c.if-divisor-eq0.false) c.if-n-k.true)

pub overflow_add-rest : goal.overflow_add-rest
overflow_add-rest c =
    let s = c.args.s in
    let k = k_some s (start-kept (goal.at.overflow_add-rest c).Start) (some s c.if-divisor-eq0.false) in
    omega (arith, pulses_few s.baud.k s.baud.divisor c.args.n k (omega arith))

pub pulses-requires : goal.pulses-requires
pulses-requires c =
    let s = c.args.s in
    let d = some s c.if-divisor-eq0.false in
    let rest = c.args.n - s.baud.k in
    let short = mod-lt rest d in
    (k_kept s (start-kept (goal.at.pulses-requires c).Start) (s.baud.divisor - rest % s.baud.divisor) (omega (arith, short)) (omega arith)).well

pub returns : goal.returns
returns c =
    let s = c.args.s in
    c.pulses.ensures
    ∙ sym (ticks_by_pulses s (start-kept (goal.at.returns c).Start) (some s c.if-divisor-eq0.false) c.args.n c.if-n-k.false)
