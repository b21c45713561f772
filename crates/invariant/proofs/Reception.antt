-- What a pulse makes of the receiver keeps its ranges.
use Prim.Native.Nat.{ℕ, suc, ◌+◌, ◌%◌, min, ◌≤◌, ◌<◌}
use mathlib.Core.Path.{◌≡◌, refl}
use mathlib.Core.Bool.{true, false, cond, not, ◌&&◌}
use lib.Dec.{ltb, eqb}
use native.Mathlib.Nat.{one-le-pow}
use native.Mathlib.Omega.{arith}
use borrow.Author.Tests.{le-leb, eqb-true, eqb-false, ltb-true, ltb-false}
use Rattle.std.specs.Prelude.{IfSome}
use Rattle.flag.proofs.Laws.{by_test, and_both}
use Rattle.frame.specs.Format.{format_of, data_bits, parity_bits, parity_bit}
use Rattle.queue.specs.Queue.{entry_within}
use Rattle.device.specs.declared.Receiver.{Receiver}
use Rattle.device.specs.declared.Received.{Received}
use Rattle.device.specs.State.{idle_receiver}
use Rattle.device.specs.Receiver.{stop_position, samples_taken}
use Rattle.device.specs.Receiver.{goes_on, start_at, waiting, is_break, entry_of, stop_sample, at_position, sampled, in_character, receiver_pulse}
use Rattle.invariant.proofs.Tests.{bit-most}
use Rattle.invariant.proofs.Good.{CharacterFacts, OutsideFacts, ReceiverFacts}
use Rattle.invariant.proofs.Sampling.{none_taken, none_at_start, one_taken, character-on, character_data, character-parity}

-- what is to hold of a pulse's outcome: the receiver's ranges, and the flags of the entry, where there is one
pub record ReceivedFacts (r : Received) : Type 0 where
  pub receiver : ReceiverFacts r.receiver
  pub flags : IfSome r.entry (λ e. entry_within 1 e ≡ true)

goes_on_lem : (v : Receiver) → ReceiverFacts v → ReceivedFacts (goes_on v)
goes_on_lem v g = record { receiver = g; flags = tt }

outside_facts : (v : Receiver) → v.phase ≤ 1 → OutsideFacts v → ReceiverFacts v
outside_facts v h g = record { phase_most = omega arith; character = λ e. absurd (omega arith); outside = λ _. g }

character_facts : (v : Receiver) → v.phase ≡ 2 → CharacterFacts v → ReceiverFacts v
character_facts v h g = record { phase_most = omega arith; character = λ _. g; outside = λ e. absurd (e h) }

pub idle_facts : ReceiverFacts idle_receiver
idle_facts = outside_facts idle_receiver (omega arith) (omega arith)

waiting_facts : ReceiverFacts waiting
waiting_facts = outside_facts waiting (omega arith) (omega arith)

-- a character begins at position 0, or at 8 with a low stop sample
start_facts : (p lcr : ℕ) → p ≤ 8 → ReceiverFacts (start_at p lcr)
start_facts p lcr h =
    character_facts (start_at p lcr) refl
    (record {
      format_most = omega arith;
      position_less = omega arith;
      samples_less = one-le-pow (min (data_bits (format_of lcr)) (samples_taken p)) 2 (omega arith);
      parity-most = omega arith;
    })

-- the stop sample
stop_facts : (h lcr : ℕ) (v : Receiver) → ReceivedFacts (stop_sample h lcr v)
unfolding stop_sample entry_of
stop_facts h lcr v =
    record {
      receiver =
          by_test ReceiverFacts (is_break v h) _ _ (λ _. waiting_facts)
          (λ _. by_test ReceiverFacts (eqb h 0) _ _ (λ _. start_facts 8 lcr (omega arith)) (λ _. idle_facts));
      flags =
          and_both _ _ (le-leb _ 1 (bit-most (eqb (parity_bits v.format) 1 && not (eqb v.parity (parity_bit v.samples v.format)))))
          (and_both _ _ (le-leb _ 1 (bit-most (eqb h 0))) (le-leb _ 1 (bit-most (is_break v h))));
    }

-- The next position p of a character, of which n samples are taken.
module _ (h lcr : ℕ) (v : Receiver) (most : h ≤ 1) (two : v.phase ≡ 2) (c : CharacterFacts v) where
  p : ℕ
  p = v.position + 1

  n : ℕ
  n = samples_taken v.position

  less : (p ≡ stop_position v.format → ⊥) → p < stop_position v.format
  unfolding p
  less h = let l = c.position_less in omega arith

  -- no sample falls there
  on_facts : (p ≡ stop_position v.format → ⊥) → samples_taken p ≡ n → ReceivedFacts (goes_on (at_position p v))
  unfolding p n
  on_facts b e = goes_on_lem _ (character_facts _ two (character-on v v.phase c (less b) e))

  -- one does
  sampled_facts : (p ≡ stop_position v.format → ⊥) → samples_taken p ≡ suc n → ReceivedFacts (goes_on (at_position p (sampled h v)))
  unfolding p n sampled
  sampled_facts b e =
      by_test (λ (u : Receiver). ReceivedFacts (goes_on (at_position p u))) (ltb n (data_bits v.format)) _ _
      (λ k. goes_on_lem _ (character_facts _ two (character_data v v.phase h v.parity c (less b) e most (omega arith) (ltb-true n (data_bits v.format) k))))
      (λ k. goes_on_lem _ (character_facts _ two (character-parity v v.phase h c (less b) e most (ltb-false n (data_bits v.format) k))))

  in_character_facts : ReceivedFacts (in_character h lcr (v.position + 1) v)
  unfolding in_character p n
  in_character_facts =
      by_test ReceivedFacts (eqb (p % 16) 8) _ _
      (λ a. by_test ReceivedFacts (eqb p 8) _ _ start (λ b. by_test ReceivedFacts (eqb p (stop_position v.format)) _ _ (λ _. stop_facts h lcr v) (later a b)))
      between
    where
      start : eqb p 8 ≡ true → ReceivedFacts (cond (eqb h 1) (goes_on idle_receiver) (goes_on (at_position p v)))
      start b =
          let eight = eqb-true p 8 b in
          by_test ReceivedFacts (eqb h 1) _ _ (λ _. goes_on_lem _ idle_facts) (λ _. on_facts (omega arith) (none_at_start v.position eight))

      later : eqb (p % 16) 8 ≡ true → eqb p 8 ≡ false → eqb p (stop_position v.format) ≡ false → ReceivedFacts (goes_on (at_position p (sampled h v)))
      later a b d = sampled_facts (eqb-false p (stop_position v.format) d) (one_taken v.position (eqb-true (p % 16) 8 a) (eqb-false p 8 b))

      between : eqb (p % 16) 8 ≡ false → ReceivedFacts (goes_on (at_position p v))
      between a =
          let off : p % 16 ≡ 8 → ⊥ = eqb-false (p % 16) 8 a in
          on_facts (omega arith) (none_taken v.position off)

pub receiver_pulse_facts : (h lcr : ℕ) (v : Receiver) → h ≤ 1 → ReceiverFacts v → ReceivedFacts (receiver_pulse h lcr v)
unfolding receiver_pulse
receiver_pulse_facts h lcr v most g = by_test ReceivedFacts (eqb v.phase 2) _ _ character (λ _. by_test ReceivedFacts (eqb v.phase 1) _ _ mark idle)
  where
    character : eqb v.phase 2 ≡ true → ReceivedFacts (in_character h lcr (v.position + 1) v)
    character e =
        let two = eqb-true v.phase 2 e in
        in_character_facts h lcr v most two (g.character two)

    mark : eqb v.phase 1 ≡ true → ReceivedFacts (goes_on (cond (eqb h 1) idle_receiver v))
    mark _ = goes_on_lem _ (by_test ReceiverFacts (eqb h 1) _ _ (λ _. idle_facts) (λ _. g))

    idle : eqb v.phase 1 ≡ false → ReceivedFacts (goes_on (cond (eqb h 0) (start_at 0 lcr) v))
    idle _ = goes_on_lem _ (by_test ReceiverFacts (eqb h 0) _ _ (λ _. start_facts 0 lcr (omega arith)) (λ _. g))
