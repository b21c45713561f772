-- The receiver over quiet pulses: the level that it hears at each of them, and one pulse more.
use Prim.Native.Nat.{ℕ, suc, ◌+◌, ◌-◌, ◌/◌, ◌%◌, ◌^◌, ◌≤◌, ◌<◌}
use native.Mathlib.Nat.{zero-div}
use native.Mathlib.Decide.{dec_lt, ℕ_discrete}
use native.Mathlib.Omega.{arith}
use mathlib.Core.Path.{◌≡◌, refl, sym, ap, ◌∙◌}
use mathlib.Core.Bool.{Bool, true, false, cond, not, ◌&&◌}
use lib.Dec.{eqb}
use borrow.Author.Tests.{le-leb, lt-leb, lt-ltb, eq-eqb, ne_eqb, eqb-true, eqb-false, not-true}
use Rattle.flag.proofs.Laws.{by_test, and_left, and_right}
use Rattle.frame.specs.Frame.{line_level}
use Rattle.frame.proofs.Frames.{frame_length_bounds}
use Rattle.frame.proofs.Low.{line_low, line_stays, low-replicate, low-all}
use Rattle.device.specs.declared.Frame.{Frame}
use Rattle.device.specs.declared.Receiver.{Receiver}
use Rattle.device.specs.Transmitter.{line}
use Rattle.device.specs.Receiver.{stop_position, goes_on, receiver_pulse}
use Rattle.invariant.proofs.Good.{FrameFacts, CharacterFacts, ReceiverFacts}
use Rattle.receiver.specs.Needs.{InCharacter}
use Rattle.quiet_pulses.specs.Needs.{Hearing}
use Rattle.quiet_pulses.specs.Quiet.{never, all_low, shifted_by, low_heard, place_heard, low_from, false_start, character_hears, hears, heard_by}
use Rattle.receiver.proofs.Sampled.{sampled-none, sampled_next}

-- The level i pulses later.

abbrev pub level_at : Bool → Frame → ℕ → ℕ → ℕ
level_at looped x sin i = cond looped (line (shifted_by i x)) sin

line-shifted : (i : ℕ) (x : Frame) → line (shifted_by i x) ≡ line_level (x.left - i) x.byte x.format
unfolding shifted_by line_level
line-shifted i x =
    elim (dec_lt i x.left) [
      | yes h ↦ simp (lt-leb x.left i (omega arith))
      | no h ↦ simp (le-leb x.left i (omega arith), eq-eqb (x.left - i) 0 (omega arith))
    ]

no_low : (n : ℕ) → 1 - 0 / n % 2 ≡ 1
no_low n = ap (λ (m : ℕ). 1 - m % 2) (zero-div n)

all_low_lem : (i : ℕ) → i < 32 → all_low / 2 ^ i % 2 ≡ 1
all_low_lem i h = ap (λ (n : ℕ). n / 2 ^ i % 2) (sym (low-replicate 32)) ∙ low-all 32 i h

pub level-heard : (b : Bool) (x : Frame) (sin i : ℕ) → FrameFacts x → sin ≤ 1 → i < 300 → level_at b x sin i ≡ 1 - low_from b x sin i % 2
unfolding low_heard place_heard
level-heard true x sin i g h short = line-shifted i x ∙ line_low x.left x.byte x.format i g.left_most
level-heard false x sin i g h short =
    elim (ℕ_discrete sin 1) [
      | yes e ↦ simp (eq-eqb sin 1 e) (e ∙ sym (no_low _))
      | no e ↦
          let low : sin ≡ 0 = omega arith in
          simp (ne_eqb sin 1 e) (low ∙ ap (λ (m : ℕ). 1 - m) (sym (all_low_lem ((0 + i) / 16) (omega arith))))
    ]

-- where no bit is low from the next pulse on, it stays high
pub level_stays : (b : Bool) (x : Frame) (sin i : ℕ) → FrameFacts x → sin ≤ 1 → low_from b x sin 1 ≡ 0 → level_at b x sin (suc i) ≡ 1
unfolding low_heard place_heard
level_stays true x sin i g h none = line-shifted (suc i) x ∙ line_stays x.left x.byte x.format i g.left_most none
level_stays false x sin i g h none =
    elim (ℕ_discrete sin 1) [
      | yes e ↦ e
      | no e ↦ let low = simp (ne_eqb sin 1 e) at none in absurd (omega arith)
    ]

-- a well-formed receiver in a character
in_character_lem : (v : Receiver) → CharacterFacts v → InCharacter v
in_character_lem v g = record { before = g.position_less; samples = g.samples_less; parity = g.parity-most }

-- no pulse
pub heard-none : (b : Bool) (x : Frame) (sin : ℕ) (v : Receiver) → ReceiverFacts v → heard_by b x sin 0 v ≡ v
unfolding heard_by
heard-none b x sin v g =
    by_test (λ (r : Receiver). r ≡ v) (eqb v.phase 2) _ _
    (λ e. sampled-none (low_heard b x sin) (place_heard b x) v (in_character_lem v (g.character (eqb-true v.phase 2 e))))
    (λ _. refl)

-- within the pulses before the next event
pub heard-within : (b : Bool) (x : Frame) (sin m : ℕ) (v : Receiver) → ReceiverFacts v → m ≤ hears b x sin v → Hearing b x m v
unfolding hears character_hears place_heard
heard-within b x sin m v g within =
    record {
      character = λ two.
          let c = g.character two in
          record {
            character = in_character_lem v c;
            before = before c.position_less (false_start b x sin v.position) (simp (eq-eqb v.phase 2 two) at within);
            place = by_test (λ (n : ℕ). n ≤ 192) b _ _ (λ _. omega (arith, frame_length_bounds x.format)) (λ _. omega arith);
          };
    }
  where
    before : v.position < stop_position v.format → (d : Bool) → m ≤ cond d (7 - v.position) (stop_position v.format - 1 - v.position) → v.position + m < stop_position v.format
    before p true w = omega arith
    before p false w = omega arith

-- One pulse more, with the level h, by the receiver's phase.
module _ (b : Bool) (x : Frame) (sin lcr i : ℕ) (v : Receiver) (g : FrameFacts x) (s : sin ≤ 1) where
  abbrev h : ℕ
  h = level_at b x sin (suc i)

  -- what one more pulse makes
  abbrev Next : Type 0
  Next = receiver_pulse h lcr (heard_by b x sin i v) ≡ goes_on (heard_by b x sin (suc i) v)

  -- the start sample is low, where the pulses go past it
  start_low : (v.position + suc i ≡ 8) → false_start b x sin v.position ≡ false → h ≡ 0
  unfolding false_start
  start_low at e =
      let p : 8 - v.position ≡ suc i = omega arith in
      let some : eqb (low_from b x sin (8 - v.position) % 2) 0 ≡ false = simp (lt-ltb v.position 8 (omega arith)) at e in
      let low : low_from b x sin (suc i) % 2 ≡ 0 → ⊥ = eqb-false _ 0 (rw (sym p) some) in
      level-heard b x sin (suc i) g s (omega arith) ∙ omega arith

  in_a_character : v.phase ≡ 2 → CharacterFacts v → v.position + suc i < stop_position v.format → (v.position + suc i ≡ 8 → h ≡ 0) → Next
  unfolding heard_by
  in_a_character two c within low =
      simp (eq-eqb v.phase 2 two)
      (sampled_next (low_heard b x sin) (place_heard b x) i h lcr v (in_character_lem v c) two within
      (level-heard b x sin (suc i) g s (omega arith))
      low)

  -- waiting for mark on a low SIN
  waits : v.phase ≡ 1 → suc i ≤ cond (not b && eqb sin 0) never 0 → Next
  unfolding heard_by receiver_pulse
  waits one within = go (not b && eqb sin 0) refl within
    where
      go : (d : Bool) → (not b && eqb sin 0) ≡ d → suc i ≤ cond d never 0 → Next
      go false e w = absurd (omega arith)
      go true e w =
          let two : eqb v.phase 2 ≡ false = ne_eqb v.phase 2 (λ z. absurd (omega arith)) in
          let out : b ≡ false = not-true b (and_left (not b) (eqb sin 0) e) in
          let low : sin ≡ 0 = eqb-true sin 0 (and_right (not b) (eqb sin 0) e) in
          let heard : h ≡ 0 = ap (λ (d : Bool). cond d (line (shifted_by (suc i) x)) sin) out ∙ low in
          let level : eqb h 1 ≡ false = ne_eqb h 1 (λ z. absurd (omega (arith, heard, z))) in
          simp (two, eq-eqb v.phase 1 one, level)

  -- idle on a line that stays high
  idles : (v.phase ≡ 2 → ⊥) → (v.phase ≡ 1 → ⊥) → suc i ≤ cond (eqb (low_from b x sin 1) 0) never 0 → Next
  unfolding heard_by receiver_pulse
  idles two one within = go (eqb (low_from b x sin 1) 0) refl within
    where
      go : (d : Bool) → eqb (low_from b x sin 1) 0 ≡ d → suc i ≤ cond d never 0 → Next
      go false e w = absurd (omega arith)
      go true e w =
          let high : h ≡ 1 = level_stays b x sin i g s (eqb-true (low_from b x sin 1) 0 e) in
          let level : eqb h 0 ≡ false = ne_eqb h 0 (λ z. absurd (omega (arith, high, z))) in
          simp (ne_eqb v.phase 2 two, ne_eqb v.phase 1 one, level)

  pub heard_next : ReceiverFacts v → suc i ≤ hears b x sin v → Next
  unfolding hears character_hears
  heard_next r within =
      elim (ℕ_discrete v.phase 2) [
        | yes two ↦ character two (r.character two) (false_start b x sin v.position) refl (simp (eq-eqb v.phase 2 two) at within)
        | no two ↦
            elim (ℕ_discrete v.phase 1) [
              | yes one ↦ waits one (simp (ne_eqb v.phase 2 two, eq-eqb v.phase 1 one) at within)
              | no one ↦ idles two one (simp (ne_eqb v.phase 2 two, ne_eqb v.phase 1 one) at within)
            ]
      ]
    where
      character : v.phase ≡ 2 → CharacterFacts v → (d : Bool) → false_start b x sin v.position ≡ d → suc i ≤ cond d (7 - v.position) (stop_position v.format - 1 - v.position) → Next
      character two c true e w = in_a_character two c (omega arith) (λ z. absurd (omega arith))
      character two c false e w = let p = c.position_less in in_a_character two c (omega arith) (λ z. start_low z e)
