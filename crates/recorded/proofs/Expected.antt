-- The record that is expected: it is the record unless this is a read that differs; it is good where the record is, and
-- makes the same step, in which it does not differ.
use Prim.Native.Nat.{ℕ, ◌<◌, ◌%◌, ◌^◌}
use mathlib.Core.Path.{◌≡◌, refl, sym, ap, ◌∙◌}
use mathlib.Core.Bool.{Bool, true, false, not}
use lib.Dec.{eqb}
use native.Mathlib.Omega.{arith}
use borrow.Author.Tests.{lt-ltb, eq-eqb, ne_eqb, ltb-true, eqb-true, eqb-false}
use Rattle.flag.proofs.Laws.{and_left}
use Rattle.recorder.specs.Record.{kind, address, byte, is_read, good, with_byte}
use Rattle.device.specs.declared.State.{State}
use Rattle.device.specs.Calls.{read_of}
use Rattle.recorded.specs.Record.{Stepped, answered, step_of, model_byte, differing, expected}

-- A record with another byte has its kind and address.

module _ (w b : ℕ) (h : b < 256) where
  kind-same : kind (with_byte w b) ≡ kind w
  kind-same = omega (arith, h)

  address_same : address (with_byte w b) ≡ address w
  address_same = omega (arith, h)

  byte_new : byte (with_byte w b) ≡ b
  byte_new = omega (arith, h)

  byte-other : with_byte w b ≡ w → byte w ≡ b
  byte-other e = omega (arith, h, e)

  byte_again : byte w ≡ b → with_byte w b ≡ w
  byte_again e = omega (arith, e)

  still_good : kind w ≡ 1 → good w ≡ true → good (with_byte w b) ≡ true
  unfolding good
  still_good k g =
      let fits : w % 2 ^ 28 < 2048 = ltb-true _ _ (simp k at g) in
      let same : with_byte w b % 2 ^ 28 < 2048 = omega (arith, fits, h) in
      simp (kind-same ∙ k) (lt-ltb _ _ same)

step_read : (s : State) (w : ℕ) → kind w ≡ 1 → step_of s w ≡ answered (read_of s (address w))
unfolding step_of
step_read s w k = simp k

module _ (s : State) (w : ℕ) (h : model_byte s w < 256) where
  abbrev v : ℕ
  v = with_byte w (model_byte s w)

  -- a read with the model's byte makes the same step
  read_same : kind w ≡ 1 → step_of s v ≡ step_of s w
  read_same k =
      step_read s v (kind-same w (model_byte s w) h ∙ k)
      ∙ ap (λ (a : ℕ). answered (read_of s a)) (address_same w (model_byte s w) h)
      ∙ sym (step_read s w k)

  -- by the record's kind
  by_kind : (P : ℕ → Type 0) → (kind w ≡ 1 → P v) → ((kind w ≡ 1 → ⊥) → P w) → P (expected s w)
  by_kind P read other = go (eqb (kind w) 1) refl
    where
      go : (b : Bool) → eqb (kind w) 1 ≡ b → P (expected s w)
      go true e = simp e (read (eqb-true (kind w) 1 e))
      go false e = simp e (other (eqb-false (kind w) 1 e))

  pub expected_step : step_of s (expected s w) ≡ step_of s w
  expected_step = by_kind (λ x. step_of s x ≡ step_of s w) read_same (λ _. refl)

  pub expected-good : good w ≡ true → good (expected s w) ≡ true
  expected-good g = by_kind (λ x. good x ≡ true) (λ k. still_good w (model_byte s w) h k g) (λ _. g)

  pub expected_agrees : differing s (expected s w) ≡ false
  unfolding differing
  expected_agrees =
      by_kind (λ x. differing s x ≡ false)
      (λ k. simp (kind-same w (model_byte s w) h ∙ k, eq-eqb _ _ (byte_new w (model_byte s w) h ∙ sym (ap (λ (r : Stepped). r.shown.byte) (read_same k)))))
      (λ n. simp (ne_eqb _ _ n))

  -- a read that differs has another byte than the one expected
  pub expected-byte : differing s w ≡ true → byte (expected s w) ≡ model_byte s w
  unfolding differing
  expected-byte d =
      let k : kind w ≡ 1 = eqb-true (kind w) 1 (and_left (is_read w) (not (eqb (byte w) (model_byte s w))) d) in
      simp k (byte_new w (model_byte s w) h)

  pub expected-differs : differing s w ≡ not (eqb (expected s w) w)
  unfolding differing
  expected-differs =
      by_kind (λ x. differing s w ≡ not (eqb x w))
      (λ k. simp (eq-eqb _ _ k) (go (eqb (byte w) (model_byte s w)) refl))
      (λ n. simp (ne_eqb _ _ n, eq-eqb w w refl))
    where
      go : (b : Bool) → eqb (byte w) (model_byte s w) ≡ b → not (eqb (byte w) (model_byte s w)) ≡ not (eqb v w)
      go true e = simp (e, eq-eqb _ _ (byte_again w (model_byte s w) h (eqb-true _ _ e)))
      go false e = simp (e, ne_eqb _ _ (λ d. eqb-false _ _ e (byte-other w (model_byte s w) h d)))
