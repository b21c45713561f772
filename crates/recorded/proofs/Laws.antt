-- The step of a record by its kind.
use Prim.Native.Nat.{ℕ}
use mathlib.Core.Path.{◌≡◌, refl, sym, ap, subst, ◌∙◌}
use mathlib.Core.Bool.{Bool, true, false, cond}
use lib.Dec.{leb, eqb}
use native.Mathlib.Omega.{arith}
use borrow.Author.Tests.{le-leb, ne_eqb}
use Rattle.flag.proofs.Laws.{by_test}
use Rattle.recorder.specs.declared.record.Kind.{Kind}
use Rattle.recorder.proofs.Laws.{Numbered, numbered}
use Rattle.std.specs.Prelude.{◌<◌, Option, Some, None}
use Rattle.recorder.specs.Record.{kind, kind_of, count, address, byte, sin, modem}
use Rattle.device.specs.declared.State.{State}
use Rattle.device.specs.State.{with_inputs, reset_state}
use Rattle.device.specs.Ranges.{well_formed}
use Rattle.device.specs.Autoflow.{settled}
use Rattle.device.specs.Lcr.{divisor_access}
use Rattle.device.specs.Thr.{thr_write}
use Rattle.device.specs.Msr.{with_levels}
use Rattle.device.specs.Calls.{done, read_register, write_register, reset_of, read_of, write_of, sin_of, modem_of, ticks_of}
use Rattle.invariant.specs.Touch.{reaches_queue}
use Rattle.invariant.proofs.Settled.{Kept}
use Rattle.invariant.proofs.Touched.{by_numbers, by_transmit, Touches, numbers-settled, thr_touches}
use Rattle.invariant.proofs.Steps.{reset_kept, read_kept, write_kept, sin-kept, modem-kept, ticks-kept}
use Rattle.recorded.specs.Record.{Stepped, step_of}
use Rattle.step.proofs.Laws.{settled_thr}

-- No field of a record is out of its call's range.

address-fits : (w : ℕ) → leb (address w) 7 ≡ true
address-fits w = le-leb (address w) 7 (omega arith)

sin-fits : (w : ℕ) → leb (sin w) 1 ≡ true
sin-fits w = le-leb (sin w) 1 (omega arith)

modem-fits : (w : ℕ) → leb (modem w) 15 ≡ true
modem-fits w = le-leb (modem w) 15 (omega arith)

-- the number of a known kind, in an arm of a match
pub kind-known : (w : ℕ) {r : Option Kind} {f k : Kind} → r ≡ kind_of w → r ≡ Some f → f ≡ k → Numbered (Some k) (kind w)
kind-known w e is same = subst (λ (r : Option Kind). Numbered r (kind w)) (sym e ∙ is ∙ ap Some same) (numbered w)

-- of another kind than a read
pub kind-unread : (w : ℕ) {r : Option Kind} {f : Kind} → r ≡ kind_of w → r ≡ Some f → (f ≡ Kind.Read → ⊥) → kind w ≡ 1 → ⊥
kind-unread w {f = f} e is other = go f other (kind-known w e is refl)
  where
    go : (f : Kind) → (f ≡ Kind.Read → ⊥) → Numbered (Some f) (kind w) → kind w ≡ 1 → ⊥
    go Kind.Ticks n k one = omega (arith, k, one)
    go Kind.Read n k one = n refl
    go Kind.Write n k one = omega (arith, k, one)
    go Kind.Sin n k one = omega (arith, k, one)
    go Kind.Modem n k one = omega (arith, k, one)
    go Kind.Reset n k one = omega (arith, k, one)

-- of no known kind
pub kind-none : (w : ℕ) {r : Option Kind} → r ≡ kind_of w → r ≡ None → 5 < kind w
kind-none w e is = subst (λ (r : Option Kind). Numbered r (kind w)) (sym e ∙ is) (numbered w)

-- The step of a record by its kind.

module _ (s : State) (w : ℕ) (f : well_formed s ≡ true) where
  pub ticks_step : kind w ≡ 0 → (step_of s w).state ≡ ticks_of (count w) s
  unfolding step_of
  ticks_step k = simp k

  pub read_step : kind w ≡ 1 → (step_of s w).state ≡ settled (read_register s (address w)).state
  unfolding step_of read_of done
  read_step k = simp (k, f, address-fits w)

  pub read_shows : kind w ≡ 1 → (step_of s w).shown ≡ record { byte = (read_register s (address w)).byte }
  unfolding step_of read_of done
  read_shows k = simp (k, f, address-fits w)

  pub write_step : kind w ≡ 2 → (step_of s w).state ≡ settled (write_register s (address w) (byte w))
  unfolding step_of write_of done
  write_step k = simp (k, f, address-fits w)

  pub sin_step : kind w ≡ 3 → (step_of s w).state ≡ settled (with_inputs s (record { modem = s.inputs.modem; sin = sin w }))
  unfolding step_of sin_of done
  sin_step k = simp (k, f, sin-fits w)

  pub modem_step : kind w ≡ 4 → (step_of s w).state ≡ settled (with_levels s (with_inputs s (record { modem = modem w; sin = s.inputs.sin })))
  unfolding step_of modem_of done
  modem_step k = simp (k, f, modem-fits w)

  pub reset_step : kind w ≡ 5 → (step_of s w).state ≡ settled (reset_state s)
  unfolding step_of reset_of done
  reset_step k = simp (k, f)

  -- a record of a kind that is none of the six does nothing
  pub other_step : (kind w ≡ 0 → ⊥) → (kind w ≡ 1 → ⊥) → (kind w ≡ 2 → ⊥) → (kind w ≡ 3 → ⊥) → (kind w ≡ 4 → ⊥) → (kind w ≡ 5 → ⊥) → (step_of s w).state ≡ s
  unfolding step_of
  other_step n0 n1 n2 n3 n4 n5 = simp (ne_eqb _ _ n0, ne_eqb _ _ n1, ne_eqb _ _ n2, ne_eqb _ _ n3, ne_eqb _ _ n4, ne_eqb _ _ n5)

  -- only a read shows a byte
  pub unread_shows : (kind w ≡ 1 → ⊥) → (step_of s w).shown ≡ record { byte = 0 }
  unfolding step_of write_of sin_of modem_of reset_of done
  unread_shows n =
      simp (ne_eqb _ _ n, f, address-fits w, sin-fits w, modem-fits w)
      (by_test P (eqb (kind w) 0) _ _ (λ _. refl)
      (λ _.
      by_test P (eqb (kind w) 2) _ _ (λ _. refl)
      (λ _. by_test P (eqb (kind w) 3) _ _ (λ _. refl) (λ _. by_test P (eqb (kind w) 4) _ _ (λ _. refl) (λ _. by_test P (eqb (kind w) 5) _ _ (λ _. refl) (λ _. refl))))))
    where
      P : Stepped → Type 0
      P r = r.shown ≡ record { byte = 0 }

-- a write to THR sets the transmit queue and the latches
pub thr_step : (s : State) (w : ℕ) → well_formed s ≡ true → (kind w ≡ 2) × (address w ≡ 0) × (divisor_access s.registers ≡ false) → (step_of s w).state ≡ thr_write s (byte w)
unfolding write_register
thr_step s w f h =
    write_step s w f h.0
    ∙ ap (λ (a : ℕ). settled (write_register s a (byte w))) h.1
    ∙ simp h.2 (settled_thr s (byte w) f)

-- What a record touches that is a write.

pub numbers_step : (s : State) (w : ℕ) → well_formed s ≡ true → (kind w ≡ 2) × (reaches_queue s (address w) ≡ false) → Touches by_numbers s (step_of s w).state
numbers_step s w f h =
    let step = write_step s w f h.0 in
    step ∙ numbers-settled s (address w) (byte w) h.1 ∙ ap (by_numbers s) (sym step)

pub transmit_step : (s : State) (w : ℕ) → well_formed s ≡ true → (kind w ≡ 2) × (address w ≡ 0) × (divisor_access s.registers ≡ false) → Touches by_transmit s (step_of s w).state
transmit_step s w f h =
    let step = thr_step s w f h in
    step ∙ thr_touches s (byte w) ∙ ap (by_transmit s) (sym step)

-- A record leaves a well-formed state.

either : (b : Bool) (x y : Stepped) → Kept x.state → Kept y.state → Kept (cond b x y).state
either b x y kx ky = by_test (λ (r : Stepped). Kept r.state) b x y (λ _. kx) (λ _. ky)

pub step_kept : (s : State) (w : ℕ) → Kept s → Kept (step_of s w).state
unfolding step_of
step_kept s w k =
    let p = k.places in
    let f = k.well in
    either (eqb (kind w) 0) _ _ (ticks-kept (count w) s k)
    (either (eqb (kind w) 1) _ _ (read_kept s p f (address w))
    (either (eqb (kind w) 2) _ _ (write_kept s p f (address w) (byte w) (omega arith))
    (either (eqb (kind w) 3) _ _ (sin-kept s p f (sin w))
    (either (eqb (kind w) 4) _ _ (modem-kept s p f (modem w)) (either (eqb (kind w) 5) _ _ (reset_kept s p f) k)))))
