-- Laws of the definitions that the proofs use.
use Prim.Native.Nat.{ℕ, ◌≤◌}
use mathlib.Core.Path.{◌≡◌, sym, ap}
use mathlib.Core.Bool.{Bool, true, false}
use mathlib.Core.List.{[], ◌∷◌}
use native.Mathlib.Omega.{arith}
use Rattle.flag.specs.Flag.{bit, bit_of, byte_of}
use Rattle.flag.proofs.Laws.{by_test}
use Rattle.device.specs.declared.Registers.{Registers}
use Rattle.device.specs.declared.Inputs.{Inputs}
use Rattle.device.specs.declared.State.{State}
use Rattle.device.specs.State.{with_latches, with_changes}
use Rattle.device.specs.Modem.{loopback, effective_levels}
use Rattle.device.specs.Msr.{msr_read}

-- a test as a flag is at most 1
bit-most : (b : Bool) → bit_of b ≤ 1
bit-most true = omega arith
bit-most false = omega arith

-- four bits are at most 15
nibble_most : (a b c d : Bool) → byte_of (a ∷ b ∷ c ∷ d ∷ []) ≤ 15
nibble_most a b c d = omega (arith, bit-most a, bit-most b, bit-most c, bit-most d)

-- the effective levels are four bits
pub levels_most : (r : Registers) (i : Inputs) → i.modem ≤ 15 → effective_levels r i ≤ 15
unfolding effective_levels
levels_most r i h =
    let looped = nibble_most (bit 1 r.mcr) (bit 0 r.mcr) (bit 2 r.mcr) (bit 3 r.mcr) in
    by_test (λ (n : ℕ). n ≤ 15) (loopback r) _ _ (λ e. looped) (λ e. h)

-- Where a read finds nothing to clear, the state stays.

pub msr_kept : (s : State) → s.latches.changes ≡ 0 → (msr_read s).state ≡ s
unfolding msr_read
msr_kept s e = ap (λ (n : ℕ). with_latches s (with_changes s.latches n)) (sym e)
