-- The samples of a character, by its position: where they fall, and that those not yet taken stay zero.
use Prim.Native.Nat.{ℕ, suc, ◌+◌, ◌*◌, ◌%◌, ◌^◌, min, ◌≤◌, ◌<◌}
use mathlib.Core.Path.{◌≡◌}
use native.Mathlib.Nat.{min-eq_right, min-eq_left, pow-succ', mul-le-mul}
use native.Mathlib.Omega.{arith}
use Rattle.frame.specs.Format.{data_bits}
use Rattle.device.specs.declared.Receiver.{Receiver}
use Rattle.device.specs.Receiver.{stop_position, samples_taken}
use Rattle.invariant.proofs.Good.{CharacterFacts}

-- between two samples none is taken, nor at 8, where the start bit's falls
pub none_taken : (p : ℕ) → ((p + 1) % 16 ≡ 8 → ⊥) → samples_taken (p + 1) ≡ samples_taken p
none_taken p h = omega arith

pub none_at_start : (p : ℕ) → p + 1 ≡ 8 → samples_taken (p + 1) ≡ samples_taken p
none_at_start p h = omega arith

-- later at 24, 40 and so on one is
pub one_taken : (p : ℕ) → (p + 1) % 16 ≡ 8 → (p + 1 ≡ 8 → ⊥) → samples_taken (p + 1) ≡ suc (samples_taken p)
one_taken p h k = omega arith

-- a data sample h at place n < d: the places above n stay zero
pub data_less : (x h d n : ℕ) → x < 2 ^ min d n → h ≤ 1 → n < d → x + h * 2 ^ n < 2 ^ min d (suc n)
data_less x h d n l most k =
    let e : min d n ≡ n = min-eq_right (omega arith) in
    let e' : min d (suc n) ≡ suc n = min-eq_right (omega arith) in
    let m : h * 2 ^ n ≤ 1 * 2 ^ n = mul-le-mul most (omega arith) in
    let l' : x < 2 ^ n = rw e at l in
    rw (e', pow-succ' 2 n) (omega arith)

-- further on no data is sampled
pub data_done : (x d n : ℕ) → x < 2 ^ min d n → d ≤ n → x < 2 ^ min d (suc n)
data_done x d n l k =
    let e : min d n ≡ d = min-eq_left (omega arith) in
    let e' : min d (suc n) ≡ d = min-eq_left (omega arith) in
    rw e' (rw e at l)

-- no sample is taken: the character goes on to its next position
pub character-on : (v : Receiver) (ph : ℕ) → CharacterFacts v → v.position + 1 < stop_position v.format
    → samples_taken (v.position + 1) ≡ samples_taken v.position
    → CharacterFacts (record { phase = ph; format = v.format; samples = v.samples; parity = v.parity; position = v.position + 1 })
character-on v ph c l e =
    record { format_most = c.format_most; position_less = l; samples_less = rw e c.samples_less; parity-most = rw e c.parity-most }

-- one of data is: the n-th, from bit 0
pub character_data : (v : Receiver) (ph h y : ℕ) → CharacterFacts v → v.position + 1 < stop_position v.format
    → samples_taken (v.position + 1) ≡ suc (samples_taken v.position) → h ≤ 1 → y ≤ v.parity → samples_taken v.position < data_bits v.format
    → CharacterFacts (record { phase = ph; format = v.format; samples = v.samples + h * 2 ^ samples_taken v.position; parity = y; position = v.position + 1 })
character_data v ph h y c l e most par k =
    let b = c.parity-most in
    record {
      format_most = c.format_most;
      position_less = l;
      samples_less = rw e (data_less v.samples h (data_bits v.format) (samples_taken v.position) c.samples_less most k);
      parity-most = omega arith;
    }

-- the parity's is
pub character-parity : (v : Receiver) (ph h : ℕ) → CharacterFacts v → v.position + 1 < stop_position v.format
    → samples_taken (v.position + 1) ≡ suc (samples_taken v.position) → h ≤ 1 → data_bits v.format ≤ samples_taken v.position
    → CharacterFacts (record { phase = ph; format = v.format; samples = v.samples; parity = h; position = v.position + 1 })
character-parity v ph h c l e most k =
    record {
      format_most = c.format_most;
      position_less = l;
      samples_less = rw e (data_done v.samples (data_bits v.format) (samples_taken v.position) c.samples_less k);
      parity-most = omega arith;
    }
