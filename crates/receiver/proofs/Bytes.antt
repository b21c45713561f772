-- A sample put behind those taken so far fits a byte; so do the data and the parity of several taken at once.
use Prim.Native.Nat.{ℕ, suc, ◌+◌, ◌*◌, ◌/◌, ◌%◌, ◌^◌, ◌≤◌, ◌<◌, min}
use native.Mathlib.Nat.{mul-le-mul_right, mod-eq_of_lt, mod-lt, one-mul}
use native.Mathlib.Omega.{arith}
use mathlib.Core.Path.{◌≡◌, ap, ◌∙◌, subst}
use lib.Pow.{pow_mono, pow_pos, pow-lt, shr_lt}

-- bit n, below the word length, of a byte
pub sample_small : (h n : ℕ) → h ≤ 1 → n < 8 → h * 2 ^ n ≤ 128
sample_small h n one few =
    let whole : 2 ^ n ≤ 128 = pow_mono {i = n} {j = 7} (omega arith) in
    let part : h * 2 ^ n ≤ 1 * 2 ^ n = mul-le-mul_right (2 ^ n) one in
    omega (arith, one-mul (2 ^ n))

-- it keeps its value as a byte
pub sample_byte : (h n : ℕ) → h ≤ 1 → n < 8 → h * 2 ^ n % 256 ≡ h * 2 ^ n
sample_byte h n one few = let b = sample_small h n one few in mod-eq_of_lt (omega arith)

-- the samples of the n places before it leave room for it
pub samples_below : (x d n : ℕ) → n < 8 → x < 2 ^ min d n → x < 128
samples_below x d n few h =
    let whole : 2 ^ min d n ≤ 128 = pow_mono {i = min d n} {j = 7} (omega arith) in
    omega arith

-- bit n of a word
pub bit_word : (n : ℕ) → n < 32 → 1 * 2 ^ n % 2 ^ 32 ≡ 2 ^ n
bit_word n few = ap (λ (x : ℕ). x % 2 ^ 32) (one-mul (2 ^ n)) ∙ mod-eq_of_lt (pow-lt few)

-- data below bit d fit a byte
pub data_byte : (x d : ℕ) → d ≤ 8 → x % 2 ^ d < 256
data_byte x d few =
    let most : 2 ^ d ≤ 256 = pow_mono {i = d} {j = 8} few in
    let less = mod-lt x (pow_pos d) in
    omega arith

-- the bit above them is 0 or 1
pub parity-byte : (x d : ℕ) → x < 2 ^ suc d → x / 2 ^ d < 2
parity-byte x d less = shr_lt {n = x} 1 d (subst (λ (k : ℕ). x < 2 ^ k) (suc_one d) less)
  where
    suc_one : (n : ℕ) → suc n ≡ 1 + n
    suc_one n = omega arith
