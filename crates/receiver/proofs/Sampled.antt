-- Several pulses of a character at once are its pulses one by one.
use Prim.Native.Nat.{ℕ, zero, suc, ◌+◌, ◌-◌, ◌*◌, ◌/◌, ◌%◌, ◌^◌, ◌≤◌, ◌<◌, min}
use native.Mathlib.Nat.{mod-lt, mod-eq_of_lt, div-eq_of_lt, mul-le-mul_right, min-eq_right, min-le_left, two-pow-succ, add-mul, add_assoc, mul_assoc, add_comm}
use native.Mathlib.Decide.{ℕ_discrete, dec_lt}
use native.Mathlib.Omega.{arith}
use mathlib.Core.Path.{◌≡◌, sym, ap, ap₂, ◌∙◌, subst}
use lib.Arith.{digits_lt, digits_div, digits_mod}
use lib.Pow.{pow_pos, pow_mono, pow-add, shr-shr, shl_exact, mod-pow-add, ones_sub-lt}
use borrow.Author.Tests.{lt-ltb, le-ltb, eq-eqb, ne_eqb}
use Rattle.frame.specs.Format.{data_bits}
use Rattle.device.specs.declared.Receiver.{Receiver}
use Rattle.device.specs.State.{character_phase}
use Rattle.device.specs.Receiver.{stop_position, samples_taken, goes_on, at_position, with_samples, sampled, in_character, receiver_pulse}
use Rattle.receiver.specs.Needs.{InCharacter, Sampled}
use Rattle.receiver.specs.Samples.{samples_heard, samples_of, samples_with, with_all, sampled_by}

-- The samples heard.

-- r below n and a bit b above it, inverted
inverted : (n b r : ℕ) → r < n → b ≤ 1 → n + n - 1 - (b * n + r) ≡ n - 1 - r + (1 - b) * n
inverted n zero r l one = omega arith
inverted n (suc zero) r l one = omega arith
inverted n (suc (suc b)) r l one = absurd (omega arith)

-- one bit more is one sample more
heard_next : (w p n : ℕ) → samples_heard w p (suc n) ≡ samples_heard w p n + (1 - w / 2 ^ (p / 16 + n) % 2) * 2 ^ n
unfolding samples_heard
heard_next w p n =
    let x = w / 2 ^ (p / 16) in
    let e : 1 + n ≡ suc n = omega arith in
    let last : x % 2 ^ suc n ≡ x / 2 ^ n % 2 * 2 ^ n + x % 2 ^ n = ap (λ (k : ℕ). x % 2 ^ k) (sym e) ∙ mod-pow-add x 1 n in
    let bit : x / 2 ^ n ≡ w / 2 ^ (p / 16 + n) = shr-shr w (p / 16) n in
    ap₂ (λ (a b : ℕ). a - 1 - b) (two-pow-succ n) last
    ∙ inverted (2 ^ n) (x / 2 ^ n % 2) (x % 2 ^ n) (mod-lt x (pow_pos n)) (omega arith)
    ∙ ap (λ (y : ℕ). 2 ^ n - 1 - x % 2 ^ n + (1 - y % 2) * 2 ^ n) bit

-- none of no bits
heard-none : (w p : ℕ) → samples_heard w p 0 ≡ 0
unfolding samples_heard
heard-none w p = omega arith

-- they are n bits
heard_less : (w p n : ℕ) → samples_heard w p n < 2 ^ n
unfolding samples_heard
heard_less w p n = ones_sub-lt n (w / 2 ^ (p / 16) % 2 ^ n)

-- The samples as one number.

-- before the parity they fill the places taken so far
samples_few : (v : Receiver) → InCharacter v → samples_taken v.position ≤ data_bits v.format → samples_of v < 2 ^ samples_taken v.position
unfolding samples_of
samples_few v c few =
    let d = data_bits v.format in
    let a = samples_taken v.position in
    let none : v.parity ≡ 0 = omega (arith, c.parity) in
    let all : min d a ≡ a = min-eq_right few in
    let less : v.samples < 2 ^ a = rw all at c.samples in
    rw none (omega arith)

-- the data and the parity of them
data_less : (v : Receiver) → InCharacter v → v.samples < 2 ^ data_bits v.format
data_less v c =
    let d = data_bits v.format in
    let most : 2 ^ min d (samples_taken v.position) ≤ 2 ^ d = pow_mono (min-le_left d (samples_taken v.position)) in
    omega (arith, most, c.samples)

data_of : (v : Receiver) → InCharacter v → samples_of v % 2 ^ data_bits v.format ≡ v.samples
unfolding samples_of
data_of v c =
    let d = data_bits v.format in
    ap (λ (x : ℕ). x % 2 ^ d) (add_comm v.samples (v.parity * 2 ^ d)) ∙ digits_mod v.parity (data_less v c)

parity_of : (v : Receiver) → InCharacter v → samples_of v / 2 ^ data_bits v.format ≡ v.parity
unfolding samples_of
parity_of v c =
    let d = data_bits v.format in
    ap (λ (x : ℕ). x / 2 ^ d) (add_comm v.samples (v.parity * 2 ^ d)) ∙ digits_div v.parity (data_less v c)

-- no more of them
with_none : (w q : ℕ) (v : Receiver) → samples_with w q 0 v ≡ samples_of v
unfolding samples_with
with_none w q v =
    let a = samples_taken v.position in
    ap (λ (x : ℕ). samples_of v + x * 2 ^ a) (heard-none w (q + (24 + 16 * a - v.position))) ∙ (omega arith)

-- n more fill n places more
with_less : (w q n : ℕ) (v : Receiver) → InCharacter v → samples_taken v.position ≤ data_bits v.format
    → samples_with w q n v < 2 ^ (n + samples_taken v.position)
unfolding samples_with
with_less w q n v c few =
    let a = samples_taken v.position in
    let x = samples_heard w (q + (24 + 16 * a - v.position)) n in
    let l : x * 2 ^ a + samples_of v < 2 ^ n * 2 ^ a = digits_lt (heard_less w (q + (24 + 16 * a - v.position)) n) (samples_few v c few) in
    rw (pow-add 2 n a) (omega arith)

-- one more, above those
with_next : (w q n h : ℕ) (v : Receiver) → h ≡ 1 - w / 2 ^ ((q + (24 + 16 * samples_taken v.position - v.position)) / 16 + n) % 2
    → samples_with w q (suc n) v ≡ samples_with w q n v + h * 2 ^ (n + samples_taken v.position)
unfolding samples_with
with_next w q n h v e =
    let a = samples_taken v.position in
    let p = q + (24 + 16 * a - v.position) in
    let x = samples_heard w p n in
    ap (λ (y : ℕ). samples_of v + y * 2 ^ a) (heard_next w p n ∙ ap (λ (y : ℕ). x + y * 2 ^ n) (sym e))
    ∙ ap (λ (y : ℕ). samples_of v + y) (add-mul x (h * 2 ^ n) (2 ^ a))
    ∙ sym (add_assoc (samples_of v) (x * 2 ^ a) (h * 2 ^ n * 2 ^ a))
    ∙ ap (λ (y : ℕ). samples_of v + x * 2 ^ a + y) (mul_assoc h (2 ^ n) (2 ^ a) ∙ ap (λ (y : ℕ). h * y) (sym (pow-add 2 n a)))

-- A pulse of the receiver in a character.

pulse_between : (h lcr : ℕ) (u : Receiver) → u.phase ≡ character_phase → ((u.position + 1) % 16 ≡ 8 → ⊥)
    → receiver_pulse h lcr u ≡ goes_on (at_position (u.position + 1) u)
unfolding receiver_pulse in_character
pulse_between h lcr u two n = simp (eq-eqb _ _ two, ne_eqb _ _ n)

pulse_start : (h lcr : ℕ) (u : Receiver) → u.phase ≡ character_phase → u.position + 1 ≡ 8 → h ≡ 0
    → receiver_pulse h lcr u ≡ goes_on (at_position (u.position + 1) u)
unfolding receiver_pulse in_character
pulse_start h lcr u two e low =
    let m : (u.position + 1) % 16 ≡ 8 = omega arith in
    let high : h ≡ 1 → ⊥ = λ z. absurd (omega arith) in
    simp (eq-eqb _ _ two, eq-eqb _ _ m, eq-eqb _ _ e, ne_eqb _ _ high)

pulse_sample : (h lcr : ℕ) (u : Receiver) → u.phase ≡ character_phase → (u.position + 1) % 16 ≡ 8 → (u.position + 1 ≡ 8 → ⊥)
    → u.position + 1 < stop_position u.format
    → receiver_pulse h lcr u ≡ goes_on (at_position (u.position + 1) (sampled h u))
unfolding receiver_pulse in_character
pulse_sample h lcr u two m n l =
    let stop : u.position + 1 ≡ stop_position u.format → ⊥ = λ z. absurd (omega arith) in
    simp (eq-eqb _ _ two, eq-eqb _ _ m, ne_eqb _ _ n, ne_eqb _ _ stop)

-- The character with all its samples as one number.

-- at position p, with the samples x
abbrev having : Receiver → ℕ → ℕ → Receiver
having v p x = at_position p (with_all x v)

-- the next sample, h, stands above the samples x
having_next : (v : Receiver) (p x h : ℕ) → samples_taken p ≤ data_bits v.format → x < 2 ^ samples_taken p → h ≤ 1
    → sampled h (having v p x) ≡ having v p (x + h * 2 ^ samples_taken p)
unfolding sampled
having_next v p x h few less one =
    elim (dec_lt k d) [
      | yes l ↦
          let room : 2 ^ suc k ≤ 2 ^ d = pow_mono l in
          let part : h * 2 ^ k ≤ 1 * 2 ^ k = mul-le-mul_right (2 ^ k) one in
          let double = two-pow-succ k in
          let low : x < 2 ^ d = omega arith in
          let low' : x + h * 2 ^ k < 2 ^ d = omega arith in
          simp (lt-ltb _ _ l, mod-eq_of_lt low, mod-eq_of_lt low', div-eq_of_lt low, div-eq_of_lt low')
      | no l ↦
          let same : k ≡ d = omega arith in
          let low : x < 2 ^ d = rw (← same) less in
          let all : x + h * 2 ^ k ≡ h * 2 ^ d + x = ap (λ (n : ℕ). x + h * 2 ^ n) same ∙ add_comm x (h * 2 ^ d) in
          let le : d ≤ k = omega arith in
          simp (le-ltb _ _ le, all, digits_mod h low, digits_div h low, mod-eq_of_lt low)
    ]
  where
    d : ℕ
    d = data_bits v.format

    k : ℕ
    k = samples_taken p

-- no sample is taken
pub sampled_still : (w q m : ℕ) (v : Receiver) → InCharacter v → samples_taken (v.position + m) ≡ samples_taken v.position
    → sampled_by w q m v ≡ at_position (v.position + m) v
unfolding sampled_by
sampled_still w q m v c e =
    let p = v.position + m in
    let none : samples_taken p - samples_taken v.position ≡ 0 = omega arith in
    ap (λ (n : ℕ). having v p (samples_with w q n v)) none
    ∙ ap (λ (x : ℕ). having v p x) (with_none w q v)
    ∙ ap₂ (λ (x y : ℕ). at_position p (with_samples v x y)) (data_of v c) (parity_of v c)

-- no pulse
pub sampled-none : (w q : ℕ) (v : Receiver) → InCharacter v → sampled_by w q 0 v ≡ v
sampled-none w q v c =
    let e : v.position + 0 ≡ v.position = omega arith in
    sampled_still w q 0 v c (ap samples_taken e) ∙ ap (λ (p : ℕ). at_position p v) e

-- one pulse more, with no sample
next_still : (w q i : ℕ) (v : Receiver) → samples_taken (v.position + suc i) ≡ samples_taken (v.position + i)
    → at_position (v.position + i + 1) (sampled_by w q i v) ≡ sampled_by w q (suc i) v
unfolding sampled_by
next_still w q i v e =
    let a = samples_taken v.position in
    let p : v.position + i + 1 ≡ v.position + suc i = omega arith in
    ap₂ (λ (k n : ℕ). having v k (samples_with w q (n - a) v)) p (sym e)

-- and with one
next_sample : (w q i h : ℕ) (v : Receiver) → InCharacter v → v.position + suc i < stop_position v.format
    → (v.position + suc i) % 16 ≡ 8 → (v.position + suc i ≡ 8 → ⊥) → h ≡ 1 - w / 2 ^ ((q + suc i) / 16) % 2
    → at_position (v.position + i + 1) (sampled h (sampled_by w q i v)) ≡ sampled_by w q (suc i) v
unfolding sampled_by
next_sample w q i h v c l m s e =
    ap (at_position (v.position + i + 1)) (having_next v (v.position + i) (samples_with w q n v) h few less (omega arith))
    ∙ ap₂ (λ (j x : ℕ). having v j x) p (ap (λ (j : ℕ). samples_with w q n v + h * 2 ^ j) (sym sum) ∙ sym (with_next w q n h v (e ∙ ap (λ (j : ℕ). 1 - w / 2 ^ j % 2) place)))
    ∙ ap (λ (j : ℕ). having v (v.position + suc i) (samples_with w q j v)) more
  where
    a : ℕ
    a = samples_taken v.position

    k : ℕ
    k = samples_taken (v.position + i)

    n : ℕ
    n = k - a

    p : v.position + i + 1 ≡ v.position + suc i
    p = omega arith

    few : k ≤ data_bits v.format
    few = omega arith

    start : a ≤ data_bits v.format
    start = omega arith

    sum : n + a ≡ k
    sum = omega arith

    less : samples_with w q n v < 2 ^ k
    less = subst (λ (j : ℕ). samples_with w q n v < 2 ^ j) sum (with_less w q n v c start)

    place : (q + suc i) / 16 ≡ (q + (24 + 16 * a - v.position)) / 16 + n
    place = omega arith

    more : suc n ≡ samples_taken (v.position + suc i) - a
    more = omega arith

-- one pulse more: what the receiver makes of it on what i pulses left, i + 1 pulses leave
pub sampled_next : (w q i h lcr : ℕ) (v : Receiver) → InCharacter v → v.phase ≡ character_phase
    → v.position + suc i < stop_position v.format
    → h ≡ 1 - w / 2 ^ ((q + suc i) / 16) % 2
    → (v.position + suc i ≡ 8 → h ≡ 0)
    → receiver_pulse h lcr (sampled_by w q i v) ≡ goes_on (sampled_by w q (suc i) v)
unfolding sampled_by
sampled_next w q i h lcr v c two l e low =
    let u = sampled_by w q i v in
    elim (ℕ_discrete ((v.position + suc i) % 16) 8) [
      | yes m ↦
          elim (ℕ_discrete (v.position + suc i) 8) [
            | yes s ↦ pulse_start h lcr u two (omega arith) (low s) ∙ ap goes_on (next_still w q i v (omega arith))
            | no s ↦
                pulse_sample h lcr u two (omega arith) (λ z. absurd (omega arith)) (omega arith)
                ∙ ap goes_on (next_sample w q i h v c l m s e)
          ]
      | no m ↦ pulse_between h lcr u two (λ z. absurd (omega arith)) ∙ ap goes_on (next_still w q i v (omega arith))
    ]

-- What the code does where a sample is taken.

-- where a sample is taken, the parity was not sampled before
start_few : (q m : ℕ) (v : Receiver) → Sampled q m v → samples_taken v.position < samples_taken (v.position + m) → samples_taken v.position ≤ data_bits v.format
start_few q m v s more = omega (arith, s.before)

-- and the samples fit the data and the parity
all_less : (w q m : ℕ) (v : Receiver) → Sampled q m v → samples_taken v.position < samples_taken (v.position + m)
    → samples_with w q (samples_taken (v.position + m) - samples_taken v.position) v < 2 ^ suc (data_bits v.format)
all_less w q m v s more =
    let a = samples_taken v.position in
    let n = samples_taken (v.position + m) - a in
    let end : n + a ≤ suc (data_bits v.format) = omega (arith, s.before) in
    let most : 2 ^ (n + a) ≤ 2 ^ suc (data_bits v.format) = pow_mono end in
    let less = with_less w q n v s.character (start_few q m v s more) in
    omega arith

-- the data with those heard, h, above them
all_same : (w q m a k h : ℕ) (v : Receiver) → Sampled q m v → a ≡ samples_taken v.position → k ≡ samples_taken (v.position + m) → a < k
    → h ≡ samples_heard w (q + 24 + 16 * a - v.position) (k - a)
    → v.samples + h * 2 ^ a % 2 ^ 32 ≡ samples_with w q (samples_taken (v.position + m) - samples_taken v.position) v
unfolding samples_with samples_of
all_same w q m a k h v s ea ek more eh =
    ap (λ (x : ℕ). v.samples + x) (shl_exact {a = h} (k - a) a 32 less few ∙ ap₂ (λ (x y : ℕ). x * 2 ^ y) heard ea)
    ∙ ap (λ (x : ℕ). x + samples_heard w p n * 2 ^ b) whole
  where
    b : ℕ
    b = samples_taken v.position

    n : ℕ
    n = samples_taken (v.position + m) - b

    p : ℕ
    p = q + (24 + 16 * b - v.position)

    few : k - a + a ≤ 32
    few = omega (arith, s.before)

    less : h < 2 ^ (k - a)
    less = rw eh (heard_less w (q + 24 + 16 * a - v.position) (k - a))

    heard : h ≡ samples_heard w p n
    heard =
        let place : q + 24 + 16 * a - v.position ≡ p = omega arith in
        let count : k - a ≡ n = omega arith in
        eh ∙ ap₂ (λ (x y : ℕ). samples_heard w x y) place count

    whole : v.samples ≡ v.samples + v.parity * 2 ^ data_bits v.format
    whole =
        let none : v.parity ≡ 0 = omega (arith, s.before, s.character.parity) in
        rw none (omega arith)

-- the sum x that the code makes: all the samples, and it fits
pub record All (w q m x : ℕ) (v : Receiver) : Type 0 where
  pub same : x ≡ samples_with w q (samples_taken (v.position + m) - samples_taken v.position) v
  pub less : x < 2 ^ suc (data_bits v.format)
  pub fits : x < 2 ^ 32

pub all_is : (w q m a k h : ℕ) (v : Receiver) → Sampled q m v → a ≡ samples_taken v.position → k ≡ samples_taken (v.position + m)
    → (k ≡ a → ⊥)
    → h ≡ samples_heard w (q + 24 + 16 * a - v.position) (k - a)
    → All w q m (v.samples + h * 2 ^ a % 2 ^ 32) v
all_is w q m a k h v s ea ek other eh =
    let more : a < k = omega arith in
    let same = all_same w q m a k h v s ea ek more eh in
    let less = all_less w q m v s (omega arith) in
    let most : 2 ^ suc (data_bits v.format) ≤ 2 ^ 32 = pow_mono {i = suc (data_bits v.format)} {j = 32} (omega arith) in
    record { same = same; less = rw same less; fits = rw same (omega arith) }
