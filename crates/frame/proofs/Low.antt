-- Laws of the low bits of a frame as a number: the bit at a place, the line by it, and the number that the code makes.
use Prim.Native.Nat.{ℕ, zero, suc, ◌+◌, ◌-◌, ◌*◌, ◌/◌, ◌%◌, ◌^◌, ◌≤◌, ◌<◌}
use native.Mathlib.Nat.{div-one, div-div-eq-div-mul, pow-succ', mod-one, zero-div, mod-lt, mul-zero, mul_comm, mul_assoc, mul-le-mul}
use native.Mathlib.Numerals.{add-one}
use native.Mathlib.Omega.{arith}
use mathlib.Core.Path.{◌≡◌, refl, sym, ap, ◌∙◌}
use mathlib.Core.List.{List, [], ◌∷◌, ◌++◌}
use mathlib.Core.Logic.{⊎_elim}
use lib.ListN.{length, get_or, replicate}
use lib.Pow.{pow_pos, pow_mono, shr-shr, mod-pow-add}
use Rattle.flag.proofs.Laws.{by_test}
use Rattle.frame.specs.Format.{data_bits, parity_bits, frame_length, character_of, has_parity, parity_bit}
use Rattle.frame.specs.Frame.{bits, frame_bits, frame_levels, line_level}
use Rattle.frame.specs.Low.{low_bits}
use Rattle.frame.proofs.Frames.{less_or_not, stop_bounds, length-bits, level_in_frame, level_stop, line-place}

-- Any list of bits.

-- from the second place on, the number of the rest
low-rest : (b : ℕ) (bs : List ℕ) (i : ℕ) → b ≤ 1 → low_bits (b ∷ bs) / 2 ^ suc i ≡ low_bits bs / 2 ^ i
unfolding low_bits
low-rest b bs i h =
    let e : (1 - b + 2 * low_bits bs) / 2 ≡ low_bits bs = omega arith in
    ap (λ (n : ℕ). low_bits (b ∷ bs) / n) (pow-succ' 2 i)
    ∙ sym (div-div-eq-div-mul (low_bits (b ∷ bs)) 2 (2 ^ i))
    ∙ ap (λ (n : ℕ). n / 2 ^ i) e

-- the bit at a place
pub low_bit : (bs : List ℕ) → ((i : ℕ) → get_or bs i 1 ≤ 1) → (i : ℕ) → get_or bs i 1 ≡ 1 - low_bits bs / 2 ^ i % 2
unfolding low_bits
low_bit [] h i = simp zero-div
low_bit (b ∷ bs) h zero = let e : b ≤ 1 = h 0 in rw (div-one (1 - b + 2 * low_bits bs)) (omega arith)
low_bit (b ∷ bs) h (suc i) =
    low_bit bs (λ (j : ℕ). h (suc j)) i ∙ ap (λ (n : ℕ). 1 - n % 2) (sym (low-rest b bs i (h 0)))

none-later : (n i j : ℕ) → n / 2 ^ i ≡ 0 → i ≤ j → n / 2 ^ j ≡ 0
none-later n i j e h =
    let s : j ≡ i + (j - i) = omega arith in
    ap (λ (m : ℕ). n / 2 ^ m) s
    ∙ sym (shr-shr n i (j - i))
    ∙ ap (λ (m : ℕ). m / 2 ^ (j - i)) e
    ∙ zero-div (2 ^ (j - i))

-- where no low bit is left from place i on, each is high from there on
pub low-none : (bs : List ℕ) → ((i : ℕ) → get_or bs i 1 ≤ 1) → (i j : ℕ) → low_bits bs / 2 ^ i ≡ 0 → i ≤ j → get_or bs j 1 ≡ 1
low-none bs h i j e l = low_bit bs h j ∙ ap (λ (n : ℕ). 1 - n % 2) (none-later (low_bits bs) i j e l)

-- n low bits are 2 ^ n − 1
pub low-replicate : (n : ℕ) → low_bits (replicate n 0) ≡ 2 ^ n - 1
unfolding low_bits
low-replicate zero = refl
low-replicate (suc n) = rw (low-replicate n, pow-succ' 2 n) (omega (arith, pow_pos n))

-- and each of them is low
pub low-all : (n i : ℕ) → i < n → low_bits (replicate n 0) / 2 ^ i % 2 ≡ 1
unfolding low_bits
low-all zero i h = absurd (omega arith)
low-all (suc n) zero h = rw (div-one (1 - 0 + 2 * low_bits (replicate n 0))) (omega arith)
low-all (suc n) (suc i) h = ap (λ (m : ℕ). m % 2) (low-rest 0 (replicate n 0) i (omega arith)) ∙ low-all n i (omega arith)

twice : (n m : ℕ) → 2 ^ suc n * m ≡ 2 * (2 ^ n * m)
twice n m = ap (λ (k : ℕ). k * m) (pow-succ' 2 n) ∙ mul_assoc 2 (2 ^ n) m

low-append : (xs ys : List ℕ) → low_bits (xs ++ ys) ≡ low_bits xs + 2 ^ length xs * low_bits ys
unfolding low_bits
low-append [] ys = omega arith
low-append (x ∷ xs) ys = rw (low-append xs ys, twice (length xs) (low_bits ys)) (omega arith)

-- The bits of a frame.

-- with the n lowest bits of x, their low places make all ones: 2 ^ n − 1
low_of_bits : (n x : ℕ) → low_bits (bits n x) + x % 2 ^ n + 1 ≡ 2 ^ n
unfolding low_bits bits
low_of_bits zero x = ap (λ (m : ℕ). 0 + m + 1) (mod-one x)
low_of_bits (suc n) x =
    let rest : low_bits (bits n (x / 2)) + x / 2 % 2 ^ n + 1 ≡ 2 ^ n = low_of_bits n (x / 2) in
    let split : x % 2 ^ suc n ≡ x / 2 % 2 ^ n * 2 + x % 2 = ap (λ (m : ℕ). x % 2 ^ m) (sym (add-one n)) ∙ mod-pow-add x n 1 in
    rw (split, pow-succ' 2 n) (omega arith)

bits_flags : (n x i : ℕ) → get_or (bits n x) i 1 ≤ 1
unfolding bits
bits_flags zero x i = omega arith
bits_flags (suc n) x zero = omega arith
bits_flags (suc n) x (suc i) = bits_flags n (x / 2) i

append_flags : (xs ys : List ℕ) → ((i : ℕ) → get_or xs i 1 ≤ 1) → ((i : ℕ) → get_or ys i 1 ≤ 1) → (i : ℕ) → get_or (xs ++ ys) i 1 ≤ 1
append_flags [] ys h k i = k i
append_flags (x ∷ xs) ys h k zero = h 0
append_flags (x ∷ xs) ys h k (suc i) = append_flags xs ys (λ (j : ℕ). h (suc j)) k i

replicate_flags : (n b i : ℕ) → b ≤ 1 → get_or (replicate n b) i 1 ≤ 1
replicate_flags zero b i h = omega arith
replicate_flags (suc n) b zero h = h
replicate_flags (suc n) b (suc i) h = replicate_flags n b i h

parity_flag : (x f : ℕ) → parity_bit x f ≤ 1
unfolding parity_bit
parity_flag x f = by_test (λ (n : ℕ). n ≤ 1) (has_parity x f 1) 1 0 (λ _. omega arith) (λ _. omega arith)

-- each is at most 1
pub frame_bits_flags : (x f i : ℕ) → get_or (frame_bits x f) i 1 ≤ 1
unfolding frame_bits
frame_bits_flags x f zero = omega arith
frame_bits_flags x f (suc i) =
    append_flags (bits (data_bits f) x) (replicate (parity_bits f) (parity_bit x f))
    (bits_flags (data_bits f) x)
    (λ (j : ℕ). replicate_flags (parity_bits f) (parity_bit x f) j (parity_flag x f))
    i

-- The number that the code makes.

-- the start bit, the data, then the parity bit
low_frame : (x f : ℕ)
    → low_bits (frame_bits x f) ≡ 1 + 2 * (2 ^ data_bits f - 1 - character_of x f) + 2 * (2 ^ data_bits f * low_bits (replicate (parity_bits f) (parity_bit x f)))
unfolding low_bits frame_bits
low_frame x f =
    rw (low-append (bits (data_bits f) x) (replicate (parity_bits f) (parity_bit x f)), length-bits)
    (omega (arith, low_of_bits (data_bits f) x))

-- without a parity bit
pub low_frame_plain : (x f n c : ℕ) → n ≡ data_bits f → c ≡ character_of x f → parity_bits f ≡ 0
    → low_bits (frame_bits x f) ≡ 1 + 2 * (2 ^ n - 1 - c)
unfolding low_bits
low_frame_plain x f n c e k none = low_frame x f ∙ rw (e, k, none, mul-zero (2 ^ data_bits f)) (omega arith)

-- with a parity bit
pub low_frame_parity : (x f n c p : ℕ) → n ≡ data_bits f → c ≡ character_of x f → p ≡ parity_bit x f → parity_bits f ≡ 1
    → low_bits (frame_bits x f) ≡ 1 + 2 * (2 ^ n - 1 - c) + (1 - p) * 2 ^ (n + 1)
unfolding low_bits
low_frame_parity x f n c p en ec ep one =
    let e : (1 - p) * 2 ^ (n + 1) ≡ 2 * (2 ^ n * (1 - p)) = mul_comm (1 - p) (2 ^ (n + 1)) ∙ rw add-one (twice n (1 - p)) in
    let z : 1 - p + 2 * 0 ≡ 1 - p = omega arith in
    low_frame x f ∙ rw (one, ← ep, ← ec, ← en, z, e) refl

-- the powers in it are small
pub power_bounds : (n : ℕ) → n ≤ 8 → (1 ≤ 2 ^ n) × (2 ^ n ≤ 256)
power_bounds n h = (pow_pos n, pow_mono h)

pub parity_bounds : (p n : ℕ) → n ≤ 8 → (1 - p) * 2 ^ (n + 1) ≤ 512
parity_bounds p n h =
    let a : 1 - p ≤ 1 = omega arith in
    let b : n + 1 ≤ 9 = omega arith in
    mul-le-mul a (pow_mono b)

pub character_bounds : (x f n c : ℕ) → n ≡ data_bits f → c ≡ character_of x f → c < 2 ^ n
character_bounds x f n c e k = rw (e, k) (mod-lt x (pow_pos (data_bits f)))

-- The line.

after_frame : (x f i : ℕ) → frame_length f ≤ i → get_or (frame_levels x f) i 1 ≡ 1
unfolding frame_length
after_frame x f i h = let b = stop_bounds f in level_stop x f i (omega arith)

line_empty : (x f : ℕ) → line_level 0 x f ≡ 1
unfolding line_level
line_empty x f = refl

-- the line of a frame, i pulses on and nothing loaded: the bit at that place, high after the frame
pub line_low : (l x f i : ℕ) → l ≤ frame_length f
    → line_level (l - i) x f ≡ 1 - low_bits (frame_bits x f) / 2 ^ ((frame_length f - l + i) / 16) % 2
line_low l x f i h = ⊎_elim within after (less_or_not i l) ∙ level_in_frame x f _ ∙ low_bit (frame_bits x f) (frame_bits_flags x f) _
  where
    within : i < l → line_level (l - i) x f ≡ get_or (frame_levels x f) (frame_length f - l + i) 1
    within k =
        let e : frame_length f - (l - i) ≡ frame_length f - l + i = omega arith in
        line-place (l - i) x f (λ z. absurd (omega arith)) ∙ ap (λ (n : ℕ). get_or (frame_levels x f) n 1) e

    after : l ≤ i → line_level (l - i) x f ≡ get_or (frame_levels x f) (frame_length f - l + i) 1
    after k =
        let z : l - i ≡ 0 = omega arith in
        ap (λ (n : ℕ). line_level n x f) z ∙ line_empty x f ∙ sym (after_frame x f (frame_length f - l + i) (omega arith))

-- and where no low bit is left from the next pulse on, it stays high
pub line_stays : (l x f i : ℕ) → l ≤ frame_length f → low_bits (frame_bits x f) / 2 ^ ((frame_length f - l + 1) / 16) ≡ 0
    → line_level (l - suc i) x f ≡ 1
line_stays l x f i h e =
    line_low l x f (suc i) h
    ∙ ap (λ (n : ℕ). 1 - n % 2) (none-later (low_bits (frame_bits x f)) ((frame_length f - l + 1) / 16) _ e (omega arith))
