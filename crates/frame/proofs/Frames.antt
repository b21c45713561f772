-- Laws of frames: F levels in each, F between 112 and 192, and the level at a place by division.
use Prim.Native.Nat.{ℕ, zero, suc, ◌+◌, ◌-◌, ◌*◌, ◌/◌, ◌%◌, ◌^◌, ◌≤◌, ◌<◌}
use native.Mathlib.Nat.{div-eq_of_lt, div-eq-sub-div, div-div-eq-div-mul, div-one, pow-succ', suc-mul, add-zero}
use native.Mathlib.Numerals.{add-one}
use native.Mathlib.Decide.{dec_lt}
use native.Mathlib.Omega.{arith}
use mathlib.Core.Path.{◌≡◌, refl, sym, ap, ◌∙◌}
use mathlib.Core.List.{List, [], ◌∷◌, ◌++◌}
use mathlib.Core.Logic.{◌⊎◌, inl, inr, ⊎_elim}
use lib.ListN.{length, get_or, replicate, length-append, length-replicate, get_or-replicate, get_or-append, get_or-eq_default}
use lib.Seq.{get_or-append-add, get_or-drop}
use borrow.Author.Tests.{ne_eqb}
use lib.Dec.{eqb}
use Rattle.flag.specs.Flag.{bit}
use Rattle.flag.proofs.Laws.{by_test}
use Rattle.frame.specs.Format.{data_bits, parity_bits, stop_pulses, frame_length, parity_bit}
use Rattle.frame.specs.Frame.{bits, frame_bits, stretch, frame_levels, line_level}

pub less_or_not : (a b : ℕ) → (a < b) ⊎ (b ≤ a)
less_or_not a b = elim (dec_lt a b) [ yes h ↦ inl h | no h ↦ inr (omega arith) ]

-- the stop is 16 to 32 pulses
pub stop_bounds : (f : ℕ) → (16 ≤ stop_pulses f) × (stop_pulses f ≤ 32)
unfolding stop_pulses
stop_bounds f =
    by_test (λ (n : ℕ). (16 ≤ n) × (n ≤ 32)) (bit 2 f) _ _
    (λ _. by_test (λ (n : ℕ). (16 ≤ n) × (n ≤ 32)) (eqb (data_bits f) 5) _ _ (λ _. omega arith) (λ _. omega arith))
    (λ _. omega arith)

-- 112 ≤ F ≤ 192
pub frame_length_bounds : (f : ℕ) → (112 ≤ frame_length f) × (frame_length f ≤ 192)
unfolding frame_length
frame_length_bounds f = let b = stop_bounds f in (omega arith, omega arith)

pub length-bits : (n x : ℕ) → length (bits n x) ≡ n
unfolding bits
length-bits zero x = refl
length-bits (suc n) x = ap suc (length-bits n _)

length-stretch : (n : ℕ) (bs : List ℕ) → length (stretch n bs) ≡ length bs * n
length-stretch n [] = omega arith
length-stretch n (b ∷ bs) = simp (length-append, length-replicate, length-stretch n bs, suc-mul) (omega arith)

length-frame_bits : (x f : ℕ) → length (frame_bits x f) ≡ 1 + data_bits f + parity_bits f
unfolding frame_bits
length-frame_bits x f = simp (length-append, length-replicate, length-bits) (omega arith)

-- a frame has F levels
pub length-frame_levels : (x f : ℕ) → length (frame_levels x f) ≡ frame_length f
unfolding frame_levels frame_length
length-frame_levels x f = simp (length-append, length-replicate, length-stretch, length-frame_bits) (omega arith)

-- more of the default behind a list
get_or_padded : (xs : List ℕ) (m i d : ℕ) → get_or (xs ++ replicate m d) i d ≡ get_or xs i d
get_or_padded [] zero i d = refl
get_or_padded [] (suc m) zero d = refl
get_or_padded [] (suc m) (suc i) d = get_or_padded [] m i d
get_or_padded (x ∷ xs) m zero d = refl
get_or_padded (x ∷ xs) m (suc i) d = get_or_padded xs m i d

-- each bit lasts n pulses
get_or-stretch : (n : ℕ) (bs : List ℕ) (i : ℕ) → 0 < n → get_or (stretch n bs) i 1 ≡ get_or bs (i / n) 1
get_or-stretch n [] i h = refl
get_or-stretch n (b ∷ bs) i h = ⊎_elim before (behind (get_or-stretch n bs (i - n) h)) (less_or_not i n)
  where
    before : i < n → get_or (replicate n b ++ stretch n bs) i 1 ≡ get_or (b ∷ bs) (i / n) 1
    before l =
        get_or-append (replicate n b) (stretch n bs) 1 i (simp length-replicate l)
        ∙ get_or-replicate n i b 1 l
        ∙ ap (λ (m : ℕ). get_or (b ∷ bs) m 1) (sym (div-eq_of_lt l))

    behind : get_or (stretch n bs) (i - n) 1 ≡ get_or bs ((i - n) / n) 1 → n ≤ i → get_or (replicate n b ++ stretch n bs) i 1 ≡ get_or (b ∷ bs) (i / n) 1
    behind rest l =
        let e : length (replicate n b) + (i - n) ≡ i = simp length-replicate (omega arith) in
        ap (λ (m : ℕ). get_or (replicate n b ++ stretch n bs) m 1) (sym e)
        ∙ get_or-append-add (replicate n b) (stretch n bs) (i - n) 1
        ∙ rest
        ∙ ap (λ (m : ℕ). get_or (b ∷ bs) m 1) (sym (div-eq-sub-div h l ∙ add-one ((i - n) / n)))

-- the level at a place is the bit there, the stop high
pub level_in_frame : (x f i : ℕ) → get_or (frame_levels x f) i 1 ≡ get_or (frame_bits x f) (i / 16) 1
unfolding frame_levels
level_in_frame x f i = get_or_padded (stretch 16 (frame_bits x f)) (stop_pulses f) i 1 ∙ get_or-stretch 16 (frame_bits x f) i (omega arith)

get_d_bits : (n x j : ℕ) → j < n → get_or (bits n x) j 1 ≡ x / 2 ^ j % 2
unfolding bits
get_d_bits zero x j l = absurd (omega arith)
get_d_bits (suc n) x zero l = ap (λ (y : ℕ). y % 2) (sym (div-one x))
get_d_bits (suc n) x (suc j) l =
    get_d_bits n (x / 2) j (omega arith)
    ∙ ap (λ (y : ℕ). y % 2) (div-div-eq-div-mul x 2 (2 ^ j) ∙ ap (λ (y : ℕ). x / y) (sym (pow-succ' 2 j)))

-- The level at a place, by the bit that it falls into.

pub level_start : (x f i : ℕ) → i / 16 ≡ 0 → get_or (frame_levels x f) i 1 ≡ 0
unfolding frame_bits
level_start x f i e = level_in_frame x f i ∙ ap (λ (n : ℕ). get_or (frame_bits x f) n 1) e

pub level_data : (x f i j : ℕ) → i / 16 ≡ suc j → j < data_bits f → get_or (frame_levels x f) i 1 ≡ x / 2 ^ j % 2
unfolding frame_bits
level_data x f i j e l =
    level_in_frame x f i
    ∙ ap (λ (n : ℕ). get_or (frame_bits x f) n 1) e
    ∙ get_or-append (bits (data_bits f) x) (replicate (parity_bits f) (parity_bit x f)) 1 j (simp length-bits l)
    ∙ get_d_bits (data_bits f) x j l

-- behind the data: the parity bit, or the stop where there is none
level_behind : (x f i j : ℕ) → i / 16 ≡ suc (data_bits f + j) → get_or (frame_levels x f) i 1 ≡ get_or (replicate (parity_bits f) (parity_bit x f)) j 1
unfolding frame_bits
level_behind x f i j e =
    let l : suc (length (bits (data_bits f) x) + j) ≡ suc (data_bits f + j) = simp length-bits in
    level_in_frame x f i
    ∙ ap (λ (n : ℕ). get_or (frame_bits x f) n 1) (e ∙ sym l)
    ∙ get_or-append-add (bits (data_bits f) x) (replicate (parity_bits f) (parity_bit x f)) j 1

pub level-parity : (x f i : ℕ) → i / 16 ≡ 1 + data_bits f → parity_bits f ≡ 1 → get_or (frame_levels x f) i 1 ≡ parity_bit x f
level-parity x f i e one =
    let e' : i / 16 ≡ suc (data_bits f + 0) = omega arith in
    level_behind x f i 0 e' ∙ ap (λ (n : ℕ). get_or (replicate n (parity_bit x f)) 0 1) one

pub level_stop : (x f i : ℕ) → 1 + data_bits f + parity_bits f ≤ i / 16 → get_or (frame_levels x f) i 1 ≡ 1
level_stop x f i l =
    level_in_frame x f i ∙ get_or-eq_default (frame_bits x f) 1 (rw length-frame_bits l)

-- the line while a frame is sent is the level at the place that L leaves
pub line-place : (l x f : ℕ) → (l ≡ 0 → ⊥) → line_level l x f ≡ get_or (frame_levels x f) (frame_length f - l) 1
unfolding line_level
line-place l x f n =
    simp (ne_eqb l 0 n)
    (get_or-drop (length (frame_levels x f) - l) (frame_levels x f) 0 1
    ∙ ap (λ (m : ℕ). get_or (frame_levels x f) m 1) (add-zero (length (frame_levels x f) - l) ∙ ap (λ (m : ℕ). m - l) (length-frame_levels x f)))
