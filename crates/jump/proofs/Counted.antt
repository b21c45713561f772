-- The number of jumps by division: jump by jump, and its bound.
use Prim.Native.Nat.{ℕ, zero, suc, ◌+◌, ◌-◌, ◌*◌, ◌/◌, ◌≤◌, ◌<◌}
use native.Mathlib.Nat.{div-add-mod', mod-lt, suc-mul, div-lt_iff_lt-mul, div-eq_of_lt, div-eq-sub-div}
use native.Mathlib.Omega.{arith}
use mathlib.Core.Path.{◌≡◌, refl, ap, ◌∙◌}
use mathlib.Core.Bool.{Bool, true, false, ◌||◌}
use lib.Dec.{leb, eqb}
use borrow.Author.Tests.{ne_eqb, le-leb, lt-leb, leb-true, leb-false}
use Rattle.flag.proofs.Laws.{by_test}
use Rattle.jump.specs.Count.{jump_count}

-- one jump without a clock, or up to the first pulse
pub count_stopped : (k n : ℕ) → 1 ≤ n → jump_count 0 k n ≡ 1
unfolding jump_count
count_stopped k n some = simp (ne_eqb n 0 (omega arith))

pub count_first : (D k n : ℕ) → 1 ≤ D → 1 ≤ n → n ≤ k → jump_count D k n ≡ 1
unfolding jump_count
count_first D k n d some h = simp (ne_eqb n 0 (omega arith), ne_eqb D 0 (omega arith), le-leb n k h)

-- more than one
count_more : (D k n : ℕ) → 1 ≤ D → k < n → jump_count D k n ≡ 2 + (n - k - 1) / D
unfolding jump_count
count_more D k n d h = simp (ne_eqb n 0 (omega arith), ne_eqb D 0 (omega arith), lt-leb n k h)

-- those of m + 1 ticks behind a pulse, which leaves k at D
count_behind : (D m : ℕ) → 1 ≤ D → 2 + m / D ≡ 1 + jump_count D D (suc m)
count_behind D m d = go (leb (suc m) D) refl
  where
    go : (b : Bool) → leb (suc m) D ≡ b → 2 + m / D ≡ 1 + jump_count D D (suc m)
    go true p =
        let short = leb-true (suc m) D p in
        let one = count_first D D (suc m) d (omega arith) short in
        let none : m / D ≡ 0 = div-eq_of_lt (omega arith) in
        omega arith
    go false p =
        let long = leb-false (suc m) D p in
        let rest : suc m - D - 1 ≡ m - D = omega arith in
        let more : jump_count D D (suc m) ≡ 2 + (m - D) / D = count_more D D (suc m) d (omega arith) ∙ ap (λ (i : ℕ). 2 + i / D) rest in
        let less : m / D ≡ (m - D) / D + 1 = div-eq-sub-div d (omega arith) in
        omega arith

-- a jump to a pulse, and then those of m ticks
pub count_pulse : (D k m : ℕ) → 1 ≤ D → 1 ≤ k → jump_count D k (k + m) ≡ 1 + jump_count D D m
unfolding jump_count
count_pulse D k zero d some = count_first D k (k + 0) d (omega arith) (omega arith)
count_pulse D k (suc m) d some =
    let rest : k + suc m - k - 1 ≡ m = omega arith in
    count_more D k (k + suc m) d (omega arith) ∙ ap (λ (i : ℕ). 2 + i / D) rest ∙ count_behind D m d

-- a smaller number has no larger quotient
pub quotient_below : (D m n : ℕ) → 1 ≤ D → m ≤ n → m / D ≤ n / D
quotient_below D m n d h =
    let whole = div-add-mod' n D in
    let rest = mod-lt n d in
    let next : suc (n / D) * D ≡ n / D * D + D = suc-mul (n / D) D in
    let below : m / D < suc (n / D) = (div-lt_iff_lt-mul d).1 (omega arith) in
    omega arith

-- the bound
pub count_most : (D k n : ℕ) → 1 ≤ D → jump_count D k n ≤ 2 + n / D
unfolding jump_count
count_most D k n d =
    by_test (λ (j : ℕ). j ≤ 2 + n / D) (eqb n 0) _ _
    (λ _. omega arith)
    (λ _. by_test (λ (j : ℕ). j ≤ 2 + n / D) (eqb D 0 || leb n k) _ _
    (λ _. omega arith)
    (λ _. let less = quotient_below D (n - k - 1) n d (omega arith) in omega arith))
