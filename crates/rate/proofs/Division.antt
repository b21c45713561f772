-- The divisor by division is the one that is claimed. The clock is its quotient by a step, 16 × rate, in steps, and a rest
-- below a step.
use Prim.Native.Nat.{ℕ, ◌+◌, ◌*◌, ◌/◌, ◌%◌, ◌≤◌, ◌<◌}
use native.Mathlib.Nat.{div-add-mod', mod-lt, mul-le-mul_right, le_of_lt, le_refl}
use native.Mathlib.Omega.{arith}
use mathlib.Core.Path.{◌≡◌, ap}
use mathlib.Core.Bool.{false, cond}
use lib.Dec.{leb, eqb}
use borrow.Author.Tests.{leb-true, leb-false, eqb-true, eqb-false}
use Rattle.flag.proofs.Laws.{by_test}
use Rattle.rate.specs.Rate.{distance, Nearest}
use Rattle.rate.proofs.Distance.{distance_is, multiples, by_order}

-- a divisor is claimed where each smaller one is further, and no larger one nearer
claimed : (clock rate d : ℕ) → 1 ≤ d → d ≤ 65535 → ((e : ℕ) → 1 ≤ e → e < d → distance clock rate d < distance clock rate e) → ((e : ℕ) → e ≤ 65535 → d < e → distance clock rate d ≤ distance clock rate e) → Nearest 65535 clock rate d
claimed clock rate d one most smaller larger =
    record {
      from_one = one;
      to_most = most;
      none-nearer = λ e least top. by_order (λ (e : ℕ). distance clock rate d ≤ distance clock rate e) d e
          (λ less. le_of_lt (smaller e least less))
          (le_refl _)
          (larger e top);
      none_smaller = λ e least top same. by_order (λ (e : ℕ). distance clock rate e ≡ distance clock rate d → d ≤ e) d e
          (λ less equal. let further : distance clock rate d < distance clock rate e = smaller e least less in omega arith)
          (λ equal. le_refl _)
          (λ more equal. le_of_lt more)
          same;
    }

-- the divisor by division
abbrev pub by_division : ℕ → ℕ → ℕ
by_division clock rate =
    cond (eqb (clock / (16 * rate)) 0) 1
    (cond (leb 65535 (clock / (16 * rate))) 65535
    (cond (leb (clock % (16 * rate)) (8 * rate)) (clock / (16 * rate)) (clock / (16 * rate) + 1)))

module _ (clock rate : ℕ) (h : 1 ≤ rate) where
  abbrev step : ℕ
  step = 16 * rate

  -- a divisor whose multiple passes the clock by less than half a step is nearer than each smaller one
  smaller_further : (d e : ℕ) → d * step < clock + 8 * rate → e < d → distance clock rate d < distance clock rate e
  smaller_further d e low less =
      let apart : e * step + step ≤ d * step = multiples step less in
      rw (distance_is clock rate d, distance_is clock rate e) (omega arith)

  -- a divisor whose multiple falls short of the clock by at most half a step is no further than each larger one
  larger_further : (d e : ℕ) → clock ≤ d * step + 8 * rate → d < e → distance clock rate d ≤ distance clock rate e
  larger_further d e high more =
      let apart : d * step + step ≤ e * step = multiples step more in
      rw (distance_is clock rate d, distance_is clock rate e) (omega arith)

  -- the clock as its quotient in steps and the rest
  whole : clock / step * step + clock % step ≡ clock
  whole = div-add-mod' clock step

  rest : clock % step < step
  rest = mod-lt clock (omega arith)

  -- less than a step: 1
  pub less_than_one : clock / step ≡ 0 → Nearest 65535 clock rate 1
  less_than_one none =
      let short : clock / step * step ≡ 0 * step = ap (λ (n : ℕ). n * step) none in
      let all : clock / step * step + clock % step ≡ clock = whole in
      let below : clock % step < step = rest in
      claimed clock rate 1 (omega arith) (omega arith)
      (λ e least less. absurd (omega arith))
      (λ e _ more. larger_further 1 e (omega arith) more)

  -- the quotient is beyond the last divisor: 65535
  pub beyond : 65535 ≤ clock / step → Nearest 65535 clock rate 65535
  beyond far =
      let long : 65535 * step ≤ clock / step * step = mul-le-mul_right step far in
      let all : clock / step * step + clock % step ≡ clock = whole in
      claimed clock rate 65535 (omega arith) (omega arith)
      (λ e _ less. smaller_further 65535 e (omega arith) less)
      (λ e top more. absurd (omega arith))

  -- at most half a step is left: the quotient
  pub down : 1 ≤ clock / step → clock / step ≤ 65535 → clock % step ≤ 8 * rate → Nearest 65535 clock rate (clock / step)
  down one most half =
      let all : clock / step * step + clock % step ≡ clock = whole in
      claimed clock rate (clock / step) one most
      (λ e _ less. smaller_further (clock / step) e (omega arith) less)
      (λ e _ more. larger_further (clock / step) e (omega arith) more)

  -- more is left: the next
  pub up : clock / step < 65535 → 8 * rate < clock % step → Nearest 65535 clock rate (clock / step + 1)
  up most half =
      let all : clock / step * step + clock % step ≡ clock = whole in
      let below : clock % step < step = rest in
      let next : (clock / step + 1) * step ≡ clock / step * step + step = omega arith in
      claimed clock rate (clock / step + 1) (omega arith) (omega arith)
      (λ e _ less. smaller_further (clock / step + 1) e (omega arith) less)
      (λ e _ more. larger_further (clock / step + 1) e (omega arith) more)

  -- so that this is the one that is claimed
  pub divided : Nearest 65535 clock rate (by_division clock rate)
  divided =
      by_test (Nearest 65535 clock rate) (eqb (clock / step) 0) _ _
      (λ t. less_than_one (eqb-true _ _ t))
      (λ t. by_test (Nearest 65535 clock rate) (leb 65535 (clock / step)) _ _
      (λ u. beyond (leb-true _ _ u))
      (λ u. by_test (Nearest 65535 clock rate) (leb (clock % step) (8 * rate)) _ _
      (λ v. down (some t) (omega (arith, leb-false 65535 (clock / step) u)) (leb-true _ _ v))
      (λ v. up (leb-false _ _ u) (leb-false _ _ v))))
    where
      some : eqb (clock / step) 0 ≡ false → 1 ≤ clock / step
      some t = omega (arith, eqb-false (clock / step) 0 t)
