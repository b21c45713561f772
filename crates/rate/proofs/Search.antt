-- The search over all divisors finds the one that is claimed, and no other divisor is claimed.
use Prim.Native.Nat.{ℕ, zero, suc, ◌≤◌, ◌<◌}
use native.Mathlib.Nat.{le_antisymm, le_refl}
use native.Mathlib.Omega.{arith}
use mathlib.Core.Path.{◌≡◌, sym, subst}
use mathlib.Core.Bool.{true}
use lib.Dec.{leb, ltb}
use borrow.Author.Tests.{leb-true, ltb-true, ltb-false}
use Rattle.flag.proofs.Laws.{by_test, and_left, and_right}
use Rattle.rate.specs.Rate.{distance, nearer, nearest_up_to, within, Nearest}
use Rattle.rate.proofs.Distance.{by_order}

-- of two that are claimed neither is nearer, so that neither is smaller
pub only_one : {most clock rate d e : ℕ} → Nearest most clock rate d → Nearest most clock rate e → d ≡ e
only_one {most} {clock} {rate} {d} {e} p q =
    let same : distance clock rate d ≡ distance clock rate e = le_antisymm (p.none-nearer e q.from_one q.to_most) (q.none-nearer d p.from_one p.to_most) in
    le_antisymm (p.none_smaller e q.from_one q.to_most (sym same)) (q.none_smaller d p.from_one p.to_most same)

-- a claim about the divisors up to n and about the next one is one about those up to it
up_to : (P : ℕ → Type 0) (n d : ℕ) → d ≤ suc n → (d ≤ n → P d) → P (suc n) → P d
up_to P n d h below last = by_order P (suc n) d (λ less. below (omega arith)) last (λ more. absurd (omega arith))

module _ (clock rate : ℕ) where
  abbrev far : ℕ → ℕ
  far d = distance clock rate d

  -- the next divisor is nearer than what was found
  taken : (n d : ℕ) → Nearest n clock rate d → far (suc n) < far d → Nearest (suc n) clock rate (suc n)
  taken n d p h =
      record {
        from_one = omega arith;
        to_most = omega arith;
        none-nearer = λ e one most. up_to (λ (e : ℕ). far (suc n) ≤ far e) n e most
            (λ below. let near : far d ≤ far e = p.none-nearer e one below in omega arith)
            (omega arith);
        none_smaller = λ e one most same. up_to (λ (e : ℕ). far e ≡ far (suc n) → suc n ≤ e) n e most
            (λ below eq. let near : far d ≤ far e = p.none-nearer e one below in omega arith)
            (λ eq. omega arith)
            same;
      }

  -- it is not
  passed : (n d : ℕ) → Nearest n clock rate d → far d ≤ far (suc n) → Nearest (suc n) clock rate d
  passed n d p h =
      record {
        from_one = p.from_one;
        to_most = (let most : d ≤ n = p.to_most in omega arith);
        none-nearer = λ e one most. up_to (λ (e : ℕ). far d ≤ far e) n e most (p.none-nearer e one) h;
        none_smaller = λ e one most same. up_to (λ (e : ℕ). far e ≡ far d → d ≤ e) n e most
            (p.none_smaller e one)
            (λ eq. let most : d ≤ n = p.to_most in omega arith)
            same;
      }

  -- the next one is looked at
  looked : (n d : ℕ) → Nearest n clock rate d → Nearest (suc n) clock rate (nearer clock rate d (suc n))
  looked n d p =
      by_test (λ (r : ℕ). Nearest (suc n) clock rate r) (ltb (far (suc n)) (far d)) (suc n) d
      (λ t. taken n d p (ltb-true _ _ t))
      (λ t. passed n d p (ltb-false _ _ t))

  -- divisor 1, also where it is looked at again
  first : Nearest 1 clock rate 1
  first =
      record {
        from_one = omega arith;
        to_most = omega arith;
        none-nearer = λ e one most. let same : 1 ≡ e = omega arith in subst (λ (e : ℕ). far 1 ≤ far e) same (le_refl _);
        none_smaller = λ e one most same. one;
      }

  -- the divisor that is found among those from 1 up
  pub found : (n : ℕ) → Nearest (suc n) clock rate (nearest_up_to (suc n) clock rate)
  unfolding nearest_up_to
  found zero = by_test (λ (r : ℕ). Nearest 1 clock rate r) (ltb (far 1) (far 1)) 1 1 (λ _. first) (λ _. first)
  found (suc n) = looked (suc n) (nearest_up_to (suc n) clock rate) (found n)

-- what a clock and a rate within their ranges are
pub inside : (clock rate : ℕ) → within clock rate ≡ true → (1 ≤ clock) × (clock ≤ 16000000) × (1 ≤ rate) × (rate ≤ 1000000)
unfolding within
inside clock rate t =
    let least = and_left (leb 1 clock) _ t in
    let more = and_right (leb 1 clock) _ t in
    let rates = and_right (leb clock 16000000) _ more in
    (leb-true _ _ least, leb-true _ _ (and_left (leb clock 16000000) _ more), leb-true _ _ (and_left (leb 1 rate) _ rates), leb-true _ _ (and_right (leb 1 rate) _ rates))
