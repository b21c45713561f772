-- The worked examples: what the search finds is the divisor by division, which is computed.
use Prim.Native.Nat.{ℕ}
use mathlib.Core.Path.{◌≡◌, refl, ap₂}
use mathlib.Core.Bool.{Bool, true, false, cond}
use mathlib.Core.List.{List, [], ◌∷◌, map}
use Rattle.rate.specs.Rate.{divisor_of, error_of, within, divisor_for}
use Rattle.rate.specs.Tables.{picks, divisors_at, table_rates, Tables}
use Rattle.rate.proofs.Search.{found, only_one, inside}
use Rattle.rate.proofs.Division.{by_division, divided}

divides : (clock rate : ℕ) → within clock rate ≡ true → divisor_of clock rate ≡ by_division clock rate
divides clock rate t = only_one (found clock rate 65534) (divided clock rate (inside clock rate t).2)

-- an answer
row : (clock rate : ℕ) → within clock rate ≡ true → divisor_for clock rate ≡ picks (by_division clock rate) (error_of clock rate (by_division clock rate))
unfolding divisor_for
row clock rate t = rw (t, divides clock rate t)

-- a divisor
divisor-row : (clock rate : ℕ) → (divisor_for clock rate).divisor ≡ cond (within clock rate) (by_division clock rate) 0
unfolding divisor_for
divisor-row clock rate = go (within clock rate) refl
  where
    go : (b : Bool) → within clock rate ≡ b → (divisor_for clock rate).divisor ≡ cond b (by_division clock rate) 0
    go true t = rw t (divides clock rate t)
    go false t = rw t

divisor_rows : (clock : ℕ) (rates : List ℕ) → divisors_at clock rates ≡ map (λ (rate : ℕ). cond (within clock rate) (by_division clock rate) 0) rates
divisor_rows clock [] = refl
divisor_rows clock (rate ∷ rates) = ap₂ ◌∷◌ (divisor-row clock rate) (divisor_rows clock rates)

pub tables : Tables
unfolding within error_of divisor_for
tables =
    record {
      request = row 3072000 7200 refl;
      tie = row 24000 1000 refl;
      largest = row 16000000 1 refl;
      smallest = row 1 1000000 refl;
      cut = row 15999999 1000000 refl;
      no_clock = refl;
      no_rate = refl;
      table9 = divisor_rows 1843200 table_rates;
      table9_134 = divisor-row 3686400 269;
      table9_56000 = divisor-row 1843200 56000;
      table10 = divisor_rows 3072000 table_rates;
      table10_134 = divisor-row 6144000 269;
    }
