-- Worked examples of the call, claimed of its definition: the request's own, and tables 9 and 10 of the sheet.
use Rattle.std.specs.Prelude.{ℕ, ◌≡◌, List, [], ◌∷◌, map, ℤ, pos, neg_ℤ}
use Rattle.rate.specs.declared.Picked.{Picked}
use Rattle.rate.specs.Rate.{divisor_for, outside}

-- number 0, a divisor and its error
abbrev pub picks : ℕ → ℤ → Picked
picks divisor error = record { number = 0; divisor = divisor; error = error }

-- the divisors that a clock gives for rates
abbrev pub divisors_at : ℕ → List ℕ → List ℕ
divisors_at clock rates = map (λ (rate : ℕ). (divisor_for clock rate).divisor) rates

-- The rates of tables 9 and 10 (SLLS191C, "programmable baud generator"). 134.5 is asked for as 269 at twice the clock.
abbrev pub table_rates : List ℕ
table_rates =
    50 ∷ 75 ∷ 110 ∷ 150 ∷ 300 ∷ 600 ∷ 1200 ∷ 1800 ∷ 2000 ∷ 2400 ∷ 3600 ∷ 4800 ∷ 7200 ∷ 9600 ∷ 19200 ∷ 38400 ∷ []

pub record Tables : Type 0 where
  -- at 3,072,000 rate 7200 gives 27 and −12345 (document 02 e)
  pub request : divisor_for 3072000 7200 ≡ picks 27 (neg_ℤ (pos 12345))
  -- on a tie the smaller divisor
  pub tie : divisor_for 24000 1000 ≡ picks 1 (pos 500000)
  -- the largest divisor, and the smallest
  pub largest : divisor_for 16000000 1 ≡ picks 65535 (pos 14259021)
  pub smallest : divisor_for 1 1000000 ≡ picks 1 (neg_ℤ (pos 999999))
  -- an error between −1 and 0
  pub cut : divisor_for 15999999 1000000 ≡ picks 1 (pos 0)
  -- outside
  pub no_clock : divisor_for 0 9600 ≡ outside
  pub no_rate : divisor_for 3072000 0 ≡ outside
  -- table 9, at 1.8432 MHz
  pub table9 : divisors_at 1843200 table_rates ≡ 2304 ∷ 1536 ∷ 1047 ∷ 768 ∷ 384 ∷ 192 ∷ 96 ∷ 64 ∷ 58 ∷ 48 ∷ 32 ∷ 24 ∷ 16 ∷ 12 ∷ 6 ∷ 3 ∷ []
  pub table9_134 : (divisor_for 3686400 269).divisor ≡ 857
  pub table9_56000 : (divisor_for 1843200 56000).divisor ≡ 2
  -- table 10, at 3.072 MHz
  pub table10 : divisors_at 3072000 table_rates ≡ 3840 ∷ 2560 ∷ 1745 ∷ 1280 ∷ 640 ∷ 320 ∷ 160 ∷ 107 ∷ 96 ∷ 80 ∷ 53 ∷ 40 ∷ 27 ∷ 20 ∷ 10 ∷ 5 ∷ []
  pub table10_134 : (divisor_for 6144000 269).divisor ≡ 1428
