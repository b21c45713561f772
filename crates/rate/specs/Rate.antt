-- The divisor for a rate (document 02 e; SLLS191C, "programmable baud generator": the clock input, up to 16 MHz, is
-- divided by a divisor from 1 to 65535, and what comes out is 16 × the baud rate).
use Rattle.std.specs.Prelude.{ℕ, zero, suc, ◌*◌, ◌≤◌, ◌≡◌, Bool, cond, ◌&&◌, leb, ltb, ℤ, pos, nat_abs, ◌-ℤ◌, ◌*ℤ◌}
use Rattle.std.specs.Int.Signed.{quot_z}
use Rattle.rate.specs.declared.Picked.{Picked}

-- 16 × divisor × rate: the clock from which a divisor makes exactly this rate
abbrev pub clock_for : ℕ → ℕ → ℕ
clock_for rate divisor = 16 * divisor * rate

-- clock − 16 × divisor × rate
abbrev pub difference : ℕ → ℕ → ℕ → ℤ
difference clock rate divisor = pos clock -ℤ pos (clock_for rate divisor)

-- the distance between clock and 16 × divisor × rate
unfoldable pub distance : ℕ → ℕ → ℕ → ℕ
distance clock rate divisor = nat_abs (difference clock rate divisor)

-- of two divisors the one with the smaller distance, the first on a tie
abbrev pub nearer : ℕ → ℕ → ℕ → ℕ → ℕ
nearer clock rate d e = cond (ltb (distance clock rate e) (distance clock rate d)) e d

-- the divisor from 1 to `most` with the smallest distance, the smaller one on a tie: it is 1, and then each up to `most`
-- that is nearer than those before it
unfoldable pub nearest_up_to : ℕ → ℕ → ℕ → ℕ
nearest_up_to zero clock rate = 1
nearest_up_to (suc d) clock rate = nearer clock rate (nearest_up_to d clock rate) (suc d)

-- the divisor from 1 to 65535
abbrev pub divisor_of : ℕ → ℕ → ℕ
divisor_of clock rate = nearest_up_to 65535 clock rate

-- the signed error in parts per million, (clock − 16 × divisor × rate) × 1,000,000 over 16 × divisor × rate, cut toward
-- zero (the library's `quot_z`)
unfoldable pub error_of : ℕ → ℕ → ℕ → ℤ
error_of clock rate divisor = quot_z (difference clock rate divisor *ℤ pos 1000000) (pos (clock_for rate divisor))

-- a clock from 1 to 16,000,000, and a rate from 1 to 1,000,000
unfoldable pub within : ℕ → ℕ → Bool
within clock rate = leb 1 clock && (leb clock 16000000 && (leb 1 rate && leb rate 1000000))

-- 9 for a clock or rate outside, divisor and error 0
abbrev pub outside : Picked
outside = record { number = 9; divisor = 0; error = pos 0 }

-- the call: the divisor and its error
unfoldable pub divisor_for : ℕ → ℕ → Picked
divisor_for clock rate =
    cond (within clock rate)
    (record {
      number = 0;
      divisor = divisor_of clock rate;
      error = error_of clock rate (divisor_of clock rate);
    })
    outside

-- Claimed of the call: the divisor answered is from 1 to `most`, 65535; no divisor of these is nearer, and none as near is
-- smaller.
pub record Nearest (most clock rate divisor : ℕ) : Type 0 where
  pub from_one : 1 ≤ divisor
  pub to_most : divisor ≤ most
  pub none-nearer : (d : ℕ) → 1 ≤ d → d ≤ most → distance clock rate divisor ≤ distance clock rate d
  pub none_smaller : (d : ℕ) → 1 ≤ d → d ≤ most → distance clock rate d ≡ distance clock rate divisor → divisor ≤ d
