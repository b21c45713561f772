-- The number of jumps (document 02 g), as claims about every state, and worked rows of its readings; proved in
-- proofs/Jumps.antt.
use Rattle.std.specs.Prelude.{ℕ, ◌≤◌, ◌≡◌, true, false}
use Rattle.device.specs.declared.State.{State}
use Rattle.device.specs.State.{with_baud, fresh_of}
use Rattle.device.specs.Lsr.{temt}
use Rattle.device.specs.Calls.{ticks_of}
use Rattle.device.specs.Jump.{no_jump, jump_then, jumps_until, jumps_of}

pub record Jumps (s : State) : Type 0 where
  -- N = 0 makes none
  pub no_ticks : jumps_of s 0 ≡ 0
  -- with D = 0 and N > 0 there is one
  pub no_clock : (n : ℕ) → s.baud.divisor ≡ 0 → 1 ≤ n → jumps_of s n ≡ 1
  -- and so where N falls short of the next pulse, or ends at it
  pub one_pulse : (n : ℕ) → 1 ≤ n → n ≤ s.baud.k → jumps_of s n ≡ 1
  -- run makes none with LSR6 already 1
  pub empty_already : (n : ℕ) → temt s ≡ true → jumps_until temt n s n ≡ no_jump s
  -- and with work left and D = 0 one of all n ticks
  pub work_without_clock : (n : ℕ) → temt s ≡ false → s.baud.divisor ≡ 0 → 1 ≤ n → jumps_until temt n s n ≡ jump_then n (no_jump (ticks_of n s))

-- the fresh state with D and k
abbrev pub clocked : ℕ → ℕ → State
clocked d k = with_baud fresh_of (record { divisor = d; k = k })

-- D 5, k 3: N 2, 3, 4, 8, 9 make 1, 1, 2, 2, 3
pub record JumpRows : Type 0 where
  pub two : jumps_of (clocked 5 3) 2 ≡ 1
  pub three : jumps_of (clocked 5 3) 3 ≡ 1
  pub four : jumps_of (clocked 5 3) 4 ≡ 2
  pub eight : jumps_of (clocked 5 3) 8 ≡ 2
  pub nine : jumps_of (clocked 5 3) 9 ≡ 3
