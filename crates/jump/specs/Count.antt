-- The number of jumps by division. What this says is proved against the device's `Jump.antt`.
use Rattle.std.specs.Prelude.{ℕ, ◌+◌, ◌-◌, ◌/◌, cond, ◌||◌, leb, eqb}

-- the jumps of n ticks, with divisor D and k ticks to the next pulse
unfoldable pub jump_count : ℕ → ℕ → ℕ → ℕ
jump_count D k n = cond (eqb n 0) 0 (cond (eqb D 0 || leb n k) 1 (2 + (n - k - 1) / D))
