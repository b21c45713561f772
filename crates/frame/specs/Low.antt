-- The low bits of a frame as one number: what code works with; nothing of document 01 is said here.
use Rattle.std.specs.Prelude.{ℕ, ◌+◌, ◌-◌, ◌*◌, List, [], ◌∷◌}

-- the places of a list of bits at which it is low, as the ones of a number; above the list it is high
unfoldable pub low_bits : List ℕ → ℕ
low_bits [] = 0
low_bits (b ∷ bs) = (1 - b) + 2 * low_bits bs
