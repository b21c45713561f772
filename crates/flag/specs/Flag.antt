-- Flags and tests. What the definitions of the other crates are made of.
use Rattle.std.specs.Prelude.{ℕ, ◌+◌, ◌*◌, ◌/◌, ◌%◌, ◌^◌, Bool, true, false, cond, not, ◌&&◌, ◌||◌, List, [], ◌∷◌, eqb}

-- a flag of the state is on
abbrev pub on : ℕ → Bool
on x = eqb x 1

-- bit n of the register x is set
abbrev pub bit : ℕ → ℕ → Bool
bit n x = eqb (x / 2 ^ n % 2) 1

-- a test as a flag
abbrev pub bit_of : Bool → ℕ
bit_of b = cond b 1 0

-- the byte with these bits, bit 0 first
abbrev pub byte_of : List Bool → ℕ
byte_of [] = 0
byte_of (b ∷ bs) = bit_of b + 2 * byte_of bs

-- where a holds, b does
abbrev pub implies : Bool → Bool → Bool
implies a b = cond a b true

-- one of the two holds, and not both
abbrev pub differ : Bool → Bool → Bool
differ a b = cond a (not b) b

-- every test of a list holds
abbrev pub every : List Bool → Bool
every [] = true
every (t ∷ ts) = t && every ts

-- every element of a list passes the test p
abbrev pub all_of : {A : Type 0} → (A → Bool) → List A → Bool
all_of p [] = true
all_of p (x ∷ xs) = p x && all_of p xs

-- some element of a list passes the test p
abbrev pub any_of : {A : Type 0} → (A → Bool) → List A → Bool
any_of p [] = false
any_of p (x ∷ xs) = p x || any_of p xs
