-- Numbers as text: decimal digits, with no leading zero. No number that is read has a sign, and of those written only a
-- negative one.
use Rattle.std.specs.Prelude.{ℕ, zero, suc, ◌+◌, ◌-◌, ◌*◌, ◌/◌, ◌%◌, Bool, true, false, cond, not, ◌&&◌, List, [], ◌∷◌, ◌++◌, leb, ltb, eqb, Option, None, Some, ℤ, pos, negsuc}
use Rattle.flag.specs.Flag.{all_of}

-- Reading.

-- a byte is one of the digits 0 to 9
abbrev pub is_digit : ℕ → Bool
is_digit c = leb 48 c && leb c 57

-- the value of digits that follow those of v
unfoldable pub value_after : ℕ → List ℕ → ℕ
value_after v [] = v
value_after v (c ∷ cs) = value_after (v * 10 + (c - 48)) cs

-- the number of digits that follow those of v: none where a byte is no digit or the value is above 4294967295
unfoldable pub number_after : ℕ → List ℕ → Option ℕ
number_after v cs =
    cond (all_of is_digit cs && leb (value_after v cs) 4294967295) (Some (value_after v cs)) None

-- a word has a digit, and begins with 0 only where that is all of it
abbrev pub well_led : List ℕ → Bool
well_led [] = false
well_led (c ∷ []) = true
well_led (c ∷ d ∷ ds) = not (eqb c 48)

-- the number that a word spells, or none
unfoldable pub number_of : List ℕ → Option ℕ
number_of w = cond (well_led w) (number_after 0 w) None

-- Writing.

-- the character of a digit
abbrev pub glyph : ℕ → ℕ
glyph d = 48 + d

-- the digits of n, the most significant first, at most k + 1 of them
unfoldable pub digits_of : ℕ → ℕ → List ℕ
digits_of zero n = glyph (n % 10) ∷ []
digits_of (suc k) n = cond (ltb n 10) (glyph n ∷ []) (digits_of k (n / 10) ++ (glyph (n % 10) ∷ []))

-- a number of 32 bits, which has at most ten digits
abbrev pub decimal_of : ℕ → List ℕ
decimal_of n = digits_of 9 n

-- a number of 64 bits, which has at most twenty
abbrev pub long_decimal_of : ℕ → List ℕ
long_decimal_of n = digits_of 19 n

-- a signed number of 32 bits: a minus sign stands before a negative one's amount
abbrev pub signed_of : ℤ → List ℕ
signed_of (pos n) = decimal_of n
signed_of (negsuc n) = 45 ∷ decimal_of (suc n)

-- a number of 64 bits and the byte that follows it
abbrev pub word_of : ℕ → ℕ → List ℕ
word_of n after = long_decimal_of n ++ (after ∷ [])

-- a signed number and the byte that follows it
abbrev pub signed_word_of : ℤ → ℕ → List ℕ
signed_word_of z after = signed_of z ++ (after ∷ [])

-- what follows a number in a line: a space where more numbers come, a newline at the end
abbrev pub separator : List ℕ → ℕ
separator [] = 10
separator (n ∷ ns) = 32

-- a line of numbers
unfoldable pub line_of : List ℕ → List ℕ
line_of [] = []
line_of (n ∷ ns) = decimal_of n ++ (separator ns ∷ line_of ns)
