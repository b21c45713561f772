-- What a format means. A format is bits 0..5 of LCR, a number 0..63 (SLLS191C, "line control register (LCR)", tables 6
-- and 7; document 01, "The state" and "A tick").
use Rattle.std.specs.Prelude.{ℕ, ◌+◌, ◌*◌, ◌/◌, ◌%◌, ◌^◌, Bool, cond, not, eqb}
use Rattle.std.specs.Int.Count.{ones}
use Rattle.flag.specs.Flag.{bit, bit_of}

-- the format that LCR sets
abbrev pub format_of : ℕ → ℕ
format_of lcr = lcr % 64

-- bits 0 and 1 (WLS0, WLS1): the word length, 5 to 8 data bits (table 6)
abbrev pub data_bits : ℕ → ℕ
data_bits f = 5 + f % 4

-- bit 3 (PEN): a parity bit follows the data, one or none
abbrev pub parity_bits : ℕ → ℕ
parity_bits f = f / 8 % 2

-- bit 2 (STB): the stop pulses are 16, or with it 24 for five data bits and 32 otherwise (table 7)
unfoldable pub stop_pulses : ℕ → ℕ
stop_pulses f = cond (bit 2 f) (cond (eqb (data_bits f) 5) 24 32) 16

-- F, the pulses of a frame: 16 for the start bit, each data bit and the parity bit, then the stop pulses
unfoldable pub frame_length : ℕ → ℕ
frame_length f = 16 * (1 + data_bits f + parity_bits f) + stop_pulses f

-- the character that a frame carries: the byte's bits within the word length
abbrev pub character_of : ℕ → ℕ → ℕ
character_of x f = x % 2 ^ data_bits f

-- even parity of a character c with its parity bit p: an even number of logic 1s in the data and parity bits; odd
-- parity: an odd number. `ones` is the library's count of the ones of a number.
abbrev pub even_parity : ℕ → ℕ → Bool
even_parity c p = eqb ((ones c + p) % 2) 0

abbrev pub odd_parity : ℕ → ℕ → Bool
odd_parity c p = eqb ((ones c + p) % 2) 1

-- whether p is right as the parity bit of the character of byte x: even parity with bit 4 (EPS), odd without; with bit 5
-- (stick parity) the opposite of bit 4. Document 01 overrides UM82450, whose stick parity text is a misprint.
unfoldable pub has_parity : ℕ → ℕ → ℕ → Bool
has_parity x f p =
    cond (bit 5 f)
    (eqb p (bit_of (not (bit 4 f))))
    (cond (bit 4 f) (even_parity (character_of x f) p) (odd_parity (character_of x f) p))

-- the parity bit: 1 where 1 is right, else 0
unfoldable pub parity_bit : ℕ → ℕ → ℕ
parity_bit x f = bit_of (has_parity x f 1)
