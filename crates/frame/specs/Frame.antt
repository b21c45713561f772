-- A frame on the line (SLLS191C, "line control register (LCR)" and note † of table 3; document 01, "A tick"): the start
-- bit, the data from bit 0, the parity bit, the stop; 16 pulses a bit. `frame_levels` has the level of each of its F
-- pulses.
use Rattle.std.specs.Prelude.{ℕ, zero, suc, ◌-◌, ◌/◌, ◌%◌, cond, List, [], ◌∷◌, ◌++◌, length, get_or, drop, replicate, eqb}
use Rattle.frame.specs.Format.{data_bits, parity_bits, stop_pulses, parity_bit}

-- the n lowest bits of x, from bit 0
unfoldable pub bits : ℕ → ℕ → List ℕ
bits zero x = []
bits (suc n) x = x % 2 ∷ bits n (x / 2)

-- the bits of the frame of byte x in format f, but for the stop: low start bit, data, parity
unfoldable pub frame_bits : ℕ → ℕ → List ℕ
frame_bits x f = 0 ∷ (bits (data_bits f) x ++ replicate (parity_bits f) (parity_bit x f))

-- each bit for n pulses
abbrev pub stretch : ℕ → List ℕ → List ℕ
stretch n [] = []
stretch n (b ∷ bs) = replicate n b ++ stretch n bs

-- the levels of the frame, one a pulse; the stop is high
unfoldable pub frame_levels : ℕ → ℕ → List ℕ
frame_levels x f = stretch 16 (frame_bits x f) ++ replicate (stop_pulses f) 1

-- the last n levels of a frame
abbrev pub last : ℕ → List ℕ → List ℕ
last n xs = drop (length xs - n) xs

-- the transmitter's line with l pulses left of the frame of byte x in format f: the first of the last l levels of that
-- frame, or high if l = 0 (document 01, "Forecast and run")
unfoldable pub line_level : ℕ → ℕ → ℕ → ℕ
line_level l x f = cond (eqb l 0) 1 (get_or (last l (frame_levels x f)) 0 1)
