-- The forecast (document 01, "Forecast and run"): when the transmitter will be empty, and which level its line will
-- have after t ticks. L pulses are left of the frame now sent, n bytes are queued, F is the length of their frames, D
-- the divisor and k the ticks to the next pulse. What the bytes spell is built from the frames alone and not by
-- ticking.
use Rattle.std.specs.Prelude.{ℕ, ◌+◌, ◌-◌, ◌*◌, ◌/◌, Bool, cond, ◌&&◌, ◌||◌, List, [], ◌∷◌, ◌++◌, length, get_or, ltb, eqb}
use Rattle.frame.specs.Frame.{frame_levels, last}

-- work left: L > 0 or bytes queued ("Numbers answered")
abbrev pub work_left : ℕ → ℕ → Bool
work_left L n = ltb 0 L || ltb 0 n

-- p, the pulses to come: L + nF if L > 0; 1 + nF if L = 0 and n > 0; else 0
unfoldable pub pulses_left : ℕ → ℕ → ℕ → ℕ
pulses_left L n F = cond (ltb 0 L) (L + n * F) (cond (ltb 0 n) (1 + n * F) 0)

-- T, the ticks to come: 0 if p = 0, else k + (p − 1)D
unfoldable pub ticks_left : ℕ → ℕ → ℕ → ℕ
ticks_left k D p = cond (eqb p 0) 0 (k + (p - 1) * D)

-- the F levels of each queued byte's frame in format f, in order
unfoldable pub queued_levels : ℕ → List ℕ → List ℕ
queued_levels f [] = []
queued_levels f (b ∷ bs) = frame_levels b f ++ queued_levels f bs

-- the string of p levels: the last L of the current frame, of byte x in its own format g (one high if L = 0 and bytes
-- are queued), then those of the queued bytes bs in f, the present LCR's format
unfoldable pub spelled : ℕ → ℕ → ℕ → ℕ → List ℕ → List ℕ
spelled L x g f bs = cond (eqb L 0 && ltb 0 (length bs)) (1 ∷ []) (last L (frame_levels x g)) ++ queued_levels f bs

-- q, the place after t ticks: 0 if p = 0 or t < k, else 1 + (t − k) / D rounded down
unfoldable pub place_after : ℕ → ℕ → ℕ → ℕ → ℕ
place_after k D p t = cond (eqb p 0 || ltb t k) 0 (1 + (t - k) / D)

-- the level at place q of a string of p levels, high from place p on
unfoldable pub level_at : ℕ → List ℕ → ℕ → ℕ
level_at p levels q = cond (ltb q p) (get_or levels q 1) 1

-- after t ticks the line has the level at place q of the string
abbrev pub level_after : ℕ → ℕ → ℕ → List ℕ → ℕ → ℕ
level_after k D p levels t = level_at p levels (place_after k D p t)
