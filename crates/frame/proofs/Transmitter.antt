-- The transmitter and its clock by themselves (document 01, "A tick"), and what the forecast says of them ("Forecast and
-- run", demand 3).
use Prim.Native.Nat.{ℕ, zero, suc, ◌-◌, ◌≤◌}
use mathlib.Core.Path.{◌≡◌}
use mathlib.Core.Bool.{Bool, true, cond, ◌||◌}
use mathlib.Core.List.{List, []}
use lib.ListN.{length, get_or, drop}
use lib.Dec.{eqb}
use Rattle.frame.specs.Format.{frame_length}
use Rattle.frame.specs.Frame.{line_level}
use Rattle.frame.specs.Forecast.{work_left, pulses_left, ticks_left, spelled, level_after}

-- what of the state decides what is sent, and when
pub record Transmitter : Type 0 where
  pub divisor : ℕ  -- D
  pub k : ℕ  -- ticks to the next pulse
  pub left : ℕ  -- L, pulses left of the frame now sent
  pub byte : ℕ  -- that frame's byte
  pub format : ℕ  -- and its format
  pub next : ℕ  -- the format that the present LCR sets
  pub held : Bool  -- flow control holds the transmitter
  pub queue : List ℕ  -- the queued bytes, the oldest first

abbrev pub with_k : Transmitter → ℕ → Transmitter
with_k s k =
    record { divisor = s.divisor; k = k; left = s.left; byte = s.byte; format = s.format; next = s.next; held = s.held; queue = s.queue }

abbrev pub with_frame : Transmitter → ℕ → ℕ → ℕ → List ℕ → Transmitter
with_frame s l x g bs =
    record { divisor = s.divisor; k = s.k; left = l; byte = x; format = g; next = s.next; held = s.held; queue = bs }

-- a pulse: if L > 0 it falls by 1; if L is now 0, a byte is queued and it isn't held, the oldest byte is taken with the
-- present LCR as format and L = F. Byte and format become 0 with L
unfoldable pub pulse : Transmitter → Transmitter
pulse s =
    cond (eqb (s.left - 1) 0)
    (cond (eqb (length s.queue) 0 || s.held)
    (with_frame s 0 0 0 s.queue)
    (with_frame s (frame_length s.next) (get_or s.queue 0 0) s.next (drop 1 s.queue)))
    (with_frame s (s.left - 1) s.byte s.format s.queue)

-- a tick: if D = 0 nothing changes; else k falls by 1, and at 0 it becomes D and one pulse happens
unfoldable pub tick : Transmitter → Transmitter
tick s =
    cond (eqb s.divisor 0)
    s
    (cond (eqb (s.k - 1) 0) (pulse (with_k s s.divisor)) (with_k s (s.k - 1)))

-- t ticks, each on what the last one returned
abbrev pub ticks : ℕ → Transmitter → Transmitter
ticks zero s = s
ticks (suc t) s = ticks t (tick s)

-- the line
abbrev pub line_of : Transmitter → ℕ
line_of s = line_level s.left s.byte s.format

-- shift register and queue are both empty
pub record Empty (s : Transmitter) : Type 0 where
  pub sent : s.left ≡ 0
  pub taken : s.queue ≡ []

-- p, T and the string of a transmitter, and its line's level as foretold for t ticks
abbrev pub pulses_of : Transmitter → ℕ
pulses_of s = pulses_left s.left (length s.queue) (frame_length s.next)

abbrev pub forecast : Transmitter → ℕ
forecast s = ticks_left s.k s.divisor (pulses_of s)

abbrev pub string_of : Transmitter → List ℕ
string_of s = spelled s.left s.byte s.format s.next s.queue

abbrev pub foretold_level : Transmitter → ℕ → ℕ
foretold_level s t = level_after s.k s.divisor (pulses_of s) (string_of s) t

-- what the forecast asks of the state: k is at least 1 if D isn't 0 and L at most the frame's length ("The state"); D isn't
-- 0 if work is left; it isn't held if bytes are queued
pub record Ready (s : Transmitter) : Type 0 where
  pub k_range : 1 ≤ s.divisor → 1 ≤ s.k
  pub left_range : s.left ≤ frame_length s.format
  pub clocked : work_left s.left (length s.queue) ≡ true → 1 ≤ s.divisor
  pub free : s.held ≡ true → s.queue ≡ []

-- the forecast holds of t ticks: both are empty exactly when t is at least T, and the line has the level foretold
pub record Foretold (s : Transmitter) (t : ℕ) : Type 0 where
  pub empties : forecast s ≤ t → Empty (ticks t s)
  pub not_before : Empty (ticks t s) → forecast s ≤ t
  pub level : line_of (ticks t s) ≡ foretold_level s t
