-- The parity that is sent and the parity that is checked (SLLS191C, LCR bits 3 to 5; document 01, "A tick"; document 02
-- d), as claims about every format with a parity bit, every byte sent and every character received; proved in
-- proofs/Parity.antt.
use Rattle.std.specs.Prelude.{ℕ, ◌+◌, ◌-◌, ◌%◌, ◌≤◌, ◌≡◌, true, false, not, List, [], ◌∷◌, ◌++◌, drop, eqb}
use Rattle.flag.specs.Flag.{bit, bit_of}
use Rattle.frame.specs.Format.{data_bits, parity_bit}
use Rattle.frame.specs.Frame.{bits, frame_bits}
use Rattle.device.specs.declared.Receiver.{Receiver}
use Rattle.device.specs.Receiver.{entry_of}

-- the number of logic 1s among some bits
unfoldable pub logic_ones : List ℕ → ℕ
logic_ones [] = 0
logic_ones (b ∷ bs) = b + logic_ones bs

-- the data and parity bits of the frame of byte x: those behind the start bit
abbrev pub sent_bits : ℕ → ℕ → List ℕ
sent_bits x f = drop 1 (frame_bits x f)

-- the data and parity bits that the receiver sampled
abbrev pub sampled_bits : Receiver → List ℕ
sampled_bits v = bits (data_bits v.format) v.samples ++ (v.parity ∷ [])

-- the parity sent in a format f with a parity bit (bit 3), for every byte x
pub record ParitySent (f : ℕ) : Type 0 where
  -- the parity bit follows the data
  pub follows : (x : ℕ) → sent_bits x f ≡ bits (data_bits f) x ++ (parity_bit x f ∷ [])
  -- even parity: an even number of logic 1s in the data and parity bits; odd parity: an odd number
  pub even : bit 4 f ≡ true → bit 5 f ≡ false → (x : ℕ) → logic_ones (sent_bits x f) % 2 ≡ 0
  pub odd : bit 4 f ≡ false → bit 5 f ≡ false → (x : ℕ) → logic_ones (sent_bits x f) % 2 ≡ 1
  -- stick parity: the opposite of bit 4, whatever the data
  pub stick : bit 5 f ≡ true → (x : ℕ) → parity_bit x f ≡ bit_of (not (bit 4 f))

-- the parity checked of a character v whose format has a parity bit, for every stop sample h: PE is 1 where the sampled
-- bits break the rule, else 0
pub record ParityChecked (v : Receiver) : Type 0 where
  pub even : bit 4 v.format ≡ true → bit 5 v.format ≡ false → (h : ℕ) → (entry_of v h).pe ≡ logic_ones (sampled_bits v) % 2
  pub odd : bit 4 v.format ≡ false → bit 5 v.format ≡ false → (h : ℕ) → (entry_of v h).pe ≡ 1 - logic_ones (sampled_bits v) % 2
  pub stick : bit 5 v.format ≡ true → (h : ℕ) → (entry_of v h).pe ≡ bit_of (not (eqb v.parity (bit_of (not (bit 4 v.format)))))

-- in every format with a parity bit
pub record Parity : Type 0 where
  pub sent : (f : ℕ) → bit 3 f ≡ true → ParitySent f
  pub checked : (v : Receiver) → bit 3 v.format ≡ true → v.parity ≤ 1 → ParityChecked v
