-- Several pulses of a character at once, with the samples that they take. These are what code works with, and proved
-- against `receiver_pulse`; nothing of document 01 is said here.
use Rattle.std.specs.Prelude.{ℕ, ◌+◌, ◌-◌, ◌*◌, ◌/◌, ◌%◌, ◌^◌}
use Rattle.frame.specs.Format.{data_bits}
use Rattle.device.specs.declared.Receiver.{Receiver}
use Rattle.device.specs.Receiver.{samples_taken, at_position, with_samples}

-- the samples of n bits of the line from the one at place p on, the first lowest. w has the line's bits, 1 where the
-- line is low; each lasts 16 places
unfoldable pub samples_heard : ℕ → ℕ → ℕ → ℕ
samples_heard w p n = 2 ^ n - 1 - w / 2 ^ (p / 16) % 2 ^ n

-- the samples taken so far as one number: data from bit 0, then parity
unfoldable pub samples_of : Receiver → ℕ
samples_of v = v.samples + v.parity * 2 ^ data_bits v.format

-- those and the next n, where q is the place in the line now: the next falls at position 24 + 16 a, a taken so far
unfoldable pub samples_with : ℕ → ℕ → ℕ → Receiver → ℕ
samples_with w q n v =
    let a = samples_taken v.position in
    samples_of v + samples_heard w (q + (24 + 16 * a - v.position)) n * 2 ^ a

-- the character with all its samples from one number
abbrev pub with_all : ℕ → Receiver → Receiver
with_all all v = with_samples v (all % 2 ^ data_bits v.format) (all / 2 ^ data_bits v.format)

-- the character m pulses later, before its stop sample, where w has the line's bits and q is the place in them now
unfoldable pub sampled_by : ℕ → ℕ → ℕ → Receiver → Receiver
sampled_by w q m v =
    let n = samples_taken (v.position + m) - samples_taken v.position in
    at_position (v.position + m) (with_all (samples_with w q n v) v)
