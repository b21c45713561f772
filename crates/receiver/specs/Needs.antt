-- What the parts of a pulse ask of their callers; every well-formed state has it.
use Rattle.std.specs.Prelude.{ℕ, ◌+◌, ◌-◌, ◌≤◌, ◌<◌, ◌^◌, min}
use Rattle.frame.specs.Format.{data_bits, parity_bits}
use Rattle.device.specs.declared.Receiver.{Receiver}
use Rattle.device.specs.declared.State.{State}
use Rattle.device.specs.Receiver.{stop_position, samples_taken}

-- a position fits, and the samples fill the places taken so far
pub record Placed (v : Receiver) : Type 0 where
  pub place : v.position < 168
  pub samples : v.samples < 2 ^ min (data_bits v.format) (samples_taken v.position)

-- the receiver at a level, which is 0 or 1
pub record Sampling (h : ℕ) (v : Receiver) : Type 0 where
  pub level : h ≤ 1
  pub placed : Placed v

-- the state as the receiver's part of a pulse finds it
pub record Hearing (s : State) : Type 0 where
  pub sin : s.inputs.sin ≤ 1
  pub placed : Placed s.receiver

-- in a character: a position before its stop sample, and samples and parity not yet taken are zero
pub record InCharacter (v : Receiver) : Type 0 where
  pub before : v.position < stop_position v.format
  pub samples : v.samples < 2 ^ min (data_bits v.format) (samples_taken v.position)
  pub parity : v.parity ≤ min (parity_bits v.format) (samples_taken v.position - data_bits v.format)

-- the next m pulses of a character, before its stop sample, where q is the place in the line now
pub record Sampled (q m : ℕ) (v : Receiver) : Type 0 where
  pub character : InCharacter v
  pub before : v.position + m < stop_position v.format
  pub place : q ≤ 192
