-- Below the word length the sample is the next data bit, behind it the parity.
use Rattle.receiver.proofs.Bytes.{sample_small, sample_byte, samples_below}
use Rattle.device.specs.Receiver.{samples_taken}
use Rattle.frame.specs.Format.{data_bits}
use Rattle.device.specs.Receiver.{sampled}
use Prim.Native.Nat.{◌<◌}
use mathlib.Core.Path.{◌≡◌}
use native.Mathlib.Omega.{arith}
use borrow.Author.Tests.{lt-ltb}
use Rattle.receiver.proofs.sample.Goals as goal

pub overflow_add-samples : goal.overflow_add-samples
overflow_add-samples c =
    let a = c.args in
    let p = c.requires in
    let n = samples_taken a.v.position in
    let same : c.samples_taken-n.result ≡ n = c.samples_taken-n.ensures in
    let few : n < 8 = omega arith in
    rw (same, sample_byte a.level n p.level few)
    (omega (arith, sample_small a.level n p.level few, samples_below a.v.samples (data_bits a.v.format) n few p.placed.samples))

pub returns-then-n-data_bits : goal.returns-then-n-data_bits
unfolding sampled
returns-then-n-data_bits c =
    let a = c.args in
    let p = c.requires in
    let n = samples_taken a.v.position in
    let same : c.samples_taken-n.result ≡ n = c.samples_taken-n.ensures in
    let few : n < 8 = omega arith in
    let below : n < data_bits a.v.format = omega arith in
    rw (same, sample_byte a.level n p.level few, lt-ltb _ _ below)
