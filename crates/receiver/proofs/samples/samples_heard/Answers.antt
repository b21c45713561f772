-- 2 ^ n fits a word.
use Rattle.receiver.proofs.Bytes.{bit_word}
use Rattle.receiver.specs.Samples.{samples_heard}
use native.Mathlib.Nat.{mod-lt}
use native.Mathlib.Omega.{arith}
use lib.Pow.{pow_pos, le_ones}
use Rattle.receiver.proofs.samples.samples_heard.Goals as goal

pub overflow_sub-result : goal.overflow_sub-result
overflow_sub-result c = rw (bit_word c.args.n (omega arith)) (pow_pos c.args.n)

pub nonzero_rem-result : goal.nonzero_rem-result
nonzero_rem-result c = rw (bit_word c.args.n (omega arith)) (pow_pos c.args.n)

pub overflow_sub-result-2 : goal.overflow_sub-result-2
overflow_sub-result-2 c = rw (bit_word c.args.n (omega arith)) (le_ones c.args.n (mod-lt _ (pow_pos c.args.n)))

pub returns : goal.returns
unfolding samples_heard
returns c = rw (bit_word c.args.n (omega arith))
