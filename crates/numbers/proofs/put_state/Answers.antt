-- The five parts stand one after another, and fill the buffer.
use Rattle.numbers.proofs.Places.{numbers_put}
use borrow.Author.Rules.{rules}
use Rattle.numbers.proofs.put_state.Goals as goal

pub returns : goal.returns
returns c =
    numbers_put c.args.s c.settings_numbers-settings.ensures (rw c.put_at.ensures.place at c.put_at.ensures) c.put_bytes.ensures c.frame_numbers-frame.ensures (rw c.put_at-2.ensures.place at c.put_at-2.ensures) c.put_entries.ensures c.receiver_numbers-receiver.ensures (rw c.put_at-3.ensures.place at c.put_at-3.ensures) (search rules)
