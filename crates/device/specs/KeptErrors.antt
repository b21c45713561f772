-- The errors of character mode (document 02 c), as claims about every state with FIFO off; proved in
-- proofs/KeptErrors.antt.
use Rattle.std.specs.Prelude.{ℕ, ◌≡◌, true, false, ◌||◌}
use Rattle.flag.specs.Flag.{on, bit}
use Rattle.queue.specs.declared.Entry.{Entry}
use Rattle.queue.specs.Queue.{no_errors, errors_of}
use Rattle.device.specs.declared.State.{State}
use Rattle.device.specs.State.{reset_state}
use Rattle.device.specs.Rbr.{rbr_read}
use Rattle.device.specs.Lsr.{entering, shown_errors, lsr_read}
use Rattle.device.specs.Receiver.{with_entry}
use Rattle.device.specs.Fcr.{fcr_write}

pub record KeptErrors (s : State) : Type 0 where
  -- the kept errors show, whether a byte is queued or not
  pub show : shown_errors s ≡ s.kept
  -- the entry of an arriving character has none of its own
  pub entry_none : (e : Entry) → errors_of (entering s.fifo e) ≡ no_errors
  -- each arriving character sets those that it has, and clears none
  pub pe_set : (e : Entry) → on (with_entry s e).kept.pe ≡ (on e.pe || on s.kept.pe)
  pub fe_set : (e : Entry) → on (with_entry s e).kept.fe ≡ (on e.fe || on s.kept.fe)
  pub bi_set : (e : Entry) → on (with_entry s e).kept.bi ≡ (on e.bi || on s.kept.bi)
  -- a read of RBR leaves them
  pub rbr_leaves : (rbr_read s).state.kept ≡ s.kept
  -- a read of LSR clears them, and so does reset
  pub lsr_clears : (lsr_read s).state.kept ≡ no_errors
  pub reset_clears : (reset_state s).kept ≡ no_errors
  -- a write of FCR that turns the FIFO on clears them; one that does not leaves them
  pub on_clears : (b : ℕ) → bit 0 b ≡ true → (fcr_write s b).kept ≡ no_errors
  pub off_leaves : (b : ℕ) → bit 0 b ≡ false → (fcr_write s b).kept ≡ s.kept
