-- By the test of the mode, and of bit 0 of FCR.
use Prim.Native.Nat.{ℕ}
use mathlib.Core.Path.{◌≡◌, refl, ap, ◌∙◌}
use mathlib.Core.Bool.{Bool, true, false, cond, ◌&&◌, ◌||◌}
use lib.Dec.{eqb}
use Rattle.flag.specs.Flag.{on, bit, differ}
use Rattle.flag.proofs.Laws.{by_test, cond_same}
use Rattle.queue.specs.declared.Errors.{Errors}
use Rattle.queue.specs.Queue.{no_errors}
use Rattle.device.specs.declared.FifoControl.{FifoControl}
use Rattle.device.specs.declared.Reading.{Reading}
use Rattle.device.specs.declared.State.{State}
use Rattle.device.specs.State.{with_fifo, with_kept, reset_state, fresh_of}
use Rattle.device.specs.Rbr.{rbr_read}
use Rattle.device.specs.Lsr.{entering, kept_after, shown_errors, lsr_read}
use Rattle.device.specs.Receiver.{with_entry}
use Rattle.device.specs.Fcr.{fifo_after, turned, switched, clear_receive, clear_transmit, fcr_write}
use Rattle.device.specs.KeptErrors.{KeptErrors}

-- a flag that a test sets, or as it was
set_either : (b : Bool) (x : ℕ) → on (cond b 1 x) ≡ (b || on x)
set_either true x = refl
set_either false x = refl

rbr_leaves : (s : State) → (rbr_read s).state.kept ≡ s.kept
unfolding rbr_read
rbr_leaves s = cond_same (λ (r : Reading). r.state.kept) (eqb s.rx.count 0) _ _ _ refl refl

module _ (s : State) (off : on s.fifo.enabled ≡ false) where
  -- with FIFO off, bit 0 of FCR turns it on
  turned_by : (b : ℕ) → turned s.fifo (fifo_after s.registers s.fifo b) ≡ bit 0 b
  unfolding turned fifo_after
  turned_by b =
      let turns : FifoControl → Type 0 = λ (g : FifoControl). differ (on s.fifo.enabled) (on g.enabled) ≡ bit 0 b in
      by_test turns (bit 0 b) _ _ (λ e. rw (off, e)) (λ e. rw (off, e))

  -- the clears leave the kept errors
  fcr_kept : (b : ℕ) → (fcr_write s b).kept ≡ cond (bit 0 b) no_errors s.kept
  unfolding fcr_write clear_receive clear_transmit
  fcr_kept b =
      let g = fifo_after s.registers s.fifo b in
      let both = switched s.fifo g in
      let t = with_kept (with_fifo s g) (cond (turned s.fifo g) no_errors s.kept) in
      let u = cond (both || (bit 0 b && bit 1 b)) (clear_receive t) t in
      let kept : State → Errors = λ (v : State). v.kept in
      cond_same kept (both || (bit 0 b && bit 2 b)) (clear_transmit u) u u.kept refl refl
      ∙ cond_same kept (both || (bit 0 b && bit 1 b)) (clear_receive t) t t.kept refl refl
      ∙ ap (λ (c : Bool). cond c no_errors s.kept) (turned_by b)

  pub kept_errors : KeptErrors s
  unfolding entering shown_errors with_entry kept_after lsr_read reset_state fresh_of
  kept_errors =
      record {
        show = rw off;
        entry_none = λ e. rw off;
        pe_set = λ e. rw off (set_either (on e.pe) s.kept.pe);
        fe_set = λ e. rw off (set_either (on e.fe) s.kept.fe);
        bi_set = λ e. rw off (set_either (on e.bi) s.kept.bi);
        rbr_leaves = rbr_leaves s;
        lsr_clears = refl;
        reset_clears = refl;
        on_clears = λ b h. fcr_kept b ∙ rw h;
        off_leaves = λ b h. fcr_kept b ∙ rw h;
      }
