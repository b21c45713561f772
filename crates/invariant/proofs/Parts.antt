-- A sound state stays sound where one of its parts is put in place of another that keeps the part's ranges; and what
-- the steps do to a queue or a latch keeps them.
use Prim.Native.Nat.{ℕ, ◌≤◌, ◌<◌}
use mathlib.Core.Path.{◌≡◌, refl}
use mathlib.Core.Bool.{true}
use native.Mathlib.Nat.{eq-zero-or-pos}
use mathlib.Core.Logic.{⊎_elim}
use native.Mathlib.Omega.{arith}
use borrow.Author.Tests.{le-leb}
use lib.ListN.{length}
use Rattle.queue.specs.declared.ByteQueue.{ByteQueue}
use Rattle.queue.specs.declared.Entry.{Entry}
use Rattle.queue.specs.declared.EntryQueue.{EntryQueue}
use Rattle.queue.specs.declared.Errors.{Errors}
use Rattle.queue.specs.Queue.{zero_byte, byte_rest, no_bytes, put_byte, take_byte, no_entry, zero_entry, entry_rest, no_errors, errors_within, entry_within, entries_within, no_entries, put_entry, take_entry}
use Rattle.queue.proofs.Contents.{all_put, rest_put, rest_taken, all_taken, count_put_lem, count_taken, no_bytes-rest, no_entries-rest, no_entries-within}
use Rattle.device.specs.declared.Registers.{Registers}
use Rattle.device.specs.declared.Baud.{Baud}
use Rattle.device.specs.declared.FifoControl.{FifoControl}
use Rattle.device.specs.declared.Inputs.{Inputs}
use Rattle.device.specs.declared.Frame.{Frame}
use Rattle.device.specs.declared.Receiver.{Receiver}
use Rattle.device.specs.declared.Latches.{Latches}
use Rattle.device.specs.declared.State.{State}
use Rattle.device.specs.State.{with_registers, with_baud, with_fifo, with_inputs, with_tx, with_frame, with_rx, with_receiver, with_latches, with_kept}
use Rattle.device.specs.Fifo.{capacity}
use Rattle.device.specs.Rbr.{restart_idle}
use Rattle.invariant.proofs.Good.{RegisterFacts, SettingFacts, FrameFacts, TransmitFacts, ReceiverFacts, ErrorFacts, ReceiveFacts, entry_most, kept_most, LatchFacts, capacity_bounds, latches_wait}
use Rattle.invariant.proofs.Settled.{Sound}

-- One part's fields put in place of others that keep its ranges; with a queue go the latches that depend on its
-- count. What stays is the state's own.

module _ {s : State} (w : Sound s) where
  pub sound_registers : (r : Registers) (b : Baud) → RegisterFacts r b → Sound (with_baud (with_registers s r) b)
  sound_registers r b g =
      record { bytes_long = w.bytes_long; entries_long = w.entries_long; registers = g; settings = w.settings; transmit = w.transmit; receive = w.receive; latches = w.latches }

  pub sound_transmit : (q : ByteQueue) (x : Frame) (l : Latches) → length q.bytes ≡ 64 → TransmitFacts s.fifo q x
      → LatchFacts s.fifo q.count s.rx.count l → Sound (with_latches (with_frame (with_tx s q) x) l)
  sound_transmit q x l long g h =
      record { bytes_long = long; entries_long = w.entries_long; registers = w.registers; settings = w.settings; transmit = g; receive = w.receive; latches = h }

  pub sound_receive : (q : EntryQueue) (v : Receiver) (l : Latches) (k : Errors) → length q.entries ≡ 64 → ReceiveFacts s.fifo q v k
      → LatchFacts s.fifo s.tx.count q.count l → Sound (with_kept (with_latches (with_receiver (with_rx s q) v) l) k)
  sound_receive q v l k long g h =
      record { bytes_long = w.bytes_long; entries_long = long; registers = w.registers; settings = w.settings; transmit = w.transmit; receive = g; latches = h }

  -- the settings, where both queues fit the new capacity, the errors the new mode, and FIFO stays on while data is
  -- waiting
  pub sound_settings : (g : FifoControl) (i : Inputs) (k : Errors) → SettingFacts g i → s.tx.count ≤ capacity g → s.rx.count ≤ capacity g
      → ErrorFacts g s.rx k → (0 < s.rx.count → s.fifo.enabled ≡ 1 → g.enabled ≡ 1) → Sound (with_kept (with_inputs (with_fifo s g) i) k)
  sound_settings g i k facts tx rx errors on =
      let y = w.latches.wait in
      record {
        bytes_long = w.bytes_long;
        entries_long = w.entries_long;
        registers = w.registers;
        settings = facts;
        transmit = record { count_most = tx; rest = w.transmit.rest; frame = w.transmit.frame };
        receive = record { count_most = rx; rest = w.receive.rest; errors = errors; receiver = w.receive.receiver };
        latches =
            latches_wait w.latches
            (record {
              timeout_most = y.timeout_most;
              timeout_on = λ h. on (y.timeout_waiting h) (y.timeout_on h);
              timeout_waiting = y.timeout_waiting;
              idle_most = y.idle_most;
              idle_off = λ h. ⊎_elim y.idle_none (λ (n : 0 < s.rx.count). y.idle_off (λ e. h (on n e))) (eq-zero-or-pos s.rx.count);
              idle_none = y.idle_none;
            });
      }

  -- One part alone.

  pub sound_written : (r : Registers) → (r.ier ≤ 63) × (r.mcr ≤ 63) × (r.lcr ≤ 255) × (r.scr ≤ 255) → Sound (with_registers s r)
  sound_written r h =
      let g = w.registers in
      sound_registers r s.baud
      (record { ier_most = h.0; mcr_most = h.1; lcr_most = h.2; scr_most = h.3; divisor-most = g.divisor-most; k_most = g.k_most; k_least = g.k_least })

  pub sound_inputs : (i : Inputs) → SettingFacts s.fifo i → Sound (with_inputs s i)
  sound_inputs i g =
      sound_settings s.fifo i s.kept g w.transmit.count_most w.receive.count_most w.receive.errors (λ _ e. e)

  pub sound_frame : (x : Frame) → FrameFacts x → Sound (with_frame s x)
  sound_frame x g =
      sound_transmit s.tx x s.latches w.bytes_long
      (record { count_most = w.transmit.count_most; rest = w.transmit.rest; frame = g })
      w.latches

  pub sound_receiver : (v : Receiver) → ReceiverFacts v → Sound (with_receiver s v)
  sound_receiver v g =
      sound_receive s.rx v s.latches s.kept w.entries_long
      (record { count_most = w.receive.count_most; rest = w.receive.rest; errors = w.receive.errors; receiver = g })
      w.latches

  pub sound_latches : (l : Latches) → LatchFacts s.fifo s.tx.count s.rx.count l → Sound (with_latches s l)
  sound_latches l g = sound_transmit s.tx s.frame l w.bytes_long w.transmit g

-- The transmit queue.

pub transmit_put : {f : FifoControl} {q : ByteQueue} {x : Frame} (b : ℕ) → TransmitFacts f q x → TransmitFacts f (put_byte (capacity f) q b) x
unfolding put_byte byte_rest
transmit_put {f = f} {q = q} b g =
    record {
      count_most = count_put_lem (capacity f) q.count g.count_most;
      rest = rest_put zero_byte (capacity f) q.count q.bytes b g.rest (capacity_bounds f).0;
      frame = g.frame;
    }

pub transmit_taken : {f : FifoControl} {q : ByteQueue} {x : Frame} → TransmitFacts f q x → TransmitFacts f (take_byte q) x
unfolding take_byte byte_rest
transmit_taken {f = f} {q = q} g =
    record {
      count_most = count_taken (capacity f) q.count g.count_most;
      rest = rest_taken zero_byte 0 q.count q.bytes refl g.rest;
      frame = g.frame;
    }

pub transmit-none : {f : FifoControl} {x : Frame} → FrameFacts x → TransmitFacts f no_bytes x
unfolding no_bytes
transmit-none g = record { count_most = omega arith; rest = no_bytes-rest; frame = g }

-- The receive queue.

-- no error is within every limit
pub none_within : (n : ℕ) → errors_within n no_errors ≡ true
none_within n = rw (le-leb 0 n (omega arith))

module _ {f : FifoControl} {q : EntryQueue} {v : Receiver} {k : Errors} (g : ReceiveFacts f q v k) where
  pub receive_put : (e : Entry) → entry_within (entry_most f) e ≡ true → ReceiveFacts f (put_entry (capacity f) q e) v k
  unfolding put_entry entry_rest entries_within
  receive_put e t =
      record {
        count_most = count_put_lem (capacity f) q.count g.count_most;
        rest = rest_put zero_entry (capacity f) q.count q.entries e g.rest (capacity_bounds f).0;
        errors =
            record {
              entries = all_put (entry_within (entry_most f)) (capacity f) q.count q.entries e g.errors.entries t;
              kept = g.errors.kept;
            };
        receiver = g.receiver;
      }

  pub receive_taken : ReceiveFacts f (take_entry q) v k
  unfolding take_entry entry_rest entries_within
  receive_taken =
      record {
        count_most = count_taken (capacity f) q.count g.count_most;
        rest = rest_taken zero_entry no_entry q.count q.entries refl g.rest;
        errors =
            record {
              entries = all_taken (entry_within (entry_most f)) no_entry q.entries g.errors.entries (none_within (entry_most f));
              kept = g.errors.kept;
            };
        receiver = g.receiver;
      }

  -- with other kept errors
  pub receive_kept : {k' : Errors} → errors_within (kept_most f) k' ≡ true → ReceiveFacts f q v k'
  receive_kept t =
      record {
        count_most = g.count_most;
        rest = g.rest;
        errors = record { entries = g.errors.entries; kept = t };
        receiver = g.receiver;
      }

pub receive_none : {f : FifoControl} {v : Receiver} {k : Errors} → ReceiverFacts v → errors_within (kept_most f) k ≡ true → ReceiveFacts f no_entries v k
unfolding no_entries
receive_none {f = f} g t =
    record {
      count_most = omega arith;
      rest = no_entries-rest;
      errors = record { entries = no_entries-within (entry_most f); kept = t };
      receiver = g;
    }

-- The latches.

-- time-out latch and idle count 0, with any number of characters received
pub latches_restarted : {f : FifoControl} {m n n' : ℕ} {l : Latches} → LatchFacts f m n l → LatchFacts f m n' (restart_idle l)
latches_restarted g = latches_wait g (omega arith)

-- with no less data waiting
pub latches_more : {f : FifoControl} {m n n' : ℕ} {l : Latches} → LatchFacts f m n l → n ≤ n' → LatchFacts f m n' l
latches_more g more =
    let y = g.wait in
    latches_wait g
    (record {
      timeout_most = y.timeout_most;
      timeout_on = y.timeout_on;
      timeout_waiting = λ e. omega (arith, y.timeout_waiting e);
      idle_most = y.idle_most;
      idle_off = y.idle_off;
      idle_none = λ e. y.idle_none (omega arith);
    })
