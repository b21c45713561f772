-- RBR, receiver buffer register (SLLS191C, "receiver buffer register (RBR)" and "FIFO interrupt mode operation";
-- document 01, "RBR read").
use Rattle.std.specs.Prelude.{ℕ, cond, eqb, get_or}
use Rattle.queue.specs.declared.Entry.{Entry}
use Rattle.queue.specs.declared.EntryQueue.{EntryQueue}
use Rattle.queue.specs.Queue.{no_entry, take_entry}
use Rattle.device.specs.declared.Latches.{Latches}
use Rattle.device.specs.declared.Reading.{Reading}
use Rattle.device.specs.declared.State.{State}
use Rattle.device.specs.State.{with_rx, with_latches, with_timeout, with_idle}

-- the oldest received entry, which stands at place 0
abbrev pub oldest : EntryQueue → Entry
oldest q = get_or q.entries 0 no_entry

-- a read that leaves the state as it is
abbrev pub seen : State → ℕ → Reading
seen s b = record { byte = b; state = s }

-- time-out latch and idle count 0
abbrev pub restart_idle : Latches → Latches
restart_idle l = with_idle (with_timeout l 0) 0

-- the oldest byte, which is removed; time-out latch and idle count go to 0. Empty: 0, nothing changes (house rule)
unfoldable pub rbr_read : State → Reading
rbr_read s =
    cond (eqb s.rx.count 0)
    (seen s 0)
    (record {
      byte = (oldest s.rx).byte;
      state = with_latches (with_rx s (take_entry s.rx)) (restart_idle s.latches);
    })
