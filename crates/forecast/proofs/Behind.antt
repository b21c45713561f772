-- A place of the string behind the first part lies in the frame of a queued byte.
use Prim.Native.Nat.{ℕ, ◌+◌, ◌/◌, ◌%◌, ◌≤◌, ◌<◌, max}
use native.Mathlib.Omega.{arith}
use mathlib.Core.Path.{◌≡◌, sym, ap, ◌∙◌}
use lib.ListN.{length, get_or}
use lib.Seq.{length-take-le, get_or-take}
use Rattle.frame.specs.Format.{frame_length}
use Rattle.frame.specs.Frame.{frame_levels}
use Rattle.frame.specs.Forecast.{pulses_left, spelled}
use Rattle.frame.proofs.Places.{byte-number_in_queue, level_in_queued}
use Rattle.queue.specs.declared.ByteQueue.{ByteQueue}
use Rattle.queue.specs.Queue.{contents}
use Rattle.device.specs.declared.Frame.{Frame}

module _ (x : Frame) (tx : ByteQueue) (f q m : ℕ) (long : length tx.bytes ≡ 64) (sent : x.left ≤ frame_length x.format) (most : tx.count ≤ 64) (before : q < pulses_left x.left tx.count (frame_length f)) (at : q ≡ max x.left 1 + m) where
  queued : m / frame_length f < tx.count
  queued = byte-number_in_queue x.left tx.count f q m at before

  -- the byte's number
  pub behind_byte : m / frame_length f < 64
  behind_byte = let h = queued in omega arith

  -- the level there
  pub behind_level : get_or (frame_levels (get_or tx.bytes (m / frame_length f) 0) f) (m % frame_length f) 1 ≡ get_or (spelled x.left x.byte x.format f (contents tx.count tx.bytes)) q 1
  behind_level =
      let bs = contents tx.count tx.bytes in
      let count : length bs ≡ tx.count = length-take-le tx.count tx.bytes (omega arith) in
      let before' : q < pulses_left x.left (length bs) (frame_length f) = rw count before in
      ap (λ (b : ℕ). get_or (frame_levels b f) (m % frame_length f) 1) (sym (get_or-take tx.count tx.bytes (m / frame_length f) 0 queued))
      ∙ sym (level_in_queued x.left x.byte x.format f q m bs sent at before')
