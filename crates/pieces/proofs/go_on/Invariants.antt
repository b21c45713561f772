use Rattle.std.specs.Slice.Iter.{chunks_exact_rest, chunks_exact_size}
use Rattle.capture_file.proofs.Parts.{Blocks}
use Prim.Native.Nat.{ℕ, ◌%◌}
use mathlib.Core.Path.{◌≡◌}
use lib.ListN.{length, drop}
use Rattle.pieces.proofs.go_on.Given as goal

abbrev pub invariant-loop-piece : goal.invariant-loop-piece
invariant-loop-piece l =
    record {
      can_next : (goal.iterator-loop-piece).can_next l.piece-iterator;
      is_finite : (goal.iterator-loop-piece).is_finite l.piece-iterator;
      size : chunks_exact_size l.piece-iterator ≡ 2048;
      at : ℕ;
      whole : at % 2048 ≡ 0;
      left : chunks_exact_rest l.piece-iterator ≡ drop at l.bytes;
      before : Blocks l.fn.p l.bytes l.q at;
      room : length l.records ≡ 512;
    }
