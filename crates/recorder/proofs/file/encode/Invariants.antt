use Rattle.std.proofs.Common.{◌≡◌, ◌*◌, take, drop}
use Rattle.recorder.specs.File.{bytes_of}
use Rattle.recorder.proofs.file.encode.Given as goal

abbrev pub invariant-loop-i : goal.invariant-loop-i
invariant-loop-i l =
    record {
      written : take (4 * l.i) l.bytes ≡ bytes_of (take l.i l.words);
      kept : drop (4 * l.i) l.bytes ≡ drop (4 * l.i) l.initial.bytes;
    }
