-- The capture expected for a whole file, from the fresh state (document 02 f), and for a file that comes in parts.
use Rattle.std.specs.Prelude.{ℕ, ◌%◌, ◌≡◌, true, cond, not, ◌&&◌, List, [], ◌++◌, eqb, length, take, drop, Result, Ok, Err}
use Rattle.recorder.specs.declared.file.HeaderError.{HeaderError}
use Rattle.recorder.specs.File.{words_of, bytes_of, known, bad_header, header_of}
use Rattle.device.specs.declared.State.{State}
use Rattle.device.specs.State.{fresh_of}
use Rattle.device.specs.Ranges.{well_formed}
use Rattle.expected.specs.Expected.{Written, expect_of}
use Rattle.expected_file.specs.declared.Progress.{Progress}

-- what is made of a file: the number of a refusal, with the part of the state that is bad (document 02 b), the state in
-- which it ends, and the bytes written
pub record Made : Type 0 where
  pub number : ℕ
  pub part : ℕ
  pub state : State
  pub bytes : List ℕ

-- the bytes of the words that were written
abbrev pub made_of : Written → Made
made_of r =
    record {
      number = r.answer.number;
      part = r.answer.part;
      state = r.answer.state;
      bytes = bytes_of (take r.answer.count r.words);
    }

-- bytes written before them
abbrev pub after : List ℕ → Made → Made
after bytes m = record { number = m.number; part = m.part; state = m.state; bytes = bytes ++ m.bytes }

-- one to three bytes left at the end of the records' bytes: 8, where nothing was refused before
unfoldable pub ended : List ℕ → Made → Made
ended bytes m =
    cond (eqb m.number 0 && not (eqb (length bytes % 4) 0))
    (record { number = 8; part = 0; state = m.state; bytes = m.bytes })
    m

-- the records that these bytes hold, to the end of the file: there is a word for each of them
unfoldable pub records_of : ℕ → State → List ℕ → Made
records_of version s bytes = ended bytes (made_of (expect_of version s (words_of bytes) (words_of bytes)))

-- a file by its header: a good one as it is and then the records, nothing where it is refused
abbrev pub headed : Result ℕ HeaderError → List ℕ → Made
headed (Ok version) bytes = after (take 8 bytes) (records_of version fresh_of (drop 8 bytes))
headed (Err error) bytes = record { number = bad_header error; part = 0; state = fresh_of; bytes = [] }

-- a file of these bytes: its header, and the records behind it
unfoldable pub expected_of : List ℕ → Made
expected_of bytes = headed (header_of bytes) bytes

-- A file that comes in parts.

-- the file that begins with these bytes: its header, judged, and the fresh state
abbrev pub begun_by : Result ℕ HeaderError → Progress
begun_by (Ok version) = record { number = 0; part = 0; version = version; count = 0; state = fresh_of }
begun_by (Err error) = record { number = bad_header error; part = 0; version = 0; count = 0; state = fresh_of }

abbrev pub begun_of : List ℕ → Progress
begun_of bytes = begun_by (header_of bytes)

-- what is made of a file that stands here, with the bytes written last
abbrev pub made_by : Progress → List ℕ → Made
made_by p bytes = record { number = p.number; part = p.part; state = p.state; bytes = bytes }

-- what is made of the bytes still to come: nothing after a refusal
unfoldable pub rest_of : Progress → List ℕ → Made
rest_of p bytes = cond (eqb p.number 0) (records_of p.version p.state bytes) (made_by p [])

-- what the records still to come need: a well-formed state, of which no part is bad, and a known version
pub record Ready (p : Progress) : Type 0 where
  pub none_bad : p.part ≡ 0
  pub well : well_formed p.state ≡ true
  pub known-version : known p.version ≡ true
