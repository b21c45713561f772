-- The size of each struct by C's rules, and a specimen of each: every byte of a field is the field's number.
use Rattle.std.specs.Prelude.{ℕ, ◌+◌, ◌-◌, ◌*◌, ◌/◌, cond, List, [], ◌∷◌, ltb, pos, replicate}
use Rattle.device.specs.declared.State.{State}
use Rattle.device.specs.declared.Outputs.{Outputs}
use Rattle.device.specs.declared.Answer.{Answer}
use Rattle.device.specs.declared.Looked.{Looked}
use Rattle.device.specs.declared.Forecasted.{Forecasted}
use Rattle.device.specs.declared.Leveled.{Leveled}
use Rattle.device.specs.declared.Ran.{Ran}
use Rattle.device.specs.declared.Jumped.{Jumped}
use Rattle.device.specs.declared.JumpRan.{JumpRan}
use Rattle.capture.specs.declared.Values.{Values}
use Rattle.client.specs.declared.Replay.{Replay}
use Rattle.client.specs.declared.file.Progress.{Progress}
use Rattle.expected.specs.declared.Expected.{Expected}
use Rattle.expected_file.specs.declared.Progress as expecting
use Rattle.rate.specs.declared.Picked.{Picked}
use Rattle.export.specs.declared.layout.Sizes.{Sizes}

-- The bytes that a value takes, and what its place is a multiple of.
pub record Shape : Type 0 where
  pub size : ℕ
  pub align : ℕ

-- a number of so many bytes
abbrev pub number : ℕ → Shape
number bytes = record { size = bytes; align = bytes }

abbrev pub byte : Shape
byte = number 1

abbrev pub word : Shape
word = number 4

abbrev pub index : Shape
index = number 8

-- an array of so many
abbrev pub times : ℕ → Shape → Shape
times n s = record { size = n * s.size; align = s.align }

-- the next multiple of a that is not below n
abbrev pub up_to : ℕ → ℕ → ℕ
up_to a n = (n + a - 1) / a * a

abbrev pub larger : ℕ → ℕ → ℕ
larger m n = cond (ltb m n) n m

-- a struct's fields after those so far: each at the next multiple of its alignment
abbrev pub fields_after : Shape → List Shape → Shape
fields_after s [] = s
fields_after s (f ∷ fs) =
    fields_after (record { size = up_to f.align s.size + f.size; align = larger s.align f.align }) fs

-- a struct of these fields: as long as a multiple of its largest alignment
abbrev pub struct_of : List Shape → Shape
struct_of fs =
    let s = fields_after (record { size = 0; align = 1 }) fs in
    record { size = up_to s.align s.size; align = s.align }

abbrev pub registers_shape : Shape
registers_shape = struct_of (byte ∷ byte ∷ byte ∷ byte ∷ [])

abbrev pub baud_shape : Shape
baud_shape = struct_of (word ∷ word ∷ [])

abbrev pub fifo_shape : Shape
fifo_shape = struct_of (byte ∷ byte ∷ byte ∷ byte ∷ [])

abbrev pub inputs_shape : Shape
inputs_shape = struct_of (byte ∷ byte ∷ [])

abbrev pub bytes_shape : Shape
bytes_shape = struct_of (times 64 byte ∷ word ∷ [])

abbrev pub frame_shape : Shape
frame_shape = struct_of (word ∷ byte ∷ byte ∷ [])

abbrev pub entry_shape : Shape
entry_shape = struct_of (byte ∷ byte ∷ byte ∷ byte ∷ [])

abbrev pub entries_shape : Shape
entries_shape = struct_of (times 64 entry_shape ∷ word ∷ [])

abbrev pub receiver_shape : Shape
receiver_shape = struct_of (byte ∷ byte ∷ byte ∷ byte ∷ word ∷ [])

abbrev pub latches_shape : Shape
latches_shape = struct_of (byte ∷ byte ∷ byte ∷ byte ∷ byte ∷ word ∷ [])

abbrev pub errors_shape : Shape
errors_shape = struct_of (byte ∷ byte ∷ byte ∷ [])

abbrev pub state_shape : Shape
state_shape =
    struct_of
    (registers_shape ∷ baud_shape ∷ fifo_shape ∷ inputs_shape ∷ bytes_shape ∷ frame_shape ∷ entries_shape ∷ receiver_shape
    ∷ latches_shape ∷ errors_shape ∷ [])

abbrev pub outputs_shape : Shape
outputs_shape = struct_of (byte ∷ byte ∷ byte ∷ byte ∷ byte ∷ byte ∷ [])

abbrev pub answer_shape : Shape
answer_shape = struct_of (byte ∷ byte ∷ outputs_shape ∷ state_shape ∷ byte ∷ [])

abbrev pub looked_shape : Shape
looked_shape = struct_of (byte ∷ byte ∷ outputs_shape ∷ [])

abbrev pub forecasted_shape : Shape
forecasted_shape = struct_of (byte ∷ byte ∷ word ∷ [])

abbrev pub leveled_shape : Shape
leveled_shape = struct_of (byte ∷ byte ∷ byte ∷ [])

abbrev pub ran_shape : Shape
ran_shape = struct_of (byte ∷ byte ∷ word ∷ state_shape ∷ [])

abbrev pub values_shape : Shape
values_shape = struct_of (byte ∷ byte ∷ byte ∷ byte ∷ index ∷ [])

abbrev pub replayed_shape : Shape
replayed_shape = struct_of (values_shape ∷ state_shape ∷ [])

abbrev pub progress_shape : Shape
progress_shape = struct_of (word ∷ byte ∷ index ∷ values_shape ∷ state_shape ∷ [])

abbrev pub picked_shape : Shape
picked_shape = struct_of (byte ∷ word ∷ word ∷ [])

abbrev pub expected_shape : Shape
expected_shape = struct_of (byte ∷ byte ∷ index ∷ state_shape ∷ [])

abbrev pub expect_progress_shape : Shape
expect_progress_shape = struct_of (byte ∷ byte ∷ word ∷ index ∷ state_shape ∷ [])

abbrev pub jumped_shape : Shape
jumped_shape = struct_of (byte ∷ byte ∷ word ∷ state_shape ∷ [])

abbrev pub jump_ran_shape : Shape
jump_ran_shape = struct_of (byte ∷ byte ∷ word ∷ word ∷ state_shape ∷ [])

-- the sizes of the structs that a caller has
abbrev pub sizes : Sizes
sizes =
    record {
      state = state_shape.size;
      answer = answer_shape.size;
      looked = looked_shape.size;
      forecasted = forecasted_shape.size;
      leveled = leveled_shape.size;
      ran = ran_shape.size;
      replayed = replayed_shape.size;
      progress = progress_shape.size;
      picked = picked_shape.size;
      expected = expected_shape.size;
      expecting = expect_progress_shape.size;
      jumped = jumped_shape.size;
      jumpran = jump_ran_shape.size;
    }

-- The specimens.

-- the number in each of four bytes
abbrev pub four_times : ℕ → ℕ
four_times n = 16843009 * n

-- the number in each of eight bytes
abbrev pub eight_times : ℕ → ℕ
eight_times n = 72340172838076673 * n

-- the state: its fields are numbered from 1
abbrev pub state_specimen : State
state_specimen =
    record {
      registers = record { ier = 1; mcr = 2; lcr = 3; scr = 4 };
      baud = record { divisor = four_times 5; k = four_times 6 };
      fifo = record { enabled = 7; size = 8; dma = 9; trigger = 10 };
      inputs = record { modem = 11; sin = 12 };
      tx = record { bytes = replicate 64 13; count = four_times 14 };
      frame = record { left = four_times 15; byte = 16; format = 17 };
      rx = record { entries = replicate 64 (record { byte = 18; pe = 19; fe = 20; bi = 21 }); count = four_times 22 };
      receiver = record { phase = 23; format = 24; samples = 25; parity = 26; position = four_times 27 };
      latches = record { empty = 28; overrun = 29; timeout = 30; changes = 31; hold = 32; idle = four_times 33 };
      kept = record { pe = 34; fe = 35; bi = 36 };
    }

-- The answers: their own fields are numbered from 100, which no field of the state reaches.

abbrev pub outputs_specimen : Outputs
outputs_specimen = record { sout = 102; rts = 103; dtr = 104; out1 = 105; out2 = 106; intrpt = 107 }

abbrev pub looked_specimen : Looked
looked_specimen = record { number = 100; part = 113; outputs = outputs_specimen }

abbrev pub forecasted_specimen : Forecasted
forecasted_specimen = record { number = 100; part = 113; ticks = four_times 101 }

abbrev pub leveled_specimen : Leveled
leveled_specimen = record { number = 100; part = 113; level = 101 }

abbrev pub answer_specimen : Answer
answer_specimen = record { number = 100; part = 113; byte = 101; outputs = outputs_specimen; state = state_specimen }

abbrev pub ran_specimen : Ran
ran_specimen = record { number = 100; part = 113; used = four_times 101; state = state_specimen }

abbrev pub values_specimen : Values
values_specimen = record { number = 100; part = 113; seen = 101; model = 108; place = eight_times 109 }

abbrev pub replayed_specimen : Replay
replayed_specimen = record { values = values_specimen; state = state_specimen }

abbrev pub progress_specimen : Progress
progress_specimen =
    record {
      version = four_times 110;
      stopped = 111;
      done = eight_times 112;
      values = values_specimen;
      state = state_specimen;
    }

abbrev pub picked_specimen : Picked
picked_specimen = record { number = 100; divisor = four_times 114; error = pos (four_times 115) }

abbrev pub expected_specimen : Expected
expected_specimen = record { number = 100; part = 113; count = eight_times 116; state = state_specimen }

abbrev pub expect_progress_specimen : expecting.Progress
expect_progress_specimen =
    record {
      number = 100;
      part = 113;
      version = four_times 110;
      count = eight_times 116;
      state = state_specimen;
    }

abbrev pub jumped_specimen : Jumped
jumped_specimen = record { number = 100; part = 113; jumps = four_times 117; state = state_specimen }

abbrev pub jump_ran_specimen : JumpRan
jump_ran_specimen =
    record { number = 100; part = 113; used = four_times 101; jumps = four_times 117; state = state_specimen }
