-- A record of the recorder, a word of 32 bits (document 02 a): the kind in bits 31..28; ticks: count in bits 0..15;
-- read and write: address in 8..10, byte in 0..7; SIN: bit 0; modem pins: bits 0..3; reset; all other bits zero.
use Rattle.std.specs.Prelude.{ℕ, ◌+◌, ◌*◌, ◌/◌, ◌%◌, ◌^◌, Bool, cond, ltb, eqb, Option, Some, None}
use Rattle.recorder.specs.declared.record.Kind.{Kind}

-- bits 31..28
abbrev pub kind : ℕ → ℕ
kind w = w / 2 ^ 28

-- one of seven by the kind: ticks, read, write, SIN, modem pins, reset, and any other
abbrev pub by_kind : {A : Type 0} → ℕ → A → A → A → A → A → A → A → A
by_kind k ticks read write sin modem reset other =
    cond (eqb k 0) ticks
    (cond (eqb k 1) read
    (cond (eqb k 2) write (cond (eqb k 3) sin (cond (eqb k 4) modem (cond (eqb k 5) reset other)))))

-- the known kind that it is, if it is one
abbrev pub kind_of : ℕ → Option Kind
kind_of w =
    by_kind (kind w)
    (Some Kind.Ticks)
    (Some Kind.Read)
    (Some Kind.Write)
    (Some Kind.Sin)
    (Some Kind.Modem)
    (Some Kind.Reset)
    None

-- the count of ticks
abbrev pub count : ℕ → ℕ
count w = w % 2 ^ 16

-- the register's address
abbrev pub address : ℕ → ℕ
address w = w / 2 ^ 8 % 2 ^ 3

-- the byte seen by a read, or written
abbrev pub byte : ℕ → ℕ
byte w = w % 2 ^ 8

-- the level of SIN
abbrev pub sin : ℕ → ℕ
sin w = w % 2

-- the modem pins
abbrev pub modem : ℕ → ℕ
modem w = w % 2 ^ 4

-- what bits 27..0 stay below where no stray bit is set; 0 for any other kind, so that no such record is good
abbrev pub room : ℕ → ℕ
room k = by_kind k (2 ^ 16) (2 ^ 11) (2 ^ 11) 2 (2 ^ 4) 1 0

-- the same of a known kind
abbrev pub room_of : Kind → ℕ
room_of Kind.Ticks = 2 ^ 16
room_of Kind.Read = 2 ^ 11
room_of Kind.Write = 2 ^ 11
room_of Kind.Sin = 2
room_of Kind.Modem = 2 ^ 4
room_of Kind.Reset = 1

-- a known kind, and no stray bit
unfoldable pub good : ℕ → Bool
good w = ltb (w % 2 ^ 28) (room (kind w))

-- a read
abbrev pub is_read : ℕ → Bool
is_read w = eqb (kind w) 1

-- the record with another byte in bits 7..0
abbrev pub with_byte : ℕ → ℕ → ℕ
with_byte w b = w / 2 ^ 8 * 2 ^ 8 + b
