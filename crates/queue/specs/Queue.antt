-- The transmit queue of bytes and the receive queue of entries (document 01, "The state"): 64 places, the oldest at
-- index 0, places beyond the count zero. What a put, a take and a test of the rest do is said once, over the element;
-- `put_byte`, `take_byte`, `byte_rest` and `put_entry`, `take_entry`, `entry_rest` say it of each queue.
use Rattle.std.specs.Prelude.{ℕ, ◌+◌, ◌-◌, Bool, cond, ◌&&◌, ◌||◌, List, [], ◌∷◌, ◌++◌, take, drop, set, replicate, ltb, leb, eqb}
use Rattle.flag.specs.Flag.{on, all_of, any_of}
use Rattle.queue.specs.declared.ByteQueue.{ByteQueue}
use Rattle.queue.specs.declared.Entry.{Entry}
use Rattle.queue.specs.declared.Errors.{Errors}
use Rattle.queue.specs.declared.EntryQueue.{EntryQueue}

-- A queue of capacity c whose n first places are in use.

-- the places after v is put: behind the last one in use; a full queue keeps its places, but in a queue of capacity 1
-- (character mode) v replaces what is there (document 01, "THR write" and "A tick")
unfoldable pub places_put : {A : Type 0} → ℕ → ℕ → List A → A → List A
places_put c n xs v = cond (ltb n c) (set xs n v) (cond (eqb c 1) (set xs 0 v) xs)

-- the count after a put
unfoldable pub count_put : ℕ → ℕ → ℕ
count_put c n = cond (ltb n c) (n + 1) n

-- the queue is full
unfoldable pub is_full : ℕ → ℕ → Bool
is_full c n = leb c n

-- the places after the oldest is taken: each one place down, the last one zero
unfoldable pub shifted : {A : Type 0} → A → List A → List A
shifted z xs = drop 1 xs ++ (z ∷ [])

-- what is queued, the oldest first
abbrev pub contents : {A : Type 0} → ℕ → List A → List A
contents n xs = take n xs

-- The transmit queue.

-- no bytes
unfoldable pub no_bytes : ByteQueue
no_bytes = record { bytes = replicate 64 0; count = 0 }

-- a byte is put into a queue of capacity c
unfoldable pub put_byte : ℕ → ByteQueue → ℕ → ByteQueue
put_byte c q b = record { bytes = places_put c q.count q.bytes b; count = count_put c q.count }

-- the oldest byte is taken
unfoldable pub take_byte : ByteQueue → ByteQueue
take_byte q = record { bytes = shifted 0 q.bytes; count = q.count - 1 }

-- a byte is zero
abbrev pub zero_byte : ℕ → Bool
zero_byte b = eqb b 0

-- places beyond the count are zero
unfoldable pub byte_rest : ByteQueue → Bool
byte_rest q = all_of zero_byte (drop q.count q.bytes)

-- The receive queue.

-- a place not in use
abbrev pub no_entry : Entry
no_entry = record { byte = 0; pe = 0; fe = 0; bi = 0 }

-- no entries
unfoldable pub no_entries : EntryQueue
no_entries = record { entries = replicate 64 no_entry; count = 0 }

-- an entry is put into a queue of capacity c
unfoldable pub put_entry : ℕ → EntryQueue → Entry → EntryQueue
put_entry c q e = record { entries = places_put c q.count q.entries e; count = count_put c q.count }

-- the oldest entry is taken
unfoldable pub take_entry : EntryQueue → EntryQueue
take_entry q = record { entries = shifted no_entry q.entries; count = q.count - 1 }

-- an entry is zero
abbrev pub zero_entry : Entry → Bool
zero_entry e = eqb e.byte 0 && (eqb e.pe 0 && (eqb e.fe 0 && eqb e.bi 0))

-- places beyond the count are zero
unfoldable pub entry_rest : EntryQueue → Bool
entry_rest q = all_of zero_entry (drop q.count q.entries)

-- no error
abbrev pub no_errors : Errors
no_errors = record { pe = 0; fe = 0; bi = 0 }

-- PE, FE and BI of an entry
abbrev pub errors_of : Entry → Errors
errors_of e = record { pe = e.pe; fe = e.fe; bi = e.bi }

-- PE, FE and BI are each at most n
abbrev pub errors_within : ℕ → Errors → Bool
errors_within n e = leb e.pe n && (leb e.fe n && leb e.bi n)

-- the entry's are
abbrev pub entry_within : ℕ → Entry → Bool
entry_within n e = errors_within n (errors_of e)

-- so in every entry
unfoldable pub entries_within : ℕ → EntryQueue → Bool
entries_within n q = all_of (entry_within n) q.entries

-- PE, FE or BI is set
abbrev pub any_error : Errors → Bool
any_error e = on e.pe || (on e.fe || on e.bi)

-- the entry has an error
abbrev pub has_error : Entry → Bool
has_error e = any_error (errors_of e)

-- some entry in the queue has an error
unfoldable pub entry_errors : EntryQueue → Bool
entry_errors q = any_of has_error (contents q.count q.entries)
