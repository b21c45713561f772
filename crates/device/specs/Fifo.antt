-- What the FIFO's settings mean (SLLS191C, "FIFO control register (FCR)"; document 01, "The state" and "Trigger").
use Rattle.std.specs.Prelude.{ℕ, cond, eqb}
use Rattle.flag.specs.Flag.{on}
use Rattle.device.specs.declared.FifoControl.{FifoControl}

-- the capacity of each queue: 1 with the FIFO off (character mode), else 16 or 64
unfoldable pub capacity : FifoControl → ℕ
capacity f = cond (on f.enabled) (cond (on f.size) 64 16) 1

-- one of four by the trigger code
abbrev pub by_code : ℕ → ℕ → ℕ → ℕ → ℕ → ℕ
by_code code a b c d = cond (eqb code 0) a (cond (eqb code 1) b (cond (eqb code 2) c d))

-- the trigger level: 1, 4, 8, 14 at size 16; 1, 16, 32, 56 at size 64
unfoldable pub trigger_level : FifoControl → ℕ
trigger_level f = cond (on f.size) (by_code f.trigger 1 16 32 56) (by_code f.trigger 1 4 8 14)
