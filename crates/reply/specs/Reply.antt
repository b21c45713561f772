-- The calls and the numbers that they answer.
use Rattle.std.specs.Prelude.{ℕ, List, [], ◌∷◌, ◌++◌}
use Rattle.device.specs.declared.Outputs.{Outputs}
use Rattle.device.specs.declared.Answer.{Answer}
use Rattle.device.specs.declared.Looked.{Looked}
use Rattle.device.specs.declared.Forecasted.{Forecasted}
use Rattle.device.specs.declared.Leveled.{Leveled}
use Rattle.device.specs.declared.Ran.{Ran}
use Rattle.device.specs.declared.Jumped.{Jumped}
use Rattle.device.specs.declared.JumpRan.{JumpRan}
use Rattle.device.specs.declared.State.{State}
use Rattle.device.specs.Calls.{reset_of, read_of, write_of, sin_of, modem_of, tick_of, ticks_answer}
use Rattle.rate.specs.declared.Picked.{Picked}
use Rattle.text.specs.Decimal.{word_of, signed_word_of}
use Rattle.command.specs.declared.Call.{Call}

-- a call that moves the state
unfoldable pub step_of : State → Call → Answer
step_of s Call.Reset = reset_of s
step_of s (Call.Read a) = read_of s a
step_of s (Call.Write a b) = write_of s a b
step_of s (Call.Sin v) = sin_of s v
step_of s (Call.Modem v) = modem_of s v
step_of s Call.Tick = tick_of s
step_of s (Call.Ticks n) = ticks_answer s n

-- SOUT RTS DTR OUT1 OUT2 INTRPT
abbrev pub pins_numbers : Outputs → List ℕ
pins_numbers o = o.sout ∷ o.rts ∷ o.dtr ∷ o.out1 ∷ o.out2 ∷ o.intrpt ∷ []

-- NO BYTE SOUT RTS DTR OUT1 OUT2 INTRPT
abbrev pub step_numbers : Answer → List ℕ
step_numbers a = a.number ∷ a.byte ∷ pins_numbers a.outputs

-- NO SOUT RTS DTR OUT1 OUT2 INTRPT
abbrev pub look_numbers : Looked → List ℕ
look_numbers l = l.number ∷ pins_numbers l.outputs

-- NO T
abbrev pub forecast_numbers : Forecasted → List ℕ
forecast_numbers f = f.number ∷ f.ticks ∷ []

-- NO LEVEL
abbrev pub level_numbers : Leveled → List ℕ
level_numbers l = l.number ∷ l.level ∷ []

-- NO PART: 0 and 0, or 1 and the part that is bad
abbrev pub part_numbers : Looked → List ℕ
part_numbers l = l.number ∷ l.part ∷ []

-- NO USED
abbrev pub run_numbers : Ran → List ℕ
run_numbers r = r.number ∷ r.used ∷ []

-- NO JUMPS
abbrev pub jump_numbers : Jumped → List ℕ
jump_numbers j = j.number ∷ j.jumps ∷ []

-- NO USED JUMPS
abbrev pub jump_run_numbers : JumpRan → List ℕ
jump_run_numbers r = r.number ∷ r.used ∷ r.jumps ∷ []

-- NO DIVISOR ERROR, a line: only the error has a sign
unfoldable pub divisor_line : Picked → List ℕ
divisor_line p = word_of p.number 32 ++ (word_of p.divisor 32 ++ signed_word_of p.error 10)
