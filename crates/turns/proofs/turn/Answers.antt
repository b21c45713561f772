-- What came follows what was held.
use Rattle.blocks.specs.declared.Held.{Held}
use Rattle.session.specs.Session.{standing}
use Rattle.lines.specs.Lines.{reading, LedOn}
use Rattle.lines.proofs.Held.{led_still}
use Rattle.std.proofs.lemmas.Option.{IfSome_then}
use mathlib.Core.Path.{◌≡◌, sym, ap, ◌∙◌}
use mathlib.Core.List.{List, [], ◌++◌}
use Prim.Native.Nat.{ℕ}
use lib.ListN.{take, drop}
use lib.Seq.{take-add}
use Rattle.turns.proofs.turn.Goals as goal

pub returns-in-Err-clause-led_on : goal.returns-in-Err-clause-led_on
returns-in-Err-clause-led_on g c =
    let block = c.read_after.new.block in
    λ w₀ input led.
    IfSome_then c.unread.result {P = λ h. h ≡ c.args.t} {Q = λ h. LedOn w₀ input (standing h.session c.args.kept.now) (take h.used block)} c.unread.ensures (λ h e. record {
      came = [];
      leads =
          led_still w₀ _ input _ led
          ∙ ap (reading _) (sym c.read_after.ensures.block_unchanged)
          ∙ ap (λ (t : Held). reading (standing t.session c.args.kept.now) (take t.used block)) (sym e);
    })

pub returns-in-Ok-answer_read-clause-led_on : goal.returns-in-Ok-answer_read-clause-led_on
returns-in-Ok-answer_read-clause-led_on g c =
    let read = c.read_after in
    let used = c.args.t.used in
    let n = c.in-Ok.n in
    let block = read.new.block in
    let bytes = take-add used n block ∙ ap (λ (held : List ℕ). held ++ take n (drop used block)) read.ensures.block_unchanged in
    λ w₀ input led. record { came = take n (drop used block); leads = c.in-Ok-answer_read.ensures.led w₀ input _ _ bytes led }
