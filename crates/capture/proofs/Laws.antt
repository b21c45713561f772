-- Replay by the records that are followed.
use Prim.Native.Nat.{ℕ, suc, ◌+◌, ◌≤◌, ◌<◌}
use mathlib.Core.Path.{◌≡◌, refl, sym, ap, subst, ◌∙◌}
use mathlib.Core.Bool.{Bool, true, false, not}
use mathlib.Core.List.{List, [], ◌∷◌}
use lib.Dec.{ltb}
use lib.ListN.{length, drop, get_or, drop_of_length-le}
use lib.Seq.{drop-cons}
use native.Mathlib.Omega.{arith}
use borrow.Author.Tests.{ltb-true, ltb-false, not-true}
use Rattle.flag.proofs.Laws.{and_left, and_right}
use Rattle.recorder.specs.Record.{byte, good}
use Rattle.device.specs.declared.State.{State}
use Rattle.recorded.specs.Record.{step_of, model_byte, differing}
use Rattle.sequence.specs.Sequence.{Followed, follows, follow_of, good_at}
use Rattle.sequence.proofs.Ways.{each_way, follow_stops}
use Rattle.sequence.proofs.Laws.{good-within, good_there, stopped_differs}
use Rattle.capture.specs.Replay.{agreed, differs, refused, replay_from, stopped_at}

-- A record that is followed is good and does not differ.

followed_good : (s : State) (w : ℕ) → follows true s w ≡ true → good w ≡ true
unfolding follows
followed_good s w e = and_left (good w) (not (differing s w)) e

followed_same : (s : State) (w : ℕ) → follows true s w ≡ true → differing s w ≡ false
unfolding follows
followed_same s w e = not-true (differing s w) (and_right (good w) (not (differing s w)) e)

-- What is left behind the records that are followed answers as the whole does.

replay_next : (place : ℕ) (s : State) (w : ℕ) (ws : List ℕ) (f : Followed) → follows true s w ≡ true →
    replay_from (suc place) (step_of s w).state ws ≡ replay_from (suc place + f.count) f.state (drop f.count ws) →
    replay_from place s (w ∷ ws) ≡ replay_from (place + suc f.count) f.state (drop f.count ws)
unfolding replay_from
replay_next place s w ws f e more =
    let count : suc place + f.count ≡ place + suc f.count = omega arith in
    simp (followed_good s w e, followed_same s w e) (more ∙ ap (λ (n : ℕ). replay_from n f.state (drop f.count ws)) count)

replay_follows : (ws xs : List ℕ) (s : State) (place : ℕ) → replay_from place s ws ≡ replay_from (place + (follow_of true s ws xs).count) (follow_of true s ws xs).state (drop (follow_of true s ws xs).count ws)
replay_follows =
    each_way true (λ s ws xs f. (place : ℕ) → replay_from place s ws ≡ replay_from (place + f.count) f.state (drop f.count ws))
    (record {
      end = λ s xs place. ap (λ (n : ℕ). replay_from n s []) (here place);
      stop = λ s w ws xs e place. ap (λ (n : ℕ). replay_from n s (w ∷ ws)) (here place);
      next = λ s w ws e more place. replay_next place s w ws (follow_of true (step_of s w).state ws []) e (more (suc place));
      write = λ s w ws x xs e more place. replay_next place s w ws (follow_of true (step_of s w).state ws xs) e (more (suc place));
    })
  where
    here : (place : ℕ) → place ≡ place + 0
    here place = omega arith

-- Where the records are no longer followed.

module _ (s : State) (ws xs : List ℕ) (f : Followed) (e : f ≡ follow_of true s ws xs) where
  pub replay_rest : replay_from f.count f.state (drop f.count ws) ≡ replay_from 0 s ws
  replay_rest =
      let none : f.count ≡ 0 + f.count = omega arith in
      ap (λ (n : ℕ). replay_from n f.state (drop f.count ws)) none
      ∙ ap (λ (g : Followed). replay_from (0 + g.count) g.state (drop g.count ws)) e
      ∙ sym (replay_follows ws xs s 0)

  stop_differs : good_at ws f.count ≡ true → differing f.state (get_or ws f.count 0) ≡ true
  stop_differs g =
      let stops : f.count < length ws → follows true f.state (get_or ws f.count 0) ≡ false =
      subst (λ (h : Followed). h.count < length ws → follows true h.state (get_or ws h.count 0) ≡ false) (sym e) (follow_stops true ws xs s)
      in
      stopped_differs true f.state (get_or ws f.count 0) (good_there ws f.count g) (stops (good-within ws f.count g))

  -- with the record at that place looked at
  next : f.count < length ws → (let w = get_or ws f.count 0 in replay_from f.count f.state (w ∷ drop (suc f.count) ws)) ≡ replay_from 0 s ws
  next h = sym (ap (replay_from f.count f.state) (drop-cons ws f.count 0 h)) ∙ replay_rest

  pub replay_agrees : length ws ≤ f.count → agreed f.state ≡ replay_from 0 s ws
  unfolding replay_from
  replay_agrees h = rw (drop_of_length-le ws h) at replay_rest

  replay_refuses : f.count < length ws → good (get_or ws f.count 0) ≡ false → refused 8 f.state f.count ≡ replay_from 0 s ws
  unfolding replay_from
  replay_refuses h g = simp g at (next h)

  replay_differs : f.count < length ws → good (get_or ws f.count 0) ≡ true → differing f.state (get_or ws f.count 0) ≡ true →
      differs f.state f.count (byte (get_or ws f.count 0)) (model_byte f.state (get_or ws f.count 0)) ≡ replay_from 0 s ws
  unfolding replay_from
  replay_differs h g d = simp (g, d) at (next h)

  -- the answer there is that of the replay
  pub replay_stops : (model : ℕ) → (good_at ws f.count ≡ true → model ≡ model_byte f.state (get_or ws f.count 0)) →
      stopped_at f.state ws f.count model ≡ replay_from 0 s ws
  unfolding good_at stopped_at
  replay_stops model m = go (ltb f.count (length ws)) refl (good (get_or ws f.count 0)) refl
    where
      go : (b : Bool) → ltb f.count (length ws) ≡ b → (g : Bool) → good (get_or ws f.count 0) ≡ g → stopped_at f.state ws f.count model ≡ replay_from 0 s ws
      go false d g h = simp d (replay_agrees (omega (arith, ltb-false f.count (length ws) d)))
      go true d false h = simp (d, h) (replay_refuses (ltb-true f.count (length ws) d) h)
      go true d true h =
          let found : good_at ws f.count ≡ true = simp (d, h) in
          simp (d, h) (rw (m found) (replay_differs (ltb-true f.count (length ws) d) h (stop_differs found)))
