-- Laws of tests that the proofs of every crate share.
use mathlib.Core.Path.{◌≡◌, refl}
use mathlib.Core.Bool.{Bool, true, false, cond, ◌&&◌, false≢true}
use mathlib.Core.List.{List, [], ◌∷◌, ◌++◌}
use Prim.Native.Nat.{◌<◌}
use native.Mathlib.Omega.{arith}
use mir.Val.{bool_byte}
use borrow.Author.Tests.{lt-ltb, le-ltb, le-leb, lt-leb, eq-eqb, ne_eqb}
use Rattle.flag.specs.Flag.{every, bit_of}

-- the outcome of a test from the fact that it tests
pub ruleset tests = (lt-ltb, le-ltb, le-leb, lt-leb, eq-eqb, ne_eqb)

-- a test as the byte that `u8::from` makes of it
pub from_test : (b : Bool) → bool_byte b ≡ bit_of b
from_test true = refl
from_test false = refl

pub bit_small : (b : Bool) → bit_of b < 2
bit_small true = omega arith
bit_small false = omega arith

-- a claim about what a test picks, from the claim about each side
pub by_test : {A : Type 0} (P : A → Type 0) (b : Bool) (x y : A) → (b ≡ true → P x) → (b ≡ false → P y) → P (cond b x y)
by_test P true x y f g = f refl
by_test P false x y f g = g refl

-- a function of what a test picks
pub cond_map : {A B : Type 0} (f : A → B) (b : Bool) (x y : A) (x' y' : B) → f x ≡ x' → f y ≡ y' → f (cond b x y) ≡ cond b x' y'
cond_map f true x y x' y' p q = p
cond_map f false x y x' y' p q = q

-- the same on both sides
pub cond_same : {A B : Type 0} (f : A → B) (b : Bool) (x y : A) (z : B) → f x ≡ z → f y ≡ z → f (cond b x y) ≡ z
cond_same f true x y z p q = p
cond_same f false x y z p q = q

-- what each test of a list says
abbrev pub Each : List Bool → Type 0
Each [] = Unit {0}
Each (t ∷ ts) = (t ≡ true) × Each ts

pub and_left : (a b : Bool) → (a && b) ≡ true → a ≡ true
and_left true b e = refl
and_left false b e = e

pub and_right : (a b : Bool) → (a && b) ≡ true → b ≡ true
and_right true b e = e
and_right false b e = absurd (false≢true e)

pub and_both : (a b : Bool) → a ≡ true → b ≡ true → (a && b) ≡ true
and_both true b p q = q
and_both false b p q = p

pub each_of : (ts : List Bool) → every ts ≡ true → Each ts
each_of [] e = tt
each_of (t ∷ ts) e = (and_left t (every ts) e, each_of ts (and_right t (every ts) e))

pub of_each : (ts : List Bool) → Each ts → every ts ≡ true
of_each [] e = refl
of_each (t ∷ ts) e = and_both t (every ts) e.0 (of_each ts e.1)

-- the tests of two lists
pub every_append : (ts us : List Bool) → every (ts ++ us) ≡ (every ts && every us)
every_append [] us = refl
every_append (true ∷ ts) us = every_append ts us
every_append (false ∷ ts) us = refl
