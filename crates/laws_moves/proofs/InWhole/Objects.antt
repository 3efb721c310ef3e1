-- Records: how long they are, and where they lie.
use Rattle.std.proofs.Common.{◌≡◌, ℕ, ◌+◌, ◌-◌, ◌%◌, ◌<◌, ◌≤◌, Bool, true, false, not, ◌&&◌, ◌==◌, length, List, ◌∷◌, map, drop}
use Rattle.std.proofs.Common.{replicate, Option, Some, None, refl, ◌∙◌, arith}
use Rattle.std.proofs.lemmas.Bool.{eqb-true}
use Rattle.std.proofs.lemmas.List.{length-append, length-replicate, length-take-le, length-drop}
use Rattle.fk_model.specs.declared.limits.TheConstants.{PAGE_WORDS, RECORD_WORDS}
use Rattle.fk_model.specs.Places.{Path}
use Rattle.fk_model.specs.Objects.{Talk, Fault, Body, kind_of, number_of_kind}
use Rattle.fk_model.specs.Objects.Body.{Mutex, Mapping, Region, Port, Thread_of}
use Rattle.fk_model.specs.World.{World}
use Rattle.fk_model.specs.World.Change.{Alter}
use Rattle.fk_model.specs.Outcomes.{Caller}
use Rattle.fk_model.specs.Records.{record_of, talk_words, fault_words, state_words, set_edits, record_registers, word}
use Rattle.fk_model.specs.StateRows.{is_bad_record_address}
use Rattle.laws_moves.specs.Whole.Runnable.{HasRegisters}
use Rattle.laws_moves.proofs.InWhole.Lengths.{length-of_record}
use Rattle.laws_moves.proofs.InWhole.Outcomes.{HasAll, AreFull}

-- a record lies within its page
pub record_place : (address : ℕ) → (address % RECORD_WORDS == 0) ≡ true → address % PAGE_WORDS + RECORD_WORDS ≤ PAGE_WORDS
record_place address h = let e = eqb-true (address % RECORD_WORDS) 0 h in omega (arith, e)

length-talk_words : (talk : Option Talk) → length (talk_words talk) ≡ 2
length-talk_words None = refl
length-talk_words (Some talk) = refl

length-fault_words : (fault : Option Fault) → length (fault_words fault) ≡ 3
length-fault_words None = refl
length-fault_words (Some fault) = refl

state_words-fit : (b : Body) → HasAll b → length (state_words b) < RECORD_WORDS
state_words-fit (Thread_of t) has = simp length-append (omega (arith, has, length-talk_words t.talk, length-fault_words t.fault))
state_words-fit (Mutex locked) has = omega arith
state_words-fit b has = omega arith

pub length-record : (b : Body) → HasAll b → length (record_of b) ≡ RECORD_WORDS
unfolding record_of
length-record b has =
    let fits = state_words-fit b has in
    let words = number_of_kind (kind_of b) ∷ state_words b in
    omega (arith, fits, length-append words (replicate (RECORD_WORDS - length words) 0), length-replicate {A = ℕ} (RECORD_WORDS - length words) 0)

pub has-all : (w : World) → HasRegisters w → (x : Path) (b : Body) → w.body x ≡ Some b → HasAll b
has-all w registers x (Thread_of t) there = registers x t (rw there refl)
has-all w registers x (Mutex locked) there = tt
has-all w registers x b there = tt

pub users-address : (c : Caller) (address : ℕ) → c.is_porter ≡ false → is_bad_record_address c address ≡ false → (address % RECORD_WORDS == 0) ≡ true
users-address c address user good = by c.is_porter (address % RECORD_WORDS == 0) user good
  where
    by : (porter fits : Bool) → porter ≡ false → (not porter && not fits) ≡ false → fits ≡ true
    by true fits e h = cc
    by false true e h = refl
    by false false e h = cc

length-of_registers : (words : List ℕ) → RECORD_WORDS ≤ length words → length (record_registers words) ≡ 16
length-of_registers words long = let rest = length-drop 1 words in length-take-le 16 (drop 1 words) (omega (arith, rest, long))

pub edits-full : (x : Path) (b : Body) (words : List ℕ) → RECORD_WORDS ≤ length words → AreFull (map (Alter x) (set_edits b words))
edits-full x (Mutex locked) words long = (tt, tt)
edits-full x (Mapping m) words long = (tt, tt)
edits-full x (Region r) words long = (tt, tt)
edits-full x (Port set served) words long = (tt, tt)
edits-full x (Thread_of t) words long = (length-of_record (word words 18) (record_registers words) (word words 19) ∙ length-of_registers words long, (tt, tt))
edits-full x b words long = tt
