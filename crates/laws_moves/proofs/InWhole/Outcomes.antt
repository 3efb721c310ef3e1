-- Outcomes that leave pages and registers full: how a row's parts make one. At most its first change makes a space.
use Rattle.std.proofs.Common.{◌≡◌, List, [], ◌∷◌, ◌++◌, length}
use Rattle.fk_model.specs.declared.limits.TheConstants.{PAGE_WORDS}
use Rattle.fk_model.specs.Objects.{Body, registers_of}
use Rattle.fk_model.specs.Objects.Body.{Thread_of}
use Rattle.fk_model.specs.World.{Change, Edit}
use Rattle.fk_model.specs.World.Change.{Alter, Make, MakeSpace, Kill, Move, PutPage, DropPage}
use Rattle.fk_model.specs.World.Edit.{Proceed}
use Rattle.fk_model.specs.Outcomes.{Outcome}
use Rattle.fk_model.specs.Outcomes.Outcome.{Refused, Waits, Goes}

-- ---- changes

abbrev pub HasAll : Body → Type 0
HasAll (Thread_of t) = length (registers_of t.mode) ≡ 16
HasAll other = Unit {0}

abbrev pub IsFullEdit : Edit → Type 0
IsFullEdit (Proceed mode counter) = length (registers_of mode) ≡ 16
IsFullEdit other = Unit {0}

-- it puts a full page, sets 16 registers, and makes no space
abbrev pub IsFull : Change → Type 0
IsFull (Alter x edit) = IsFullEdit edit
IsFull (Make x body) = HasAll body
IsFull (MakeSpace x holder) = ⊥
IsFull (Kill x) = Unit {0}
IsFull (Move x slot) = Unit {0}
IsFull (PutPage space page words) = length words ≡ PAGE_WORDS
IsFull (DropPage space page) = Unit {0}

abbrev pub AreFull : List Change → Type 0
AreFull [] = Unit {0}
AreFull (c ∷ cs) = IsFull c × AreFull cs

-- the first of them may make a space
abbrev pub IsFullRow : List Change → Type 0
IsFullRow [] = Unit {0}
IsFullRow (MakeSpace x holder ∷ cs) = AreFull cs
IsFullRow (c ∷ cs) = IsFull c × AreFull cs

pub full-row : (cs : List Change) → AreFull cs → IsFullRow cs
full-row [] full = full
full-row (Alter x edit ∷ cs) full = full
full-row (Make x body ∷ cs) full = full
full-row (MakeSpace x holder ∷ cs) full = absurd full.0
full-row (Kill x ∷ cs) full = full
full-row (Move x slot ∷ cs) full = full
full-row (PutPage space page words ∷ cs) full = full
full-row (DropPage space page ∷ cs) full = full

-- ---- outcomes

abbrev pub FullIn : Outcome → Type 0
FullIn (Refused status) = Unit {0}
FullIn Waits = Unit {0}
FullIn (Goes changes said) = IsFullRow changes

-- (a record, so that the outcome is read off a goal)
pub record FullOutcome (o : Outcome) : Type 0 where
  pub full : FullIn o

-- ---- lists

pub full-then : (cs ds : List Change) → AreFull cs → AreFull ds → AreFull (cs ++ ds)
full-then [] ds full after = after
full-then (c ∷ cs) ds full after = (full.0, full-then cs ds full.1 after)

pub row-then : (cs ds : List Change) → IsFullRow cs → AreFull ds → IsFullRow (cs ++ ds)
row-then [] ds full after = full-row ds after
row-then (MakeSpace x holder ∷ cs) ds full after = full-then cs ds full after
row-then (Alter x edit ∷ cs) ds full after = (full.0, full-then cs ds full.1 after)
row-then (c ∷ cs) ds full after = (full.0, full-then cs ds full.1 after)
