-- Rows of users and of native servers touch pointers once: of the changes that a row lists at most one makes, destroys or
-- renames an object, or sets a pointer of one. What it makes is new.
use Rattle.std.specs.Prelude.{◌≡◌, Bool, true, false, ◌&&◌, is_none, List, [], ◌∷◌, Option, Some, None}
use Rattle.fk_model.specs.declared.moves.Ask.{Ask}
use Rattle.fk_model.specs.declared.names.Kind.TheVariants as kinds
use Rattle.fk_model.specs.Places.{Path}
use Rattle.fk_model.specs.Objects.{Thread, Body}
use Rattle.fk_model.specs.Objects.Body.{Thread_of}
use Rattle.fk_model.specs.World.{World, Change, Edit}
use Rattle.fk_model.specs.World.Change.{Alter, Make, MakeSpace, Kill, Move, PutPage, DropPage}
use Rattle.fk_model.specs.World.Edit.{SetPointer, SetHolder, SetTalk, SetPeer, SetFault, SetTaker}
use Rattle.fk_model.specs.Searches.{thread_at}
use Rattle.fk_model.specs.Outcomes.{listed}
use Rattle.fk_model.specs.Moves.{outcome}
use Rattle.fk_model.specs.Valid.{kind_there}
use Rattle.laws_moves.specs.Frozen.Users.{is_users}

-- it sets no pointer
abbrev pub is_mild_edit : Edit → Bool
is_mild_edit (SetPointer to) = false
is_mild_edit (SetHolder holder) = false
is_mild_edit (SetTalk talk) = false
is_mild_edit (SetPeer peer) = false
is_mild_edit (SetFault fault) = false
is_mild_edit (SetTaker taker) = false
is_mild_edit other = true

-- and makes, destroys or renames nothing
abbrev pub is_mild : Change → Bool
is_mild (Alter x edit) = is_mild_edit edit
is_mild (Make x body) = false
is_mild (MakeSpace x holder) = false
is_mild (Kill x) = false
is_mild (Move x slot) = false
is_mild (PutPage space page words) = true
is_mild (DropPage space page) = true

abbrev pub AreMild : List Change → Type 0
AreMild [] = Unit {0}
AreMild (c ∷ cs) = (is_mild c ≡ true) × AreMild cs

-- a thread without a talk and a fault, or no thread
abbrev pub is_bare : Body → Bool
is_bare (Thread_of t) = is_none t.talk && is_none t.fault
is_bare other = true

-- a thread that has no fault
pub record IsFaultless (w : World) (x : Path) : Type 0 where
  pub thread : Thread
  pub there : thread_at w x ≡ Some thread
  pub none : thread.fault ≡ None

-- a new object stands where nothing stood, and a fault is raised by a thread that has none
abbrev pub MakesAnew : World → Change → Type 0
MakesAnew w (Make x body) = (w.body x ≡ None) × (is_bare body ≡ true)
MakesAnew w (MakeSpace x holder) = w.body x ≡ None
MakesAnew w (Alter x (SetFault (Some fault))) = IsFaultless w x × (fault.taker ≡ None)
MakesAnew w other = Unit {0}

abbrev pub EitherOf : Bool → Type 0 → Type 0 → Type 0
EitherOf true A B = A
EitherOf false A B = B

-- with the first change that isn't mild only mild ones are left
abbrev pub TouchOnce : World → List Change → Type 0
TouchOnce w [] = Unit {0}
TouchOnce w (c ∷ cs) = EitherOf (is_mild c) (TouchOnce w cs) (MakesAnew w c × AreMild cs)

-- of the changes of a move of a user or a native server at most one makes, destroys or renames an object, or sets a pointer. What it makes is new
abbrev pub UsersTouchOnce : Type 0
UsersTouchOnce = (w : World) (x : Path) (pick : Option Path) (ask : Ask) → kind_there w [] ≡ Some kinds.Space → is_users ask ≡ true →
    TouchOnce w (listed (outcome w x pick ask))
