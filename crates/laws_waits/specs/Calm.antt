-- Calm changes: those of a thread's own instructions, of a call that ends, and words put into a page that is there.
use Rattle.std.specs.Prelude.{◌≡◌, ◌⊎◌, Bool, true, false, is_some, List, [], ◌∷◌, Some}
use Rattle.fk_model.specs.Places.{Path, parent, same_path}
use Rattle.fk_model.specs.Objects.{Thread, and_then, mutex_of}
use Rattle.fk_model.specs.World.{World, Change, Edit, apply}
use Rattle.fk_model.specs.World.Change.{Alter, PutPage}
use Rattle.fk_model.specs.World.Edit.{SetLocked}
use Rattle.fk_model.specs.Searches.{thread_at}
use Rattle.laws_waits.specs.Touching.{is_loud, IsThreadEdit}
use Rattle.laws_waits.specs.Stuck.{Reason, IsStuck, AreUntouched}
use Rattle.laws_waits.specs.Stuck.Reason.{Lacking, Locking, Barred}

-- the thread at `me` is there, and what becomes of it is nothing that another waits for
pub record IsQuiet (w : World) (me : Path) (c : Change) : Type 0 where
  pub edit : Edit
  pub thread : Thread
  pub is : c ≡ Alter me edit
  pub there : thread_at w me ≡ Some thread
  pub quiet : is_loud edit thread ≡ false
  -- it is an edit of threads
  pub plain : IsThreadEdit edit

abbrev pub IsCalm : World → Path → Change → Type 0
IsCalm w me (Alter x edit) = IsQuiet w me (Alter x edit)
IsCalm w me (PutPage space page words) = is_some (w.page space page) ≡ true
IsCalm w me other = ⊥

abbrev pub AreCalm : World → Path → List Change → Type 0
AreCalm w me [] = Unit {0}
AreCalm w me (c ∷ cs) = IsCalm w me c × AreCalm (apply c w) me cs

-- a reason that doesn't look at the words of `me`
abbrev pub IsApart : Path → Path → Reason → Type 0
IsApart me x (Lacking side address count far client y into room) = (same_path x me ≡ false) × (same_path y me ≡ false)
IsApart me x Barred = ⊥
IsApart me x other = same_path x me ≡ false

-- calm changes touch nobody else's reason
abbrev pub CalmTouchesNobody : Type 0
CalmTouchesNobody = (w : World) (me : Path) (cs : List Change) (x : Path) (r : Reason) →
    AreCalm w me cs → IsStuck w x r → IsApart me x r → AreUntouched w cs x r

-- ---- changes by several threads

-- a mutex at `at` is there, and is locked or unlocked
pub record SetsLock (w : World) (at : Path) (c : Change) : Type 0 where
  pub locked : Bool
  pub is : c ≡ Alter at (SetLocked locked)
  pub there : is_some (and_then mutex_of (w.body at)) ≡ true

-- a change that is calm for the thread at `at`, or sets the mutex there
abbrev pub IsMild : World → Path → Change → Type 0
IsMild w at c = IsCalm w at c ⊎ SetsLock w at c

-- each change is mild at its place
abbrev pub AreMild : World → List Path → List Change → Type 0
AreMild w [] [] = Unit {0}
AreMild w (at ∷ places) (c ∷ cs) = IsMild w at c × AreMild (apply c w) places cs
AreMild w [] (c ∷ cs) = ⊥
AreMild w (at ∷ places) [] = ⊥

-- a reason that looks neither at the words of the thread at `at`, nor at the mutex there where the change sets it
abbrev pub IsApartFrom : Path → Change → Path → Reason → Type 0
IsApartFrom at (Alter y (SetLocked locked)) x (Locking m) = (same_path x at ≡ false) × (same_path (m ∷ parent x) at ≡ false)
IsApartFrom at c x r = IsApart at x r

abbrev pub AreApartFrom : List Path → List Change → Path → Reason → Type 0
AreApartFrom (at ∷ places) (c ∷ cs) x r = IsApartFrom at c x r × AreApartFrom places cs x r
AreApartFrom [] cs x r = Unit {0}
AreApartFrom (at ∷ places) [] x r = Unit {0}

-- mild changes touch no reason but those of the threads at their places, of who locks a mutex that they set, and of who sends
-- to a thread whose page they write
abbrev pub MildChangesTouchNobody : Type 0
MildChangesTouchNobody = (w : World) (places : List Path) (cs : List Change) (x : Path) (r : Reason) →
    AreMild w places cs → IsStuck w x r → AreApartFrom places cs x r → AreUntouched w cs x r
