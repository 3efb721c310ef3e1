-- Calm changes touch nobody else.
use Rattle.std.proofs.Common.{◌≡◌, ℕ, Bool, true, false, not, ◌&&◌, is_some, List, [], ◌∷◌, Option, Some, None, Ok, refl, ap, sym, subst, ◌∙◌, inl, inr}
use Rattle.fk_model.specs.declared.names.Kind.TheVariants as kinds
use Rattle.fk_model.specs.declared.thread.Turn.{Turn}
use Rattle.fk_model.specs.Places.{Path, same_path, parent}
use Rattle.fk_model.specs.Places.Ptr.{At}
use Rattle.fk_model.specs.Objects.{Thread, Body, mutex_of, space_of, thread_of, and_then, holds}
use Rattle.fk_model.specs.Objects.Body.{Mutex, Thread_of}
use Rattle.fk_model.specs.World.{World, Change, Edit, apply}
use Rattle.fk_model.specs.World.Change.{Alter, Make, MakeSpace, Kill, Move, PutPage, DropPage}
use Rattle.fk_model.specs.Searches.{thread_at}
use Rattle.fk_model.specs.Holds.{holder_of}
use Rattle.fk_model.specs.LinkRows.{portset_of}
use Rattle.fk_model.specs.Readers.{handled}
use Rattle.fk_model.proofs.walks.PlaceLaws.{same_path_eq}
use Rattle.laws_waits.specs.Touching.{is_loud, IsThreadEdit, is_map_edit, has_map, stirs, repoints, regroups, LeavesMemory}
use Rattle.laws_waits.specs.Stuck.{is_held, BringsNobody, End, LeavesEnd, LeavesPage, IsPlace, LeavesPlace, IsGone, Reason, IsStuck, IsUntouched, LeavesHandle}
use Rattle.laws_waits.specs.Stuck.End.{Absent, Covered, Unclaimed, Closed, Unnamed}
use Rattle.laws_waits.specs.Stuck.Reason.{Resting, Beneath, Locking, Sleeping, Connecting, Receiving, Passing, Sending, Lacking, Ending, Holding, Waiting}
use Rattle.laws_waits.specs.Stuck.Reason.{WaitingOut, Barred}
use Rattle.laws_waits.specs.Calm.{IsCalm, IsApart, CalmTouchesNobody}
use Rattle.laws_waits.proofs.Stays.{stuck_stays_lem}

pub off-right : (a b : Bool) → b ≡ false → (a && b) ≡ false
off-right true b h = h
off-right false b h = refl

-- ---- words in a page that is there

put-far : (w : World) (space : Path) (page : ℕ) (words : List ℕ) (s : Path) (address : ℕ) (far : Bool) → is_some (w.page space page) ≡ true →
    LeavesPage w (PutPage space page words) s address far
put-far w space page words s address false there = refl
put-far w space page words s address true there = there

put-end : (w : World) (space : Path) (page : ℕ) (words : List ℕ) (end : End) → LeavesEnd w (PutPage space page words) end
put-end w space page words (Absent y) = refl
put-end w space page words (Unnamed y k) = (refl, refl)
put-end w space page words (Covered y held) = refl
put-end w space page words Unclaimed = tt
put-end w space page words (Closed port held) = refl

put-handle : (space : Path) (page : ℕ) (words : List ℕ) (s : Path) (reference : Option ℕ) → LeavesHandle (PutPage space page words) s reference
put-handle space page words s None = tt
put-handle space page words s (Some k) = refl

pub alter-handle : (x : Path) (e : Edit) (s : Path) (reference : Option ℕ) → LeavesHandle (Alter x e) s reference
alter-handle x e s None = tt
alter-handle x e s (Some k) = refl

put-nobody : (w : World) (space : Path) (page : ℕ) (words : List ℕ) (x z : Path) → BringsNobody w (PutPage space page words) x z
put-nobody w space page words x z = record {
  ports = λ p h. absurd (cc);
  threads = λ y h. absurd (cc);
  unserved = λ y h. absurd (cc);
  handles = λ y h at set. absurd (cc);
}

put-touches : (w : World) (me space : Path) (page : ℕ) (words : List ℕ) (x : Path) (r : Reason) → is_some (w.page space page) ≡ true → IsApart me x r →
    IsUntouched w (PutPage space page words) x r
put-touches w me space page words x Resting there apart = refl
put-touches w me space page words x (Beneath held) there apart = refl
put-touches w me space page words x (Locking m) there apart = (refl, refl)
put-touches w me space page words x (Sleeping c m) there apart = (refl, refl, refl)
put-touches w me space page words x (Connecting h port) there apart = (refl, refl, refl)
put-touches w me space page words x (Receiving side into room reference far client) there apart =
    (refl, refl, put-far w space page words (parent x) into far there, put-handle space page words (parent x) reference)
put-touches w me space page words x (Passing side reference client end) there apart =
    (refl, refl, put-end w space page words end, put-handle space page words (parent x) reference)
put-touches w me space page words x (Sending side address count far client end) there apart =
    (refl, refl, put-end w space page words end, put-far w space page words (parent x) address far there)
put-touches w me space page words x (Lacking side address count far client y into room) there apart =
    (refl, refl, refl, put-far w space page words (parent x) address far there, there)
put-touches w me space page words x (Ending y held) there apart = (refl, refl, refl)
put-touches w me space page words x (Waiting set) there apart = (refl, refl, put-nobody w space page words x (set ∷ parent x))
put-touches w me space page words x (WaitingOut set) there apart = (refl, refl, put-nobody w space page words x (set ∷ parent x), λ held h. refl)
put-touches w me space page words x (Holding s j held) there apart = (refl, inr (refl, refl), refl, λ q h. refl)
put-touches w me space page words x Barred there apart = absurd apart

-- ---- an edit of a thread

pub thread-is : (o : Option Body) (t : Thread) → and_then thread_of o ≡ Some t → o ≡ Some (Thread_of t)
thread-is (Some (Thread_of u)) t h = cc
thread-is None t h = cc
thread-is (Some (Mutex locked)) t h = cc
thread-is (Some b) t h = cc

module _ (w : World) (me : Path) (e : Edit) (t : Thread) (there : thread_at w me ≡ Some t) where
  -- what is read as something else isn't the thread
  pub other : {A : Type 0} (test : Option Body → A) (a : A) (q : Path) → test (w.body q) ≡ a → (test (Some (Thread_of t)) ≡ a → ⊥) → same_path q me ≡ false
  other test a q is not = by (same_path q me) refl
    where
      by : (b : Bool) → same_path q me ≡ b → b ≡ false
      by true same =
          let here = same_path_eq q me same in
          let body = thread-is (w.body me) t there in
          absurd (not (ap test (sym body) ∙ ap (λ z. test (w.body z)) (sym here) ∙ is))
      by false same = refl

  pub held-other : (space : Path) → is_held w space ≡ true → same_path space me ≡ false
  held-other space held = other (λ o. is_some (holder_of o)) true space held (λ h. absurd (cc))

  -- an edit that is no thread's changes nothing of a thread: it may be any
  pub memory-left : LeavesMemory w (Alter me e)
  memory-left =
      let body = thread-is (w.body me) t there in
      off-right (is_map_edit e) _ (ap has_map body)

  pub page-left : (s : Path) (address : ℕ) (far : Bool) → LeavesPage w (Alter me e) s address far
  page-left s address false = refl
  page-left s address true = memory-left

  pub set-other : (x : Path) (set : ℕ) → is_some (and_then portset_of (w.body (set ∷ x))) ≡ true → same_path (set ∷ x) me ≡ false
  set-other x set is = other (λ o. is_some (and_then portset_of o)) true (set ∷ x) is (λ h. absurd (cc))

  -- a place that a user names leads through no thread
  pub place-left : (x : Path) (s : ℕ) (space : Path) → IsPlace w x s space → LeavesPlace w (Alter me e) x s space
  place-left x s space (inl own) = inl own.0
  place-left x s space (inr there) =
      inr (other (handled w kinds.Space (s ∷ parent x)) (Ok (At space)) (s ∷ parent x) there.2 (λ h. absurd (cc)), refl)

  pub space-other : (q : Path) → is_some (and_then space_of (w.body q)) ≡ true → same_path q me ≡ false
  space-other q is = other (λ o. is_some (and_then space_of o)) true q is (λ h. absurd (cc))

  pub lock-other : (x : Path) (m : ℕ) → and_then mutex_of (w.body (m ∷ x)) ≡ Some true → same_path (m ∷ x) me ≡ false
  lock-other x m is = other (and_then mutex_of) (Some true) (m ∷ x) is (λ h. absurd (cc))

-- ---- a quiet one

module _ (w : World) (me : Path) (e : Edit) (t : Thread) (there : thread_at w me ≡ Some t) (quiet : is_loud e t ≡ false)
    (plain : IsThreadEdit e) where
  unstirred : (q : Path) → stirs w (Alter me e) q ≡ false
  unstirred q = off-right (same_path q me) _ (ap (holds (is_loud e)) there ∙ quiet)

  end-left : (side : Turn) (end : End) → IsGone w side end → LeavesEnd w (Alter me e) end
  end-left side (Absent y) gone = unstirred y
  end-left side (Unnamed y k) gone = (unstirred y, refl)
  end-left side (Covered y space) gone = held-other w me e t there space gone.1
  end-left side Unclaimed gone = tt
  end-left side (Closed port space) gone = held-other w me e t there space gone.1

  unpointed : (q : Path) → repoints w (Alter me e) q ≡ false
  unpointed q = off-right (same_path q me) _ plain.0

  ungrouped : (q : Path) → regroups w (Alter me e) q ≡ false
  ungrouped q = off-right (same_path q me) _ plain.1

  nobody : (x z : Path) → BringsNobody w (Alter me e) x z
  nobody x z = record {
    ports = λ p h. let off = ungrouped p in absurd (cc);
    threads = λ y h. let off = unstirred y in absurd (cc);
    unserved = λ y h. let off = unstirred y in absurd (cc);
    handles = λ y h at set. let off = unpointed (h ∷ parent y) in absurd (cc);
  }

  quiet-touches : (x : Path) (r : Reason) → IsStuck w x r → IsApart me x r → IsUntouched w (Alter me e) x r
  quiet-touches x Resting stuck apart = apart
  quiet-touches x (Beneath space) stuck apart = held-other w me e t there space stuck.1
  quiet-touches x (Locking m) stuck apart = (apart, lock-other w me e t there (parent x) m stuck.2)
  quiet-touches x (Sleeping c m) stuck apart = (apart, refl, refl)
  quiet-touches x (Connecting h port) stuck apart = (apart, unpointed (h ∷ parent x), refl)
  quiet-touches x (Receiving side into room reference far client) stuck apart =
      (apart, unstirred _, page-left w me e t there (parent x) into far, alter-handle me e (parent x) reference)
  quiet-touches x (Passing side reference client end) stuck apart = (apart, unstirred _, end-left side end stuck.2, alter-handle me e (parent x) reference)
  quiet-touches x (Sending side address count far client end) stuck apart =
      (apart, unstirred _, end-left side end stuck.4, page-left w me e t there (parent x) address far)
  quiet-touches x (Lacking side address count far client y into room) stuck apart =
      (apart.0, unstirred _, apart.1, page-left w me e t there (parent x) address far, memory-left w me e t there)
  quiet-touches x (Ending y space) stuck apart = (apart, unstirred y, held-other w me e t there space stuck.2.1)
  quiet-touches x (Waiting set) stuck apart = (apart, set-other w me e t there (parent x) set stuck.1.1, nobody x (set ∷ parent x))
  quiet-touches x (WaitingOut set) stuck apart = (
    apart,
    set-other w me e t there (parent x) set stuck.1.1,
    nobody x (set ∷ parent x),
    λ space held. held-other w me e t there space held,
  )
  quiet-touches x (Holding s j space) stuck apart =
      (apart, place-left w me e t there x s space stuck.2, space-other w me e t there (j ∷ space) stuck.3, λ q h. off-right (same_path q me) _ plain.2)
  quiet-touches x Barred stuck apart = absurd apart

-- ---- both

pub calm-touches : (w : World) (me : Path) (c : Change) (x : Path) (r : Reason) → IsCalm w me c → IsStuck w x r → IsApart me x r → IsUntouched w c x r
calm-touches w me (Alter y edit) x r calm stuck apart =
    subst (λ c. IsUntouched w c x r) (sym calm.is) (quiet-touches w me calm.edit calm.thread calm.there calm.quiet calm.plain x r stuck apart)
calm-touches w me (PutPage space page words) x r calm stuck apart = put-touches w me space page words x r calm apart
calm-touches w me (Make y body) x r calm stuck apart = absurd calm
calm-touches w me (MakeSpace y holder) x r calm stuck apart = absurd calm
calm-touches w me (Kill y) x r calm stuck apart = absurd calm
calm-touches w me (Move y slot) x r calm stuck apart = absurd calm
calm-touches w me (DropPage space page) x r calm stuck apart = absurd calm

pub calm_touches_nobody_lem : CalmTouchesNobody
calm_touches_nobody_lem w me [] x r calm stuck apart = tt
calm_touches_nobody_lem w me (c ∷ cs) x r calm stuck apart =
    let out = calm-touches w me c x r calm.0 stuck apart in
    (out, calm_touches_nobody_lem (apply c w) me cs x r calm.1 (stuck_stays_lem w c x r stuck out) apart)
