-- What a wait comes to: it isn't ready, or takes the thread that it picks, as what it is for the set.
use Rattle.std.proofs.Common.{◌≡◌, ◌⊎◌, inl, inr, ℕ, Bool, true, false, cond, List, [], ◌∷◌, Option, Some, None, option_map, Result, Ok, Err, refl}
use Rattle.fk_model.specs.declared.statuses.status.TheConstants.{DENIED, LINKED}
use Rattle.fk_model.specs.declared.stage.Stage.TheVariants.{Wait}
use Rattle.fk_model.specs.Places.{Path, is_within, parent, Ptr}
use Rattle.fk_model.specs.Places.Ptr.{At}
use Rattle.fk_model.specs.Objects.{Talk, Fault, Thread, thread_of, and_then, or_else}
use Rattle.fk_model.specs.Objects.Peer.{Server}
use Rattle.fk_model.specs.World.{World, Change}
use Rattle.fk_model.specs.World.Change.{Alter}
use Rattle.fk_model.specs.World.Edit.{Finish, SetTalk, SetPeer, SetTaker}
use Rattle.fk_model.specs.Searches.{is_serving}
use Rattle.fk_model.specs.Holds.{is_free, is_unheld}
use Rattle.fk_model.specs.Outcomes.{Said, Outcome, ◌>>=◌, refuse, when, Caller, path_of, ended}
use Rattle.fk_model.specs.Outcomes.Outcome.{Refused, Waits, Goes}
use Rattle.fk_model.specs.Readers.{object_in}
use Rattle.fk_model.specs.LinkRows.{connecting_to, new_talk, Candidate, slot_in_set, is_open, is_parked, faulting, connecting, resuming, candidate_by}
use Rattle.fk_model.specs.LinkRows.{candidate, takes_candidate, portset_of, wait, user_at}
use Rattle.fk_model.specs.LinkRows.Candidate.{Faulting, Connecting, Resuming}
use Rattle.fk_model.specs.Moves.{is_denied, with_pick, closed, call_row}
use Rattle.laws_subtrees.proofs.InCut.cut.Plain.{AreQuiet}
use Rattle.laws_subtrees.proofs.InCut.cut.Inside.{Quiet, quiet-waits, quiet-goes, quiet-done, quiet-then, quiet-call, quiet->>=}

-- ---- the row, with a pick

module _ (w : World) (c : Caller) (set : ℕ) (y : Path) where
  abbrev pub View : Outcome → Type 0
  View o = (o ≡ Waits) ⊎ ((found : Candidate) × (candidate w c.space set y ≡ Some found) × (o ≡ takes_candidate c y (Some found)))

  abbrev ends : Outcome → Outcome
  ends o = closed c (with_pick true (Some y) o)

  view->>= : {A : Type 0} (r : Result A ℕ) (go : A → Outcome) → ((a : A) → View (ends (go a))) → View (ends (r >>= go))
  view->>= (Ok a) go h = h a
  view->>= (Err status) go h = inl refl

  -- what it takes goes, for a user and for a porter
  goes_both : (b : Bool) (cs ds : List Change) (said told : Said) → ends (cond b (Goes cs said) (Goes ds told)) ≡ cond b (Goes cs said) (Goes ds told)
  goes_both true cs ds said told = refl
  goes_both false cs ds said told = refl

  takes_goes : (found : Candidate) → ends (takes_candidate c y (Some found)) ≡ takes_candidate c y (Some found)
  takes_goes (Faulting slot fault) = goes_both c.is_porter _ _ _ _
  takes_goes (Connecting slot) = goes_both c.is_porter _ _ _ _
  takes_goes (Resuming slot talk) = goes_both c.is_porter _ _ _ _

  view-takes : (o : Option Candidate) → candidate w c.space set y ≡ o → View (ends (takes_candidate c y o))
  view-takes None e = inl refl
  view-takes (Some found) e = inr (found, e, takes_goes found)

  view-wait : View (ends (wait w c (Some y) set))
  unfolding wait
  view-wait = view->>= (object_in w c portset_of c.space set)
      _ (λ a. view->>= (refuse LINKED (is_serving w (path_of c))) _ (λ b. view-takes (candidate w c.space set y) refl))

  view-allowed : (b : Bool) → View (ends (cond b (Refused DENIED) (wait w c (Some y) set)))
  view-allowed true = inl refl
  view-allowed false = view-wait

  pub view-call : View (call_row w c (Some y) (Wait set))
  unfolding call_row
  view-call = view-allowed (is_denied c (Wait set))

  pub view-when : (b : Bool) (o : Outcome) → View o → View (when b o)
  view-when true o h = h
  view-when false o h = inl refl

-- ---- what a candidate is

-- a free thread at its Connect to such a port; a thread that isn't held, with a fault at one
abbrev pub IsFound : World → Path → ℕ → Path → Option Candidate → Type 0
IsFound w space set y (Some (Connecting slot)) = (t : Thread) × (port : Ptr) ×
    (and_then thread_of (w.body y) ≡ Some t) × (is_free w (parent y) t ≡ true) × (connecting_to w y t ≡ Some port) × (slot_in_set w space set port ≡ Some slot)
IsFound w space set y (Some (Faulting slot fault)) = (t : Thread) ×
    (and_then thread_of (w.body y) ≡ Some t) × (is_unheld w (parent y) ≡ true) × (t.fault ≡ Some fault) × (slot_in_set w space set fault.port ≡ Some slot)
IsFound w space set y (Some (Resuming slot talk)) = Unit {0}
IsFound w space set y None = Unit {0}

module _ (w : World) (space : Path) (set : ℕ) (y : Path) where
  abbrev Found : Option Candidate → Type 0
  Found = IsFound w space set y

  found-either : (a b : Option Candidate) → Found a → Found b → Found (or_else a b)
  found-either None b h g = g
  found-either (Some a) b h g = h

  found-fault : (t : Thread) → and_then thread_of (w.body y) ≡ Some t → is_unheld w (parent y) ≡ true → Found (faulting w space set t)
  found-fault t at unheld = by t.fault refl
    where
      slots : (fault : Fault) →
          t.fault ≡ Some fault → (o : Option ℕ) → slot_in_set w space set fault.port ≡ o → Found (option_map (λ slot. Faulting slot fault) o)
      slots fault is None e = tt
      slots fault is (Some slot) e = (t, at, unheld, is, e)

      test : (fault : Fault) →
          t.fault ≡ Some fault → (b : Bool) → Found (cond b (option_map (λ slot. Faulting slot fault) (slot_in_set w space set fault.port)) None)
      test fault is true = slots fault is (slot_in_set w space set fault.port) refl
      test fault is false = tt

      by : (o : Option Fault) → t.fault ≡ o → Found
          (and_then (λ (fault : Fault). cond (is_open fault.taker) (option_map (λ slot. Faulting slot fault) (slot_in_set w space set fault.port)) None) o)
      by None is = tt
      by (Some fault) is = test fault is (is_open fault.taker)

  found-connect : (t : Thread) → and_then thread_of (w.body y) ≡ Some t → is_free w (parent y) t ≡ true → Found (connecting w space set y t)
  found-connect t at free = by (connecting_to w y t) refl
    where
      slots : (port : Ptr) → connecting_to w y t ≡ Some port → (o : Option ℕ) → slot_in_set w space set port ≡ o → Found (option_map Connecting o)
      slots port to None e = tt
      slots port to (Some slot) e = (t, port, at, free, to, e)

      by : (o : Option Ptr) → connecting_to w y t ≡ o → Found (option_map Connecting (and_then (slot_in_set w space set) o))
      by None to = tt
      by (Some port) to = slots port to (slot_in_set w space set port) refl

  found-talk : (t : Thread) → Found (resuming w space set t)
  found-talk t = by t.talk
    where
      slots : (talk : Talk) (o : Option ℕ) → Found (option_map (λ slot. Resuming slot talk) o)
      slots talk None = tt
      slots talk (Some slot) = tt

      test : (talk : Talk) (b : Bool) → Found (cond b (option_map (λ slot. Resuming slot talk) (slot_in_set w space set talk.port)) None)
      test talk true = slots talk (slot_in_set w space set talk.port)
      test talk false = tt

      by : (o : Option Talk) → Found
          (and_then (λ (talk : Talk). cond (is_parked (Some talk.peer)) (option_map (λ slot. Resuming slot talk) (slot_in_set w space set talk.port)) None) o)
      by None = tt
      by (Some talk) = test talk (is_parked (Some talk.peer))

  pub candidate-found : Found (candidate w space set y)
  unfolding candidate
  candidate-found = by (is_unheld w (parent y)) refl
    where
      if_free : (t : Thread) (b : Bool) → and_then thread_of (w.body y) ≡ Some t →
          is_free w (parent y) t ≡ b → Found (cond b (or_else (connecting w space set y t) (resuming w space set t)) None)
      if_free t true at e = found-either (connecting w space set y t) (resuming w space set t) (found-connect t at e) (found-talk t)
      if_free t false at e = tt

      there : (o : Option Thread) → and_then thread_of (w.body y) ≡ o → is_unheld w (parent y) ≡ true → Found (and_then (candidate_by w space set y) o)
      there None at e = tt
      there (Some t) at e = found-either (faulting w space set t) _ (found-fault t at e) (if_free t (is_free w (parent y) t) at refl)

      by : (b : Bool) → is_unheld w (parent y) ≡ b → Found (cond b (and_then (candidate_by w space set y) (and_then thread_of (w.body y))) None)
      by true e = there (and_then thread_of (w.body y)) refl e
      by false e = tt

-- ---- what it changes

quiet-ended : (root : Path) (c : Caller) (cs : List Change) (answers : List ℕ) → AreQuiet root cs → Quiet root (ended c cs answers)
quiet-ended root c cs answers quiet = by c.is_porter
  where
    by : (porter : Bool) → Quiet root (ended (record c { is_porter = porter }) cs answers)
    by true = record { quiet = quiet; mute = λ v x. refl }
    by false = quiet-goes (quiet-then root cs _ quiet (tt, tt))

-- nobody inside comes to serve the outside, unless who waits stands inside and takes a thread outside
pub quiet-takes : (root : Path) (c : Caller) (y : Path) (found : Candidate) →
    (is_within root y ≡ false → is_within root (path_of c) ≡ false) → Quiet root (takes_candidate c y (Some found))
quiet-takes root c y (Faulting slot fault) apart = quiet-ended root c (Alter y (SetTaker (Some (Server (At (path_of c))))) ∷ []) _ (apart, tt)
quiet-takes root c y (Connecting slot) apart =
    quiet-done root c (Alter y (SetTalk (Some (new_talk (At (slot ∷ c.space)) (Server (At (path_of c)))))) ∷ Alter y (Finish []) ∷ []) _ (apart, (tt, tt))
quiet-takes root c y (Resuming slot talk) apart = quiet-ended root c (Alter y (SetPeer (Server (At (path_of c)))) ∷ []) _ (apart, tt)

pub quiet-view : (root : Path) (w : World) (c : Caller) (set : ℕ) (y : Path) (o : Outcome) →
    (is_within root y ≡ false → is_within root (path_of c) ≡ false) → View w c set y o → Quiet root o
quiet-view root w c set y o apart (inl e) = rw e quiet-waits
quiet-view root w c set y o apart (inr v) = rw v.2 (quiet-takes root c y v.0 apart)

-- it picks nobody
pub quiet-idle : (root : Path) (w : World) (x : Path) (set : ℕ) → Quiet root (call_row w (user_at x) None (Wait set))
unfolding wait
quiet-idle root w x set = quiet-call root w x None (Wait set) (quiet->>= root
    (object_in w (user_at x) portset_of (parent x) set) _ (λ a. quiet->>= root (refuse LINKED (is_serving w (path_of (user_at x)))) _ (λ b. quiet-waits)))
