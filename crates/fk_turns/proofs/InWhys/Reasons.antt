-- Reasons: the reason of a thread that rests, that lies beneath a hold, or that waits in a call.
use Rattle.std.proofs.Common.{◌≡◌, ◌≤◌, ℕ, Bool, true, false, is_some, List, [], ◌∷◌, ◌++◌, Option, Some, None, IsSome, unwrap_or, option_map, Ok}
use Rattle.std.proofs.Common.{if◌then◌else◌}
use Rattle.std.proofs.Common.{refl, sym, ap, subst, ◌∙◌}
use Rattle.std.proofs.lemmas.Bool.{or_from, or_parts}
use Rattle.std.specs.FinMap.{get}
use Rattle.std.specs.List.{list_any}
use Rattle.std.specs.Prelude.{nat_le}
use Rattle.fk_model.specs.declared.limits.TheConstants.{LAST_USER_SLOT}
use Rattle.fk_model.specs.declared.moves.Ask.TheVariants as asks
use Rattle.fk_model.specs.declared.names.Kind.TheVariants as kinds
use Rattle.fk_model.specs.declared.stage.Stage.{Stage}
use Rattle.fk_model.specs.declared.stage.Stage.TheVariants.{CondAsleep, Connect, MutexLock}
use Rattle.fk_model.specs.declared.stage.Todo.{Todo}
use Rattle.fk_model.specs.declared.body.Body.{Body as StoredBody}
use Rattle.fk_model.specs.declared.body.Body.TheVariants as bodies
use Rattle.fk_model.specs.declared.names.Ptr.{Ptr as StoredPtr}
use Rattle.fk_model.specs.declared.names.Ptr.TheVariants as stored
use Rattle.fk_model.specs.declared.thread.Fault.{Fault as StoredFault}
use Rattle.fk_model.specs.declared.thread.Peer.{Peer as StoredPeer}
use Rattle.fk_model.specs.declared.thread.Peer.TheVariants as peers
use Rattle.fk_model.specs.declared.thread.Talk.{Talk as StoredTalk}
use Rattle.fk_model.specs.Calls.{rest_of, stages_of, todo_of}
use Rattle.fk_model.specs.Freezing.{body_pointers}
use Rattle.fk_model.specs.Holds.{decider}
use Rattle.fk_model.specs.Moves.{IsReady}
use Rattle.fk_model.specs.Objects.{Body, Mode, Thread, and_then, holds, or_else}
use Rattle.fk_model.specs.Objects.Mode.{Calling}
use Rattle.fk_model.specs.Outcomes.{Caller}
use Rattle.fk_model.specs.Places.{Path, Ptr, is_within, parent, same_path, strip}
use Rattle.fk_model.specs.Places.Ptr.{At}
use Rattle.fk_model.specs.Readers.{handle, handled}
use Rattle.fk_model.specs.Searches.{depth, fault_pointers, option_list, pointers, talk_at, talk_pointers, thread_at}
use Rattle.fk_model.specs.Talks.{first_stage}
use Rattle.fk_model.specs.Valid.{kind_there, IsValid}
use Rattle.fk_model.specs.World.{World}
use Rattle.fk_model.proofs.walks.PlaceLaws.{same_path_refl}
use Rattle.fk_store.specs.Store.Bodies.{body_by, calling_mode, fault_by, peer_by, pointer_by, talk_by}
use Rattle.fk_store.specs.Store.Contents.{Contents}
use Rattle.fk_store.specs.Store.Names.{at}
use Rattle.fk_store.specs.Store.Paths.{path, place, space_at}
use Rattle.fk_store.specs.Store.World.{world}
use Rattle.laws_waits.specs.Stuck.{is_held, is_resting, IsAtStage}
use Rattle.laws_waits.specs.Stuck.{Reason, IsStuck}
use Rattle.laws_waits.specs.Stuck.Reason.{Barred, Beneath, Connecting, Locking, Resting, Sleeping}
use Rattle.laws_waits.specs.Complete.{is_barred, is_outer, HasReason, IsWholeWorld}
use Rattle.laws_waits.proofs.Complete.{has_reason}
use Rattle.fk_turns.specs.declared.whys.whys.Why.{Why}
use Rattle.fk_turns.specs.declared.whys.whys.Why.TheVariants as whys
use Rattle.fk_turns.specs.Whys.Causes.{named, outermost_held}
use Rattle.fk_turns.specs.Whys.Whys.{is_lock_stage, IsAt, IsKnown, IsLocked, IsLoudly, IsStill, IsThere, IsWhy}

-- the first stage of a call, and that there is none where the registers name none
pub first_shown : (g : List ℕ) (call : Todo) (stage : Stage) → Some (stages_of call) ≡ todo_of g →
    ((rest : List ℕ) → first_stage (Calling (stages_of call) rest) ≡ Some stage) → Some stage ≡ first_stage (calling_mode g)
first_shown g call stage is first =
    sym (ap (λ (o : Option (List Stage)). first_stage (Calling (unwrap_or o []) (rest_of (unwrap_or o []) g))) (sym is)
    ∙ first (rest_of (stages_of call) g))

pub none_shown : (g : List ℕ) → None ≡ todo_of g → None ≡ first_stage (calling_mode g)
none_shown g is = ap (λ (o : Option (List Stage)). first_stage (Calling (unwrap_or o []) (rest_of (unwrap_or o []) g))) is

-- what is known is so, and where nothing is, any change may end it
pub known_why : (w : World) (p : ℕ → Path) (x : Path) (why : Why) → IsKnown w p x why → ((pick : Option Path) → IsReady w x pick asks.Run → ⊥) →
    IsWhy w p x why
known_why w p x whys.Still known unready = known
known_why w p x (whys.At key) known unready = known
known_why w p x whys.Loud known unready = known unready
known_why w p x whys.Barred known unready = unready

pub at_stage : (w : World) (x : Path) (t : Thread) (stage : Stage) → Some t ≡ thread_at w x → first_stage t.mode ≡ Some stage → IsAtStage w x stage
at_stage w x t stage there first = ap (and_then (λ (u : Thread). first_stage u.mode)) (sym there) ∙ first

-- a thread is there
pub thread_live : (w : World) (x : Path) (t : Thread) → Some t ≡ thread_at w x → IsSome (kind_there w x)
unfolding kind_there
thread_live w x t there = by (w.body x) refl there
  where
    by : (o : Option Body) → w.body x ≡ o → Some t ≡ thread_at w x → IsSome (kind_there w x)
    by None e is = let off = rw e at is in absurd (cc)
    by (Some b) e is = rw e refl

pub rests : (w : World) (x : Path) (t : Thread) → Some t ≡ thread_at w x → is_resting t ≡ true → IsStill w x
rests w x t there is = record { reason = Resting; stuck = ap (holds is_resting) (sym there) ∙ is; own = tt }

-- ---- beneath a hold

within_self : (x : Path) → is_within x x ≡ true
unfolding strip
within_self [] = rw (same_path_refl []) refl
within_self (k ∷ x) = rw (same_path_refl (k ∷ x)) refl

within_more : (s : Path) (k : ℕ) (x : Path) → is_within s x ≡ true → is_within s (k ∷ x) ≡ true
unfolding strip
within_more s k x is = by (same_path (k ∷ x) s)
  where
    some : (o : Option Path) → is_some o ≡ true → is_some (option_map (λ (q : Path). k ∷ q) o) ≡ true
    some None off = absurd (cc)
    some (Some q) on = refl

    by : (t : Bool) → is_some (if t then Some [] else option_map (λ (q : Path). k ∷ q) (strip s x)) ≡ true
    by true = refl
    by false = some (strip s x) is

outermost_is : (w : World) (x space : Path) → outermost_held w x ≡ Some space → (is_within space x ≡ true) × (is_held w space ≡ true)
unfolding outermost_held
outermost_is w [] space is = absurd (cc)
outermost_is w (k ∷ x) space is = by (outermost_held w x) refl (λ h. outermost_is w x space h) is
  where
    path_or : Option Path → Path
    path_or (Some y) = y
    path_or None = []

    here : (t : Bool) → is_held w (k ∷ x) ≡ t → (if t then Some (k ∷ x) else None) ≡ Some space → (is_within space (k ∷ x) ≡ true) × (is_held w space ≡ true)
    here true e h =
        subst (λ (y : Path). (is_within y (k ∷ x) ≡ true) × (is_held w y ≡ true)) (ap path_or h) (within_self (k ∷ x), e)
    here false e h = absurd (cc)

    by : (o : Option Path) → outermost_held w x ≡ o → (outermost_held w x ≡ Some space → (is_within space x ≡ true) × (is_held w space ≡ true)) →
        or_else o (if is_held w (k ∷ x) then Some (k ∷ x) else None) ≡ Some space → (is_within space (k ∷ x) ≡ true) × (is_held w space ≡ true)
    by (Some y) e above h = let further = above (e ∙ h) in (within_more space k x further.0, further.1)
    by None e above h = here (is_held w (k ∷ x)) refl h

pub lies_beneath : (w : World) (x key : Path) → Some key ≡ outermost_held w (parent x) → IsAt w x key
lies_beneath w x key is = record { reason = Beneath key; stuck = outermost_is w (parent x) key (sym is); read = refl }

-- ---- in a call

pub locks : (w : World) (x : Path) (mutex slot : ℕ) → IsAtStage w x (MutexLock mutex) → IsLocked w (parent x) mutex slot → IsAt w x (slot ∷ parent x)
locks w x mutex slot stage is = record {
  reason = Locking slot;
  stuck = (subst (λ (n : ℕ). IsAtStage w x (MutexLock n)) (sym is.is) stage, is.low, is.locked);
  read = refl;
}

pub sleeps : (w : World) (x : Path) (cond mutex : ℕ) → IsAtStage w x (CondAsleep cond mutex) → IsThere w (parent x) cond kinds.Cond →
    IsThere w (parent x) mutex kinds.Mutex → IsStill w x
sleeps w x cond mutex stage first second = record {
  reason = Sleeping cond mutex;
  stuck = (stage, first.low, second.low, first.there, second.there);
  own = tt;
}

pub no_talk : (w : World) (x : Path) (t : Thread) → Some t ≡ thread_at w x → t.talk ≡ None → talk_at w x ≡ None
no_talk w x t there none = ap (and_then (λ (u : Thread). u.talk)) (sym there) ∙ none

-- a slot that can be named, and which
named_is : (space : Path) (slot : ℕ) (key : Path) → Some key ≡ named space slot → (nat_le slot LAST_USER_SLOT ≡ true) × (key ≡ slot ∷ space)
named_is space slot key is = by (nat_le slot LAST_USER_SLOT) refl is
  where
    path_or : Option Path → Path
    path_or (Some y) = y
    path_or None = []

    by : (t : Bool) → nat_le slot LAST_USER_SLOT ≡ t → Some key ≡ (if t then Some (slot ∷ space) else None) →
        (nat_le slot LAST_USER_SLOT ≡ true) × (key ≡ slot ∷ space)
    by true e h = (e, ap path_or h)
    by false e h = absurd (cc)

handled_by : (w : World) (c : Caller) (h : ℕ) (port : Path) → c.is_porter ≡ false → nat_le h LAST_USER_SLOT ≡ true → Ok (At port) ≡ handle w c kinds.Port h →
    handled w kinds.Port (h ∷ c.space) (w.body (h ∷ c.space)) ≡ Ok (At port)
unfolding handle
handled_by w c h port user low is = sym (rw (user, low) at is)

pub connects : (w : World) (x key : Path) (c : Caller) (h : ℕ) (port : Path) → c.is_porter ≡ false → c.space ≡ parent x → talk_at w x ≡ None →
    IsAtStage w x (Connect h) → Some key ≡ named (parent x) h → Ok (At port) ≡ handle w c kinds.Port h → IsAt w x key
connects w x key c h port user space none stage name is =
    let at = named_is (parent x) h key name in
    record {
      reason = Connecting h port;
      stuck = (
        stage,
        at.0,
        none,
        subst (λ (s : Path). handled w kinds.Port (h ∷ s) (w.body (h ∷ s)) ≡ Ok (At port)) space (handled_by w c h port user at.0 is),
      );
      read = at.1;
    }

-- ---- while nothing is held

inner_pointer : (p : ℕ → Path) (to : StoredPtr) → is_outer (pointer_by p to) ≡ false
inner_pointer p stored.Null = refl
inner_pointer p stored.Dead = refl
inner_pointer p (stored.At who) = refl

inner_talk : (p : ℕ → Path) (talk : Option StoredTalk) → list_any is_outer (option_list talk_pointers (option_map (talk_by p) talk)) ≡ false
inner_talk p None = refl
inner_talk p (Some talk) = by talk.peer
  where
    by : (peer : StoredPeer) → list_any is_outer (talk_pointers (record { port = At (place p talk.port); peer = peer_by p peer; turn = talk.turn; moved = talk.moved })) ≡ false
    by (peers.Thread who) = refl
    by peers.Service = refl
    by peers.Parked = refl

inner_fault : (p : ℕ → Path) (fault : Option StoredFault) → list_any is_outer (option_list fault_pointers (option_map (fault_by p) fault)) ≡ false
inner_fault p None = refl
inner_fault p (Some fault) = by fault.taker
  where
    by : (taker : Option StoredPeer) → list_any is_outer (fault_pointers
        (record { page = fault.page; write = fault.write; port = At (place p fault.port); taker = option_map (peer_by p) taker })) ≡ false
    by None = refl
    by (Some (peers.Thread who)) = refl
    by (Some peers.Service) = refl
    by (Some peers.Parked) = refl

any_more : (a b : List Ptr) → list_any is_outer a ≡ false → list_any is_outer b ≡ false → list_any is_outer (a ++ b) ≡ false
any_more [] b first second = second
any_more (x ∷ a) b first second =
    let both = or_parts (is_outer x) (list_any is_outer a) first in or_from (is_outer x) (list_any is_outer (a ++ b)) both.0 (any_more a b both.1 second)

inner_body : (p : ℕ → Path) (b : StoredBody) → list_any is_outer (pointers (body_by p b)) ≡ false
inner_body p (bodies.Mutex locked) = refl
inner_body p bodies.Cond = refl
inner_body p (bodies.Mapping first count offset write region) = rw (inner_pointer p region) refl
inner_body p (bodies.Region first count write keeper) = rw (inner_pointer p keeper) refl
inner_body p (bodies.Port set served) = refl
inner_body p bodies.Portset = refl
inner_body p (bodies.Space birth None) = refl
inner_body p (bodies.Space birth (Some who)) = refl
inner_body p (bodies.Thread thread) =
    any_more (option_list talk_pointers (option_map (talk_by p) thread.talk)) (option_list fault_pointers (option_map (fault_by p) thread.fault))
    (inner_talk p thread.talk) (inner_fault p thread.fault)
inner_body p (bodies.Reference to) = rw (inner_pointer p to) refl

-- a store's world is no subtree that is seen alone
pub whole : (m : Contents) → IsWholeWorld (world m)
unfolding world
whole m [] = refl
whole m (k ∷ s) = by (space_at m s)
  where
    there : (o : Option StoredBody) → list_any is_outer (body_pointers (option_map (body_by (path m)) o)) ≡ false
    there None = refl
    there (Some b) = inner_body (path m) b

    by : (o : Option ℕ) → list_any is_outer (body_pointers (and_then (λ n. option_map (body_by (path m)) (get m.bodies (at n k))) o)) ≡ false
    by None = refl
    by (Some n) = there (get m.bodies (at n k))

pub loud : (m : Contents) (k : ℕ) (s : Path) (t : Thread) (stage : Stage) → IsValid (world m) → (world m).next ≤ depth → ((q : Path) → decider (world m) q ≡ None) →
    Some t ≡ thread_at (world m) (k ∷ s) → first_stage t.mode ≡ Some stage → is_lock_stage stage ≡ false →
    ((pick : Option Path) → IsReady (world m) (k ∷ s) pick asks.Run → ⊥) → IsLoudly (world m) (k ∷ s)
loud m k s t stage valid few unheld there first other unready = by found.reason found.stuck found.named
  where
    found : HasReason (world m) (k ∷ s)
    found = has_reason (world m) k s t valid few (whole m) unheld (sym there)
        (λ rest is. let off : false ≡ true = sym (ap (λ (m : Mode). is_some (first_stage m)) is) ∙ ap is_some first in absurd (cc)) unready

    locks_at : Option Stage → Bool
    locks_at o = holds is_lock_stage o

    at : IsAtStage (world m) (k ∷ s) stage
    at = at_stage (world m) (k ∷ s) t stage there first

    by : (r : Reason) → IsStuck (world m) (k ∷ s) r → is_barred r ≡ false → IsLoudly (world m) (k ∷ s)
    by (Locking mutex) stuck named = let off : false ≡ true = sym other ∙ ap locks_at (sym at ∙ stuck.0) in absurd (cc)
    by Barred stuck named = absurd (cc)
    by Resting stuck named = record { reason = Resting; stuck = stuck; loud = refl }
    by r stuck named = record { reason = r; stuck = stuck; loud = refl }
