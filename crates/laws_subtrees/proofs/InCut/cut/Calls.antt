-- The law of the cut for the calls of a porter, which stands outside, and for the calls that are denied.
use Rattle.std.proofs.Common.{◌≡◌, ℕ, Bool, true, false, cond, ◌&&◌, List, [], ◌∷◌, ◌++◌, Option, Some, None, is_some, is_none, refl, eqb, not, ◌||◌, Result}
use Rattle.std.proofs.Common.{Ok, Err}
use Rattle.std.proofs.lemmas.Bool.{and_parts}
use Rattle.fk_model.specs.declared.names.Kind.TheVariants as kinds
use Rattle.fk_model.specs.declared.moves.Ask.TheVariants as asks
use Rattle.fk_model.specs.declared.stage.Stage.{Stage}
use Rattle.fk_model.specs.declared.stage.Stage.TheVariants.{ClientSend, ClientOver, Wait, ServerSend, ServerOver, ServerEnd, FaultDone, PageGive, PageTake}
use Rattle.fk_model.specs.declared.stage.Stage.TheVariants.{ClientOverRef}
use Rattle.fk_model.specs.declared.stage.Stage.TheVariants.{CountIn, LinkSet, LinkPark, FaultSet, FaultPark, HoldSet, SpaceMakeHeld, ServerOverRef}
use Rattle.fk_model.specs.declared.statuses.status.TheConstants.{DENIED, HELD}
use Rattle.fk_model.specs.Readers.{space_argument, object_in, referred}
use Rattle.fk_model.specs.Seen.Seen.{Onwards, Unseen, Other}
use Rattle.fk_model.specs.ObjectRows.{count_in}
use Rattle.fk_model.specs.SpaceRows.{hold_set, space_make_held}
use Rattle.fk_model.specs.FaultRows.{given_fault, fault_set, fault_park, named_taker}
use Rattle.fk_model.specs.World.Edit.{SetTalk, SetFault}
use Rattle.fk_model.specs.World.Change.{Alter}
use Rattle.fk_model.specs.Objects.Peer.{Server, Parked}
use Rattle.fk_model.specs.Places.Ptr.{At}
use Rattle.fk_model.specs.Places.{Path, strip, is_within, parent, Ptr}
use Rattle.fk_model.specs.Objects.{Thread, Body, thread_of, and_then, holds, Peer, port_of}
use Rattle.fk_model.specs.Objects.Body.{Thread_of}
use Rattle.fk_model.specs.World.{World, Change}
use Rattle.fk_model.specs.Holds.{is_free, is_porter, is_unheld, is_frozen_for}
use Rattle.fk_model.specs.Outcomes.{Outcome, when, Caller, listed, ◌>>=◌, done, done_at, path_of, refuse}
use Rattle.fk_model.specs.Outcomes.Outcome.{Refused, Waits, Goes}
use Rattle.fk_model.specs.LinkRows.{user_at, given_talk, link_set, link_park}
use Rattle.fk_model.specs.StateRows.{is_native}
use Rattle.fk_model.specs.Moves.{stage_row, is_for_porters, is_for_users, chooses, with_pick, closed, call_row, porter_at, porter_move, outcome, GoesAllowed}
use Rattle.fk_model.specs.Moves.{IsReady, step}
use Rattle.fk_model.specs.Valid.{is_fit}
use Rattle.fk_model.specs.Cut.{cut, IsPlain, is_inner_peer}
use Rattle.fk_model.specs.Further.{Touch, outside_row}
use Rattle.fk_model.specs.Seen.{Seen, on_inner, given_of, stage_touch, IsSeen, serves_outside}
use Rattle.fk_model.proofs.walks.PlaceLaws.{strip_some}
use Rattle.laws_subtrees.specs.Cut.Likeness.{IsLikeness}
use Rattle.laws_subtrees.specs.Cut.LikeChanges.{IsLikeOutcome}
use Rattle.laws_subtrees.specs.Cut.CutLaws.{HasDone, IsAtStage, moves, KeepsCut, StageKeepsCut, CallKeepsCut, IsPlainStage, IsForPorters, IsForUsers, IsDestroy}
use Rattle.laws_subtrees.specs.Cut.CutLaws.{IsServerNamed, IsServerless}
use Rattle.laws_subtrees.proofs.InCut.cut.Plain.{AreQuiet}
use Rattle.laws_subtrees.proofs.InCut.likeness.Holds.{strip_none}
use Rattle.laws_subtrees.proofs.InCut.likeness.Instances.{cut-like}
use Rattle.laws_subtrees.proofs.InCut.likeness.Outcomes.{closed-like}
use Rattle.laws_subtrees.proofs.InCut.cut.Inside.{Quiet, quiet-refused, quiet-waits, quiet-goes, quiet-when, quiet-with_pick, with_pick-like, call_inside}
use Rattle.laws_subtrees.proofs.InCut.cut.Inside.{inside_stages}
use Rattle.laws_subtrees.proofs.InCut.cut.Inside.{quiet->>=, quiet-done}
use Rattle.laws_subtrees.proofs.InCut.cut.Outside.{outside_law, stage_outcome, stage_called, stepped-plain, untouched}
use Rattle.laws_subtrees.proofs.InCut.cut.Rows.{plain_inner, quiet_row}
use Rattle.laws_subtrees.proofs.InCut.cut.Objects.{quiet-destroy}

-- ---- a porter stands outside

native_there : (v : Option Body) (t : Thread) → and_then thread_of v ≡ Some t → is_porter t.mode ≡ true → holds is_native v ≡ true
native_there (Some (Thread_of u)) t h porter = let same : u ≡ t = cc in rw same porter
native_there (Some b) t h porter = cc
native_there None t h porter = cc

pub porter_outside : (w : World) (nester : Path) (slot : ℕ) →
    IsPlain w nester slot → (x : Path) (t : Thread) → and_then thread_of (w.body x) ≡ Some t → is_porter t.mode ≡ true → is_within (slot ∷ nester) x ≡ false
porter_outside w nester slot plain x t at porter = by (strip (slot ∷ nester) x) refl
  where
    by : (o : Option Path) → strip (slot ∷ nester) x ≡ o → is_some o ≡ false
    by None e = refl
    by (Some q) e = let here = strip_some (slot ∷ nester) x q e in
        let native = native_there (w.body x) t at porter in let none : holds is_native (w.body x) ≡ false = rw here (plain.no_porter q) in cc

-- a porter's call that is ready
pub porter_is : (w : World) (x : Path) (pick : Option Path) (stage : Stage) (words : List ℕ) (o : Option Thread) →
    GoesAllowed w x (porter_move w x pick stage words o) →
    (t : Thread) × (o ≡ Some t) × (is_porter t.mode ≡ true) × (porter_move w x pick stage words o ≡ call_row w (porter_at x words) pick stage)
porter_is w x pick stage words None ready = absurd ready
porter_is w x pick stage words (Some t) ready = by (is_porter t.mode) (is_unheld w (parent x)) refl ready
  where
    by : (a b : Bool) → is_porter t.mode ≡ a → GoesAllowed w x (when (a && b) (call_row w (porter_at x words) pick stage)) → (u : Thread) ×
        (Some t ≡ Some u) × (is_porter u.mode ≡ true) × (when (a && b) (call_row w (porter_at x words) pick stage) ≡ call_row w (porter_at x words) pick stage)
    by true true e ready = (t, refl, e, refl)
    by true false e ready = absurd ready
    by false b e ready = absurd ready

-- ---- a stage that touches nothing and whose changes are quiet

answered : (root x : Path) (words : List ℕ) (o : Outcome) → Quiet root o → Quiet root (closed (porter_at x words) o)
answered root x words (Refused status) h = record { quiet = tt; mute = λ v y. refl }
answered root x words Waits h = h
answered root x words (Goes cs said) h = h

denied : (root : Path) (b : Bool) (o : Outcome) → Quiet root o → Quiet root (cond b (Refused DENIED) o)
denied root true o h = quiet-refused
denied root false o h = h

pub quiet-porter : (root : Path) (w : World) (x : Path) (words : List ℕ) (pick : Option Path) (stage : Stage) →
    Quiet root (stage_row w (porter_at x words) pick stage) → Quiet root (call_row w (porter_at x words) pick stage)
unfolding call_row
quiet-porter root w x words pick stage h =
    answered root x words _ (quiet-with_pick root (chooses stage) pick _ (denied root (is_for_users stage) (stage_row w (porter_at x words) pick stage) h))

-- whatever the call is, where its row is quiet and touches nothing
pub quiet_call : (w : World) (nester : Path) (slot : ℕ) (x : Path) (pick : Option Path) (stage : Stage) (words : List ℕ) →
    Quiet (slot ∷ nester) (call_row w (porter_at x words) pick stage) →
    stage_touch w (slot ∷ nester) (porter_at x words) pick (listed (call_row w (porter_at x words) pick stage)) stage ≡ None →
    KeepsCut w nester slot (record { mover = x; pick = pick; ask = asks.Call stage words })
unfolding outcome
quiet_call w nester slot x pick stage words quiet untouched sound plain fit ready =
    let is = porter_is w x pick stage words (and_then thread_of (w.body x)) ready in
    outside_law w nester slot plain (record { mover = x; pick = pick; ask = asks.Call stage words }) (porter_outside w nester slot plain x is.0 is.1 is.2)
    (rw (is.3) quiet) (rw (is.3) untouched) sound plain fit ready

pub quiet_calls : (IsSuch : Stage → Type 0) →
    ((stage : Stage) → IsSuch stage → (root : Path) (w : World) (c : Caller) (pick : Option Path) → Quiet root (stage_row w c pick stage)) →
    ((stage : Stage) → IsSuch stage →
    (w : World) (root : Path) (c : Caller) (pick : Option Path) (cs : List Change) → stage_touch w root c pick cs stage ≡ None) → CallKeepsCut IsSuch
quiet_calls IsSuch quiet untouching w nester slot x pick stage words such =
    quiet_call w
    nester slot x pick stage words (quiet-porter (slot ∷ nester) w x words pick stage (quiet stage such (slot ∷ nester) w (porter_at x words) pick))
    (untouching stage such w (slot ∷ nester) (porter_at x words) pick (listed (call_row w (porter_at x words) pick stage)))

pub plain_calls_keep : CallKeepsCut IsPlainStage
plain_calls_keep = quiet_calls IsPlainStage (λ stage such. (plain_inner stage such).quiet) (λ stage such. (plain_inner stage such).untouching)

-- ---- a call that a porter is denied

none_inner : (root : Path) (touch : Path → Path → Option Touch) (thread : Option Path) → ((x q : Path) → touch x q ≡ None) → on_inner root touch thread ≡ None
none_inner root touch None none = refl
none_inner root touch (Some x) none = by (strip root x)
  where
    by : (o : Option Path) → and_then (touch x) o ≡ None
    by None = refl
    by (Some q) = none x q

-- what is refused touches nothing
refused_touch : (w : World) (root : Path) (c : Caller) (pick : Option Path) (stage : Stage) →
    is_for_users stage ≡ true → stage_touch w root c pick [] stage ≡ None
refused_touch w root c pick (ServerSend address count) users = none_inner root (given_of w []) _ (λ x q. refl)
refused_touch w root c pick (Wait set) users = cc
refused_touch w root c pick FaultDone users = cc
refused_touch w root c pick (PageGive s page address) users = cc
refused_touch w root c pick (PageTake s page address) users = cc
refused_touch w root c pick stage users = refl

denied_call : (w : World) (x : Path) (words : List ℕ) (pick : Option Path) (stage : Stage) →
    is_for_users stage ≡ true → call_row w (porter_at x words) pick stage ≡ closed (porter_at x words) (with_pick (chooses stage) pick (Refused DENIED))
unfolding call_row
denied_call w x words pick stage users = rw users refl

nothing_listed : (x : Path) (words : List ℕ) (chosen : Bool) (pick : Option Path) →
    listed (closed (porter_at x words) (with_pick chosen pick (Refused DENIED))) ≡ []
nothing_listed x words chosen None = refl
nothing_listed x words chosen (Some y) = refl

pub denied_calls_keep : CallKeepsCut IsForUsers
denied_calls_keep w nester slot x pick stage words such =
    quiet_call w nester slot x pick stage words
    (rw (denied_call w x words pick stage such)
    (answered (slot ∷ nester) x words _ (quiet-with_pick (slot ∷ nester) (chooses stage) pick (Refused DENIED) quiet-refused)))
    (rw (denied_call w x words pick stage such, nothing_listed x words (chooses stage) pick)
    (refused_touch w (slot ∷ nester) (porter_at x words) pick stage such))

-- ---- a stage that a user is denied

denied_stage : (w : World) (x : Path) (pick : Option Path) (stage : Stage) →
    is_for_porters stage ≡ true → call_row w (user_at x) pick stage ≡ closed (user_at x) (with_pick (chooses stage) pick (Refused DENIED))
unfolding call_row
denied_stage w x pick stage porters = rw porters refl

pub quiet-denied : (root : Path) (w : World) (x : Path) (pick : Option Path) (stage : Stage) →
    is_for_porters stage ≡ true → Quiet root (call_row w (user_at x) pick stage)
quiet-denied root w x pick stage porters = rw (denied_stage w x pick stage porters) (by (chooses stage) pick)
  where
    by : (chosen : Bool) (pick : Option Path) → Quiet root (closed (user_at x) (with_pick chosen pick (Refused DENIED)))
    by chosen None = quiet-goes (tt, tt)
    by chosen (Some y) = quiet-waits

pub silent-denied : (w : World) (n : ℕ) (c : Caller) (o : Outcome) (stage : Stage) → is_for_porters stage ≡ true → outside_row w c n stage o ≡ o
silent-denied w n c o (ClientSend address count) porters = cc
silent-denied w n c o ClientOver porters = cc
silent-denied w n c o (ClientOverRef reference) porters = cc
silent-denied w n c o stage porters = refl

untouching-denied : (w : World) (root : Path) (c : Caller) (pick : Option Path) (cs : List Change) (stage : Stage) →
    is_for_porters stage ≡ true → stage_touch w root c pick cs stage ≡ None
untouching-denied w root c pick cs (Wait set) porters = cc
untouching-denied w root c pick cs (ServerSend address count) porters = cc
untouching-denied w root c pick cs ServerOver porters = cc
untouching-denied w root c pick cs (ServerOverRef reference) porters = cc
untouching-denied w root c pick cs ServerEnd porters = cc
untouching-denied w root c pick cs FaultDone porters = cc
untouching-denied w root c pick cs (PageGive s page address) porters = cc
untouching-denied w root c pick cs (PageTake s page address) porters = cc
untouching-denied w root c pick cs stage porters = refl

pub denied_like : {root : Path} {see : Ptr → Ptr} {small big : World}
    (like : IsLikeness root see small big) (k : ℕ) (q : Path) (p pick : Option Path) (stage : Stage) → is_for_porters stage ≡ true → is_none p ≡ is_none pick →
    IsLikeOutcome root see big (call_row small (user_at (k ∷ q)) p stage) (call_row big (user_at (k ∷ (q ++ root))) pick stage)
denied_like {root} {see} {small} {big} like k q p pick stage porters e =
    rw (denied_stage small (k ∷ q) p stage porters, denied_stage big (k ∷ (q ++ root)) pick stage porters)
    (closed-like like (user_at (k ∷ q)) _ _ (with_pick-like like (chooses stage) p pick (Refused DENIED) (Refused DENIED) e refl))

pub denied_stages_keep : StageKeepsCut IsForPorters
denied_stages_keep w nester slot x pick stage such at sound plain = by (is_within (slot ∷ nester) x) refl
  where
    law : (w : World) (nester : Path) (slot : ℕ) → IsPlain w nester slot → (k : ℕ) (q : Path) (pick : Option Path) (stage : Stage) →
        IsForPorters stage → IsAtStage w (k ∷ (q ++ slot ∷ nester)) stage → KeepsCut w nester slot (moves (k ∷ (q ++ slot ∷ nester)) pick)
    law w nester slot plain k q pick stage such at =
        call_inside w nester slot plain k q pick stage at (λ n c o. silent-denied (cut w nester slot) n c o stage such)
        (λ p e free. denied_like (cut-like w nester slot plain) k q p pick stage such e)
        (quiet-denied (slot ∷ nester) w (k ∷ (q ++ slot ∷ nester)) pick stage such)

    by : (b : Bool) → is_within (slot ∷ nester) x ≡ b → is_fit w x asks.Run ≡ true →
        IsReady w x pick asks.Run → (seen : Seen) → IsSeen w nester slot (moves x pick) seen → HasDone w nester slot (moves x pick) seen
    by true e = inside_stages IsForPorters law w nester slot x pick stage such e at sound plain
    by false e =
        let is = stage_outcome w nester slot plain x pick stage at in
        outside_law w nester slot plain (moves x pick) e
        (rw is.1
        (quiet-when (slot ∷ nester) (is_free w (parent x) is.0) (call_row w (user_at x) pick stage) (quiet-denied (slot ∷ nester) w x pick stage such)))
        (rw (stage_called w nester slot plain x stage at)
        (untouching-denied w (slot ∷ nester) (user_at x) pick (listed (outcome w x pick asks.Run)) stage such)) sound plain

-- ---- a death, and the calls for porters alone that name no server

pub destroy_calls_keep : CallKeepsCut IsDestroy
destroy_calls_keep =
    quiet_calls IsDestroy (λ stage such root w c pick. rw such.2 (quiet-destroy root w c such.0 such.1)) (λ stage such w root c pick cs. rw such.2 refl)

quiet-count_in : (root : Path) (w : World) (c : Caller) (base s x : ℕ) → Quiet root (count_in w c base s x)
unfolding count_in
quiet-count_in root w c base s x = search (quiet_row) depth 9

parks-quiet : (root : Path) (c : Caller) (x : Path) (port : Ptr) → AreQuiet root (Alter x (SetTalk (given_talk c port Parked)) ∷ [])
parks-quiet root c x port = ((λ out. refl), tt)

quiet-link_park : (root : Path) (w : World) (c : Caller) (s x port : ℕ) → Quiet root (link_park w c s x port)
unfolding link_park
quiet-link_park root w c s x port =
    quiet->>= root
    (space_argument w c s) _ (λ space. quiet->>= root (object_in w c thread_of space x) _ (λ t. quiet->>= root (object_in w c port_of c.space port) _ (λ p.
    quiet->>= root
    (refuse HELD (is_frozen_for w (path_of c) (x ∷ space))) _ (λ free. quiet-done root c _ [] (parks-quiet root c (x ∷ space) (At (port ∷ c.space)))))))

waits-quiet : (root : Path) (b : Bool) → holds (is_inner_peer root) (cond b (Some Parked) None) ≡ false
waits-quiet root true = refl
waits-quiet root false = refl

quiet-fault_park : (root : Path) (w : World) (c : Caller) (s x port taken : ℕ) → Quiet root (fault_park w c s x port taken)
unfolding fault_park
quiet-fault_park root w c s x port taken =
    quiet->>= root
    (space_argument w c s) _ (λ space. quiet->>= root (object_in w c thread_of space x) _ (λ t. quiet->>= root (object_in w c port_of c.space port) _ (λ p.
    quiet->>= root (refuse HELD (is_frozen_for w (path_of c) (x ∷ space))) _ (λ free. quiet-done root c _ [] ((λ out. waits-quiet root (eqb taken 1)), tt)))))

quiet-hold_set : (root : Path) (w : World) (c : Caller) (s x thread : ℕ) → Quiet root (hold_set w c s x thread)
unfolding hold_set
quiet-hold_set root w c s x thread = search (quiet_row) depth 9

quiet-space_make_held : (root : Path) (w : World) (c : Caller) (x : ℕ) → Quiet root (space_make_held w c x)
unfolding space_make_held
quiet-space_make_held root w c x = search (quiet_row) depth 9

quiet-serverless : (stage : Stage) → IsServerless stage → (root : Path) (w : World) (c : Caller) (pick : Option Path) → Quiet root (stage_row w c pick stage)
quiet-serverless (CountIn base s x) such root w c pick = quiet-count_in root w c base s x
quiet-serverless (LinkPark s x port) such root w c pick = quiet-link_park root w c s x port
quiet-serverless (FaultPark s x port taken) such root w c pick = quiet-fault_park root w c s x port taken
quiet-serverless (HoldSet s x thread) such root w c pick = quiet-hold_set root w c s x thread
quiet-serverless (SpaceMakeHeld x) such root w c pick = quiet-space_make_held root w c x
quiet-serverless stage such root w c pick = cc

pub serverless_calls_keep : CallKeepsCut IsServerless
serverless_calls_keep = quiet_calls IsServerless
    quiet-serverless (λ stage such w root c pick cs. untouching-denied w root c pick cs stage (and_parts (is_for_porters stage) _ such).0)

-- ---- a talk or a fault that is made again with its server: nobody inside comes to serve the outside, where nothing is seen of it

abbrev QuietIf : Path → Outcome → Type 0
QuietIf root o = serves_outside root (listed o) ≡ false → Quiet root o

quietly->>= : {A : Type 0} (root : Path) (r : Result A ℕ) (go : A → Outcome) → ((a : A) → QuietIf root (go a)) → QuietIf root (r >>= go)
quietly->>= root (Ok a) go quiet = quiet a
quietly->>= root (Err status) go quiet = λ off. quiet-refused

if_outside : (within inner : Bool) (rest : Bool) → ((not within && inner) || rest) ≡ false → within ≡ false → inner ≡ false
if_outside false true rest h e = cc
if_outside within false rest h e = refl
if_outside true true rest h e = cc

quietly-talk : (root : Path) (c : Caller) (x : Path) (port : Ptr) (peer : Peer) → QuietIf root (done c (Alter x (SetTalk (given_talk c port peer)) ∷ []) [])
quietly-talk root c x port peer = by c.is_porter
  where
    by : (porter : Bool) → QuietIf root (done_at (path_of c) (record c { is_porter = porter }) (Alter x (SetTalk (given_talk c port peer)) ∷ []) [])
    by true off = record { quiet = ((λ out. if_outside (is_within root x) (is_inner_peer root peer) _ off out), tt); mute = λ v y. refl }
    by false off = quiet-goes ((λ out. if_outside (is_within root x) (is_inner_peer root peer) _ off out), (tt, tt))

quietly-fault : (root : Path) (c : Caller) (x : Path) (port : Ptr) (taker : Option Peer) →
    QuietIf root (done c (Alter x (SetFault (given_fault c port taker)) ∷ []) [])
quietly-fault root c x port taker = by c.is_porter
  where
    by : (porter : Bool) → QuietIf root (done_at (path_of c) (record c { is_porter = porter }) (Alter x (SetFault (given_fault c port taker)) ∷ []) [])
    by true off = record { quiet = ((λ out. if_outside (is_within root x) (holds (is_inner_peer root) taker) _ off out), tt); mute = λ v y. refl }
    by false off = quiet-goes ((λ out. if_outside (is_within root x) (holds (is_inner_peer root) taker) _ off out), (tt, tt))

quietly-link_set : (root : Path) (w : World) (c : Caller) (s x port server : ℕ) → QuietIf root (link_set w c s x port server)
unfolding link_set
quietly-link_set root w c s x port server =
    quietly->>= root (space_argument w c s) _ (λ space. quietly->>= root (object_in w c thread_of space x)
    _ (λ t. quietly->>= root (referred w c kinds.Port port) _ (λ p. quietly->>= root (referred w c kinds.Thread server) _ (λ thread.
    quietly->>= root (refuse HELD (is_frozen_for w (path_of c) (x ∷ space))) _ (λ free. quietly-talk root c (x ∷ space) p (Server thread))))))

quietly-fault_set : (root : Path) (w : World) (c : Caller) (s x port taker : ℕ) → QuietIf root (fault_set w c s x port taker)
unfolding fault_set
quietly-fault_set root w c s x port taker =
    quietly->>= root (space_argument w c s) _ (λ space. quietly->>= root
    (object_in w c thread_of space x) _ (λ t. quietly->>= root (referred w c kinds.Port port) _ (λ p. quietly->>= root (named_taker w c taker) _ (λ named.
    quietly->>= root (refuse HELD (is_frozen_for w (path_of c) (x ∷ space))) _ (λ free. quietly-fault root c (x ∷ space) p named)))))

quietly-named : (stage : Stage) → IsServerNamed stage → (root : Path) (w : World) (c : Caller) (pick : Option Path) → QuietIf root (stage_row w c pick stage)
quietly-named (LinkSet s x port server) such root w c pick = quietly-link_set root w c s x port server
quietly-named (FaultSet s x port taker) such root w c pick = quietly-fault_set root w c s x port taker
quietly-named stage such root w c pick = cc

named_for_porters : (stage : Stage) → IsServerNamed stage → is_for_porters stage ≡ true
named_for_porters (LinkSet s x port server) such = refl
named_for_porters (FaultSet s x port taker) such = refl
named_for_porters stage such = cc

quietly-porter : (root : Path) (w : World) (x : Path) (words : List ℕ) (pick : Option Path) (stage : Stage) →
    is_for_users stage ≡ false → QuietIf root (stage_row w (porter_at x words) pick stage) → QuietIf root (call_row w (porter_at x words) pick stage)
unfolding call_row
quietly-porter root w x words pick stage users h = rw users (by (chooses stage) pick (stage_row w (porter_at x words) pick stage) h)
  where
    by : (chosen : Bool) (pick : Option Path) (o : Outcome) → QuietIf root o → QuietIf root (closed (porter_at x words) (with_pick chosen pick o))
    by chosen None (Refused status) h off = record { quiet = tt; mute = λ v y. refl }
    by chosen (Some y) (Refused status) h off = quiet-waits
    by chosen pick Waits h off = quiet-waits
    by true pick (Goes cs said) h off = h off
    by false None (Goes cs said) h off = h off
    by false (Some y) (Goes cs said) h off = quiet-waits

named_not_users : (stage : Stage) → IsServerNamed stage → is_for_users stage ≡ false
named_not_users (LinkSet s x port server) such = refl
named_not_users (FaultSet s x port taker) such = refl
named_not_users stage such = cc

pub named_calls_keep : CallKeepsCut IsServerNamed
unfolding step outcome
named_calls_keep w nester slot x pick stage words such sound plain fit ready (Onwards m) seen =
    let is = porter_is w x pick stage words (and_then thread_of (w.body x)) ready in
    absurd (untouched w nester slot plain (record { mover = x; pick = pick; ask = asks.Call stage words }) (outcome w x pick (asks.Call stage words))
    (strip (slot ∷ nester) x) m (strip_none (slot ∷ nester) x (porter_outside w nester slot plain x is.0 is.1 is.2))
    (untouching-denied w (slot ∷ nester) (porter_at x words) pick (listed (outcome w x pick (asks.Call stage words))) stage (named_for_porters stage such))
    seen.1)
named_calls_keep w nester slot x pick stage words such sound plain fit ready Unseen seen =
    let is = porter_is w x pick stage words (and_then thread_of (w.body x)) ready in
    let quiet = quietly-porter (slot ∷ nester)
    w x words pick stage (named_not_users stage such) (quietly-named stage such (slot ∷ nester) w (porter_at x words) pick) in
    stepped-plain w nester slot plain (outcome w x pick (asks.Call stage words)) (rw (is.3) (quiet (rw (is.3) at seen.1.1))) seen.1.0
named_calls_keep w nester slot x pick stage words such sound plain fit ready Other seen = tt
