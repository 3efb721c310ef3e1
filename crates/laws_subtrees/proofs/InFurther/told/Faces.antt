-- The face of an object: whether it is there, whether it is a thread, and its talk and its fault. Mild changes leave it.
use Rattle.std.proofs.Common.{◌≡◌, ℕ, ◌+◌, min, Bool, true, false, if◌then◌else◌, is_some, List, [], ◌∷◌, Option, Some, None, option_map, refl, sym, ap, ◌∙◌}
use Rattle.fk_model.specs.declared.limits.TheConstants.{MOST_MOVED}
use Rattle.fk_model.specs.declared.names.Kind.TheVariants as kinds
use Rattle.fk_model.specs.Places.{Path, same_path, Ptr}
use Rattle.fk_model.specs.Objects.{Mode, Peer, Talk, Fault, Thread, Body, kind_of, thread_of, and_then}
use Rattle.fk_model.specs.Objects.Mode.{Calling}
use Rattle.fk_model.specs.Objects.Body.{Mutex, Cond, Mapping, Region, Port, Portset, Space, Thread_of, Reference}
use Rattle.fk_model.specs.World.{World, Change, Edit, edited, apply, apply_all, ended_in, finished_in}
use Rattle.fk_model.specs.World.Change.{Alter, Make, MakeSpace, Kill, Move, PutPage, DropPage}
use Rattle.fk_model.specs.World.Edit.{SetPointer, SetHolder, SetTalk, CountMoved, PassTurn, SetPeer, SetFault, SetTaker, Finish, End}
use Rattle.fk_model.specs.Searches.{talk_at, fault_at}
use Rattle.laws_moves.proofs.InFrozen.Edited.{same_kind}
use Rattle.laws_moves.specs.Frozen.Once.{is_mild_edit, is_mild, AreMild}

abbrev pub tie : Talk → Ptr × Peer
tie talk = (talk.port, talk.peer)

pub record Face : Type 0 where
  pub live : Bool
  pub thread : Bool
  pub talk : Option (Ptr × Peer)
  pub fault : Option Fault

abbrev pub face : Option Body → Face
face o = record {
  live = is_some o;
  thread = is_some (and_then thread_of o);
  talk = option_map tie (and_then (λ (t : Thread). t.talk) (and_then thread_of o));
  fault = and_then (λ (t : Thread). t.fault) (and_then thread_of o);
}

-- what is no thread shows that something is there, and nothing else
abbrev pub blank : Face
blank = record { live = true; thread = false; talk = None; fault = None }

blank-of : (b : Body) → (kind_of b ≡ kinds.Thread → ⊥) → face (Some b) ≡ blank
blank-of (Thread_of t) other = absurd (other refl)
blank-of (Mutex locked) other = refl
blank-of b other = refl

-- ---- edits of threads

abbrev SameEnds : Thread → Thread → Type 0
SameEnds u t = (u.talk ≡ t.talk) × (u.fault ≡ t.fault)

ended-same : (status : ℕ) (answers : List ℕ) (t : Thread) (m : Mode) → SameEnds (ended_in status answers t m) t
ended-same status answers t (Calling todo rest) = (refl, refl)
ended-same status answers t m = (refl, refl)

finished-same : (answers : List ℕ) (t : Thread) (m : Mode) → SameEnds (finished_in answers t m) t
finished-same answers t (Calling (stage ∷ next_stage ∷ todo) rest) = (refl, refl)
finished-same answers t (Calling (stage ∷ []) rest) = (refl, refl)
finished-same answers t (Calling [] rest) = (refl, refl)
finished-same answers t m = (refl, refl)

by_ends : (u t : Thread) → SameEnds u t → face (Some (Thread_of u)) ≡ face (Some (Thread_of t))
by_ends u t same = rw (same.0, same.1) refl

kept_tie : (f : Talk → Talk) → ((talk : Talk) → tie (f talk) ≡ tie talk) → (o : Option Talk) → option_map tie (option_map f o) ≡ option_map tie o
kept_tie f same None = refl
kept_tie f same (Some talk) = ap (λ (e : Ptr × Peer). Some e) (same talk)

thread-face : (edit : Edit) (t : Thread) → is_mild_edit edit ≡ true → face (Some (edited edit (Thread_of t))) ≡ face (Some (Thread_of t))
unfolding edited
thread-face (CountMoved count) t mild =
    rw (kept_tie (λ talk. record talk { moved = min MOST_MOVED (talk.moved + count) }) (λ talk. refl) t.talk) refl
thread-face (PassTurn turn) t mild = rw (kept_tie (λ talk. record talk { turn = turn; moved = 0 }) (λ talk. refl) t.talk) refl
thread-face (Finish answers) t mild = by_ends (finished_in answers t t.mode) t (finished-same answers t t.mode)
thread-face (End status answers) t mild = by_ends (ended_in status answers t t.mode) t (ended-same status answers t t.mode)
thread-face (SetTalk talk) t mild = cc
thread-face (SetPeer peer) t mild = cc
thread-face (SetFault fault) t mild = cc
thread-face (SetTaker taker) t mild = cc
thread-face (SetPointer to) t mild = cc
thread-face (SetHolder holder) t mild = cc
thread-face edit t mild = refl

-- what is no thread stays none under every edit
pub other-face : (edit : Edit) (b : Body) → (kind_of b ≡ kinds.Thread → ⊥) → face (Some (edited edit b)) ≡ face (Some b)
other-face edit b other = blank-of (edited edit b) (λ e. other (sym (same_kind edit b) ∙ e)) ∙ sym (blank-of b other)

body-face : (edit : Edit) (b : Body) → is_mild_edit edit ≡ true → face (Some (edited edit b)) ≡ face (Some b)
body-face edit (Thread_of t) mild = thread-face edit t mild
body-face edit (Mutex locked) mild = other-face edit (Mutex locked) (λ e. cc)
body-face edit Cond mild = other-face edit Cond (λ e. cc)
body-face edit (Mapping m) mild = other-face edit (Mapping m) (λ e. cc)
body-face edit (Region r) mild = other-face edit (Region r) (λ e. cc)
body-face edit (Port set served) mild = other-face edit (Port set served) (λ e. cc)
body-face edit Portset mild = other-face edit Portset (λ e. cc)
body-face edit (Space birth holder) mild = other-face edit (Space birth holder) (λ e. cc)
body-face edit (Reference to) mild = other-face edit (Reference to) (λ e. cc)

-- ---- worlds

-- two worlds show the same faces
abbrev pub Agree : World → World → Type 0
Agree v c = (q : Path) → face (v.body q) ≡ face (c.body q)

mild-apply : (v : World) (m : Change) → is_mild m ≡ true → Agree (apply m v) v
unfolding apply
mild-apply v (Alter y edit) mild q = by (same_path q y) (v.body q)
  where
    by : (t : Bool) (o : Option Body) → face (if t then option_map (edited edit) o else o) ≡ face o
    by true (Some b) = body-face edit b mild
    by true None = refl
    by false o = refl
mild-apply v (PutPage space page words) mild q = refl
mild-apply v (DropPage space page) mild q = refl
mild-apply v (Make x body) mild q = cc
mild-apply v (MakeSpace x holder) mild q = cc
mild-apply v (Kill x) mild q = cc
mild-apply v (Move x slot) mild q = cc

pub mild-agree : (v : World) (m : Change) → is_mild m ≡ true → (c : World) → Agree v c → Agree (apply m v) c
mild-agree v m mild c same q = mild-apply v m mild q ∙ same q

pub mild-all : (cs : List Change) (v : World) → AreMild cs → Agree (apply_all cs v) v
unfolding apply_all
mild-all [] v mild q = refl
mild-all (m ∷ cs) v mild q = mild-all cs (apply m v) mild.1 q ∙ mild-apply v m mild.0 q

-- ---- what is read off a face

pub talk_none : (o : Option Talk) → option_map tie o ≡ None → o ≡ None
talk_none None h = refl
talk_none (Some talk) h = cc

pub same-talk : (v c : World) (q : Path) → face (v.body q) ≡ face (c.body q) → talk_at v q ≡ None → talk_at c q ≡ None
same-talk v c q same none = talk_none (talk_at c q) (sym (ap (λ (f : Face). f.talk) same) ∙ ap (option_map tie) none)

pub same-fault : (v c : World) (q : Path) → face (v.body q) ≡ face (c.body q) → fault_at v q ≡ fault_at c q
same-fault v c q same = ap (λ (f : Face). f.fault) same
