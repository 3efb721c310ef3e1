-- The rows of objects, of state, of talks and of faults, and those of native servers, touch pointers once.
use Rattle.std.proofs.Common.{◌≡◌, ℕ, Bool, true, false, if◌then◌else◌, ◌&&◌, ◌==◌, is_some, List, [], ◌∷◌, ◌++◌, map, Option, Some, None, refl, inl, inr}
use Rattle.std.proofs.lemmas.Bool.{cases_Bool}
use Rattle.fk_model.specs.declared.thread.Turn.{Turn}
use Rattle.fk_model.specs.declared.thread.Turn.TheVariants as turns
use Rattle.fk_model.specs.Places.{Path, same_path, parent}
use Rattle.fk_model.specs.Objects.{Thread, Talk, Body, thread_of, and_then, holds}
use Rattle.fk_model.specs.Objects.Body.{Mutex, Mapping, Region, Port, Thread_of}
use Rattle.fk_model.specs.World.{World, Change}
use Rattle.fk_model.specs.World.Change.{Alter, Make, MakeSpace}
use Rattle.fk_model.specs.World.Edit.{SetTalk}
use Rattle.fk_model.specs.Searches.{client_at}
use Rattle.fk_model.specs.Reach.{words_at}
use Rattle.fk_model.specs.Holds.{is_free}
use Rattle.fk_model.specs.Outcomes.{Outcome, Caller, path_of, done}
use Rattle.fk_model.specs.Talks.{Line, ends_beyond, receiving, same_side}
use Rattle.fk_model.specs.LinkRows.{Candidate, candidate, takes_candidate, takes_picked, wait, connect, end_all, removes, disconnect}
use Rattle.fk_model.specs.LinkRows.Candidate.{Faulting, Connecting, Resuming}
use Rattle.fk_model.specs.FaultRows.{frees, fault_done}
use Rattle.fk_model.specs.SpaceRows.{space_hold, space_release}
use Rattle.fk_model.specs.Records.{set_edits}
use Rattle.fk_model.specs.StateRows.{shows, shows_to, get_state, sets_record, record_at, sets_from, set_state, get_ptr, set_ptr}
use Rattle.fk_model.specs.ObjectRows.{new_object, create, ends_with, kills, destroys, destroy, rename, search as search_row, point, clear, locate}
use Rattle.fk_model.specs.NativeRows.{takes_up, parked_here, connects_here, accepts_thread, accepts_found, takes_client, accept_row, is_serving_port}
use Rattle.fk_model.specs.NativeRows.{if_receiving, gives_words, gives_to, give_row, over_row, with_client, passes_client}
use Rattle.laws_moves.specs.Frozen.Once.{is_bare, IsFaultless, TouchOnce}
use Rattle.laws_moves.proofs.InFrozen.once.Outcomes.{OnceOutcome, waits, goes, then-once, mild-end_all, once-when, once-if, once-done, once-done_at, once-ended}
use Rattle.laws_moves.proofs.InFrozen.once.Outcomes.{once-stays, once-telling, once_row, own_page-once, their_page-once}

-- ---- objects

-- a new object, or a new space
data IsNew (x : Path) : Change → Type 0 where
  Object : (body : Body) → is_bare body ≡ true → IsNew x (Make x body)
  NewSpace : IsNew x (MakeSpace x None)

abbrev IfNew : Path → Option Change → Type 0
IfNew x None = Unit {0}
IfNew x (Some change) = IsNew x change

pick-new : (x : Path) (t : Bool) (change : Change) (rest : Option Change) → IsNew x change → IfNew x rest → IfNew x (if t then Some change else rest)
pick-new x true change rest here others = here
pick-new x false change rest here others = others

new_object-new : (x : Path) (kind : ℕ) → IfNew x (new_object x kind)
new_object-new x kind =
    pick-new x (kind == 1) _ _ (Object _ refl) (pick-new x (kind == 2) _ _ (Object _ refl) (pick-new x (kind == 3) _ _ (Object _ refl)
    (pick-new x (kind == 4) _ _ (Object _ refl) (pick-new x (kind == 5) _ _ (Object _ refl) (pick-new x (kind == 6) _ _ (Object _ refl)
    (pick-new x (kind == 7) _ _ NewSpace (pick-new x (kind == 8) _ _ (Object _ refl) (pick-new x (kind == 9) _ None (Object _ refl) tt))))))))

nothing-there : {A : Type 0} (o : Option A) → is_some o ≡ false → o ≡ None
nothing-there None free = refl
nothing-there (Some a) free = cc

new-goes : (w : World) (c : Caller) (x : Path) (made : Change) → w.body x ≡ None → IsNew x made → OnceOutcome w (done c (made ∷ []) [])
new-goes w c x _ empty (Object body bare) = once-done w c (Make x body ∷ []) [] ((empty, bare), tt)
new-goes w c x _ empty NewSpace = once-done w c (MakeSpace x None ∷ []) [] (empty, tt)

create-goes : (w : World) (c : Caller) (x : Path) (kind : ℕ) (made : Change) → new_object x kind ≡ Some made → is_some (w.body x) ≡ false →
    OnceOutcome w (done c (made ∷ []) [])
create-goes w c x kind made new free = let its = new_object-new x kind in new-goes w c x made (nothing-there _ free) (rw new at its)

pub create-once : (w : World) (c : Caller) (s x kind : ℕ) → OnceOutcome w (create w c s x kind)
unfolding create
create-once w c s x kind = search (once_row, create-goes) depth 9

destroys-once : (w : World) (c : Caller) (x gone : Path) → OnceOutcome w (destroys w c x gone)
destroys-once w c x gone = once-telling w _ _ (once-if w (same_path gone x) _ _ (once-done w c (kills w gone) [] once) (once-stays w c (kills w gone) once))
  where
    once : TouchOnce w (kills w gone)
    once = (tt, mild-end_all (ends_with w gone (w.body gone)))

pub destroy-once : (w : World) (c : Caller) (s x : ℕ) → OnceOutcome w (destroy w c s x)
unfolding destroy
destroy-once w c s x = search (once_row, destroys-once) depth 9

pub rename-once : (w : World) (c : Caller) (s x y : ℕ) → OnceOutcome w (rename w c s x y)
unfolding rename
rename-once w c s x y = search (once_row, once-done_at) depth 12

pub point-once : (w : World) (c : Caller) (s x s2 x2 : ℕ) → OnceOutcome w (point w c s x s2 x2)
unfolding point
point-once w c s x s2 x2 = search (once_row, once-done) depth 9

pub clear-once : (w : World) (c : Caller) (s x : ℕ) → OnceOutcome w (clear w c s x)
unfolding clear
clear-once w c s x = search (once_row, once-done) depth 9

pub search_row-once : (w : World) (c : Caller) (s from : ℕ) → OnceOutcome w (search_row w c s from)
unfolding search_row
search_row-once w c s from = search (once_row, once-done)

pub locate-once : (w : World) (c : Caller) (reference s : ℕ) → OnceOutcome w (locate w c reference s)
unfolding locate
locate-once w c reference s = search (once_row, once-done) depth 9

-- ---- holds

pub space_hold-once : (w : World) (c : Caller) (s x : ℕ) → OnceOutcome w (space_hold w c s x)
unfolding space_hold
space_hold-once w c s x = search (once_row, once-done) depth 9

pub space_release-once : (w : World) (c : Caller) (s x : ℕ) → OnceOutcome w (space_release w c s x)
unfolding space_release
space_release-once w c s x = search (once_row, once-done) depth 9

-- ---- state

shows_to-once : (w : World) (c : Caller) (b : Body) (address : ℕ) → IsFaultless w (path_of c) → OnceOutcome w (shows_to w c b address)
shows_to-once w c b address clean =
    once-if w c.is_porter _ _ (once-done w c [] _ tt) (own_page-once w c address true (shows w c b address) clean (λ s page. once-done w c _ [] tt))

pub get_state-once : (w : World) (c : Caller) (s x address : ℕ) → IsFaultless w (path_of c) → OnceOutcome w (get_state w c s x address)
unfolding get_state
get_state-once w c s x address clean = search (once_row, shows_to-once)

edits-once : (w : World) (x : Path) (b : Body) (words : List ℕ) → TouchOnce w (map (Alter x) (set_edits b words))
edits-once w x (Mutex locked) words = tt
edits-once w x (Mapping m) words = tt
edits-once w x (Region r) words = tt
edits-once w x (Port set served) words = tt
edits-once w x (Thread_of t) words = tt
edits-once w x b words = tt

sets-once : (w : World) (c : Caller) (space x : Path) (b : Body) (words : List ℕ) → OnceOutcome w (sets_record w c space x b words)
sets-once w c space x b words = search (once_row, once-done, edits-once)

sets_from-once : (w : World) (c : Caller) (space x : Path) (b : Body) (address : ℕ) → IsFaultless w (path_of c) →
    OnceOutcome w (sets_from w c space x b address)
sets_from-once w c space x b address clean = once-if w c.is_porter _ _ (sets-once w c space x b c.words)
    (own_page-once w c address false (λ t page. sets_record w c space x b (record_at (words_at w t page) address)) clean (λ t page. sets-once w c space x b _))

pub set_state-once : (w : World) (c : Caller) (s x address : ℕ) → IsFaultless w (path_of c) → OnceOutcome w (set_state w c s x address)
unfolding set_state
set_state-once w c s x address clean = search (once_row, sets_from-once) depth 9

pub get_ptr-once : (w : World) (c : Caller) (s x field reference : ℕ) → OnceOutcome w (get_ptr w c s x field reference)
unfolding get_ptr
get_ptr-once w c s x field reference = search (once_row, once-done) depth 9

pub set_ptr-once : (w : World) (c : Caller) (s x field reference : ℕ) → OnceOutcome w (set_ptr w c s x field reference)
unfolding set_ptr
set_ptr-once w c s x field reference = search (once_row, once-done) depth 12

-- ---- talks and faults

takes-once : (w : World) (c : Caller) (x : Path) (o : Option Candidate) → OnceOutcome w (takes_candidate c x o)
takes-once w c x None = waits
takes-once w c x (Some (Faulting slot fault)) = once-ended w c _ _ (tt, tt)
takes-once w c x (Some (Connecting slot)) = once-done w c _ _ (tt, (refl, tt))
takes-once w c x (Some (Resuming slot talk)) = once-ended w c _ _ (tt, tt)

takes_picked-once : (w : World) (c : Caller) (set : ℕ) (pick : Option Path) → OnceOutcome w (takes_picked w c set pick)
takes_picked-once w c set None = waits
takes_picked-once w c set (Some x) = takes-once w c x (candidate w c.space set x)

pub wait-once : (w : World) (c : Caller) (pick : Option Path) (set : ℕ) → OnceOutcome w (wait w c pick set)
unfolding wait
wait-once w c pick set = search (once_row, takes_picked-once)

pub connect-once : (w : World) (c : Caller) (h : ℕ) → OnceOutcome w (connect w c h)
unfolding connect
connect-once w c h = search once_row

removes-once : (w : World) (c : Caller) (side : Turn) (l : Line) → OnceOutcome w (removes w c side l)
removes-once w c side l = once-telling w _ _ (once-done w c (end_all (ends_beyond w side l) ++ Alter l.client (SetTalk None) ∷ []) []
    (then-once w (end_all (ends_beyond w side l)) (Alter l.client (SetTalk None) ∷ []) (mild-end_all (ends_beyond w side l)) (tt, tt)))

pub disconnect-once : (w : World) (c : Caller) (side : Turn) → OnceOutcome w (disconnect w c side)
unfolding disconnect
disconnect-once w c side = search (once_row, removes-once)

frees-once : (w : World) (c : Caller) (x : Path) → OnceOutcome w (frees w c x)
frees-once w c x = search (once_row, once-done)

pub fault_done-once : (w : World) (c : Caller) → OnceOutcome w (fault_done w c)
unfolding fault_done
fault_done-once w c = search (once_row, frees-once)

-- ---- native servers

takes_up-once : (w : World) (port x : Path) (o : Option Talk) → OnceOutcome w (takes_up port x o)
takes_up-once w port x None = waits
takes_up-once w port x (Some talk) = goes (tt, tt)

accepts_thread-once : (w : World) (port x : Path) (t : Thread) → OnceOutcome w (accepts_thread w port x t)
accepts_thread-once w port x t = once-if w (connects_here w port x t) _ _ (goes (tt, (refl, tt))) (takes_up-once w port x (parked_here port t))

accepts_found-once : (w : World) (port x : Path) (o : Option Thread) → OnceOutcome w (accepts_found w port x o)
accepts_found-once w port x None = waits
accepts_found-once w port x (Some t) = search (once-when, accepts_thread-once)

takes_client-once : (w : World) (port : Path) (pick : Option Path) → OnceOutcome w (takes_client w port pick)
takes_client-once w port None = waits
takes_client-once w port (Some x) = accepts_found-once w port x (and_then thread_of (w.body x))

pub accept_row-once : (w : World) (port : Path) (pick : Option Path) → OnceOutcome w (accept_row w port pick)
unfolding accept_row
accept_row-once w port pick = once-when w _ (takes_client w port pick) (λ e. takes_client-once w port pick)

-- what an option is
data Is {A : Type 0} (o : Option A) : Type 0 where
  Absent : o ≡ None → Is o
  Present : (a : A) → o ≡ Some a → Is o

is : {A : Type 0} (o : Option A) → Is o
is None = Absent refl
is (Some a) = Present a refl

if_receiving-once : (w : World) (x : Path) (go : Path → ℕ × ℕ → Outcome) (t : Thread) →
    ((x : Path) (space : ℕ × ℕ) → OnceOutcome w (go x space)) → OnceOutcome w (if_receiving w x go t)
if_receiving-once w x go t going = elim (cases_Bool (is_free w (parent x) t && holds (λ (talk : Talk). same_side talk.turn turns.Server) t.talk)) [
  | inr off ↦ rw off waits
  | inl on ↦ rw on (elim (is (receiving w (parent x) turns.Client t.mode)) [ Absent e ↦ rw e waits | Present space e ↦ rw e (going x space) ])
]

with_client-once : (w : World) (port : Path) (go : Path → ℕ × ℕ → Outcome) →
    ((x : Path) (space : ℕ × ℕ) → OnceOutcome w (go x space)) → OnceOutcome w (with_client w port go)
with_client-once w port go going = elim (cases_Bool (is_serving_port w port)) [
  | inr off ↦ rw off waits
  | inl on ↦ rw on (elim (is (client_at w port)) [
    | Absent e ↦ rw e waits
    | Present x e ↦ rw e (elim (is (and_then thread_of (w.body x))) [ Absent e2 ↦ rw e2 waits | Present t e2 ↦ rw e2 (if_receiving-once w x go t going) ])
  ])
]

gives_to-once : (w : World) (port : Path) (words : List ℕ) (x : Path) (receive : ℕ × ℕ) → OnceOutcome w (gives_to w port words x receive)
gives_to-once w port words x receive = once-if w (receive.1 == 0) _ _ (goes tt)
    (their_page-once w (parent x) receive.0 (gives_words w port x words receive.0 receive.1) (λ s page. goes tt))

pub give_row-once : (w : World) (port : Path) (words : List ℕ) → OnceOutcome w (give_row w port words)
unfolding give_row
give_row-once w port [] = search (once-when, goes)
give_row-once w port (word ∷ words) = with_client-once w port (gives_to w port (word ∷ words)) (gives_to-once w port (word ∷ words))

pub over_row-once : (w : World) (port : Path) → OnceOutcome w (over_row w port)
unfolding over_row
over_row-once w port = with_client-once w port (passes_client w port) (λ x receive. goes tt)
