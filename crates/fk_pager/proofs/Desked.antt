-- Moves that don't peek leave a pager its porter, its set and its port, and give its porter no talk.
use Rattle.std.proofs.Common.{◌≡◌, ℕ, Bool, true, false, cond, List, [], ◌∷◌, ◌++◌, map, Option, Some, None, option_map, refl, sym, ap, subst, ◌∙◌}
use Rattle.fk_model.specs.declared.moves.Ask.{Ask}
use Rattle.fk_model.specs.declared.stage.Stage.{Stage}
use Rattle.fk_model.specs.Places.{Path, same_path, parent, slot_of}
use Rattle.fk_model.specs.Objects.{Mode, Talk, Thread, Body, port_of, thread_of, and_then, holds}
use Rattle.fk_model.specs.Objects.Mode.{Calling}
use Rattle.fk_model.specs.Objects.Body.{Mutex, Mapping, Region, Port, Space, Thread_of, Reference}
use Rattle.fk_model.specs.World.{World, Change, Edit, serves, edited, apply, apply_all, ended_in, finished_in}
use Rattle.fk_model.specs.World.Change.{Alter, Make, MakeSpace, Kill, Move, PutPage, DropPage}
use Rattle.fk_model.specs.World.Edit.{SetLocked, SetWindow, SetExtent, SetMember, SetPointer, SetHolder, Finish, End, SetTalk, CountMoved, PassTurn, SetPeer}
use Rattle.fk_model.specs.World.Edit.{SetTaker}
use Rattle.fk_model.specs.Outcomes.{Outcome, Caller, path_of, listed}
use Rattle.fk_model.specs.Records.{set_edits}
use Rattle.fk_model.specs.LinkRows.{portset_of, user_at}
use Rattle.fk_model.specs.Moves.{stepped, step, outcome, is_for_porters}
use Rattle.fk_model.proofs.walks.PlaceLaws.{same_path_sym}
use Rattle.laws_moves.specs.Rows.Stages.{Sets, Work, Step}
use Rattle.laws_moves.specs.Rows.Stages.Sets.{Locks, Resumes, Takes_fault, Restores_talk, Parks_talk}
use Rattle.laws_moves.specs.Rows.Stages.Work.{Looks, Edits, Makes, Kills, Sets_record, Copies, Sleeps, Wakes_all}
use Rattle.laws_moves.specs.Rows.Stages.Work.{Takes_client, Hangs_up, Sends, Sends_service, Passes, Hands_over}
use Rattle.laws_moves.specs.Rows.Stages.Step.{Is_refused, Is_waiting, Raises, Answers, Stays, Finishes, Ends}
use Rattle.laws_moves.specs.Rows.Moves.{Instructs, Serves, Lists}
use Rattle.laws_moves.specs.Rows.Moves.Instructs.{Stores}
use Rattle.laws_moves.specs.Rows.Moves.Serves.{Waits_for_client, Accepts, Takes_up, Gives_nothing, Finds_no_room, Gives_words, Passes_client}
use Rattle.laws_moves.specs.Rows.Moves.Lists.{Moves_not, Runs, Calls, Is_told_no, Asks, Is_answered_no, Acts}
use Rattle.laws_moves.proofs.InRows.Walk.{new_all, drops-all, ends-all, ends-then, sleepers-all}
use Rattle.laws_moves.proofs.InRows.Moves.{moves-listed}
use Rattle.laws_filled.specs.Filled.{Paging, peeks, IsPaging}
use Rattle.laws_filled.specs.Laws.{is_others}
use Rattle.laws_filled.proofs.Changes.{is_tame, AreTame}
use Rattle.laws_filled.proofs.Moves.{outcome-seen}
use Rattle.laws_filled.proofs.Rows.{Seen}
use Rattle.laws_filled.proofs.Rows.Seen.{Waiting, Refusing, Raising, Going}

-- ---- what a change gives a thread to serve, and which fault to take

abbrev pub IsApartEdit : Path → Edit → Type 0
IsApartEdit me (SetTalk (Some talk)) = serves me talk.peer ≡ false
IsApartEdit me (SetPeer peer) = serves me peer ≡ false
IsApartEdit me (SetTaker taker) = holds (serves me) taker ≡ false
IsApartEdit me other = Unit {0}

abbrev pub IsApart : Path → Change → Type 0
IsApart me (Alter x edit) = IsApartEdit me edit
IsApart me other = Unit {0}

abbrev pub AreApart : Path → List Change → Type 0
AreApart me [] = Unit {0}
AreApart me (c ∷ cs) = IsApart me c × AreApart me cs

module _ (me : Path) where
  apart-then : (cs ds : List Change) → AreApart me cs → AreApart me ds → AreApart me (cs ++ ds)
  apart-then [] ds apart after = after
  apart-then (c ∷ cs) ds apart after = (apart.0, apart-then cs ds apart.1 after)

  edits-apart : (x : Path) (b : Body) (words : List ℕ) → AreApart me (map (Alter x) (set_edits b words))
  edits-apart x (Mutex locked) words = (tt, tt)
  edits-apart x (Mapping m) words = (tt, tt)
  edits-apart x (Region r) words = (tt, tt)
  edits-apart x (Port set served) words = (tt, tt)
  edits-apart x (Thread_of t) words = (tt, (tt, tt))
  edits-apart x b words = tt

  module _ (w : World) (c : Caller) (pick : Option Path) (other : same_path (path_of c) me ≡ false) where
    sets : {stage : Stage} {x : Path} {edit : Edit} {answers : List ℕ} → is_for_porters stage ≡ false → Sets w c pick stage x edit answers →
        IsApartEdit me edit
    sets off (Locks stage m was locked read) = tt
    sets off (Resumes set slot x talk idle at) = other
    sets off (Takes_fault set slot x fault idle at) = other
    sets off (Restores_talk s x port server space t at thread read there led named free) = cc
    sets off (Parks_talk s x port space t was read there its free) = cc
    sets off rest = tt

    work : {stage : Stage} {cs : List Change} {answers : List ℕ} → is_for_porters stage ≡ false → Work w c pick stage cs answers → AreApart me cs
    work off (Looks stage answers reads) = tt
    work off (Edits stage x edit answers edits) = (sets off edits, tt)
    work off (Makes s x j kind space made place slot free new there) =
        new_all (λ made. AreApart me (made ∷ [])) (x ∷ space) kind made new
        (tt, tt) (tt, tt) (tt, tt) (tt, tt) (tt, tt) (tt, tt) (tt, tt) (tt, tt) (tt, tt)
    work off (Kills s x space b place read free apart leaf) = (tt, ends-all (AreApart me) tt (λ y cs rest. (tt, rest)) _)
    work off (Sets_record s x address space b words place read free none good from still takes) = edits-apart (x ∷ space) b words
    work off (Copies stage s page address space t own drops words place there home) =
        (tt, drops-all (AreApart me) space page tt (tt, tt) drops)
    work off (Wakes_all at) = sleepers-all (AreApart me) w c.space at tt (λ x m cs asleep rest. (tt, rest))
    work off (Takes_client set slot x idle at) = (other, (tt, tt))
    work off (Hangs_up stage side l at) = ends-then (AreApart me) (Alter l.client (SetTalk None) ∷ []) (tt, tt) (λ y cs rest. (tt, rest)) _
    work off (Sends stage side l address count receive thread e s own t to here at led free is home theirs) = (tt, (tt, (tt, (tt, tt))))
    work off (Sends_service stage side l address count here at) = (tt, (tt, tt))
    work off (Sleeps cond m) = (tt, (tt, tt))
    work off (Passes stage side l thread e to carried here at led free awaits) = (tt, (tt, tt))
    work off (Hands_over stage side l thread e k reference p here at led free awaits there read may) = (tt, (tt, (tt, tt)))
    work off rest = (tt, tt)

    stage-apart : {stage : Stage} {o : Outcome} → is_for_porters stage ≡ false → Step w c pick stage o → AreApart me (listed o)
    stage-apart off (Is_refused status) = tt
    stage-apart off Is_waiting = tt
    stage-apart off (Raises s page address write port missing) = (tt, tt)
    stage-apart off (Answers cs answers porter its) = work off its
    stage-apart off (Stays cs said its) = work off its
    stage-apart off (Finishes cs answers at said user own its) = apart-then cs _ (work off its) (tt, tt)
    stage-apart off (Ends cs answers user its) = apart-then cs _ (work off its) (tt, tt)

  instructs : (w : World) (space : Path) (slot : ℕ) (g : List ℕ) (counter : ℕ) (o : Outcome) → Instructs w space slot g counter o → AreApart me (listed o)
  instructs w space slot g counter _ (Stores address value s page home) = (tt, (tt, tt))
  instructs w space slot g counter _ rest = (tt, tt)

  acts : (w : World) (port : Path) (pick : Option Path) (ask : Ask) (o : Outcome) → Serves w port pick ask o → AreApart me (listed o)
  acts w port pick _ _ (Waits_for_client ask) = tt
  acts w port pick _ _ (Accepts x t service there free at) = (refl, (tt, tt))
  acts w port pick _ _ (Takes_up x t talk service there free at) = (refl, tt)
  acts w port pick _ _ (Gives_nothing words len) = tt
  acts w port pick _ _ (Finds_no_room words len x t receive there is full) = (tt, tt)
  acts w port pick _ _ (Gives_words words len x t receive s page there is home) = (tt, (tt, (tt, tt)))
  acts w port pick _ _ (Passes_client x to at awaits) = (tt, (tt, tt))

  pub lists : (w : World) (x : Path) (pick : Option Path) (ask : Ask) (o : Outcome) → is_others ask ≡ true → same_path (slot_of x ∷ parent x) me ≡ false →
      Lists w x pick ask o → AreApart me (listed o)
  lists w x pick _ _ is off (Moves_not ask) = tt
  lists w x pick _ _ is off (Runs t g o there free at by) = instructs w _ _ g t.counter o by
  lists w x pick _ _ is off (Calls t stage todo rest cs said there free at user by) = stage-apart w (user_at x) pick off user by
  lists w x pick _ _ is off (Is_told_no t stage todo rest status there free at) = (tt, tt)
  lists w x pick _ _ is off (Asks t stage words cs said there unheld porter by) = cc
  lists w x pick _ _ is off (Is_answered_no t stage words status there) = tt
  lists w x pick _ _ is off (Acts ask o by) = acts w x pick ask o by

  -- ---- what is left by edits

  abbrev talk_of : Option Body → Option Talk
  talk_of o = and_then (λ (t : Thread). t.talk) (and_then thread_of o)

  abbrev Serveless : Option Talk → Type 0
  Serveless o = holds (λ (talk : Talk). serves me talk.peer) o ≡ false

  abbrev IsTalkless : Option Body → Type 0
  IsTalkless o = Serveless (talk_of o)

  ended-talk : (status : ℕ) (answers : List ℕ) (t : Thread) (mode : Mode) → (ended_in status answers t mode).talk ≡ t.talk
  ended-talk status answers t (Calling todo rest) = refl
  ended-talk status answers t mode = refl

  finished-talk : (answers : List ℕ) (t : Thread) (mode : Mode) → (finished_in answers t mode).talk ≡ t.talk
  finished-talk answers t (Calling [] rest) = refl
  finished-talk answers t (Calling (stage ∷ []) rest) = refl
  finished-talk answers t (Calling (stage ∷ next_stage ∷ todo) rest) = refl
  finished-talk answers t mode = refl

  same-peer : (f : Talk → Talk) (o : Option Talk) → ((talk : Talk) → (f talk).peer ≡ talk.peer) → Serveless o → Serveless (option_map f o)
  same-peer f None same none = refl
  same-peer f (Some talk) same none = ap (serves me) (same talk) ∙ none

  new-peer : (f : Talk → Talk) (o : Option Talk) → ((talk : Talk) → serves me (f talk).peer ≡ false) → Serveless (option_map f o)
  new-peer f None none = refl
  new-peer f (Some talk) none = none talk

  talkless-edited : (edit : Edit) (b : Body) → IsApartEdit me edit → IsTalkless (Some b) → IsTalkless (Some (edited edit b))
  unfolding edited
  talkless-edited (SetTalk None) (Thread_of t) apart none = refl
  talkless-edited (SetTalk (Some talk)) (Thread_of t) apart none = apart
  talkless-edited (SetPeer peer) (Thread_of t) apart none = new-peer _ t.talk (λ talk. apart)
  talkless-edited (CountMoved count) (Thread_of t) apart none = same-peer _ t.talk (λ talk. refl) none
  talkless-edited (PassTurn turn) (Thread_of t) apart none = same-peer _ t.talk (λ talk. refl) none
  talkless-edited (Finish answers) (Thread_of t) apart none = subst Serveless (sym (finished-talk answers t t.mode)) none
  talkless-edited (End status answers) (Thread_of t) apart none = subst Serveless (sym (ended-talk status answers t t.mode)) none
  talkless-edited (SetLocked locked) (Mutex old) apart none = refl
  talkless-edited (SetWindow first count offset write) (Mapping m) apart none = refl
  talkless-edited (SetExtent first count write) (Region r) apart none = refl
  talkless-edited (SetMember set) (Port old served) apart none = refl
  talkless-edited (SetPointer to) (Reference old) apart none = refl
  talkless-edited (SetPointer to) (Mapping m) apart none = refl
  talkless-edited (SetPointer to) (Region r) apart none = refl
  talkless-edited (SetHolder holder) (Space birth old) apart none = refl
  talkless-edited edit (Thread_of t) apart none = none
  talkless-edited edit b apart none = none

  abbrev sets_member : Edit → Bool
  sets_member (SetMember set) = true
  sets_member rest = false

  port-edited : (edit : Edit) (b : Body) → sets_member edit ≡ false → port_of (edited edit b) ≡ port_of b
  unfolding edited
  port-edited (SetLocked locked) (Mutex old) off = refl
  port-edited (SetWindow first count offset write) (Mapping m) off = refl
  port-edited (SetExtent first count write) (Region r) off = refl
  port-edited (SetMember set) b off = cc
  port-edited (SetPointer to) (Reference old) off = refl
  port-edited (SetPointer to) (Mapping m) off = refl
  port-edited (SetPointer to) (Region r) off = refl
  port-edited (SetHolder holder) (Space birth old) off = refl
  port-edited edit (Thread_of t) off = refl
  port-edited edit b off = refl

  set-edited : (edit : Edit) (b : Body) → portset_of (edited edit b) ≡ portset_of b
  unfolding edited
  set-edited (SetLocked locked) (Mutex old) = refl
  set-edited (SetWindow first count offset write) (Mapping m) = refl
  set-edited (SetExtent first count write) (Region r) = refl
  set-edited (SetMember set) (Port old served) = refl
  set-edited (SetPointer to) (Reference old) = refl
  set-edited (SetPointer to) (Mapping m) = refl
  set-edited (SetPointer to) (Region r) = refl
  set-edited (SetHolder holder) (Space birth old) = refl
  set-edited edit (Thread_of t) = refl
  set-edited edit b = refl

  -- ---- what is left by moves

  -- ports are in their sets, sets are there, and the thread serves no talk
  pub record Leaves (w v : World) : Type 0 where
    pub ports : (q : Path) → and_then port_of (v.body q) ≡ and_then port_of (w.body q)
    pub sets : (q : Path) → and_then portset_of (v.body q) ≡ and_then portset_of (w.body q)
    pub talkless : ((q : Path) → IsTalkless (w.body q)) → (q : Path) → IsTalkless (v.body q)

  leaves-all : (w : World) → Leaves w w
  leaves-all w = record { ports = λ q. refl; sets = λ q. refl; talkless = λ none. none }

  leaves-then : (u v w : World) → Leaves u v → Leaves v w → Leaves u w
  leaves-then u v w a b = record {
    ports = λ q. b.ports q ∙ a.ports q;
    sets = λ q. b.sets q ∙ a.sets q;
    talkless =
        λ none. b.talkless (a.talkless none);
  }

  view-altered : {A : Type 0} (view : Body → Option A) (edit : Edit) (o : Option Body) → ((b : Body) → view (edited edit b) ≡ view b) →
      and_then view (option_map (edited edit) o) ≡ and_then view o
  view-altered view edit None same = refl
  view-altered view edit (Some b) same = same b

  talk-altered : (edit : Edit) (o : Option Body) → IsApartEdit me edit → IsTalkless o → IsTalkless (option_map (edited edit) o)
  talk-altered edit None apart none = refl
  talk-altered edit (Some b) apart none = talkless-edited edit b apart none

  altered : (w : World) (x : Path) (edit : Edit) → sets_member edit ≡ false → IsApartEdit me edit → Leaves w (apply (Alter x edit) w)
  unfolding apply
  altered w x edit off apart = record {
    ports = λ q. by-port (same_path q x) q;
    sets = λ q. by-set (same_path q x) q;
    talkless = λ none q. by-talk (same_path q x) q (none q);
  }
    where
      by-port : (m : Bool) (q : Path) → and_then port_of (cond m (option_map (edited edit) (w.body q)) (w.body q)) ≡ and_then port_of (w.body q)
      by-port true q = view-altered port_of edit (w.body q) (λ b. port-edited edit b off)
      by-port false q = refl

      by-set : (m : Bool) (q : Path) → and_then portset_of (cond m (option_map (edited edit) (w.body q)) (w.body q)) ≡ and_then portset_of (w.body q)
      by-set true q = view-altered portset_of edit (w.body q) (set-edited edit)
      by-set false q = refl

      by-talk : (m : Bool) (q : Path) → IsTalkless (w.body q) → IsTalkless (cond m (option_map (edited edit) (w.body q)) (w.body q))
      by-talk true q none = talk-altered edit (w.body q) apart none
      by-talk false q none = none

  tame-member : (p : Paging) (w : World) (x : Path) (edit : Edit) → is_tame p w (Alter x edit) ≡ true → sets_member edit ≡ false
  tame-member p w x (SetMember set) tame = cc
  tame-member p w x edit tame = refl

  one-left : (p : Paging) (w : World) (c : Change) → is_tame p w c ≡ true → IsApart me c → Leaves w (apply c w)
  unfolding apply
  one-left p w (Alter x edit) tame apart = altered w x edit (tame-member p w x edit tame) apart
  one-left p w (PutPage space page words) tame apart = record { ports = λ q. refl; sets = λ q. refl; talkless = λ none. none }
  one-left p w (Make x body) tame apart = cc
  one-left p w (MakeSpace x holder) tame apart = cc
  one-left p w (Kill x) tame apart = cc
  one-left p w (Move x slot) tame apart = cc
  one-left p w (DropPage space page) tame apart = cc

  all-left : (p : Paging) (w : World) (cs : List Change) → AreTame p w cs → AreApart me cs → Leaves w (apply_all cs w)
  unfolding apply_all
  all-left p w [] tame apart = leaves-all w
  all-left p w (c ∷ cs) tame apart =
      leaves-then w (apply c w) (apply_all cs (apply c w)) (one-left p w c tame.0 apart.0) (all-left p (apply c w) cs tame.1 apart.1)

  outcome-leaves : (p : Paging) (w : World) (raiser : Path) (o o' : Outcome) → Seen p w raiser o o' → AreApart me (listed o) → Leaves w (stepped w o).world
  unfolding apply_all
  outcome-leaves p w raiser _ o' Waiting apart = leaves-all w
  outcome-leaves p w raiser _ _ Refusing apart = leaves-all w
  outcome-leaves p w raiser _ o' (Raising paged new) apart = altered w raiser _ refl tt
  outcome-leaves p w raiser _ _ (Going tame) apart = all-left p w _ tame apart

-- a move of another that doesn't peek leaves all that
pub others-leave : (p : Paging) (w : World) (k : ℕ) (s : Path) (pick : Option Path) (ask : Ask) → IsPaging p w → same_path p.porter (k ∷ s) ≡ false →
    is_others ask ≡ true → peeks p w (k ∷ s) ask ≡ false → Leaves p.porter w (step w (k ∷ s) pick ask).world
unfolding step
others-leave p w k s pick ask paging other others dark =
    outcome-leaves p.porter p w _ (outcome w (k ∷ s) pick ask) _ (outcome-seen p w paging (k ∷ s) pick ask others dark other)
    (lists p.porter w (k ∷ s) pick ask _ others (same_path_sym (k ∷ s) p.porter ∙ other) (moves-listed w (k ∷ s) pick ask))
