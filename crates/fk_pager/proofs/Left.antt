-- Where a pager has no call to make at the end of a run without peeks, no fault of its own is left.
use Rattle.std.proofs.Common.{◌≡◌, ℕ, ◌≤◌, Bool, true, false, not, ◌==◌, is_some, List, [], ◌∷◌, Option, Some, None, option_map, refl, sym, ap, subst, ◌∙◌, eqb-true}
use Rattle.std.specs.Prelude.{find}
use Rattle.std.proofs.lemmas.Bool.{and_parts, le-leb}
use Rattle.fk_model.specs.declared.limits.TheConstants.{LAST_PORTER_SLOT, LAST_USER_SLOT}
use Rattle.fk_model.specs.declared.moves.Move.{Move}
use Rattle.fk_model.specs.declared.names.Kind.TheVariants as kinds
use Rattle.fk_model.specs.Places.{Path}
use Rattle.fk_model.specs.Objects.{Talk, Thread, Body, kind_of, port_of, thread_of, and_then, holds}
use Rattle.fk_model.specs.Objects.Body.{Mutex, Cond, Mapping, Region, Port, Portset, Space, Thread_of, Reference}
use Rattle.fk_model.specs.World.{World, serves}
use Rattle.fk_model.specs.Searches.{client_of, objects}
use Rattle.fk_model.specs.Holds.{is_porter}
use Rattle.fk_model.specs.StateRows.{is_native}
use Rattle.fk_model.specs.LinkRows.{is_member, portset_of}
use Rattle.fk_model.specs.Moves.{step}
use Rattle.fk_model.specs.Runs.{after}
use Rattle.fk_model.specs.Valid.{kind_there, all_in, is_good, is_one_of, IsValid}
use Rattle.fk_model.specs.Who.{named, event_of}
use Rattle.laws_filled.specs.Filled.{Paging, filled, unfaulted}
use Rattle.laws_filled.specs.Pager.{Desk, State, paging, hears, said_of, HasTaken, first}
use Rattle.laws_filled.specs.Pager.IsPaged.{Here as Nobody_moves, Another as Another_moves, Own as Pager_moves}
use Rattle.laws_filled.proofs.Own.{own}
use Rattle.laws_filled.proofs.Taken.{pagers_take_one_lem, no_fault_is_left_lem}
use Rattle.fk_pager.specs.Desks.{root, desk_of_root}
use Rattle.fk_pager.specs.Unseen.{IsBeginning}
use Rattle.fk_pager.specs.Left.{IsQuiet, RunsLeaveNone}
use Rattle.fk_pager.specs.Runs.{Moment, pagers_event, IsRun, is_dark, struck}
use Rattle.fk_pager.specs.Runs.IsRun.{Begins, Others, Own}
use Rattle.fk_pager.proofs.Desked.{Leaves, others-leave}
use Rattle.fk_pager.proofs.Unseen.{is-others, stands, not-true, is_low}

abbrev me : Path
me = LAST_PORTER_SLOT ∷ root

-- ---- what is blind to a pager's faults

port-blind : (p : Paging) (o : Option Body) → and_then port_of (option_map (unfaulted p) o) ≡ and_then port_of o
port-blind p None = refl
port-blind p (Some (Thread_of t)) = refl
port-blind p (Some b) = refl

set-blind : (p : Paging) (o : Option Body) → and_then portset_of (option_map (unfaulted p) o) ≡ and_then portset_of o
set-blind p None = refl
set-blind p (Some (Thread_of t)) = refl
set-blind p (Some b) = refl

abbrev talk_of : Option Body → Option Talk
talk_of o = and_then (λ (t : Thread). t.talk) (and_then thread_of o)

talk-blind : (p : Paging) (o : Option Body) → talk_of (option_map (unfaulted p) o) ≡ talk_of o
talk-blind p None = refl
talk-blind p (Some (Thread_of t)) = refl
talk-blind p (Some b) = refl

-- ---- a port's set is there

pub set-there : (w : World) (port set : ℕ) → IsValid w → is_member set (w.body (port ∷ root)) ≡ true →
    is_some (and_then portset_of (w.body (set ∷ root))) ≡ true
unfolding kind_there
set-there w port set valid member = by (w.body (port ∷ root)) refl member (valid.consistent.good (port ∷ root))
  where
    a-set : (o : Option Body) → is_one_of (kinds.Portset ∷ []) (option_map kind_of o) ≡ true → is_some (and_then portset_of o) ≡ true
    a-set (Some Portset) is = refl
    a-set None is = cc
    a-set (Some (Mutex locked)) is = cc
    a-set (Some Cond) is = cc
    a-set (Some (Mapping m)) is = cc
    a-set (Some (Region r)) is = cc
    a-set (Some (Port its served)) is = cc
    a-set (Some (Space birth holder)) is = cc
    a-set (Some (Thread_of t)) is = cc
    a-set (Some (Reference to)) is = cc

    its-set : (its : Option ℕ) (served : Bool) → holds (λ k. k == set) its ≡ true → is_good (kind_there w) (port ∷ root) (Port its served) ≡ true →
        is_some (and_then portset_of (w.body (set ∷ root))) ≡ true
    its-set None served is good = cc
    its-set (Some k) served is good =
        let same : k ≡ set = eqb-true k set is in
        a-set (w.body (set ∷ root))
        (ap (λ j. is_one_of (kinds.Portset ∷ []) (option_map kind_of (w.body (j ∷ root)))) (sym same) ∙ (and_parts (not served) _ good).1)

    by : (o : Option Body) → w.body (port ∷ root) ≡ o → is_member set o ≡ true → all_in (is_good (kind_there w) (port ∷ root)) o ≡ true →
        is_some (and_then portset_of (w.body (set ∷ root))) ≡ true
    by (Some (Port its served)) e is good = its-set its served is good
    by None e is good = cc
    by (Some (Mutex locked)) e is good = cc
    by (Some Cond) e is good = cc
    by (Some (Mapping m)) e is good = cc
    by (Some (Region r)) e is good = cc
    by (Some Portset) e is good = cc
    by (Some (Space birth holder)) e is good = cc
    by (Some (Thread_of t)) e is good = cc
    by (Some (Reference to)) e is good = cc

-- ---- who serves nobody

find-none : {A : Type 0} (test : A → Bool) (xs : List A) → ((x : A) → test x ≡ false) → find test xs ≡ None
find-none test [] none = refl
find-none test (x ∷ xs) none = rw (none x) (find-none test xs none)

a-porter : (o : Option Body) → holds is_native o ≡ true → holds (λ (t : Thread). is_porter t.mode) (and_then thread_of o) ≡ true
a-porter (Some (Thread_of t)) is = is
a-porter None is = cc
a-porter (Some (Mutex locked)) is = cc
a-porter (Some Cond) is = cc
a-porter (Some (Mapping m)) is = cc
a-porter (Some (Region r)) is = cc
a-porter (Some (Port its served)) is = cc
a-porter (Some Portset) is = cc
a-porter (Some (Space birth holder)) is = cc
a-porter (Some (Reference to)) is = cc

module _ (slot port set room : ℕ) (low : slot ≤ LAST_USER_SLOT) (some : 1 ≤ room) (begun : Moment) (begins : IsBeginning slot port set begun)
    (quiet : IsQuiet set begun.world) where
  abbrev d : Desk
  d = desk_of_root slot port set room

  record IsDesked (at : Moment) : Type 0 where
    pub taken : HasTaken d at.world at.state.phase
    pub there : is_some (and_then portset_of (at.world.body (set ∷ root))) ≡ true
    pub member : is_member set (at.world.body (port ∷ root)) ≡ true
    pub talkless : (q : Path) → holds (λ (talk : Talk). serves me talk.peer) (talk_of (at.world.body q)) ≡ false

  desked-first : IsDesked begun
  unfolding first
  desked-first = record {
    taken = subst (λ (s : State). HasTaken d begun.world s.phase) (sym begins.state) (λ y. let none = begins.clear y in rw none refl);
    there = set-there begun.world port set begins.valid begins.desk.member;
    member = begins.desk.member;
    talkless = λ q. let none = quiet.untalked q in rw none refl;
  }

  by-leaving : (w v : World) → Leaves me w v → is_some (and_then portset_of (w.body (set ∷ root))) ≡ true → is_member set (w.body (port ∷ root)) ≡ true →
      (is_some (and_then portset_of (v.body (set ∷ root))) ≡ true) × (is_member set (v.body (port ∷ root)) ≡ true)
  by-leaving w v leaves there member = (
    ap is_some (leaves.sets (set ∷ root)) ∙ there,
    ap (holds (λ (its : Option ℕ × Bool). holds (λ k. k == set) its.0)) (leaves.ports (port ∷ root)) ∙ member,
  )

  -- a call of the pager's leaves what the filled world doesn't show otherwise
  own-leaves : (p q : Paging) (w v : World) → filled q v ≡ filled p w → Leaves me w v
  own-leaves p q w v same = record {
    ports = λ x. sym (port-blind q (v.body x)) ∙ ap (λ (u : World). and_then port_of (u.body x)) same ∙ port-blind p (w.body x);
    sets = λ x. sym (set-blind q (v.body x)) ∙ ap (λ (u : World). and_then portset_of (u.body x)) same ∙ set-blind p (w.body x);
    talkless = λ none x. ap (holds (λ (talk : Talk). serves me talk.peer))
        (sym (talk-blind q (v.body x)) ∙ ap (λ (u : World). talk_of (u.body x)) same ∙ talk-blind p (w.body x)) ∙ none x;
  }

  desked : (moves : List Move) (at : Moment) (r : IsRun d begun moves at) → is_dark r ≡ true → IsDesked at
  unfolding is_dark step
  desked _ _ Begins dark = desked-first
  desked _ _ (Others past at m ask r move) dark =
      let both = and_parts (is_dark r) _ dark in
      let so = stands slot port set room low some begun begins past at r both.0 in
      let rest = desked past at r both.0 in
      let w = at.world in
      let e = event_of w ask m in
      let is = is-others slot port set room low some begun (struck r) at m ask so move (not-true _ both.1) in
      let leaves = others-leave (paging d at.state) w m.who.slot _ e.pick ask so.good.paging is.other is.asks is.dark in
      let kept = by-leaving w (after w e) leaves rest.there rest.member in
      record {
        taken = pagers_take_one_lem d w at.state (e ∷ []) (after w e) at.state (is_low slot port set room low some) some so.good rest.taken
            (Another_moves w at.state e [] (after w e) at.state is (Nobody_moves (after w e) at.state));
        there = kept.0;
        member = kept.1;
        talkless = leaves.talkless rest.talkless;
      }
  desked _ _ (Own past at m r move) dark =
      let so = stands slot port set room low some begun begins past at r dark in
      let rest = desked past at r dark in
      let w = at.world in
      let pick = option_map (named w) m.pick in
      let e = pagers_event d at m in
      let t = hears d at.state (said_of w e) in
      let comes = own d (is_low slot port set room low some) some w at.state at.state.phase pick so.good move.own.picks move.own.ready in
      let leaves = own-leaves (paging d at.state) (paging d t) w (after w e) comes.0 in
      let kept = by-leaving w (after w e) leaves rest.there rest.member in
      record {
        taken = pagers_take_one_lem d w at.state (e ∷ []) (after w e) t (is_low slot port set room low some) some so.good rest.taken
            (Pager_moves w at.state pick [] (after w e) t move.own (Nobody_moves (after w e) t));
        there = kept.0;
        member = kept.1;
        talkless = leaves.talkless rest.talkless;
      }

pub runs_leave_none : RunsLeaveNone
unfolding client_of
runs_leave_none slot port set room begun moves at low some begins quiet r dark unheld idle =
    let so = stands slot port set room low some begun begins moves at r dark in
    let rest = desked slot port set room low some begun begins quiet moves at r dark in
    let ends = no_fault_is_left_lem (desk_of_root slot port set room) at.world at.state (le-leb slot LAST_USER_SLOT low) so.good rest.taken
    (record {
      valid = unheld.valid;
      few = unheld.few;
      unheld = unheld.none;
      porter = a-porter (at.world.body me) so.porter;
      talkless = find-none _ (objects at.world) rest.talkless;
      low = le-leb set LAST_USER_SLOT quiet.low;
      set = rest.there;
      port = rest.member;
    }) (λ pick own. idle (pick, own)) in
    record { waits = ends.0; none = ends.1 }
