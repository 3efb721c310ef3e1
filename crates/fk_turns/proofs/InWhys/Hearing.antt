-- Hearing: a thread at its Receive waits for the other end, at the port of its talk.
use Rattle.std.proofs.Common.{◌≡◌, ◌||◌, ◌==◌, ℕ, true, false, not, is_some, [], ◌∷◌, Option, Some, None, IfSome, refl, sym, ap, ◌∙◌}
use Rattle.std.proofs.lemmas.Bool.{or_from, or_parts}
use Rattle.fk_model.specs.declared.stage.Stage.{Stage}
use Rattle.fk_model.specs.declared.thread.Mode.TheVariants as modes
use Rattle.fk_model.specs.declared.thread.Talk.{Talk as StoredTalk}
use Rattle.fk_model.specs.declared.thread.Thread as threads_of
use Rattle.fk_model.specs.declared.thread.Turn.{Turn}
use Rattle.fk_model.specs.declared.thread.Turn.TheVariants as turns
use Rattle.fk_model.specs.Calls.{todo_of}
use Rattle.fk_model.specs.Holds.{decider, is_porter, is_user}
use Rattle.fk_model.specs.Objects.{Fault, Mode, Talk, Thread, and_then, holds}
use Rattle.fk_model.specs.Objects.Mode.{Calling, Halted, Native, Running}
use Rattle.fk_model.specs.Places.{Path, parent}
use Rattle.fk_model.specs.Searches.{client_of, objects, talk_at, thread_at}
use Rattle.fk_model.specs.Talks.{first_stage, other_side, same_side}
use Rattle.fk_model.specs.World.{World, serves}
use Rattle.fk_model.proofs.walks.Members.{find_some}
use Rattle.fk_store.specs.Store.Bodies.{talk_by, thread_by}
use Rattle.fk_store.specs.Store.Paths.{place}
use Rattle.laws_waits.specs.Stuck.{is_resting, is_talk_of, receive_stage}
use Rattle.laws_waits.specs.Stuck.Reason.{Receiving}
use Rattle.laws_moves.specs.Users.Stood.{is_users_at}
use Rattle.fk_turns.specs.Whys.Causes.{cause_at, fault_port, is_at_rest, outermost_held, port_of, stage_cause, thread_cause}
use Rattle.fk_turns.specs.declared.whys.hearing.Hearing.{Hearing}
use Rattle.fk_turns.specs.Whys.Hearings.{is_mine, side_port, IsRoomy, IsTalkOn}
use Rattle.fk_turns.specs.Whys.Whys.{IsLoudly}
use Rattle.fk_turns.proofs.InWhys.Waited.{awake, none_held, or_second}

no_fault : (o : Option Fault) → is_some o ≡ false → o ≡ None
no_fault None off = refl
no_fault (Some fault) off = absurd (cc)

-- a Receive waits for the port of its talk
stage_port : (w : World) (x : Path) (t : Thread) (side : Turn) (into room : ℕ) → stage_cause w x t (receive_stage side into room None) ≡ side_port w x t side
stage_port w x t turns.Client into room = refl
stage_port w x t turns.Server into room = refl

talking : (side : Turn) (x : Path) (talk : Talk) → same_side talk.turn (other_side side) ≡ true → is_mine side x talk ≡ true →
    is_talk_of side x (other_side side) talk ≡ true
talking turns.Client x talk turn mine = turn
talking turns.Server x talk turn mine = rw (turn, mine) refl

module _ (w : World) (p : ℕ → Path) (x : Path) (t : Thread) (side : Turn) (into room : ℕ) (talk : StoredTalk) (unheld : (q : Path) → decider w q ≡ None)
    (there : Some t ≡ thread_at w x) (up : is_resting t ≡ false) (stage : first_stage t.mode ≡ Some (receive_stage side into room None))
    (on : IsTalkOn w p x t side talk) where
  by_stage : Some (place p talk.port) ≡ and_then (stage_cause w x t) (first_stage t.mode)
  by_stage = on.port ∙ sym (stage_port w x t side into room) ∙ ap (and_then (stage_cause w x t)) (sym stage)

  by_thread : Some (place p talk.port) ≡ thread_cause w x t
  by_thread =
      let first = or_parts (not (t.stops == 0) || is_some t.fault) (not (is_user t.mode)) up in
      let rest = or_parts (not (t.stops == 0)) (is_some t.fault) first.0 in
      awake (is_at_rest t) (Some (place p talk.port)) (fault_port t.fault (and_then (stage_cause w x t) (first_stage t.mode)))
      (or_from (not (t.stops == 0)) (not (is_user t.mode)) rest.0 first.1)
      (by_stage ∙ ap (λ (o : Option Fault). fault_port o (and_then (stage_cause w x t) (first_stage t.mode))) (sym (no_fault t.fault rest.1)))

  pub hear_cause : place p talk.port ≡ cause_at w x
  hear_cause =
      or_second x (outermost_held w (parent x)) (and_then (thread_cause w x) (thread_at w x)) (place p talk.port) (sym (none_held w unheld (parent x)))
      (by_thread ∙ ap (and_then (thread_cause w x)) there)

  pub hears : same_side talk.turn (other_side side) ≡ true → IsRoomy w (parent x) into room → IsLoudly w x
  hears turn roomy = record {
    reason = Receiving side into room None true on.client;
    stuck = (
      ap (and_then (λ (u : Thread). first_stage u.mode)) (sym there) ∙ stage,
      ap (holds (is_talk_of side x (other_side side))) on.there ∙ talking side x (talk_by p talk) turn on.mine,
      roomy,
      refl,
    );
    loud = refl;
  }

-- who doesn't rest is a user
pub awake_user : (w : World) (x : Path) (t : Thread) → Some t ≡ thread_at w x → is_resting t ≡ false → is_users_at w x ≡ true
awake_user w x t there up =
    ap (holds (λ (u : Thread). not (is_porter u.mode))) (sym there)
    ∙ by t.mode (or_parts (not (t.stops == 0) || is_some t.fault) (not (is_user t.mode)) up).1
  where
    by : (m : Mode) → not (is_user m) ≡ false → not (is_porter m) ≡ true
    by (Running g) is = refl
    by (Calling todo rest) is = refl
    by (Halted g code) is = refl
    by (Native g) is = absurd (cc)

-- ---- the talk

pub own_on : (w : World) (p : ℕ → Path) (x : Path) (t : threads_of.Thread) (talk : StoredTalk) → Some (thread_by p t) ≡ thread_at w x → t.talk ≡ Some talk →
    IsTalkOn w p x (thread_by p t) turns.Client talk
own_on w p x t talk there is = record {
  client = x;
  there = rw (← there, is) refl;
  mine = refl;
  port = rw is refl;
}

pub served_on : (w : World) (p : ℕ → Path) (x c : Path) (t other : threads_of.Thread) (talk : StoredTalk) → Some c ≡ client_of w x →
    Some (thread_by p other) ≡ thread_at w c → other.talk ≡ Some talk → IsTalkOn w p x (thread_by p t) turns.Server talk
unfolding client_of
served_on w p x c t other talk served there is =
    let found = (find_some (λ (q : Path). holds (λ (talk : Talk). serves x talk.peer) (talk_at w q)) c (objects w) (sym served)).1 in
    let its : talk_at w c ≡ Some (talk_by p talk) = rw (← there, is) refl in
    record {
      client = c;
      there = its;
      mine = sym (ap (holds (λ (talk : Talk). serves x talk.peer)) its) ∙ found;
      port = sym (ap port_of its) ∙ ap (and_then (λ (q : Path). port_of (talk_at w q))) served;
    }

calls_stage : (p : ℕ → Path) (t : threads_of.Thread) (stage : Stage) → t.mode ≡ modes.Calling → todo_of t.regs ≡ Some (stage ∷ []) →
    first_stage (thread_by p t).mode ≡ Some stage
calls_stage p t stage mode named = rw (mode, named) refl

pub named_stage : (p : ℕ → Path) (t : threads_of.Thread) (o : Option Hearing) → t.mode ≡ modes.Calling →
    IfSome o (λ h. todo_of t.regs ≡ Some (receive_stage h.side h.into h.room None ∷ [])) →
    IfSome o (λ h. first_stage (thread_by p t).mode ≡ Some (receive_stage h.side h.into h.room None))
named_stage p t None mode named = tt
named_stage p t (Some h) mode named = calls_stage p t (receive_stage h.side h.into h.room None) mode named
