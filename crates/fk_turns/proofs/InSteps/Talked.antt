-- Talked: the lists after a stage in which two threads met.
use Rattle.std.proofs.Common.{◌≡◌, ◌≤◌, ◌⊎◌, ℕ, Bool, true, false, [], ◌∷◌, Option, Some, None, not, is_some, inl, inr, refl, sym, ap, subst, ◌∙◌}
use Rattle.std.proofs.lemmas.Bool.{or_right}
use Rattle.std.specs.Bool.{OnTrue}
use Rattle.fk_calls.specs.declared.calls.going.Talked.{Talked}
use Rattle.fk_calls.specs.declared.calls.going.Talked.TheVariants as talkeds
use Rattle.fk_calls.specs.declared.calls.going.Went.{Went}
use Rattle.fk_calls.specs.declared.calls.going.Went.TheVariants as wents
use Rattle.fk_model.specs.declared.moves.Ask.TheVariants as asks
use Rattle.fk_model.specs.declared.moves.Said.TheVariants as says
use Rattle.fk_model.specs.declared.names.Who.{Who}
use Rattle.fk_model.specs.declared.stage.Stage.{Stage}
use Rattle.fk_model.specs.declared.stage.Stage.TheVariants.{CondAsleep, Connect, MutexLock}
use Rattle.fk_model.specs.declared.thread.Turn.{Turn}
use Rattle.fk_model.specs.declared.thread.Turn.TheVariants as turns
use Rattle.fk_model.specs.Holds.{is_free}
use Rattle.fk_model.specs.Moves.{Step}
use Rattle.fk_model.specs.Objects.{Thread, and_then, holds}
use Rattle.fk_model.specs.Places.{Path, parent}
use Rattle.fk_model.specs.Searches.{client_of, depth, thread_at}
use Rattle.fk_model.specs.Talks.{first_stage, other_side, receive_on}
use Rattle.fk_model.specs.Valid.{IsValid}
use Rattle.fk_model.specs.Who.{space_born}
use Rattle.fk_model.specs.World.{World}
use Rattle.fk_model.proofs.walks.WalkLaws.{no_client, none_from}
use Rattle.fk_plans.specs.Wakes.Touches.{is_making}
use Rattle.fk_store.specs.Store.Contents.{Contents}
use Rattle.fk_store.specs.Store.Paths.{path, place}
use Rattle.fk_store.specs.Store.Threads.{is_free_at}
use Rattle.fk_store.specs.Store.World.{world, place_of}
use Rattle.fk_turns.specs.declared.steps.talking.Place.{Place}
use Rattle.fk_turns.specs.declared.whys.whys.Why.{Why}
use Rattle.fk_turns.specs.declared.whys.whys.Why.TheVariants as whys
use Rattle.fk_turns.specs.Moved.Kept.{is_user_at, AreKept, IsFiled, IsFiledAs}
use Rattle.fk_turns.specs.Moved.Moved.{is_put}
use Rattle.fk_turns.specs.Moved.Told.{IsMadeTo, IsStored, IsToldOf}
use Rattle.fk_turns.specs.Next.Goings.{run_of, touched_in, was_made, HasTalkRow, IfTalked, IsReceiver}
use Rattle.fk_turns.specs.Next.Judgements.{IsReadyMove, IsStepTo, TellsTouched}
use Rattle.fk_turns.specs.Next.Waiting.{standing, IsMoveReady, IsPlaced}
use Rattle.fk_turns.specs.Steps.Steps.{IsPut}
use Rattle.fk_turns.specs.Steps.Talks.{met_by, place_by, ComesTalked, IsAlone, IsThere}
use Rattle.fk_turns.specs.Whys.Whys.{IsLoudly, IsOwn, IsReadAt, IsWhy}
use Rattle.fk_turns.proofs.InMoved.Talking.{left_passed, left_sent, passed_users, sent_users}
use Rattle.fk_turns.proofs.InMoved.Told.{told_moves_leave}
use Rattle.fk_turns.proofs.InSteps.Locked.{free_user}
use Rattle.fk_turns.proofs.InSteps.Stepped.{comes_ran, kept_valid, put_by, run_fit}
use Rattle.fk_turns.proofs.InSteps.Went.{free_when_ready}
use Rattle.fk_turns.proofs.InWhys.Apart.{is_barred_why}
use Rattle.fk_turns.proofs.InWhys.Talking.{in_call, IsIn}
use Rattle.fk_waits.proofs.InCauses.Numbers.{clash}
use Rattle.fk_waits.proofs.InCauses.Order.{same_who}
use Rattle.fk_waits.proofs.InTurns.Roused.{met_both, met_none, roused_none, roused_one}
use Rattle.fk_waits.specs.Causes.Names.{is_same}
use Rattle.fk_waits.specs.Turns.Turns.{all_marks, loud_cause, waits_at, AreMet, IsRoused, IsSound}
use Rattle.fk_waits.specs.Waits.Lists.{is_in, is_queued, stands, woken, Lists}
use Rattle.laws_waits.specs.Few.{is_peer_of}
use Rattle.laws_waits.specs.Stuck.{is_resting, stage_at, IsBeneath, IsStuck, Reason}
use Rattle.laws_waits.specs.Stuck.Reason.{Beneath, Connecting, Locking, Resting, Sleeping}
use Rattle.laws_waits.proofs.Rows.{free-beneath, free-resting, goes-on}

-- ---- a stage that was made comes so

put_nothing : (by : Talked) (who : Who) → is_put (touched_in by) who ≡ false
put_nothing (talkeds.Sends client receiver sender) who = refl
put_nothing (talkeds.Passes client receiver) who = refl

makes_nothing : (by : Talked) → is_making (touched_in by) ≡ false
makes_nothing (talkeds.Sends client receiver sender) = refl
makes_nothing (talkeds.Passes client receiver) = refl

-- whose move is ready is free
pub ready_free : (m : Contents) (who : Who) → IsReadyMove m (run_of who) asks.Run → is_free_at (world m) (place (path m) who) ≡ true
unfolding is_free_at
ready_free m who ready =
    let goes = goes-on (world m) (place (path m) who) None ready in
    ap (holds (is_free (world m) (parent (place (path m) who)))) goes.there ∙ goes.free

module _ (m n : Contents) (who : Who) (by : Talked) (waits marks : Lists) (valid : IsValid (world m)) (few : (world m).next ≤ depth)
    (born : path m ≡ space_born (world m)) (born_new : path n ≡ space_born (world n)) (few_new : (world n).next ≤ depth) (kept : AreKept m waits marks)
    (ready : IsReadyMove m (run_of who) asks.Run) (step : IsStepTo m (run_of who) asks.Run n says.Nothing)
    (tells : TellsTouched m (run_of who) asks.Run (touched_in by)) (row : HasTalkRow m who by) (none : marks.ready ≡ []) where
  comes_so : ComesTalked n who by waits marks
  comes_so =
      let old : IsStored m = record { valid = valid; born = born; few = few } in
      let new : IsStored n = record {
        valid = kept_valid m n (run_of who) asks.Run valid few (run_fit m (run_of who)) says.Nothing step;
        born = born_new;
        few = few_new;
      } in
      let made : IsMadeTo m n who None asks.Run = record { fit = run_fit m (run_of who); ready = ready; step = ap (λ (s : Step). s.world) (sym step) } in
      let told : IsToldOf m who None asks.Run (touched_in by) = record { names = tells.names; leaves = tells.leaves; moves = tells.moves } in
      record {
        before = m;
        kept = kept;
        queued = free_when_ready m waits marks who None valid few kept ready;
        none = none;
        free = ready_free m who ready;
        after = comes_ran m n (run_of who) valid few (run_fit m (run_of who)) born born_new few_new (touched_in by) waits marks says.Nothing kept
            (makes_nothing by) ready step tells;
        moved = told_moves_leave m n who None asks.Run (touched_in by) old new made told;
        old = old;
        new = new;
        made = made;
        row = row;
      }

pub talked_made : (m n : Contents) (who : Who) (went : Went) (by : Talked) (waits marks : Lists) → IsValid (world m) → (world m).next ≤ depth →
    path m ≡ space_born (world m) → path n ≡ space_born (world n) → (world n).next ≤ depth → AreKept m waits marks → went ≡ wents.Talked by →
    OnTrue (was_made went) (IsReadyMove m (run_of who) asks.Run × IsStepTo m (run_of who) asks.Run n says.Nothing) →
    IfTalked went (λ by. TellsTouched m (run_of who) asks.Run (touched_in by)) → IfTalked went (HasTalkRow m who) → marks.ready ≡ [] →
    ComesTalked n who by waits marks
talked_made m n who went by waits marks valid few born born_new few_new kept is made tells row none =
    let both = rw is at made in
    comes_so m n who by waits marks valid few born born_new few_new kept both.0 both.1 (rw is at tells) (rw is at row) none

-- ---- the other end is woken, or waits as it did

module _ (m n : Contents) (mover other : Who) (waits marks : Lists) (kept : AreKept m waits marks) (queued : is_queued mover waits.queued ≡ false)
    (none : marks.ready ≡ []) (users : (x : Who) → is_user_at n x ≡ is_user_at m x)
    (left : (x : Who) (why : Why) → is_same mover x ≡ false → is_same other x ≡ false → is_user_at m x ≡ true → is_barred_why why ≡ false →
    IsWhy (world m) (path m) (place_of m x) why → IsWhy (world n) (path n) (place_of n x) why)
    (now then_marks : Lists) (roused : IsRoused waits now) (met : AreMet marks then_marks now) (sound : IsSound now then_marks)
    (other_filed : is_queued other now.queued ≡ true → IsFiled n (all_marks now then_marks) other) where
  both : AreMet (all_marks waits marks) (all_marks now then_marks) now
  both = met_both waits marks now then_marks met roused.less

  filed_now : (x : Who) → is_queued x now.queued ≡ true → IsFiled n (all_marks now then_marks) x
  filed_now x here = of_other (is_same other x) refl
    where
      in_waits : is_queued x waits.queued ≡ true
      in_waits = roused.less.queued x here

      was : IsFiled m (all_marks waits marks) x
      was = kept.filed x in_waits

      apart : is_same mover x ≡ false
      apart = of (is_same mover x) refl
        where
          of : (t : Bool) → is_same mover x ≡ t → is_same mover x ≡ false
          of true e = clash (is_queued mover waits.queued) (subst (λ (w : Who). is_queued w waits.queued ≡ true) (sym (same_who mover x e)) in_waits) queued
          of false e = e

      was_user : is_user_at m x ≡ true
      was_user = sym (kept.each x) ∙ or_right (is_in x waits.ready) (is_queued x waits.queued) in_waits

      still : (key : Who) → waits_at key x (all_marks waits marks).queued ≡ true → waits_at key x (all_marks now then_marks).queued ≡ true
      still key is = of (both.keyed key x is)
        where
          of : (waits_at key x (all_marks now then_marks).queued ≡ true) ⊎ (is_queued x now.queued ≡ false) →
              waits_at key x (all_marks now then_marks).queued ≡ true
          of (inl h) = h
          of (inr gone) = clash (is_queued x now.queued) here gone

      goes : is_same other x ≡ false → (y : Why) → is_barred_why y ≡ false → IsWhy (world m) (path m) (place_of m x) y →
          IsWhy (world n) (path n) (place_of n x) y
      goes off y named s = left x y apart off was_user named s

      by : is_same other x ≡ false → (y : Why) → IsWhy (world m) (path m) (place_of m x) y → IsFiledAs (all_marks waits marks) x y →
          IsFiled n (all_marks now then_marks) x
      by off whys.Still s f = record { why = whys.Still; stuck = goes off whys.Still refl s; filed = tt }
      by off (whys.At key) s f = record { why = whys.At key; stuck = goes off (whys.At key) refl s; filed = (f.0, still key f.1) }
      by off whys.Loud s f = record { why = whys.Loud; stuck = goes off whys.Loud refl s; filed = still loud_cause f }
      by off whys.Barred s f = clash (is_in x marks.ready) f (ap (is_in x) none)

      of_other : (t : Bool) → is_same other x ≡ t → IsFiled n (all_marks now then_marks) x
      of_other true e =
          let one = same_who other x e in
          subst (λ (y : Who). IsFiled n (all_marks now then_marks) y) one (other_filed (subst (λ (y : Who). is_queued y now.queued ≡ true) (sym one) here))
      of_other false e = by e was.why was.stuck was.filed

  pub kept_by : AreKept n now then_marks
  kept_by = record { each = λ x. roused.stays x ∙ kept.each x ∙ sym (users x); sound = sound; filed = filed_now }

-- who receives is a user's thread
receiver_user : (n : Contents) (mover : Who) (by : Talked) (waits marks : Lists) (from : ComesTalked n mover by waits marks) →
    is_user_at from.before (met_by by) ≡ true
receiver_user n mover (talkeds.Sends client receiver sender) waits marks from = free_user from.before receiver from.row.receiving.free
receiver_user n mover (talkeds.Passes client receiver) waits marks from = free_user from.before receiver from.row.receiving.free

pub receiver_stands : (n : Contents) (mover : Who) (by : Talked) (waits marks : Lists) → ComesTalked n mover by waits marks → stands (met_by by) waits ≡ true
receiver_stands n mover by waits marks from = from.kept.each (met_by by) ∙ receiver_user n mover by waits marks from

-- one that is woken isn't queued
not_filed : (n : Contents) (other : Who) (now marks : Lists) → is_queued other now.queued ≡ false → is_queued other now.queued ≡ true → IsFiled n marks other
not_filed n other now marks away here = clash (is_queued other now.queued) here away

roused_by_one : (other : Who) (waits now : Lists) → stands other waits ≡ true → now ≡ woken other waits → IsRoused waits now
roused_by_one other waits now stood woke = subst (IsRoused waits) (sym woke) (roused_one other waits stood)

-- who is free at its Receive waits for any move of another
module _ (m : Contents) (x : Path) (side : Turn) (receives : IsReceiver (world m) x side) where
  receiver : IsIn (world m) x (receives.stage ∷ [])
  receiver = in_call (world m) x receives.stage [] receives.alone

  free : is_free (world m) (parent x) receiver.thread ≡ true
  unfolding is_free_at
  free = sym (ap (holds (is_free (world m) (parent x))) receiver.there) ∙ receives.free

  awake : holds is_resting (thread_at (world m) x) ≡ false
  awake = ap (holds is_resting) receiver.there ∙ free-resting (world m) (parent x) receiver.thread free

  staged : {X : Type 0} (stage : Stage) → stage_at (world m) x ≡ Some stage → is_some (receive_on side stage) ≡ false → X
  staged stage at none =
      let first : Some receives.stage ≡ Some stage =
      sym (ap (and_then (λ (t : Thread). first_stage t.mode)) receiver.there ∙ ap first_stage receiver.mode) ∙ at in
      let same : receives.stage ≡ stage = cc in
      clash (is_some (receive_on side stage)) (subst (λ (s : Stage). is_some (receive_on side s) ≡ true) same receives.receives) none

  unheld : {X : Type 0} (space : Path) → IsBeneath (world m) space x → X
  unheld space beneath = clash (is_free (world m) (parent x) receiver.thread) free (free-beneath (world m) space x receiver.thread beneath)

  none_on : (d : Turn) (h : ℕ) → is_some (receive_on d (Connect h)) ≡ false
  none_on turns.Client h = refl
  none_on turns.Server h = refl

  none_lock : (d : Turn) (k : ℕ) → is_some (receive_on d (MutexLock k)) ≡ false
  none_lock turns.Client k = refl
  none_lock turns.Server k = refl

  none_asleep : (d : Turn) (c k : ℕ) → is_some (receive_on d (CondAsleep c k)) ≡ false
  none_asleep turns.Client c k = refl
  none_asleep turns.Server c k = refl

  not_own : {X : Type 0} (r : Reason) → IsStuck (world m) x r → IsOwn r → X
  not_own Resting stuck own = clash (holds is_resting (thread_at (world m) x)) stuck awake
  not_own (Sleeping c k) stuck own = staged (CondAsleep c k) stuck.0 (none_asleep side c k)
  not_own r stuck own = absurd own

  not_at : {X : Type 0} (key : Path) (r : Reason) → IsStuck (world m) x r → IsReadAt x key r → X
  not_at key (Beneath space) stuck read = unheld space stuck
  not_at key (Locking k) stuck read = staged (MutexLock k) stuck.0 (none_lock side k)
  not_at key (Connecting h port) stuck read = staged (Connect h) stuck.0 (none_on side h)
  not_at key r stuck read = absurd read

receiver_loud : (m : Contents) (who : Who) (side : Turn) (waits marks : Lists) → IsReceiver (world m) (place_of m who) side → marks.ready ≡ [] →
    IsFiled m (all_marks waits marks) who → waits_at loud_cause who (all_marks waits marks).queued ≡ true
receiver_loud m who side waits marks receives none filed = by filed.why filed.stuck filed.filed
  where
    by : (y : Why) → IsWhy (world m) (path m) (place_of m who) y → IsFiledAs (all_marks waits marks) who y →
        waits_at loud_cause who (all_marks waits marks).queued ≡ true
    by whys.Still s f = not_own m (place_of m who) side receives s.reason s.stuck s.own
    by (whys.At key) s f = not_at m (place_of m who) side receives (place (path m) key) s.reason s.stuck s.read
    by whys.Loud s f = f
    by whys.Barred s f = clash (is_in who marks.ready) f (ap (is_in who) none)

pub kept_heard : (n : Contents) (mover client receiver sender : Who) (waits marks : Lists) →
    ComesTalked n mover (talkeds.Sends client receiver sender) waits marks → IsLoudly (world n) (place_of n receiver) → AreKept n waits marks
kept_heard n mover client receiver sender waits marks from why =
    let by = talkeds.Sends client receiver sender in
    kept_by from.before n mover receiver waits marks from.kept from.queued from.none
    (sent_users from.before n mover from.old from.new from.made client receiver from.row (touched_in by) from.moved (put_nothing by))
    (left_sent from.before n mover from.old from.new from.made client receiver from.row)
    waits marks (roused_none waits) (met_none marks waits) from.kept.sound
    (λ here. record {
      why = whys.Loud;
      stuck = why;
      filed = receiver_loud from.before receiver (other_side from.row.side) waits marks from.row.receiving from.none (from.kept.filed receiver here);
    })

pub kept_sent : (n : Contents) (mover client receiver sender : Who) (waits marks now then_marks : Lists) →
    ComesTalked n mover (talkeds.Sends client receiver sender) waits marks → now ≡ woken receiver waits → AreMet marks then_marks now →
    is_queued receiver now.queued ≡ false → IsSound now then_marks → AreKept n now then_marks
kept_sent n mover client receiver sender waits marks now then_marks from woke met away sound =
    let by = talkeds.Sends client receiver sender in
    kept_by from.before n mover receiver waits marks from.kept from.queued from.none
    (sent_users from.before n mover from.old from.new from.made client receiver from.row (touched_in by) from.moved (put_nothing by))
    (left_sent from.before n mover from.old from.new from.made client receiver from.row)
    now then_marks (roused_by_one receiver waits now (receiver_stands n mover by waits marks from) woke) met sound
    (not_filed n receiver now (all_marks now then_marks) away)

pub kept_passed : (n : Contents) (mover client receiver : Who) (waits marks now then_marks : Lists) →
    ComesTalked n mover (talkeds.Passes client receiver) waits marks → IsAlone (world n) (place_of n client) → now ≡ woken receiver waits →
    AreMet marks then_marks now → is_queued receiver now.queued ≡ false → IsSound now then_marks → AreKept n now then_marks
kept_passed n mover client receiver waits marks now then_marks from alone woke met away sound =
    let by = talkeds.Passes client receiver in
    kept_by from.before n mover receiver waits marks from.kept from.queued from.none
    (passed_users from.before n mover from.old from.new from.made client receiver from.row (touched_in by) from.moved (put_nothing by))
    (left_passed from.before n mover from.old from.new from.made client receiver from.row from.free alone)
    now then_marks (roused_by_one receiver waits now (receiver_stands n mover by waits marks from) woke) met sound
    (not_filed n receiver now (all_marks now then_marks) away)

-- ---- who serves nobody

serves_none : (w : World) → IsValid w → w.next ≤ depth → (x : Path) (b : Bool) → b ≡ is_some (client_of w x) → b ≡ false → (q : Path) →
    is_peer_of w x q ≡ false
serves_none w valid few x b is off q = no_client w valid.consistent valid.rooted few x (none_from (client_of w x) (sym is ∙ off)) q

pub serves_none_if : (w : World) → IsValid w → w.next ≤ depth → (x : Path) (o : Option Who) (none : Bool) → is_some o ≡ is_some (client_of w x) →
    is_some o ≡ not none → OnTrue none ((q : Path) → is_peer_of w x q ≡ false)
serves_none_if w valid few x o true is off = λ q. serves_none w valid few x (is_some o) is off q
serves_none_if w valid few x o false is off = tt

-- ---- where its thread stands

pub put_talked : (m n : Contents) (who : Who) (by : Talked) (waits : Lists) → IsValid (world m) → (world m).next ≤ depth →
    path m ≡ space_born (world m) → path n ≡ space_born (world n) → (world n).next ≤ depth → IsReadyMove m (run_of who) asks.Run →
    TellsTouched m (run_of who) asks.Run (touched_in by) → (is_user_at n who ≡ true → IsPlaced n (standing waits) who) →
    IsPut m (run_of who) asks.Run n (standing waits)
put_talked m n who (talkeds.Sends client receiver sender) waits valid few born born_new few_new ready tells placed =
    put_by m n (run_of who) asks.Run valid few (run_fit m (run_of who)) born born_new few_new (touched_in (talkeds.Sends client receiver sender)) waits ready tells
    placed
put_talked m n who (talkeds.Passes client receiver) waits valid few born born_new few_new ready tells placed =
    put_by m n (run_of who) asks.Run valid few (run_fit m (run_of who)) born born_new few_new (touched_in (talkeds.Passes client receiver)) waits ready tells
    placed

-- ---- where it belongs

-- who can move is a user's thread
pub ready_user : (m : Contents) (who : Who) → IsMoveReady (world m) (place_of m who) → is_user_at m who ≡ true
unfolding is_free_at
ready_user m who any =
    let goes = goes-on (world m) (place_of m who) any.0 any.1 in
    free_user m who (ap (holds (is_free (world m) (parent (place_of m who)))) goes.there ∙ goes.free)

pub there_by : (m : Contents) (who : Who) (can : Bool) (place : Place) → place ≡ place_by can → OnTrue can (IsMoveReady (world m) (place_of m who)) →
    IsThere m who place
there_by m who true place is up = rw is up
there_by m who false place is up = rw is tt
