-- Went: the lists after a move of a thread that runs on and touches nobody else.
use Rattle.std.proofs.Common.{◌≡◌, ◌≤◌, ◌&&◌, ◌||◌, ◌==◌, ℕ, Bool, true, false, not, List, [], ◌∷◌, length, ◌⊎◌, ◌++◌, slice_index, Option, Some}
use Rattle.std.proofs.Common.{None, is_none, is_some, option_map, inl, inr, refl, sym, ap}
use Rattle.std.proofs.Common.{subst, ◌∙◌}
use Rattle.std.proofs.lemmas.Bool.{and_parts, eqb-true, or_from, or_right}
use Rattle.std.specs.Bool.{OnTrue, OnFalse}
use Rattle.fk_model.specs.declared.moves.Ask.TheVariants as asks
use Rattle.fk_model.specs.declared.names.Who.{Who}
use Rattle.fk_model.specs.declared.thread.Mode as modes_of
use Rattle.fk_model.specs.declared.thread.Mode.TheVariants as modes
use Rattle.fk_model.specs.declared.thread.Thread as threads_of
use Rattle.fk_model.specs.declared.thread.Peer as peers_of
use Rattle.fk_model.specs.declared.thread.Peer.TheVariants as peers
use Rattle.fk_model.specs.declared.stage.Stage.{Stage}
use Rattle.fk_model.specs.declared.thread.Talk as talks_of
use Rattle.fk_model.specs.Talks.{first_stage}
use Rattle.laws_waits.specs.Touching.{is_reachable_stage}
use Rattle.fk_model.specs.Holds.{decider, is_free, is_porter, is_user}
use Rattle.fk_model.specs.Moves.{IsReady}
use Rattle.fk_model.specs.Objects.{Mode, Thread, holds}
use Rattle.fk_model.specs.Objects.Mode.{Calling, Halted, Native, Running}
use Rattle.fk_model.specs.Objects.Peer.{Service}
use Rattle.fk_model.specs.Places.{Path}
use Rattle.fk_model.specs.Searches.{depth, thread_at}
use Rattle.fk_model.specs.Valid.{IsValid}
use Rattle.fk_model.specs.World.{World}
use Rattle.fk_plans.specs.Plans.Effects.{is_running, is_running_mode}
use Rattle.fk_store.specs.Store.Bodies.{calling_mode, fault_by, mode_by, peer_by, talk_by, thread_by}
use Rattle.fk_store.specs.Store.Contents.{Contents}
use Rattle.fk_store.specs.Store.Paths.{path, place}
use Rattle.fk_store.specs.Store.World.{world, place_of}
use Rattle.fk_waits.specs.Turns.Turns.{all_marks, loud_cause, waits_at, IsSound}
use Rattle.fk_waits.proofs.InTurns.Woken.{queued_less, queued_off, stands_woken, waits_behind, waits_cause, waits_more, waits_other, waits_split}
use Rattle.fk_turns.specs.Moved.Kept.{is_user_at, AreKept, IsFiled, IsFiledAs}
use Rattle.fk_turns.specs.Moved.Moved.{is_it, is_named, is_told, is_wide, now_named, IsMoved}
use Rattle.fk_turns.specs.Moved.Told.{goes_quietly, goes_quietly_at, is_going, is_quiet_mode, runs_on_at, IsQuietTo, IsRunning}
use Rattle.fk_turns.proofs.InMoved.Quiet.{on_of}
use Rattle.fk_turns.specs.Next.Runs.{is_under_way, is_under_way_at}
use Rattle.fk_turns.specs.Next.Waiting.{ComesAfter, IsMoveReady}
use Rattle.fk_turns.proofs.InNext.Passed.{queued_unready}
use Rattle.fk_waits.specs.Waits.Lists.{is_cause, is_in, is_queued, stands, without_queued, woken, Lists}
use Rattle.fk_waits.proofs.InCauses.Numbers.{clash}
use Rattle.fk_waits.specs.Causes.Names.{is_same}
use Rattle.fk_waits.proofs.InCauses.Order.{same_who}
use Rattle.fk_plans.specs.declared.wakes.touching.Touched.{Touched}
use Rattle.fk_plans.specs.declared.wakes.touching.Touched.TheVariants.{Any, Dies, Few, Makes, Moves}
use Rattle.fk_turns.specs.declared.whys.whys.Why.{Why}
use Rattle.fk_turns.specs.declared.whys.whys.Why.TheVariants as whys
use Rattle.fk_turns.specs.Whys.Whys.{IsWhy}
use Rattle.fk_turns.proofs.InWhys.Apart.{key_lone}
use Rattle.laws_waits.proofs.Complete.{free_runners_are_ready}
use Rattle.fk_turns.specs.Steps.Steps.{acts, speaks, goes_in, is_busy, is_own, is_speaking, is_service, keeps_on, touches_nobody, touches_only}
use Rattle.fk_turns.specs.Steps.Steps.{IsGentle, IsQuietFrom, IsTurned, MayBeQuiet}
use Rattle.fk_turns.proofs.InSteps.Acts.{acts_up, begins_act, or_if}
use Rattle.fk_turns.proofs.InSteps.Sends.{begins, over_up, sends_up, BeginsWithOver, BeginsWithSend}

-- ---- who goes on

module _ (w : World) (k : ℕ) (s : Path) (p : ℕ → Path) (ran : Bool) (t : threads_of.Thread) (there : thread_at w (k ∷ s) ≡ Some (thread_by p t))
    (keeps : keeps_on ran t ≡ true) where
  rest : (is_none t.fault && goes_in t.mode (not ran && is_busy t)) ≡ true
  rest = (and_parts (t.stops == 0) (is_none t.fault && goes_in t.mode (not ran && is_busy t)) keeps).1

  going : goes_in t.mode (not ran && is_busy t) ≡ true
  going = (and_parts (is_none t.fault) (goes_in t.mode (not ran && is_busy t)) rest).1

  no_fault : (o : Option _) → is_none o ≡ true → is_none (option_map (fault_by p) o) ≡ true
  no_fault None is = refl
  no_fault (Some fault) is = absurd (cc)

  faultless : is_none (option_map (fault_by p) t.fault) ≡ true
  faultless = no_fault t.fault (and_parts (is_none t.fault) (goes_in t.mode (not ran && is_busy t)) rest).0

  pub keeps_user : holds (λ (t : Thread). not (is_porter t.mode)) (thread_at w (k ∷ s)) ≡ true
  keeps_user = rw there (by t.mode going)
    where
      by : (m : modes_of.Mode) → goes_in m (not ran && is_busy t) ≡ true → not (is_porter (mode_by m t.regs)) ≡ true
      by modes.Running is = refl
      by modes.Calling is = refl
      by (modes.Halted code) is = absurd (cc)
      by modes.Native is = absurd (cc)

  pub keeps_going : ran ≡ true → holds (λ (t : Thread). is_going t.mode && is_none t.fault) (thread_at w (k ∷ s)) ≡ true
  keeps_going so = rw there (by t.mode ran so going)
    where
      by : (m : modes_of.Mode) (ran : Bool) → ran ≡ true → goes_in m (not ran && is_busy t) ≡ true →
          (is_going (mode_by m t.regs) && is_none (option_map (fault_by p) t.fault)) ≡ true
      by modes.Running ran so is = faultless
      by modes.Calling true so is = absurd (cc)
      by modes.Calling false so is = absurd (cc)
      by (modes.Halted code) ran so is = absurd (cc)
      by modes.Native ran so is = absurd (cc)

  pub keeps_up : ((q : Path) → decider w q ≡ None) → IsMoveReady w (k ∷ s)
  keeps_up unheld = by t.mode refl going
    where
      free : (m : modes_of.Mode) → t.mode ≡ m → is_user (mode_by m t.regs) ≡ true → is_free w s (thread_by p t) ≡ true
      free m e user = rw (
        unheld s,
        (and_parts (t.stops == 0) (is_none t.fault && goes_in t.mode (not ran && is_busy t)) keeps).0,
        faultless,
        e,
        user,
      ) refl

      to_service : (peer : peers_of.Peer) → is_service peer ≡ true → peer_by p peer ≡ Service
      to_service peers.Service is = refl
      to_service other is = absurd (cc)

      speaks_up : (talk : talks_of.Talk) → t.talk ≡ Some talk → t.mode ≡ modes.Calling → peer_by p talk.peer ≡ Service →
          BeginsWithSend (calling_mode t.regs) ⊎ BeginsWithOver (calling_mode t.regs) → IsMoveReady w (k ∷ s)
      speaks_up talk e calling peer (inl begins) =
          sends_up w unheld k s (thread_by p t) (talk_by p talk) (place p talk.port) there (free modes.Calling calling refl) (rw calling begins)
          (rw e refl) peer
          refl
      speaks_up talk e calling peer (inr begins) =
          over_up w unheld k s (thread_by p t) (talk_by p talk) (place p talk.port) there (free modes.Calling calling refl) (rw calling begins) (rw e refl) peer
          refl

      sends : (o : Option talks_of.Talk) → t.talk ≡ o → holds (λ (talk : talks_of.Talk). speaks (slice_index t.regs 0) && is_service talk.peer) o ≡ true →
          t.mode ≡ modes.Calling → IsMoveReady w (k ∷ s)
      sends None e is calling = absurd (cc)
      sends (Some talk) e is calling =
          let both = and_parts (speaks (slice_index t.regs 0)) (is_service talk.peer) is in
          speaks_up talk e calling (to_service talk.peer both.1) (begins t.regs both.0)

      by : (m : modes_of.Mode) → t.mode ≡ m → goes_in m (not ran && is_busy t) ≡ true → IsMoveReady w (k ∷ s)
      by modes.Running e is = (None, free_runners_are_ready w (k ∷ s) (thread_by p t) t.regs unheld there (free modes.Running e refl) (rw e refl))
      by modes.Calling e is =
          or_if (is_speaking t) (acts (slice_index t.regs 0)) (λ so. sends t.talk refl so e)
          (λ act. acts_up w unheld k s (thread_by p t) there (free modes.Calling e refl) (rw e (begins_act t.regs act)))
          (and_parts (not ran) (is_busy t) is).1
      by (modes.Halted code) e is = absurd (cc)
      by modes.Native e is = absurd (cc)

-- a thread that runs, in a store
pub running_there : (m : Contents) (who : Who) → is_running (thread_at (world m) (place_of m who)) ≡ true → IsRunning m who
running_there m who is = by (thread_at (world m) (place_of m who)) refl is
  where
    by_mode : (t : Thread) → thread_at (world m) (place_of m who) ≡ Some t → (k : Mode) → t.mode ≡ k → is_running_mode k ≡ true → IsRunning m who
    by_mode t there (Running g) e is = record { thread = t; registers = g; there = there; mode = e }
    by_mode t there (Calling todo rest) e is = absurd (cc)
    by_mode t there (Halted g code) e is = absurd (cc)
    by_mode t there (Native g) e is = absurd (cc)

    by : (o : Option Thread) → thread_at (world m) (place_of m who) ≡ o → is_running o ≡ true → IsRunning m who
    by None there is = absurd (cc)
    by (Some t) there is = by_mode t there t.mode refl is

-- one that runs on after its instruction
module _ (n : Contents) (who : Who) (on : is_under_way_at n who ≡ true) where
  apart : (t : Thread) → is_under_way t ≡ true → (is_running_mode t.mode ≡ true) × ((t.stops == 0) ≡ true) × (is_none t.fault ≡ true)
  apart t is =
      let both = and_parts (is_running_mode t.mode) (t.stops == 0 && is_none t.fault) is in
      let rest = and_parts (t.stops == 0) (is_none t.fault) both.1 in
      (both.0, rest.0, rest.1)

  goes : (k : Mode) → is_running_mode k ≡ true → is_going k ≡ true
  goes (Running g) is = refl
  goes other is = absurd (cc)

  no_porter : (k : Mode) → is_running_mode k ≡ true → not (is_porter k) ≡ true
  no_porter (Running g) is = refl
  no_porter other is = absurd (cc)

  pub under_way_going : runs_on_at n who ≡ true
  under_way_going = by (thread_at (world n) (place_of n who)) on
    where
      by : (o : Option Thread) → holds is_under_way o ≡ true → holds (λ (t : Thread). is_going t.mode && is_none t.fault) o ≡ true
      by None is = absurd (cc)
      by (Some t) is = rw (goes t.mode (apart t is).0, (apart t is).2) refl

  pub under_way_quiet : goes_quietly_at n who ≡ true
  under_way_quiet = on_of (thread_at (world n) (place_of n who)) under_way_going

  pub under_way_user : is_user_at n who ≡ true
  under_way_user = by (thread_at (world n) (place_of n who)) on
    where
      by : (o : Option Thread) → holds is_under_way o ≡ true → holds (λ (t : Thread). not (is_porter t.mode)) o ≡ true
      by None is = absurd (cc)
      by (Some t) is = no_porter t.mode (apart t is).0

  pub under_way_up : ((q : Path) → decider (world n) q ≡ None) → IsMoveReady (world n) (place_of n who)
  under_way_up unheld = by (thread_at (world n) (place_of n who)) refl on
    where
      by_mode : (t : Thread) → thread_at (world n) (place_of n who) ≡ Some t → ((t.stops == 0) ≡ true) × (is_none t.fault ≡ true) → (k : Mode) → t.mode ≡ k →
          is_running_mode k ≡ true → IsMoveReady (world n) (place_of n who)
      by_mode t there awake (Running g) e is =
          (None, free_runners_are_ready (world n) (place_of n who) t g unheld there (rw (unheld (path n who.space), awake.0, awake.1, e) refl) e)
      by_mode t there awake (Calling todo rest) e is = absurd (cc)
      by_mode t there awake (Halted g code) e is = absurd (cc)
      by_mode t there awake (Native g) e is = absurd (cc)

      by : (o : Option Thread) → thread_at (world n) (place_of n who) ≡ o → holds is_under_way o ≡ true → IsMoveReady (world n) (place_of n who)
      by None there is = absurd (cc)
      by (Some t) there is = by_mode t there ((apart t is).1, (apart t is).2) t.mode refl (apart t is).0

-- one that goes quietly is a user's
pub quiet_user : (n : Contents) (who : Who) → goes_quietly_at n who ≡ true → is_user_at n who ≡ true
quiet_user n who is = by (thread_at (world n) (place_of n who)) is
  where
    no_porter : (k : Mode) → is_quiet_mode k ≡ true → not (is_porter k) ≡ true
    no_porter (Running g) is = refl
    no_porter (Calling todo rest) is = refl
    no_porter (Halted g code) is = absurd (cc)
    no_porter (Native g) is = absurd (cc)

    by : (o : Option Thread) → holds goes_quietly o ≡ true → holds (λ (t : Thread). not (is_porter t.mode)) o ≡ true
    by None is = absurd (cc)
    by (Some t) is = no_porter t.mode (and_parts (is_quiet_mode t.mode) (is_none t.fault) is).0

-- without a fault, at a stage at which no other thread reaches it
pub quiet_at : (p : ℕ → Path) (t : threads_of.Thread) (stage : Stage) (r : Bool) → is_some t.fault ≡ false →
    Some stage ≡ first_stage (thread_by p t).mode → r ≡ is_reachable_stage stage → OnTrue (not r) (goes_quietly (thread_by p t) ≡ true)
quiet_at p t stage true fault at is = tt
quiet_at p t stage false fault at is = rw (mode (thread_by p t).mode (sym at) (sym is), faultless t.fault fault) refl
  where
    faultless : (o : Option _) → is_some o ≡ false → is_none (option_map (fault_by p) o) ≡ true
    faultless None is = refl
    faultless (Some fault) is = absurd (cc)

    mode : (k : Mode) → first_stage k ≡ Some stage → is_reachable_stage stage ≡ false → is_quiet_mode k ≡ true
    mode (Running g) first off = refl
    mode (Calling todo rest) first off = rw (first, off) refl
    mode (Halted g code) first off = absurd (cc)
    mode (Native g) first off = absurd (cc)

pub on_going : {P : Type 0} (b g : Bool) → b ≡ g → (g ≡ true → P) → OnTrue b P
on_going true g e f = f (sym e)
on_going false g e f = tt

pub on_right : (P Q : Type 0) (b : Bool) → OnTrue b Q → OnTrue b (P ⊎ Q)
on_right P Q true q = inr q
on_right P Q false q = tt

pub anyway : {P : Type 0} (b : Bool) → P → OnTrue b P
anyway true p = p
anyway false p = tt

pub off_anyway : {P : Type 0} (b : Bool) → P → OnFalse b P
off_anyway true p = tt
off_anyway false p = p

pub alone_if : (t : Touched) → touches_nobody t ≡ true → t ≡ Few None None None
alone_if (Few None None None) is = refl
alone_if (Few (Some a) second third) is = absurd (cc)
alone_if (Few None (Some b) third) is = absurd (cc)
alone_if (Few None None (Some c)) is = absurd (cc)
alone_if (Makes object) is = absurd (cc)
alone_if Any is = absurd (cc)
alone_if (Dies object) is = absurd (cc)
alone_if (Moves object slot) is = absurd (cc)

-- what is said of an instruction isn't said of another move
pub not_quiet : (n : Contents) (mover : Who) (touched : Touched) (waits marks : Lists) → MayBeQuiet n mover false touched waits marks
not_quiet n mover touched waits marks = λ never alone on. absurd (cc)

-- who touched nobody touched nobody else
pub nobody_else : (mover : Who) (t : Touched) → touches_nobody t ≡ true → touches_only mover t ≡ true
nobody_else mover (Few None None None) is = refl
nobody_else mover (Few (Some a) second third) is = absurd (cc)
nobody_else mover (Few None (Some b) third) is = absurd (cc)
nobody_else mover (Few None None (Some c)) is = absurd (cc)
nobody_else mover (Makes object) is = absurd (cc)
nobody_else mover Any is = absurd (cc)
nobody_else mover (Dies object) is = absurd (cc)
nobody_else mover (Moves object slot) is = absurd (cc)

-- nobody else is told
module _ (mover : Who) where
  off_own : (o : Option Who) → is_own mover o ≡ true → (x : Who) → is_same mover x ≡ false → is_it o x ≡ false
  off_own None own x off = refl
  off_own (Some who) own x off = ap (λ (w : Who). is_same w x) (same_who who mover own) ∙ off

  pub told_alone : (t : Touched) → touches_only mover t ≡ true → (x : Who) → is_same mover x ≡ false → is_told mover t x ≡ false
  told_alone (Few first second third) alone x off =
      let one = and_parts (is_own mover first) (is_own mover second && is_own mover third) alone in
      let two = and_parts (is_own mover second) (is_own mover third) one.1 in
      or_from (is_same mover x) (is_named (Few first second third) x) off
      (or_from (is_it first x) (is_it second x || is_it third x) (off_own first one.0 x off)
      (or_from (is_it second x) (is_it third x) (off_own second two.0 x off) (off_own third two.1 x off)))
  told_alone (Makes object) alone x off = absurd (cc)
  told_alone Any alone x off = absurd (cc)
  told_alone (Dies object) alone x off = absurd (cc)
  told_alone (Moves object slot) alone x off = absurd (cc)

  pub narrow : (t : Touched) → touches_only mover t ≡ true → is_wide t ≡ false
  narrow (Few first second third) alone = refl
  narrow (Makes object) alone = absurd (cc)
  narrow Any alone = absurd (cc)
  narrow (Dies object) alone = absurd (cc)
  narrow (Moves object slot) alone = absurd (cc)

  pub named_alone : (t : Touched) → touches_only mover t ≡ true → now_named mover t ≡ mover
  named_alone (Few first second third) alone = refl
  named_alone (Makes object) alone = absurd (cc)
  named_alone Any alone = absurd (cc)
  named_alone (Dies object) alone = absurd (cc)
  named_alone (Moves object slot) alone = absurd (cc)

pub turned_if : (b : Bool) (who : Who) (waits marks now then_marks : Lists) → OnTrue b (now ≡ woken who waits) → OnTrue b (stands who waits ≡ true) →
    OnTrue b (marks.ready ≡ []) → then_marks ≡ marks → OnTrue b (IsTurned who waits marks now then_marks)
turned_if true who waits marks now then_marks turned stood none same = record { turned = turned; stood = stood; none = none; same = same }
turned_if false who waits marks now then_marks turned stood none same = tt

-- ---- the lists

abbrev nobody : Touched
nobody = Few None None None

-- a move leaves the reasons of all others that are queued, but of whom any change may free
abbrev pub Leaves : Contents → Contents → Who → Lists → Type 0
Leaves m n mover marks = (x : Who) (why : Why) → is_same mover x ≡ false → is_user_at m x ≡ true → IsFiledAs marks x why →
    IsWhy (world m) (path m) (place_of m x) why → (why ≡ whys.Barred → ⊥) → IsWhy (world n) (path n) (place_of n x) why

-- so does an instruction
left_quiet : (m n : Contents) (mover : Who) (marks : Lists) → IsQuietTo m n mover → Leaves m n mover marks
left_quiet m n mover marks quiet x why other user filed is some = quiet.quiet x why other user some is

-- and so does any move that touches nobody else, where nobody is queued whom any move may free
module _ (m n : Contents) (mover : Who) (touched : Touched) (alone : touches_only mover touched ≡ true) (marks : Lists) (moved : IsMoved m n mover touched)
    (own : is_user_at m mover ≡ true) (hushed : is_cause loud_cause marks.queued ≡ false) where
  -- who moved is nothing that a reason reads
  aside : (key : Who) → thread_at (world m) (place_of m key) ≡ None → is_same mover key ≡ false
  aside key lone = unlike (is_same mover key) refl
    where
      unlike : (t : Bool) → is_same mover key ≡ t → is_same mover key ≡ false
      unlike false e = e
      unlike true e =
          clash (is_user_at m key) (subst (λ (w : Who). is_user_at m w ≡ true) (same_who mover key e) own)
          (ap (holds (λ (t : Thread). not (is_porter t.mode))) lone)

  pub left_hushed : Leaves m n mover marks
  left_hushed x whys.Still other user filed is some =
      moved.stays (narrow mover touched alone) x whys.Still (told_alone mover touched alone x other) tt user is
  left_hushed x (whys.At key) other user filed is some =
      moved.stays (narrow mover touched alone) x (whys.At key) (told_alone mover touched alone x other)
      (told_alone mover touched alone key (aside key (key_lone (world m) (place_of m x) (place_of m key) is))) user is
  left_hushed x whys.Loud other user filed is some =
      clash (is_cause loud_cause marks.queued) (waits_cause loud_cause x marks.queued filed) hushed
  left_hushed x whys.Barred other user filed is some = absurd (some refl)

module _ (m n : Contents) (mover : Who) (touched : Touched) (alone : touches_only mover touched ≡ true) (waits marks now then_marks : Lists)
    (kept : AreKept m waits marks) (moved : IsMoved m n mover touched) (turned : IsTurned mover waits marks now then_marks)
    (user : is_user_at n mover ≡ true) where
  each_went : (x : Who) → stands x now ≡ is_user_at n x
  each_went x = ap (stands x) turned.turned ∙ stands_woken mover x waits ∙ by (is_same mover x) refl
    where
      by : (t : Bool) → is_same mover x ≡ t → (t || stands x waits) ≡ is_user_at n x
      by true e = sym user ∙ ap (is_user_at n) (same_who mover x e)
      by false e = kept.each x ∙ sym (moved.users x (told_alone mover touched alone x e))

  filed_went : Leaves m n mover (all_marks waits marks) → (x : Who) → is_queued x now.queued ≡ true → IsFiled n (all_marks now then_marks) x
  filed_went left x here = by was.why was.stuck was.filed
    where
      there : is_queued x (without_queued mover waits.queued) ≡ true
      there = ap (λ (l : Lists). is_queued x l.queued) (sym turned.turned) ∙ here

      was : IsFiled m (all_marks waits marks) x
      was = kept.filed x (queued_less x mover waits.queued there)

      other : is_same mover x ≡ false
      other = apart (is_same mover x) refl
        where
          apart : (t : Bool) → is_same mover x ≡ t → is_same mover x ≡ false
          apart true e =
              clash (is_queued mover (without_queued mover waits.queued))
              (subst (λ (w : Who). is_queued w (without_queued mover waits.queued) ≡ true) (sym (same_who mover x e)) there) (queued_off mover waits.queued)
          apart false e = e

      was_user : is_user_at m x ≡ true
      was_user = sym (kept.each x) ∙ or_right (is_in x waits.ready) (is_queued x waits.queued) (queued_less x mover waits.queued there)

      still : (key : Who) → waits_at key x (marks.queued ++ waits.queued) ≡ true → waits_at key x (then_marks.queued ++ now.queued) ≡ true
      still key is = of (waits_split key x marks.queued waits.queued is)
        where
          of : (waits_at key x marks.queued ≡ true) ⊎ (waits_at key x waits.queued ≡ true) → waits_at key x (then_marks.queued ++ now.queued) ≡ true
          of (inl here) = waits_more key x then_marks.queued now.queued (ap (λ (l : Lists). waits_at key x l.queued) turned.same ∙ here)
          of (inr here) =
              waits_behind key x then_marks.queued now.queued
              (ap (λ (l : Lists). waits_at key x l.queued) turned.turned ∙ waits_other key x mover waits.queued other here)

      by : (y : Why) → IsWhy (world m) (path m) (place_of m x) y → IsFiledAs (all_marks waits marks) x y → IsFiled n (all_marks now then_marks) x
      by whys.Still s f = record { why = whys.Still; stuck = left x whys.Still other was_user f s (λ e. cc); filed = tt }
      by (whys.At key) s f = record {
        why = whys.At key;
        stuck = left x (whys.At key) other was_user f s (λ e. cc);
        filed = (f.0, still key f.1);
      }
      by whys.Loud s f = record {
        why = whys.Loud;
        stuck = left x whys.Loud other was_user f s (λ e. cc);
        filed = still loud_cause f;
      }
      by whys.Barred s f = clash (is_in x marks.ready) f (ap (is_in x) turned.none)

  pub kept_went : Leaves m n mover (all_marks waits marks) → IsSound now then_marks → AreKept n now then_marks
  kept_went left sound = record { each = each_went; sound = sound; filed = filed_went left }

  -- nobody was queued at all
  pub kept_none : waits.queued ≡ [] → IsSound now then_marks → AreKept n now then_marks
  kept_none none sound = record {
    each = each_went;
    sound = sound;
    filed = λ x here.
        clash (is_queued x now.queued) here
        (ap (λ (l : Lists). is_queued x l.queued) turned.turned ∙ ap (λ (q : List (Who × Who)). is_queued x (without_queued mover q)) none);
  }

-- an instruction after which it runs on
pub kept_on : (n : Contents) (mover : Who) (waits marks now then_marks : Lists) → IsQuietFrom n mover waits marks → IsTurned mover waits marks now then_marks →
    is_user_at n mover ≡ true → IsSound now then_marks → AreKept n now then_marks
kept_on n mover waits marks now then_marks from turned user sound =
    kept_went from.before n mover nobody refl waits marks now then_marks from.kept from.moved turned user
    (left_quiet from.before n mover (all_marks waits marks) from.quiet) sound

-- ---- who moved stays where it stands

-- who can move isn't queued
pub free_when_ready : (m : Contents) (waits marks : Lists) (who : Who) (pick : Option Path) → IsValid (world m) → (world m).next ≤ depth →
    AreKept m waits marks → IsReady (world m) (place_of m who) pick asks.Run → is_queued who waits.queued ≡ false
free_when_ready m waits marks who pick valid few kept ready = by (is_queued who waits.queued) refl
  where
    by : (b : Bool) → is_queued who waits.queued ≡ b → is_queued who waits.queued ≡ false
    by false e = e
    by true e = absurd (queued_unready m waits marks valid few kept who e pick ready)

module _ (m n : Contents) (mover : Who) (waits marks : Lists) (kept : AreKept m waits marks) (moved : IsMoved m n mover nobody)
    (left : Leaves m n mover (all_marks waits marks)) (free : is_queued mover waits.queued ≡ false) (none : marks.ready ≡ [])
    (user : is_user_at n mover ≡ true) where
  beside : (x : Who) → is_same mover x ≡ false → is_told mover nobody x ≡ false
  beside x e = or_from (is_same mover x) (is_named nobody x) e refl

  each_stays : (x : Who) → stands x waits ≡ is_user_at n x
  each_stays x = by (is_same mover x) refl
    where
      by : (t : Bool) → is_same mover x ≡ t → stands x waits ≡ is_user_at n x
      by true e =
          let here : is_user_at n x ≡ true = subst (λ (w : Who). is_user_at n w ≡ true) (same_who mover x e) user in
          kept.each x ∙ moved.grown x here refl ∙ sym here
      by false e = kept.each x ∙ sym (moved.users x (beside x e))

  filed_stays : (x : Who) → is_queued x waits.queued ≡ true → IsFiled n (all_marks waits marks) x
  filed_stays x here = by was.why was.stuck was.filed
    where
      was : IsFiled m (all_marks waits marks) x
      was = kept.filed x here

      other : is_same mover x ≡ false
      other = apart (is_same mover x) refl
        where
          apart : (t : Bool) → is_same mover x ≡ t → is_same mover x ≡ false
          apart true e =
              clash (is_queued mover waits.queued) (subst (λ (w : Who). is_queued w waits.queued ≡ true) (sym (same_who mover x e)) here) free
          apart false e = e

      was_user : is_user_at m x ≡ true
      was_user = sym (kept.each x) ∙ or_right (is_in x waits.ready) (is_queued x waits.queued) here

      by : (y : Why) → IsWhy (world m) (path m) (place_of m x) y → IsFiledAs (all_marks waits marks) x y → IsFiled n (all_marks waits marks) x
      by whys.Still s f = record { why = whys.Still; stuck = left x whys.Still other was_user f s (λ e. cc); filed = tt }
      by (whys.At key) s f = record { why = whys.At key; stuck = left x (whys.At key) other was_user f s (λ e. cc); filed = f }
      by whys.Loud s f = record { why = whys.Loud; stuck = left x whys.Loud other was_user f s (λ e. cc); filed = f }
      by whys.Barred s f = clash (is_in x marks.ready) f (ap (is_in x) none)

  kept_where : AreKept n waits marks
  kept_where = record { each = each_stays; sound = kept.sound; filed = filed_stays }

pub kept_stay : (n : Contents) (mover : Who) (waits marks : Lists) → IsQuietFrom n mover waits marks → marks.ready ≡ [] → is_user_at n mover ≡ true →
    AreKept n waits marks
kept_stay n mover waits marks from none user =
    kept_where from.before n mover waits marks from.kept from.moved (left_quiet from.before n mover (all_marks waits marks) from.quiet) from.free none user

pub kept_still : (n : Contents) (mover : Who) (ran : Bool) (touched : Touched) (waits marks : Lists) → MayBeQuiet n mover ran touched waits marks →
    ran ≡ true → touched ≡ nobody → runs_on_at n mover ≡ true → marks.ready ≡ [] → is_user_at n mover ≡ true → AreKept n waits marks
kept_still n mover ran touched waits marks quiet so alone on none user = kept_stay n mover waits marks (quiet so alone on) none user

-- whichever it was
pub kept_quick : (n : Contents) (mover : Who) (ran : Bool) (touched : Touched) (waits marks now then_marks : Lists) → ComesAfter n mover touched waits marks →
    MayBeQuiet n mover ran touched waits marks → touches_only mover touched ≡ true → IsGentle mover touched ran waits marks →
    (ran ≡ true → runs_on_at n mover ≡ true) → IsTurned mover waits marks now then_marks → is_user_at n mover ≡ true → IsSound now then_marks →
    AreKept n now then_marks
kept_quick n mover ran touched waits marks now then_marks comes quiet alone (inl so) on turned user sound =
    kept_on n mover waits marks now then_marks (quiet so.0 so.1 (on so.0)) turned user sound
kept_quick n mover ran touched waits marks now then_marks comes quiet alone (inr (inl none)) on turned user sound =
    kept_none comes.before n mover touched alone waits marks now then_marks comes.kept comes.moved turned user none sound
kept_quick n mover ran touched waits marks now then_marks comes quiet alone (inr (inr hushed)) on turned user sound =
    kept_went comes.before n mover touched alone waits marks now then_marks comes.kept comes.moved turned user
    (left_hushed comes.before n mover touched alone (all_marks waits marks) comes.moved (sym (comes.kept.each mover) ∙ turned.stood) hushed) sound

pub length_none : {A : Type 0} (n : ℕ) (l : List A) → n ≡ length l → OnTrue (n == 0) (l ≡ [])
length_none n [] e = anyway (n == 0) refl
length_none n (x ∷ l) e = by (n == 0) refl
  where
    by : (b : Bool) → (n == 0) ≡ b → OnTrue b (x ∷ l ≡ [])
    by true h = let none : 0 ≡ length (x ∷ l) = sym (eqb-true n 0 h) ∙ e in absurd (cc)
    by false h = tt
