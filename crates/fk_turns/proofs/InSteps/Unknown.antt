-- Unknown: the lists after a porter's call that touched nothing which stood.
use Rattle.std.proofs.Common.{◌≡◌, ◌≤◌, ◌⊎◌, inl, inr, ◌||◌, ◌&&◌, ℕ, if◌then◌else◌, Bool, true, false, not, List, [], Option, Some, None, refl, sym, ap, subst, ◌∙◌}
use Rattle.std.proofs.Common.{Result, Ok, Err, IfOk}
use Rattle.std.proofs.lemmas.Bool.{or_from, or_left, or_right}
use Rattle.std.specs.Bool.{OnTrue}
use Rattle.fk_model.specs.declared.moves.Ask.TheVariants as asks
use Rattle.fk_model.specs.declared.moves.Move.{Move}
use Rattle.fk_model.specs.declared.names.Who.{Who}
use Rattle.fk_model.specs.declared.stage.Stage.{Stage}
use Rattle.fk_model.specs.Holds.{is_porter, is_unheld}
use Rattle.fk_model.specs.Moves.{call_row, outcome, porter_at, porter_move, GoesAllowed, IsReady}
use Rattle.fk_model.specs.Objects.{Thread, holds}
use Rattle.fk_model.specs.Outcomes.{when}
use Rattle.fk_model.specs.Places.{parent, Path}
use Rattle.fk_model.specs.Searches.{depth, thread_at}
use Rattle.fk_model.specs.Valid.{IsValid}
use Rattle.fk_model.specs.Who.{space_born}
use Rattle.fk_model.specs.World.{World}
use Rattle.fk_store.specs.Store.Contents.{Contents}
use Rattle.fk_store.specs.Store.Moves.{picked_by}
use Rattle.fk_store.specs.Store.Names.{at}
use Rattle.fk_store.specs.Store.Paths.{path, place}
use Rattle.fk_store.specs.Store.World.{world, place_of}
use Rattle.fk_turns.specs.Next.Tellings.{Told}
use Rattle.fk_turns.specs.Next.Judgements.{is_fit_move}
use Rattle.fk_turns.specs.Next.Tried.{IsMade, TellsOf}
use Rattle.fk_waits.specs.Turns.Turns.{all_marks, free_cause, loud_cause, waits_at, AreMet, IsFreed, IsRoused, IsSound}
use Rattle.fk_waits.proofs.InTurns.Roused.{freed_later, gone_later, met_both, met_none, met_then, roused_none, roused_then}
use Rattle.fk_turns.specs.Moved.Kept.{is_user_at, AreKept, IsFiled, IsFiledAs}
use Rattle.fk_turns.specs.Moved.Moved.{is_it, is_named, is_put, is_told, is_wide, now_named, IsMoved}
use Rattle.fk_waits.specs.Waits.Lists.{is_in, is_queued, stands, Lists}
use Rattle.fk_waits.proofs.InCauses.Numbers.{clash}
use Rattle.fk_waits.proofs.InCauses.Order.{same_self}
use Rattle.fk_waits.specs.Causes.Names.{is_same}
use Rattle.fk_waits.proofs.InCauses.Order.{same_who}
use Rattle.fk_plans.specs.declared.wakes.touching.Touched.{Touched}
use Rattle.fk_plans.specs.declared.wakes.touching.Touched.TheVariants.{Any, Dies, Few, Makes, Moves}
use Rattle.fk_turns.specs.declared.whys.whys.Why.{Why}
use Rattle.fk_turns.specs.declared.whys.whys.Why.TheVariants as whys
use Rattle.fk_turns.specs.Whys.Whys.{IsWhy}
use Rattle.fk_turns.proofs.InWhys.Apart.{key_lone}
use Rattle.fk_turns.specs.Steps.Steps.{is_porter_at, may_make, was_made, AreRousedAt, AreUnknown, ComesByPorter, HasSeat, IsApartAt}
use Rattle.fk_turns.proofs.InSteps.Stepped.{comes_by}

-- ---- who calls

-- a porter's call is a porter's
pub porter_calls : (w : World) (x : Path) (pick : Option Path) (stage : Stage) (words : List ℕ) → IsReady w x pick (asks.Call stage words) →
    holds (λ (t : Thread). is_porter t.mode) (thread_at w x) ≡ true
unfolding outcome
porter_calls w x pick stage words ready = by (thread_at w x) ready
  where
    by_mode : (t : Thread) (b : Bool) → is_porter t.mode ≡ b →
        GoesAllowed w x (when (b && is_unheld w (parent x)) (call_row w (porter_at x words) pick stage)) → is_porter t.mode ≡ true
    by_mode t true e up = e
    by_mode t false e up = absurd up

    by : (o : Option Thread) → GoesAllowed w x (porter_move w x pick stage words o) → holds (λ (t : Thread). is_porter t.mode) o ≡ true
    by None up = absurd up
    by (Some t) up = by_mode t (is_porter t.mode) refl up

-- so it comes by one
pub comes_called : {E : Type 0} (m n : Contents) (move : Move) (stage : Stage) (words : List ℕ) (touched : Touched) (waits marks : Lists)
    (valid : IsValid (world m)) (few : (world m).next ≤ depth) (fit : is_fit_move m move (asks.Call stage words) ≡ true)
    (born : path m ≡ space_born (world m)) (born_new : path n ≡ space_born (world n)) (few_new : (world n).next ≤ depth) (r : Result (Option Told) E) →
    AreKept m waits marks → (may_make m move (asks.Call stage words) ≡ true → HasSeat waits marks) → IfOk r (IsMade m move (asks.Call stage words) n) →
    IfOk r (TellsOf m move (asks.Call stage words) touched) → OnTrue (was_made r) (ComesByPorter n move.who touched waits marks)
comes_called m n move stage words touched waits marks valid few fit born born_new few_new (Ok (Some told)) kept room made tells =
    comes_by m n move (asks.Call stage words) valid few fit born born_new few_new touched waits marks kept room told made tells
    (porter_calls (world m) (place (path m) move.who) (picked_by (path m) move.pick) stage words made.0)
comes_called m n move stage words touched waits marks valid few fit born born_new few_new (Ok None) kept room made tells = tt
comes_called m n move stage words touched waits marks valid few fit born born_new few_new (Err e) kept room made tells = tt

-- ---- what was touched

pub one_unknown : (waits : Lists) (who : Who) → stands who waits ≡ false → (x : Who) → is_same who x ≡ true → stands x waits ≡ false
one_unknown waits who off x is = subst (λ (w : Who). stands w waits ≡ false) (same_who who x is) off

module _ (n : Contents) (waits : Lists) where
  few_unknown : (first second third : Option Who) → ((x : Who) → is_it first x ≡ true → stands x waits ≡ false) →
      ((x : Who) → is_it second x ≡ true → stands x waits ≡ false) → ((x : Who) → is_it third x ≡ true → stands x waits ≡ false) →
      AreUnknown n (Few first second third) waits
  few_unknown first second third one two three x named = (by (is_it first x) (is_it second x) refl refl named, λ put. absurd (cc))
    where
      by : (s t : Bool) → is_it first x ≡ s → is_it second x ≡ t → (s || (t || is_it third x)) ≡ true → stands x waits ≡ false
      by true t e f is = one x e
      by false true e f is = two x f
      by false false e f is = three x is

  pub few_if : (first second third : Option Who) (b : Bool) → OnTrue b ((x : Who) → is_it first x ≡ true → stands x waits ≡ false) →
      OnTrue b ((x : Who) → is_it second x ≡ true → stands x waits ≡ false) → OnTrue b ((x : Who) → is_it third x ≡ true → stands x waits ≡ false) →
      OnTrue b (AreUnknown n (Few first second third) waits)
  few_if first second third true one two three = few_unknown first second third one two three
  few_if first second third false one two three = tt

  pub made_unknown : (object : Who) → IsApartAt n object waits → AreUnknown n (Makes object) waits
  made_unknown object apart x is =
      let here : IsApartAt n x waits = subst (λ (w : Who). IsApartAt n w waits) (same_who object x is) apart in (here.0, λ put. here.1)

  pub dead_unknown : (object : Who) → stands object waits ≡ false → AreUnknown n (Dies object) waits
  dead_unknown object off x is = (one_unknown waits object off x is, λ put. absurd (cc))

  pub any_unknown : AreUnknown n Any waits
  any_unknown x named = absurd (cc)

  pub shifted_unknown : (object : Who) (slot : ℕ) → IsApartAt n object waits → IsApartAt n (at object.space slot) waits →
      AreUnknown n (Moves object slot) waits
  shifted_unknown object slot from to x named = let here = by (is_same object x) refl named in (here.0, λ put. here.1)
    where
      by : (s : Bool) → is_same object x ≡ s → (s || is_same (at object.space slot) x) ≡ true → IsApartAt n x waits
      by true e is = subst (λ (w : Who). IsApartAt n w waits) (same_who object x e) from
      by false e is = subst (λ (w : Who). IsApartAt n w waits) (same_who (at object.space slot) x is) to

-- ---- the lists then

-- no user's thread, where a porter is
no_user_there : (o : Option Thread) → holds (λ (t : Thread). is_porter t.mode) o ≡ true → holds (λ (t : Thread). not (is_porter t.mode)) o ≡ false
no_user_there None is = refl
no_user_there (Some t) is = ap not is

some_there : (o : Option Thread) → holds (λ (t : Thread). is_porter t.mode) o ≡ true → o ≡ None → ⊥
some_there None is none = cc
some_there (Some t) is none = cc

module _ (m n : Contents) (mover : Who) (touched : Touched) (waits marks : Lists) (kept : AreKept m waits marks) (moved : IsMoved m n mover touched)
    (unknown : AreUnknown n touched waits) (porter : is_porter_at m mover ≡ true) where
  off : stands mover waits ≡ false
  off = kept.each mover ∙ no_user_there (thread_at (world m) (place_of m mover)) porter

  -- what didn't stand is no user's thread, unless it was put there
  still_none : (x : Who) → stands x waits ≡ false → (is_put touched x ≡ true → is_user_at n x ≡ false) → is_user_at n x ≡ false
  still_none x gone put = by (is_user_at n x) (is_put touched x) refl refl
    where
      by : (u p : Bool) → is_user_at n x ≡ u → is_put touched x ≡ p → is_user_at n x ≡ false
      by false p e f = e
      by true true e f = put f
      by true false e f = clash (stands x waits) (kept.each x ∙ moved.grown x e f) gone

  -- what is put is told
  put_named : (t : Touched) (x : Who) → is_put t x ≡ true → is_named t x ≡ true
  put_named (Few first second third) x put = absurd (cc)
  put_named (Makes object) x put = put
  put_named Any x put = absurd (cc)
  put_named (Dies object) x put = absurd (cc)
  put_named (Moves object slot) x put = by (is_same object x)
    where
      by : (s : Bool) → (s || is_same (at object.space slot) x) ≡ true
      by true = refl
      by false = put

  no_user : (x : Who) → stands x waits ≡ false → is_user_at n x ≡ false
  no_user x gone = still_none x gone (λ put. (unknown x (put_named touched x put)).1 put)

  pub each_unknown : (x : Who) → stands x waits ≡ is_user_at n x
  each_unknown x = by (is_same mover x) (is_named touched x) refl refl
    where
      none : stands x waits ≡ false → stands x waits ≡ is_user_at n x
      none gone = gone ∙ sym (no_user x gone)

      by : (s t : Bool) → is_same mover x ≡ s → is_named touched x ≡ t → stands x waits ≡ is_user_at n x
      by true t e f = none (subst (λ (w : Who). stands w waits ≡ false) (same_who mover x e) off)
      by false true e f = none (unknown x f).0
      by false false e f = kept.each x ∙ sym (moved.users x (or_from (is_same mover x) (is_named touched x) e f))

  -- nor is who moved one, by whatever name
  pub mover_none : is_user_at n (now_named mover touched) ≡ false
  mover_none = by touched refl
    where
      of : (object : Who) (slot : ℕ) → touched ≡ Moves object slot → (s : Bool) → is_user_at n (if s then at object.space slot else mover) ≡ false
      of object slot e true =
          no_user (at object.space slot) (unknown (at object.space slot) (put_named touched (at object.space slot) (rw e (same_self (at object.space slot))))).0
      of object slot e false = no_user mover off

      by : (t : Touched) → touched ≡ t → is_user_at n (now_named mover t) ≡ false
      by (Few first second third) e = no_user mover off
      by (Makes object) e = no_user mover off
      by Any e = no_user mover off
      by (Dies object) e = no_user mover off
      by (Moves object slot) e = of object slot e (is_same object mover)

  -- nobody is queued
  pub kept_unknown : waits.queued ≡ [] → AreKept n waits marks
  kept_unknown none = record { each = each_unknown; sound = kept.sound; filed = λ x here. clash (is_queued x waits.queued) here (ap (is_queued x) none) }

  -- or whom it may have freed is ready
  module _ (few : is_wide touched ≡ false) (told : Who → Bool) (all : (x : Who) → is_named touched x ≡ true → told x ≡ true) (now then_marks : Lists)
      (roused : AreRousedAt told waits marks now then_marks) (gone : (x : Who) → is_in x marks.ready ≡ true → is_queued x now.queued ≡ false)
      (loud : IsFreed loud_cause (all_marks waits marks) now) where
    filed_roused : (x : Who) → is_queued x now.queued ≡ true → IsFiled n (all_marks now then_marks) x
    filed_roused x here = by was.why was.stuck was.filed
      where
        there : is_queued x waits.queued ≡ true
        there = roused.roused.less.queued x here

        was : IsFiled m (all_marks waits marks) x
        was = kept.filed x there

        stood : stands x waits ≡ true
        stood = or_right (is_in x waits.ready) (is_queued x waits.queued) there

        user : is_user_at m x ≡ true
        user = sym (kept.each x) ∙ stood

        none : (b : Bool) → (b ≡ true → stands x waits ≡ false) → b ≡ false
        none true away = clash (stands x waits) stood (away refl)
        none false away = refl

        it : is_told mover touched x ≡ false
        it =
            or_from (is_same mover x) (is_named touched x)
            (none (is_same mover x) (λ e. subst (λ (w : Who). stands w waits ≡ false) (same_who mover x e) off))
            (none (is_named touched x) (λ e. (unknown x e).0))

        -- what may free it isn't told: it is no thread, so not who moved
        apart : (key : Who) → thread_at (world m) (place_of m key) ≡ None → is_same mover key ≡ false
        apart key lone = of (is_same mover key) refl
          where
            of : (b : Bool) → is_same mover key ≡ b → is_same mover key ≡ false
            of true e =
                absurd (some_there (thread_at (world m) (place_of m key))
                (subst (λ (w : Who). is_porter_at m w ≡ true) (same_who mover key e) porter) lone)
            of false e = e

        unnamed : (key : Who) → is_same free_cause key ≡ false → waits_at key x (all_marks waits marks).queued ≡ true → is_named touched key ≡ false
        unnamed key some at = of (is_named touched key) refl
          where
            of : (b : Bool) → is_named touched key ≡ b → is_named touched key ≡ false
            of true e = clash (is_queued x now.queued) here (roused.freed key (all key e) some x at)
            of false e = e

        still : (key : Who) → waits_at key x (all_marks waits marks).queued ≡ true → waits_at key x (all_marks now then_marks).queued ≡ true
        still key at = of (roused.met.keyed key x at)
          where
            of : (waits_at key x (all_marks now then_marks).queued ≡ true) ⊎ (is_queued x now.queued ≡ false) →
                waits_at key x (all_marks now then_marks).queued ≡ true
            of (inl is) = is
            of (inr away) = clash (is_queued x now.queued) here away

        by : (why : Why) → IsWhy (world m) (path m) (place_of m x) why → IsFiledAs (all_marks waits marks) x why → IsFiled n (all_marks now then_marks) x
        by whys.Still s f = record { why = whys.Still; stuck = moved.stays few x whys.Still it tt user s; filed = tt }
        by (whys.At key) s f = record {
          why = whys.At key;
          stuck = moved.stays few x (whys.At key) it
              (or_from (is_same mover key) (is_named touched key) (apart key (key_lone (world m) (place_of m x) (place_of m key) s)) (unnamed key f.0 f.1))
              user s;
          filed = (f.0, still key f.1);
        }
        by whys.Loud s f = clash (is_queued x now.queued) here (loud refl x f)
        by whys.Barred s f = clash (is_queued x now.queued) here (gone x f)

    pub kept_roused : IsSound now then_marks → AreKept n now then_marks
    kept_roused sound = record { each = λ x. roused.roused.stays x ∙ each_unknown x; sound = sound; filed = filed_roused }

  -- a few were touched, or one was made
  pub kept_few : (first second third : Option Who) → touched ≡ Few first second third → (now then_marks : Lists) →
      AreRousedAt (λ (x : Who). is_it first x || (is_it second x || is_it third x)) waits marks now then_marks →
      ((x : Who) → is_in x marks.ready ≡ true → is_queued x now.queued ≡ false) → IsFreed loud_cause (all_marks waits marks) now →
      IsSound now then_marks → AreKept n now then_marks
  kept_few first second third e now then_marks roused gone loud sound =
      kept_roused (ap is_wide e) (λ (x : Who). is_it first x || (is_it second x || is_it third x)) (λ x is. sym (ap (λ (t : Touched). is_named t x) e) ∙ is)
      now then_marks roused gone loud sound

  pub kept_made : (object : Who) → touched ≡ Makes object → (now then_marks : Lists) →
      AreRousedAt (λ (x : Who). is_it (Some object) x || (is_it None x || is_it None x)) waits marks now then_marks →
      ((x : Who) → is_in x marks.ready ≡ true → is_queued x now.queued ≡ false) → IsFreed loud_cause (all_marks waits marks) now →
      IsSound now then_marks → AreKept n now then_marks
  kept_made object e now then_marks roused gone loud sound =
      kept_roused (ap is_wide e) (λ (x : Who). is_it (Some object) x || (is_it None x || is_it None x))
      (λ x is. or_left (is_same object x) false (sym (ap (λ (t : Touched). is_named t x) e) ∙ is))
      now then_marks roused gone loud sound

-- ---- whom some objects may free

pub roused_at : (told : Who → Bool) (waits marks now then_marks : Lists) → IsRoused waits now → AreMet marks then_marks now →
    ((key : Who) → told key ≡ true → IsFreed key (all_marks waits marks) now) → AreRousedAt told waits marks now then_marks
roused_at told waits marks now then_marks roused met freed = record {
  roused = roused;
  met = met_both waits marks now then_marks met roused.less;
  freed = freed;
}

pub roused_nowhere : (waits marks : Lists) → AreRousedAt (λ (x : Who). false) waits marks waits marks
roused_nowhere waits marks = roused_at (λ (x : Who). false) waits marks waits marks (roused_none waits) (met_none marks waits) (λ key is. absurd (cc))

pub roused_both : (p q : Who → Bool) (a am b bm c cm : Lists) → AreRousedAt p a am b bm → AreRousedAt q b bm c cm →
    AreRousedAt (λ (x : Who). p x || q x) a am c cm
roused_both p q a am b bm c cm first second = record {
  roused = roused_then a b c first.roused second.roused;
  met = met_then (all_marks a am) (all_marks b bm) (all_marks c cm) b c first.met second.met second.roused.less;
  freed = λ key is. by key (p key) (q key) refl refl is;
}
  where
    by : (key : Who) (s t : Bool) → p key ≡ s → q key ≡ t → (s || t) ≡ true → IsFreed key (all_marks a am) c
    by key true t e f is = λ named x at. gone_later b c x second.roused.less (first.freed key e named x at)
    by key false true e f is = freed_later key (all_marks a am) (all_marks b bm) b c first.met (second.freed key f) second.roused.less
    by key false false e f is = absurd (cc)
