-- Beside: the lists after a stage, where nobody is queued, and what it touched besides who moved is no user's thread and was none.
use Rattle.std.proofs.Common.{◌≡◌, ◌||◌, ℕ, if◌then◌else◌, Bool, true, false, List, [], Option, Some, None, refl, sym, ap, subst, ◌∙◌}
use Rattle.std.proofs.lemmas.Bool.{or_from}
use Rattle.std.specs.Bool.{OnTrue}
use Rattle.std.specs.Prelude.{IsTrue}
use Rattle.fk_model.specs.declared.moves.Ask.TheVariants as asks
use Rattle.fk_model.specs.declared.names.Who.{Who}
use Rattle.fk_store.specs.Store.Contents.{Contents}
use Rattle.fk_store.specs.Store.Names.{at}
use Rattle.fk_store.specs.Store.World.{world, place_of}
use Rattle.fk_waits.specs.Turns.Turns.{IsSound}
use Rattle.fk_waits.proofs.InTurns.Woken.{stands_woken}
use Rattle.fk_turns.specs.Moved.Kept.{is_user_at, AreKept}
use Rattle.fk_turns.specs.Moved.Moved.{is_it, is_named, now_named}
use Rattle.fk_turns.specs.Next.Judgements.{IsReadyMove}
use Rattle.fk_turns.specs.Next.Waiting.{ComesAfter, IsMoveReady}
use Rattle.fk_waits.specs.Waits.Lists.{is_queued, stands, without_queued, Lists}
use Rattle.fk_waits.proofs.InCauses.Numbers.{clash}
use Rattle.fk_waits.specs.Causes.Names.{is_same}
use Rattle.fk_waits.proofs.InCauses.Order.{same_who}
use Rattle.fk_plans.specs.declared.wakes.touching.Touched.{Touched}
use Rattle.fk_plans.specs.declared.wakes.touching.Touched.TheVariants.{Any, Dies, Few, Makes, Moves}
use Rattle.fk_turns.specs.Steps.Steps.{AreApart, IsApartAt, IsOneApart, IsTurned}

pub then_true : {P Q : Type 0} (b : Bool) → (P → Q) → OnTrue b P → OnTrue b Q
then_true true then_so is = then_so is
then_true false then_so is = tt

pub both_true : {P Q R : Type 0} (b : Bool) → (P → Q → R) → OnTrue b P → OnTrue b Q → OnTrue b R
both_true true then_so is also = then_so is also
both_true false then_so is also = tt

pub stays_named : (mover object : Who) (slot : ℕ) → is_same object mover ≡ false → now_named mover (Moves object slot) ≡ mover
stays_named mover object slot off = ap (λ (b : Bool). if b then at object.space slot else mover) off

-- a move is ready where it is so without a pick
pub move_if : (m : Contents) (who : Who) (b : Bool) → (IsTrue b → IsReadyMove m (record { who = who; pick = None }) asks.Run) →
    OnTrue b (IsMoveReady (world m) (place_of m who))
move_if m who true ready = (None, ready (cc))
move_if m who false ready = tt

-- one name
module _ (n : Contents) (mover : Who) (waits : Lists) where
  pub one_named : (who : Who) → IsApartAt n who waits → IsOneApart n mover (Some who) waits
  one_named who apart x other is = subst (λ (w : Who). IsApartAt n w waits) (same_who who x is) apart

  -- it is the mover's
  pub one_own : (who : Who) → is_same mover who ≡ true → IsOneApart n mover (Some who) waits
  one_own who own x other is =
      clash (is_same mover x) (subst (λ (w : Who). is_same mover w ≡ true) (same_who who x is) own) other

  pub one_none : IsOneApart n mover None waits
  one_none x other is = absurd (cc)

  -- a few
  pub few_apart : (first second third : Option Who) → IsOneApart n mover first waits → IsOneApart n mover second waits → IsOneApart n mover third waits →
      AreApart n mover (Few first second third) waits
  few_apart first second third one two three x other named = by (is_it first x) (is_it second x) refl refl named
    where
      by : (s t : Bool) → is_it first x ≡ s → is_it second x ≡ t → (s || (t || is_it third x)) ≡ true → IsApartAt n x waits
      by true t e f is = one x other e
      by false true e f is = two x other f
      by false false e f is = three x other is

  pub made_apart : (object : Who) → IsApartAt n object waits → AreApart n mover (Makes object) waits
  made_apart object apart x other is = subst (λ (w : Who). IsApartAt n w waits) (same_who object x is) apart

  pub dead_apart : (object : Who) → IsApartAt n object waits → AreApart n mover (Dies object) waits
  dead_apart object apart x other is = subst (λ (w : Who). IsApartAt n w waits) (same_who object x is) apart

  pub any_apart : AreApart n mover Any waits
  any_apart x other is = absurd (cc)

  pub shifted_apart : (object : Who) (slot : ℕ) → IsApartAt n object waits → IsApartAt n (at object.space slot) waits →
      AreApart n mover (Moves object slot) waits
  shifted_apart object slot from to x other named = by (is_same object x) refl named
    where
      by : (s : Bool) → is_same object x ≡ s → (s || is_same (at object.space slot) x) ≡ true → IsApartAt n x waits
      by true e is = subst (λ (w : Who). IsApartAt n w waits) (same_who object x e) from
      by false e is = subst (λ (w : Who). IsApartAt n w waits) (same_who (at object.space slot) x is) to

-- lists that are as they were
pub comes_same : (n : Contents) (mover : Who) (touched : Touched) (waits marks now then_marks : Lists) → now ≡ waits → then_marks ≡ marks →
    ComesAfter n mover touched waits marks → ComesAfter n mover touched now then_marks
comes_same n mover touched waits marks now then_marks same also comes =
    subst (λ (l : Lists). ComesAfter n mover touched l then_marks) (sym same)
    (subst (λ (l : Lists). ComesAfter n mover touched waits l) (sym also) comes)

-- the lists then
module _ (n : Contents) (mover : Who) (touched : Touched) (waits marks now then_marks : Lists) (comes : ComesAfter n mover touched waits marks)
    (apart : AreApart n mover touched waits) (none : waits.queued ≡ []) (turned : IsTurned mover waits marks now then_marks)
    (user : is_user_at n mover ≡ true) where
  each_beside : (x : Who) → stands x now ≡ is_user_at n x
  each_beside x = ap (stands x) turned.turned ∙ stands_woken mover x waits ∙ by (is_same mover x) (is_named touched x) refl refl
    where
      by : (s t : Bool) → is_same mover x ≡ s → is_named touched x ≡ t → (s || stands x waits) ≡ is_user_at n x
      by true t e f = sym user ∙ ap (is_user_at n) (same_who mover x e)
      by false true e f = (apart x e f).0 ∙ sym (apart x e f).1
      by false false e f = comes.kept.each x ∙ sym (comes.moved.users x (or_from (is_same mover x) (is_named touched x) e f))

  pub kept_beside : IsSound now then_marks → AreKept n now then_marks
  kept_beside sound = record {
    each = each_beside;
    sound = sound;
    filed = λ x here.
        clash (is_queued x now.queued) here
        (ap (λ (l : Lists). is_queued x l.queued) turned.turned ∙ ap (λ (q : List (Who × Who)). is_queued x (without_queued mover q)) none);
  }
