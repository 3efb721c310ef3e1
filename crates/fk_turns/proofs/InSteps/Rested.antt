-- Rested: the lists stand as they are after a move that touched nobody else, of a thread that isn't queued, where those that are queued are calm.
use Rattle.std.proofs.Common.{◌≡◌, ◌≤◌, inl, inr, Bool, true, false, None, [], refl, sym, ap, subst, ◌∙◌}
use Rattle.std.proofs.lemmas.Bool.{or_right}
use Rattle.std.specs.Bool.{OnTrue, OnFalse}
use Rattle.fk_model.specs.declared.moves.Ask.TheVariants as asks
use Rattle.fk_model.specs.declared.names.Who.{Who}
use Rattle.fk_model.specs.Searches.{depth}
use Rattle.fk_model.specs.Valid.{IsValid}
use Rattle.fk_store.specs.Store.Contents.{Contents}
use Rattle.fk_store.specs.Store.Paths.{path}
use Rattle.fk_store.specs.Store.World.{world, place_of}
use Rattle.fk_waits.specs.Causes.Names.{is_same}
use Rattle.fk_waits.specs.Turns.Turns.{all_marks}
use Rattle.fk_waits.specs.Waits.Lists.{is_in, is_queued, stands, Lists}
use Rattle.fk_waits.proofs.InCauses.Numbers.{clash}
use Rattle.fk_waits.proofs.InCauses.Order.{same_who}
use Rattle.fk_plans.specs.declared.wakes.touching.Touched.{Touched}
use Rattle.fk_plans.specs.declared.wakes.touching.Touched.TheVariants.{Any, Dies, Few, Makes, Moves}
use Rattle.fk_turns.specs.Moved.Kept.{is_user_at, AreKept, IsFiled, IsFiledAs}
use Rattle.fk_turns.specs.Moved.Moved.{is_put, IsMoved}
use Rattle.fk_turns.specs.Next.Judgements.{IsReadyMove}
use Rattle.fk_turns.specs.Next.Waiting.{ComesAfter}
use Rattle.fk_turns.specs.Steps.Steps.{touches_only, IsCalm}
use Rattle.fk_turns.specs.declared.whys.whys.Why.{Why}
use Rattle.fk_turns.specs.declared.whys.whys.Why.TheVariants as whys
use Rattle.fk_turns.specs.Whys.Whys.{IsWhy}
use Rattle.fk_turns.proofs.InSteps.Went.{free_when_ready, left_hushed, told_alone, Leaves}

-- who has made a move wasn't queued
pub free_made : (P : Type 0) (m : Contents) (who : Who) (waits marks : Lists) (b : Bool) → IsValid (world m) → (world m).next ≤ depth →
    AreKept m waits marks → OnTrue b (IsReadyMove m (record { who = who; pick = None }) asks.Run × P) → OnTrue b (is_queued who waits.queued ≡ false)
free_made P m who waits marks true valid few kept made = free_when_ready m waits marks who None valid few kept made.0
free_made P m who waits marks false valid few kept made = tt

-- what holds of a move that was made holds of it where it was made
pub where_made : (P : Type 0) (stays made : Bool) → OnTrue made (OnFalse stays P) → OnFalse stays (OnTrue made P)
where_made P true made p = tt
where_made P false true p = p
where_made P false false p = tt

-- what touches nobody else puts nothing anywhere
put_alone : (mover : Who) (t : Touched) (x : Who) → touches_only mover t ≡ true → is_put t x ≡ false
put_alone mover (Few first second third) x alone = refl
put_alone mover (Makes object) x alone = absurd (cc)
put_alone mover Any x alone = refl
put_alone mover (Dies object) x alone = refl
put_alone mover (Moves object slot) x alone = absurd (cc)

module _ (m n : Contents) (mover : Who) (touched : Touched) (alone : touches_only mover touched ≡ true) (waits marks : Lists) (kept : AreKept m waits marks)
    (moved : IsMoved m n mover touched) (calm : IsCalm waits marks) (free : is_queued mover waits.queued ≡ false) (none : marks.ready ≡ [])
    (user : is_user_at n mover ≡ true) where
  own : is_user_at m mover ≡ true
  own = moved.grown mover user (put_alone mover touched mover alone)

  each_rests : (x : Who) → stands x waits ≡ is_user_at n x
  each_rests x = by (is_same mover x) refl
    where
      by : (t : Bool) → is_same mover x ≡ t → stands x waits ≡ is_user_at n x
      by true e =
          let was : is_user_at m x ≡ true = subst (λ (w : Who). is_user_at m w ≡ true) (same_who mover x e) own in
          let is : is_user_at n x ≡ true = subst (λ (w : Who). is_user_at n w ≡ true) (same_who mover x e) user in
          kept.each x ∙ was ∙ sym is
      by false e = kept.each x ∙ sym (moved.users x (told_alone mover touched alone x e))

  -- each reason that isn't read off who moved stands
  filed_left : Leaves m n mover (all_marks waits marks) → (x : Who) → is_queued x waits.queued ≡ true → IsFiled n (all_marks waits marks) x
  filed_left left x here = by was.why was.stuck was.filed
    where
      was : IsFiled m (all_marks waits marks) x
      was = kept.filed x here

      other : is_same mover x ≡ false
      other = apart (is_same mover x) refl
        where
          apart : (t : Bool) → is_same mover x ≡ t → is_same mover x ≡ false
          apart true e =
              clash (is_queued mover waits.queued) (subst (λ (w : Who). is_queued w waits.queued ≡ true) (sym (same_who mover x e)) here) free
          apart false e = e

      was_user : is_user_at m x ≡ true
      was_user = sym (kept.each x) ∙ or_right (is_in x waits.ready) (is_queued x waits.queued) here

      by : (y : Why) → IsWhy (world m) (path m) (place_of m x) y → IsFiledAs (all_marks waits marks) x y → IsFiled n (all_marks waits marks) x
      by whys.Still s f = record { why = whys.Still; stuck = left x whys.Still other was_user f s (λ e. cc); filed = tt }
      by (whys.At key) s f = record { why = whys.At key; stuck = left x (whys.At key) other was_user f s (λ e. cc); filed = f }
      by whys.Loud s f = record { why = whys.Loud; stuck = left x whys.Loud other was_user f s (λ e. cc); filed = f }
      by whys.Barred s f = clash (is_in x marks.ready) f (ap (is_in x) none)

  filed_rests : IsCalm waits marks → (x : Who) → is_queued x waits.queued ≡ true → IsFiled n (all_marks waits marks) x
  filed_rests (inl nobody) x here = clash (is_queued x waits.queued) here (ap (is_queued x) nobody)
  filed_rests (inr hushed) x here =
      filed_left (left_hushed m n mover touched alone (all_marks waits marks) moved own hushed) x here

  pub kept_rests : AreKept n waits marks
  kept_rests = record { each = each_rests; sound = kept.sound; filed = filed_rests calm }

pub kept_rested : (n : Contents) (mover : Who) (touched : Touched) (waits marks : Lists) → ComesAfter n mover touched waits marks →
    touches_only mover touched ≡ true → IsCalm waits marks → is_queued mover waits.queued ≡ false → marks.ready ≡ [] → is_user_at n mover ≡ true →
    AreKept n waits marks
kept_rested n mover touched waits marks comes alone calm free none user =
    kept_rests comes.before n mover touched alone waits marks comes.kept comes.moved calm free none user
