-- Settled: the lists once a thread is queued that can't move.
use Rattle.std.proofs.Common.{◌≡◌, ◌&&◌, ◌||◌, ◌⊎◌, Bool, true, false, not, [], List, ◌∷◌, ◌++◌, Option, Some, None, is_some, option_map, if◌then◌else◌}
use Rattle.std.proofs.Common.{inl, inr, refl, sym, ap, subst, ◌∙◌}
use Rattle.std.proofs.lemmas.Bool.{or_right}
use Rattle.fk_model.specs.declared.moves.Ask.TheVariants as asks
use Rattle.fk_model.specs.declared.names.Who.{Who}
use Rattle.fk_model.specs.Holds.{is_porter}
use Rattle.fk_model.specs.Moves.{IsReady}
use Rattle.fk_model.specs.Objects.{Body, Thread, and_then, holds, kind_of, thread_of}
use Rattle.fk_model.specs.Places.{Path}
use Rattle.fk_model.specs.Valid.{kind_there}
use Rattle.fk_store.specs.Store.Contents.{Contents}
use Rattle.fk_store.specs.Store.Paths.{path}
use Rattle.fk_store.specs.Store.World.{world, place_of, IsLive}
use Rattle.fk_waits.specs.declared.turns.turns.Mark.{Mark}
use Rattle.fk_waits.specs.declared.turns.turns.Mark.TheVariants as marks_of
use Rattle.fk_waits.specs.Turns.Turns.{all_marks, free_cause, loud_cause, marked_by, waits_at, IsSound}
use Rattle.fk_waits.proofs.InTurns.Woken.{in_last, in_other, queued_last, queued_less, stands_parked, waits_behind, waits_more, waits_other, waits_split}
use Rattle.fk_waits.specs.Waits.Lists.{is_in, is_queued, parked, stands, without, without_queued, woken, Lists}
use Rattle.fk_waits.proofs.InCauses.Order.{same_self}
use Rattle.fk_waits.specs.Causes.Names.{is_same}
use Rattle.fk_waits.proofs.InCauses.Order.{same_who}
use Rattle.fk_turns.specs.declared.whys.whys.Why.{Why}
use Rattle.fk_turns.specs.declared.whys.whys.Why.TheVariants as whys
use Rattle.fk_turns.specs.Whys.Whys.{IsWhy}
use Rattle.fk_turns.specs.Moved.Kept.{is_user_at, AreKept, IsFiled}
use Rattle.fk_turns.specs.Moved.Settled.{mark_of}
use Rattle.fk_turns.proofs.InMoved.After.{refiled}

-- a user's thread is live
pub user_live : (m : Contents) (who : Who) → is_user_at m who ≡ true → IsLive m who
unfolding kind_there
user_live m who is = by ((world m).body (place_of m who)) is
  where
    by : (b : Option Body) → holds (λ (t : Thread). not (is_porter t.mode)) (and_then thread_of b) ≡ true → is_some (option_map kind_of b) ≡ true
    by None is = absurd (cc)
    by (Some b) is = refl

-- ---- the queue

-- ---- the marks

still_marked : (mark : Mark) (cause who x : Who) (marks : Lists) → is_same who x ≡ false → is_in x marks.ready ≡ true →
    is_in x (marked_by cause mark who marks).ready ≡ true
still_marked marks_of.Own cause who x marks off is = in_other x who marks.ready off ∙ is
still_marked (marks_of.At key) cause who x marks off is = by (is_same free_cause key) (is_same cause key)
  where
    by : (s t : Bool) → is_in x (if s then woken who marks else (if t then marks else parked who key marks)).ready ≡ true
    by true t =
        in_last x who (without who marks.ready) ∙ ap (λ (t : Bool). t || is_in x (without who marks.ready)) off ∙ in_other x who marks.ready off ∙ is
    by false true = is
    by false false = in_other x who marks.ready off ∙ is
still_marked marks_of.Loud cause who x marks off is = in_other x who marks.ready off ∙ is
still_marked marks_of.Any cause who x marks off is =
    in_last x who (without who marks.ready) ∙ ap (λ (t : Bool). t || is_in x (without who marks.ready)) off ∙ in_other x who marks.ready off ∙ is

still_at : (mark : Mark) (cause key who x : Who) (marks : Lists) → is_same who x ≡ false → waits_at key x marks.queued ≡ true →
    waits_at key x (marked_by cause mark who marks).queued ≡ true
still_at marks_of.Own cause key who x marks off is =
    waits_more key x (without_queued who marks.queued) ((free_cause, who) ∷ []) (waits_other key x who marks.queued off is)
still_at (marks_of.At other) cause key who x marks off is = by (is_same free_cause other) (is_same cause other)
  where
    by : (s t : Bool) → waits_at key x (if s then woken who marks else (if t then marks else parked who other marks)).queued ≡ true
    by true t = waits_other key x who marks.queued off is
    by false true = is
    by false false = waits_more key x (without_queued who marks.queued) ((other, who) ∷ []) (waits_other key x who marks.queued off is)
still_at marks_of.Loud cause key who x marks off is =
    waits_more key x (without_queued who marks.queued) ((loud_cause, who) ∷ []) (waits_other key x who marks.queued off is)
still_at marks_of.Any cause key who x marks off is = waits_other key x who marks.queued off is

now_marked : (who : Who) (marks : Lists) → is_in who (woken who marks).ready ≡ true
now_marked who marks = in_last who who (without who marks.ready) ∙ ap (λ (t : Bool). t || is_in who (without who marks.ready)) (same_self who)

waits_last : (key who : Who) (l : List (Who × Who)) → waits_at key who (l ++ (key, who) ∷ []) ≡ true
waits_last key who [] = rw (same_self key, same_self who) refl
waits_last key who (q ∷ l) = or_right (is_same q.0 key && is_same q.1 who) (waits_at key who (l ++ (key, who) ∷ [])) (waits_last key who l)

module _ (m : Contents) (who cause : Who) (why : Why) (waits marks now then_marks : Lists) (kept : AreKept m waits marks)
    (user : is_user_at m who ≡ true) (unready : (pick : Option Path) → IsReady (world m) (place_of m who) pick asks.Run → ⊥)
    (stuck : IsWhy (world m) (path m) (place_of m who) why) (queued : now ≡ parked who cause waits)
    (marked : then_marks ≡ marked_by cause (mark_of why) who marks) where
  each_settled : (x : Who) → stands x now ≡ is_user_at m x
  each_settled x = ap (stands x) queued ∙ stands_parked who x cause waits ∙ by (is_same who x) refl
    where
      by : (t : Bool) → is_same who x ≡ t → (t || stands x waits) ≡ is_user_at m x
      by true e = sym user ∙ ap (is_user_at m) (same_who who x e)
      by false e = kept.each x

  now_queued : now.queued ≡ without_queued who waits.queued ++ (cause, who) ∷ []
  now_queued = ap (λ (l : Lists). l.queued) queued

  -- the thread itself
  own : (y : Why) → why ≡ y → IsWhy (world m) (path m) (place_of m who) y → IsFiled m (all_marks now then_marks) who
  own whys.Still f s = record { why = whys.Still; stuck = s; filed = tt }
  own (whys.At key) f s = by (is_same free_cause key) (is_same cause key) refl refl
    where
      is : then_marks ≡ (if is_same free_cause key then woken who marks else (if is_same cause key then marks else parked who key marks))
      is = marked ∙ ap (λ (y : Why). marked_by cause (mark_of y) who marks) f

      by : (t u : Bool) → is_same free_cause key ≡ t → is_same cause key ≡ u → IsFiled m (all_marks now then_marks) who
      by true u e g = record {
        why = whys.Barred;
        stuck = unready;
        filed = ap (λ (l : Lists). is_in who l.ready)
            (is ∙ ap (λ (t : Bool). if t then woken who marks else (if is_same cause key then marks else parked who key marks)) e) ∙ now_marked who marks;
      }
      by false true e g = record {
        why = whys.At key;
        stuck = s;
        filed = (
          e,
          waits_behind key who then_marks.queued now.queued
              (ap (waits_at key who) now_queued
              ∙ subst (λ (k : Who). waits_at k who (without_queued who waits.queued ++ (cause, who) ∷ []) ≡ true) (same_who cause key g)
              (waits_last cause who (without_queued who waits.queued))),
        );
      }
      by false false e g = record {
        why = whys.At key;
        stuck = s;
        filed = (
          e,
          waits_more key who then_marks.queued now.queued
              (ap (λ (l : Lists). waits_at key who l.queued)
              (is ∙ ap (λ (t : Bool). if t then woken who marks else (if is_same cause key then marks else parked who key marks)) e
              ∙ ap (λ (t : Bool). if t then marks else parked who key marks) g)
              ∙ waits_last key who (without_queued who marks.queued)),
        );
      }
  own whys.Loud f s = record {
    why = whys.Loud;
    stuck = s;
    filed = waits_more loud_cause who then_marks.queued now.queued
        (ap (λ (l : Lists). waits_at loud_cause who l.queued) (marked ∙ ap (λ (y : Why). marked_by cause (mark_of y) who marks) f)
        ∙ waits_last loud_cause who (without_queued who marks.queued));
  }
  own whys.Barred f s = record {
    why = whys.Barred;
    stuck = s;
    filed = ap (λ (l : Lists). is_in who l.ready) (marked ∙ ap (λ (y : Why). marked_by cause (mark_of y) who marks) f) ∙ now_marked who marks;
  }

  -- the others
  other : (x : Who) → is_same who x ≡ false → IsFiled m (all_marks waits marks) x → IsFiled m (all_marks now then_marks) x
  other x off filed =
      refiled m (all_marks waits marks) (all_marks now then_marks) x filed
      (λ is. ap (λ (l : Lists). is_in x l.ready) marked ∙ still_marked (mark_of why) cause who x marks off is)
      (λ key is. at key (waits_split key x marks.queued waits.queued is))
    where
      at : (key : Who) → (waits_at key x marks.queued ≡ true) ⊎ (waits_at key x waits.queued ≡ true) →
          waits_at key x (then_marks.queued ++ now.queued) ≡ true
      at key (inl is) =
          waits_more key x then_marks.queued now.queued
          (ap (λ (l : Lists). waits_at key x l.queued) marked ∙ still_at (mark_of why) cause key who x marks off is)
      at key (inr is) =
          waits_behind key x then_marks.queued now.queued
          (ap (waits_at key x) now_queued
          ∙ waits_more key x (without_queued who waits.queued) ((cause, who) ∷ []) (waits_other key x who waits.queued off is))

  filed_settled : (x : Who) → is_queued x now.queued ≡ true → IsFiled m (all_marks now then_marks) x
  filed_settled x here = by (is_same who x) refl
    where
      by : (t : Bool) → is_same who x ≡ t → IsFiled m (all_marks now then_marks) x
      by true e = subst (λ (w : Who). IsFiled m (all_marks now then_marks) w) (same_who who x e) (own why refl stuck)
      by false e = other x e (kept.filed x (queued_less x who waits.queued
          (ap (λ (t : Bool). t || is_queued x (without_queued who waits.queued)) (sym e)
          ∙ sym (queued_last x who cause (without_queued who waits.queued)) ∙ ap (λ (l : Lists). is_queued x l.queued) (sym queued) ∙ here)))

  pub kept_settled : IsSound now then_marks → AreKept m now then_marks
  kept_settled sound = record { each = each_settled; sound = sound; filed = filed_settled }
