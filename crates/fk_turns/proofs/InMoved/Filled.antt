-- Filled: the lists while the threads of a store come to them, one after another.
use Rattle.std.proofs.Common.{◌≡◌, ◌&&◌, ◌||◌, Bool, true, false, [], Option, Some, None, refl, sym, ap, ◌∙◌}
use Rattle.std.proofs.lemmas.Bool.{or_right}
use Rattle.fk_changes.proofs.InDeaths.Scans.{passed_all, passed_first, passed_more, ArePassed}
use Rattle.fk_model.specs.declared.names.Who.{Who}
use Rattle.fk_store.specs.Store.Contents.{Contents}
use Rattle.fk_store.specs.Store.Names.{who_cmp}
use Rattle.fk_store.specs.Store.Orders.{IsFirstAfter}
use Rattle.fk_store.specs.Store.World.{IsLive}
use Rattle.fk_waits.specs.Turns.Turns.{IsSound}
use Rattle.fk_waits.proofs.InTurns.Woken.{stands_woken}
use Rattle.fk_waits.specs.Waits.Lists.{is_in, is_queued, stands, woken, Lists}
use Rattle.fk_waits.proofs.InCauses.Order.{same_self}
use Rattle.fk_waits.specs.Causes.Names.{is_same}
use Rattle.fk_waits.proofs.InCauses.Order.{same_who}
use Rattle.fk_turns.specs.Moved.Kept.{is_user_at, AreKept}
use Rattle.fk_turns.proofs.InMoved.Settled.{user_live}

-- ---- one

pub stands_more : (m : Contents) (who : Who) (old now new : Lists) → is_user_at m who ≡ true → now.ready ≡ old.ready → now.queued ≡ old.queued →
    new ≡ woken who now → (x : Who) → stands x new ≡ ((is_same who x && is_user_at m who) || stands x old)
stands_more m who old now new user ready queued is x =
    ap (stands x) is ∙ stands_woken who x now ∙ (λ i. and_true (is_same who x) (is_user_at m who) user i || (is_in x (ready i) || is_queued x (queued i)))
  where
    and_true : (a b : Bool) → b ≡ true → a ≡ (a && b)
    and_true true b is = sym is
    and_true false b is = refl

-- ---- all

-- a user's thread stands
abbrev pub IsIn : Contents → Lists → Who → Type 0
IsIn m waits who = is_user_at m who ≡ true → stands who waits ≡ true

-- only users' threads stand, and each of them does or is yet to come
pub record AreFilled (m : Contents) (waits marks : Lists) (next : Option Who) : Type 0 where
  pub sound : IsSound waits marks
  pub none : waits.queued ≡ []
  pub only : (who : Who) → stands who waits ≡ true → is_user_at m who ≡ true
  pub passed : ArePassed (IsLive m) (IsIn m waits) next

pub filled_first : (m : Contents) (waits marks : Lists) (next : Option Who) → waits.ready ≡ [] → waits.queued ≡ [] → IsSound waits marks →
    IsFirstAfter who_cmp (IsLive m) None next → AreFilled m waits marks next
filled_first m waits marks next ready none sound first = record {
  sound = sound;
  none = none;
  only = λ x here. let off : false ≡ true = (λ i. is_in x (sym ready i) || is_queued x (sym none i)) ∙ here in absurd (cc);
  passed = passed_first (IsLive m) (IsIn m waits) next first;
}

pub filled_more : (m : Contents) (waits marks now then_marks : Lists) (who : Who) (next : Option Who) → AreFilled m waits marks (Some who) →
    IsSound now then_marks → now.queued ≡ [] → ((x : Who) → stands x now ≡ ((is_same who x && is_user_at m who) || stands x waits)) →
    IsFirstAfter who_cmp (IsLive m) (Some who) next → AreFilled m now then_marks next
filled_more m waits marks now then_marks who next filled sound none more first = record {
  sound = sound;
  none = none;
  only = λ x here. by x (is_same who x) refl (sym (more x) ∙ here);
  passed = passed_more (IsLive m) (IsLive m) (IsIn m waits) (IsIn m now) who next filled.passed (λ x live. live)
      (λ x fact user. more x ∙ or_right (is_same who x && is_user_at m who) (stands x waits) (fact user))
      (λ user. more who ∙ ap (λ (t : Bool). (t && is_user_at m who) || stands who waits) (same_self who)
      ∙ ap (λ (t : Bool). t || stands who waits) user) first;
}
  where
    by : (x : Who) (t : Bool) → is_same who x ≡ t → ((t && is_user_at m who) || stands x waits) ≡ true → is_user_at m x ≡ true
    by x true e here = of (is_user_at m who) refl here
      where
        of : (u : Bool) → is_user_at m who ≡ u → (u || stands x waits) ≡ true → is_user_at m x ≡ true
        of true f h = ap (is_user_at m) (sym (same_who who x e)) ∙ f
        of false f h = filled.only x h
    by x false e here = filled.only x here

pub kept_filled : (m : Contents) (waits marks : Lists) → AreFilled m waits marks None → AreKept m waits marks
kept_filled m waits marks filled = record {
  each = λ x. by x (stands x waits) (is_user_at m x) refl refl;
  sound = filled.sound;
  filed = λ x is. let off : false ≡ true = ap (is_queued x) (sym filled.none) ∙ is in absurd (cc);
}
  where
    by : (x : Who) (s u : Bool) → stands x waits ≡ s → is_user_at m x ≡ u → stands x waits ≡ is_user_at m x
    by x true u e f = e ∙ sym (filled.only x e)
    by x false true e f = passed_all (IsLive m) (IsIn m waits) filled.passed x (user_live m x f) f ∙ sym f
    by x false false e f = e ∙ sym f
