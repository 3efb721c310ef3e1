-- Placed: the lists once a thread that can move is woken again.
use Rattle.std.proofs.Common.{◌≡◌, ◌||◌, Bool, true, false, refl, sym, ap, ◌∙◌}
use Rattle.fk_model.specs.declared.names.Who.{Who}
use Rattle.fk_store.specs.Store.Contents.{Contents}
use Rattle.fk_store.specs.Store.World.{world, place_of}
use Rattle.fk_waits.specs.Turns.Turns.{all_marks, AreMet, IsLess, IsSound}
use Rattle.fk_waits.proofs.InTurns.Roused.{met_both}
use Rattle.fk_waits.proofs.InTurns.Woken.{stands_woken}
use Rattle.fk_waits.specs.Waits.Lists.{is_queued, stands, without, without_queued, woken, Lists}
use Rattle.fk_waits.specs.Causes.Names.{is_same}
use Rattle.fk_waits.proofs.InCauses.Order.{same_who}
use Rattle.fk_turns.specs.Moved.Kept.{is_user_at, AreKept, IsFiled}
use Rattle.fk_turns.specs.Moved.Settled.{IsSettled}
use Rattle.fk_turns.proofs.InMoved.After.{refiled_met}
use Rattle.fk_turns.specs.Next.Waiting.{standing, IsMoveReady, IsPlaced}

module _ (m : Contents) (who : Who) (waits marks now then_marks : Lists) (kept : AreKept m waits marks) (user : is_user_at m who ≡ true)
    (woke : now ≡ woken who waits) (met : AreMet marks then_marks now) (less : IsLess waits now) where
  each_woken : (x : Who) → stands x now ≡ is_user_at m x
  each_woken x = ap (stands x) woke ∙ stands_woken who x waits ∙ by (is_same who x) refl
    where
      by : (t : Bool) → is_same who x ≡ t → (t || stands x waits) ≡ is_user_at m x
      by true e = sym user ∙ ap (is_user_at m) (same_who who x e)
      by false e = kept.each x

  filed_woken : (x : Who) → is_queued x now.queued ≡ true → IsFiled m (all_marks now then_marks) x
  filed_woken x here = refiled_met m (all_marks waits marks) (all_marks now then_marks) now x (kept.filed x (less.queued x here))
      (met_both waits marks now then_marks met less) here

  pub kept_woken : IsSound now then_marks → AreKept m now then_marks
  kept_woken sound = record { each = each_woken; sound = sound; filed = filed_woken }

-- who is woken stands last of the ready
pub placed_woken : (m : Contents) (who : Who) (waits now : Lists) → now ≡ woken who waits →
    IsMoveReady (world m) (place_of m who) → IsPlaced m (standing now) who
placed_woken m who waits now woke up = record {
  ready = λ is. record { front = without who waits.ready; ready = ap (λ (l : Lists). l.ready) woke };
  queued = λ no. absurd (no up);
}

-- and who is settled last of the queued
pub placed_settled : (m : Contents) (who : Who) (waits now : Lists) → IsSettled m who waits now →
    (IsMoveReady (world m) (place_of m who) → ⊥) → IsPlaced m (standing now) who
placed_settled m who waits now settled unready = record {
  ready = λ up. absurd (unready up);
  queued = λ no. record {
    front = without_queued who waits.queued;
    cause = settled.cause;
    queued = ap (λ (l : Lists). l.queued) settled.queued;
    where_it_waits = settled.where_it_waits;
  };
}
