-- Passed: those that are passed, and who is queued.
use Rattle.std.proofs.Common.{◌≡◌, ◌||◌, ◌≤◌, ◌<◌, Bool, true, false, [], List, ◌∷◌, ◌++◌, length, Option, Some, arith}
use Rattle.std.proofs.Common.{append_assoc, refl, sym, ap, subst, ◌∙◌, if◌then◌else◌}
use Rattle.std.proofs.lemmas.List.{append-nil}
use Rattle.fk_model.specs.declared.moves.Ask.TheVariants as asks
use Rattle.fk_model.specs.declared.names.Who.{Who}
use Rattle.fk_model.specs.Moves.{IsReady}
use Rattle.fk_model.specs.Places.{Path}
use Rattle.fk_model.specs.Searches.{depth}
use Rattle.fk_model.specs.Valid.{IsValid}
use Rattle.fk_store.specs.Store.Contents.{Contents}
use Rattle.fk_store.specs.Store.Paths.{path}
use Rattle.fk_store.specs.Store.World.{world, place_of}
use Rattle.fk_waits.specs.Waits.Lists.{first_ready, is_in, is_queued, parked, without, Lists, StandOnce}
use Rattle.fk_waits.proofs.InWaits.Listed.{without_none, without_none_queued}
use Rattle.fk_waits.proofs.InCauses.Order.{same_self}
use Rattle.fk_turns.proofs.InWhys.Apart.{why_unready}
use Rattle.fk_turns.specs.Moved.Kept.{AreKept}
use Rattle.fk_turns.specs.Moved.Settled.{IsSettled}
use Rattle.fk_turns.specs.Next.Waiting.{standing, AreParked, ArePassed, AreWaiting, IsMoveReady, IsParked}

-- ---- who is queued

-- can't move
pub queued_unready : (m : Contents) (waits marks : Lists) → IsValid (world m) → (world m).next ≤ depth → AreKept m waits marks → (who : Who) →
    is_queued who waits.queued ≡ true → (pick : Option Path) → IsReady (world m) (place_of m who) pick asks.Run → ⊥
queued_unready m waits marks valid few kept who is pick ready =
    let filed = kept.filed who is in
    why_unready (world m) (path m) (place_of m who) filed.why valid few filed.stuck pick ready

pub are_waiting : (m : Contents) (waits marks : Lists) → IsValid (world m) → (world m).next ≤ depth → AreKept m waits marks → StandOnce waits →
    AreWaiting m waits
are_waiting m waits marks valid few kept once = record {
  each = kept.each;
  once = once;
  unready = λ who is up. queued_unready m waits marks valid few kept who is up.0 up.1;
}

-- ---- those that are passed

pub passed_none : (m : Contents) (old : Lists) → ArePassed m (standing old) (standing old)
passed_none m old = record { passed = []; parked = []; ready = refl; queued = sym (append-nil old.queued); parks = tt }

parked_more : (m : Contents) (passed : List Who) (entries : List (Who × Who)) (who : Who) (entry : Who × Who) → AreParked m passed entries →
    IsParked m who entry → AreParked m (passed ++ who ∷ []) (entries ++ entry ∷ [])
parked_more m [] [] who entry are is = (is, tt)
parked_more m (x ∷ passed) (e ∷ entries) who entry are is = (are.0, parked_more m passed entries who entry are.1 is)
parked_more m [] (e ∷ entries) who entry are is = absurd are
parked_more m (x ∷ passed) [] who entry are is = absurd are

-- the first of the ready, and the rest
record IsFirst (l : List Who) (who : Who) : Type 0 where
  rest : List Who
  is : l ≡ who ∷ rest

is_first : (l : List Who) (who : Who) → Some who ≡ first_ready l → IsFirst l who
is_first [] who e = absurd (cc)
is_first (x ∷ l) who e = record { rest = l; is = by e }
  where
    by : Some who ≡ Some x → x ∷ l ≡ who ∷ l
    by e = cc

without_first : (who : Who) (rest : List Who) → is_in who rest ≡ false → without who (who ∷ rest) ≡ rest
without_first who rest off =
    ap (λ (b : Bool). if b then without who rest else who ∷ without who rest) (same_self who) ∙ without_none who rest off

module _ (m : Contents) (who : Who) (old now after : Lists) (passed : ArePassed m (standing old) (standing now)) (first : Some who ≡ first_ready now.ready)
    (once : StandOnce now)
    (settled : IsSettled m who now after) where
  front : IsFirst now.ready who
  front = is_first now.ready who first

  once_off : is_in who front.rest ≡ false
  once_off = by (subst Once front.is once.ready)
    where
      Once : List Who → Type 0
      Once l = Rattle.fk_waits.specs.Waits.Lists.AreOnce l

      by : Once (who ∷ front.rest) → is_in who front.rest ≡ false
      by both = both.0

  after_ready : after.ready ≡ front.rest
  after_ready = ap (λ (l : Lists). l.ready) settled.queued ∙ ap (without who) front.is ∙ without_first who front.rest once_off

  here : is_in who now.ready ≡ true
  here = ap (is_in who) front.is ∙ ap (λ (b : Bool). b || is_in who front.rest) (same_self who)

  after_queued : after.queued ≡ now.queued ++ (settled.cause, who) ∷ []
  after_queued =
      ap (λ (l : Lists). l.queued) settled.queued
      ∙ ap (λ (l : List (Who × Who)). l ++ (settled.cause, who) ∷ []) (without_none_queued who now.queued (once.apart who here))

  pub passed_more : (IsMoveReady (world m) (place_of m who) → ⊥) → ArePassed m (standing old) (standing after)
  passed_more unready = record {
    passed = passed.passed ++ who ∷ [];
    parked = passed.parked ++ (settled.cause, who) ∷ [];
    ready = passed.ready ∙ ap (λ (l : List Who). passed.passed ++ l) (front.is ∙ ap (λ (l : List Who). who ∷ l) (sym after_ready))
        ∙ sym (append_assoc passed.passed (who ∷ []) after.ready);
    queued = after_queued ∙ ap (λ (l : List (Who × Who)). l ++ (settled.cause, who) ∷ []) passed.queued
        ∙ append_assoc old.queued passed.parked ((settled.cause, who) ∷ []);
    parks = parked_more m passed.passed passed.parked who (settled.cause, who) passed.parks
        (record { is = refl; where_it_waits = settled.where_it_waits; unready = unready });
  }

  pub fewer_ready : length after.ready < length now.ready
  fewer_ready = let one = ap length after_ready in let more = ap length front.is in omega (arith, one, more)
