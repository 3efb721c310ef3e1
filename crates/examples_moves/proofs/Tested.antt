-- A list of moves is legal where a test of each says so. The test speaks of no object that is destroyed or renamed.
use Rattle.std.proofs.lemmas.Bool.{false≢true}
use Rattle.std.proofs.Common.{◌≡◌, Bool, true, false, not, ◌&&◌, List, [], ◌∷◌, refl}
use Rattle.fk_model.specs.Places.{Path, Ptr}
use Rattle.fk_model.specs.World.{World, Change}
use Rattle.fk_model.specs.World.Change.{Alter, Make, MakeSpace, Kill, Move, PutPage, DropPage}
use Rattle.fk_model.specs.Searches.{pointers, option_list}
use Rattle.fk_model.specs.Holds.{is_frozen_for}
use Rattle.fk_model.specs.Outcomes.{Outcome}
use Rattle.fk_model.specs.Outcomes.Outcome.{Refused, Waits, Goes}
use Rattle.fk_model.specs.Freezing.{changed_pointers, made_pointers, are_unfrozen, IsAllowed, AreAllowed}
use Rattle.fk_model.specs.Moves.{outcome, GoesAllowed}
use Rattle.fk_model.specs.Runs.{Event, after, IsLegal}

abbrev pub may_make : World → Path → Path → List Ptr → Bool
may_make w me x ps = not (is_frozen_for w me x) && are_unfrozen w me ps

abbrev pub is_allowed : World → Path → Change → Bool
is_allowed w me (Alter x edit) = may_make w me x (made_pointers edit) && are_unfrozen w me (option_list (changed_pointers edit) (w.body x))
is_allowed w me (Make x body) = may_make w me x (pointers body)
is_allowed w me (MakeSpace x holder) = may_make w me x (option_list (λ (p : Ptr). p ∷ []) holder)
is_allowed w me (Kill x) = false
is_allowed w me (Move x slot) = false
is_allowed w me (PutPage space page words) = not (is_frozen_for w me space)
is_allowed w me (DropPage space page) = not (is_frozen_for w me space)

abbrev pub are_allowed : World → Path → List Change → Bool
are_allowed w me [] = true
are_allowed w me (c ∷ cs) = is_allowed w me c && are_allowed w me cs

abbrev pub goes_allowed : World → Path → Outcome → Bool
goes_allowed w me (Goes changes said) = are_allowed w me changes
goes_allowed w me (Refused status) = false
goes_allowed w me Waits = false

abbrev pub is_legal : World → List Event → Bool
is_legal w [] = true
is_legal w (e ∷ es) = goes_allowed w e.mover (outcome w e.mover e.pick e.ask) && is_legal (after w e) es

-- ---- what passes the test is so

pub and_left : (a b : Bool) → (a && b) ≡ true → a ≡ true
and_left true b h = refl
and_left false b h = h

pub and_right : (a b : Bool) → (a && b) ≡ true → b ≡ true
and_right true b h = h
and_right false b h = absurd (false≢true h)

is_not : (b : Bool) → not b ≡ true → b ≡ false
is_not true h = absurd (false≢true h)
is_not false h = refl

change-tested : (w : World) (me : Path) (c : Change) → is_allowed w me c ≡ true → IsAllowed w me c
change-tested w me (Alter x edit) h =
    let both : may_make w me x (made_pointers edit) ≡ true = and_left _ (are_unfrozen w me (option_list (changed_pointers edit) (w.body x))) h in
    record {
      object = is_not _ (and_left _ _ both);
      changed = and_right (may_make w me x (made_pointers edit)) _ h;
      made = and_right (not (is_frozen_for w me x)) _ both;
    }
change-tested w me (Make x body) h =
    record { object = is_not _ (and_left _ (are_unfrozen w me (pointers body)) h); made = and_right (not (is_frozen_for w me x)) _ h }
change-tested w me (MakeSpace x holder) h =
    record {
      object = is_not _ (and_left _ (are_unfrozen w me (option_list (λ (p : Ptr). p ∷ []) holder)) h);
      made = and_right (not (is_frozen_for w me x)) _ h;
    }
change-tested w me (Kill x) h = absurd (false≢true h)
change-tested w me (Move x slot) h = absurd (false≢true h)
change-tested w me (PutPage space page words) h = is_not _ h
change-tested w me (DropPage space page) h = is_not _ h

changes-tested : (w : World) (me : Path) (cs : List Change) → are_allowed w me cs ≡ true → AreAllowed w me cs
changes-tested w me [] h = tt
changes-tested w me (c ∷ cs) h = (change-tested w me c (and_left _ (are_allowed w me cs) h), changes-tested w me cs (and_right (is_allowed w me c) _ h))

outcome-tested : (w : World) (me : Path) (o : Outcome) → goes_allowed w me o ≡ true → GoesAllowed w me o
outcome-tested w me (Goes changes said) h = changes-tested w me changes h
outcome-tested w me (Refused status) h = absurd (false≢true h)
outcome-tested w me Waits h = absurd (false≢true h)

pub legal-tested : (w : World) (es : List Event) → is_legal w es ≡ true → IsLegal w es
legal-tested w [] h = tt
legal-tested w (e ∷ es) h = (
  outcome-tested w e.mover (outcome w e.mover e.pick e.ask) (and_left _ (is_legal (after w e) es) h),
  legal-tested (after w e) es (and_right (goes_allowed w e.mover (outcome w e.mover e.pick e.ask)) _ h),
)
