-- Turns: lists of threads, and marks of those whom any change may free.
use Rattle.std.specs.Prelude.{◌≡◌, Bool, true, false, ◌&&◌, ◌||◌, ◌⊎◌, List, [], ◌∷◌, ◌++◌, if◌then◌else◌}
use Rattle.fk_model.specs.declared.names.Who.{Who}
use Rattle.fk_waits.specs.Causes.Names.{is_same}
use Rattle.fk_waits.specs.Waits.Lists.{is_cause, is_in, is_queued, parked, stands, woken, Lists}
use Rattle.fk_waits.specs.declared.turns.turns.Mark.{Mark}
use Rattle.fk_waits.specs.declared.turns.turns.Mark.TheVariants as marks_of

-- where those stand among the marks who wait for no object. No space has this birth number
abbrev pub free_cause : Who
free_cause = record { space = 4294967295; slot = 255 }

-- a thread is the first of these
abbrev pub is_front : Who → List Who → Bool
is_front who [] = false
is_front who (x ∷ l) = is_same x who

-- a thread is queued at this cause
abbrev pub waits_at : Who → Who → List (Who × Who) → Bool
waits_at cause who [] = false
waits_at cause who (q ∷ l) = (is_same q.0 cause && is_same q.1 who) || waits_at cause who l

-- and where those do whom any move of another may free but an instruction
abbrev pub loud_cause : Who
loud_cause = record { space = 4294967295; slot = 254 }

-- the marks are of the same threads
pub record IsSound (waits marks : Lists) : Type 0 where
  pub both : (who : Who) → stands who marks ≡ stands who waits

-- the marks once a thread that is queued at a cause is marked. Whom its cause may free is found there, and isn't marked
abbrev pub marked_by : Who → Mark → Who → Lists → Lists
marked_by cause marks_of.Own who marks = parked who free_cause marks
marked_by cause (marks_of.At key) who marks =
    if is_same free_cause key then woken who marks else (if is_same cause key then marks else parked who key marks)
marked_by cause marks_of.Loud who marks = parked who loud_cause marks
marked_by cause marks_of.Any who marks = woken who marks

-- the marks, and each that is queued marked at its cause
abbrev pub all_marks : Lists → Lists → Lists
all_marks waits marks = record { ready = marks.ready; queued = marks.queued ++ waits.queued; spare = marks.spare }

-- who is queued still, is where he was
pub record IsLess (old new : Lists) : Type 0 where
  pub waiting : (cause who : Who) → waits_at cause who new.queued ≡ true → waits_at cause who old.queued ≡ true
  pub queued : (who : Who) → is_queued who new.queued ≡ true → is_queued who old.queued ≡ true
  pub causes : (cause : Who) → is_cause cause new.queued ≡ true → is_cause cause old.queued ≡ true
  pub stays : (cause who : Who) → waits_at cause who old.queued ≡ true → (waits_at cause who new.queued ≡ true) ⊎ (is_queued who new.queued ≡ false)

-- some that were queued may be ready, and the same threads stand, with as much room as before
pub record IsRoused (old new : Lists) : Type 0 where
  pub less : IsLess old new
  pub stays : (who : Who) → stands who new ≡ stands who old
  pub room : new.spare ≡ old.spare

-- who was marked is marked still, or isn't queued
pub record AreMet (old new waits : Lists) : Type 0 where
  pub met : (who : Who) → is_in who old.ready ≡ true → (is_in who new.ready ≡ true) ⊎ (is_queued who waits.queued ≡ false)
  pub keyed : (key who : Who) → waits_at key who old.queued ≡ true → (waits_at key who new.queued ≡ true) ⊎ (is_queued who waits.queued ≡ false)

-- who was marked at an object isn't queued
abbrev pub IsFreed : Who → Lists → Lists → Type 0
IsFreed key marks waits =
    is_same free_cause key ≡ false → (who : Who) → waits_at key who marks.queued ≡ true → is_queued who waits.queued ≡ false
