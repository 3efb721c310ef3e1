-- The full world: a job may begin in it, and a checkpoint of its subtree.
use Rattle.std.proofs.Common.{◌≡◌, ◌+◌, ℕ, ◌≤◌, Bool, true, false, not, List, [], ◌∷◌, if◌then◌else◌, eqb, Option, Some, None, refl, arith}
use Rattle.fk_model.specs.declared.limits.TheConstants.{MOST_STOPS}
use Rattle.fk_model.specs.Places.{Path, same_path}
use Rattle.fk_model.specs.Objects.{Body}
use Rattle.fk_model.specs.Objects.Body.{Space}
use Rattle.fk_model.specs.ObjectRows.{is_scratch}
use Rattle.fk_model.specs.Valid.{kind_there}
use Rattle.fk_model.specs.Whole.{IsWhole, IsSavable}
use Rattle.fk_model.specs.Runs.{Event, after}
use Rattle.fk_model.specs.Searches.{depth}
use Rattle.fk_model.specs.Sound.{IsUncut, IsClean}
use Rattle.laws_moves.proofs.InWhole.Laws.{keeps_runnable, savable_runnable}
use Rattle.laws_moves.specs.Savable.Savable.{IsSound, Owes}
use Rattle.laws_moves.proofs.InSavable.Laws.{keeps_savable}
use Rattle.laws_moves.specs.Whole.Runnable.{IsProper}
use Rattle.laws_subtrees.specs.Further.ClosedLaws.{IsUsersAlone}
use Rattle.laws_jobs.specs.Machines.{IsReadyAt}
use Rattle.laws_jobs.specs.Jobs.{MayBegin}
use Rattle.laws_jobs.specs.Holds.{hold}
use Rattle.examples_moves.specs.Worked.{body_in}
use Rattle.examples_moves.proofs.Tested.{legal-tested}
use Rattle.examples_premises.specs.Premises.{premises, within, objects_of, pages_of}
use Rattle.examples_premises.proofs.Listed.{All, found, IsShapedAt, whole, savable, plain}
use Rattle.examples_premises.proofs.Apart.{uncut, users_alone}
use Rattle.examples_jobs.specs.Brief.{full}

abbrev listed : List (Path × Body)
listed = ([], Space 0 None) ∷ objects_of None

home : ℕ → Path
unfolding same_path
home n = if eqb n 0 then [] else (if eqb n 1 then 1 ∷ [] else within 6)

pub full_whole : IsWhole full
unfolding premises home kind_there
full_whole = whole full listed pages_of (λ x. refl) (λ s g. refl) home (λ s. within 2) (within 0) refl refl refl (omega arith)

shapes : All IsShapedAt listed
unfolding premises
shapes = let few : 0 ≤ MOST_STOPS = omega arith in assumption few

pub full_savable : IsSavable full
unfolding premises
full_savable = savable full listed pages_of (λ x. refl) (λ s g. refl) refl refl shapes

pub full_sound : IsSound full
full_sound = record { whole = full_whole; savable = full_savable }

-- ---- no scratch

abbrev is_clean_at : Path → Body → Bool
is_clean_at [] b = true
is_clean_at (k ∷ s) b = not (is_scratch s (k ∷ s))

clash : (t : Bool) → t ≡ true → not t ≡ true → ⊥
clash true e h = cc
clash false e h = cc

pub full_clean : IsClean full
unfolding premises
full_clean s k scratch = by (body_in listed (k ∷ s)) refl
  where
    by : (o : Option Body) → body_in listed (k ∷ s) ≡ o → o ≡ None
    by None e = refl
    by (Some b) e = absurd (clash (is_scratch s (k ∷ s)) scratch (found is_clean_at listed refl (k ∷ s) b e))

pub full_may : MayBegin full [] 0
unfolding premises
full_may = record { sound = full_sound; clean = full_clean; named = refl }

-- ---- its subtree

pub full_uncut : IsUncut full
unfolding premises
full_uncut = uncut full listed (λ x. refl) refl

pub full_users : IsUsersAlone full [] 1
unfolding premises
full_users = users_alone full [] 1 (plain full listed (λ x. refl) [] 1 refl 1 None refl)

-- ---- a call, and what comes of it

pub sound_after : (e : Event) → IsProper full e → Owes full e → IsSound (after full e)
unfolding premises
sound_after e proper owes =
    let left : full.next + 1 ≤ depth = omega arith in
    record {
      whole = (keeps_runnable full e (savable_runnable full full_whole full_savable) proper left).whole;
      savable = keeps_savable full e full_whole full_savable proper owes;
    }

pub full_ready : IsReadyAt full (hold [] 1)
unfolding premises
full_ready = (legal-tested full (hold [] 1 ∷ []) refl).0

pub full_held : IsSound (after full (hold [] 1))
unfolding premises
full_held = sound_after (hold [] 1) (record { fit = refl; words = refl }) tt
