-- Settings: what a record sets of an object.
use Rattle.std.specs.Prelude.{◌≡◌, ℕ, true, List, [], ◌∷◌, map, Option, Some, None, replicate, if◌then◌else◌, ⊤}
use Rattle.fk_model.specs.declared.limits.TheConstants.{RECORD_WORDS}
use Rattle.fk_model.specs.Objects.{Body}
use Rattle.fk_model.specs.Places.{Path}
use Rattle.fk_model.specs.Records.{is_page_range, record_of, set_edits, takes_state}
use Rattle.fk_model.specs.World.{World, Change, Edit}
use Rattle.fk_model.specs.World.Change.{Alter}
use Rattle.fk_model.specs.World.Edit.{SetLocked, SetWindow, SetExtent, SetMember, Proceed, SetStops}
use Rattle.fk_store.specs.Store.Bodies.{mode_by}
use Rattle.fk_store.specs.Store.WellFormed.{HasCall}
use Rattle.fk_changes.specs.declared.records.setting.Setting.{Setting}
use Rattle.fk_changes.specs.declared.records.setting.Setting.TheVariants as settings

-- the record of what stands somewhere, which is 0 throughout where nothing does
abbrev pub record_there : Option Body → List ℕ
record_there None = replicate RECORD_WORDS 0
record_there (Some b) = record_of b

abbrev pub edits_of : Setting → List Edit
edits_of settings.Nothing = []
edits_of (settings.Locked locked) = SetLocked locked ∷ []
edits_of (settings.Window first count offset write) = SetWindow first count offset write ∷ []
edits_of (settings.Extent first count write) = SetExtent first count write ∷ []
edits_of (settings.Member set) = SetMember set ∷ []
edits_of (settings.State registers counter mode stops) = Proceed (mode_by mode registers) counter ∷ SetStops stops ∷ []

-- its pages are pages that a space has, and registers hold a call's code where the thread is to call
abbrev pub IsSetting : Setting → Type 0
IsSetting (settings.Window first count offset write) = is_page_range first count ≡ true
IsSetting (settings.Extent first count write) = is_page_range first count ≡ true
IsSetting (settings.State registers counter mode stops) = HasCall mode registers
IsSetting other = ⊤

-- what a record sets of what stands at a path of a space, where that takes it
abbrev pub sets_of : World → Path → Path → List ℕ → Option Body → List Change
sets_of w space x words None = []
sets_of w space x words (Some b) = if takes_state w space b words then map (Alter x) (set_edits b words) else []

-- the changes by which an object takes the state of a record
abbrev pub sets_at : World → Path → Path → List ℕ → List Change
sets_at w space x words = sets_of w space x words (w.body x)
