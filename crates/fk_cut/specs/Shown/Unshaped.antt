-- A thread that is in a call but at none of its stages: what its registers hold where the call's code would stand is shown by no list.
use Rattle.std.specs.Prelude.{ℕ, [], ◌∷◌, replicate, None, Some, if◌then◌else◌}
use Rattle.fk_model.specs.Places.{same_path}
use Rattle.fk_model.specs.Objects.{Body}
use Rattle.fk_model.specs.Objects.Mode.{Calling}
use Rattle.fk_model.specs.Objects.Body.{Thread_of}
use Rattle.fk_model.specs.Calls.{code_of, words}
use Rattle.fk_model.specs.World.{World}
use Rattle.fk_model.specs.Searches.{slots, residents, beneath_by, beneath}
use Rattle.fk_model.specs.Records.{record_of}
use Rattle.fk_model.specs.Cut.{seen_by, cut}
use Rattle.fk_cut.specs.declared.cuts.cutting.CutWorld.{CutWorld}
use Rattle.fk_cut.specs.Cuts.Shown.{object_there}

abbrev pub between_stages : ℕ → Body
between_stages n = Thread_of (record { mode = Calling [] (n ∷ replicate 15 0); counter = 0; stops = 0; talk = None; fault = None })

-- it stands alone in slot 1
unfoldable pub alone : ℕ → World
alone n = record { body = λ q. if same_path q (1 ∷ []) then Some (between_stages n) else None; page = λ s page. None; next = 1 }

-- the lists of a cut with a thread in it
unfoldable pub lists : CutWorld
lists = record { objects = object_there (cut (alone 0) [] 1) [] ∷ []; pages = [] }

unfoldable pub unshaped : Unit {0}
unfolding alone lists same_path code_of words slots residents beneath_by beneath record_of seen_by cut
unshaped = tt
