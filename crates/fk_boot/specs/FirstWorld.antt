-- The first world of a scenario: what its entries make, in the order of the file.
use Rattle.std.specs.Prelude.{ℕ, ◌*◌, ◌-◌, Bool, ◌&&◌, ◌==◌, nat_lt, is_none, List, [], ◌∷◌, ◌++◌, map, length, take, drop, reverse, replicate}
use Rattle.std.specs.Prelude.{Option, Some, None, if◌then◌else◌}
use Rattle.std.specs.List.{flat_map, slice_get}
use Rattle.fk_model.specs.declared.limits.TheConstants.{PAGES, PAGE_WORDS, LAST_PORTER_SLOT}
use Rattle.fk_model.specs.Places.{Path}
use Rattle.fk_model.specs.Places.Ptr.{Null, At}
use Rattle.fk_model.specs.Objects.{Body, and_then}
use Rattle.fk_model.specs.Objects.Mode.{Running, Native}
use Rattle.fk_model.specs.Objects.Body.{Mutex, Cond, Mapping, Region, Port, Portset, Thread_of, Reference}
use Rattle.fk_model.specs.World.{World, Change, Edit, apply_all}
use Rattle.fk_model.specs.World.Change.{Alter, Make, MakeSpace, PutPage}
use Rattle.fk_model.specs.World.Edit.{SetPointer, SetMember}
use Rattle.fk_model.specs.Searches.{slots}
use Rattle.fk_store.specs.Store.World.{first_world}
use Rattle.fk_scenario.specs.declared.entries.types.Program.{Program}
use Rattle.fk_scenario.specs.declared.entries.types.SpaceEntry.{SpaceEntry}
use Rattle.fk_scenario.specs.declared.entries.types.ObjectEntry.{ObjectEntry}
use Rattle.fk_scenario.specs.declared.entries.types.ServerEntry.{ServerEntry}
use Rattle.fk_scenario.specs.declared.scenario.scenario.Scenario.{Scenario}
use Rattle.fk_scenario.specs.Scenario.Servers.{has_key}
use Rattle.fk_scenario.specs.declared.entries.types.Spec.{Spec}
use Rattle.fk_scenario.specs.declared.entries.types.Spec.TheVariants as specs

-- ---- pages

-- the words of a page: those that are given, and zeros after them
abbrev pub page_words : List ℕ → List ℕ
page_words words = words ++ replicate (PAGE_WORDS - length words) 0

-- pages of zeros
abbrev pub zero_pages : Path → List ℕ → List Change
zero_pages space pages = map (λ page. PutPage space page (page_words [])) pages

-- the part of a program that stands in a page of its space
abbrev pub program_page : Path → List ℕ → ℕ → List Change
program_page space words page =
    if nat_lt (page * PAGE_WORDS) (length words)
    then PutPage space page (page_words (take PAGE_WORDS (drop (page * PAGE_WORDS) words))) ∷ []
    else []

-- a program stands at address 0
abbrev pub program_pages : Path → List ℕ → List Change
program_pages space words = flat_map (program_page space words) (slots PAGES)

-- the words of the program with an index; none where a space has no program
abbrev pub words_in : Option Program → List ℕ
words_in None = []
words_in (Some program) = program.words

-- the words of the program with an index, none where there is none
abbrev pub words_of_program : List Program → Option ℕ → List ℕ
words_of_program programs index = words_in (and_then (slice_get programs) index)

-- ---- spaces and objects. Texts name the slots of a path from the root down, and a world from the object up

-- the root is there already
abbrev pub space_itself : Path → List Change
space_itself [] = []
space_itself (k ∷ s) = MakeSpace (k ∷ s) None ∷ []

-- a space, with its pages of zeros and its program
abbrev pub space_changes : List Program → SpaceEntry → List Change
space_changes programs s =
    let space = reverse s.path in
    space_itself space ++ (zero_pages space s.pages ++ program_pages space (words_of_program programs s.program))

-- what an object is at first. A thread runs from its entry on, with zeros in the registers that aren't given; nothing leads anywhere,
-- and no port is in a set. A port that is in none later either may be served
abbrev pub first_body : Bool → Spec → Body
first_body served (specs.Thread entry regs stops) =
    Thread_of (record { mode = Running (regs ++ replicate (16 - length regs) 0); counter = entry; stops = stops; talk = None; fault = None })
first_body served (specs.Mutex locked) = Mutex locked
first_body served specs.Cond = Cond
first_body served specs.Portset = Portset
first_body served (specs.Mapping region first count offset write) =
    Mapping (record { first = first; count = count; offset = offset; write = write; region = Null })
first_body served (specs.Region first count write keeper) = Region (record { first = first; count = count; write = write; keeper = Null })
first_body served (specs.Port set) = Port None (is_none set && served)
first_body served (specs.Reference to) = Reference Null

-- the ports of these servers are served
abbrev pub object_changes : List (List ℕ) → ObjectEntry → List Change
object_changes ports o = Make (reverse o.path) (first_body (has_key ports o.path) o.spec) ∷ []

-- ---- where objects lead

-- the pointer leads to what stands at a path; it stays Null where none is given
abbrev pub points_to : Option (List ℕ) → List Edit
points_to None = []
points_to (Some path) = SetPointer (At (reverse path)) ∷ []

-- the port is in the port set in a slot of its space; it stays in none where none is given
abbrev pub belongs_to : Option ℕ → List Edit
belongs_to None = []
belongs_to (Some slot) = SetMember (Some slot) ∷ []

-- a mapping leads to its region, a region to its keeper, a reference to what it names, and a port is in its set
abbrev pub aims : Spec → List Edit
aims (specs.Mapping region first count offset write) = points_to region
aims (specs.Region first count write keeper) = points_to keeper
aims (specs.Reference to) = points_to to
aims (specs.Port set) = belongs_to set
aims other = []

-- the changes by which an object comes to lead where its entry says
abbrev pub aim_changes : ObjectEntry → List Change
aim_changes o = map (Alter (reverse o.path)) (aims o.spec)

-- ---- porters

-- a porter makes the calls of jobs. It has no program
abbrev pub porter : Body
porter = Thread_of (record { mode = Native (replicate 16 0); counter = 0; stops = 0; talk = None; fault = None })

-- a nester has its porter in the last slot
abbrev pub porter_changes : SpaceEntry → List Change
porter_changes s = if s.nester then Make (LAST_PORTER_SLOT ∷ reverse s.path) porter ∷ [] else []

-- ---- the whole

-- the ports that are served, in the order of the file
abbrev pub served_ports : List ServerEntry → List (List ℕ)
served_ports servers = map (λ s. s.port) servers

-- the spaces in the order of the file, so that their birth numbers count from 1; then the objects, each leading nowhere; when all
-- are there, where they lead; and then the porters of nesters
abbrev pub boot_changes : Scenario → List Change
boot_changes s =
    flat_map (space_changes s.programs) s.spaces
    ++ (flat_map (object_changes (served_ports s.servers)) s.objects ++ (flat_map aim_changes s.objects ++ flat_map porter_changes s.spaces))

-- the world with which a scenario begins
unfoldable pub booted : Scenario → World
booted s = apply_all (boot_changes s) first_world
