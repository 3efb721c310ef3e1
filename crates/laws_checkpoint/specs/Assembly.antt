-- The image of what was gathered: each space with its objects' records and pages, and the pointers as links.
use Rattle.std.specs.Prelude.{ℕ, ◌==◌, ◌+◌, false, List, [], ◌∷◌, ◌++◌, map, filter, drop, length, Option, Some, None, if◌then◌else◌}
use Rattle.std.specs.List.{flat_map}
use Rattle.fk_model.specs.declared.names.Kind.TheVariants as kinds
use Rattle.fk_model.specs.Places.{Path, slot_of, Ptr}
use Rattle.fk_model.specs.Places.Ptr.{Null}
use Rattle.fk_model.specs.Cut.{is_out}
use Rattle.fk_model.specs.Objects.{number_of_kind}
use Rattle.fk_model.specs.Records.{word, record_registers}
use Rattle.fk_image.specs.declared.image.image.Link.{Link, Link as links}
use Rattle.fk_image.specs.declared.image.image.TalkRec.{TalkRec}
use Rattle.fk_image.specs.declared.image.image.FaultRec.{FaultRec}
use Rattle.fk_image.specs.declared.image.image.ThreadRec.{ThreadRec}
use Rattle.fk_image.specs.declared.image.image.Rec.{Rec, Rec as recs}
use Rattle.fk_image.specs.declared.image.image.ObjectRec.{ObjectRec}
use Rattle.fk_image.specs.declared.image.image.PageRec.{PageRec}
use Rattle.fk_image.specs.declared.image.image.SpaceRec.{SpaceRec}
use Rattle.fk_image.specs.declared.image.image.Image.{Image}
use Rattle.laws_pictures.specs.Imaged.{link_of, parent_number}
use Rattle.laws_checkpoint.specs.Foreign.{Task}
pub use Rattle.laws_checkpoint.specs.Foreign.{is_space_number, fields_by, is_strict_number}
use Rattle.laws_checkpoint.specs.Walk.{Met}
use Rattle.laws_checkpoint.specs.Contents.{Item, Content}
pub use Rattle.laws_checkpoint.specs.Gather.{pointers_by}

-- ---- what is asked of the objects that were met

-- the spaces of a subtree, in preorder
abbrev pub spaces_met : List Met → List Path
spaces_met mets = [] ∷ map (λ (m : Met). m.path) (filter (λ (m : Met). is_space_number m.kind) mets)

abbrev pub met_task : Met → Task
met_task m = record { path = m.path; fields = fields_by m.kind; strict = is_strict_number m.kind }

-- every object of the subtree, its root first
abbrev pub sought_tasks : List Met → List Task
sought_tasks mets = record { path = []; fields = []; strict = false } ∷ map met_task mets

abbrev pub item_task : Path → Item → Task
item_task q i = record { path = i.number ∷ q; fields = pointers_by (word i.words 0); strict = false }

-- of a space its own holder, and then its objects; of the root no holder
abbrev pub holder_task : Path → List Task
holder_task [] = []
holder_task (k ∷ q) = record { path = k ∷ q; fields = 0 ∷ []; strict = false } ∷ []

abbrev pub content_tasks : Content → List Task
content_tasks c = holder_task c.path ++ map (item_task c.path) c.objects

-- whose pointers are read, in which order: those of all that was gathered
abbrev pub gathered_tasks : List Content → List Task
gathered_tasks contents = flat_map content_tasks contents

-- ---- records with links

abbrev pub first_pointer : List Ptr → Ptr
first_pointer [] = Null
first_pointer (p ∷ ps) = p

-- the pointer with an index among those that were read
abbrev pub pointer_at : List Ptr → ℕ → Ptr
pointer_at ps n = first_pointer (drop n ps)

-- who serves at a port that leads out is outside, whoever it is
abbrev pub peer_from : List Path → Ptr → Ptr → Link
peer_from sp port peer = if is_out port then links.Outside else link_of sp peer

-- by the words of the record that show a talk and a fault
abbrev pub talk_from : List Path → List ℕ → List Ptr → Option TalkRec
talk_from sp words ps =
    if word words 21 == 0 then None
    else Some (record {
      turn = word words 21;
      moved = word words 22;
      port = link_of sp (pointer_at ps 0);
      server = peer_from sp (pointer_at ps 0) (pointer_at ps 1);
    })

abbrev pub fault_from : List Path → List ℕ → List Ptr → Option FaultRec
fault_from sp words ps =
    if word words 23 == 0 then None
    else Some (record {
      page = word words 24;
      write = word words 25;
      port = link_of sp (pointer_at ps 2);
      taker = if word words 23 == 2 then Some (peer_from sp (pointer_at ps 2) (pointer_at ps 3)) else None;
    })

abbrev pub thread_from : List Path → List ℕ → List Ptr → ThreadRec
thread_from sp words ps = record {
  regs = record_registers words;
  pc = word words 17;
  mode = word words 18;
  code = word words 19;
  stops = word words 20;
  talk = talk_from sp words ps;
  fault = fault_from sp words ps;
}

abbrev pub rec_by : ℕ → List Path → List ℕ → List Ptr → Rec
rec_by kind sp words ps =
    if kind == number_of_kind kinds.Mutex then recs.Mutex (word words 1)
    else (if kind == number_of_kind kinds.Cond then recs.Cond
    else (if kind == number_of_kind kinds.Mapping then recs.Mapping (word words 1) (word words 2) (word words 3) (word words 4) (link_of sp (pointer_at ps 0))
    else (if kind == number_of_kind kinds.Region then recs.Region (word words 1) (word words 2) (word words 3) (link_of sp (pointer_at ps 0))
    else (if kind == number_of_kind kinds.Port then recs.Port (word words 1)
    else (if kind == number_of_kind kinds.Portset then recs.Portset
    else (if kind == number_of_kind kinds.Thread then recs.Thread (thread_from sp words ps) else recs.Reference (link_of sp (pointer_at ps 0))))))))

-- the record of an object, by its words and by its pointers
abbrev pub rec_from : List Path → List ℕ → List Ptr → Rec
rec_from sp words ps = rec_by (word words 0) sp words ps

-- ---- spaces

-- how many pointers were asked of an object
abbrev pub asked_of : Item → ℕ
asked_of i = length (pointers_by (word i.words 0))

unfoldable pub asked_of_all : List Item → ℕ
asked_of_all [] = 0
asked_of_all (i ∷ is) = asked_of i + asked_of_all is

-- each object takes its pointers off the list
unfoldable pub objects_with : List Path → List Item → List Ptr → List ObjectRec
objects_with sp [] ps = []
objects_with sp (i ∷ is) ps = record { slot = i.number; body = rec_from sp i.words ps } ∷ objects_with sp is (drop (asked_of i) ps)

abbrev pub page_rec : Item → PageRec
page_rec i = record { page = i.number; words = i.words }

abbrev pub holder_from : List Path → Path → List Ptr → Link
holder_from sp [] ps = links.Null
holder_from sp (k ∷ q) ps = link_of sp (pointer_at ps 0)

abbrev pub behind_holder : Path → List Ptr → List Ptr
behind_holder [] ps = ps
behind_holder (k ∷ q) ps = drop 1 ps

abbrev pub space_with : List Path → Content → List Ptr → SpaceRec
space_with sp c ps = record {
  parent = parent_number sp c.path;
  slot = slot_of c.path;
  holder = holder_from sp c.path ps;
  objects = objects_with sp c.objects (behind_holder c.path ps);
  pages = map page_rec c.pages;
}

unfoldable pub spaces_with : List Path → List Content → List Ptr → List SpaceRec
spaces_with sp [] ps = []
spaces_with sp (c ∷ cs) ps = space_with sp c ps ∷ spaces_with sp cs (drop (asked_of_all c.objects) (behind_holder c.path ps))

abbrev pub paths_read : List Content → List Path
paths_read contents = map (λ (c : Content). c.path) contents

-- the image of what was gathered, with the pointers that were read
abbrev pub assembled : List Content → List Ptr → Image
assembled contents ps = record { spaces = spaces_with (paths_read contents) contents ps }
