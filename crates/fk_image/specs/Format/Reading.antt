-- Which image the bytes spell, or their first fault.
use Rattle.std.specs.Prelude.{ℕ, ◌-◌, Bool, true, false, not, ◌&&◌, ◌==◌, nat_lt, nat_eq, List, [], ◌∷◌, length, take, drop, Option, Some, None, is_some}
use Rattle.std.specs.Prelude.{Result, Ok, Err, if◌then◌else◌}
use Rattle.std.specs.Cmp.Lexicographic.{pointwise}
use Rattle.std.specs.Int.{w16, w32, w64}
use Rattle.fk_image.specs.declared.image.image.Link.{Link}
use Rattle.fk_image.specs.declared.image.image.Link.TheVariants.{Null, Dead, In, Out, Root, Outside}
use Rattle.fk_image.specs.declared.image.image.TalkRec.{TalkRec}
use Rattle.fk_image.specs.declared.image.image.FaultRec.{FaultRec}
use Rattle.fk_image.specs.declared.image.image.ThreadRec.{ThreadRec}
use Rattle.fk_image.specs.declared.image.image.Rec.{Rec}
use Rattle.fk_image.specs.declared.image.image.Rec.TheVariants.{Mutex, Cond, Portset, Mapping, Region, Port, Thread, Reference}
use Rattle.fk_image.specs.declared.image.image.ObjectRec.{ObjectRec}
use Rattle.fk_image.specs.declared.image.image.PageRec.{PageRec}
use Rattle.fk_image.specs.declared.image.image.SpaceRec.{SpaceRec}
use Rattle.fk_image.specs.declared.image.image.Image.{Image}
use Rattle.fk_image.specs.declared.image.open.Open.{Open}
use Rattle.fk_image.specs.Image.Ranges.{is_extent, is_set_word, is_mode_byte, is_code}
use Rattle.fk_image.specs.Image.Preorder.{room_under, root_path, after_space}
use Rattle.fk_image.specs.Image.Links.{kind_in_space}
use Rattle.fk_image.specs.Image.Valid.{after_object, after_page}
use Rattle.fk_image.specs.declared.format.reasons.reason.TheConstants as reasons
use Rattle.fk_image.specs.declared.format.stop.Stop.{Stop}
use Rattle.fk_image.specs.Format.Spelling.{magic}
use Rattle.fk_image.specs.Format.Versions.{shows_new, image_shows, allows}
use Rattle.fk_image.specs.Format.Fields.{◌>>=◌, refuse_field, expect, read_byte, read_number, read_below, read_many}
use Rattle.fk_image.specs.Format.Offsets.{wrong_link}

-- a pointer by its tag
unfoldable pub read_link : List ℕ → Result (Link × List ℕ) Stop
read_link bytes = do
  tag ← read_byte bytes
  if tag.0 == 0 then Ok (Null, tag.1)
      else if tag.0 == 1 then Ok (Dead, tag.1)
      else if tag.0 == 2 then (do
        space ← read_number w32 tag.1
        slot ← read_below 240 space.1
        Ok (In slot.0 space.0, slot.1))
      else if tag.0 == 3 then (do
        slot ← read_below 240 tag.1
        Ok (Out slot.0, slot.1))
      else if tag.0 == 4 then Ok (Root, tag.1)
      else if tag.0 == 5 then Ok (Outside, tag.1)
      else refuse_field bytes reasons.RANGE

-- ---- threads

abbrev pub read_word : ℕ → List ℕ → Result (ℕ × List ℕ) Stop
read_word s bytes = read_number w64 bytes

abbrev pub same_state : ℕ → ℕ → ℕ
same_state s x = s

-- so many words
abbrev pub read_words : ℕ → List ℕ → Result (List ℕ × List ℕ) Stop
read_words count bytes = read_many read_word same_state count 0 [] bytes

-- a mode, behind the registers. Only an image of the new version shows calls with a reference
unfoldable pub read_mode : Bool → List ℕ → List ℕ → Result (ℕ × List ℕ) Stop
read_mode new regs bytes = do
  mode ← read_byte bytes
  if is_mode_byte regs mode.0 && allows new (shows_new regs mode.0) then Ok mode else refuse_field bytes reasons.RANGE

-- a halt code, behind the mode
unfoldable pub read_code : ℕ → List ℕ → Result (ℕ × List ℕ) Stop
read_code mode bytes = do
  code ← read_byte bytes
  if is_code mode code.0 then Ok code else refuse_field bytes reasons.RANGE

unfoldable pub read_open_talk : ℕ → List ℕ → Result (Option TalkRec × List ℕ) Stop
read_open_talk turn bytes = do
  moved ← read_number w16 bytes
  port ← read_link moved.1
  server ← read_link port.1
  Ok (Some (record { turn = turn; moved = moved.0; port = port.0; server = server.0 }), server.1)

unfoldable pub read_talk : List ℕ → Result (Option TalkRec × List ℕ) Stop
read_talk bytes = do
  turn ← read_below 3 bytes
  if turn.0 == 0 then Ok (None, turn.1) else read_open_talk turn.0 turn.1

unfoldable pub read_taker : ℕ → List ℕ → Result (Option Link × List ℕ) Stop
read_taker state bytes = if state == 1 then Ok (None, bytes) else (do
  taker ← read_link bytes
  Ok (Some taker.0, taker.1))

unfoldable pub read_met_fault : ℕ → List ℕ → Result (Option FaultRec × List ℕ) Stop
read_met_fault state bytes = do
  page ← read_byte bytes
  write ← read_below 2 page.1
  port ← read_link write.1
  taker ← read_taker state port.1
  Ok (Some (record { page = page.0; write = write.0; port = port.0; taker = taker.0 }), taker.1)

unfoldable pub read_fault : List ℕ → Result (Option FaultRec × List ℕ) Stop
read_fault bytes = do
  state ← read_below 3 bytes
  if state.0 == 0 then Ok (None, state.1) else read_met_fault state.0 state.1

-- the record of a thread
unfoldable pub read_thread : Bool → List ℕ → Result (Rec × List ℕ) Stop
read_thread new bytes = do
  regs ← read_words 16 bytes
  pc ← read_number w64 regs.1
  mode ← read_mode new regs.0 pc.1
  code ← read_code mode.0 mode.1
  stops ← read_number w16 code.1
  talk ← read_talk stops.1
  fault ← read_fault talk.1
  Ok (Thread (record { regs = regs.0; pc = pc.0; mode = mode.0; code = code.0; stops = stops.0; talk = talk.0; fault = fault.0 }), fault.1)

-- ---- objects

-- a first page and a count
unfoldable pub read_extent : List ℕ → Result ((ℕ × ℕ) × List ℕ) Stop
read_extent bytes = do
  first ← read_byte bytes
  count ← read_number w16 first.1
  if is_extent first.0 count.0 then Ok ((first.0, count.0), count.1) else refuse_field first.1 reasons.RANGE

unfoldable pub read_mapping : List ℕ → Result (Rec × List ℕ) Stop
read_mapping bytes = do
  pages ← read_extent bytes
  offset ← read_byte pages.1
  write ← read_below 2 offset.1
  region ← read_link write.1
  Ok (Mapping pages.0.0 pages.0.1 offset.0 write.0 region.0, region.1)

unfoldable pub read_region : List ℕ → Result (Rec × List ℕ) Stop
read_region bytes = do
  pages ← read_extent bytes
  write ← read_below 2 pages.1
  keeper ← read_link write.1
  Ok (Region pages.0.0 pages.0.1 write.0 keeper.0, keeper.1)

unfoldable pub read_port : List ℕ → Result (Rec × List ℕ) Stop
read_port bytes = do
  set ← read_number w16 bytes
  if is_set_word set.0 then Ok (Port set.0, set.1) else refuse_field bytes reasons.RANGE

unfoldable pub read_mutex : List ℕ → Result (Rec × List ℕ) Stop
read_mutex bytes = do
  locked ← read_below 2 bytes
  Ok (Mutex locked.0, locked.1)

unfoldable pub read_reference : List ℕ → Result (Rec × List ℕ) Stop
read_reference bytes = do
  to ← read_link bytes
  Ok (Reference to.0, to.1)

unfoldable pub read_body : Bool → List ℕ → Result (Rec × List ℕ) Stop
read_body new bytes = do
  kind ← read_byte bytes
  if kind.0 == 1 then read_mutex kind.1
      else if kind.0 == 2 then Ok (Cond, kind.1)
      else if kind.0 == 3 then read_mapping kind.1
      else if kind.0 == 4 then read_region kind.1
      else if kind.0 == 5 then read_port kind.1
      else if kind.0 == 6 then Ok (Portset, kind.1)
      else if kind.0 == 8 then read_thread new kind.1
      else if kind.0 == 9 then read_reference kind.1
      else refuse_field bytes reasons.RANGE

unfoldable pub read_object : Bool → ℕ → List ℕ → Result (ObjectRec × List ℕ) Stop
read_object new floor bytes = do
  slot ← read_below 240 bytes
  _ ← expect (not (nat_lt slot.0 floor)) bytes reasons.ORDER
  body ← read_body new slot.1
  Ok (record { slot = slot.0; body = body.0 }, body.1)

unfoldable pub read_page : ℕ → List ℕ → Result (PageRec × List ℕ) Stop
read_page floor bytes = do
  page ← read_byte bytes
  _ ← expect (not (nat_lt page.0 floor)) bytes reasons.ORDER
  words ← read_words 64 page.1
  Ok (record { page = page.0; words = words.0 }, words.1)

-- the objects of a space, by rising slot
unfoldable pub read_objects : Bool → List ℕ → Result (List ObjectRec × List ℕ) Stop
read_objects new bytes = do
  count ← read_number w16 bytes
  read_many (read_object new) after_object count.0 0 [] count.1

-- the pages of a space, by rising number
unfoldable pub read_pages : List ℕ → Result (List PageRec × List ℕ) Stop
read_pages bytes = do
  count ← read_number w16 bytes
  read_many read_page after_page count.0 0 [] count.1

-- ---- spaces

unfoldable pub read_first : Bool → List ℕ → Result (SpaceRec × List ℕ) Stop
read_first new bytes = do
  parent ← read_number w32 bytes
  _ ← expect (parent.0 == 4294967295) bytes reasons.RANGE
  slot ← read_byte parent.1
  _ ← expect (slot.0 == 0) parent.1 reasons.RANGE
  tag ← read_byte slot.1
  _ ← expect (tag.0 == 0) slot.1 reasons.RANGE
  objects ← read_objects new tag.1
  pages ← read_pages objects.1
  Ok (record { parent = parent.0; slot = slot.0; holder = Null; objects = objects.0; pages = pages.0 }, pages.1)

abbrev pub or_refuse_field : Option ℕ → List ℕ → ℕ → Result ℕ Stop
or_refuse_field None bytes reason = refuse_field bytes reason
or_refuse_field (Some n) bytes reason = Ok n

-- the lowest slot under the parent in which the space may follow
unfoldable pub read_room : List Open → ℕ → List ℕ → Result ℕ Stop
read_room path parent bytes = or_refuse_field (room_under path parent) bytes reasons.ORDER

unfoldable pub read_next : Bool → List SpaceRec → List Open → List ℕ → Result (SpaceRec × List ℕ) Stop
read_next new done path bytes = do
  parent ← read_number w32 bytes
  floor ← read_room path parent.0 bytes
  slot ← read_below 240 parent.1
  _ ← expect (not (nat_lt slot.0 floor)) bytes reasons.ORDER
  _ ← expect (not (is_some (kind_in_space done parent.0 slot.0))) bytes reasons.ORDER
  holder ← read_link slot.1
  objects ← read_objects new holder.1
  pages ← read_pages objects.1
  Ok (record { parent = parent.0; slot = slot.0; holder = holder.0; objects = objects.0; pages = pages.0 }, pages.1)

abbrev pub read_placed : Bool → List SpaceRec → List Open → List ℕ → Result (SpaceRec × List ℕ) Stop
read_placed new [] path bytes = read_first new bytes
read_placed new (d ∷ done) path bytes = read_next new (d ∷ done) path bytes

unfoldable pub read_space : Bool → List SpaceRec × List Open → List ℕ → Result (SpaceRec × List ℕ) Stop
read_space new before bytes = read_placed new before.0 before.1 bytes

-- ---- images

-- whether it is the new version
unfoldable pub read_version : List ℕ → Result (Bool × List ℕ) Stop
read_version bytes = do
  version ← read_number w16 bytes
  if version.0 == 1 then Ok (false, version.1)
      else if version.0 == 2 then Ok (true, version.1)
      else refuse_field bytes reasons.VERSION

-- the version, and how many spaces there are
unfoldable pub read_head : List ℕ → Result ((Bool × ℕ) × List ℕ) Stop
read_head bytes = do
  _ ← expect (not (nat_lt (length bytes) 8)) bytes reasons.CUT
  _ ← expect (pointwise nat_eq (take 8 bytes) magic) bytes reasons.MAGIC
  new ← read_version (drop 8 bytes)
  count ← read_number w32 new.1
  _ ← expect (not (count.0 == 0)) new.1 reasons.RANGE
  Ok ((new.0, count.0), count.1)

-- with every reason but that of a wrong pointer, and of a version that isn't needed
unfoldable pub read_image : List ℕ → Result (Bool × Image) Stop
read_image bytes = do
  head ← read_head bytes
  spaces ← read_many (read_space head.0.0) after_space head.0.1 ([], root_path) [] head.1
  _ ← expect (length spaces.1 == 0) spaces.1 reasons.LEFT_OVER
  Ok (head.0.0, record { spaces = spaces.0 })

-- the new version where no thread shows a call of it, sought last
abbrev pub needed : Bool → Image → Result Image (ℕ × ℕ)
needed new i = if new && not (image_shows i) then Err (8, reasons.NEWER) else Ok i

-- a wrong pointer, sought after the rest
abbrev pub linked : Bool → Image → Option ℕ → Result Image (ℕ × ℕ)
linked new i None = needed new i
linked new i (Some at) = Err (at, reasons.POINTER)

-- an offset from the front
abbrev pub finished : List ℕ → Result (Bool × Image) Stop → Result Image (ℕ × ℕ)
finished bytes (Ok i) = linked i.0 i.1 (wrong_link i.1)
finished bytes (Err stop) = Err (length bytes - stop.left, stop.reason)

-- the image, or the offset and the reason of the first fault
unfoldable pub image_reading : List ℕ → Result Image (ℕ × ℕ)
image_reading bytes = finished bytes (read_image bytes)
