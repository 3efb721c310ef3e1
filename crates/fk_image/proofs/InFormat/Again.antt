-- What is spelled is read again, whatever follows.
use Rattle.std.proofs.Common.{◌≡◌, ℕ, suc, ◌^◌, ◌<◌, ◌&&◌, Bool, true, false, not, eqb, ltb, List, [], ◌∷◌, ◌++◌, length, Option, Some, None, is_some, Result}
use Rattle.std.proofs.Common.{Ok, refl, sym, ap, subst, ◌∙◌, append_assoc, arith}
use Rattle.std.specs.List.{flat_map, list_all, list_any}
use Rattle.std.specs.Int.{w16, w32, w64, to_le_bytes}
use Rattle.std.proofs.lemmas.Bool.{lt-ltb, le-ltb, ne_eqb, eqb-true, ltb-true}
use Rattle.std.proofs.lemmas.List.{append-nil}
use Rattle.std.proofs.lemmas.List.Concat.{flat_map-cons}
use Rattle.fk_image.specs.declared.image.image.Link.{Link}
use Rattle.fk_image.specs.declared.image.image.Link.TheVariants.{Null, Dead, In, Out, Root, Outside}
use Rattle.fk_image.specs.declared.image.image.TalkRec.{TalkRec}
use Rattle.fk_image.specs.declared.image.image.FaultRec.{FaultRec}
use Rattle.fk_image.specs.declared.image.image.ThreadRec.{ThreadRec}
use Rattle.fk_image.specs.declared.image.image.Rec.{Rec}
use Rattle.fk_image.specs.declared.image.image.Rec.TheVariants.{Mutex, Cond, Portset, Mapping, Region, Port, Thread, Reference}
use Rattle.fk_image.specs.declared.image.image.ObjectRec.{ObjectRec}
use Rattle.fk_image.specs.declared.image.image.PageRec.{PageRec}
use Rattle.fk_image.specs.declared.image.image.SpaceRec.{SpaceRec}
use Rattle.fk_image.specs.declared.image.image.Image.{Image}
use Rattle.fk_image.specs.declared.image.open.Open.{Open}
use Rattle.fk_image.specs.Image.Ranges.{is_slot, is_bit, is_byte, is_half, is_word, fits_link, is_set_word, is_extent, is_mode_byte, is_code, are_words}
use Rattle.fk_image.specs.Image.Ranges.{is_turn, fits_talk, fits_taker, fits_fault, fits_thread, fits_body}
use Rattle.fk_image.specs.Image.Preorder.{room_under, has_room, root_path, after_space}
use Rattle.fk_image.specs.Image.Links.{kind_in_space}
use Rattle.fk_image.specs.Image.Valid.{is_null, all_from, fits_object, fits_page, fits_objects, fits_pages, is_first, is_next, fits_space, fits_spaces}
use Rattle.fk_image.specs.Image.Valid.{after_object, after_page}
use Rattle.fk_image.specs.declared.format.stop.Stop.{Stop}
use Rattle.fk_image.specs.Format.Spelling.{link_bytes as link, words_bytes as words, talk_bytes as talk, taker_bytes as taker, fault_bytes as fault}
use Rattle.fk_image.specs.Format.Spelling.{fault_state, thread_bytes as thread, body_bytes as body, object_bytes as object, page_bytes as page}
use Rattle.fk_image.specs.Format.Spelling.{contents_bytes as contents, space_bytes as space, magic, spelling}
use Rattle.fk_image.specs.Format.Fields.{read_below, read_many}
use Rattle.fk_image.specs.Format.Reading.{read_link, read_word, same_state, read_words, read_mode, read_code, read_open_talk, read_talk, read_taker}
use Rattle.fk_image.specs.Format.Reading.{read_met_fault, read_fault, read_thread, read_extent, read_mapping, read_region, read_port, read_mutex}
use Rattle.fk_image.specs.Format.Reading.{read_reference, read_body, read_object, read_page, read_objects, read_pages, read_first, or_refuse_field, read_room}
use Rattle.fk_image.specs.Format.Reading.{read_next, read_placed, read_space, read_version, read_head, read_image}
use Rattle.fk_image.specs.Format.Versions.{shows_new, body_shows, object_shows, space_shows, image_shows, allows, version_number}
use Rattle.fk_image.proofs.InFormat.Allowed.{all_both, allows_each, allows_itself}
use Rattle.fk_image.proofs.InFormat.Basics.{both, and2, and3, and4, and5, and6, not_true, wide16, wide32, wide64, number_again, below_again}

link_again : (l : Link) (rest : List ℕ) → fits_link l ≡ true → read_link (link l ++ rest) ≡ Ok (l, rest)
unfolding read_link
link_again Null rest fits = refl
link_again Dead rest fits = refl
link_again (In slot n) rest fits =
    let f = and2 (ltb n (2 ^ 32)) (ltb slot 240) fits in
    rw (number_again w32 (2 ^ 32) wide32 n (slot ∷ rest) f.0, below_again 240 slot rest f.1) refl
link_again (Out slot) rest fits = rw (below_again 240 slot rest fits) refl
link_again Root rest fits = refl
link_again Outside rest fits = refl

-- ---- items one after the other

module _ {S X : Type 0} (item : S → List ℕ → Result (X × List ℕ) Stop) (next : S → X → S) (spell : X → List ℕ) (fits : S → X → Bool)
    (again : (s : S) (x : X) (rest : List ℕ) → fits s x ≡ true → item s (spell x ++ rest) ≡ Ok (x, rest)) where
  many_again : (xs : List X) (s : S) (done : List X) (rest : List ℕ) →
      all_from next fits s xs ≡ true → read_many item next (length xs) s done (flat_map spell xs ++ rest) ≡ Ok (done ++ xs, rest)
  unfolding read_many
  many_again [] s done rest fit = ap (λ (d : List X). Ok (d, rest)) (sym (append-nil done))
  many_again (x ∷ xs) s done rest fit =
      let f = and2 (fits s x) (all_from next fits (next s x) xs) fit in
      let regrouped : flat_map spell (x ∷ xs) ++ rest ≡ spell x
      ++ (flat_map spell xs ++ rest) = ap (λ (f : List ℕ). f ++ rest) (flat_map-cons spell x xs) ∙ append_assoc (spell x) (flat_map spell xs) rest in
      ap (read_many item next (suc (length xs)) s done) regrouped ∙ rw (again s x (flat_map spell xs ++ rest) f.0)
      (many_again xs (next s x) (done ++ x ∷ []) rest f.1 ∙ ap (λ (d : List X). Ok (d, rest)) (append_assoc done (x ∷ []) xs))

each_word : (ws : List ℕ) → list_all is_word ws ≡ true → all_from same_state (λ _ w. is_word w) 0 ws ≡ true
each_word [] e = refl
each_word (w ∷ ws) e = let f = and2 (is_word w) (list_all is_word ws) e in both _ _ f.0 (each_word ws f.1)

words_again : (count : ℕ) (ws : List ℕ) (rest : List ℕ) → are_words count ws ≡ true → read_words count (words ws ++ rest) ≡ Ok (ws, rest)
words_again count ws rest fits =
    let f = and2 (eqb (length ws) count) (list_all is_word ws) fits in
    subst (λ (n : ℕ). read_words n (words ws ++ rest) ≡ Ok (ws, rest)) (eqb-true _ _ f.0)
    (many_again read_word same_state (to_le_bytes w64) (λ _ w. is_word w) (λ s. number_again w64 (2 ^ 64) wide64) ws 0 [] rest (each_word ws f.1))

-- ---- threads

mode_again : (new : Bool) (regs : List ℕ) (mode : ℕ) (rest : List ℕ) → is_mode_byte regs mode ≡ true → allows new (shows_new regs mode) ≡ true →
    read_mode new regs (mode ∷ rest) ≡ Ok (mode, rest)
unfolding read_mode
mode_again new regs mode rest fits may = rw (fits, may) refl

code_again : (mode code : ℕ) (rest : List ℕ) → is_code mode code ≡ true → read_code mode (code ∷ rest) ≡ Ok (code, rest)
unfolding read_code
code_again mode code rest fits = rw fits refl

open_talk_again : (t : TalkRec) (rest : List ℕ) → is_half t.moved ≡ true → fits_link t.port ≡ true → fits_link t.server ≡ true
    → read_open_talk t.turn (to_le_bytes w16 t.moved ++ (link t.port ++ (link t.server ++ rest))) ≡ Ok (Some t, rest)
unfolding read_open_talk
open_talk_again t rest moved port server =
    rw (
      number_again w16 (2 ^ 16) wide16 t.moved (link t.port ++ (link t.server ++ rest)) moved,
      link_again t.port (link t.server ++ rest) port,
      link_again t.server rest server,
    ) refl

talk_apart : (t : TalkRec) (rest : List ℕ) → talk (Some t) ++ rest ≡ t.turn ∷ (to_le_bytes w16 t.moved ++ (link t.port ++ (link t.server ++ rest)))
talk_apart t rest = simp append_assoc

talk_again : (t : Option TalkRec) (rest : List ℕ) → fits_talk t ≡ true → read_talk (talk t ++ rest) ≡ Ok (t, rest)
unfolding read_talk
talk_again None rest fits = rw (below_again 3 0 rest refl) refl
talk_again (Some t) rest fits =
    let f = and4 (is_turn t.turn) (is_half t.moved) (fits_link t.port) (fits_link t.server) fits in
    let g = and2 (not (eqb t.turn 0)) (ltb t.turn 3) f.0 in
    let after = to_le_bytes w16 t.moved ++ (link t.port ++ (link t.server ++ rest)) in
    ap read_talk (talk_apart t rest) ∙ rw (below_again 3 t.turn after g.1, not_true (eqb t.turn 0) g.0) (open_talk_again t rest f.1 f.2 f.3)

taker_again : (to : Option Link) (rest : List ℕ) → fits_taker to ≡ true → read_taker (fault_state to) (taker to ++ rest) ≡ Ok (to, rest)
unfolding read_taker
taker_again None rest fits = refl
taker_again (Some to) rest fits = rw (link_again to rest fits) refl

state_small : (to : Option Link) → ltb (fault_state to) 3 ≡ true
state_small None = refl
state_small (Some to) = refl

state_some : (to : Option Link) → eqb (fault_state to) 0 ≡ false
state_some None = refl
state_some (Some to) = refl

met_fault_again : (f : FaultRec) (rest : List ℕ) → is_bit f.write ≡ true → fits_link f.port ≡ true → fits_taker f.taker ≡ true
    → read_met_fault (fault_state f.taker) (f.page ∷ f.write ∷ (link f.port ++ (taker f.taker ++ rest))) ≡ Ok (Some f, rest)
unfolding read_met_fault
met_fault_again f rest write port to =
    rw (below_again 2 f.write (link f.port ++ (taker f.taker ++ rest)) write, link_again f.port (taker f.taker ++ rest) port, taker_again f.taker rest to) refl

fault_apart : (f : FaultRec) (rest : List ℕ) → fault (Some f) ++ rest ≡ fault_state f.taker ∷ f.page ∷ f.write ∷ (link f.port ++ (taker f.taker ++ rest))
fault_apart f rest = simp append_assoc

fault_again : (f : Option FaultRec) (rest : List ℕ) → fits_fault f ≡ true → read_fault (fault f ++ rest) ≡ Ok (f, rest)
unfolding read_fault
fault_again None rest fits = rw (below_again 3 0 rest refl) refl
fault_again (Some f) rest fits =
    let g = and4 (is_byte f.page) (is_bit f.write) (fits_link f.port) (fits_taker f.taker) fits in
    let after = f.page ∷ f.write ∷ (link f.port ++ (taker f.taker ++ rest)) in
    ap read_fault (fault_apart f rest)
    ∙ rw (below_again 3 (fault_state f.taker) after (state_small f.taker), state_some f.taker) (met_fault_again f rest g.1 g.2 g.3)

thread_apart : (t : ThreadRec) (rest : List ℕ) → thread t ++ rest
    ≡ words t.regs ++ (to_le_bytes w64 t.pc ++ (t.mode ∷ t.code ∷ (to_le_bytes w16 t.stops ++ (talk t.talk ++ (fault t.fault ++ rest)))))
thread_apart t rest = simp append_assoc

thread_again : (new : Bool) (t : ThreadRec) (rest : List ℕ) → fits_thread t ≡ true → allows new (shows_new t.regs t.mode) ≡ true →
    read_thread new (thread t ++ rest) ≡ Ok (Thread t, rest)
unfolding read_thread
thread_again new t rest fits may =
    let e = and3 (are_words 16 t.regs && is_word t.pc && is_mode_byte t.regs t.mode && is_byte t.code && is_code t.mode t.code && is_half t.stops)
    (fits_talk t.talk) (fits_fault t.fault) fits in
    let f = and6 (are_words 16 t.regs) (is_word t.pc) (is_mode_byte t.regs t.mode) (is_byte t.code) (is_code t.mode t.code) (is_half t.stops) e.0 in
    let behind_talk = fault t.fault ++ rest in
    let behind_stops = talk t.talk ++ behind_talk in
    let behind_code = to_le_bytes w16 t.stops ++ behind_stops in
    let behind_pc = t.mode ∷ t.code ∷ behind_code in
    ap (read_thread new) (thread_apart t rest)
    ∙ rw (
      words_again 16 t.regs (to_le_bytes w64 t.pc ++ behind_pc) f.0,
      number_again w64 (2 ^ 64) wide64 t.pc behind_pc f.1,
      mode_again new t.regs t.mode (t.code ∷ behind_code) f.2 may,
      code_again t.mode t.code behind_code f.4,
      number_again w16 (2 ^ 16) wide16 t.stops behind_stops f.5,
      talk_again t.talk behind_talk e.1,
      fault_again t.fault rest e.2,
    ) refl

-- ---- objects and pages

extent_again : (first count : ℕ) (rest : List ℕ) →
    is_half count ≡ true → is_extent first count ≡ true → read_extent (first ∷ (to_le_bytes w16 count ++ rest)) ≡ Ok ((first, count), rest)
unfolding read_extent
extent_again first count rest half fits = rw (number_again w16 (2 ^ 16) wide16 count rest half, fits) refl

body_again : (new : Bool) (b : Rec) (rest : List ℕ) → fits_body b ≡ true → allows new (body_shows b) ≡ true → read_body new (body b ++ rest) ≡ Ok (b, rest)
unfolding read_body read_mutex read_mapping read_region read_port read_reference
body_again new (Mutex locked) rest fits may = rw (below_again 2 locked rest fits) refl
body_again new Cond rest fits may = refl
body_again new Portset rest fits may = refl
body_again new (Mapping start count offset write region) rest fits may =
    let f = and6 (is_byte start) (is_half count) (is_extent start count) (is_byte offset) (is_bit write) (fits_link region) fits in
    rw (extent_again start count (offset ∷ write ∷ (link region ++ rest)) f.1 f.2, below_again 2 write (link region ++ rest) f.4, link_again region rest f.5)
    refl
body_again new (Region start count write keeper) rest fits may =
    let f = and5 (is_byte start) (is_half count) (is_extent start count) (is_bit write) (fits_link keeper) fits in
    rw (extent_again start count (write ∷ (link keeper ++ rest)) f.1 f.2, below_again 2 write (link keeper ++ rest) f.3, link_again keeper rest f.4) refl
body_again new (Port set) rest fits may = let lt = ltb-true set 241 fits in
    rw (number_again w16 (2 ^ 16) wide16 set rest (lt-ltb set (2 ^ 16) (omega arith)), fits) refl
body_again new (Thread t) rest fits may = thread_again new t rest fits may
body_again new (Reference to) rest fits may = rw (link_again to rest fits) refl

object_again : (new : Bool) (floor : ℕ) (o : ObjectRec) (rest : List ℕ) → (fits_object floor o && allows new (object_shows o)) ≡ true →
    read_object new floor (object o ++ rest) ≡ Ok (o, rest)
unfolding read_object
object_again new floor o rest all =
    let parts = and2 (fits_object floor o) (allows new (object_shows o)) all in
    let fits = parts.0 in
    let f = and3 (ltb o.slot 240) (not (ltb o.slot floor)) (fits_body o.body) fits in
    rw (below_again 240 o.slot (body o.body ++ rest) f.0, f.1, body_again new o.body rest f.2 parts.1) refl

page_again : (floor : ℕ) (p : PageRec) (rest : List ℕ) → fits_page floor p ≡ true → read_page floor (page p ++ rest) ≡ Ok (p, rest)
unfolding read_page
page_again floor p rest fits =
    let f = and3 (is_byte p.page) (not (ltb p.page floor)) (are_words 64 p.words) fits in
    rw (f.1, words_again 64 p.words rest f.2) refl

objects_again : (new : Bool) (os : List ObjectRec) (rest : List ℕ) → fits_objects os ≡ true → allows new (list_any object_shows os) ≡ true →
    read_objects new (to_le_bytes w16 (length os) ++ (flat_map object os ++ rest)) ≡ Ok (os, rest)
unfolding read_objects
objects_again new os rest fits may =
    let f = and2 (is_half (length os)) (all_from after_object fits_object 0 os) fits in
    rw (number_again w16 (2 ^ 16) wide16 (length os) (flat_map object os ++ rest) f.0)
    (many_again (read_object new) after_object object (λ floor o. fits_object floor o && allows new (object_shows o)) (object_again new) os 0 [] rest
    (all_both after_object fits_object (λ o. allows new (object_shows o)) 0 os f.1 (allows_each object_shows new os may)))

pages_again : (ps : List PageRec) (rest : List ℕ) → fits_pages ps ≡ true →
    read_pages (to_le_bytes w16 (length ps) ++ (flat_map page ps ++ rest)) ≡ Ok (ps, rest)
unfolding read_pages
pages_again ps rest fits =
    let f = and2 (is_half (length ps)) (all_from after_page fits_page 0 ps) fits in
    rw (number_again w16 (2 ^ 16) wide16 (length ps) (flat_map page ps ++ rest) f.0)
    (many_again read_page after_page page fits_page page_again ps 0 [] rest f.1)

-- ---- spaces

-- a space and what follows, with the rest behind each of its fields
after_slot : SpaceRec → List ℕ → List ℕ
after_slot s rest = link s.holder
    ++ (to_le_bytes w16 (length s.objects) ++ (flat_map object s.objects ++ (to_le_bytes w16 (length s.pages) ++ (flat_map page s.pages ++ rest))))

space_apart : (s : SpaceRec) (rest : List ℕ) → space s ++ rest ≡ to_le_bytes w32 s.parent ++ (s.slot ∷ after_slot s rest)
unfolding after_slot
space_apart s rest = simp append_assoc

null_is : (l : Link) → is_null l ≡ true → l ≡ Null
null_is Null e = refl
null_is Dead e = absurd cc
null_is (In slot n) e = absurd cc
null_is (Out slot) e = absurd cc
null_is Root e = absurd cc
null_is Outside e = absurd cc

first_again : (new : Bool) (s : SpaceRec) (rest : List ℕ) → is_first s ≡ true → fits_objects s.objects ≡ true → fits_pages s.pages ≡ true →
    allows new (space_shows s) ≡ true → read_first new (space s ++ rest) ≡ Ok (s, rest)
unfolding read_first after_slot
first_again new s rest top objects pages may =
    let f = and3 (eqb s.parent 4294967295) (eqb s.slot 0) (is_null s.holder) top in
    let null = null_is s.holder f.2 in
    let parent : s.parent ≡ 4294967295 = eqb-true _ _ f.0 in
    let after_objects = to_le_bytes w16 (length s.pages) ++ (flat_map page s.pages ++ rest) in
    let after_holder = to_le_bytes w16 (length s.objects) ++ (flat_map object s.objects ++ after_objects) in
    ap (read_first new) (space_apart s rest ∙ ap (λ (h : Link). to_le_bytes w32 s.parent ++ (s.slot ∷ (link h ++ after_holder))) null)
    ∙ rw (
      number_again w32 (2 ^ 32) wide32 s.parent (s.slot ∷ 0 ∷ after_holder) (lt-ltb s.parent (2 ^ 32) (omega arith)),
      f.0,
      f.1,
      objects_again new s.objects after_objects objects may,
      pages_again s.pages rest pages,
    )
    (ap (λ (h : Link). Ok (record { parent = s.parent; slot = s.slot; holder = h; objects = s.objects; pages = s.pages }, rest)) (sym null))

room_is : (room : Option ℕ) (slot : ℕ) → has_room room slot ≡ true → (floor : ℕ) × (room ≡ Some floor) × (not (ltb slot floor) ≡ true)
room_is None slot e = absurd cc
room_is (Some floor) slot e = (floor, refl, e)

next_again : (new : Bool) (d : SpaceRec) (before : List SpaceRec) (path : List Open) (s : SpaceRec) (rest : List ℕ) →
    is_next (d ∷ before) path s ≡ true → fits_objects s.objects ≡ true → fits_pages s.pages ≡ true
    → allows new (space_shows s) ≡ true → read_next new (d ∷ before) path (space s ++ rest) ≡ Ok (s, rest)
unfolding read_next read_room after_slot
next_again new d before path s rest next objects pages may =
    let f = and5 (ltb s.parent (2 ^ 32))
    (ltb s.slot 240) (has_room (room_under path s.parent) s.slot) (not (is_some (kind_in_space (d ∷ before) s.parent s.slot))) (fits_link s.holder) next in
    let r = room_is (room_under path s.parent) s.slot f.2 in
    let after_objects = to_le_bytes w16 (length s.pages) ++ (flat_map page s.pages ++ rest) in
    let after_holder = to_le_bytes w16 (length s.objects) ++ (flat_map object s.objects ++ after_objects) in
    let bytes = to_le_bytes w32 s.parent ++ (s.slot ∷ (link s.holder ++ after_holder)) in
    let room : or_refuse_field (room_under path s.parent) bytes 4 ≡ Ok r.0 = ap (λ (o : Option ℕ). or_refuse_field o bytes 4) r.1 in
    ap (read_next new (d ∷ before) path) (space_apart s rest)
    ∙ rw (
      number_again w32 (2 ^ 32) wide32 s.parent (s.slot ∷ (link s.holder ++ after_holder)) f.0,
      room,
      below_again 240 s.slot (link s.holder ++ after_holder) f.1,
      r.2,
      f.3,
      link_again s.holder after_holder f.4,
      objects_again new s.objects after_objects objects may,
      pages_again s.pages rest pages,
    ) refl

placed_again : (new : Bool) (before : List SpaceRec) (path : List Open) (s : SpaceRec) (rest : List ℕ) →
    fits_space (before, path) s ≡ true → allows new (space_shows s) ≡ true → read_placed new before path (space s ++ rest) ≡ Ok (s, rest)
placed_again new [] path s rest fits may =
    let f = and3 (is_first s) (fits_objects s.objects) (fits_pages s.pages) fits in first_again new s rest f.0 f.1 f.2 may
placed_again new (d ∷ before) path s rest fits may = let f = and3 (is_next (d ∷ before) path s) (fits_objects s.objects) (fits_pages s.pages) fits in
    next_again new d before path s rest f.0 f.1 f.2 may

space_again : (new : Bool) (before : List SpaceRec × List Open) (s : SpaceRec) (rest : List ℕ) →
    (fits_space before s && allows new (space_shows s)) ≡ true → read_space new before (space s ++ rest) ≡ Ok (s, rest)
unfolding read_space
space_again new before s rest all =
    let parts = and2 (fits_space before s) (allows new (space_shows s)) all in placed_again new before.0 before.1 s rest parts.0 parts.1

version_again : (new : Bool) (rest : List ℕ) → read_version (to_le_bytes w16 (version_number new) ++ rest) ≡ Ok (new, rest)
unfolding read_version
version_again true rest = rw (number_again w16 (2 ^ 16) wide16 2 rest refl) refl
version_again false rest = rw (number_again w16 (2 ^ 16) wide16 1 rest refl) refl

head_again : (new : Bool) (n : ℕ) (rest : List ℕ) → ltb 0 n ≡ true → ltb n (2 ^ 32) ≡ true →
    read_head (magic ++ (to_le_bytes w16 (version_number new) ++ (to_le_bytes w32 n ++ rest))) ≡ Ok ((new, n), rest)
unfolding read_head
head_again new n rest some lt =
    let one = ltb-true 0 n some in
    let long : ltb (length (magic ++ (to_le_bytes w16 (version_number new) ++ (to_le_bytes w32 n ++ rest)))) 8 ≡ false = le-ltb _ _ (omega arith) in
    rw (long, version_again new (to_le_bytes w32 n ++ rest), number_again w32 (2 ^ 32) wide32 n rest lt, ne_eqb n 0 (λ e. omega arith)) refl

pub image_again : (i : Image) → fits_spaces i.spaces ≡ true → read_image (spelling i) ≡ Ok (image_shows i, i)
unfolding read_image
image_again i fits =
    let new = image_shows i in
    let f = and3 (ltb 0 (length i.spaces)) (ltb (length i.spaces) (2 ^ 32)) (all_from after_space fits_space ([], root_path) i.spaces) fits in
    let both_fit = all_both after_space fits_space (λ s. allows new (space_shows s)) ([], root_path) i.spaces f.2
    (allows_each space_shows new i.spaces (allows_itself new)) in
    let spaces : read_many (read_space new) after_space (length i.spaces) ([], root_path) [] (flat_map space i.spaces) ≡ Ok (i.spaces, []) =
    ap (read_many (read_space new) after_space (length i.spaces) ([], root_path) []) (sym (append-nil (flat_map space i.spaces)))
    ∙ many_again (read_space new) after_space space (λ before s. fits_space before s && allows new (space_shows s)) (space_again new) i.spaces
    ([], root_path) [] [] both_fit in
    rw (head_again new (length i.spaces) (flat_map space i.spaces) f.0 f.1, spaces) refl
