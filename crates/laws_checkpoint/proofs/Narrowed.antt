-- A valid image is kept as it is.
use Rattle.std.specs.Prelude.{slice_index}
use Rattle.std.proofs.Common.{is_some, ◌≡◌, ℕ, suc, ◌-◌, ◌^◌, ◌≤◌, Bool, true, false, cond, ltb, ◌&&◌, ◌||◌, not, ◌==◌, List, [], ◌∷◌, ◌++◌, map, length}
use Rattle.std.proofs.Common.{replicate, Option, Some, None, option_map, refl, sym, ap, subst, ◌∙◌, arith, ◌⊎◌, inl, inr, eqb-true}
use Rattle.std.proofs.lemmas.Bool.{and_parts, lt-ltb, leb-true}
use Rattle.std.proofs.lemmas.List.{append-nil}
use Rattle.std.specs.List.{list_all}
use Rattle.fk_model.specs.Records.{padded}
use Rattle.fk_image.specs.declared.image.image.Link.{Link}
use Rattle.fk_image.specs.declared.image.image.Link.TheVariants.{Null, Dead, In, Out, Root, Outside}
use Rattle.fk_image.specs.declared.image.image.TalkRec.{TalkRec}
use Rattle.fk_image.specs.declared.image.image.FaultRec.{FaultRec}
use Rattle.fk_image.specs.declared.image.image.ThreadRec.{ThreadRec}
use Rattle.fk_image.specs.declared.image.image.Rec.{Rec}
use Rattle.fk_image.specs.declared.image.image.Rec.TheVariants.{Mutex, Cond, Portset, Mapping, Region, Port, Thread, Reference}
use Rattle.fk_image.specs.declared.image.image.ObjectRec.{ObjectRec}
use Rattle.fk_image.specs.declared.image.image.PageRec.{PageRec}
use Rattle.fk_image.specs.declared.image.image.SpaceRec.{SpaceRec}
use Rattle.fk_image.specs.declared.image.image.Image.{Image}
use Rattle.fk_image.specs.declared.image.open.Open.{Open}
use Rattle.fk_image.specs.Image.Ranges.{is_slot, is_bit, is_byte, is_half, is_word, is_turn, is_mode_byte, is_call_code, is_code, is_extent, are_words}
use Rattle.fk_image.specs.Image.Ranges.{fits_link, fits_talk, fits_taker, fits_fault, fits_thread, fits_body}
use Rattle.fk_image.specs.Image.Preorder.{root_path, after_space, room_under, has_room}
use Rattle.fk_image.specs.Image.Links.{kind_in_space, all_lead}
use Rattle.fk_image.specs.Image.Valid.{all_from, fits_object, after_object, fits_page, after_page, fits_objects, fits_pages, fits_space, stands_in_order}
use Rattle.fk_image.specs.Image.Valid.{is_null, fits_spaces, is_valid}
use Rattle.laws_checkpoint.specs.Narrow.{within, number, narrow_link, narrow_talk, narrow_fault, narrow_thread, narrow_rec, rising}
use Rattle.laws_checkpoint.specs.Narrow.{narrow_page, narrow_space, narrowed}

-- ---- numbers

stays : (bound n : ℕ) → ltb n bound ≡ true → within bound n ≡ n
stays bound n e = ap (λ fits. cond fits n 0) e

stays_small : (small bound n : ℕ) → small ≤ bound → ltb n small ≡ true → within bound n ≡ n
stays_small small bound n le e = stays bound n (lt-ltb n bound (omega (arith, leb-true (suc n) small e, le)))

same_length : (count : ℕ) (words : List ℕ) → length words ≡ count → padded count words ≡ words
same_length count words e = ap (λ n. words ++ replicate n 0) (ap (λ n. count - n) e ∙ nothing_left count) ∙ append-nil words
  where
    nothing_left : (n : ℕ) → n - n ≡ 0
    nothing_left n = omega arith

-- ---- links, talks and faults

link : (l : Link) → fits_link l ≡ true → narrow_link l ≡ l
link Null e = refl
link Dead e = refl
link (In slot space) e =
    let both = and_parts (ltb space (2 ^ 32)) (is_slot slot) e in
    rw (stays_small 240 256 slot (omega arith) both.1, stays (2 ^ 32) space both.0) refl
link (Out slot) e = ap Out (stays_small 240 256 slot (omega arith) e)
link Root e = refl
link Outside e = refl

talk : (t : Option TalkRec) → fits_talk t ≡ true → option_map narrow_talk t ≡ t
talk None e = refl
talk (Some t) e =
    let three = and_parts (is_turn t.turn && is_half t.moved && fits_link t.port) (fits_link t.server) e in
    let two = and_parts (is_turn t.turn && is_half t.moved) (fits_link t.port) three.0 in
    let one = and_parts (is_turn t.turn) (is_half t.moved) two.0 in
    let turn = and_parts (not (t.turn == 0)) (ltb t.turn 3) one.0 in
    rw (stays_small 3 256 t.turn (omega arith) turn.1, stays (2 ^ 16) t.moved one.1, link t.port two.1, link t.server three.1) refl

taker : (to : Option Link) → fits_taker to ≡ true → option_map narrow_link to ≡ to
taker None e = refl
taker (Some l) e = ap (λ (x : Link). Some x) (link l e)

fault : (f : Option FaultRec) → fits_fault f ≡ true → option_map narrow_fault f ≡ f
fault None e = refl
fault (Some f) e =
    let three = and_parts (is_byte f.page && is_bit f.write && fits_link f.port) (fits_taker f.taker) e in
    let two = and_parts (is_byte f.page && is_bit f.write) (fits_link f.port) three.0 in
    let one = and_parts (is_byte f.page) (is_bit f.write) two.0 in
    rw (stays 256 f.page one.0, stays_small 2 256 f.write (omega arith) one.1, link f.port two.1, taker f.taker three.1) refl

-- ---- objects

either : (x y : Bool) → (x || y) ≡ true → (x ≡ true) ⊎ (y ≡ true)
either true y e = inl refl
either false y e = inr e

mode_is_byte : (regs : List ℕ) (mode : ℕ) → is_mode_byte regs mode ≡ true → within 256 mode ≡ mode
mode_is_byte regs mode e = by (either (mode == 0 || mode == 2) (mode == 1 && is_call_code (slice_index regs 0)) e)
  where
    at : (n : ℕ) → within 256 n ≡ n → (mode == n) ≡ true → within 256 mode ≡ mode
    at n here same = subst (λ k. within 256 k ≡ k) (sym (eqb-true mode n same)) here

    first : ((mode == 0) ≡ true) ⊎ ((mode == 2) ≡ true) → within 256 mode ≡ mode
    first (inl zero) = at 0 refl zero
    first (inr two) = at 2 refl two

    by : ((mode == 0 || mode == 2) ≡ true) ⊎ ((mode == 1 && is_call_code (slice_index regs 0)) ≡ true) → within 256 mode ≡ mode
    by (inl still) = first (either (mode == 0) (mode == 2) still)
    by (inr calling) = at 1 refl (and_parts (mode == 1) (is_call_code (slice_index regs 0)) calling).0

thread : (t : ThreadRec) → fits_thread t ≡ true → narrow_thread t ≡ t
thread t e =
    let h8 = and_parts (are_words 16 t.regs && is_word t.pc && is_mode_byte t.regs t.mode && is_byte t.code && is_code t.mode t.code && is_half t.stops
    && fits_talk t.talk) (fits_fault t.fault) e in
    let h7 = and_parts (are_words 16 t.regs && is_word t.pc && is_mode_byte t.regs t.mode && is_byte t.code && is_code t.mode t.code && is_half t.stops)
    (fits_talk t.talk) h8.0 in
    let h6 = and_parts (are_words 16 t.regs && is_word t.pc && is_mode_byte t.regs t.mode && is_byte t.code && is_code t.mode t.code) (is_half t.stops) h7.0 in
    let h5 = and_parts (are_words 16 t.regs && is_word t.pc && is_mode_byte t.regs t.mode && is_byte t.code) (is_code t.mode t.code) h6.0 in
    let h4 = and_parts (are_words 16 t.regs && is_word t.pc && is_mode_byte t.regs t.mode) (is_byte t.code) h5.0 in
    let h3 = and_parts (are_words 16 t.regs && is_word t.pc) (is_mode_byte t.regs t.mode) h4.0 in
    let h2 = and_parts (are_words 16 t.regs) (is_word t.pc) h3.0 in
    let h1 = and_parts (length t.regs == 16) (list_all is_word t.regs) h2.0 in
    rw (
      same_length 16 t.regs (eqb-true (length t.regs) 16 h1.0),
      mode_is_byte t.regs t.mode h3.1,
      stays 256 t.code h4.1,
      stays (2 ^ 16) t.stops h6.1,
      talk t.talk h7.1,
      fault t.fault h8.1,
    ) refl

rec : (r : Rec) → fits_body r ≡ true → narrow_rec r ≡ r
rec (Mutex locked) e = ap Mutex (stays_small 2 256 locked (omega arith) e)
rec Cond e = refl
rec Portset e = refl
rec (Mapping first count offset write region) e =
    let five = and_parts (is_byte first && is_half count && is_extent first count && is_byte offset && is_bit write) (fits_link region) e in
    let four = and_parts (is_byte first && is_half count && is_extent first count && is_byte offset) (is_bit write) five.0 in
    let three = and_parts (is_byte first && is_half count && is_extent first count) (is_byte offset) four.0 in
    let two = and_parts (is_byte first && is_half count) (is_extent first count) three.0 in
    let one = and_parts (is_byte first) (is_half count) two.0 in
    rw (stays 256 first one.0, stays (2 ^ 16) count one.1, stays 256 offset three.1, stays_small 2 256 write (omega arith) four.1, link region five.1) refl
rec (Region first count write keeper) e =
    let four = and_parts (is_byte first && is_half count && is_extent first count && is_bit write) (fits_link keeper) e in
    let three = and_parts (is_byte first && is_half count && is_extent first count) (is_bit write) four.0 in
    let two = and_parts (is_byte first && is_half count) (is_extent first count) three.0 in
    let one = and_parts (is_byte first) (is_half count) two.0 in
    rw (stays 256 first one.0, stays (2 ^ 16) count one.1, stays_small 2 256 write (omega arith) three.1, link keeper four.1) refl
rec (Port set) e = ap Port (stays_small 241 (2 ^ 16) set (omega arith) e)
rec (Thread t) e = ap Thread (thread t e)
rec (Reference to) e = ap Reference (link to e)

unlike : (b : Bool) → not b ≡ true → b ≡ false
unlike true e = cc
unlike false e = refl

objects : (floor : ℕ) (os : List ObjectRec) → all_from after_object fits_object floor os ≡ true → rising floor os ≡ os
unfolding rising
objects floor [] e = refl
objects floor (o ∷ os) e =
    let both = and_parts (fits_object floor o) (all_from after_object fits_object (after_object floor o) os) e in
    let body = and_parts (is_slot o.slot && not (ltb o.slot floor)) (fits_body o.body) both.0 in
    let above = and_parts (is_slot o.slot) (not (ltb o.slot floor)) body.0 in
    rw (unlike (ltb o.slot floor) above.1, rec o.body body.1, objects (after_object floor o) os both.1) refl

pages : (floor : ℕ) (ps : List PageRec) → all_from after_page fits_page floor ps ≡ true → map narrow_page ps ≡ ps
pages floor [] e = refl
pages floor (p ∷ ps) e =
    let both = and_parts (fits_page floor p) (all_from after_page fits_page (after_page floor p) ps) e in
    let words = and_parts (is_byte p.page && not (ltb p.page floor)) (are_words 64 p.words) both.0 in
    let long = and_parts (length p.words == 64) (list_all is_word p.words) words.1 in
    rw (same_length 64 p.words (eqb-true (length p.words) 64 long.0), pages (after_page floor p) ps both.1) refl

-- ---- spaces

null_link : (l : Link) → is_null l ≡ true → narrow_link l ≡ l
null_link Null e = refl
null_link Dead e = cc
null_link (In slot space) e = cc
null_link (Out slot) e = cc
null_link Root e = cc
null_link Outside e = cc

ordered : (done : List SpaceRec) (path : List Open) (s : SpaceRec) → stands_in_order done path s ≡ true
    → (number s.parent ≡ s.parent) × (narrow_link s.holder ≡ s.holder)
ordered [] path s e =
    let two = and_parts (s.parent == 4294967295 && s.slot == 0) (is_null s.holder) e in
    let one = and_parts (s.parent == 4294967295) (s.slot == 0) two.0 in
    (subst (λ n. number n ≡ n) (sym (eqb-true s.parent 4294967295 one.0)) refl, null_link s.holder two.1)
ordered (d ∷ done) path s e =
    let four = and_parts (ltb s.parent (2 ^ 32) && is_slot s.slot && has_room (room_under path s.parent) s.slot
    && not (is_some (kind_in_space (d ∷ done) s.parent s.slot))) (fits_link s.holder) e in
    let three = and_parts (ltb s.parent (2 ^ 32) && is_slot s.slot && has_room (room_under path s.parent) s.slot)
    (not (is_some (kind_in_space (d ∷ done) s.parent s.slot))) four.0 in
    let two = and_parts (ltb s.parent (2 ^ 32) && is_slot s.slot) (has_room (room_under path s.parent) s.slot) three.0 in
    let one = and_parts (ltb s.parent (2 ^ 32)) (is_slot s.slot) two.0 in
    (stays (2 ^ 32) s.parent one.0, link s.holder four.1)

spaces : (before : List SpaceRec × List Open) (ss : List SpaceRec) → all_from after_space fits_space before ss ≡ true → map narrow_space ss ≡ ss
spaces before [] e = refl
spaces before (s ∷ ss) e =
    let both = and_parts (fits_space before s) (all_from after_space fits_space (after_space before s) ss) e in
    let two = and_parts (stands_in_order before.0 before.1 s && fits_objects s.objects) (fits_pages s.pages) both.0 in
    let one = and_parts (stands_in_order before.0 before.1 s) (fits_objects s.objects) two.0 in
    let its = ordered before.0 before.1 s one.0 in
    let inside = (and_parts (is_half (length s.objects)) (all_from after_object fits_object 0 s.objects) one.1).1 in
    let words = (and_parts (is_half (length s.pages)) (all_from after_page fits_page 0 s.pages) two.1).1 in
    rw (its.0, its.1, objects 0 s.objects inside, pages 0 s.pages words, spaces (after_space before s) ss both.1) refl

pub valid_is_narrow : (i : Image) → is_valid i ≡ true → narrowed i ≡ i
unfolding is_valid
valid_is_narrow i e =
    let parts = and_parts (fits_spaces i.spaces) (all_lead i.spaces) e in
    let fit = and_parts (ltb 0 (length i.spaces) && ltb (length i.spaces) (2 ^ 32)) (all_from after_space fits_space ([], root_path) i.spaces) parts.0 in
    ap (λ ss. record { spaces = ss }) (spaces ([], root_path) i.spaces fit.1)
