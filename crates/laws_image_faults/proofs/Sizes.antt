-- Sizes: each record has as many bytes as its size says.
use Rattle.std.proofs.Common.{◌≡◌, ℕ, suc, ◌+◌, ◌*◌, Bool, true, ◌&&◌, ◌==◌, List, [], ◌∷◌, ◌++◌, length, Option, Some, None, refl, ap, ◌∙◌, arith, eqb-true}
use Rattle.std.specs.List.{flat_map, list_all, sum_by}
use Rattle.std.specs.Int.{w16, w32, w64, to_le_bytes}
use Rattle.std.proofs.lemmas.List.{length-append}
use Rattle.std.proofs.lemmas.List.Concat.{flat_map-cons}
use Rattle.std.proofs.lemmas.List.Sums.{sum_by-cons}
use Rattle.fk_image.specs.declared.image.image.Link.{Link}
use Rattle.fk_image.specs.declared.image.image.Link.TheVariants.{Null, Dead, In, Out, Root, Outside}
use Rattle.fk_image.specs.declared.image.image.TalkRec.{TalkRec}
use Rattle.fk_image.specs.declared.image.image.FaultRec.{FaultRec}
use Rattle.fk_image.specs.declared.image.image.ThreadRec.{ThreadRec}
use Rattle.fk_image.specs.declared.image.image.Rec.{Rec}
use Rattle.fk_image.specs.declared.image.image.Rec.TheVariants.{Mutex, Cond, Portset, Mapping, Region, Port, Thread, Reference}
use Rattle.fk_image.specs.declared.image.image.ObjectRec.{ObjectRec}
use Rattle.fk_image.specs.declared.image.image.PageRec.{PageRec}
use Rattle.fk_image.specs.Image.Ranges.{is_word, are_words, fits_body, fits_talk, fits_fault, is_mode_byte, is_byte, is_code, is_half}
use Rattle.fk_image.specs.Format.Spelling.{link_bytes, words_bytes, talk_bytes, taker_bytes, fault_bytes, thread_bytes, body_bytes, object_bytes, page_bytes}
use Rattle.fk_image.specs.Format.Spelling.{contents_bytes}
use Rattle.fk_image.specs.Form.Standing.{link_size, talk_size, taker_size, fault_size, fault_begins, body_size, object_size}
use Rattle.fk_image.specs.Form.Formed.{Each, IsObject, IsPage}
use Rattle.fk_image.proofs.InFormat.Basics.{and2, wide16, wide32, wide64}
use Rattle.laws_image_faults.specs.Formed.{SizesAreLengths}

link-long : (to : Link) → length (link_bytes to) ≡ link_size to
link-long Null = refl
link-long Dead = refl
link-long (In slot space) = refl
link-long (Out slot) = refl
link-long Root = refl
link-long Outside = refl

words-long : (ws : List ℕ) → length (words_bytes ws) ≡ 8 * length ws
words-long [] = refl
words-long (w ∷ ws) =
    let rest = words-long ws in
    let one = wide64.len w in
    let both = length-append (to_le_bytes w64 w) (words_bytes ws) in
    ap length (flat_map-cons (to_le_bytes w64) w ws) ∙ both ∙ omega (arith, rest, one)

talk-long : (o : Option TalkRec) → length (talk_bytes o) ≡ talk_size o
talk-long None = refl
talk-long (Some t) =
    let moved = wide16.len t.moved in
    let port = link-long t.port in
    let server = link-long t.server in
    let one = length-append (to_le_bytes w16 t.moved) (link_bytes t.port ++ link_bytes t.server) in
    let two = length-append (link_bytes t.port) (link_bytes t.server) in
    omega (arith, moved, port, server, one, two)

taker-long : (o : Option Link) → length (taker_bytes o) ≡ taker_size o
taker-long None = refl
taker-long (Some to) = link-long to

fault-long : (o : Option FaultRec) → length (fault_bytes o) ≡ fault_size o
fault-long None = refl
fault-long (Some f) =
    let port = link-long f.port in
    let taker = taker-long f.taker in
    let both = length-append (link_bytes f.port) (taker_bytes f.taker) in
    omega (arith, port, taker, both)

-- a thread has 16 registers
thread-long : (t : ThreadRec) → length t.regs ≡ 16 → 2 + length (thread_bytes t) ≡ fault_begins t + fault_size t.fault
thread-long t many =
    let tail = talk_bytes t.talk ++ fault_bytes t.fault in
    let behind = t.mode ∷ t.code ∷ (to_le_bytes w16 t.stops ++ tail) in
    let regs = words-long t.regs in
    let pc = wide64.len t.pc in
    let stops = wide16.len t.stops in
    let talk = talk-long t.talk in
    let fault = fault-long t.fault in
    let one = length-append (words_bytes t.regs) (to_le_bytes w64 t.pc ++ behind) in
    let two = length-append (to_le_bytes w64 t.pc) behind in
    let three = length-append (to_le_bytes w16 t.stops) tail in
    let four = length-append (talk_bytes t.talk) (fault_bytes t.fault) in
    omega (arith, many, regs, pc, stops, talk, fault, one, two, three, four)

regs-many : (t : ThreadRec) → fits_body (Thread t) ≡ true → length t.regs ≡ 16
regs-many t fits = eqb-true (length t.regs) 16 (first (length t.regs == 16) (list_all is_word t.regs) (words fits))
  where
    first : (a b : Bool) → (a && b) ≡ true → a ≡ true
    first a b e = (and2 a b e).0

    words : fits_body (Thread t) ≡ true → are_words 16 t.regs ≡ true
    words fits =
        let a = are_words 16 t.regs in
        let g = first _ (fits_fault t.fault) fits in
        let f = first _ (fits_talk t.talk) g in
        let e = first _ (is_half t.stops) f in
        let d = first _ (is_code t.mode t.code) e in
        let c = first _ (is_byte t.code) d in
        let b = first _ (is_mode_byte t.regs t.mode) c in
        first a (is_word t.pc) b

body-long : (b : Rec) → fits_body b ≡ true → 1 + length (body_bytes b) ≡ body_size b
body-long (Mutex locked) fits = refl
body-long Cond fits = refl
body-long Portset fits = refl
body-long (Mapping first count offset write region) fits =
    let one = length-append (to_le_bytes w16 count) (offset ∷ write ∷ link_bytes region) in
    let two = wide16.len count in
    let three = link-long region in
    omega (arith, one, two, three)
body-long (Region first count write keeper) fits =
    let one = length-append (to_le_bytes w16 count) (write ∷ link_bytes keeper) in
    let two = wide16.len count in
    let three = link-long keeper in
    omega (arith, one, two, three)
body-long (Port set) fits = let one = wide16.len set in omega (arith, one)
body-long (Thread t) fits = let one = thread-long t (regs-many t fits) in omega (arith, one)
body-long (Reference to) fits = let one = link-long to in omega (arith, one)

objects-long : (os : List ObjectRec) → Each IsObject os → length (flat_map object_bytes os) ≡ sum_by object_size os
objects-long [] each = refl
objects-long (o ∷ os) each =
    let rest = objects-long os (λ n x e. each (suc n) x e) in
    let one = body-long o.body (each 0 o refl).body in
    let sum = sum_by-cons object_size o os in
    ap length (flat_map-cons object_bytes o os) ∙ length-append (object_bytes o) (flat_map object_bytes os) ∙ omega (arith, rest, one, sum)

page-long : (p : PageRec) → IsPage p → length (page_bytes p) ≡ 513
page-long p is =
    let many = eqb-true (length p.words) 64 (and2 (length p.words == 64) (list_all is_word p.words) is.words).0 in
    let words = words-long p.words in
    omega (arith, many, words)

pages-long : (ps : List PageRec) → Each IsPage ps → length (flat_map page_bytes ps) ≡ 513 * length ps
pages-long [] each = refl
pages-long (p ∷ ps) each =
    let rest = pages-long ps (λ n x e. each (suc n) x e) in
    let one = page-long p (each 0 p refl) in
    ap length (flat_map-cons page_bytes p ps) ∙ length-append (page_bytes p) (flat_map page_bytes ps) ∙ omega (arith, rest, one)

pub sizes_lengths : SizesAreLengths
sizes_lengths s is =
    let objects = flat_map object_bytes s.objects in
    let pages = flat_map page_bytes s.pages in
    let counted = to_le_bytes w16 (length s.pages) ++ pages in
    let contents = contents_bytes s.objects s.pages in
    let parent = wide32.len s.parent in
    let holder = link-long s.holder in
    let some_objects = wide16.len (length s.objects) in
    let some_pages = wide16.len (length s.pages) in
    let of_objects = objects-long s.objects is.objects in
    let of_pages = pages-long s.pages is.pages in
    let one = length-append (to_le_bytes w32 s.parent) (s.slot ∷ (link_bytes s.holder ++ contents)) in
    let two = length-append (link_bytes s.holder) contents in
    let three = length-append (to_le_bytes w16 (length s.objects)) (objects ++ counted) in
    let four = length-append objects counted in
    let five = length-append (to_le_bytes w16 (length s.pages)) pages in
    omega (arith, parent, holder, some_objects, some_pages, of_objects, of_pages, one, two, three, four, five)
