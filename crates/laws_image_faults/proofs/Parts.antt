-- Parts: what is read of pointers, threads, objects and pages is what their forms say, and it stops where they break.
use Rattle.std.proofs.Common.{◌≡◌, ℕ, Bool, true, false, not, ◌&&◌, ◌||◌, ◌==◌, nat_lt, List, [], ◌∷◌, Some, None, Result, Ok, if◌then◌else◌, refl}
use Rattle.std.proofs.Common.{◌∙◌}
use Rattle.std.specs.Int.{w16, w32, w64}
use Rattle.fk_image.specs.declared.image.image.Link.{Link}
use Rattle.fk_image.specs.declared.image.image.Link.TheVariants.{Null, Dead, In, Out, Root, Outside}
use Rattle.fk_image.specs.declared.image.image.ObjectRec.{ObjectRec}
use Rattle.fk_image.specs.declared.image.image.PageRec.{PageRec}
use Rattle.fk_image.specs.declared.image.image.Rec.{Rec}
use Rattle.fk_image.specs.declared.image.image.Rec.TheVariants.{Mutex, Cond, Portset, Port, Reference}
use Rattle.fk_image.specs.Image.Ranges.{is_extent, is_set_word, is_code}
use Rattle.fk_image.specs.Image.Valid.{after_object, after_page}
use Rattle.fk_image.specs.declared.format.reasons.reason.TheConstants as reasons
use Rattle.fk_image.specs.declared.format.stop.Stop.{Stop}
use Rattle.fk_image.specs.Format.Fields.{◌>>=◌, refuse_field, expect, read_byte, read_number, read_below}
use Rattle.fk_image.specs.Format.Reading.{read_link, read_words, read_word, same_state, read_mode, read_code, read_open_talk, read_talk, read_taker}
use Rattle.fk_image.specs.Format.Reading.{read_met_fault, read_fault, read_thread, read_extent, read_mapping, read_region, read_port, read_mutex}
use Rattle.fk_image.specs.Format.Reading.{read_reference, read_body, read_object, read_page, read_objects, read_pages}
use Rattle.laws_image_faults.specs.Forms.{Form}
use Rattle.laws_image_faults.specs.Forms.Form.{Whole}
use Rattle.laws_image_faults.specs.Images as forms
use Rattle.laws_image_faults.specs.Images.{◌>>=◌ as ◌>>>◌, byte, number, any, below, slot_reason}
use Rattle.laws_image_faults.proofs.Runs.{run, go, go-byte, go-number, tested-byte, any-byte, any-number, same-many}

same-below : (limit : ℕ) (bytes : List ℕ) → read_below limit bytes ≡ run (byte (below limit)) bytes
unfolding read_below
same-below limit bytes = tested-byte (below limit) reasons.RANGE bytes

-- ---- pointers

same-link_in : (bytes : List ℕ) →
    (read_number w32 bytes >>= λ space. read_below 240 space.1 >>= λ slot. Ok (In slot.0 space.0, slot.1)) ≡ run forms.link_in bytes
unfolding run
same-link_in bytes = go (read_number w32 bytes) _ (number w32 any) _ bytes (any-number w32 bytes)
    (λ space. go (read_below 240 space.1) _ (byte (below 240)) _ space.1 (same-below 240 space.1) (λ slot. refl))

same-link_out : (bytes : List ℕ) → (read_below 240 bytes >>= λ slot. Ok (Out slot.0, slot.1)) ≡ run forms.link_out bytes
unfolding run
same-link_out bytes = go (read_below 240 bytes) _ (byte (below 240)) _ bytes (same-below 240 bytes) (λ slot. refl)

abbrev link_read : Bool → Bool → Bool → Bool → Bool → Bool → List ℕ → List ℕ → Result (Link × List ℕ) Stop
link_read a b c d e f bytes rest =
    if a then Ok (Null, rest)
    else if b then Ok (Dead, rest)
    else if c then (read_number w32 rest >>= λ space. read_below 240 space.1 >>= λ slot. Ok (In slot.0 space.0, slot.1))
    else if d then (read_below 240 rest >>= λ slot. Ok (Out slot.0, slot.1))
    else if e then Ok (Root, rest)
    else if f then Ok (Outside, rest)
    else refuse_field bytes reasons.RANGE

abbrev link_form : Bool → Bool → Bool → Bool → Bool → Form Link
link_form a b c d e = if a then Whole Null else if b then Whole Dead else if c then forms.link_in else if d then forms.link_out else if e then Whole Root
    else Whole Outside

link_fits : (a b c d e f : Bool) (bytes rest : List ℕ) → (a || (b || (c || (d || (e || f))))) ≡ true →
    link_read a b c d e f bytes rest ≡ run (link_form a b c d e) rest
unfolding run
link_fits true b c d e f bytes rest is = refl
link_fits false true c d e f bytes rest is = refl
link_fits false false true d e f bytes rest is = same-link_in rest
link_fits false false false true e f bytes rest is = same-link_out rest
link_fits false false false false true f bytes rest is = refl
link_fits false false false false false true bytes rest is = refl
link_fits false false false false false false bytes rest is = absurd (cc)

link_off : (a b c d e f : Bool) (bytes rest : List ℕ) → (a || (b || (c || (d || (e || f))))) ≡ false →
    link_read a b c d e f bytes rest ≡ refuse_field bytes reasons.RANGE
link_off true b c d e f bytes rest is = absurd (cc)
link_off false true c d e f bytes rest is = absurd (cc)
link_off false false true d e f bytes rest is = absurd (cc)
link_off false false false true e f bytes rest is = absurd (cc)
link_off false false false false true f bytes rest is = absurd (cc)
link_off false false false false false true bytes rest is = absurd (cc)
link_off false false false false false false bytes rest is = refl

pub same-link : (bytes : List ℕ) → read_link bytes ≡ run forms.link bytes
unfolding read_link forms.link
same-link bytes = go-byte forms.is_tag (λ tag. link_read (tag.0 == 0) (tag.0 == 1) (tag.0 == 2) (tag.0 == 3) (tag.0 == 4) (tag.0 == 5) bytes tag.1)
    forms.link_of (λ b. reasons.RANGE) bytes
    (λ tag rest is. link_fits (tag == 0) (tag == 1) (tag == 2) (tag == 3) (tag == 4) (tag == 5) bytes rest is)
    (λ tag rest is. link_off (tag == 0) (tag == 1) (tag == 2) (tag == 3) (tag == 4) (tag == 5) bytes rest is)

-- ---- threads

same-words : (count : ℕ) (bytes : List ℕ) → read_words count bytes ≡ run (forms.words count) bytes
same-words count bytes = same-many read_word (λ s. number w64 any) same_state (λ s bytes. any-number w64 bytes) count 0 [] bytes

same-open_talk : (turn : ℕ) (bytes : List ℕ) → (if turn == 0 then Ok (None, bytes) else read_open_talk turn bytes) ≡ run (forms.talk_of turn) bytes
unfolding read_open_talk run
same-open_talk turn bytes = by (turn == 0)
  where
    begun : read_open_talk turn bytes ≡ run (number w16 any >>> λ moved. forms.link >>> λ port. forms.link >>> λ server.
        Whole (Some (record { turn = turn; moved = moved; port = port; server = server }))) bytes
    begun = go (read_number w16 bytes) _ (number w16 any) _ bytes (any-number w16 bytes)
        (λ moved. go (read_link moved.1) _ forms.link _ moved.1 (same-link moved.1)
        (λ port. go (read_link port.1) _ forms.link _ port.1 (same-link port.1) (λ server. refl)))

    by : (t : Bool) → (if t then Ok (None, bytes) else read_open_talk turn bytes)
        ≡ run (if t then Whole None else (number w16 any >>> λ moved. forms.link >>> λ port. forms.link >>> λ server.
        Whole (Some (record { turn = turn; moved = moved; port = port; server = server })))) bytes
    by true = refl
    by false = begun

same-talk : (bytes : List ℕ) → read_talk bytes ≡ run forms.talk bytes
unfolding read_talk forms.talk
same-talk bytes = go (read_below 3 bytes) _ (byte (below 3)) forms.talk_of bytes (same-below 3 bytes) (λ turn. same-open_talk turn.0 turn.1)

same-taker : (state : ℕ) (bytes : List ℕ) → read_taker state bytes ≡ run (forms.taker_of state) bytes
unfolding read_taker run
same-taker state bytes = by (state == 1)
  where
    by : (t : Bool) → (if t then Ok (None, bytes) else (read_link bytes >>= λ taker. Ok (Some taker.0, taker.1)))
        ≡ run (if t then Whole None else (forms.link >>> λ taker. Whole (Some taker))) bytes
    by true = refl
    by false = go (read_link bytes) _ forms.link _ bytes (same-link bytes) (λ taker. refl)

same-met_fault : (state : ℕ) (bytes : List ℕ) → (if state == 0 then Ok (None, bytes) else read_met_fault state bytes) ≡ run (forms.fault_of state) bytes
unfolding read_met_fault run
same-met_fault state bytes = by (state == 0)
  where
    met : read_met_fault state bytes ≡ run (byte any >>> λ page. byte (below 2) >>> λ write. forms.link >>> λ port. forms.taker_of state >>> λ taker.
        Whole (Some (record { page = page; write = write; port = port; taker = taker }))) bytes
    met = go (read_byte bytes) _ (byte any) _ bytes (any-byte bytes)
        (λ page. go (read_below 2 page.1) _ (byte (below 2)) _ page.1 (same-below 2 page.1)
        (λ write. go (read_link write.1) _ forms.link _ write.1 (same-link write.1)
        (λ port. go (read_taker state port.1) _ (forms.taker_of state) _ port.1 (same-taker state port.1) (λ taker. refl))))

    by : (t : Bool) → (if t then Ok (None, bytes) else read_met_fault state bytes)
        ≡ run (if t then Whole None else (byte any >>> λ page. byte (below 2) >>> λ write. forms.link >>> λ port. forms.taker_of state >>> λ taker.
        Whole (Some (record { page = page; write = write; port = port; taker = taker })))) bytes
    by true = refl
    by false = met

same-fault : (bytes : List ℕ) → read_fault bytes ≡ run forms.fault bytes
unfolding read_fault forms.fault
same-fault bytes = go (read_below 3 bytes) _ (byte (below 3)) forms.fault_of bytes (same-below 3 bytes) (λ state. same-met_fault state.0 state.1)

same-mode : (new : Bool) (regs bytes : List ℕ) → read_mode new regs bytes ≡ run (byte (forms.mode_in new regs)) bytes
unfolding read_mode
same-mode new regs bytes = tested-byte (forms.mode_in new regs) reasons.RANGE bytes

same-code : (mode : ℕ) (bytes : List ℕ) → read_code mode bytes ≡ run (byte (is_code mode)) bytes
unfolding read_code
same-code mode bytes = tested-byte (is_code mode) reasons.RANGE bytes

same-thread : (new : Bool) (bytes : List ℕ) → read_thread new bytes ≡ run (forms.thread new) bytes
unfolding read_thread forms.thread run
same-thread new bytes = go (read_words 16 bytes) _ (forms.words 16) _ bytes (same-words 16 bytes)
    (λ regs. go (read_number w64 regs.1) _ (number w64 any) _ regs.1 (any-number w64 regs.1)
    (λ pc. go (read_mode new regs.0 pc.1) _ (byte (forms.mode_in new regs.0)) _ pc.1 (same-mode new regs.0 pc.1)
    (λ mode. go (read_code mode.0 mode.1) _ (byte (is_code mode.0)) _ mode.1 (same-code mode.0 mode.1)
    (λ code. go (read_number w16 code.1) _ (number w16 any) _ code.1 (any-number w16 code.1)
    (λ stops. go (read_talk stops.1) _ forms.talk _ stops.1 (same-talk stops.1)
    (λ talk. go (read_fault talk.1) _ forms.fault _ talk.1 (same-fault talk.1) (λ fault. refl)))))))

-- ---- objects and pages

same-extent : (bytes : List ℕ) → read_extent bytes ≡ run forms.extent bytes
unfolding read_extent forms.extent run
same-extent bytes = go (read_byte bytes) _ (byte any) _ bytes (any-byte bytes)
    (λ first. go-number (is_extent first.0)
    (λ count. if is_extent first.0 count.0 then Ok ((first.0, count.0), count.1) else refuse_field first.1 reasons.RANGE)
    (λ count. Whole (first.0, count)) reasons.RANGE w16 first.1 (λ count rest is. rw is refl) (λ count rest is. rw is refl))

same-mapping : (bytes : List ℕ) → read_mapping bytes ≡ run forms.mapping bytes
unfolding read_mapping forms.mapping run
same-mapping bytes = go (read_extent bytes) _ forms.extent _ bytes (same-extent bytes)
    (λ pages. go (read_byte pages.1) _ (byte any) _ pages.1 (any-byte pages.1)
    (λ offset. go (read_below 2 offset.1) _ (byte (below 2)) _ offset.1 (same-below 2 offset.1)
    (λ write. go (read_link write.1) _ forms.link _ write.1 (same-link write.1) (λ region. refl))))

same-region : (bytes : List ℕ) → read_region bytes ≡ run forms.region bytes
unfolding read_region forms.region run
same-region bytes = go (read_extent bytes) _ forms.extent _ bytes (same-extent bytes)
    (λ pages. go (read_below 2 pages.1) _ (byte (below 2)) _ pages.1 (same-below 2 pages.1)
    (λ write. go (read_link write.1) _ forms.link _ write.1 (same-link write.1) (λ keeper. refl)))

same-port : (bytes : List ℕ) → read_port bytes ≡ run (number w16 is_set_word >>> λ set. Whole (Port set)) bytes
unfolding read_port run
same-port bytes = go-number is_set_word (λ set. if is_set_word set.0 then Ok (Port set.0, set.1) else refuse_field bytes reasons.RANGE)
    (λ set. Whole (Port set)) reasons.RANGE w16 bytes (λ set rest is. rw is refl) (λ set rest is. rw is refl)

same-mutex : (bytes : List ℕ) → read_mutex bytes ≡ run (byte (below 2) >>> λ locked. Whole (Mutex locked)) bytes
unfolding read_mutex run
same-mutex bytes = go (read_below 2 bytes) _ (byte (below 2)) _ bytes (same-below 2 bytes) (λ locked. refl)

same-reference : (bytes : List ℕ) → read_reference bytes ≡ run (forms.link >>> λ to. Whole (Reference to)) bytes
unfolding read_reference run
same-reference bytes = go (read_link bytes) _ forms.link _ bytes (same-link bytes) (λ to. refl)

abbrev body_read : Bool → Bool → Bool → Bool → Bool → Bool → Bool → Bool → Bool → List ℕ → List ℕ → Result (Rec × List ℕ) Stop
body_read new a b c d e f g h bytes rest =
    if a then read_mutex rest
    else if b then Ok (Cond, rest)
    else if c then read_mapping rest
    else if d then read_region rest
    else if e then read_port rest
    else if f then Ok (Portset, rest)
    else if g then read_thread new rest
    else if h then read_reference rest
    else refuse_field bytes reasons.RANGE

abbrev body_form : Bool → Bool → Bool → Bool → Bool → Bool → Bool → Bool → Form Rec
body_form new a b c d e f g =
    if a then (byte (below 2) >>> λ locked. Whole (Mutex locked))
    else if b then Whole Cond
    else if c then forms.mapping
    else if d then forms.region
    else if e then (number w16 is_set_word >>> λ set. Whole (Port set))
    else if f then Whole Portset
    else if g then forms.thread new
    else (forms.link >>> λ to. Whole (Reference to))

body_fits : (new a b c d e f g h : Bool) (bytes rest : List ℕ) → (a || (b || (c || (d || (e || (f || (g || h))))))) ≡ true →
    body_read new a b c d e f g h bytes rest ≡ run (body_form new a b c d e f g) rest
unfolding run
body_fits new true b c d e f g h bytes rest is = same-mutex rest
body_fits new false true c d e f g h bytes rest is = refl
body_fits new false false true d e f g h bytes rest is = same-mapping rest
body_fits new false false false true e f g h bytes rest is = same-region rest
body_fits new false false false false true f g h bytes rest is = same-port rest
body_fits new false false false false false true g h bytes rest is = refl
body_fits new false false false false false false true h bytes rest is = same-thread new rest
body_fits new false false false false false false false true bytes rest is = same-reference rest
body_fits new false false false false false false false false bytes rest is = absurd (cc)

body_off : (new a b c d e f g h : Bool) (bytes rest : List ℕ) → (a || (b || (c || (d || (e || (f || (g || h))))))) ≡ false →
    body_read new a b c d e f g h bytes rest ≡ refuse_field bytes reasons.RANGE
body_off new true b c d e f g h bytes rest is = absurd (cc)
body_off new false true c d e f g h bytes rest is = absurd (cc)
body_off new false false true d e f g h bytes rest is = absurd (cc)
body_off new false false false true e f g h bytes rest is = absurd (cc)
body_off new false false false false true f g h bytes rest is = absurd (cc)
body_off new false false false false false true g h bytes rest is = absurd (cc)
body_off new false false false false false false true h bytes rest is = absurd (cc)
body_off new false false false false false false false true bytes rest is = absurd (cc)
body_off new false false false false false false false false bytes rest is = refl

same-body : (new : Bool) (bytes : List ℕ) → read_body new bytes ≡ run (forms.body new) bytes
unfolding read_body forms.body
same-body new bytes = go-byte forms.is_kind
    (λ kind. body_read new (kind.0 == 1) (kind.0 == 2) (kind.0 == 3) (kind.0 == 4) (kind.0 == 5) (kind.0 == 6) (kind.0 == 8) (kind.0 == 9) bytes kind.1)
    (forms.body_of new) (λ b. reasons.RANGE) bytes
    (λ kind rest is. body_fits new (kind == 1) (kind == 2) (kind == 3) (kind == 4) (kind == 5) (kind == 6) (kind == 8) (kind == 9) bytes rest is)
    (λ kind rest is. body_off new (kind == 1) (kind == 2) (kind == 3) (kind == 4) (kind == 5) (kind == 6) (kind == 8) (kind == 9) bytes rest is)

-- a byte below a limit, of which what follows refuses some more
pub below_then : {Y : Type 0} (limit : ℕ) (bytes : List ℕ) (k : ℕ × List ℕ → Result Y Stop) →
    (read_below limit bytes >>= k) ≡ (read_byte bytes >>= λ b. (if nat_lt b.0 limit then Ok b else refuse_field bytes reasons.RANGE) >>= k)
unfolding read_below
below_then limit [] k = refl
below_then limit (b ∷ rest) k = refl

abbrev object_rest : Bool → ℕ → List ℕ → ℕ × List ℕ → Result (ObjectRec × List ℕ) Stop
object_rest new floor bytes slot =
    expect (not (nat_lt slot.0 floor)) bytes reasons.ORDER >>= λ _. read_body new slot.1 >>= λ body. Ok (record { slot = slot.0; body = body.0 }, body.1)

abbrev object_of : Bool → ℕ → Form ObjectRec
object_of new slot = (forms.body new) >>> λ body. Whole (record { slot = slot; body = body })

abbrev slot_tested : Bool → ℕ → List ℕ → List ℕ → Result (ℕ × List ℕ) Stop
slot_tested t slot bytes rest = if t then Ok (slot, rest) else refuse_field bytes reasons.RANGE

abbrev object_behind : Bool → Bool → List ℕ → ℕ × List ℕ → Result (ObjectRec × List ℕ) Stop
object_behind new u bytes slot =
    expect (not u) bytes reasons.ORDER >>= λ _. read_body new slot.1 >>= λ body. Ok (record { slot = slot.0; body = body.0 }, body.1)

behind_fits : (new u : Bool) (slot : ℕ) (bytes rest : List ℕ) → not u ≡ true → object_behind new u bytes (slot, rest) ≡ run (object_of new slot) rest
unfolding run
behind_fits new false slot bytes rest is = go (read_body new rest) _ (forms.body new) _ rest (same-body new rest) (λ body. refl)
behind_fits new true slot bytes rest is = absurd (cc)

behind_off : (new u : Bool) (slot : ℕ) (bytes rest : List ℕ) → not u ≡ false → object_behind new u bytes (slot, rest) ≡ refuse_field bytes reasons.ORDER
behind_off new false slot bytes rest is = absurd (cc)
behind_off new true slot bytes rest is = refl

object_fits : (new t : Bool) (floor slot : ℕ) (bytes rest : List ℕ) → (t && not (nat_lt slot floor)) ≡ true →
    (slot_tested t slot bytes rest >>= object_rest new floor bytes) ≡ run (object_of new slot) rest
object_fits new true floor slot bytes rest is = behind_fits new (nat_lt slot floor) slot bytes rest is
object_fits new false floor slot bytes rest is = absurd (cc)

object_off : (new t : Bool) (floor slot : ℕ) (bytes rest : List ℕ) → (t && not (nat_lt slot floor)) ≡ false →
    (slot_tested t slot bytes rest >>= object_rest new floor bytes) ≡ refuse_field bytes (if t then reasons.ORDER else reasons.RANGE)
object_off new true floor slot bytes rest is = behind_off new (nat_lt slot floor) slot bytes rest is
object_off new false floor slot bytes rest is = refl

same-object : (new : Bool) (floor : ℕ) (bytes : List ℕ) → read_object new floor bytes ≡ run (forms.object new floor) bytes
unfolding read_object forms.object
same-object new floor bytes = below_then 240 bytes (object_rest new floor bytes)
    ∙ go-byte (forms.is_slot_from floor) (λ b. (if nat_lt b.0 240 then Ok b else refuse_field bytes reasons.RANGE) >>= object_rest new floor bytes)
    (object_of new)
    slot_reason bytes
    (λ slot rest is. object_fits new (nat_lt slot 240) floor slot bytes rest is)
    (λ slot rest is. object_off new (nat_lt slot 240) floor slot bytes rest is)

abbrev page_tested : Bool → ℕ → List ℕ → List ℕ → Result (PageRec × List ℕ) Stop
page_tested u page bytes rest =
    expect (not u) bytes reasons.ORDER >>= λ _. read_words 64 rest >>= λ words. Ok (record { page = page; words = words.0 }, words.1)

abbrev page_of : ℕ → Form PageRec
page_of page = forms.words 64 >>> λ words. Whole (record { page = page; words = words })

page_fits : (u : Bool) (page : ℕ) (bytes rest : List ℕ) → not u ≡ true → page_tested u page bytes rest ≡ run (page_of page) rest
unfolding run
page_fits false page bytes rest is = go (read_words 64 rest) _ (forms.words 64) _ rest (same-words 64 rest) (λ words. refl)
page_fits true page bytes rest is = absurd (cc)

page_off : (u : Bool) (page : ℕ) (bytes rest : List ℕ) → not u ≡ false → page_tested u page bytes rest ≡ refuse_field bytes reasons.ORDER
page_off false page bytes rest is = absurd (cc)
page_off true page bytes rest is = refl

same-page : (floor : ℕ) (bytes : List ℕ) → read_page floor bytes ≡ run (forms.page floor) bytes
unfolding read_page forms.page
same-page floor bytes = go-byte (forms.is_page_from floor) (λ page. page_tested (nat_lt page.0 floor) page.0 bytes page.1) page_of (λ b. reasons.ORDER) bytes
    (λ page rest is. page_fits (nat_lt page floor) page bytes rest is) (λ page rest is. page_off (nat_lt page floor) page bytes rest is)

pub same-objects : (new : Bool) (bytes : List ℕ) → read_objects new bytes ≡ run (forms.objects new) bytes
unfolding read_objects forms.objects
same-objects new bytes = go (read_number w16 bytes) _ (number w16 any) _ bytes (any-number w16 bytes)
    (λ count. same-many (read_object new) (forms.object new) after_object (same-object new) count.0 0 [] count.1)

pub same-pages : (bytes : List ℕ) → read_pages bytes ≡ run forms.pages bytes
unfolding read_pages forms.pages
same-pages bytes = go (read_number w16 bytes) _ (number w16 any) _ bytes (any-number w16 bytes)
    (λ count. same-many read_page forms.page after_page same-page count.0 0 [] count.1)
