-- The numbers of a subtree's image are in the ranges of their fields.
use Rattle.std.proofs.Common.{◌≡◌, ℕ, zero, suc, ◌+◌, ◌<◌, ◌≤◌, ◌^◌, Bool, true, false, cond, not, ltb, leb, ◌&&◌, ◌==◌, List, [], ◌∷◌, length, Option, Some}
use Rattle.std.proofs.Common.{None, option_map, is_some, refl, ap, subst, ◌∙◌, arith, eq-eqb, eqb-true}
use Rattle.std.specs.Prelude.{slice_index}
use Rattle.std.specs.List.{list_all}
use Rattle.std.proofs.lemmas.Bool.{and_from, and_parts, lt-ltb, le-leb, le-ltb, leb-true}
use Rattle.fk_model.specs.declared.names.Kind.TheVariants as kinds
use Rattle.fk_model.specs.declared.limits.TheConstants.{PAGES}
use Rattle.fk_model.specs.declared.stage.Stage.{Stage}
use Rattle.fk_model.specs.declared.thread.Turn.{Turn}
use Rattle.fk_model.specs.declared.thread.Turn.TheVariants as turns
use Rattle.fk_model.specs.Calls.{Call, calls, named_by, todo_of, words}
use Rattle.fk_model.specs.Places.{Path, Ptr, Ptr as ptrs}
use Rattle.fk_model.specs.Objects.{Mode, Mode as modes, Body, Body as bodies, Peer, Peer as peers, Talk, Fault, and_then, kind_of, registers_of, flag_of}
use Rattle.fk_model.specs.Holds.{is_porter}
use Rattle.fk_model.specs.LinkRows.{turn_number}
use Rattle.fk_model.specs.Records.{mode_number, halt_code, member_word, is_page_range}
use Rattle.fk_model.specs.Shapes.{IsShapedMode, IsCodeInRange}
use Rattle.fk_model.specs.World.{World}
use Rattle.fk_model.specs.Valid.{kind_there, is_good, is_good_set, is_one_of, may_lead}
use Rattle.fk_model.proofs.calls.CallLaws.{words_read_back_lem, words_keep_length_lem}
use Rattle.fk_image.specs.declared.image.image.Rec.{Rec}
use Rattle.fk_image.specs.Image.Ranges.{is_call_code, is_mode_byte, is_code, is_byte, is_half, is_bit, is_turn, are_words, fits_link, fits_talk, fits_taker}
use Rattle.fk_image.specs.Image.Ranges.{fits_fault, fits_body, is_set_word}
use Rattle.fk_image.specs.Image.Valid.{all_from, fits_object, after_object, fits_objects, fits_page, after_page, fits_pages}
use Rattle.laws_pictures.specs.Imaged.{link_of, peer_link, talk_rec, fault_rec, rec_of, with_object, objects_from, with_page, pages_from, rec_at, IsLed}
use Rattle.laws_pictures.specs.Imaged.{IsPeerOf, IsLedTalk, IsTakenBy, IsLedFault, IsLedBody, IsAlone, IsSound, HasNumbers}

-- ---- objects and pages by rising number

objects_short : (f : ℕ → Option Rec) (n k : ℕ) → length (objects_from f n k) ≤ n
unfolding objects_from
objects_short f zero k = omega arith
objects_short f (suc n) k = by (f k) (objects_short f n (suc k))
  where
    by : (o : Option Rec) → length (objects_from f n (suc k)) ≤ n → length (with_object k o (objects_from f n (suc k))) ≤ suc n
    by None le = omega (arith, le)
    by (Some r) le = omega (arith, le)

objects_fit_from : (f : ℕ → Option Rec) (n k floor : ℕ) → floor ≤ k → k + n ≤ 240 → ((j : ℕ) (r : Rec) → f j ≡ Some r → fits_body r ≡ true)
    → all_from after_object fits_object floor (objects_from f n k) ≡ true
unfolding objects_from
objects_fit_from f zero k floor le most fit = refl
objects_fit_from f (suc n) k floor le most fit = by (f k) refl (λ g h. objects_fit_from f n (suc k) g h (omega (arith, most)) fit)
  where
    next : k + 1 ≤ suc k
    next = omega arith

    by : (o : Option Rec) → f k ≡ o → ((g : ℕ) → g ≤ suc k → all_from after_object fits_object g (objects_from f n (suc k)) ≡ true)
        → all_from after_object fits_object floor (with_object k o (objects_from f n (suc k))) ≡ true
    by None e rest = rest floor (omega (arith, le))
    by (Some r) e rest = and_from _ _ (and_from _ _ (and_from _ _ (lt-ltb k 240 (omega (arith, most))) (ap not (le-ltb k floor le))) (fit k r e))
        (rest (k + 1) next)

pages_short : (f : ℕ → Option (List ℕ)) (n k : ℕ) → length (pages_from f n k) ≤ n
unfolding pages_from
pages_short f zero k = omega arith
pages_short f (suc n) k = by (f k) (pages_short f n (suc k))
  where
    by : (o : Option (List ℕ)) → length (pages_from f n (suc k)) ≤ n → length (with_page k o (pages_from f n (suc k))) ≤ suc n
    by None le = omega (arith, le)
    by (Some r) le = omega (arith, le)

pages_fit_from : (f : ℕ → Option (List ℕ)) (n k floor : ℕ) → floor ≤ k → k + n ≤ 256 → ((j : ℕ) (ws : List ℕ) → f j ≡ Some ws → are_words 64 ws ≡ true)
    → all_from after_page fits_page floor (pages_from f n k) ≡ true
unfolding pages_from
pages_fit_from f zero k floor le most fit = refl
pages_fit_from f (suc n) k floor le most fit = by (f k) refl (λ g h. pages_fit_from f n (suc k) g h (omega (arith, most)) fit)
  where
    next : k + 1 ≤ suc k
    next = omega arith

    by : (o : Option (List ℕ)) → f k ≡ o → ((g : ℕ) → g ≤ suc k → all_from after_page fits_page g (pages_from f n (suc k)) ≡ true)
        → all_from after_page fits_page floor (with_page k o (pages_from f n (suc k))) ≡ true
    by None e rest = rest floor (omega (arith, le))
    by (Some ws) e rest = and_from _ _ (and_from _ _ (and_from _ _ (lt-ltb k 256 (omega (arith, most))) (ap not (le-ltb k floor le))) (fit k ws e))
        (rest (k + 1) next)

-- ---- modes

code_of_call : (cs : List Call) (code : ℕ) (g : List ℕ) (todo : List Stage) → list_all (λ (d : Call). is_call_code d.code) cs ≡ true
    → named_by cs code g ≡ Some todo → is_call_code code ≡ true
code_of_call [] code g todo all e = absurd cc
code_of_call (d ∷ cs) code g todo all e = by (code == d.code) refl (and_parts (is_call_code d.code) _ all) (λ h. code_of_call cs code g todo h) e
  where
    by : (b : Bool) → (code == d.code) ≡ b → (is_call_code d.code ≡ true) × (list_all (λ (d : Call). is_call_code d.code) cs ≡ true)
        → (list_all (λ (d : Call). is_call_code d.code) cs ≡ true → named_by cs code g ≡ Some todo → is_call_code code ≡ true) →
        cond b (Some (d.todo g)) (named_by cs code g) ≡ Some todo → is_call_code code ≡ true
    by true p both rest e = ap is_call_code (eqb-true code d.code p) ∙ both.0
    by false p both rest e = rest both.1 e

mode_fits : (m : Mode) → IsShapedMode m → is_porter m ≡ false → IsCodeInRange m
    → (is_mode_byte (registers_of m) (mode_number m) ≡ true) × (is_byte (halt_code m) ≡ true) × (is_code (mode_number m) (halt_code m) ≡ true)
    × (length (registers_of m) ≡ 16)
unfolding todo_of
mode_fits (modes.Running g) shaped user range = (refl, refl, refl, shaped)
mode_fits (modes.Calling todo rest) shaped user range = (
  code_of_call calls (slice_index (words todo rest) 0) (words todo rest) todo refl (words_read_back_lem todo rest shaped.0 shaped.1).0,
  refl,
  refl,
  words_keep_length_lem todo rest ∙ shaped.1.sixteen,
)
mode_fits (modes.Halted g code) shaped user range = (refl, lt-ltb code 256 (omega (arith, range)), refl, shaped)
mode_fits (modes.Native g) shaped user range = absurd cc

bit_fits : (b : Bool) → is_bit (flag_of b) ≡ true
bit_fits true = refl
bit_fits false = refl

turn_fits : (t : Turn) → is_turn (turn_number t) ≡ true
turn_fits turns.Client = refl
turn_fits turns.Server = refl

module _ (c : World) (sp : List Path) (alone : IsAlone c) (sound : IsSound c) (numbers : HasNumbers c)
    (link_fits : (p : Ptr) → IsLed c p → fits_link (link_of sp p) ≡ true) where
  peer_fits : (port : Ptr) (peer : Peer) → IsPeerOf c port peer → fits_link (peer_link sp peer) ≡ true
  peer_fits port (peers.Server ptrs.Null) h = refl
  peer_fits port (peers.Server ptrs.Dead) h = refl
  peer_fits port (peers.Server ptrs.Outside) h = refl
  peer_fits port (peers.Server ptrs.Far) h = refl
  peer_fits (ptrs.At x) (peers.Server (ptrs.At y)) h = link_fits (ptrs.At y) h
  peer_fits (ptrs.Out i) (peers.Server (ptrs.At y)) h = absurd h
  peer_fits ptrs.Null (peers.Server (ptrs.At y)) h = absurd h
  peer_fits ptrs.Dead (peers.Server (ptrs.At y)) h = absurd h
  peer_fits ptrs.Outside (peers.Server (ptrs.At y)) h = absurd h
  peer_fits ptrs.Far (peers.Server (ptrs.At y)) h = absurd h
  peer_fits (ptrs.At x) (peers.Server (ptrs.Out j)) h = absurd h
  peer_fits (ptrs.Out i) (peers.Server (ptrs.Out j)) h = absurd h
  peer_fits ptrs.Null (peers.Server (ptrs.Out j)) h = absurd h
  peer_fits ptrs.Dead (peers.Server (ptrs.Out j)) h = absurd h
  peer_fits ptrs.Outside (peers.Server (ptrs.Out j)) h = absurd h
  peer_fits ptrs.Far (peers.Server (ptrs.Out j)) h = absurd h
  peer_fits port peers.Service h = refl
  peer_fits port peers.Parked h = refl

  talk_fits : (t : Option Talk) → ((talk : Talk) → t ≡ Some talk → talk.moved ≤ 65535) → IsLedTalk c t → fits_talk (option_map (talk_rec sp) t) ≡ true
  talk_fits None low led = refl
  talk_fits (Some talk) low led =
      let moved = low talk refl in
      and_from _ _ (and_from _ _ (and_from _ _ (turn_fits talk.turn) (lt-ltb talk.moved (2 ^ 16) (omega (arith, moved)))) (link_fits talk.port led.0))
      (peer_fits talk.port talk.peer led.1)

  taker_fits : (port : Ptr) (taker : Option Peer) → IsTakenBy c port taker → fits_taker (option_map (peer_link sp) taker) ≡ true
  taker_fits port None led = refl
  taker_fits port (Some peer) led = peer_fits port peer led

  fault_fits : (f : Option Fault) → ((fault : Fault) → f ≡ Some fault → fault.page < 256) → IsLedFault c f → fits_fault (option_map (fault_rec sp) f) ≡ true
  fault_fits None low led = refl
  fault_fits (Some fault) low led =
      and_from _ _ (and_from _ _ (and_from _ _ (lt-ltb fault.page 256 (low fault refl)) (bit_fits fault.write)) (link_fits fault.port led.0))
      (taker_fits fault.port fault.taker led.1)

  window_fits : (first count : ℕ) → is_page_range first count ≡ true
      → (is_byte first ≡ true) × (is_half count ≡ true) × ((ltb 0 count && leb (first + count) 256) ≡ true)
  window_fits first count e =
      let p = and_parts (leb 1 count && leb count PAGES) (leb (first + count) PAGES) e in
      let r = and_parts (leb 1 count) (leb count PAGES) p.0 in
      let a = leb-true 1 count r.0 in
      let b = leb-true count PAGES r.1 in
      let s = leb-true (first + count) PAGES p.1 in (
        lt-ltb first 256 (omega (arith, a, s)),
        lt-ltb count (2 ^ 16) (omega (arith, b)),
        and_from _ _ (lt-ltb 0 count (omega (arith, a))) (le-leb (first + count) 256 (omega (arith, s))),
      )

  set_fits : (q : Path) (k : ℕ) (set : Option ℕ) (served : Bool) → is_good_set (kind_there c) (k ∷ q) set served ≡ true → is_set_word (member_word set) ≡ true
  unfolding kind_there
  set_fits q k None served e = refl
  set_fits q k (Some j) served e =
      let both = and_parts (not served) (is_one_of (kinds.Portset ∷ []) (kind_there c (j ∷ q))) e in
      let low = alone.slots j q (some (c.body (j ∷ q)) both.1) in
      lt-ltb (1 + j) 241 (omega (arith, low))
    where
      some : (o : Option Body) → is_one_of (kinds.Portset ∷ []) (option_map kind_of o) ≡ true → is_some o ≡ true
      some None e = absurd cc
      some (Some b) e = refl

  body_fits : (q : Path) (k : ℕ) (b : Body) (r : Rec) → c.body (k ∷ q) ≡ Some b → rec_of sp b ≡ Some r → fits_body r ≡ true
  body_fits q k b r is e = by b (alone.led (k ∷ q) b is) (sound.good (k ∷ q) b is) is e
    where
      made_is : (x y : Rec) → Some x ≡ Some y → x ≡ y
      made_is x y e = cc

      goes : (x : Rec) → Some x ≡ Some r → fits_body x ≡ true → fits_body r ≡ true
      goes x e h = subst (λ y. fits_body y ≡ true) (made_is x r e) h

      by : (b : Body) → IsLedBody c b → is_good (kind_there c) (k ∷ q) b ≡ true → c.body (k ∷ q) ≡ Some b → rec_of sp b ≡ Some r → fits_body r ≡ true
      by (bodies.Mutex locked) led good is e = goes _ e (bit_fits locked)
      by bodies.Cond led good is e = goes _ e refl
      by (bodies.Mapping w) led good is e =
          let p = and_parts (is_page_range w.first w.count && ltb w.offset PAGES) (may_lead (kind_there c) (kinds.Region ∷ []) w.region) good in
          let r2 = and_parts (is_page_range w.first w.count) (ltb w.offset PAGES) p.0 in
          let f = window_fits w.first w.count r2.0 in
          goes _ e (and_from _ _ (and_from _ _ (and_from _ _ (and_from _ _ (and_from _ _ f.0 f.1) f.2) r2.1) (bit_fits w.write)) (link_fits w.region led))
      by (bodies.Region w) led good is e =
          let p = and_parts (is_page_range w.first w.count) (may_lead (kind_there c) (kinds.Port ∷ []) w.keeper) good in
          let f = window_fits w.first w.count p.0 in
          goes _ e (and_from _ _ (and_from _ _ (and_from _ _ (and_from _ _ f.0 f.1) f.2) (bit_fits w.write)) (link_fits w.keeper led))
      by (bodies.Port set served) led good is e = goes _ e (set_fits q k set served good)
      by bodies.Portset led good is e = goes _ e refl
      by (bodies.Space birth holder) led good is e = absurd cc
      by (bodies.Thread_of t) led good is e =
          let x = k ∷ q in
          let m = mode_fits t.mode led.0 led.1 (numbers.codes x t is) in
          let stops = numbers.stops x t is in
          let regs : are_words 16 (registers_of t.mode) ≡ true = and_from _ _ (eq-eqb (length (registers_of t.mode)) 16 m.3) (numbers.registers x t is) in
          goes _ e (and_from _ _ (and_from _ _ (and_from _ _
          (and_from _ _ (and_from _ _ (and_from _ _ (and_from _ _ regs (lt-ltb t.counter (2 ^ 64) (numbers.counter x t is))) m.0) m.1) m.2)
          (lt-ltb t.stops (2 ^ 16) (omega (arith, stops)))) (talk_fits t.talk (λ talk at. numbers.moved x t talk is at) led.2))
          (fault_fits t.fault (λ fault at. numbers.missing x t fault is at) led.3))
      by (bodies.Reference to) led good is e = goes _ e (link_fits to led)

  rec_fits : (q : Path) (j : ℕ) (r : Rec) → rec_at c sp q j ≡ Some r → fits_body r ≡ true
  rec_fits q j r e = by (c.body (j ∷ q)) refl e
    where
      by : (o : Option Body) → c.body (j ∷ q) ≡ o → and_then (rec_of sp) o ≡ Some r → fits_body r ≡ true
      by None is e = absurd cc
      by (Some b) is e = body_fits q j b r is e

  pub all_fit : (q : Path) → (fits_objects (objects_from (rec_at c sp q) 240 0) ≡ true) × (fits_pages (pages_from (c.page q) 256 0) ≡ true)
  all_fit q =
      let few = objects_short (rec_at c sp q) 240 0 in
      let some = pages_short (c.page q) 256 0 in (
        and_from _ _ (lt-ltb (length (objects_from (rec_at c sp q) 240 0)) (2 ^ 16) (omega (arith, few)))
            (objects_fit_from (rec_at c sp q) 240 0 0 (omega arith) (omega arith) (λ j r e. rec_fits q j r e)),
        and_from _ _ (lt-ltb (length (pages_from (c.page q) 256 0)) (2 ^ 16) (omega (arith, some)))
            (pages_fit_from (c.page q) 256 0 0 (omega arith) (omega arith) (λ j ws e. numbers.pages q j ws e)),
      )
