-- The records of a picture's objects as a porter gives them: a new object takes them, and then says all but its pointers.
use Rattle.std.proofs.Common.{◌≡◌, ℕ, zero, suc, ◌+◌, ◌-◌, ◌<◌, ◌≤◌, ◌^◌, Bool, true, false, cond, ◌&&◌, ◌==◌, ltb, leb, List, [], ◌∷◌, ◌++◌, length, replicate}
use Rattle.std.proofs.Common.{get_or, Option, Some, None, option_map, refl, ap, subst, ◌∙◌, arith, eqb-true, eq-eqb}
use Rattle.std.specs.List.{list_all}
use Rattle.std.proofs.lemmas.Bool.{and_parts, and_from, ltb-true, leb-true, lt-ltb, le-leb}
use Rattle.std.proofs.lemmas.List.{length-append, length-replicate}
use Rattle.fk_model.specs.declared.limits.TheConstants.{RECORD_WORDS, MOST_MOVED, PAGES}
use Rattle.fk_model.specs.declared.stage.Stage.{Stage}
use Rattle.fk_model.specs.declared.thread.Turn.{Turn}
use Rattle.fk_model.specs.declared.thread.Turn.TheVariants as turns
use Rattle.fk_model.specs.Places.{Path}
use Rattle.fk_model.specs.Calls.{todo_of}
use Rattle.fk_model.specs.Objects.{Mode, Talk, Fault, Thread as ThreadState, Body, Mode as modes, Body as bodies, registers_of, flag_of, number_of_kind}
use Rattle.fk_model.specs.Objects.{kind_of, space_of}
use Rattle.fk_model.specs.Objects.Body.{Thread_of}
use Rattle.fk_model.specs.LinkRows.{turn_number}
use Rattle.fk_model.specs.World.{World, edited}
use Rattle.fk_model.specs.Valid.{is_turn_word}
use Rattle.fk_model.specs.Whole.{is_word, are_words}
use Rattle.fk_model.specs.StateRows.{is_native}
use Rattle.fk_model.specs.Records as records
use Rattle.fk_model.specs.Records.{record_of, set, takes_state, state_words, mode_number, halt_code, member_by, member_word}
use Rattle.fk_model.specs.Shapes.{IsShapedMode, IsShaped, IsPageRange, IsCodeInRange, IsMember, IsInRange}
use Rattle.fk_model.proofs.calls.CallLaws.{registers, sixteen, todo_writes_back_lem, words_keep_length_lem}
use Rattle.laws_moves.proofs.InMachine.Records.{record_is_full_lem, record_sets_nothing_lem, record_is_taken_lem}
use Rattle.fk_image.specs.declared.image.image.Link.{Link}
use Rattle.fk_image.specs.declared.image.image.TalkRec.{TalkRec}
use Rattle.fk_image.specs.declared.image.image.FaultRec.{FaultRec}
use Rattle.fk_image.specs.declared.image.image.ThreadRec.{ThreadRec}
use Rattle.fk_image.specs.declared.image.image.Rec.{Rec}
use Rattle.fk_image.specs.declared.image.image.Rec.TheVariants.{Mutex, Cond, Portset, Mapping, Region, Port, Thread, Reference}
use Rattle.fk_image.specs.declared.image.image.SpaceRec.{SpaceRec}
use Rattle.fk_image.specs.Image.Ranges as ranges
use Rattle.fk_image.specs.Image.Ranges.{is_extent, is_mode_byte, is_code, is_byte, is_half, is_bit, is_turn, fits_link, fits_taker, fits_talk, fits_fault}
use Rattle.fk_image.specs.Image.Ranges.{fits_body}
use Rattle.fk_image.specs.Image.Picture.{mode, mode_while_calling, pictured_talk, pictured_fault, pictured_thread, pictured_body}
use Rattle.laws_restore.specs.Sites.Owed.{IsGiven}
use Rattle.laws_restore.specs.Restore.Script.{padded}
use Rattle.laws_restore.specs.Restore.Roomed.{GivesTalk, GivesFault, AreTold}
use Rattle.laws_restore.specs.Restore.Stages.{blank, recorded}

-- ---- modes

mode_shaped : (regs : List ℕ) (number code : ℕ) → length regs ≡ 16 → IsShapedMode (mode regs number code)
mode_shaped regs number code long = by (number == 0) (number == 1) (todo_of regs) refl
  where
    by : (a b : Bool) (o : Option (List Stage)) → todo_of regs ≡ o
        → IsShapedMode (cond a (modes.Running regs) (cond b (mode_while_calling regs o) (modes.Halted regs code)))
    by true b o e = long
    by false true None e = long
    by false true (Some todo) e = let back = todo_writes_back_lem regs todo long e in (back.0, back.1)
    by false false o e = long

mode_in_range : (regs : List ℕ) (number code : ℕ) → code < 256 → IsCodeInRange (mode regs number code)
mode_in_range regs number code low = by (number == 0) (number == 1) (todo_of regs)
  where
    by : (a b : Bool) (o : Option (List Stage)) → IsCodeInRange (cond a (modes.Running regs) (cond b (mode_while_calling regs o) (modes.Halted regs code)))
    by true b o = tt
    by false true None = tt
    by false true (Some todo) = tt
    by false false o = omega (arith, low)

mode_registers : (regs : List ℕ) (number code : ℕ) → length regs ≡ 16 → registers_of (mode regs number code) ≡ regs
mode_registers regs number code long = by (number == 0) (number == 1) (todo_of regs) refl
  where
    by : (a b : Bool) (o : Option (List Stage)) → todo_of regs ≡ o
        → registers_of (cond a (modes.Running regs) (cond b (mode_while_calling regs o) (modes.Halted regs code))) ≡ regs
    by true b o e = refl
    by false true None e = refl
    by false true (Some todo) e = (todo_writes_back_lem regs todo long e).2
    by false false o e = refl

registers_long : (m : Mode) → IsShapedMode m → length (registers_of m) ≡ 16
registers_long (modes.Running g) shaped = shaped
registers_long (modes.Calling todo rest) shaped = words_keep_length_lem todo rest ∙ shaped.1.sixteen
registers_long (modes.Halted g code) shaped = shaped
registers_long (modes.Native g) shaped = shaped

-- ---- what the ranges say of a thread, a talk, a fault

pub record IsThreadIn (t : ThreadRec) : Type 0 where
  pub regs : ranges.are_words 16 t.regs ≡ true
  pub counter : ranges.is_word t.pc ≡ true
  pub code : t.code < 256
  pub stops : t.stops < 2 ^ 16
  pub talk : fits_talk t.talk ≡ true
  pub fault : fits_fault t.fault ≡ true

pub thread_in : (t : ThreadRec) → fits_body (Thread t) ≡ true → IsThreadIn t
thread_in t e =
    let b1 = ranges.are_words 16 t.regs in
    let b2 = ranges.is_word t.pc in
    let b3 = is_mode_byte t.regs t.mode in
    let b4 = is_byte t.code in
    let b5 = is_code t.mode t.code in
    let b6 = is_half t.stops in
    let p1 = and_parts (b1 && b2 && b3 && b4 && b5 && b6 && fits_talk t.talk) (fits_fault t.fault) e in
    let p2 = and_parts (b1 && b2 && b3 && b4 && b5 && b6) (fits_talk t.talk) p1.0 in
    let p3 = and_parts (b1 && b2 && b3 && b4 && b5) b6 p2.0 in
    let p4 = and_parts (b1 && b2 && b3 && b4) b5 p3.0 in
    let p5 = and_parts (b1 && b2 && b3) b4 p4.0 in
    let p6 = and_parts (b1 && b2) b3 p5.0 in
    let p7 = and_parts b1 b2 p6.0 in
    record { regs = p7.0; counter = p7.1; code = ltb-true t.code 256 p5.1; stops = ltb-true t.stops (2 ^ 16) p3.1; talk = p2.1; fault = p1.1 }

regs_long : (t : ThreadRec) → IsThreadIn t → length t.regs ≡ 16
regs_long t n = eqb-true (length t.regs) 16 (and_parts (length t.regs == 16) (list_all ranges.is_word t.regs) n.regs).0

moved_half : (t : TalkRec) → fits_talk (Some t) ≡ true → t.moved < 2 ^ 16
moved_half t e =
    let p1 = and_parts (is_turn t.turn && is_half t.moved && fits_link t.port) (fits_link t.server) e in
    let p2 = and_parts (is_turn t.turn && is_half t.moved) (fits_link t.port) p1.0 in
    ltb-true t.moved (2 ^ 16) (and_parts (is_turn t.turn) (is_half t.moved) p2.0).1

page_byte : (f : FaultRec) → fits_fault (Some f) ≡ true → f.page < 256
page_byte f e =
    let p1 = and_parts (is_byte f.page && is_bit f.write && fits_link f.port) (fits_taker f.taker) e in
    let p2 = and_parts (is_byte f.page && is_bit f.write) (fits_link f.port) p1.0 in
    ltb-true f.page 256 (and_parts (is_byte f.page) (is_bit f.write) p2.0).0

-- ---- words

all_words : (xs ys : List ℕ) → are_words xs ≡ true → are_words ys ≡ true → are_words (xs ++ ys) ≡ true
all_words [] ys p q = q
all_words (x ∷ xs) ys p q = let both = and_parts (is_word x) (are_words xs) p in and_from (is_word x) (are_words (xs ++ ys)) both.0 (all_words xs ys both.1 q)

zeros : (n : ℕ) → are_words (replicate n 0) ≡ true
zeros zero = refl
zeros (suc n) = zeros n

small : (n : ℕ) → n < 2 ^ 16 → is_word n ≡ true
small n lt = lt-ltb n (2 ^ 64) (omega (arith, lt))

flag_small : (b : Bool) → flag_of b < 2 ^ 16
flag_small true = omega arith
flag_small false = omega arith

turn_small : (turn : Turn) → (turn_number turn < 2 ^ 16) × (is_turn_word (turn_number turn) ≡ true)
turn_small turns.Client = (omega arith, refl)
turn_small turns.Server = (omega arith, refl)

-- so many words, filled up
pub given_padded : (words : List ℕ) → length words ≤ 64 → are_words words ≡ true → IsGiven (padded words)
given_padded words short all =
    let rest = 64 - length words in
    let long : length (padded words) ≡ 64 = omega (arith, length-append words (replicate rest 0), length-replicate {A = ℕ} rest 0, short) in
    and_from (length (padded words) == 64) (are_words (padded words)) (eq-eqb (length (padded words)) 64 long)
    (all_words words (replicate rest 0) all (zeros rest))

-- ---- talks and faults

talk_small : (t : Talk) → t.moved < 2 ^ 16 → are_words (turn_number t.turn ∷ t.moved ∷ []) ≡ true
talk_small t low = and_from (is_word (turn_number t.turn)) (are_words (t.moved ∷ [])) (small _ (turn_small t.turn).0)
    (and_from (is_word t.moved) true (small t.moved low) refl)

talk_told : (t : Talk) → t.moved < 2 ^ 16 → GivesTalk (Some t)
talk_told t low = (
  given_padded (turn_number t.turn ∷ t.moved ∷ []) (omega arith) (talk_small t low),
  and_from (is_turn_word (turn_number t.turn)) (leb t.moved MOST_MOVED) (turn_small t.turn).1 (le-leb t.moved MOST_MOVED (omega (arith, low))),
)

fault_told : (f : Fault) → f.page < 256 → GivesFault (Some f)
fault_told f low = (
  given_padded (f.page ∷ flag_of f.write ∷ []) (omega arith)
      (and_from (is_word f.page) (are_words (flag_of f.write ∷ [])) (small f.page (omega (arith, low)))
      (and_from (is_word (flag_of f.write)) true (small _ (flag_small f.write)) refl)),
  and_from (ltb f.page PAGES) (leb (flag_of f.write) 1) (lt-ltb f.page PAGES low) (flag_most f.write),
)
  where
    flag_most : (b : Bool) → leb (flag_of b) 1 ≡ true
    flag_most true = refl
    flag_most false = refl

module _ (ss : List SpaceRec) where
  talks_told : (t : Option TalkRec) → fits_talk t ≡ true → GivesTalk (option_map (pictured_talk ss) t)
  talks_told None e = tt
  talks_told (Some t) e = talk_told (pictured_talk ss t) (moved_half t e)

  faults_told : (f : Option FaultRec) → fits_fault f ≡ true → GivesFault (option_map (pictured_fault ss) f)
  faults_told None e = tt
  faults_told (Some f) e = fault_told (pictured_fault ss f) (page_byte f e)

  pub told : (r : Rec) → fits_body r ≡ true → AreTold (pictured_body ss r)
  told (Mutex locked) e = tt
  told Cond e = tt
  told Portset e = tt
  told (Mapping first count offset write to) e = tt
  told (Region first count write to) e = tt
  told (Port set) e = tt
  told (Thread t) e = let n = thread_in t e in (talks_told t.talk n.talk, faults_told t.fault n.fault)
  told (Reference to) e = tt

  -- ---- shapes and ranges

  pub is_shaped : (r : Rec) → fits_body r ≡ true → IsShaped (pictured_body ss r)
  is_shaped (Mutex locked) e = tt
  is_shaped Cond e = tt
  is_shaped Portset e = tt
  is_shaped (Mapping first count offset write to) e = tt
  is_shaped (Region first count write to) e = tt
  is_shaped (Port set) e = tt
  is_shaped (Thread t) e = mode_shaped t.regs t.mode t.code (regs_long t (thread_in t e))
  is_shaped (Reference to) e = tt

  is_users : (r : Rec) → is_native (pictured_body ss r) ≡ false
  is_users (Mutex locked) = refl
  is_users Cond = refl
  is_users Portset = refl
  is_users (Mapping first count offset write to) = refl
  is_users (Region first count write to) = refl
  is_users (Port set) = refl
  is_users (Thread t) = by (t.mode == 0) (t.mode == 1) (todo_of t.regs)
    where
      by : (a b : Bool) (o : Option (List Stage)) → is_native
          (Thread_of (record {
            mode = cond a (modes.Running t.regs) (cond b (mode_while_calling t.regs o) (modes.Halted t.regs t.code));
            counter = 0;
            stops = 0;
            talk = None;
            fault = None;
          })) ≡ false
      by true b o = refl
      by false true None = refl
      by false true (Some todo) = refl
      by false false o = refl
  is_users (Reference to) = refl

  pub no_space : (r : Rec) → space_of (pictured_body ss r) ≡ None
  no_space (Mutex locked) = refl
  no_space Cond = refl
  no_space Portset = refl
  no_space (Mapping first count offset write to) = refl
  no_space (Region first count write to) = refl
  no_space (Port set) = refl
  no_space (Thread t) = refl
  no_space (Reference to) = refl

  extent : (first count : ℕ) → is_extent first count ≡ true → IsPageRange first count
  extent first count e = let p = and_parts (ltb 0 count) (leb (first + count) 256) e in (ltb-true 0 count p.0, leb-true (first + count) 256 p.1)

  record IsWindowIn (first count offset : ℕ) : Type 0 where
    pub first_byte : first < 256
    pub count_half : count < 2 ^ 16
    pub range : IsPageRange first count
    pub offset_byte : offset < 256

  window_in : (first count offset write : ℕ) (rest : Bool)
      → (is_byte first && is_half count && is_extent first count && is_byte offset && is_bit write && rest) ≡ true → IsWindowIn first count offset
  window_in first count offset write rest e =
      let p1 = and_parts (is_byte first && is_half count && is_extent first count && is_byte offset && is_bit write) rest e in
      let p2 = and_parts (is_byte first && is_half count && is_extent first count && is_byte offset) (is_bit write) p1.0 in
      let p3 = and_parts (is_byte first && is_half count && is_extent first count) (is_byte offset) p2.0 in
      let p4 = and_parts (is_byte first && is_half count) (is_extent first count) p3.0 in
      let p5 = and_parts (is_byte first) (is_half count) p4.0 in
      record {
        first_byte = ltb-true first 256 p5.0;
        count_half = ltb-true count (2 ^ 16) p5.1;
        range = extent first count p4.1;
        offset_byte = ltb-true offset 256 p3.1;
      }

  region_in : (first count write : ℕ) (rest : Bool) → (is_byte first && is_half count && is_extent first count && is_bit write && rest) ≡ true
      → IsWindowIn first count 0
  region_in first count write rest e =
      let p1 = and_parts (is_byte first && is_half count && is_extent first count && is_bit write) rest e in
      let p2 = and_parts (is_byte first && is_half count && is_extent first count) (is_bit write) p1.0 in
      let p3 = and_parts (is_byte first && is_half count) (is_extent first count) p2.0 in
      let p4 = and_parts (is_byte first) (is_half count) p3.0 in
      record { first_byte = ltb-true first 256 p4.0; count_half = ltb-true count (2 ^ 16) p4.1; range = extent first count p3.1; offset_byte = omega arith }

  -- what a port's set is, where its slot is known to hold one
  in_range : (w : World) (q : Path) (r : Rec) → fits_body r ≡ true → ((set : ℕ) → r ≡ Port set → IsMember w q false (member_by set))
      → IsInRange w q (pictured_body ss r)
  in_range w q (Mutex locked) e member = tt
  in_range w q Cond e member = tt
  in_range w q Portset e member = tt
  in_range w q (Mapping first count offset write to) e member = let n = window_in first count offset write (fits_link to) e in (n.range, n.offset_byte)
  in_range w q (Region first count write to) e member = (region_in first count write (fits_link to) e).range
  in_range w q (Port set) e member = member set refl
  in_range w q (Thread t) e member = let n = thread_in t e in let stops = n.stops in (omega (arith, stops), mode_in_range t.regs t.mode t.code n.code)
  in_range w q (Reference to) e member = tt

  -- ---- what fills a record up is not read

  abbrev record_with : ThreadState → List ℕ → List ℕ
  record_with t g = records.padded RECORD_WORDS (8 ∷ g ++ (t.counter ∷ mode_number t.mode ∷ halt_code t.mode ∷ t.stops ∷ []) ++ records.talk_words t.talk
      ++ records.fault_words t.fault)

  long_sets : (t : ThreadState) (r : ℕ → ℕ) → set (Thread_of t) (padded (record_with t (registers (r 0) r)))
      ≡ set (Thread_of t) (record_with t (registers (r 0) r))
  unfolding set edited
  long_sets t r = refl

  long_takes : (w : World) (q : Path) (t : ThreadState) (r : ℕ → ℕ) →
      takes_state w q (Thread_of t) (padded (record_with t (registers (r 0) r))) ≡ takes_state w q (Thread_of t) (record_with t (registers (r 0) r))
  unfolding takes_state
  long_takes w q t r = refl

  set_padded : (b : Body) → IsShaped b → set b (padded (record_of b)) ≡ set b (record_of b)
  unfolding set record_of edited
  set_padded (bodies.Mutex locked) shaped = refl
  set_padded bodies.Cond shaped = refl
  set_padded bodies.Portset shaped = refl
  set_padded (bodies.Mapping m) shaped = refl
  set_padded (bodies.Region r) shaped = refl
  set_padded (bodies.Port set served) shaped = refl
  set_padded (bodies.Space birth holder) shaped = refl
  set_padded (Thread_of t) shaped =
      let g = registers_of t.mode in
      subst (λ g. set (Thread_of t) (padded (record_with t g)) ≡ set (Thread_of t) (record_with t g)) (sixteen g (registers_long t.mode shaped))
      (long_sets t (λ i. get_or g i 0))
  set_padded (bodies.Reference to) shaped = refl

  takes_padded : (w : World) (q : Path) (b : Body) → IsShaped b → takes_state w q b (padded (record_of b)) ≡ takes_state w q b (record_of b)
  unfolding takes_state record_of
  takes_padded w q (bodies.Mutex locked) shaped = refl
  takes_padded w q bodies.Cond shaped = refl
  takes_padded w q bodies.Portset shaped = refl
  takes_padded w q (bodies.Mapping m) shaped = refl
  takes_padded w q (bodies.Region r) shaped = refl
  takes_padded w q (bodies.Port set served) shaped = refl
  takes_padded w q (bodies.Space birth holder) shaped = refl
  takes_padded w q (Thread_of t) shaped =
      let g = registers_of t.mode in
      subst (λ g. takes_state w q (Thread_of t) (padded (record_with t g)) ≡ takes_state w q (Thread_of t) (record_with t g))
      (sixteen g (registers_long t.mode shaped)) (long_takes w q t (λ i. get_or g i 0))
  takes_padded w q (bodies.Reference to) shaped = refl

  -- ---- a record is taken by a new object, and says all of an object but its pointers

  blank_takes : (w : World) (q : Path) (r : Rec) (words : List ℕ) → takes_state w q (pictured_body ss r) words ≡ true
      → takes_state w q (blank (pictured_body ss r)) words ≡ true
  unfolding takes_state
  blank_takes w q (Mutex locked) words e = e
  blank_takes w q Cond words e = e
  blank_takes w q Portset words e = e
  blank_takes w q (Mapping first count offset write to) words e = e
  blank_takes w q (Region first count write to) words e = e
  blank_takes w q (Port set) words e = e
  blank_takes w q (Thread t) words e = e
  blank_takes w q (Reference to) words e = e

  pub takes : (w : World) (q : Path) (r : Rec) → fits_body r ≡ true → ((set : ℕ) → r ≡ Port set → IsMember w q false (member_by set)) →
      takes_state w q (blank (pictured_body ss r)) (padded (record_of (pictured_body ss r))) ≡ true
  takes w q r e member =
      let shaped = is_shaped r e in
      blank_takes w q r _ (takes_padded w q (pictured_body ss r) shaped
      ∙ record_is_taken_lem w q (pictured_body ss r) shaped (in_range w q r e member) (is_users r))

  thread_set : (m : Mode) (counter stops : ℕ) (talk : Option Talk) (fault : Option Fault) (words : List ℕ) →
      set (blank (Thread_of (record { mode = m; counter = counter; stops = stops; talk = talk; fault = fault }))) words
      ≡ recorded (set (Thread_of (record { mode = m; counter = counter; stops = stops; talk = talk; fault = fault })) words)
  unfolding set edited
  thread_set m counter stops None None words = refl
  thread_set m counter stops None (Some fault) words = refl
  thread_set m counter stops (Some talk) None words = refl
  thread_set m counter stops (Some talk) (Some fault) words = refl

  blank_set : (r : Rec) (words : List ℕ) → set (blank (pictured_body ss r)) words ≡ recorded (set (pictured_body ss r) words)
  unfolding set edited
  blank_set (Mutex locked) words = refl
  blank_set Cond words = refl
  blank_set Portset words = refl
  blank_set (Mapping first count offset write to) words = refl
  blank_set (Region first count write to) words = refl
  blank_set (Port set) words = refl
  blank_set (Thread t) words = thread_set (mode t.regs t.mode t.code) t.pc t.stops (option_map (pictured_talk ss) t.talk)
      (option_map (pictured_fault ss) t.fault) words
  blank_set (Reference to) words = refl

  pub says : (r : Rec) → fits_body r ≡ true → set (blank (pictured_body ss r)) (padded (record_of (pictured_body ss r))) ≡ recorded (pictured_body ss r)
  says r e =
      let shaped = is_shaped r e in
      blank_set r (padded (record_of (pictured_body ss r)))
      ∙ ap recorded (set_padded (pictured_body ss r) shaped ∙ record_sets_nothing_lem (pictured_body ss r) shaped (is_users r))

  -- ---- its words are words

  mode_small : (m : Mode) → IsCodeInRange m → (mode_number m < 2 ^ 16) × (halt_code m < 2 ^ 16)
  mode_small (modes.Running g) in_range = (omega arith, omega arith)
  mode_small (modes.Calling todo rest) in_range = (omega arith, omega arith)
  mode_small (modes.Halted g code) in_range = (omega arith, omega (arith, in_range))
  mode_small (modes.Native g) in_range = (omega arith, omega arith)

  talk_all : (t : Option TalkRec) → fits_talk t ≡ true → are_words (records.talk_words (option_map (pictured_talk ss) t)) ≡ true
  talk_all None e = refl
  talk_all (Some t) e = talk_small (pictured_talk ss t) (moved_half t e)

  fault_all : (f : Option FaultRec) → fits_fault f ≡ true → are_words (records.fault_words (option_map (pictured_fault ss) f)) ≡ true
  fault_all None e = refl
  fault_all (Some f) e = by f.taker
    where
      rest : are_words (f.page ∷ flag_of (f.write == 1) ∷ []) ≡ true
      rest = let low = page_byte f e in and_from (is_word f.page) (are_words (flag_of (f.write == 1) ∷ [])) (small f.page (omega (arith, low)))
          (and_from (is_word (flag_of (f.write == 1))) true (small _ (flag_small (f.write == 1))) refl)

      by : (taker : Option Link) → are_words (records.fault_words (Some (pictured_fault ss (record f { taker = taker })))) ≡ true
      by None = rest
      by (Some to) = rest

  thread_words : (t : ThreadRec) → IsThreadIn t → are_words (state_words (Thread_of (pictured_thread ss t))) ≡ true
  thread_words t n =
      let m = mode t.regs t.mode t.code in
      let low = mode_small m (mode_in_range t.regs t.mode t.code n.code) in
      let regs : are_words (registers_of m) ≡ true =
      ap are_words (mode_registers t.regs t.mode t.code (regs_long t n)) ∙ (and_parts (length t.regs == 16) (list_all ranges.is_word t.regs) n.regs).1 in
      let numbers : are_words (t.pc ∷ mode_number m ∷ halt_code m ∷ t.stops ∷ []) ≡ true =
      and_from (is_word t.pc) (are_words (mode_number m ∷ halt_code m ∷ t.stops ∷ [])) n.counter
      (and_from (is_word (mode_number m)) (are_words (halt_code m ∷ t.stops ∷ [])) (small _ low.0)
      (and_from (is_word (halt_code m)) (are_words (t.stops ∷ [])) (small _ low.1) (and_from (is_word t.stops) true (small t.stops n.stops) refl))) in
      let numbered = t.pc ∷ mode_number m ∷ halt_code m ∷ t.stops ∷ [] in
      let talk = records.talk_words (option_map (pictured_talk ss) t.talk) in
      let fault = records.fault_words (option_map (pictured_fault ss) t.fault) in
      all_words (registers_of m ++ numbered ++ talk) fault
      (all_words (registers_of m ++ numbered) talk (all_words (registers_of m) numbered regs numbers) (talk_all t.talk n.talk)) (fault_all t.fault n.fault)

  state_all : (r : Rec) → fits_body r ≡ true → are_words (state_words (pictured_body ss r)) ≡ true
  state_all (Mutex locked) e = and_from (is_word (flag_of (locked == 1))) true (small _ (flag_small (locked == 1))) refl
  state_all Cond e = refl
  state_all Portset e = refl
  state_all (Mapping first count offset write to) e =
      let n = window_in first count offset write (fits_link to) e in
      let a = n.first_byte in
      let b = n.offset_byte in
      and_from (is_word first) _ (small first (omega (arith, a)))
      (and_from (is_word count) _ (small count n.count_half)
      (and_from (is_word offset) _ (small offset (omega (arith, b)))
      (and_from (is_word (flag_of (write == 1))) true (small _ (flag_small (write == 1))) refl)))
  state_all (Region first count write to) e =
      let n = region_in first count write (fits_link to) e in
      let a = n.first_byte in
      and_from (is_word first) _ (small first (omega (arith, a)))
      (and_from (is_word count) _ (small count n.count_half) (and_from (is_word (flag_of (write == 1))) true (small _ (flag_small (write == 1))) refl))
  state_all (Port set) e = and_from (is_word (member_word (member_by set))) true (small _ (member_small set (ltb-true set 241 e))) refl
    where
      member_small : (set : ℕ) → set < 241 → member_word (member_by set) < 2 ^ 16
      member_small set lt = by (set == 0)
        where
          by : (b : Bool) → member_word (cond b None (Some (set - 1))) < 2 ^ 16
          by true = omega arith
          by false = omega (arith, lt)
  state_all (Thread t) e = thread_words t (thread_in t e)
  state_all (Reference to) e = refl

  kind_small : (r : Rec) → is_word (number_of_kind (kind_of (pictured_body ss r))) ≡ true
  kind_small (Mutex locked) = refl
  kind_small Cond = refl
  kind_small Portset = refl
  kind_small (Mapping first count offset write to) = refl
  kind_small (Region first count write to) = refl
  kind_small (Port set) = refl
  kind_small (Thread t) = refl
  kind_small (Reference to) = refl

  record_all : (r : Rec) → fits_body r ≡ true → are_words (record_of (pictured_body ss r)) ≡ true
  unfolding record_of
  record_all r e =
      let words = number_of_kind (kind_of (pictured_body ss r)) ∷ state_words (pictured_body ss r) in
      let all : are_words words ≡ true = and_from (is_word (number_of_kind (kind_of (pictured_body ss r)))) (are_words (state_words (pictured_body ss r)))
      (kind_small r) (state_all r e) in
      all_words words (replicate (RECORD_WORDS - length words) 0) all (zeros (RECORD_WORDS - length words))

  pub given : (r : Rec) → fits_body r ≡ true → IsGiven (padded (record_of (pictured_body ss r)))
  given r e = let full = record_is_full_lem (pictured_body ss r) (is_shaped r e) in
      given_padded (record_of (pictured_body ss r)) (omega (arith, full)) (record_all r e)
