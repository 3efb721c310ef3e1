-- State records: what one that was shown sets, and that it is taken.
use Rattle.std.proofs.Common.{◌≡◌, ℕ, ◌+◌, ◌-◌, ◌<◌, ◌≤◌, Bool, true, false, ◌&&◌, eqb, leb, List, [], ◌∷◌, ◌++◌, length, replicate, map, get_or, Option, Some}
use Rattle.std.proofs.Common.{None, option_map, cond, refl, sym, ap, subst, ◌∙◌, arith}
use Rattle.std.proofs.lemmas.Bool.{le-leb, lt-ltb, eqb-true, ne_eqb, and_parts, and_from, or_right}
use Rattle.std.proofs.lemmas.List.{length-append, length-replicate}
use Rattle.fk_model.specs.declared.limits.TheConstants.{RECORD_WORDS, MOST_STOPS, PAGES}
use Rattle.fk_model.specs.Places.{Path, same_path}
use Rattle.fk_model.specs.Calls.{words}
use Rattle.fk_model.specs.Objects.{Mode, Talk, Fault, Thread, Body, registers_of, number_of_kind, kind_of, flag_of}
use Rattle.fk_model.specs.Objects.Mode.{Running, Calling, Halted, Native}
use Rattle.fk_model.specs.Objects.Body.{Mutex, Mapping, Region, Port, Thread_of}
use Rattle.fk_model.specs.Holds.{is_porter}
use Rattle.fk_model.specs.World.{World, Edit, edited, at_path, apply, apply_all}
use Rattle.fk_model.specs.World.Change.{Alter}
use Rattle.fk_model.specs.Records.{record_of, set_edits, edited_by, set, takes_state, padded, state_words, mode_number, halt_code, talk_words, fault_words}
use Rattle.fk_model.specs.Records.{member_by, member_word, calling_by, mode_of_record, is_flag, is_page_range, is_member_word, is_mode}
use Rattle.fk_model.specs.Shapes.{IsShapedMode, IsShaped, IsPageRange, IsCodeInRange, IsMember, IsInRange}
use Rattle.laws_moves.specs.Machine.Laws.{RecordIsFull, RecordSetsNothing, RecordChangesNothing, RecordIsTaken}
use Rattle.fk_model.proofs.calls.CallLaws.{registers, sixteen, words_read_back_lem, words_keep_length_lem}

-- ---- a record is full

length-padded : (n : ℕ) (g : List ℕ) → length g ≤ n → length (padded n g) ≡ n
length-padded n g fits = omega (arith, length-append g (replicate (n - length g) 0), length-replicate {A = ℕ} (n - length g) 0)

length-talk_words : (talk : Option Talk) → length (talk_words talk) ≡ 2
length-talk_words None = refl
length-talk_words (Some talk) = refl

length-fault_words : (fault : Option Fault) → length (fault_words fault) ≡ 3
length-fault_words None = refl
length-fault_words (Some fault) = refl

length-registers_of : (mode : Mode) → IsShapedMode mode → length (registers_of mode) ≡ 16
length-registers_of (Running g) shaped = shaped
length-registers_of (Calling todo rest) shaped = words_keep_length_lem todo rest ∙ shaped.1.sixteen
length-registers_of (Halted g code) shaped = shaped
length-registers_of (Native g) shaped = shaped

state_words-fit : (b : Body) → IsShaped b → length (state_words b) < RECORD_WORDS
state_words-fit (Thread_of t) shaped =
    simp length-append (omega (arith, length-registers_of t.mode shaped, length-talk_words t.talk, length-fault_words t.fault))
state_words-fit (Mutex locked) shaped = omega arith
state_words-fit b shaped = omega arith

pub record_is_full_lem : RecordIsFull
unfolding record_of
record_is_full_lem b shaped = let fits = state_words-fit b shaped in length-padded RECORD_WORDS (number_of_kind (kind_of b) ∷ state_words b) (omega arith)

-- ---- a shown record sets what is there

flag-read : (b : Bool) → eqb (flag_of b) 1 ≡ b
flag-read true = refl
flag-read false = refl

sum_is_not_0 : (k : ℕ) → eqb (1 + k) 0 ≡ false
sum_is_not_0 k = ne_eqb (1 + k) 0 (λ e. omega arith)

less_one : (k : ℕ) → 1 + k - 1 ≡ k
less_one k = omega arith

member_word-read : (set : Option ℕ) → member_by (member_word set) ≡ set
member_word-read None = refl
member_word-read (Some k) = rw (sum_is_not_0 k, less_one k) refl

mode-read : (mode : Mode) → IsShapedMode mode → is_porter mode ≡ false → mode_of_record (mode_number mode) (registers_of mode) (halt_code mode) ≡ mode
mode-read (Running g) shaped user = refl
mode-read (Calling todo rest) shaped user =
    let back = words_read_back_lem todo rest shaped.0 shaped.1 in
    ap (calling_by (words todo rest)) back.0 ∙ ap (Calling todo) back.1
mode-read (Halted g code) shaped user = refl
mode-read (Native g) shaped user = cc

-- the record of a thread with these registers
abbrev shown : Thread → List ℕ → List ℕ
shown t g = padded RECORD_WORDS (8 ∷ g ++ (t.counter ∷ mode_number t.mode ∷ halt_code t.mode ∷ t.stops ∷ []) ++ talk_words t.talk ++ fault_words t.fault)

set-shown : (t : Thread) (r : ℕ → ℕ) →
    set (Thread_of t) (shown t (registers (r 0) r)) ≡ Thread_of (record t { mode = mode_of_record (mode_number t.mode) (registers (r 0) r) (halt_code t.mode) })
unfolding set edited
set-shown t r = refl

set-thread : (t : Thread) → IsShapedMode t.mode → is_porter t.mode ≡ false → set (Thread_of t) (record_of (Thread_of t)) ≡ Thread_of t
unfolding record_of
set-thread t shaped user =
    let g = registers_of t.mode in
    subst (λ g. set (Thread_of t) (shown t g) ≡ Thread_of (record t { mode = mode_of_record (mode_number t.mode) g (halt_code t.mode) }))
    (sixteen g (length-registers_of t.mode shaped)) (set-shown t (λ i. get_or g i 0))
    ∙ ap (λ mode. Thread_of (record t { mode = mode })) (mode-read t.mode shaped user)

pub record_sets_nothing_lem : RecordSetsNothing
unfolding set record_of edited
record_sets_nothing_lem (Mutex locked) shaped user = ap (λ locked. Mutex locked) (flag-read locked)
record_sets_nothing_lem (Mapping m) shaped user = ap (λ write. Mapping (record m { write = write })) (flag-read m.write)
record_sets_nothing_lem (Region r) shaped user = ap (λ write. Region (record r { write = write })) (flag-read r.write)
record_sets_nothing_lem (Port set served) shaped user = ap (λ set. Port set served) (member_word-read set)
record_sets_nothing_lem (Thread_of t) shaped user = set-thread t shaped user
record_sets_nothing_lem b shaped user = refl

-- ---- and so the world stays as it is

same_path_eq : (x y : Path) → same_path x y ≡ true → x ≡ y
unfolding same_path
same_path_eq [] [] h = refl
same_path_eq [] (j ∷ y) h = cc
same_path_eq (k ∷ x) [] h = cc
same_path_eq (k ∷ x) (j ∷ y) h =
    let both = and_parts (eqb k j) (same_path x y) h in
    let first = eqb-true k j both.0 in
    let others = same_path_eq x y both.1 in
    cc

-- edits of one object, one after another, are one change of it
apply_all-edits : (x : Path) (edits : List Edit) (w : World) → apply_all (map (Alter x) edits) w ≡ at_path x (option_map (edited_by edits)) w
unfolding apply apply_all
apply_all-edits x [] w = λ i. record { body = λ q. by (same_path q x) (w.body q) i; page = w.page; next = w.next }
  where
    by : (t : Bool) (b : Option Body) → b ≡ cond t (option_map (edited_by []) b) b
    by true None = refl
    by true (Some b) = refl
    by false b = refl
apply_all-edits x (edit ∷ edits) w =
    apply_all-edits x edits (apply (Alter x edit) w) ∙ (λ i. record { body = λ q. by (same_path q x) (w.body q) i; page = w.page; next = w.next })
  where
    by : (t : Bool) (b : Option Body) → cond t (option_map (edited_by edits) (cond t (option_map (edited edit) b) b))
        (cond t (option_map (edited edit) b) b) ≡ cond t (option_map (edited_by (edit ∷ edits)) b) b
    by true None = refl
    by true (Some b) = refl
    by false b = refl

at_path-same : (x : Path) (f : Option Body → Option Body) (w : World) → f (w.body x) ≡ w.body x → at_path x f w ≡ w
at_path-same x f w same = λ i. record { body = λ q. by q (same_path q x) refl i; page = w.page; next = w.next }
  where
    by : (q : Path) (t : Bool) → same_path q x ≡ t → cond t (f (w.body q)) (w.body q) ≡ w.body q
    by q true h = let here = same_path_eq q x h in rw here same
    by q false h = refl

pub record_changes_nothing_lem : RecordChangesNothing
unfolding set
record_changes_nothing_lem w x b there shaped user =
    let edits = set_edits b (record_of b) in
    let same = ap (λ b. Some b) (record_sets_nothing_lem b shaped user) in
    apply_all-edits x edits w ∙ at_path-same x (option_map (edited_by edits)) w (ap (option_map (edited_by edits)) there ∙ same ∙ sym there)

-- ---- a shown record is taken

flag-taken : (b : Bool) → is_flag (flag_of b) ≡ true
flag-taken true = refl
flag-taken false = refl

extent-taken : (first count : ℕ) → IsPageRange first count → is_page_range first count ≡ true
extent-taken first count extent =
    and_from _ _ (and_from _ _ (le-leb 1 count extent.0) (le-leb count PAGES (omega arith))) (le-leb (first + count) PAGES extent.1)

member-taken : (w : World) (space : Path) (served : Bool) (set : Option ℕ) →
    IsMember w space served set → is_member_word w space served (member_word set) ≡ true
member-taken w space served None member = refl
member-taken w space served (Some k) member =
    rw (sum_is_not_0 k, less_one k, member.0, member.2, le-leb (1 + k) PAGES (omega arith)) refl

mode-taken : (mode : Mode) →
    IsShapedMode mode → IsCodeInRange mode → is_porter mode ≡ false → is_mode (registers_of mode) (mode_number mode) (halt_code mode) ≡ true
mode-taken (Running g) shaped range user = refl
mode-taken (Calling todo rest) shaped range user = rw ((words_read_back_lem todo rest shaped.0 shaped.1).0) refl
mode-taken (Halted g code) shaped range user = and_from _ _ (le-leb code 255 range) (or_right (eqb code 0) true refl)
mode-taken (Native g) shaped range user = cc

takes-shown : (w : World) (space : Path) (t : Thread) (r : ℕ → ℕ) → takes_state w
    space (Thread_of t) (shown t (registers (r 0) r)) ≡ (is_mode (registers (r 0) r) (mode_number t.mode) (halt_code t.mode) && leb t.stops MOST_STOPS)
unfolding takes_state
takes-shown w space t r = refl

thread-taken : (w : World) (space : Path) (t : Thread) →
    IsShapedMode t.mode → IsInRange w space (Thread_of t) → is_porter t.mode ≡ false → takes_state w space (Thread_of t) (record_of (Thread_of t)) ≡ true
unfolding record_of
thread-taken w space t shaped range user =
    let g = registers_of t.mode in
    subst (λ g. takes_state w space (Thread_of t) (shown t g) ≡ (is_mode g (mode_number t.mode) (halt_code t.mode) && leb t.stops MOST_STOPS))
    (sixteen g (length-registers_of t.mode shaped)) (takes-shown w space t (λ i. get_or g i 0))
    ∙ and_from _ _ (mode-taken t.mode shaped range.1 user) (le-leb t.stops MOST_STOPS range.0)

pub record_is_taken_lem : RecordIsTaken
unfolding takes_state record_of
record_is_taken_lem w space (Mutex locked) shaped range user = flag-taken locked
record_is_taken_lem w space (Mapping m) shaped range user =
    and_from _ _ (and_from _ _ (extent-taken m.first m.count range.0) (lt-ltb m.offset PAGES range.1)) (flag-taken m.write)
record_is_taken_lem w space (Region r) shaped range user = and_from _ _ (extent-taken r.first r.count range) (flag-taken r.write)
record_is_taken_lem w space (Port set served) shaped range user = member-taken w space served set range
record_is_taken_lem w space (Thread_of t) shaped range user = thread-taken w space t shaped range user
record_is_taken_lem w space b shaped range user = refl
