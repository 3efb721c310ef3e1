-- What a record and four fields say of a body: all of it, where it is seen in a cut.
use Rattle.std.proofs.Common.{◌≡◌, ℕ, ◌+◌, ◌-◌, Bool, true, false, if◌then◌else◌, ◌==◌, is_none, List, [], ◌∷◌, ◌++◌, length, reverse, get_or, Option}
use Rattle.std.proofs.Common.{Some, None, refl, sym, ap, subst, ◌∙◌, arith}
use Rattle.std.proofs.lemmas.Bool.{ne_eqb}
use Rattle.std.proofs.lemmas.List.{reverse-reverse}
use Rattle.fk_model.specs.declared.limits.TheConstants.{RECORD_WORDS}
use Rattle.fk_model.specs.declared.thread.Turn.{Turn}
use Rattle.fk_model.specs.declared.thread.Turn.TheVariants as turns
use Rattle.fk_model.specs.Places.{Ptr}
use Rattle.fk_model.specs.Places.Ptr.{Null, Dead, At, Out, Outside, Far}
use Rattle.fk_model.specs.Objects.{Mode, Peer, Talk, Fault, Thread, Body, registers_of, flag_of}
use Rattle.fk_model.specs.Objects.Mode.{Running, Calling, Halted, Native}
use Rattle.fk_model.specs.Objects.Peer.{Server, Service, Parked}
use Rattle.fk_model.specs.Objects.Body.{Mutex, Cond, Mapping, Region, Port, Portset, Space, Thread_of, Reference}
use Rattle.fk_model.specs.Calls.{words, todo_of}
use Rattle.fk_model.specs.LinkRows.{turn_number}
use Rattle.fk_model.specs.Records.{record_of, padded, mode_number, halt_code, talk_words, fault_words, member_by, member_word, calling_by}
use Rattle.fk_model.specs.Records.{record_registers, word}
use Rattle.fk_model.specs.Shapes.{IsShapedMode, IsShaped}
use Rattle.fk_model.proofs.calls.CallLaws.{registers, sixteen, words_read_back_lem, words_keep_length_lem}
use Rattle.fk_cut.specs.declared.cuts.shown.CutPtr.{CutPtr}
use Rattle.fk_cut.specs.declared.cuts.shown.CutPtr.TheVariants as shows
use Rattle.fk_cut.specs.Cuts.Shown.{shown, shown_each, shown_peer, shown_peers, fields_of, fields_there, record_there}

-- ---- pointers

unshown : CutPtr → Ptr
unshown shows.Null = Null
unshown shows.Dead = Dead
unshown (shows.At q) = At (reverse q)
unshown (shows.Out slot) = Out slot
unshown shows.Outside = Outside
unshown shows.Far = Far
unshown shows.Service = Null
unshown shows.Parked = Null

unshown-shown : (p : Ptr) → unshown (shown p) ≡ p
unfolding unshown
unshown-shown Null = refl
unshown-shown Dead = refl
unshown-shown (At q) = ap At (reverse-reverse q)
unshown-shown (Out slot) = refl
unshown-shown Outside = refl
unshown-shown Far = refl

unshown_peer : CutPtr → Peer
unshown_peer shows.Service = Service
unshown_peer shows.Parked = Parked
unshown_peer p = Server (unshown p)

unshown-server : (p : Ptr) → unshown_peer (shown p) ≡ Server p
unfolding unshown_peer unshown
unshown-server Null = refl
unshown-server Dead = refl
unshown-server (At q) = ap (λ q. Server (At q)) (reverse-reverse q)
unshown-server (Out slot) = refl
unshown-server Outside = refl
unshown-server Far = refl

unshown-peer : (peer : Peer) → unshown_peer (shown_peer peer) ≡ peer
unfolding unshown_peer
unshown-peer (Server thread) = unshown-server thread
unshown-peer Service = refl
unshown-peer Parked = refl

-- who holds a space; a holder leads somewhere
unshown_holder : CutPtr → Option Ptr
unshown_holder shows.Null = None
unshown_holder p = Some (unshown p)

unshown-holder : (holder : Option Ptr) → (holder ≡ Some Null → ⊥) → unshown_holder (shown_each holder) ≡ holder
unfolding unshown_holder unshown
unshown-holder None leads = refl
unshown-holder (Some Null) leads = absurd (leads refl)
unshown-holder (Some Dead) leads = refl
unshown-holder (Some (At q)) leads = ap (λ q. Some (At q)) (reverse-reverse q)
unshown-holder (Some (Out slot)) leads = refl
unshown-holder (Some Outside) leads = refl
unshown-holder (Some Far) leads = refl

-- ---- talks and faults

abbrev turn_of : ℕ → Turn
turn_of n = if n == 1 then turns.Client else turns.Server

abbrev told_talk : ℕ → ℕ → CutPtr → CutPtr → Option Talk
told_talk n moved port peer =
    if n == 0 then None else Some (record { port = unshown port; peer = unshown_peer peer; turn = turn_of n; moved = moved })

talk-told : (talk : Talk) → told_talk (turn_number talk.turn) talk.moved (shown talk.port) (shown_peer talk.peer) ≡ Some talk
talk-told talk = by talk.turn ∙ same
  where
    by : (turn : Turn) → told_talk (turn_number turn) talk.moved (shown talk.port) (shown_peer talk.peer)
        ≡ Some (record { port = unshown (shown talk.port); peer = unshown_peer (shown_peer talk.peer); turn = turn; moved = talk.moved })
    by turns.Client = refl
    by turns.Server = refl

    same : Some (record { port = unshown (shown talk.port); peer = unshown_peer (shown_peer talk.peer); turn = talk.turn; moved = talk.moved }) ≡ Some talk
    same = rw (unshown-shown talk.port, unshown-peer talk.peer) refl

abbrev told_taker : ℕ → CutPtr → Option Peer
told_taker n taker = if n == 1 then None else Some (unshown_peer taker)

abbrev told_fault : ℕ → ℕ → ℕ → CutPtr → CutPtr → Option Fault
told_fault n page write port taker =
    if n == 0 then None else Some (record { page = page; write = write == 1; port = unshown port; taker = told_taker n taker })

flag-read : (b : Bool) → (flag_of b == 1) ≡ b
flag-read true = refl
flag-read false = refl

fault-told : (fault : Fault) →
    told_fault (if is_none fault.taker then 1 else 2) fault.page (flag_of fault.write) (shown fault.port) (shown_peers fault.taker) ≡ Some fault
fault-told fault = by fault.taker ∙ same
  where
    by : (taker : Option Peer) → told_fault (if is_none taker then 1 else 2) fault.page (flag_of fault.write) (shown fault.port) (shown_peers taker)
        ≡ Some (record { page = fault.page; write = flag_of fault.write == 1; port = unshown (shown fault.port); taker = taker })
    by None = refl
    by (Some peer) = ap (λ (taker : Peer). Some (record {
      page = fault.page;
      write = flag_of fault.write == 1;
      port = unshown (shown fault.port);
      taker = Some taker;
    })) (unshown-peer peer)

    same : Some (record { page = fault.page; write = flag_of fault.write == 1; port = unshown (shown fault.port); taker = fault.taker }) ≡ Some fault
    same = rw (unshown-shown fault.port, flag-read fault.write) refl

-- ---- modes

abbrev told_mode : ℕ → List ℕ → ℕ → Mode
told_mode n g code =
    if n == 0 then Running g else (if n == 1 then calling_by g (todo_of g) else (if n == 2 then Halted g code else Native g))

mode-told : (mode : Mode) → IsShapedMode mode → told_mode (mode_number mode) (registers_of mode) (halt_code mode) ≡ mode
mode-told (Running g) shaped = refl
mode-told (Calling todo rest) shaped =
    let back = words_read_back_lem todo rest shaped.0 shaped.1 in
    ap (calling_by (words todo rest)) back.0 ∙ ap (Calling todo) back.1
mode-told (Halted g code) shaped = refl
mode-told (Native g) shaped = refl

length-registers_of : (mode : Mode) → IsShapedMode mode → length (registers_of mode) ≡ 16
length-registers_of (Running g) shaped = shaped
length-registers_of (Calling todo rest) shaped = words_keep_length_lem todo rest ∙ shaped.1.sixteen
length-registers_of (Halted g code) shaped = shaped
length-registers_of (Native g) shaped = shaped

-- ---- bodies

abbrev first_of : List CutPtr → CutPtr
first_of (a ∷ ptrs) = a
first_of [] = shows.Null

abbrev behind : List CutPtr → List CutPtr
behind (a ∷ ptrs) = ptrs
behind [] = []

abbrev told_thread : List ℕ → List CutPtr → Thread
told_thread ws ptrs = record {
  mode = told_mode (word ws 18) (record_registers ws) (word ws 19);
  counter = word ws 17;
  stops = word ws 20;
  talk = told_talk (word ws 21) (word ws 22) (first_of ptrs) (first_of (behind ptrs));
  fault = told_fault (word ws 23) (word ws 24) (word ws 25) (first_of (behind (behind ptrs))) (first_of (behind (behind (behind ptrs))));
}

unfoldable told : List ℕ → List CutPtr → Body
told ws ptrs =
    if word ws 0 == 1 then Mutex (word ws 1 == 1) else
    (if word ws 0 == 2 then Cond else
    (if word ws 0 == 3
    then Mapping (record { first = word ws 1; count = word ws 2; offset = word ws 3; write = word ws 4 == 1; region = unshown (first_of ptrs) }) else
    (if word ws 0 == 4 then Region (record { first = word ws 1; count = word ws 2; write = word ws 3 == 1; keeper = unshown (first_of ptrs) }) else
    (if word ws 0 == 5 then Port (member_by (word ws 1)) false else
    (if word ws 0 == 6 then Portset else
    (if word ws 0 == 7 then Space 0 (unshown_holder (first_of ptrs)) else
    (if word ws 0 == 8 then Thread_of (told_thread ws ptrs) else Reference (unshown (first_of ptrs)))))))))

-- in a cut spaces have no numbers, holders lead somewhere, and no port is served
abbrev pub IsSeen : Body → Type 0
IsSeen (Space birth holder) = (birth ≡ 0) × (holder ≡ Some Null → ⊥)
IsSeen (Port set served) = served ≡ false
IsSeen other = Unit {0}

abbrev thread_record : Thread → List ℕ → List ℕ
thread_record t g =
    padded RECORD_WORDS (8 ∷ g ++ (t.counter ∷ mode_number t.mode ∷ halt_code t.mode ∷ t.stops ∷ []) ++ talk_words t.talk ++ fault_words t.fault)

with_mode : Thread → List ℕ → Body
with_mode t g = Thread_of (record t { mode = told_mode (mode_number t.mode) g (halt_code t.mode) })

parts : (mode : Mode) (counter stops : ℕ) (talk : Option Talk) (fault : Option Fault) → Thread
parts mode counter stops talk fault = record { mode = mode; counter = counter; stops = stops; talk = talk; fault = fault }

thread-told : (mode : Mode) (counter stops : ℕ) (talk : Option Talk) (fault : Option Fault) (r : ℕ → ℕ) →
    told (thread_record (parts mode counter stops talk fault) (registers (r 0) r)) (fields_of (Thread_of (parts mode counter stops talk fault)))
    ≡ with_mode (parts mode counter stops talk fault) (registers (r 0) r)
unfolding told with_mode parts
thread-told mode counter stops None None r = refl
thread-told mode counter stops (Some talk) None r = ap (λ (o : Option Talk). with_mode (parts mode counter stops o None) (registers (r 0) r)) (talk-told talk)
thread-told mode counter stops None (Some fault) r =
    ap (λ (o : Option Fault). with_mode (parts mode counter stops None o) (registers (r 0) r)) (fault-told fault)
thread-told mode counter stops (Some talk) (Some fault) r =
    ap (λ (o : Option Talk). with_mode (parts mode counter stops o (told_fault (if is_none fault.taker then 1 else 2) fault.page (flag_of fault.write)
    (shown fault.port) (shown_peers fault.taker))) (registers (r 0) r)) (talk-told talk)
    ∙ ap (λ (o : Option Fault). with_mode (parts mode counter stops (Some talk) o) (registers (r 0) r)) (fault-told fault)

threads-told : (t : Thread) → IsShapedMode t.mode → told (record_of (Thread_of t)) (fields_of (Thread_of t)) ≡ Thread_of t
unfolding record_of with_mode parts
threads-told t shaped =
    let g = registers_of t.mode in
    subst (λ g. told (thread_record t g) (fields_of (Thread_of t)) ≡ with_mode t g) (sixteen g (length-registers_of t.mode shaped))
    (thread-told t.mode t.counter t.stops t.talk t.fault (λ i. get_or g i 0))
    ∙ ap (λ mode. Thread_of (record t { mode = mode })) (mode-told t.mode shaped)

sum_is_not_0 : (k : ℕ) → (1 + k == 0) ≡ false
sum_is_not_0 k = ne_eqb (1 + k) 0 (λ e. omega arith)

less_one : (k : ℕ) → 1 + k - 1 ≡ k
less_one k = omega arith

member-read : (set : Option ℕ) → member_by (member_word set) ≡ set
member-read None = refl
member-read (Some k) = rw (sum_is_not_0 k, less_one k) refl

body-told : (b : Body) → IsShaped b → IsSeen b → told (record_of b) (fields_of b) ≡ b
unfolding told record_of
body-told (Mutex locked) shaped is = ap (λ locked. Mutex locked) (flag-read locked)
body-told Cond shaped is = refl
body-told (Mapping m) shaped is = rw (flag-read m.write, unshown-shown m.region) refl
body-told (Region r) shaped is = rw (flag-read r.write, unshown-shown r.keeper) refl
body-told (Port set served) shaped is = rw (member-read set, is) refl
body-told Portset shaped is = refl
body-told (Space birth holder) shaped is = rw (unshown-holder holder is.1, is.0) refl
body-told (Thread_of t) shaped is = threads-told t shaped
body-told (Reference to) shaped is = rw (unshown-shown to) refl

-- ---- what is there

abbrev pub IsSeenThere : Option Body → Type 0
IsSeenThere None = Unit {0}
IsSeenThere (Some b) = IsShaped b × IsSeen b

unfoldable told_there : List ℕ → List CutPtr → Option Body
told_there ws ptrs = if word ws 0 == 0 then None else Some (told ws ptrs)

kind-there : (b : Body) → (word (record_of b) 0 == 0) ≡ false
unfolding record_of
kind-there (Mutex locked) = refl
kind-there Cond = refl
kind-there (Mapping m) = refl
kind-there (Region r) = refl
kind-there (Port set served) = refl
kind-there Portset = refl
kind-there (Space birth holder) = refl
kind-there (Thread_of t) = refl
kind-there (Reference to) = refl

there-told : (o : Option Body) → IsSeenThere o → told_there (record_there o) (fields_there o) ≡ o
unfolding told_there
there-told None seen = refl
there-told (Some b) seen = rw (kind-there b) (ap (λ b. Some b) (body-told b seen.0 seen.1))

-- equal records and fields are those of equal bodies
pub same-told : (a b : Option Body) → IsSeenThere a → IsSeenThere b → record_there a ≡ record_there b → fields_there a ≡ fields_there b → a ≡ b
same-told a b seen other records fields =
    sym (there-told a seen) ∙ ap (λ ws. told_there ws (fields_there a)) records ∙ ap (told_there (record_there b)) fields ∙ there-told b other
