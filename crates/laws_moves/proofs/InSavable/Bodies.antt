-- Kept changes leave each thread tidy: its call is one that there is, and its numbers are in range.
use Rattle.std.proofs.Common.{◌≡◌, ℕ, ◌+◌, ◌-◌, ◌^◌, ◌%◌, ◌≤◌, min, Bool, true, false, ◌||◌, if◌then◌else◌, length, nat_le, List, [], ◌∷◌, Option, Some, None}
use Rattle.std.proofs.Common.{option_map, refl, ◌∙◌, arith}
use Rattle.std.proofs.Math.Nat.{mod-lt, min-le_left}
use Rattle.std.proofs.lemmas.Bool.{and_parts, leb-true}
use Rattle.std.proofs.lemmas.List.{length-set}
use Rattle.fk_model.specs.declared.limits.TheConstants.{MOST_STOPS, MOST_MOVED}
use Rattle.fk_model.specs.declared.names.Kind.TheVariants as kinds
use Rattle.fk_model.specs.declared.stage.Stage.{Stage}
use Rattle.fk_model.specs.declared.stage.Stage.TheVariants.{ClientReceive, ClientSend, ServerReceive, ServerSend, ClientReceiveRef, ServerReceiveRef}
use Rattle.fk_model.specs.Places.{Path, same_path, parent, leads_to}
use Rattle.fk_model.specs.Instructions as instructions
use Rattle.fk_model.specs.Objects.{Mode, Peer, Talk, Fault, Thread, Body, kind_of, thread_of, and_then}
use Rattle.fk_model.specs.Objects.Mode.{Running, Calling}
use Rattle.fk_model.specs.Objects.Body.{Mutex, Cond, Mapping, Region, Port, Portset, Space, Thread_of, Reference}
use Rattle.fk_model.specs.Calls.{words, arguments, left_by, with_answers, IsTodo, IsRest}
use Rattle.fk_model.specs.World.{World, Change, Edit, Sweep, edited, through, death_sweep, following, serves, apply, shifted, shifted_in, ended_in, finished_in}
use Rattle.fk_model.specs.World.{replaced_in}
use Rattle.fk_model.specs.World.Change.{Alter, Make, MakeSpace, Kill, Move, PutPage, DropPage}
use Rattle.fk_model.specs.World.Edit.{SetLocked, Proceed, Shift, Finish, End, Replace, SetStops, SetTalk, CountMoved, PassTurn, SetPeer, SetFault, SetTaker}
use Rattle.fk_model.specs.Shapes.{IsShapedMode, IsCodeInRange}
use Rattle.fk_model.proofs.calls.CallLaws.{words_keep_length_lem}
use Rattle.fk_model.proofs.walks.PlaceLaws.{same_path_eq}
use Rattle.laws_moves.proofs.InFrozen.Edited.{same_kind}
use Rattle.laws_moves.proofs.InWhole.Lengths.{length-with_answers}
use Rattle.laws_moves.proofs.InSavable.Words.{IsWord, AreWords, below-word, word-below, AreValues, AreArguments, words-set, words-answered, words-left}
use Rattle.laws_moves.proofs.InSavable.Words.{words-called}
use Rattle.laws_moves.proofs.InSavable.Words.{IsNumbered, has_way}
use Rattle.laws_moves.proofs.InSavable.Kept.{IsFewMoved, IsOnPage, IsTidyThread, IsTidy, AreTidy, is_single, leaves_room, FitsAnswers, IsKeptEdit, IsKept}
use Rattle.laws_moves.proofs.InSavable.Todos.{is_last_receive, has_rest, rest-left, rest-shifted, rest-answered}

-- ---- a mode

-- well shaped, its code in range, and its registers words
pub record IsGoodMode (m : Mode) : Type 0 where
  pub shaped : IsShapedMode m
  pub code : IsCodeInRange m
  pub numbers : IsNumbered m

runs : (g : List ℕ) → length g ≡ 16 → AreWords g → IsGoodMode (Running g)
runs g sixteen all = record { shaped = sixteen; code = tt; numbers = all }

calls : (todo : List Stage) (rest : List ℕ) → IsTodo todo → IsRest todo rest → AreArguments todo → AreWords rest → IsGoodMode (Calling todo rest)
calls todo rest is is_rest values all = record { shaped = (is, is_rest); code = tt; numbers = (values, all) }

less-word : (n k : ℕ) → IsWord n → IsWord (n - k)
less-word n k word = let below = word-below n word in below-word (n - k) (omega (arith, below))

values-shifted : (k : ℕ) (stage : Stage) (todo : List Stage) (rest : List ℕ) → has_way k (Calling (stage ∷ todo) rest) ≡ true →
    AreValues (arguments stage) → AreValues (arguments (shifted k stage))
values-shifted k (ClientSend address count) todo rest way values = (way, (less-word count k values.1.0, tt))
values-shifted k (ClientReceive address count) todo rest way values = (way, (less-word count k values.1.0, tt))
values-shifted k (ServerSend address count) todo rest way values = (way, (less-word count k values.1.0, tt))
values-shifted k (ServerReceive address count) todo rest way values = (way, (less-word count k values.1.0, tt))
values-shifted k (ClientReceiveRef address count reference) todo rest way values = (way, (less-word count k values.1.0, (values.1.1.0, tt)))
values-shifted k (ServerReceiveRef address count reference) todo rest way values = (way, (less-word count k values.1.0, (values.1.1.0, tt)))
values-shifted k stage todo rest way values = values

good-shifted : (k : ℕ) (m : Mode) → has_way k m ≡ true → IsGoodMode m → IsGoodMode (shifted_in k m)
good-shifted k (Calling (stage ∷ todo) rest) way good =
    calls (shifted k stage ∷ todo) rest ((has_rest (stage ∷ todo) good.shaped.0).shift k) (rest-shifted k stage todo rest good.shaped.1)
    (values-shifted k stage todo rest way good.numbers.0.0, good.numbers.0.1) good.numbers.1
good-shifted k (Calling [] rest) way good = good
good-shifted k (Running g) way good = good
good-shifted k m way good = good

good-ended : (status : ℕ) (answers : List ℕ) (t : Thread) (m : Mode) → IsWord status → AreWords answers → IsGoodMode m → IsGoodMode t.mode →
    IsGoodMode (ended_in status answers t m).mode
good-ended status answers t (Calling todo rest) word some good its =
    runs _ (length-with_answers answers _ ∙ length-set (words todo rest) 0 status ∙ words_keep_length_lem todo rest ∙ good.shaped.1.sixteen)
    (words-answered answers _ some (words-set (words todo rest) 0 status (words-called todo rest good.shaped.0 good.numbers.0 good.numbers.1) word))
good-ended status answers t m word some good its = its

-- the answers of a stage have room
abbrev Fits : List ℕ → Mode → Type 0
Fits [] m = Unit {0}
Fits (answer ∷ answers) m = leaves_room (length (answer ∷ answers)) m ≡ true

good-next : (answers : List ℕ) (t : Thread) (stage next : Stage) (todo : List Stage) (rest : List ℕ) → Fits answers (Calling (stage ∷ next ∷ todo) rest) →
    AreWords answers → IsGoodMode (Calling (stage ∷ next ∷ todo) rest) → IsGoodMode (finished_in answers t (Calling (stage ∷ next ∷ todo) rest)).mode
good-next [] t stage next todo rest fits some good =
    calls (next ∷ todo) _ (has_rest (stage ∷ next ∷ todo) good.shaped.0).tail (rest-left stage (next ∷ todo) rest good.shaped.1.sixteen)
    good.numbers.0.1 (words-left stage (next ∷ todo) rest good.numbers.0.0 good.numbers.1)
good-next (answer ∷ answers) t stage next todo rest fits some good = by next todo refl refl (and_parts _ _ fits) good.numbers.0.1 all
  where
    tail : IsTodo (next ∷ todo)
    tail = (has_rest (stage ∷ next ∷ todo) good.shaped.0).tail

    all : AreWords (with_answers (answer ∷ answers) (left_by stage (next ∷ todo) rest))
    all = words-answered (answer ∷ answers) (left_by stage (next ∷ todo) rest) some (words-left stage (next ∷ todo) rest good.numbers.0.0 good.numbers.1)

    by : (n : Stage) (more : List Stage) → n ≡ next → more ≡ todo →
        (nat_le (length (answer ∷ answers)) 2 ≡ true) × (is_last_receive (n ∷ more) ≡ true) → AreArguments (n ∷ more) →
        AreWords (with_answers (answer ∷ answers) (left_by stage (n ∷ more) rest)) →
        IsGoodMode (finished_in (answer ∷ answers) t (Calling (stage ∷ next ∷ todo) rest)).mode
    by (ServerReceive into room) [] first others both values all = rw (← first, ← others)
        (calls (ServerReceive into room ∷ []) _ (rw (first, others) tail)
        (rest-answered (answer ∷ answers) (leb-true _ 2 both.0) stage into room rest good.shaped.1.sixteen)
        values all)
    by n (second ∷ more) first others both values all = cc
    by n [] first others both values all = let no = both.1 in cc

good-finished : (answers : List ℕ) (t : Thread) (m : Mode) → Fits answers m → AreWords answers → IsGoodMode m → IsGoodMode t.mode →
    IsGoodMode (finished_in answers t m).mode
good-finished answers t (Calling (stage ∷ next ∷ todo) rest) fits some good its = good-next answers t stage next todo rest fits some good
good-finished answers t (Calling (stage ∷ []) rest) fits some good its = good-ended 0 answers t (Calling (stage ∷ []) rest) refl some good its
good-finished answers t (Calling [] rest) fits some good its = good-ended 0 answers t (Calling [] rest) refl some good its
good-finished answers t m fits some good its = its

good-replaced : (stage : Stage) (m : Mode) → is_single m ≡ true → IsTodo (stage ∷ []) → AreArguments (stage ∷ []) → IsGoodMode m →
    IsGoodMode (replaced_in stage m)
good-replaced stage (Calling (old ∷ next ∷ todo) rest) single is values good = cc
good-replaced stage (Calling (old ∷ []) rest) single is values good =
    calls (stage ∷ []) _ is (rest-left old (stage ∷ []) rest good.shaped.1.sixteen) values (words-left old (stage ∷ []) rest good.numbers.0.0 good.numbers.1)
good-replaced stage (Calling [] rest) single is values good = good
good-replaced stage m single is values good = good

-- ---- a body

mode-of : (t : Thread) → IsTidyThread t → IsGoodMode t.mode
mode-of t tidy = record { shaped = tidy.shaped; code = tidy.code; numbers = tidy.numbers }

-- the mode may differ, and the counter if it stays a word
record IsAtOther (t u : Thread) : Type 0 where
  stops : u.stops ≡ t.stops
  counter : IsWord t.counter → IsWord u.counter
  talk : u.talk ≡ t.talk
  fault : u.fault ≡ t.fault

tidy-mode : (t u : Thread) → IsTidyThread t → IsAtOther t u → IsGoodMode u.mode → IsTidyThread u
tidy-mode t u tidy other good = record {
  shaped = good.shaped;
  stops = rw other.stops tidy.stops;
  code = good.code;
  numbers = good.numbers;
  counter = other.counter tidy.counter;
  moved = rw other.talk tidy.moved;
  missing = rw other.fault tidy.missing;
}

-- what a kept edit asks of a thread that is there
abbrev IsKeptHere : Edit → Thread → Type 0
IsKeptHere (Proceed mode counter) t = IsGoodMode mode × IsWord counter
IsKeptHere (Shift count) t = has_way count t.mode ≡ true
IsKeptHere (Finish answers) t = Fits answers t.mode × AreWords answers
IsKeptHere (End status answers) t = IsWord status × AreWords answers
IsKeptHere (Replace stage) t = (is_single t.mode ≡ true) × IsTodo (stage ∷ []) × AreArguments (stage ∷ [])
IsKeptHere (SetStops stops) t = stops ≤ MOST_STOPS
IsKeptHere (SetTalk talk) t = IsFewMoved talk
IsKeptHere (SetFault fault) t = IsOnPage fault
IsKeptHere edit t = Unit {0}

fits-here : (answers : List ℕ) (o : Option Body) (t : Thread) → and_then thread_of o ≡ Some t → FitsAnswers answers o → Fits answers t.mode
fits-here [] o t there fits = tt
fits-here (answer ∷ answers) o t there fits = rw there at fits

kept-here : (v : World) (x : Path) (edit : Edit) (t : Thread) → and_then thread_of (v.body x) ≡ Some t → IsKeptEdit v x edit → IsKeptHere edit t
kept-here v x (Proceed mode counter) t there kept = (record { shaped = kept.0.shaped; code = kept.0.code; numbers = kept.0.numbers }, kept.1)
kept-here v x (Shift count) t there kept = rw there at kept
kept-here v x (Finish answers) t there kept = (fits-here answers (v.body x) t there kept.0, kept.1)
kept-here v x (End status answers) t there kept = kept
kept-here v x (Replace stage) t there kept = ((let single = kept.0 in rw there at single), kept.1, kept.2)
kept-here v x (SetStops stops) t there kept = kept
kept-here v x (SetTalk None) t there kept = tt
kept-here v x (SetTalk (Some talk)) t there kept = kept.1
kept-here v x (SetFault None) t there kept = tt
kept-here v x (SetFault (Some fault)) t there kept = kept.1
kept-here v x (SetLocked locked) t there kept = tt
kept-here v x edit t there kept = tt

next-word : (counter : ℕ) → IsWord (instructions.next counter)
next-word counter = below-word ((counter + 1) % 2 ^ 64) (mod-lt (counter + 1) (omega arith))

same-other : (t : Thread) (mode : Mode) → IsAtOther t (record t { mode = mode })
same-other t mode = record { stops = refl; counter = λ word. word; talk = refl; fault = refl }

other-ended : (status : ℕ) (answers : List ℕ) (t : Thread) (m : Mode) → IsAtOther t (ended_in status answers t m)
other-ended status answers t (Calling todo rest) = record { stops = refl; counter = λ word. next-word t.counter; talk = refl; fault = refl }
other-ended status answers t m = record { stops = refl; counter = λ word. word; talk = refl; fault = refl }

other-finished : (answers : List ℕ) (t : Thread) (m : Mode) → IsAtOther t (finished_in answers t m)
other-finished answers t (Calling (stage ∷ next ∷ todo) rest) = record { stops = refl; counter = λ word. word; talk = refl; fault = refl }
other-finished answers t (Calling (stage ∷ []) rest) = other-ended 0 answers t (Calling (stage ∷ []) rest)
other-finished answers t (Calling [] rest) = other-ended 0 answers t (Calling [] rest)
other-finished answers t m = record { stops = refl; counter = λ word. word; talk = refl; fault = refl }

-- ---- talks and faults

few-mapped : (f : Talk → Talk) → ((talk : Talk) → talk.moved ≤ MOST_MOVED → (f talk).moved ≤ MOST_MOVED) → (o : Option Talk) → IsFewMoved o →
    IsFewMoved (option_map f o)
few-mapped f few None h = tt
few-mapped f few (Some talk) h = few talk h

page-kept : (taker : Option Peer) (o : Option Fault) → IsOnPage o → IsOnPage (option_map (λ (fault : Fault). record fault { taker = taker }) o)
page-kept taker None h = tt
page-kept taker (Some fault) h = h

with-talk : (t : Thread) (talk : Option Talk) → IsTidyThread t → IsFewMoved talk → IsTidyThread (record t { talk = talk })
with-talk t talk tidy few = record {
  shaped = tidy.shaped;
  stops = tidy.stops;
  code = tidy.code;
  numbers = tidy.numbers;
  counter = tidy.counter;
  moved = few;
  missing = tidy.missing;
}

with-fault : (t : Thread) (fault : Option Fault) → IsTidyThread t → IsOnPage fault → IsTidyThread (record t { fault = fault })
with-fault t fault tidy on = record {
  shaped = tidy.shaped;
  stops = tidy.stops;
  code = tidy.code;
  numbers = tidy.numbers;
  counter = tidy.counter;
  moved = tidy.moved;
  missing = on;
}

thread-tidy : (edit : Edit) (t : Thread) → IsKeptHere edit t → IsTidyThread t → IsTidy (edited edit (Thread_of t))
unfolding edited
thread-tidy (Proceed mode counter) t kept tidy = tidy-mode t _ tidy (record { stops = refl; counter = λ word. kept.1; talk = refl; fault = refl }) kept.0
thread-tidy (Shift count) t kept tidy = tidy-mode t _ tidy (same-other t _) (good-shifted count t.mode kept (mode-of t tidy))
thread-tidy (Finish answers) t kept tidy =
    tidy-mode t _ tidy (other-finished answers t t.mode) (good-finished answers t t.mode kept.0 kept.1 (mode-of t tidy) (mode-of t tidy))
thread-tidy (End status answers) t kept tidy =
    tidy-mode t _ tidy (other-ended status answers t t.mode) (good-ended status answers t t.mode kept.0 kept.1 (mode-of t tidy) (mode-of t tidy))
thread-tidy (Replace stage) t kept tidy = tidy-mode t _ tidy (same-other t _) (good-replaced stage t.mode kept.0 kept.1 kept.2 (mode-of t tidy))
thread-tidy (SetStops stops) t kept tidy = record {
  shaped = tidy.shaped;
  stops = kept;
  code = tidy.code;
  numbers = tidy.numbers;
  counter = tidy.counter;
  moved = tidy.moved;
  missing = tidy.missing;
}
thread-tidy (SetTalk talk) t kept tidy = with-talk t talk tidy kept
thread-tidy (CountMoved count) t kept tidy =
    with-talk t _ tidy (few-mapped (λ talk. record talk { moved = min MOST_MOVED (talk.moved + count) })
    (λ talk few. min-le_left MOST_MOVED (talk.moved + count))
    t.talk tidy.moved)
thread-tidy (PassTurn turn) t kept tidy =
    with-talk t _ tidy (few-mapped (λ talk. record talk { turn = turn; moved = 0 }) (λ talk few. omega arith) t.talk tidy.moved)
thread-tidy (SetPeer peer) t kept tidy = with-talk t _ tidy (few-mapped (λ talk. record talk { peer = peer }) (λ talk few. few) t.talk tidy.moved)
thread-tidy (SetFault fault) t kept tidy = with-fault t fault tidy kept
thread-tidy (SetTaker taker) t kept tidy = with-fault t _ tidy (page-kept taker t.fault tidy.missing)
thread-tidy (SetLocked locked) t kept tidy = tidy
thread-tidy edit t kept tidy = tidy

no_thread : (b : Body) → (kind_of b ≡ kinds.Thread → ⊥) → IsTidy b
no_thread (Thread_of t) other = absurd (other refl)
no_thread (Mutex locked) other = tt
no_thread b other = tt

edited-tidy : (v : World) (x : Path) (edit : Edit) (b : Body) → v.body x ≡ Some b → IsKeptEdit v x edit → IsTidy b → IsTidy (edited edit b)
edited-tidy v x edit (Thread_of t) there kept tidy = thread-tidy edit t (kept-here v x edit t (rw there refl) kept) tidy
edited-tidy v x edit (Mutex locked) there kept tidy = no_thread _ (λ e. let k = same_kind edit (Mutex locked) in cc)
edited-tidy v x edit Cond there kept tidy = no_thread _ (λ e. let k = same_kind edit Cond in cc)
edited-tidy v x edit (Mapping m) there kept tidy = no_thread _ (λ e. let k = same_kind edit (Mapping m) in cc)
edited-tidy v x edit (Region r) there kept tidy = no_thread _ (λ e. let k = same_kind edit (Region r) in cc)
edited-tidy v x edit (Port set served) there kept tidy = no_thread _ (λ e. let k = same_kind edit (Port set served) in cc)
edited-tidy v x edit Portset there kept tidy = no_thread _ (λ e. let k = same_kind edit Portset in cc)
edited-tidy v x edit (Space birth holder) there kept tidy = no_thread _ (λ e. let k = same_kind edit (Space birth holder) in cc)
edited-tidy v x edit (Reference to) there kept tidy = no_thread _ (λ e. let k = same_kind edit (Reference to) in cc)

-- it makes no number of a talk or of a fault greater
record IsMild (f : Sweep) : Type 0 where
  talk : (talk : Talk) → talk.moved ≤ MOST_MOVED → IsFewMoved (f.talk talk)
  fault : (fault : Fault) → IsOnPage (Some fault) → IsOnPage (f.fault fault)

mild-death : (x : Path) → IsMild (death_sweep x)
mild-death x = record {
  talk = λ talk few. talked (leads_to x talk.port || serves x talk.peer) talk few;
  fault = λ fault on. faulted (leads_to x fault.port) fault _ on;
}
  where
    talked : (t : Bool) (talk : Talk) → talk.moved ≤ MOST_MOVED → IsFewMoved (if t then None else Some talk)
    talked true talk few = tt
    talked false talk few = few

    faulted : (t : Bool) (fault : Fault) (taker : Option Peer) → IsOnPage (Some fault) → IsOnPage (if t then None else Some (record fault { taker = taker }))
    faulted true fault taker on = tt
    faulted false fault taker on = on

mild-following : (x y : Path) → IsMild (following x y)
mild-following x y = record { talk = λ talk few. few; fault = λ fault on. on }

swept-tidy : (f : Sweep) → IsMild f → (q : Path) (b : Body) → IsTidy b → IsTidy (through f q b)
swept-tidy f mild q (Thread_of t) tidy = record {
  shaped = tidy.shaped;
  stops = tidy.stops;
  code = tidy.code;
  numbers = tidy.numbers;
  counter = tidy.counter;
  moved = talked t.talk tidy.moved;
  missing = faulted t.fault tidy.missing;
}
  where
    talked : (o : Option Talk) → IsFewMoved o → IsFewMoved (and_then f.talk o)
    talked None few = tt
    talked (Some talk) few = mild.talk talk few

    faulted : (o : Option Fault) → IsOnPage o → IsOnPage (and_then f.fault o)
    faulted None on = tt
    faulted (Some fault) on = mild.fault fault on
swept-tidy f mild q (Mutex locked) tidy = tt
swept-tidy f mild q b tidy = tt

-- ---- a world

abbrev pub AllTidy : World → Type 0
AllTidy v = (x : Path) (b : Body) → v.body x ≡ Some b → IsTidy b

pub all-tidy : (w : World) → AreTidy w → AllTidy w
all-tidy w tidy x (Thread_of t) there = tidy x t (rw there refl)
all-tidy w tidy x (Mutex locked) there = tt
all-tidy w tidy x b there = tt

pub are-tidy : (w : World) → AllTidy w → AreTidy w
are-tidy w all x t there = by (w.body x) refl there
  where
    by : (o : Option Body) → w.body x ≡ o → and_then thread_of o ≡ Some t → IsTidyThread t
    by (Some (Thread_of u)) e h = let same : u ≡ t = cc in rw (← same) (all x (Thread_of u) e)
    by (Some (Mutex locked)) e h = cc
    by (Some Cond) e h = cc
    by (Some (Mapping m)) e h = cc
    by (Some (Region r)) e h = cc
    by (Some (Port set served)) e h = cc
    by (Some Portset) e h = cc
    by (Some (Space birth holder)) e h = cc
    by (Some (Reference to)) e h = cc
    by None e h = cc

mapped : (f : Body → Body) (o : Option Body) (c : Body) → ((b : Body) → o ≡ Some b → IsTidy (f b)) → option_map f o ≡ Some c → IsTidy c
mapped f None c all h = cc
mapped f (Some b) c all h = let same : f b ≡ c = cc in rw (← same) (all b refl)

module _ (v : World) (all : AllTidy v) where
  altered : (x y : Path) (edit : Edit) (b : Body) → IsKeptEdit v x edit → (apply (Alter x edit) v).body y ≡ Some b → IsTidy b
  unfolding apply
  altered x y edit b kept = by (same_path y x) refl
    where
      by : (t : Bool) → same_path y x ≡ t → (if t then option_map (edited edit) (v.body y) else v.body y) ≡ Some b → IsTidy b
      by true e h = let here = same_path_eq y x e in
          mapped (edited edit) (v.body y) b (λ b there. edited-tidy v y edit b there (rw (← here) at kept) (all y b there)) h
      by false e h = all y b h

  made : (t : Bool) (y : Path) (new b : Body) → IsTidy new → (if t then Some new else v.body y) ≡ Some b → IsTidy b
  made true y new b tidy h = let same : new ≡ b = cc in rw (← same) tidy
  made false y new b tidy h = all y b h

  swept : (f : Sweep) → IsMild f → (y at_y : Path) (b : Body) → option_map (through f at_y) (v.body y) ≡ Some b → IsTidy b
  swept f mild y at_y b h = mapped (through f at_y) (v.body y) b (λ b there. swept-tidy f mild at_y b (all y b there)) h

  killed : (t : Bool) (f : Sweep) → IsMild f → (y : Path) (b : Body) → (if t then None else option_map (through f y) (v.body y)) ≡ Some b → IsTidy b
  killed true f mild y b h = cc
  killed false f mild y b h = swept f mild y y b h

  renamed : (t : Bool) (f : Sweep) → IsMild f → (x y z : Path) (b : Body) → (r : Bool) →
      (if t then option_map (through f z) (v.body x) else (if r then None else option_map (through f y) (v.body y))) ≡ Some b → IsTidy b
  renamed true f mild x y z b r h = swept f mild x z b h
  renamed false f mild x y z b r h = killed r f mild y b h

  pub tidy-apply : (c : Change) → IsKept v c → AllTidy (apply c v)
  unfolding apply
  tidy-apply (Alter x edit) kept y b = altered x y edit b kept
  tidy-apply (Make x body) kept y b = made (same_path y x) y body b kept.1
  tidy-apply (MakeSpace x holder) kept y b = made (same_path y x) y (Space v.next holder) b tt
  tidy-apply (Kill x) kept y b = killed (same_path y x) (death_sweep x) (mild-death x) y b
  tidy-apply (Move x slot) kept y b = renamed (same_path y (slot ∷ parent x)) (following x (slot ∷ parent x)) (mild-following x (slot ∷ parent x))
      x y (slot ∷ parent x) b (same_path y x)
  tidy-apply (PutPage space page words) kept y b = all y b
  tidy-apply (DropPage space page) kept y b = all y b
