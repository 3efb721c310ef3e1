-- Whatever is listed sets no porter's mode: by the lists of `rows`; and a stage that gives a page puts nothing anywhere.
use Rattle.std.proofs.Common.{◌≡◌, ℕ, true, false, List, [], ◌∷◌, ◌++◌, map, Option, Some, None, refl}
use Rattle.std.proofs.lemmas.Bool.{or_parts}
use Rattle.fk_model.specs.declared.moves.Ask.{Ask}
use Rattle.fk_model.specs.declared.names.Kind.TheVariants as kinds
use Rattle.fk_model.specs.declared.stage.Stage.{Stage}
use Rattle.fk_model.specs.Places.{Path, parent, slot_of}
use Rattle.fk_model.specs.Objects.{Body, holds}
use Rattle.fk_model.specs.Objects.Body.{Mutex, Mapping, Region, Port, Thread_of}
use Rattle.fk_model.specs.World.{World, Change, Edit}
use Rattle.fk_model.specs.World.Change.{Alter}
use Rattle.fk_model.specs.World.Edit.{Proceed, SetTalk}
use Rattle.fk_model.specs.Searches.{thread_at}
use Rattle.fk_model.specs.Holds.{is_porter}
use Rattle.fk_model.specs.Outcomes.{Outcome, Caller, listed}
use Rattle.fk_model.specs.Talks.{ends_beyond}
use Rattle.fk_model.specs.Records.{set_edits, record_registers, word}
use Rattle.fk_model.specs.StateRows.{is_native}
use Rattle.fk_model.specs.Moves.{outcome}
use Rattle.fk_model.specs.Valid.{kind_there}
use Rattle.laws_moves.proofs.InMachine.safety.Reads.{object-there}
use Rattle.laws_moves.specs.Rows.Stages.{Sets, Work, Step}
use Rattle.laws_moves.specs.Rows.Stages.Sets.{Locks}
use Rattle.laws_moves.specs.Rows.Stages.Work.{Looks, Edits, Makes, Makes_held, Kills, Renames, Sets_record, Copies, Sleeps, Wakes_all}
use Rattle.laws_moves.specs.Rows.Stages.Work.{Takes_client, Hangs_up, Sends, Sends_service, Passes, Hands_over, Hands_over}
use Rattle.laws_moves.specs.Rows.Stages.Step.{Is_refused, Is_waiting, Raises, Answers, Stays, Finishes, Ends}
use Rattle.laws_moves.specs.Rows.Moves.{Instructs, Serves, Lists}
use Rattle.laws_moves.specs.Rows.Moves.Instructs.{Goes_on, Stores, Faults}
use Rattle.laws_moves.specs.Rows.Moves.Serves.{Waits_for_client, Accepts, Takes_up, Gives_nothing, Finds_no_room, Gives_words, Passes_client}
use Rattle.laws_moves.specs.Rows.Moves.Lists.{Moves_not, Runs, Calls, Is_told_no, Asks, Is_answered_no, Acts}
use Rattle.laws_moves.proofs.InRows.Walk.{new_all, drops-all, ends-all, ends-then, sleepers-all}
use Rattle.laws_moves.proofs.InRows.Moves.{moves-listed}
use Rattle.laws_moves.proofs.InFrozen.Users.{record_mode, goes_to, native-off}
use Rattle.laws_moves.specs.Users.Stood.{gives, is_giving, put, puts, GivesPutNothing}

-- the mode of no porter is set, and nobody becomes one
abbrev pub IsPlainEdit : World → Path → Edit → Type 0
IsPlainEdit w x (Proceed mode counter) = (holds is_native (w.body x) ≡ false) × (is_porter mode ≡ false)
IsPlainEdit w x other = Unit {0}

abbrev pub IsPlain : World → Change → Type 0
IsPlain w (Alter x edit) = IsPlainEdit w x edit
IsPlain w other = Unit {0}

abbrev pub ArePlain : World → List Change → Type 0
ArePlain w [] = Unit {0}
ArePlain w (c ∷ cs) = IsPlain w c × ArePlain w cs

plain-then : (w : World) (cs ds : List Change) → ArePlain w cs → ArePlain w ds → ArePlain w (cs ++ ds)
plain-then w [] ds plain after = after
plain-then w (c ∷ cs) ds plain after = (plain.0, plain-then w cs ds plain.1 after)

edits-plain : (w : World) (x : Path) (b : Body) (words : List ℕ) → w.body x ≡ Some b → is_native b ≡ false → ArePlain w (map (Alter x) (set_edits b words))
edits-plain w x (Mutex locked) words there off = (tt, tt)
edits-plain w x (Mapping m) words there off = (tt, tt)
edits-plain w x (Region r) words there off = (tt, tt)
edits-plain w x (Port set served) words there off = (tt, tt)
edits-plain w x (Thread_of t) words there off = ((rw there off, record_mode (word words 18) (record_registers words) (word words 19)), (tt, tt))
edits-plain w x b words there off = tt

module _ (w : World) (c : Caller) (pick : Option Path) where
  sets : {stage : Stage} {x : Path} {edit : Edit} {answers : List ℕ} → Sets w c pick stage x edit answers → IsPlainEdit w x edit
  sets (Locks stage m was locked read) = tt
  sets other = tt

  work : {stage : Stage} {cs : List Change} {answers : List ℕ} → Work w c pick stage cs answers → ArePlain w cs
  work (Looks stage answers reads) = tt
  work (Edits stage x edit answers edits) = (sets edits, tt)
  work (Makes s x j kind space made place slot free new empty) =
      new_all (λ made. ArePlain w (made ∷ [])) (x ∷ space) kind made new
      (tt, tt) (tt, tt) (tt, tt) (tt, tt) (tt, tt) (tt, tt) (tt, tt) (tt, tt) (tt, tt)
  work (Kills s x space b place read free apart leaf) = (tt, ends-all (ArePlain w) tt (λ y cs rest. (tt, rest)) _)
  work (Sets_record s x address space b words place read free none good from still takes) =
      edits-plain w (x ∷ space) b words (object-there w c x space b read) none
  work (Copies stage s page address space t own drops words place there home) = (tt, drops-all (ArePlain w) space page tt (tt, tt) drops)
  work (Wakes_all at) = sleepers-all (ArePlain w) w c.space at tt (λ x m cs asleep rest. (tt, rest))
  work (Takes_client set slot x idle at) = (tt, (tt, tt))
  work (Hangs_up stage side l at) = ends-then (ArePlain w) (Alter l.client (SetTalk None) ∷ []) (tt, tt) (λ y cs rest. (tt, rest)) _
  work (Sends stage side l address count receive thread e s own t other here at led free is home theirs) = (tt, (tt, (tt, (tt, tt))))
  work (Sleeps at m) = (tt, (tt, tt))
  work (Sends_service stage side l address count here at) = (tt, (tt, tt))
  work (Passes stage side l thread e to carried here at led free awaits) = (tt, (tt, tt))
  work (Hands_over stage side l thread e k reference p here at led free awaits there read may) = (tt, (tt, (tt, tt)))
  work other = (tt, tt)

  step : {stage : Stage} {o : Outcome} → Step w c pick stage o → ArePlain w (listed o)
  step (Is_refused status) = tt
  step Is_waiting = tt
  step (Raises s page address write port missing) = (tt, tt)
  step (Answers cs answers porter its) = work its
  step (Stays cs said its) = work its
  step (Finishes cs answers me said user own its) = plain-then w cs _ (work its) (tt, tt)
  step (Ends cs answers user its) = plain-then w cs _ (work its) (tt, tt)

instructs : (w : World) (space : Path) (slot : ℕ) (g : List ℕ) (counter : ℕ) {o : Outcome} → holds is_native (w.body (slot ∷ space)) ≡ false →
    Instructs w space slot g counter o → ArePlain w (listed o)
instructs w space slot g counter user (Goes_on mode after to) = ((user, goes_to to), tt)
instructs w space slot g counter user (Stores address value s page home) = (tt, ((user, refl), tt))
instructs w space slot g counter user (Faults s page address write port missing) = (tt, tt)

serves : {w : World} {port : Path} {pick : Option Path} {ask : Ask} {o : Outcome} → Serves w port pick ask o → ArePlain w (listed o)
serves (Waits_for_client ask) = tt
serves (Accepts x t service there free at) = (tt, (tt, tt))
serves (Takes_up x t talk service there free at) = (tt, tt)
serves (Gives_nothing words len) = tt
serves (Finds_no_room words len x t receive there is full) = (tt, tt)
serves (Gives_words words len x t receive s page there is home) = (tt, (tt, (tt, tt)))
serves (Passes_client x to at awaits) = (tt, (tt, tt))

lists : (w : World) (x : Path) (pick : Option Path) (ask : Ask) (o : Outcome) → kind_there w [] ≡ Some kinds.Space → Lists w x pick ask o →
    ArePlain w (listed o)
lists w x pick _ _ root (Moves_not ask) = tt
lists w x pick _ _ root (Runs t g o there free at by) = instructs w (parent x) (slot_of x) g t.counter (native-off w x t g root there at) by
lists w x pick _ _ root (Calls t stage todo rest cs said there free at user by) = step w _ pick by
lists w x pick _ _ root (Is_told_no t stage todo rest status there free at) = (tt, tt)
lists w x pick _ _ root (Asks t stage words cs said there unheld porter by) = step w _ pick by
lists w x pick _ _ root (Is_answered_no t stage words status there) = tt
lists w x pick _ _ root (Acts ask o by) = serves by

pub moves-plain : (w : World) (x : Path) (pick : Option Path) (ask : Ask) → kind_there w [] ≡ Some kinds.Space → ArePlain w (listed (outcome w x pick ask))
moves-plain w x pick ask root = lists w x pick ask _ root (moves-listed w x pick ask)

-- ---- who gives a page

module _ (w : World) (c : Caller) (pick : Option Path) (q : Path) where
  puts-work : {stage : Stage} {cs : List Change} {answers : List ℕ} → is_giving stage ≡ true → Work w c pick stage cs answers → put cs q ≡ false
  puts-work is (Edits stage x edit answers edits) = refl
  puts-work is (Makes s x j kind space made place slot free new empty) = cc
  puts-work is (Makes_held x j slot empty) = cc
  puts-work is (Kills s x space b place read free apart leaf) = cc
  puts-work is (Renames s x y space b place read free low apart empty residents) = cc
  puts-work is (Sets_record s x address space b words place read free none good from still takes) = cc
  puts-work is (Copies stage s page address space t own true words place there home) = refl
  puts-work is (Copies stage s page address space t own false words place there home) = refl
  puts-work is (Wakes_all at) = cc
  puts-work is (Hangs_up stage side l at) =
      ends-then (λ cs. put cs q ≡ false) (Alter l.client (SetTalk None) ∷ []) refl (λ y cs rest. rest) (ends_beyond w side l)
  puts-work is other = refl

  puts-then : (cs : List Change) (x : Path) (edit : Edit) → put cs q ≡ false → put (cs ++ Alter x edit ∷ []) q ≡ false
  puts-then [] x edit off = refl
  puts-then (c ∷ cs) x edit off =
      let both = or_parts (puts c q) (put cs q) off in let rest = puts-then cs x edit both.1 in rw (both.0, rest) refl

  puts-step : {stage : Stage} {o : Outcome} → is_giving stage ≡ true → Step w c pick stage o → put (listed o) q ≡ false
  puts-step is (Is_refused status) = refl
  puts-step is Is_waiting = refl
  puts-step is (Raises s page address write port missing) = refl
  puts-step is (Answers cs answers porter its) = puts-work is its
  puts-step is (Stays cs said its) = puts-work is its
  puts-step is (Finishes cs answers me said user own its) = puts-then cs _ _ (puts-work is its)
  puts-step is (Ends cs answers user its) = puts-then cs _ _ (puts-work is its)

puts-serves : (w : World) (port : Path) (pick : Option Path) (ask : Ask) (o : Outcome) (q : Path) → gives ask (thread_at w port) ≡ true →
    Serves w port pick ask o → put (listed o) q ≡ false
puts-serves w port pick _ _ q is (Waits_for_client ask) = refl
puts-serves w port pick _ _ q is other = cc

puts-lists : (w : World) (x : Path) (pick : Option Path) (ask : Ask) (o : Outcome) (q : Path) → gives ask (thread_at w x) ≡ true → Lists w x pick ask o →
    put (listed o) q ≡ false
puts-lists w x pick _ _ q is (Moves_not ask) = refl
puts-lists w x pick _ _ q is (Runs t g o there free at by) = absurd (let h = rw (there, at) at is in cc)
puts-lists w x pick _ _ q is (Calls t stage todo rest cs said there free at user by) = puts-step w _ pick q (rw (there, at) at is) by
puts-lists w x pick _ _ q is (Is_told_no t stage todo rest status there free at) = refl
puts-lists w x pick _ _ q is (Asks t stage words cs said there unheld porter by) = puts-step w _ pick q is by
puts-lists w x pick _ _ q is (Is_answered_no t stage words status there) = refl
puts-lists w x pick _ _ q is (Acts ask o by) = puts-serves w x pick ask o q is by

pub gives_put_nothing : GivesPutNothing
gives_put_nothing w x pick ask q is = puts-lists w x pick ask _ q is (moves-listed w x pick ask)
