-- Moved: what a move must leave, and what is done after it.
use Rattle.std.specs.Prelude.{◌≡◌, ◌≤◌, Bool, true, false, ◌||◌, [], Option, if◌then◌else◌, ⊤}
use Rattle.fk_model.specs.declared.names.Who.{Who}
use Rattle.fk_model.specs.Objects.{holds}
use Rattle.fk_store.specs.Store.Contents.{Contents}
use Rattle.fk_store.specs.Store.Names.{at}
use Rattle.fk_store.specs.Store.Paths.{path}
use Rattle.fk_store.specs.Store.World.{world, place_of}
use Rattle.fk_waits.specs.Turns.Turns.{all_marks, loud_cause, waits_at, AreMet, IsFreed, IsLess}
use Rattle.fk_waits.specs.Waits.Lists.{is_in, is_queued, stands, Lists}
use Rattle.fk_waits.specs.Causes.Names.{is_same}
use Rattle.fk_plans.specs.declared.wakes.touching.Touched.{Touched}
use Rattle.fk_plans.specs.declared.wakes.touching.Touched.TheVariants.{Any, Dies, Few, Makes, Moves}
use Rattle.fk_turns.specs.declared.whys.whys.Why.{Why}
use Rattle.fk_turns.specs.declared.whys.whys.Why.TheVariants as whys
use Rattle.fk_turns.specs.Whys.Whys.{IsWhy}
use Rattle.fk_turns.specs.Moved.Kept.{is_user_at}

-- ---- what is told of a move

abbrev pub is_it : Option Who → Who → Bool
is_it name who = holds (λ (other : Who). is_same other who) name

-- a name is told as touched
abbrev pub is_named : Touched → Who → Bool
is_named (Few first second third) who = is_it first who || (is_it second who || is_it third who)
is_named (Makes object) who = is_same object who
is_named Any who = false
is_named (Dies object) who = is_same object who
is_named (Moves object slot) who = is_same object who || is_same (at object.space slot) who

-- or it is the mover's
abbrev pub is_told : Who → Touched → Who → Bool
is_told mover touched who = is_same mover who || is_named touched who

-- others may be touched that aren't told
abbrev pub is_wide : Touched → Bool
is_wide (Few first second third) = false
is_wide (Makes object) = false
is_wide other = true

-- something comes to stand there
abbrev pub is_put : Touched → Who → Bool
is_put (Makes object) who = is_same object who
is_put (Moves object slot) who = is_same (at object.space slot) who
is_put other who = false

-- the name of who moved, after the move
abbrev pub now_named : Who → Touched → Who
now_named mover (Moves object slot) = if is_same object mover then at object.space slot else mover
now_named mover other = mover

-- ---- what a move leaves

-- what a reason reads besides the thread isn't told
abbrev pub IsAside : Who → Touched → Why → Type 0
IsAside mover touched whys.Still = ⊤
IsAside mover touched (whys.At key) = is_told mover touched key ≡ false
IsAside mover touched whys.Loud = ⊥
IsAside mover touched whys.Barred = ⊥

-- what gets another slot was a user's thread where it is one there, and leaves its own
abbrev pub IsLeft : Contents → Contents → Touched → Type 0
IsLeft m n (Moves object slot) = (is_user_at n (at object.space slot) ≡ true → is_user_at m object ≡ true) × (is_user_at n object ≡ false)
IsLeft m n other = ⊤

-- a move from one store's contents to another's touches no more than is told
pub record IsMoved (m n : Contents) (mover : Who) (touched : Touched) : Type 0 where
  pub users : (who : Who) → is_told mover touched who ≡ false → is_user_at n who ≡ is_user_at m who
  pub grown : (who : Who) → is_user_at n who ≡ true → is_put touched who ≡ false → is_user_at m who ≡ true
  pub left : IsLeft m n touched
  pub stays : is_wide touched ≡ false → (who : Who) (why : Why) → is_told mover touched who ≡ false → IsAside mover touched why →
      is_user_at m who ≡ true → IsWhy (world m) (path m) (place_of m who) why → IsWhy (world n) (path n) (place_of n who) why

-- ---- what is done

-- a user's thread that stood nowhere has room
abbrev pub HasPlace : Contents → Lists → Lists → Who → Type 0
HasPlace n waits marks who = is_user_at n who ≡ true → stands who waits ≡ false → (1 ≤ waits.spare) × (1 ≤ marks.spare)

abbrev pub HasPlaceFor : Contents → Lists → Lists → Touched → Type 0
HasPlaceFor n waits marks (Makes object) = HasPlace n waits marks object
HasPlaceFor n waits marks (Moves object slot) =
    (is_user_at n (at object.space slot) ≡ true → stands object waits ≡ true) × (is_user_at n object ≡ false)
HasPlaceFor n waits marks other = ⊤

-- who is told and is a user's thread stands, or there is room where it is put
pub record HasRoomFor (n : Contents) (touched : Touched) (waits marks : Lists) : Type 0 where
  pub known : (who : Who) → is_named touched who ≡ true → is_put touched who ≡ false → is_user_at n who ≡ true → stands who waits ≡ true
  pub put : HasPlaceFor n waits marks touched

-- and so does the mover
pub record HasRoom (n : Contents) (mover : Who) (touched : Touched) (waits marks : Lists) : Type 0 where
  pub named : HasRoomFor n touched waits marks
  pub own : is_put touched mover ≡ false → is_user_at n mover ≡ true → stands mover waits ≡ true

-- whom any change may free isn't queued; nobody is, where others may be touched that aren't told
pub record AreRoused (touched : Touched) (waits marks now then_marks : Lists) : Type 0 where
  pub stays : (who : Who) → stands who now ≡ stands who waits
  pub less : IsLess waits now
  pub unmarked : (who : Who) → is_in who marks.ready ≡ true → is_queued who now.queued ≡ false
  pub hushed : (who : Who) → waits_at loud_cause who (all_marks waits marks).queued ≡ true → is_queued who now.queued ≡ false
  pub met : AreMet (all_marks waits marks) (all_marks now then_marks) now
  pub none : is_wide touched ≡ true → now.queued ≡ []
  pub room : is_wide touched ≡ false → (now.spare ≡ waits.spare) × (then_marks.spare ≡ marks.spare)

-- of those that are told a user's thread stands, and what is none doesn't; none of them is queued
pub record IsTouched (n : Contents) (told : Who → Bool) (old new : Lists) : Type 0 where
  pub placed : (who : Who) → stands who new ≡ (if told who then is_user_at n who else stands who old)
  pub less : IsLess old new
  pub away : (who : Who) → told who ≡ true → is_queued who new.queued ≡ false

-- and nobody is whom one of them may free; the others are marked as they were
pub record AreFreed (told : Who → Bool) (marks then_marks waits : Lists) : Type 0 where
  pub met : AreMet marks then_marks waits
  pub freed : (key : Who) → told key ≡ true → IsFreed key marks waits
