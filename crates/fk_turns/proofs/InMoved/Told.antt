-- Told: what is told of a move is enough for the lists.
use Rattle.std.proofs.Common.{◌≡◌, ◌≤◌, ℕ, Bool, true, false, ◌&&◌, ◌||◌, ◌==◌, IsSome}
use Rattle.std.proofs.Common.{List, [], ◌∷◌, length, Option, Some, None, is_some, option_map, unwrap_or, if◌then◌else◌}
use Rattle.std.proofs.Common.{refl, sym, ap, subst, ◌∙◌, arith, eqb-true}
use Rattle.std.proofs.lemmas.Bool.{and_parts, or_left, or_parts, or_right}
use Rattle.fk_model.specs.declared.moves.Ask.{Ask}
use Rattle.fk_model.specs.declared.names.Who.{Who}
use Rattle.fk_model.specs.Moves.{outcome, step, stepped, GoesAllowed}
use Rattle.fk_model.specs.Objects.{Body}
use Rattle.fk_model.specs.Outcomes.{Outcome, listed}
use Rattle.fk_model.specs.Outcomes.Outcome.{Goes, Refused, Waits}
use Rattle.fk_model.specs.Places.{Path, same_path, parent, slot_of}
use Rattle.fk_model.specs.Searches.{depth}
use Rattle.fk_model.specs.Valid.{birth_at, is_fit}
use Rattle.fk_model.specs.Who.{named, nowhere, space_born}
use Rattle.fk_model.specs.World.{World, Change, Sweep, apply, apply_all, edited, following, through}
use Rattle.fk_model.specs.World.Change.{Alter, DropPage, Kill, Make, MakeSpace, Move, PutPage}
use Rattle.fk_model.specs.World.Edit.{Finish}
use Rattle.fk_model.proofs.walks.PlaceLaws.{same_path_eq, same_path_refl}
use Rattle.fk_store.specs.Store.Contents.{Contents}
use Rattle.fk_store.specs.Store.Names.{at}
use Rattle.fk_store.specs.Store.Paths.{path}
use Rattle.fk_store.specs.Store.World.{world, place_of}
use Rattle.fk_turns.specs.Moved.Kept.{is_user_at}
use Rattle.fk_turns.specs.Moved.Moved.{is_it, is_named, is_put, is_told, is_wide, now_named, IsAside, IsLeft}
use Rattle.fk_waits.proofs.InCauses.Numbers.{clash}
use Rattle.fk_waits.proofs.InCauses.Placed.{same_by}
use Rattle.fk_waits.specs.Causes.Names.{is_same}
use Rattle.fk_waits.proofs.InCauses.Order.{same_who}
use Rattle.fk_plans.specs.declared.wakes.touching.Touched.{Touched}
use Rattle.fk_plans.specs.declared.wakes.touching.Touched.TheVariants.{Any, Dies, Few, Makes, Moves}
use Rattle.fk_plans.specs.Wakes.Touches.{are_done, is_at, is_touched, leave, leaves, moves, MovesFirst}
use Rattle.fk_turns.specs.declared.whys.whys.Why.{Why}
use Rattle.fk_turns.specs.declared.whys.whys.Why.TheVariants as whys
use Rattle.fk_turns.specs.Whys.Staying.{AreMild, IsMild}
use Rattle.fk_turns.specs.Whys.Whys.{IsAt, IsStill, IsWhy}
use Rattle.fk_turns.proofs.InWhys.Apart.{key_there, reasons_stay_lem}
use Rattle.laws_moves.proofs.InFrozen.Edited.{same-native}
use Rattle.laws_moves.specs.Machine.Frame.{name_body}
use Rattle.laws_moves.proofs.InMachine.safety.Safe.{AreSafe, IsSafe, IsSafeMove}
use Rattle.laws_moves.specs.Users.Stood.{is_users_at, put, taken}
use Rattle.laws_moves.proofs.InUsers.Named.{are_safe, named_found, named_there, names_stay, names_stood, none_nowhere, spaces_stay}
use Rattle.laws_moves.proofs.InUsers.Stood.{same-users, users_in, users-through, users_stay, users_stood}
use Rattle.fk_turns.specs.Moved.Told.{comes_to, moved_name, IsMadeTo, IsStored, ToldMovesLeave, ToldNames}
use Rattle.fk_turns.proofs.InMoved.Places.{is_put_place, is_taken_place, put_told, taken_told}

-- ---- one store

pub user_there : (w : World) (x : Path) → is_users_at w x ≡ true → IsSome (w.body x)
user_there w x is = by (w.body x) refl is
  where
    by : (o : Option Body) → w.body x ≡ o → is_users_at w x ≡ true → IsSome (w.body x)
    by (Some b) e is = rw e refl
    by None e is = let off = rw e at is in absurd (cc)

born_there : (m : Contents) → IsStored m → (who : Who) → IsSome ((world m).body (place_of m who)) → birth_at (world m) (path m who.space) ≡ Some who.space
born_there m stored who live =
    subst (λ (p : ℕ → Path). birth_at (world m) (p who.space) ≡ Some who.space) (sym stored.born)
    (named_there (world m) stored.valid stored.few who.space who.slot
    (subst (λ (p : ℕ → Path). IsSome ((world m).body (who.slot ∷ p who.space))) stored.born live))

born_found : (m : Contents) → IsStored m → (n : ℕ) → (path m n ≡ nowhere → ⊥) → birth_at (world m) (path m n) ≡ Some n
born_found m stored n some =
    subst (λ (p : ℕ → Path). birth_at (world m) (p n) ≡ Some n) (sym stored.born)
    (named_found (world m) stored.valid stored.few n (λ is. some (ap (λ (p : ℕ → Path). p n) stored.born ∙ is)))

-- where something stands is no nowhere
live_somewhere : (m : Contents) → IsStored m → (k : ℕ) (x : Path) → IsSome ((world m).body (k ∷ x)) → x ≡ nowhere → ⊥
live_somewhere m stored k x live is = none_nowhere (world m) stored.valid k (subst (λ (y : Path). IsSome ((world m).body (k ∷ y))) is live)

same_born : (w : World) (x : Path) (a b : ℕ) → birth_at w x ≡ Some a → birth_at w x ≡ Some b → a ≡ b
same_born w x a b first second = ap (λ (o : Option ℕ). unwrap_or o 0) (sym first ∙ second)

named_by : (a b : Who) → a.slot ≡ b.slot → a.space ≡ b.space → is_same b a ≡ true
named_by a b slot space = same_by b a (λ i. record { space = sym space i; slot = sym slot i })

-- two names of one place where something stands are the same
pub same_name : (m : Contents) → IsStored m → (a b : Who) → IsSome ((world m).body (place_of m a)) → same_path (place_of m a) (place_of m b) ≡ true →
    is_same b a ≡ true
same_name m stored a b live same =
    let here = same_path_eq (place_of m a) (place_of m b) same in
    let first = born_there m stored a live in
    let second = born_there m stored b (subst (λ (x : Path). IsSome ((world m).body x)) here live) in
    named_by a b (ap slot_of here) (same_born (world m) (path m a.space) a.space b.space first
    (ap (λ (x : Path). birth_at (world m) (parent x)) here ∙ second))

-- ---- what a move that touches few leaves where it is

mild_one : (p : ℕ → Path) (t : Touched) → is_wide t ≡ false → (w : World) (c : Change) → IsSafe w c → leaves p t c ≡ true → IsMild w c
mild_one p t few w (Alter x edit) safe told = tt
mild_one p t few w (Make [] body) safe told = absurd safe
mild_one p t few w (Make (k ∷ s) body) safe told = ap is_some safe.place.empty
mild_one p t few w (MakeSpace [] holder) safe told = absurd safe
mild_one p t few w (MakeSpace (k ∷ s) holder) safe told = ap is_some safe.place.empty
mild_one p t few w (Kill x) safe told = absurd (by t few told)
  where
    by : (t : Touched) → is_wide t ≡ false → leaves p t (Kill x) ≡ true → ⊥
    by (Few first second third) few told = cc
    by (Makes object) few told = cc
    by Any few told = cc
    by (Dies object) few told = cc
    by (Moves object slot) few told = cc
mild_one p t few w (Move x slot) safe told = absurd (by t few told)
  where
    by : (t : Touched) → is_wide t ≡ false → leaves p t (Move x slot) ≡ true → ⊥
    by (Few first second third) few told = cc
    by (Makes object) few told = cc
    by Any few told = cc
    by (Dies object) few told = cc
    by (Moves object to) few told = cc
mild_one p t few w (PutPage space page words) safe told = tt
mild_one p t few w (DropPage space page) safe told = tt

mild_by : (p : ℕ → Path) (t : Touched) → is_wide t ≡ false → (w : World) (cs : List Change) → AreSafe w cs → leave p t cs ≡ true → AreMild w cs
mild_by p t few w [] safe told = tt
mild_by p t few w (c ∷ cs) safe told =
    let both = and_parts (leaves p t c) (leave p t cs) told in
    (mild_one p t few w c safe.0 both.0, mild_by p t few (apply c w) cs safe.1 both.1)

-- ---- what gets another slot

-- a call that is done leaves who is a user's thread
done-users : (cs : List Change) (v : World) (q : Path) → are_done cs ≡ true → is_users_at (apply_all cs v) q ≡ is_users_at v q
unfolding apply apply_all
done-users [] v q done = refl
done-users (Alter x (Finish answers) ∷ cs) v q done = done-users cs (apply (Alter x (Finish answers)) v) q done ∙ one
  where
    mapped : (o : Option Body) → users_in (option_map (edited (Finish answers)) o) ≡ users_in o
    mapped None = refl
    mapped (Some b) = same-users (Finish answers) b (same-native (Finish answers) b refl)

    one : is_users_at (apply (Alter x (Finish answers)) v) q ≡ is_users_at v q
    one = by (same_path q x)
      where
        by : (t : Bool) → users_in (if t then option_map (edited (Finish answers)) (v.body q) else v.body q) ≡ users_in (v.body q)
        by true = mapped (v.body q)
        by false = refl
done-users (c ∷ cs) v q done = absurd (cc)

users-mapped : (f : Sweep) (q : Path) (o : Option Body) → users_in (option_map (through f q) o) ≡ users_in o
users-mapped f q None = refl
users-mapped f q (Some b) = users-through f q b

moved-there : (w : World) (k : ℕ) (s : Path) (to : ℕ) → is_users_at (apply (Move (k ∷ s) to) w) (to ∷ s) ≡ true → is_users_at w (k ∷ s) ≡ true
unfolding apply
moved-there w k s to is =
    let here = rw (same_path_refl (to ∷ s)) at is in sym (users-mapped (following (k ∷ s) (to ∷ s)) (to ∷ s) (w.body (k ∷ s))) ∙ here

moved-away : (w : World) (k : ℕ) (s : Path) (to : ℕ) → IsSafeMove w k s to → is_users_at (apply (Move (k ∷ s) to) w) (k ∷ s) ≡ false
unfolding apply
moved-away w k s to safe = rw (apart (same_path (k ∷ s) (to ∷ s)) refl, same_path_refl (k ∷ s)) refl
  where
    nothing : (o : Option Body) → o ≡ None → IsSome o → ⊥
    nothing None e h = cc
    nothing (Some b) e h = cc

    apart : (t : Bool) → same_path (k ∷ s) (to ∷ s) ≡ t → same_path (k ∷ s) (to ∷ s) ≡ false
    apart true e = absurd (nothing (w.body (k ∷ s)) (ap w.body (same_path_eq (k ∷ s) (to ∷ s) e) ∙ safe.empty) safe.live)
    apart false e = e

-- the root gets no other slot
rootless_off : {X : Type 0} (x : Path) (slot done : Bool) → ((same_path [] x && slot) && done) ≡ true → ([] ≡ x → ⊥) → X
rootless_off x slot done is off =
    absurd (off (same_path_eq [] x (and_parts (same_path [] x) slot (and_parts (same_path [] x && slot) done is).0).0))

-- what a move comes to is done
goes_to : (w : World) (x : Path) (pick : Option Path) (ask : Ask) (c : Change) (rest : List Change) (said : _) → outcome w x pick ask ≡ Goes (c ∷ rest) said →
    (step w x pick ask).world ≡ apply_all rest (apply c w)
unfolding step apply_all
goes_to w x pick ask c rest said e = ap (λ (o : Outcome). (stepped w o).world) e

-- ---- from one to the next

module _ (m n : Contents) (mover : Who) (pick : Option Path) (ask : Ask) (old : IsStored m) (new : IsStored n) (made : IsMadeTo m n mover pick ask) where
  abbrev cs : List Change
  cs = listed (comes_to m mover pick ask)

  then_few : (step (world m) (place_of m mover) pick ask).world.next ≤ depth
  then_few = subst (λ (u : World). u.next ≤ depth) made.step new.few

  at_old : (who : Who) → place_of m who ≡ named (world m) who
  at_old who = ap (λ (p : ℕ → Path). who.slot ∷ p who.space) old.born

  at_new : (who : Who) → place_of n who ≡ named (step (world m) (place_of m mover) pick ask).world who
  at_new who = ap (λ (p : ℕ → Path). who.slot ∷ p who.space) new.born ∙ ap (λ (u : World). named u who) made.step

  pub stays : (who : Who) → IsSome ((world m).body (place_of m who)) → taken cs (place_of m who) ≡ false → place_of n who ≡ place_of m who
  stays who live off =
      at_new who ∙ names_stay (world m) (place_of m mover) pick ask old.valid old.few made.fit then_few who
      (subst (λ (x : Path). IsSome ((world m).body x)) (at_old who) live) (ap (taken cs) (sym (at_old who)) ∙ off) ∙ sym (at_old who)

  stood : (who : Who) → IsSome ((world n).body (place_of n who)) → put cs (place_of n who) ≡ false → place_of n who ≡ place_of m who
  stood who live off =
      let there = subst (λ (u : World). IsSome (u.body (place_of n who))) made.step live in
      at_new who ∙ names_stood (world m) (place_of m mover) pick ask old.valid old.few made.fit then_few who
      (subst (λ (x : Path). IsSome ((step (world m) (place_of m mover) pick ask).world.body x)) (at_new who) there) (ap (put cs) (sym (at_new who)) ∙ off)
      ∙ sym (at_old who)

  users_back : (x : Path) → put cs x ≡ false → is_users_at (world n) x ≡ true → is_users_at (world m) x ≡ true
  users_back x off is =
      users_stood (world m) (place_of m mover) pick ask x old.valid.rooted off (ap (λ (u : World). is_users_at u x) (sym made.step) ∙ is)

  users_on : (x : Path) → put cs x ≡ false → taken cs x ≡ false → is_users_at (world m) x ≡ true → is_users_at (world n) x ≡ true
  users_on x off gone is =
      ap (λ (u : World). is_users_at u x) made.step ∙ users_stay (world m) (place_of m mover) pick ask x old.valid.rooted off gone is

  space_on : (y : Path) (b : ℕ) → birth_at (world m) y ≡ Some b → taken cs y ≡ false → birth_at (world n) y ≡ Some b
  space_on y b is off =
      ap (λ (u : World). birth_at u y) made.step ∙ (spaces_stay (world m) (place_of m mover) pick ask old.valid old.few made.fit then_few y b is off).0

  -- whatever stands where something may have been put has the name under which it was put
  put_name : (to who : Who) → IsSome ((world n).body (place_of n who)) → same_path (place_of n who) (place_of m to) ≡ true →
      taken cs (path m to.space) ≡ false → is_same to who ≡ true
  put_name to who live same off =
      let here = same_path_eq (place_of n who) (place_of m to) same in
      let space : path n who.space ≡ path m to.space = ap parent here in
      let some = λ (is : path m to.space ≡ nowhere). live_somewhere n new who.slot (path n who.space) live (space ∙ is) in
      let born = space_on (path m to.space) to.space (born_found m old to.space some) off in
      named_by who to (ap slot_of here) (same_born (world n) (path n who.space) who.space to.space (born_there n new who live)
      (ap (birth_at (world n)) space ∙ born))

  -- ---- what is told

  module _ (touched : Touched) (leaves : leave (path m) touched cs ≡ true) where
    -- what isn't told as taken isn't taken
    untaken : (x : Path) → is_taken_place (path m) touched x ≡ false → taken cs x ≡ false
    untaken x off = by (taken cs x) refl
      where
        by : (b : Bool) → taken cs x ≡ b → taken cs x ≡ false
        by true e = clash (is_taken_place (path m) touched x) (taken_told (path m) touched cs x leaves e) off
        by false e = e

    unput : (x : Path) → is_put_place (path m) touched x ≡ false → put cs x ≡ false
    unput x off = by (put cs x) refl
      where
        by : (b : Bool) → put cs x ≡ b → put cs x ≡ false
        by true e = clash (is_put_place (path m) touched x) (put_told (path m) touched cs x leaves e) off
        by false e = e

  other_path : (k : ℕ) (x : Path) → same_path x (k ∷ x) ≡ false
  other_path k x = by (same_path x (k ∷ x)) refl
    where
      by : (b : Bool) → same_path x (k ∷ x) ≡ b → same_path x (k ∷ x) ≡ false
      by true e = let long = ap length (same_path_eq x (k ∷ x) e) in absurd (omega (arith, long))
      by false e = e

  unless : (b : Bool) → (b ≡ true → ⊥) → b ≡ false
  unless true off = absurd (off refl)
  unless false off = refl

  -- a name that isn't put is no place where something is put, then; one that isn't told isn't one before
  put_off : (t : Touched) → leave (path m) t cs ≡ true → (who : Who) → is_put t who ≡ false → IsSome ((world n).body (place_of n who)) →
      put cs (place_of n who) ≡ false
  put_off t leaves who off live = unput t leaves (place_of n who) (unless (is_put_place (path m) t (place_of n who)) (by t leaves off))
    where
      by : (t : Touched) → leave (path m) t cs ≡ true → is_put t who ≡ false → is_put_place (path m) t (place_of n who) ≡ true → ⊥
      by (Makes object) leaves off is =
          clash (is_same object who) (put_name object who live is (untaken (Makes object) leaves (path m object.space) refl)) off
      by (Moves object slot) leaves off is =
          clash (is_same (at object.space slot) who) (put_name (at object.space slot) who live is
          (untaken (Moves object slot) leaves (path m object.space) (other_path object.slot (path m object.space)))) off
      by (Few first second third) leaves off is = absurd (cc)
      by Any leaves off is = absurd (cc)
      by (Dies object) leaves off is = absurd (cc)

  pub taken_off : (t : Touched) → leave (path m) t cs ≡ true → (who : Who) → is_named t who ≡ false → IsSome ((world m).body (place_of m who)) →
      taken cs (place_of m who) ≡ false
  taken_off t leaves who off live = untaken t leaves (place_of m who) (unless (is_taken_place (path m) t (place_of m who)) (by t off))
    where
      by : (t : Touched) → is_named t who ≡ false → is_taken_place (path m) t (place_of m who) ≡ true → ⊥
      by (Dies object) off is = clash (is_same object who) (same_name m old who object live is) off
      by (Moves object slot) off is =
          clash (is_same object who) (same_name m old who object live is) (or_parts (is_same object who) (is_same (at object.space slot) who) off).0
      by (Few first second third) off is = absurd (cc)
      by (Makes object) off is = absurd (cc)
      by Any off is = absurd (cc)

  put_off_old : (t : Touched) → leave (path m) t cs ≡ true → (who : Who) → is_named t who ≡ false → IsSome ((world m).body (place_of m who)) →
      put cs (place_of m who) ≡ false
  put_off_old t leaves who off live = unput t leaves (place_of m who) (unless (is_put_place (path m) t (place_of m who)) (by t off))
    where
      by : (t : Touched) → is_named t who ≡ false → is_put_place (path m) t (place_of m who) ≡ true → ⊥
      by (Makes object) off is = clash (is_same object who) (same_name m old who object live is) off
      by (Moves object slot) off is =
          clash (is_same (at object.space slot) who) (same_name m old who (at object.space slot) live is)
          (or_parts (is_same object who) (is_same (at object.space slot) who) off).1
      by (Few first second third) off is = absurd (cc)
      by Any off is = absurd (cc)
      by (Dies object) off is = absurd (cc)

  named_off : (t : Touched) (who : Who) → is_named t who ≡ false → is_put t who ≡ false
  named_off (Few first second third) who off = refl
  named_off (Makes object) who off = off
  named_off Any who off = refl
  named_off (Dies object) who off = refl
  named_off (Moves object slot) who off = (or_parts (is_same object who) (is_same (at object.space slot) who) off).1

  -- ---- users' threads

  grown : (t : Touched) → leave (path m) t cs ≡ true → (who : Who) → is_user_at n who ≡ true → is_put t who ≡ false → is_user_at m who ≡ true
  grown t leaves who user off =
      let live = user_there (world n) (place_of n who) user in
      let unput_here = put_off t leaves who off live in
      ap (is_users_at (world m)) (sym (stood who live unput_here)) ∙ users_back (place_of n who) unput_here user

  kept : (t : Touched) → leave (path m) t cs ≡ true → (who : Who) → is_user_at m who ≡ true → is_named t who ≡ false → is_user_at n who ≡ true
  kept t leaves who user off =
      let live = user_there (world m) (place_of m who) user in
      let gone = taken_off t leaves who off live in
      ap (is_users_at (world n)) (stays who live gone) ∙ users_on (place_of m who) (put_off_old t leaves who off live) gone user

  users : (t : Touched) → leave (path m) t cs ≡ true → (who : Who) → is_told mover t who ≡ false → is_user_at n who ≡ is_user_at m who
  users t leaves who off =
      let named = (or_parts (is_same mover who) (is_named t who) off).1 in
      both (is_user_at n who) (is_user_at m who) (λ is. grown t leaves who is (named_off t who named)) (λ is. kept t leaves who is named)
    where
      both : (a b : Bool) → (a ≡ true → b ≡ true) → (b ≡ true → a ≡ true) → a ≡ b
      both true b on back = sym (on refl)
      both false true on back = back refl
      both false false on back = refl

  -- ---- reasons

  or_map : (a b c d : Bool) → (a ≡ true → c ≡ true) → (b ≡ true → d ≡ true) → (a || b) ≡ true → (c || d) ≡ true
  or_map true b c d first second is = or_left c d (first refl)
  or_map false b c d first second is = or_right c d (second is)

  it_named : (name : Option Who) (who : Who) → IsSome ((world m).body (place_of m who)) → is_at (path m) name (place_of m who) ≡ true → is_it name who ≡ true
  it_named None who live is = absurd (cc)
  it_named (Some other) who live is = same_name m old who other live is

  touched_named : (t : Touched) → is_wide t ≡ false → (who : Who) → IsSome ((world m).body (place_of m who)) →
      is_touched (path m) t (place_of m who) ≡ true → is_named t who ≡ true
  touched_named (Few a b c) few who live is =
      let x = place_of m who in
      or_map (is_at (path m) a x) (is_at (path m) b x || is_at (path m) c x) (is_it a who) (is_it b who || is_it c who) (it_named a who live)
      (or_map (is_at (path m) b x) (is_at (path m) c x) (is_it b who) (is_it c who) (it_named b who live) (it_named c who live)) is
  touched_named (Makes object) few who live is = same_name m old who object live is
  touched_named Any few who live is = absurd (cc)
  touched_named (Dies object) few who live is = absurd (cc)
  touched_named (Moves object slot) few who live is = absurd (cc)

  module _ (t : Touched) (few : is_wide t ≡ false) (leaves : leave (path m) t cs ≡ true)
      (names : (x : Path) → name_body (world m) cs x ≡ true → (same_path x (place_of m mover) || is_touched (path m) t x) ≡ true) where
    -- what isn't told isn't named by a change
    unnamed : (who : Who) → is_told mover t who ≡ false → IsSome ((world m).body (place_of m who)) → name_body (world m) cs (place_of m who) ≡ false
    unnamed who off live =
        unless (name_body (world m) cs (place_of m who)) (λ is. clash (is_told mover t who) (told (names (place_of m who) is)) off)
      where
        told : (same_path (place_of m who) (place_of m mover) || is_touched (path m) t (place_of m who)) ≡ true → is_told mover t who ≡ true
        told = or_map (same_path (place_of m who) (place_of m mover)) (is_touched (path m) t (place_of m who)) (is_same mover who) (is_named t who)
            (λ is. same_name m old who mover live is) (touched_named t few who live)

    mild : AreMild (world m) cs
    mild = mild_by (path m) t few (world m) cs (are_safe (world m) (place_of m mover) pick ask old.valid old.few made.fit) leaves

    -- a name of what is there and isn't told leads where it led
    stays_there : (who : Who) → is_told mover t who ≡ false → IsSome ((world m).body (place_of m who)) → place_of n who ≡ place_of m who
    stays_there who off live = stays who live (taken_off t leaves who (or_parts (is_same mover who) (is_named t who) off).1 live)

    still : (who : Who) (why : Why) → is_told mover t who ≡ false → IsAside mover t why → is_user_at m who ≡ true →
        IsWhy (world m) (path m) (place_of m who) why → IsWhy (world n) (path n) (place_of n who) why
    still who why off aside user is = by why aside is
      where
        live : IsSome ((world m).body (place_of m who))
        live = user_there (world m) (place_of m who) user

        here : place_of n who ≡ place_of m who
        here = stays_there who off live

        by : (why : Why) → IsAside mover t why → IsWhy (world m) (path m) (place_of m who) why → IsWhy (world n) (path n) (place_of n who) why
        by whys.Still aside is =
            subst (λ (x : Path). IsStill (world n) x) (sym here)
            (subst (λ (u : World). IsStill u (place_of m who)) (sym made.step)
            (reasons_stay_lem (world m) (place_of m mover) pick ask (path m) (place_of m who) whys.Still is mild (unnamed who off live)))
        by (whys.At key) aside is =
            let there = key_there (world m) (place_of m who) (place_of m key) is in
            subst (λ (x : Path). IsAt (world n) (place_of n who) x) (sym (stays_there key aside there))
            (subst (λ (x : Path). IsAt (world n) x (place_of m key)) (sym here)
            (subst (λ (u : World). IsAt u (place_of m who) (place_of m key)) (sym made.step)
            (reasons_stay_lem (world m) (place_of m mover) pick ask (path m) (place_of m who) (whys.At key) is mild
            (unnamed who off live, unnamed key aside there))))
        by whys.Loud aside is = absurd aside
        by whys.Barred aside is = absurd aside

  -- ---- what gets another slot

  same_place : (object : Who) → birth_at (world m) (path m object.space) ≡ Some object.space → taken cs (path m object.space) ≡ false →
      path n object.space ≡ path m object.space
  same_place object born off =
      ap (λ (p : ℕ → Path). p object.space) new.born ∙ ap (λ (u : World). space_born u object.space) made.step
      ∙ (spaces_stay (world m) (place_of m mover) pick ask old.valid old.few made.fit then_few (path m object.space) object.space born off).1

  moved_by : (object : Who) (slot : ℕ) → leave (path m) (Moves object slot) cs ≡ true → (k : ℕ) (s : Path) (to : ℕ) (rest : List Change) →
      world n ≡ apply_all rest (apply (Move (k ∷ s) to) (world m)) → same_path (k ∷ s) (place_of m object) ≡ true → (slot == to) ≡ true →
      are_done rest ≡ true → IsSafeMove (world m) k s to → IsLeft m n (Moves object slot)
  moved_by object slot leaves k s to rest is same same_slot done safe =
      let here : k ∷ s ≡ place_of m object = same_path_eq (k ∷ s) (place_of m object) same in
      let live = subst (λ (x : Path). IsSome ((world m).body x)) here safe.live in
      let space : path n object.space ≡ s = same_place object (born_there m old object live)
      (untaken (Moves object slot) leaves (path m object.space) (other_path object.slot (path m object.space))) ∙ sym (ap parent here) in
      let first : place_of n (at object.space slot) ≡ to ∷ s = λ i. eqb-true slot to same_slot i ∷ space i in
      let second : place_of n object ≡ k ∷ s = λ i. sym (ap slot_of here) i ∷ space i in
      let after = apply (Move (k ∷ s) to) (world m) in (
        (λ user. ap (is_users_at (world m)) (sym here)
            ∙ moved-there (world m) k s to (sym (done-users rest after (to ∷ s) done) ∙ ap (λ (u : World). is_users_at u (to ∷ s)) (sym is)
            ∙ ap (is_users_at (world n)) (sym first) ∙ user)),
        ap (is_users_at (world n)) second ∙ ap (λ (u : World). is_users_at u (k ∷ s)) is ∙ done-users rest after (k ∷ s) done
            ∙ moved-away (world m) k s to safe,
      )

  left_by : (t : Touched) (o : Outcome) → comes_to m mover pick ask ≡ o → leave (path m) t cs ≡ true → MovesFirst (path m) t o →
      GoesAllowed (world m) (place_of m mover) o → IsLeft m n t
  left_by (Few first second third) o e leaves first_so goes = tt
  left_by (Makes object) o e leaves first_so goes = tt
  left_by Any o e leaves first_so goes = tt
  left_by (Dies object) o e leaves first_so goes = tt
  left_by (Moves object slot) (Goes (Move (k ∷ s) to ∷ rest) said) e leaves first_so goes =
      let parts = and_parts (same_path (k ∷ s) (place_of m object) && slot == to) (are_done rest) first_so in
      let both = and_parts (same_path (k ∷ s) (place_of m object)) (slot == to) parts.0 in
      let safe : AreSafe (world m) (Move (k ∷ s) to ∷ rest) =
      subst (λ (o : Outcome). AreSafe (world m) (listed o)) e (are_safe (world m) (place_of m mover) pick ask old.valid old.few made.fit) in
      moved_by object slot leaves k s to rest (made.step ∙ goes_to (world m) (place_of m mover) pick ask (Move (k ∷ s) to) rest said e) both.0 both.1
      parts.1 safe.0
  left_by (Moves object slot) (Goes [] said) e leaves first_so goes = absurd (cc)
  left_by (Moves object slot) (Goes (Move [] to ∷ rest) said) e leaves first_so goes =
      rootless_off (place_of m object) (slot == to) (are_done rest) first_so (λ is. let never : [] ≡ place_of m object = is in absurd (cc))
  left_by (Moves object slot) (Goes (Alter x edit ∷ rest) said) e leaves first_so goes = absurd (cc)
  left_by (Moves object slot) (Goes (Make x body ∷ rest) said) e leaves first_so goes = absurd (cc)
  left_by (Moves object slot) (Goes (MakeSpace x holder ∷ rest) said) e leaves first_so goes = absurd (cc)
  left_by (Moves object slot) (Goes (Kill x ∷ rest) said) e leaves first_so goes = absurd (cc)
  left_by (Moves object slot) (Goes (PutPage space page words ∷ rest) said) e leaves first_so goes = absurd (cc)
  left_by (Moves object slot) (Goes (DropPage space page ∷ rest) said) e leaves first_so goes = absurd (cc)
  left_by (Moves object slot) (Refused status) e leaves first_so goes = absurd goes
  left_by (Moves object slot) Waits e leaves first_so goes = absurd goes

pub told_moves_leave : ToldMovesLeave
told_moves_leave m n mover pick ask touched old new made told = record {
  users = λ who off. users m n mover pick ask old new made touched told.leaves who off;
  grown = λ who user off. grown m n mover pick ask old new made touched told.leaves who user off;
  left = left_by m n mover pick ask old new made touched (comes_to m mover pick ask) refl told.leaves told.moves made.ready;
  stays = λ few who why off aside user is. still m n mover pick ask old new made touched few told.leaves told.names who why off aside user is;
}

-- ---- the name of who moved

module _ (m : Contents) (mover : Who) (stored : IsStored m) where
  -- where nothing gets another slot it is as it was
  stays_named : (t : Touched) → ((x : Path) (to : ℕ) → moves (path m) t x to ≡ false) → (cs : List Change) → leave (path m) t cs ≡ true →
      moved_name (path m) mover cs ≡ mover
  stays_named t off [] leaves = refl
  stays_named t off (Move x to ∷ cs) leaves = clash (moves (path m) t x to) (and_parts (moves (path m) t x to) (leave (path m) t cs) leaves).0 (off x to)
  stays_named t off (Alter x edit ∷ cs) leaves = refl
  stays_named t off (Make x body ∷ cs) leaves = refl
  stays_named t off (MakeSpace x holder ∷ cs) leaves = refl
  stays_named t off (Kill x ∷ cs) leaves = refl
  stays_named t off (PutPage space page words ∷ cs) leaves = refl
  stays_named t off (DropPage space page ∷ cs) leaves = refl

  slot_named : (object : Who) (slot : ℕ) (x : Path) (to : ℕ) → same_path x (place_of m object) ≡ true → (slot == to) ≡ true →
      IsSome ((world m).body (place_of m object)) →
      (if is_same object mover then at object.space slot else mover) ≡ (if same_path x (place_of m mover) then at mover.space to else mover)
  slot_named object slot x to same same_slot live = by (is_same object mover) (same_path x (place_of m mover)) refl refl
    where
      by : (s t : Bool) → is_same object mover ≡ s → same_path x (place_of m mover) ≡ t →
          (if s then at object.space slot else mover) ≡ (if t then at mover.space to else mover)
      by true true e f = λ i. at (same_who object mover e i).space (eqb-true slot to same_slot i)
      by true false e f =
          clash (same_path x (place_of m mover)) (subst (λ (w : Who). same_path x (place_of m w) ≡ true) (same_who object mover e) same) f
      by false true e f =
          let first = same_path_eq x (place_of m object) same in
          let second = same_path_eq x (place_of m mover) f in
          let here : place_of m mover ≡ place_of m object = sym second ∙ first in
          let own = subst (λ (y : Path). IsSome ((world m).body y)) (sym here) live in
          clash (is_same object mover) (same_name m stored mover object own
          (subst (λ (y : Path). same_path (place_of m mover) y ≡ true) here (same_path_refl (place_of m mover)))) e
      by false false e f = refl

  named_by_told : (pick : Option Path) (ask : Ask) → is_fit (world m) (place_of m mover) ask ≡ true → (t : Touched) (o : Outcome) →
      comes_to m mover pick ask ≡ o → GoesAllowed (world m) (place_of m mover) o → leave (path m) t (listed o) ≡ true → MovesFirst (path m) t o →
      now_named mover t ≡ moved_name (path m) mover (listed o)
  named_by_told pick ask fit (Few a b c) o e goes leaves first = sym (stays_named (Few a b c) (λ x to. refl) (listed o) leaves)
  named_by_told pick ask fit (Makes object) o e goes leaves first = sym (stays_named (Makes object) (λ x to. refl) (listed o) leaves)
  named_by_told pick ask fit Any o e goes leaves first = sym (stays_named Any (λ x to. refl) (listed o) leaves)
  named_by_told pick ask fit (Dies object) o e goes leaves first = sym (stays_named (Dies object) (λ x to. refl) (listed o) leaves)
  named_by_told pick ask fit (Moves object slot) (Goes (Move (k ∷ s) to ∷ rest) said) e goes leaves first =
      let parts = and_parts (same_path (k ∷ s) (place_of m object) && slot == to) (are_done rest) first in
      let both = and_parts (same_path (k ∷ s) (place_of m object)) (slot == to) parts.0 in
      let safe : AreSafe (world m) (Move (k ∷ s) to ∷ rest) =
      subst (λ (o : Outcome). AreSafe (world m) (listed o)) e (are_safe (world m) (place_of m mover) pick ask stored.valid stored.few fit) in
      let live = subst (λ (y : Path). IsSome ((world m).body y)) (same_path_eq (k ∷ s) (place_of m object) both.0) safe.0.live in
      slot_named object slot (k ∷ s) to both.0 both.1 live
  named_by_told pick ask fit (Moves object slot) (Goes [] said) e goes leaves first = absurd (cc)
  named_by_told pick ask fit (Moves object slot) (Goes (Move [] to ∷ rest) said) e goes leaves first =
      rootless_off (place_of m object) (slot == to) (are_done rest) first (λ is. let never : [] ≡ place_of m object = is in absurd (cc))
  named_by_told pick ask fit (Moves object slot) (Goes (Alter x edit ∷ rest) said) e goes leaves first = absurd (cc)
  named_by_told pick ask fit (Moves object slot) (Goes (Make x body ∷ rest) said) e goes leaves first = absurd (cc)
  named_by_told pick ask fit (Moves object slot) (Goes (MakeSpace x holder ∷ rest) said) e goes leaves first = absurd (cc)
  named_by_told pick ask fit (Moves object slot) (Goes (Kill x ∷ rest) said) e goes leaves first = absurd (cc)
  named_by_told pick ask fit (Moves object slot) (Goes (PutPage space page words ∷ rest) said) e goes leaves first = absurd (cc)
  named_by_told pick ask fit (Moves object slot) (Goes (DropPage space page ∷ rest) said) e goes leaves first = absurd (cc)
  named_by_told pick ask fit (Moves object slot) (Refused status) e goes leaves first = absurd goes
  named_by_told pick ask fit (Moves object slot) Waits e goes leaves first = absurd goes

pub told_names : ToldNames
told_names m mover pick ask touched stored fit ready told =
    named_by_told m mover stored pick ask fit touched (comes_to m mover pick ask) refl ready told.leaves told.moves
