-- Stood: whoever is a user's thread after a list of changes was one, or was put there.
use Rattle.std.proofs.Common.{◌≡◌, ℕ, Bool, true, false, not, ◌&&◌, ◌==◌, if◌then◌else◌, List, [], ◌∷◌, Option, Some, None, option_map}
use Rattle.std.proofs.Common.{refl, sym, ap, subst, ◌∙◌}
use Rattle.std.proofs.lemmas.Bool.{or_parts}
use Rattle.fk_model.specs.Holds.{is_porter}
use Rattle.fk_model.specs.Moves.{outcome, step, stepped}
use Rattle.fk_model.specs.Objects.{Body, Mode, Thread, and_then, holds, kind_of, number_of_kind, thread_of}
use Rattle.fk_model.specs.Objects.Body.{Mutex, Thread_of}
use Rattle.fk_model.specs.Outcomes.{Outcome, listed}
use Rattle.fk_model.specs.Outcomes.Outcome.{Refused, Waits, Goes}
use Rattle.fk_model.specs.Places.{Path, same_path, parent}
use Rattle.fk_model.specs.StateRows.{is_native}
use Rattle.fk_model.specs.World.{World, Change, Edit, Sweep, apply, apply_all, death_sweep, edited, following, through}
use Rattle.fk_model.specs.World.Change.{Alter, Make, MakeSpace, Kill, Move, PutPage, DropPage}
use Rattle.fk_model.specs.World.Edit.{Proceed}
use Rattle.fk_model.proofs.walks.PlaceLaws.{same_path_eq}
use Rattle.laws_moves.proofs.InFrozen.Edited.{same-native, same_kind}
use Rattle.laws_moves.specs.Users.Stood.{put, puts, taken, takes, UsersStay, UsersStood}
use Rattle.laws_moves.proofs.InUsers.Rows.{ArePlain, IsPlain, IsPlainEdit, moves-plain}

-- ---- one body

abbrev is_users : Body → Bool
is_users b = holds (λ (t : Thread). not (is_porter t.mode)) (thread_of b)

abbrev is_thread : Body → Bool
is_thread b = number_of_kind (kind_of b) == 8

users-by : (b : Body) → is_users b ≡ (is_thread b && not (is_native b))
users-by (Thread_of t) = refl
users-by (Mutex locked) = refl
users-by b = refl

-- an edit that sets no mode leaves it
pub same-users : (edit : Edit) (b : Body) → is_native (edited edit b) ≡ is_native b → is_users (edited edit b) ≡ is_users b
same-users edit b native =
    users-by (edited edit b) ∙ (λ i. (number_of_kind (same_kind edit b i) == 8) && not (native i)) ∙ sym (users-by b)

pub users-through : (f : Sweep) (q : Path) (b : Body) → is_users (through f q b) ≡ is_users b
users-through f q (Thread_of t) = refl
users-through f q (Mutex locked) = refl
users-through f q b = refl

native-through : (f : Sweep) (q : Path) (b : Body) → is_native (through f q b) ≡ is_native b
native-through f q (Thread_of t) = refl
native-through f q (Mutex locked) = refl
native-through f q b = refl

-- ---- what stands at a path

abbrev pub users_in : Option Body → Bool
users_in o = holds (λ (t : Thread). not (is_porter t.mode)) (and_then thread_of o)

abbrev native_in : Option Body → Bool
native_in o = holds is_native o

-- what holds there of a world held of another
record Held (w : World) (q : Path) (now : Option Body) : Type 0 where
  users : users_in now ≡ true → users_in (w.body q) ≡ true
  native : native_in now ≡ true → native_in (w.body q) ≡ true

held-nobody : (w : World) (q : Path) → Held w q None
held-nobody w q = record { users = λ is. absurd (cc); native = λ is. absurd (cc) }

held-mapped : (w : World) (q : Path) (f : Body → Body) (o : Option Body) → ((b : Body) → is_users (f b) ≡ is_users b) →
    ((b : Body) → is_native (f b) ≡ is_native b) → Held w q o → Held w q (option_map f o)
held-mapped w q f None users native held = held
held-mapped w q f (Some b) users native held =
    record { users = λ is. held.users (sym (users b) ∙ is); native = λ is. held.native (sym (native b) ∙ is) }

-- a mode that is set
held-proceeds : (w : World) (q : Path) (mode : Mode) (counter : ℕ) (b : Body) → native_in (w.body q) ≡ false → is_porter mode ≡ false → Held w q (Some b) →
    Held w q (Some (edited (Proceed mode counter) b))
unfolding edited
held-proceeds w q mode counter (Thread_of t) off user held = record { users = λ is. by (is_porter t.mode) refl; native = λ is. clash (is_porter mode) is user }
  where
    clash : {X : Type 0} (b : Bool) → b ≡ true → b ≡ false → X
    clash b is not_so = absurd (cc)

    by : (p : Bool) → is_porter t.mode ≡ p → users_in (w.body q) ≡ true
    by true e = clash (native_in (w.body q)) (held.native e) off
    by false e = held.users (ap not e)
held-proceeds w q mode counter (Mutex locked) off user held = held
held-proceeds w q mode counter b off user held = held

held-edited : (w : World) (q : Path) (edit : Edit) (o : Option Body) → IsPlainEdit w q edit → Held w q o → Held w q (option_map (edited edit) o)
held-edited w q edit None plain held = held
held-edited w q (Proceed mode counter) (Some b) plain held = held-proceeds w q mode counter b plain.0 plain.1 held
held-edited w q edit (Some b) plain held =
    held-mapped w q (edited edit) (Some b) (λ c. same-users edit c (same-native edit c refl)) (λ c. same-native edit c refl) held

-- ---- changes

module _ (w : World) (q : Path) where
  held-apply : (c : Change) (v : World) → IsPlain w c → puts c q ≡ false → Held w q (v.body q) → Held w q ((apply c v).body q)
  unfolding apply
  held-apply (Alter x edit) v plain off held = by (same_path q x) refl
    where
      by : (t : Bool) → same_path q x ≡ t → Held w q (if t then option_map (edited edit) (v.body q) else v.body q)
      by true e = held-edited w q edit (v.body q) (subst (λ (y : Path). IsPlainEdit w y edit) (sym (same_path_eq q x e)) plain) held
      by false e = held
  held-apply (Make x body) v plain off held = rw off held
  held-apply (MakeSpace x holder) v plain off held = rw off held
  held-apply (Kill x) v plain off held = by (same_path q x)
    where
      by : (t : Bool) → Held w q (if t then None else option_map (through (death_sweep x) q) (v.body q))
      by true = held-nobody w q
      by false = held-mapped w q (through (death_sweep x) q) (v.body q) (users-through (death_sweep x) q) (native-through (death_sweep x) q) held
  held-apply (Move x slot) v plain off held = rw off (by (same_path q x))
    where
      f : Sweep
      f = following x (slot ∷ parent x)

      by : (t : Bool) → Held w q (if t then None else option_map (through (following x (slot ∷ parent x)) q) (v.body q))
      by true = held-nobody w q
      by false = held-mapped w q (through (following x (slot ∷ parent x)) q) (v.body q) (users-through f q) (native-through f q) held
  held-apply (PutPage space page words) v plain off held = held
  held-apply (DropPage space page) v plain off held = held

  held-all : (cs : List Change) (v : World) → ArePlain w cs → put cs q ≡ false → Held w q (v.body q) → Held w q ((apply_all cs v).body q)
  unfolding apply_all
  held-all [] v plain off held = held
  held-all (c ∷ cs) v plain off held =
      let both = or_parts (puts c q) (put cs q) off in held-all cs (apply c v) plain.1 both.1 (held-apply c v plain.0 both.0 held)

-- ---- who was one is one

-- what holds of a world holds there still
record Stays (w : World) (q : Path) (now : Option Body) : Type 0 where
  users : users_in (w.body q) ≡ true → users_in now ≡ true

stays-mapped : (w : World) (q : Path) (f : Body → Body) (o : Option Body) → ((b : Body) → is_users (f b) ≡ is_users b) → Stays w q o →
    Stays w q (option_map f o)
stays-mapped w q f None users stays = stays
stays-mapped w q f (Some b) users stays = record { users = λ is. users b ∙ stays.users is }

stays-proceeds : (w : World) (q : Path) (mode : Mode) (counter : ℕ) (b : Body) → is_porter mode ≡ false → Stays w q (Some b) →
    Stays w q (Some (edited (Proceed mode counter) b))
unfolding edited
stays-proceeds w q mode counter (Thread_of t) user stays = record { users = λ is. ap not user }
stays-proceeds w q mode counter (Mutex locked) user stays = stays
stays-proceeds w q mode counter b user stays = stays

stays-edited : (w v : World) (q : Path) (edit : Edit) (o : Option Body) → IsPlainEdit v q edit → Stays w q o → Stays w q (option_map (edited edit) o)
stays-edited w v q edit None plain stays = stays
stays-edited w v q (Proceed mode counter) (Some b) plain stays = stays-proceeds w q mode counter b plain.1 stays
stays-edited w v q edit (Some b) plain stays = stays-mapped w q (edited edit) (Some b) (λ c. same-users edit c (same-native edit c refl)) stays

module _ (w : World) (q : Path) where
  stays-apply : (c : Change) (v : World) → IsPlain w c → puts c q ≡ false → takes c q ≡ false → Stays w q (v.body q) → Stays w q ((apply c v).body q)
  unfolding apply
  stays-apply (Alter x edit) v plain off gone stays = by (same_path q x) refl
    where
      by : (t : Bool) → same_path q x ≡ t → Stays w q (if t then option_map (edited edit) (v.body q) else v.body q)
      by true e = stays-edited w w q edit (v.body q) (subst (λ (y : Path). IsPlainEdit w y edit) (sym (same_path_eq q x e)) plain) stays
      by false e = stays
  stays-apply (Make x body) v plain off gone stays = rw off stays
  stays-apply (MakeSpace x holder) v plain off gone stays = rw off stays
  stays-apply (Kill x) v plain off gone stays =
      rw gone (stays-mapped w q (through (death_sweep x) q) (v.body q) (users-through (death_sweep x) q) stays)
  stays-apply (Move x slot) v plain off gone stays =
      rw (off, gone) (stays-mapped w q (through (following x (slot ∷ parent x)) q) (v.body q) (users-through (following x (slot ∷ parent x)) q) stays)
  stays-apply (PutPage space page words) v plain off gone stays = stays
  stays-apply (DropPage space page) v plain off gone stays = stays

  stays-all : (cs : List Change) (v : World) → ArePlain w cs → put cs q ≡ false → taken cs q ≡ false → Stays w q (v.body q) →
      Stays w q ((apply_all cs v).body q)
  unfolding apply_all
  stays-all [] v plain off gone stays = stays
  stays-all (c ∷ cs) v plain off gone stays =
      let both = or_parts (puts c q) (put cs q) off in
      let neither = or_parts (takes c q) (taken cs q) gone in
      stays-all cs (apply c v) plain.1 both.1 neither.1 (stays-apply c v plain.0 both.0 neither.0 stays)

-- ---- a move

pub step-listed : (w : World) (o : Outcome) → (stepped w o).world ≡ apply_all (listed o) w
unfolding apply_all
step-listed w (Goes changes said) = refl
step-listed w (Refused status) = refl
step-listed w Waits = refl

pub users_stood : UsersStood
unfolding step
users_stood w x pick ask q rooted off is =
    let cs = listed (outcome w x pick ask) in
    (held-all w q cs w (moves-plain w x pick ask rooted.root) off (record { users = λ h. h; native = λ h. h })).users
    (ap (λ (v : World). users_in (v.body q)) (sym (step-listed w (outcome w x pick ask))) ∙ is)

pub users_stay : UsersStay
unfolding step
users_stay w x pick ask q rooted off gone is =
    let cs = listed (outcome w x pick ask) in
    ap (λ (v : World). users_in (v.body q)) (step-listed w (outcome w x pick ask))
    ∙ (stays-all w q cs w (moves-plain w x pick ask rooted.root) off gone (record { users = λ h. h })).users is
