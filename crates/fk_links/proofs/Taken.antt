-- Taken: a wait that takes a client leaves the rest of its caller's call.
use Rattle.std.proofs.Common.{◌≡◌, ℕ, Bool, true, false, cond, List, [], ◌∷◌, Option, option_map, refl, ap, subst}
use Rattle.fk_model.specs.declared.stage.Stage.{Stage}
use Rattle.fk_model.specs.declared.stage.Stage.TheVariants.{Connect, Wait}
use Rattle.fk_model.specs.Objects.{Talk, and_then, thread_of}
use Rattle.fk_model.specs.Places.{Path, same_path}
use Rattle.fk_model.specs.World.{World, Edit, apply, edited}
use Rattle.fk_model.specs.World.Change.{Alter}
use Rattle.fk_model.specs.World.Edit.{Finish, SetTalk}
use Rattle.fk_store.specs.Store.Threads.{todo_at, todo_of_thread}
use Rattle.fk_store.proofs.InStore.finding.Walks.{same_path_true}
use Rattle.fk_changes.specs.declared.threads.answers.Answers.TheVariants.{Two}
use Rattle.fk_changes.specs.Threads.Answers.{LeaveArguments}
use Rattle.fk_changes.specs.Threads.Firsts.{IsFirst}
use Rattle.fk_links.specs.Connects.{is_connecting}

elsewhere : (w : World) (x y : Path) (e : Edit) → same_path x y ≡ false → todo_at (apply (Alter y e) w) x ≡ todo_at w x
unfolding todo_at apply
elsewhere w x y e other = ap (λ b. todo_of_thread (and_then thread_of (cond b (option_map (edited e) (w.body x)) (w.body x)))) other

leaves : (a b : ℕ) (todo : List Stage) → is_connecting todo ≡ false → LeaveArguments (Two a b) todo
leaves a b [] none = tt
leaves a b (Connect h ∷ []) none = tt
leaves a b (Connect h ∷ next ∷ todo) none = absurd (cc)
leaves a b (other ∷ todo) none = tt

-- the client, who connects, isn't the caller, who doesn't
pub client_apart : (w : World) (me x : Path) (talk : Option Talk) (a b : ℕ) → is_connecting (todo_at w me) ≡ false → is_connecting (todo_at w x) ≡ true →
    LeaveArguments (Two a b) (todo_at (apply (Alter x (Finish [])) (apply (Alter x (SetTalk talk)) w)) me)
client_apart w me x talk a b mine theirs = by (same_path me x) refl
  where
    by : (same : Bool) → same_path me x ≡ same → LeaveArguments (Two a b) (todo_at (apply (Alter x (Finish [])) (apply (Alter x (SetTalk talk)) w)) me)
    by true e = let one = subst (λ y. is_connecting (todo_at w y) ≡ false) (same_path_true me x e) mine in absurd (cc)
    by false e = rw (elsewhere (apply (Alter x (SetTalk talk)) w) me x (Finish []) e, elsewhere w me x (SetTalk talk) e) (leaves a b (todo_at w me) mine)

-- nor does one that is at a wait, or in no call
pub first_apart : (set : ℕ) (todo : List Stage) → IsFirst (Wait set) todo → is_connecting todo ≡ false
first_apart set [] is = refl
first_apart set (first ∷ later) is = rw is refl
