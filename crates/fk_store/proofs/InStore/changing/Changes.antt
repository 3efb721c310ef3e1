-- Changes of a world, as far as a store makes them.
use Rattle.std.proofs.Common.{◌≡◌, ℕ, ◌∷◌, Bool, true, false, cond, Option, Some, None, option_map, IsSome, refl, sym, ap, subst}
use Rattle.fk_model.specs.Places.{Path, same_path, parent}
use Rattle.fk_model.specs.Objects.{Body, kind_of}
use Rattle.fk_model.specs.World.{World, Edit, Sweep, edited, through, death_sweep, following, apply}
use Rattle.fk_model.specs.Objects.Body.{Mutex, Cond, Mapping, Region, Port, Portset, Space, Thread_of, Reference}
use Rattle.fk_model.specs.World.Change.{Make, Alter, Kill, Move}
use Rattle.fk_model.specs.Valid.{kind_there}
use Rattle.fk_store.specs.Store.Makes.{making}
use Rattle.fk_store.proofs.InStore.finding.Walks.{same_path_true}

-- f and g at one path, where they answer alike what stands there
alike_at : (w : World) (x : Path) (f g : Option Body → Option Body) →
    f (w.body x) ≡ g (w.body x) → (q : Path) → cond (same_path q x) (f (w.body q)) (w.body q) ≡ cond (same_path q x) (g (w.body q)) (w.body q)
alike_at w x f g same q = by (same_path q x) refl
  where
    by : (t : Bool) → same_path q x ≡ t → cond t (f (w.body q)) (w.body q) ≡ cond t (g (w.body q)) (w.body q)
    by false e = refl
    by true e = subst (λ y. f (w.body y) ≡ g (w.body y)) (sym (same_path_true q x e)) same

-- a body that is an edit of the one that is there
pub make-alter : (w : World) (x : Path) (new : Body) (e : Edit) → option_map (edited e) (w.body x) ≡ Some new → apply (Make x new) w ≡ apply (Alter x e) w
unfolding apply
make-alter w x new e is = λ i. record { body = λ q. alike_at w x (λ b. Some new) (option_map (edited e)) (sym is) q i; page = w.page; next = w.next }

-- a body of the kind of the one that is there
pub kinds-make : (w : World) (x : Path) (new : Body) → kind_there w x ≡ Some (kind_of new) → kind_there (apply (Make x new) w) ≡ kind_there w
unfolding kind_there apply
kinds-make w x new kind = λ i q. at q i
  where
    at : (q : Path) → option_map kind_of (cond (same_path q x) (Some new) (w.body q)) ≡ option_map kind_of (w.body q)
    at q = by (same_path q x) refl
      where
        by : (t : Bool) → same_path q x ≡ t → option_map kind_of (cond t (Some new) (w.body q)) ≡ option_map kind_of (w.body q)
        by false e = refl
        by true e = subst (λ y. Some (kind_of new) ≡ option_map kind_of (w.body y)) (sym (same_path_true q x e)) (sym kind)

-- what is made where nothing stood leaves the kinds of all else
pub kinds-making : (w : World) (x : Path) (new : Body) →
    w.body x ≡ None → (q : Path) → IsSome (kind_there w q) → kind_there (apply (making x new) w) q ≡ kind_there w q
unfolding kind_there apply
kinds-making w x new none q some = by new
  where
    apart : (t : Bool) → same_path q x ≡ t → t ≡ false
    apart false e = refl
    apart true e = let here = same_path_true q x e in
        let nothing : w.body q ≡ None = rw here none in let kind : option_map kind_of (w.body q) ≡ None = rw nothing refl in absurd (cc)

    made : (b : Option Body) → option_map kind_of (cond (same_path q x) b (w.body q)) ≡ kind_there w q
    made b = rw (apart (same_path q x) refl) refl

    by : (b : Body) → kind_there (apply (making x b) w) q ≡ kind_there w q
    by (Mutex locked) = made (Some (Mutex locked))
    by Cond = made (Some Cond)
    by (Mapping window) = made (Some (Mapping window))
    by (Region extent) = made (Some (Region extent))
    by (Port set served) = made (Some (Port set served))
    by Portset = made (Some Portset)
    by (Space birth holder) = made (Some (Space w.next holder))
    by (Thread_of thread) = made (Some (Thread_of thread))
    by (Reference to) = made (Some (Reference to))

-- a sweep leaves each kind
kind-through : (f : Sweep) (q : Path) (b : Body) → kind_of (through f q b) ≡ kind_of b
kind-through f q (Mutex locked) = refl
kind-through f q Cond = refl
kind-through f q (Mapping window) = refl
kind-through f q (Region extent) = refl
kind-through f q (Port set served) = refl
kind-through f q Portset = refl
kind-through f q (Space birth holder) = refl
kind-through f q (Thread_of thread) = refl
kind-through f q (Reference to) = refl

kinds-through : (f : Sweep) (q : Path) (o : Option Body) → option_map kind_of (option_map (through f q) o) ≡ option_map kind_of o
kinds-through f q None = refl
kinds-through f q (Some b) = ap Some (kind-through f q b)

-- what is destroyed is gone, and all else is of its kind
pub kinds-kill : (w : World) (x q : Path) →
    (same_path q x ≡ true → kind_there (apply (Kill x) w) q ≡ None) × (same_path q x ≡ false → kind_there (apply (Kill x) w) q ≡ kind_there w q)
unfolding kind_there apply
kinds-kill w x q = (λ here. rw here refl, λ apart. rw apart (kinds-through (death_sweep x) q (w.body q)))

-- what is moved is of its kind in its other slot, and its own is empty. All else is of its kind
pub kinds-move : (w : World) (x : Path) (slot : ℕ) (q : Path) → let y = slot ∷ parent x in
    (same_path q y ≡ false → same_path q x ≡ false → kind_there (apply (Move x slot) w) q ≡ kind_there w q)
    × (same_path q y ≡ false → same_path q x ≡ true → kind_there (apply (Move x slot) w) q ≡ None)
    × (same_path q y ≡ true → kind_there (apply (Move x slot) w) q ≡ kind_there w x)
unfolding kind_there apply
kinds-move w x slot q = (
  λ a b. rw (a, b) (kinds-through (following x (slot ∷ parent x)) q (w.body q)),
  λ a b. rw (a, b) refl,
  λ here. rw here (kinds-through (following x (slot ∷ parent x)) (slot ∷ parent x) (w.body x)),
)
