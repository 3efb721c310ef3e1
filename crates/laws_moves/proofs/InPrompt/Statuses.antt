-- What a reader refuses it refuses with a status that isn't OK.
use Rattle.std.proofs.Common.{◌≡◌, ℕ, Bool, true, false, ◌==◌, if◌then◌else◌, nat_le, ◌∷◌, Option, Some, None, Result, Ok, Err, refl}
use Rattle.fk_model.specs.declared.limits.TheConstants.{OWN_SPACE}
use Rattle.fk_model.specs.declared.names.Kind.{Kind}
use Rattle.fk_model.specs.declared.names.Kind.TheVariants as kinds
use Rattle.fk_model.specs.declared.statuses.status.TheConstants.{OK, BADHANDLE, WRONGKIND}
use Rattle.fk_model.specs.Places.{Path, Ptr}
use Rattle.fk_model.specs.Places.Ptr.{Null, Dead, At, Out, Outside, Far}
use Rattle.fk_model.specs.Objects.{Body, same_kind, kind_of}
use Rattle.fk_model.specs.Objects.Body.{Reference}
use Rattle.fk_model.specs.World.{World}
use Rattle.fk_model.specs.Outcomes.{Caller, last_slot, or_refuse}
use Rattle.fk_model.specs.Readers.{and_read, slot_for, seen_as, object_in, kind_at, is_kind, led_to, handled, handle, path_at, space_argument}

abbrev pub IsTold : {A : Type 0} → Result A ℕ → Type 0
IsTold (Ok a) = Unit {0}
IsTold (Err status) = (status == OK) ≡ false

told-if : {A : Type 0} (t : Bool) (a b : Result A ℕ) → IsTold a → IsTold b → IsTold (if t then a else b)
told-if true a b first second = first
told-if false a b first second = second

told-and_read : {A B : Type 0} (r : Result A ℕ) (go : A → Result B ℕ) → IsTold r → ((a : A) → IsTold (go a)) → IsTold (and_read r go)
told-and_read (Ok a) go told going = going a
told-and_read (Err status) go told going = told

told-or_refuse : {A : Type 0} (status : ℕ) (o : Option A) → (status == OK) ≡ false → IsTold (or_refuse status o)
told-or_refuse status None told = told
told-or_refuse status (Some a) told = tt

told-slot_for : (c : Caller) (k : ℕ) → IsTold (slot_for c k)
told-slot_for c k = told-if (nat_le k (last_slot c)) (Ok k) (Err BADHANDLE) tt refl

told-seen_as : {A : Type 0} (view : Body → Option A) (o : Option Body) → IsTold (seen_as view o)
told-seen_as view None = refl
told-seen_as view (Some b) = told-or_refuse WRONGKIND (view b) refl

pub told-object_in : {A : Type 0} (w : World) (c : Caller) (view : Body → Option A) (s : Path) (k : ℕ) → IsTold (object_in w c view s k)
unfolding object_in
told-object_in w c view s k = told-and_read (slot_for c k) (λ k. seen_as view (w.body (k ∷ s))) (told-slot_for c k) (λ k. told-seen_as view (w.body (k ∷ s)))

told-led_to : (w : World) (wanted : Kind) (p : Ptr) → IsTold (led_to w wanted p)
told-led_to w wanted Null = refl
told-led_to w wanted Dead = refl
told-led_to w wanted (At x) = told-if (is_kind wanted (kind_at w (At x))) (Ok (At x)) (Err WRONGKIND) tt refl
told-led_to w wanted (Out slot) = told-if (is_kind wanted (kind_at w (Out slot))) (Ok (Out slot)) (Err WRONGKIND) tt refl
told-led_to w wanted Outside = refl
told-led_to w wanted Far = refl

told-handled : (w : World) (wanted : Kind) (x : Path) (o : Option Body) → IsTold (handled w wanted x o)
told-handled w wanted x None = refl
told-handled w wanted x (Some (Reference to)) = told-led_to w wanted to
told-handled w wanted x (Some b) = told-if (same_kind wanted (kind_of b)) (Ok (At x)) (Err WRONGKIND) tt refl

told-handle : (w : World) (c : Caller) (wanted : Kind) (h : ℕ) → IsTold (handle w c wanted h)
unfolding handle
told-handle w c wanted h = told-and_read (slot_for c h) (λ h. handled w wanted (h ∷ c.space) (w.body (h ∷ c.space))) (told-slot_for c h)
    (λ h. told-handled w wanted (h ∷ c.space) (w.body (h ∷ c.space)))

told-path_at : (p : Ptr) → IsTold (path_at p)
told-path_at (At x) = tt
told-path_at p = refl

pub told-space_argument : (w : World) (c : Caller) (s : ℕ) → IsTold (space_argument w c s)
unfolding space_argument
told-space_argument w c s = told-if (s == OWN_SPACE) (Ok c.space) (and_read (handle w c kinds.Space s) path_at) tt
    (told-and_read (handle w c kinds.Space s) path_at (told-handle w c kinds.Space s) told-path_at)
