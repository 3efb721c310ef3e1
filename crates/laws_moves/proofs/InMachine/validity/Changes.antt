-- Safe changes keep a world valid: consistent, rooted, and its pages in their places.
use Rattle.std.proofs.Common.{◌≡◌, ℕ, ◌<◌, eqb, Bool, true, false, ◌&&◌, if◌then◌else◌, IsSome, List, [], ◌∷◌, Option, Some, None, option_map, refl, sym, ap}
use Rattle.std.proofs.Common.{◌∙◌}
use Rattle.std.proofs.lemmas.Bool.{eqb-true}
use Rattle.fk_model.specs.declared.limits.TheConstants.{SLOTS, PAGES}
use Rattle.fk_model.specs.declared.names.Kind.TheVariants as kinds
use Rattle.fk_model.specs.Places.{Path, same_path}
use Rattle.fk_model.specs.Objects.{Body, kind_of}
use Rattle.fk_model.specs.Objects.Body.{Space}
use Rattle.fk_model.specs.World.{World, Change, apply, apply_all, at_path, edited, through, death_sweep, following, moved_to}
use Rattle.fk_model.specs.World.Change.{Alter, Make, MakeSpace, Kill, Move, PutPage, DropPage}
use Rattle.fk_model.specs.Valid.{IsConsistent, kind_there, IsRooted, HasPlace, IsPaged}
use Rattle.fk_model.proofs.walks.PlaceLaws.{same_path_eq, same_path_ne}
use Rattle.laws_moves.proofs.InMachine.validity.Ties.{facts, valid-from}
use Rattle.laws_moves.proofs.InMachine.validity.Outlines.{Outline, outline_of, outline-kind}
use Rattle.laws_moves.proofs.InMachine.validity.Edits.{valid-edit, outline-edited}
use Rattle.laws_moves.proofs.InMachine.validity.Makes.{valid-make, valid-make_space}
use Rattle.laws_moves.proofs.InMachine.validity.Kills.{valid-kill, outline-without}
use Rattle.laws_moves.proofs.InMachine.validity.Renames.{valid-move, outline-following}
use Rattle.laws_moves.proofs.InMachine.safety.Safe.{IsAlone, IsVacant, IsSafeMove, IsSafe, AreSafe}

-- ---- valid

-- pages say nothing of validity
valid-pages : (w : World) (page : Path → ℕ → Option (List ℕ)) → IsConsistent w → IsConsistent (record w { page = page })
unfolding kind_there
valid-pages w page valid = valid-from (record w { page = page }) (facts w valid) valid.good

pub valid-apply : (c : Change) (w : World) → IsConsistent w → IsSafe w c → IsConsistent (apply c w)
unfolding apply
valid-apply (Alter x edit) w valid safe = valid-edit edit w x safe valid
valid-apply (Make [] body) w valid safe = absurd safe
valid-apply (Make (k ∷ s) body) w valid safe = valid-make w k s body safe valid
valid-apply (MakeSpace [] holder) w valid safe = absurd safe
valid-apply (MakeSpace (k ∷ s) holder) w valid safe = valid-make_space w k s holder safe valid
valid-apply (Kill x) w valid safe = valid-kill w x safe valid
valid-apply (Move [] slot) w valid safe = absurd safe
valid-apply (Move (k ∷ s) slot) w valid safe = valid-move w k s slot safe valid
valid-apply (PutPage space page words) w valid safe = valid-pages w _ valid
valid-apply (DropPage space page) w valid safe = valid-pages w _ valid

pub valid-apply_all : (cs : List Change) (w : World) → IsConsistent w → AreSafe w cs → IsConsistent (apply_all cs w)
unfolding apply_all
valid-apply_all [] w valid safe = valid
valid-apply_all (c ∷ cs) w valid safe = valid-apply_all cs (apply c w) (valid-apply c w valid safe.0) safe.1

-- ---- rooted

live_through : (f : Body → Body) (o : Option Body) → IsSome (option_map f o) → IsSome o
live_through f None h = h
live_through f (Some b) h = refl

same_kind_through : (f : Body → Body) →
    ((b : Body) → outline_of (f b) ≡ outline_of b) → (o : Option Body) → option_map kind_of (option_map f o) ≡ option_map kind_of o
same_kind_through f same None = refl
same_kind_through f same (Some b) = ap (λ (t : Outline). Some t.kind) (same b)

rooted-at : (w : World) (x : Path) (f : Body → Body) → ((b : Body) → outline_of (f b) ≡ outline_of b) → IsRooted w → IsRooted (at_path x (option_map f) w)
unfolding kind_there
rooted-at w x f same rooted = record {
  root = by (same_path [] x);
  slots = λ k y. slot k y (same_path (k ∷ y) x);
}
  where
    by : (t : Bool) → option_map kind_of (if t then option_map f (w.body []) else w.body []) ≡ Some kinds.Space
    by true = same_kind_through f same (w.body []) ∙ rooted.root
    by false = rooted.root

    slot : (k : ℕ) (y : Path) (t : Bool) → IsSome (if t then option_map f (w.body (k ∷ y)) else w.body (k ∷ y)) → k < SLOTS
    slot k y true h = rooted.slots k y (live_through f (w.body (k ∷ y)) h)
    slot k y false h = rooted.slots k y h

rooted-made : (w : World) (k : ℕ) (s : Path) (body : Body) (n : ℕ) →
    IsVacant w k s → IsRooted w → IsRooted (record { body = λ q. if same_path q (k ∷ s) then Some body else w.body q; page = w.page; next = n })
unfolding kind_there same_path
rooted-made w k s body n place rooted = record {
  root = rooted.root;
  slots = λ j y. slot j y (same_path (j ∷ y) (k ∷ s)) refl;
}
  where
    slot : (j : ℕ) (y : Path) (t : Bool) → same_path (j ∷ y) (k ∷ s) ≡ t → IsSome (if t then Some body else w.body (j ∷ y)) → j < SLOTS
    slot j y true e h = let here = same_path_eq (j ∷ y) (k ∷ s) e in let same : j ≡ k = cc in rw same place.slot
    slot j y false e h = rooted.slots j y h

rooted-kill : (w : World) (x : Path) → IsAlone w x → IsRooted w → IsRooted (apply (Kill x) w)
unfolding apply kind_there
rooted-kill w x alone rooted = record {
  root = rw (same_path_ne [] x (λ e. alone.inner (sym e)))
      (outline-kind _ ∙ ap (option_map (λ (f : Outline). f.kind)) (outline-without x [] (w.body [])) ∙ sym (outline-kind (w.body [])) ∙ rooted.root);
  slots = λ k y. slot k y (same_path (k ∷ y) x);
}
  where
    slot : (k : ℕ) (y : Path) (t : Bool) → IsSome (if t then None else option_map (through (death_sweep x) (k ∷ y)) (w.body (k ∷ y))) → k < SLOTS
    slot k y true h = cc
    slot k y false h = rooted.slots k y (live_through (through (death_sweep x) (k ∷ y)) (w.body (k ∷ y)) h)

rooted-move : (w : World) (k : ℕ) (s : Path) (slot : ℕ) → IsSafeMove w k s slot → IsRooted w → IsRooted (apply (Move (k ∷ s) slot) w)
unfolding apply kind_there same_path
rooted-move w k s slot safe rooted = record {
  root = outline-kind _
      ∙ ap (option_map (λ (f : Outline). f.kind)) (outline-following (k ∷ s) (slot ∷ s) [] (w.body [])) ∙ sym (outline-kind (w.body [])) ∙ rooted.root;
  slots = λ j y. by j y (same_path (j ∷ y) (slot ∷ s)) refl (same_path (j ∷ y) (k ∷ s));
}
  where
    by : (j : ℕ) (y : Path) (t : Bool) → same_path (j ∷ y) (slot ∷ s) ≡ t → (r : Bool) →
        IsSome (if t then option_map (through (following (k ∷ s) (slot ∷ s)) (slot ∷ s)) (w.body (k ∷ s))
        else (if r then None else option_map (through (following (k ∷ s) (slot ∷ s)) (j ∷ y)) (w.body (j ∷ y)))) → j < SLOTS
    by j y true e r h = let here = same_path_eq (j ∷ y) (slot ∷ s) e in let same : j ≡ slot = cc in rw same safe.slot_fits
    by j y false e true h = cc
    by j y false e false h = rooted.slots j y (live_through (through (following (k ∷ s) (slot ∷ s)) (j ∷ y)) (w.body (j ∷ y)) h)

pub rooted-apply : (c : Change) (w : World) → IsRooted w → IsSafe w c → IsRooted (apply c w)
unfolding apply kind_there
rooted-apply (Alter x edit) w rooted safe = rooted-at w x (edited edit) (outline-edited edit) rooted
rooted-apply (Make [] body) w rooted safe = absurd safe
rooted-apply (Make (k ∷ s) body) w rooted safe = rooted-made w k s body w.next safe.place rooted
rooted-apply (MakeSpace [] holder) w rooted safe = absurd safe
rooted-apply (MakeSpace (k ∷ s) holder) w rooted safe = rooted-made w k s (Space w.next holder) _ safe.place rooted
rooted-apply (Kill x) w rooted safe = rooted-kill w x safe rooted
rooted-apply (Move [] slot) w rooted safe = absurd safe
rooted-apply (Move (k ∷ s) slot) w rooted safe = rooted-move w k s slot safe rooted
rooted-apply (PutPage space page words) w rooted safe = record { root = rooted.root; slots = rooted.slots }
rooted-apply (DropPage space page) w rooted safe = record { root = rooted.root; slots = rooted.slots }

pub rooted-apply_all : (cs : List Change) (w : World) → IsRooted w → AreSafe w cs → IsRooted (apply_all cs w)
unfolding apply_all
rooted-apply_all [] w rooted safe = rooted
rooted-apply_all (c ∷ cs) w rooted safe = rooted-apply_all cs (apply c w) (rooted-apply c w rooted safe.0) safe.1

-- ---- paged

-- a page that is there, or that is put, has its place: kinds stay where pages are
paged-kept : (w v : World) → IsPaged w → ((s : Path) (page : ℕ) → IsSome (v.page s page) → HasPlace w s page × (kind_there v s ≡ kind_there w s)) → IsPaged v
paged-kept w v paged kept s page there =
    let its = kept s page there in
    record { space = its.1 ∙ its.0.space; number = its.0.number }

paged-at : (w : World) (x : Path) (f : Body → Body) → ((b : Body) → outline_of (f b) ≡ outline_of b) → IsPaged w → IsPaged (at_path x (option_map f) w)
unfolding kind_there
paged-at w x f same paged = paged-kept w (at_path x (option_map f) w) paged (λ s page there. (paged s page there, by s (same_path s x)))
  where
    by : (s : Path) (t : Bool) → option_map kind_of (if t then option_map f (w.body s) else w.body s) ≡ option_map kind_of (w.body s)
    by s true = same_kind_through f same (w.body s)
    by s false = refl

-- no page lies in an empty slot
not_paged : (w : World) → IsPaged w → (x : Path) → w.body x ≡ None → (page : ℕ) → IsSome (w.page x page) → ⊥
unfolding kind_there
not_paged w paged x empty page there = let space = (paged x page there).space in let none : option_map kind_of (w.body x) ≡ None = rw empty refl in cc

paged-made : (w : World) (x : Path) (body : Body) (n : ℕ) →
    w.body x ≡ None → IsPaged w → IsPaged (record { body = λ q. if same_path q x then Some body else w.body q; page = w.page; next = n })
unfolding kind_there
paged-made w x body n empty paged = paged-kept w _ paged (λ s page there. (paged s page there, by s page there (same_path s x) refl))
  where
    by : (s : Path) (page : ℕ) →
        IsSome (w.page s page) → (t : Bool) → same_path s x ≡ t → option_map kind_of (if t then Some body else w.body s) ≡ option_map kind_of (w.body s)
    by s page there true e = let here = same_path_eq s x e in absurd (not_paged w paged x empty page (rw here at there))
    by s page there false e = refl

paged-kill : (w : World) (x : Path) → IsPaged w → IsPaged (apply (Kill x) w)
unfolding apply kind_there
paged-kill w x paged = paged-kept w (apply (Kill x) w) paged (λ s page. by s page (same_path s x))
  where
    by : (s : Path) (page : ℕ) (t : Bool) → IsSome (if t then None else w.page s page) →
        HasPlace w s page × (option_map kind_of (if t then None else option_map (through (death_sweep x) s) (w.body s)) ≡ option_map kind_of (w.body s))
    by s page true there = cc
    by s page false there =
        (paged s page there, outline-kind _ ∙ ap (option_map (λ (f : Outline). f.kind)) (outline-without x s (w.body s)) ∙ sym (outline-kind (w.body s)))

paged-move : (w : World) (x y : Path) → IsPaged w → IsPaged (moved_to x y w)
unfolding kind_there
paged-move w x y paged s page there = let its = by (same_path s y) (same_path s x) there in record { space = its.0; number = its.1 }
  where
    follows : (at : Path) (o : Option Body) → option_map kind_of (option_map (through (following x y) at) o) ≡ option_map kind_of o
    follows at o = outline-kind _ ∙ ap (option_map (λ (f : Outline). f.kind)) (outline-following x y at o) ∙ sym (outline-kind o)

    by : (t r : Bool) → IsSome (if t then w.page x page else (if r then None else w.page s page)) →
        (option_map kind_of (if t then option_map (through (following x y) y) (w.body x)
        else (if r then None else option_map (through (following x y) s) (w.body s))) ≡ Some kinds.Space) × (page < PAGES)
    by true r there = let its = paged x page there in (follows y (w.body x) ∙ its.space, its.number)
    by false true there = cc
    by false false there = let its = paged s page there in (follows s (w.body s) ∙ its.space, its.number)

paged-put : (w : World) (space : Path) (page : ℕ) (words : List ℕ) → HasPlace w space page → IsPaged w → IsPaged (apply (PutPage space page words) w)
unfolding apply kind_there
paged-put w space page words place paged = paged-kept w _ paged (λ s g there. (by s g (same_path s space) refl (eqb g page) refl there, refl))
  where
    by : (s : Path) (g : ℕ) (t : Bool) →
        same_path s space ≡ t → (r : Bool) → eqb g page ≡ r → IsSome (if t && r then Some words else w.page s g) → HasPlace w s g
    by s g true e true f there = let here = same_path_eq s space e in let number = eqb-true g page f in rw (here, number) place
    by s g true e false f there = paged s g there
    by s g false e r f there = paged s g there

paged-drop : (w : World) (space : Path) (page : ℕ) → IsPaged w → IsPaged (apply (DropPage space page) w)
unfolding apply kind_there
paged-drop w space page paged = paged-kept w _ paged (λ s g there. (by s g (same_path s space && eqb g page) there, refl))
  where
    by : (s : Path) (g : ℕ) (t : Bool) → IsSome (if t then None else w.page s g) → HasPlace w s g
    by s g true there = cc
    by s g false there = paged s g there

pub paged-apply : (c : Change) (w : World) → IsPaged w → IsSafe w c → IsPaged (apply c w)
unfolding apply kind_there
paged-apply (Alter x edit) w paged safe = paged-at w x (edited edit) (outline-edited edit) paged
paged-apply (Make [] body) w paged safe = absurd safe
paged-apply (Make (k ∷ s) body) w paged safe = paged-made w (k ∷ s) body w.next safe.place.empty paged
paged-apply (MakeSpace [] holder) w paged safe = absurd safe
paged-apply (MakeSpace (k ∷ s) holder) w paged safe = paged-made w (k ∷ s) (Space w.next holder) _ safe.place.empty paged
paged-apply (Kill x) w paged safe = paged-kill w x paged
paged-apply (Move [] slot) w paged safe = absurd safe
paged-apply (Move (k ∷ s) slot) w paged safe = paged-move w (k ∷ s) (slot ∷ s) paged
paged-apply (PutPage space page words) w paged safe = paged-put w space page words safe paged
paged-apply (DropPage space page) w paged safe = paged-drop w space page paged

pub paged-apply_all : (cs : List Change) (w : World) → IsPaged w → AreSafe w cs → IsPaged (apply_all cs w)
unfolding apply_all
paged-apply_all [] w paged safe = paged
paged-apply_all (c ∷ cs) w paged safe = paged-apply_all cs (apply c w) (paged-apply c w paged safe.0) safe.1
