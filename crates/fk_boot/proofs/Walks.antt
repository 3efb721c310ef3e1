-- Walks down to a space, and what is made there.
use Rattle.std.proofs.Common.{◌≡◌, ◌≢◌, ◌==◌, Bool, true, ℕ, suc, ◌-◌, ◌<◌, ◌≤◌, List, [], ◌∷◌, ◌++◌, append_assoc, length, get_or, take, drop}
use Rattle.std.proofs.Common.{reverse, Some, None, refl, sym, ap, ◌∙◌, arith}
use Rattle.std.proofs.Math.Seq.{drop-cons, take-suc}
use Rattle.std.proofs.lemmas.Grind.{reverse_onto}
use Rattle.std.proofs.lemmas.List.{reverse-append, take_all}
use Rattle.fk_model.specs.Places.{Path}
use Rattle.fk_model.specs.Objects.{Body}
use Rattle.fk_model.specs.Valid.{birth_at}
use Rattle.fk_model.specs.World.{World, apply, apply_all}
use Rattle.fk_model.specs.World.Change.{Make, MakeSpace}
use Rattle.fk_model.proofs.walks.PlaceLaws.{same_path_refl}
use Rattle.fk_store.specs.Store.Contents.{Contents}
use Rattle.fk_store.specs.Store.Makes.{making}
use Rattle.fk_scenario.specs.declared.entries.types.Spec.{Spec}
use Rattle.fk_scenario.specs.declared.entries.types.Spec.TheVariants as specs
use Rattle.fk_store.specs.Store.Paths.{path, space_at}
use Rattle.fk_store.specs.Store.World.{world, IsSpace}
use Rattle.fk_store.proofs.InStore.finding.LookUps.{birth_at-space_at}
use Rattle.fk_store.proofs.InStore.finding.Walks.{path-root, not_root}
use Rattle.fk_boot.specs.FirstWorld.{first_body, space_itself}
use Rattle.fk_boot.specs.MadeSoFar.{AreBorn}

pub root-space : (m : Contents) → IsSpace m 0
unfolding space_at
root-space m = rw path-root (birth_at-space_at m [])

-- no space lies beneath a place where none is
none-beneath : (m : Contents) (s q : Path) → birth_at (world m) s ≡ None → birth_at (world m) (q ++ s) ≡ None
unfolding space_at
none-beneath m s [] h = h
none-beneath m s (k ∷ q) h =
    let above : space_at m (q ++ s) ≡ None = sym (birth_at-space_at m (q ++ s)) ∙ none-beneath m s q h in
    birth_at-space_at m (k ∷ (q ++ s)) ∙ rw above refl

-- a walk that ends before its last slot
pub lost : (m : Contents) (slots : List ℕ) (i space : ℕ) → i < length slots → reverse (drop i slots) ++ path m space ≡ reverse slots
    → birth_at (world m) (get_or slots i 0 ∷ path m space) ≡ None → birth_at (world m) (reverse slots) ≡ None
lost m slots i space h left none =
    let k = get_or slots i 0 in
    let rest = drop (suc i) slots in
    let first : reverse (drop i slots) ≡ reverse rest ++ k ∷ [] = ap reverse (drop-cons slots i 0 h) ∙ reverse_onto rest k [] in
    let there : reverse slots ≡ reverse rest
    ++ (k ∷ path m space) = sym left ∙ ap (λ (x : List ℕ). x ++ path m space) first ∙ append_assoc (reverse rest) (k ∷ []) (path m space) in
    rw there (none-beneath m (k ∷ path m space) (reverse rest) none)

-- ---- the last slot

pub no-slots : (slots : List ℕ) → (length slots == 0) ≡ true → slots ≡ []
no-slots [] h = refl
no-slots (k ∷ slots) h = let some = not_root (length (k ∷ slots)) (omega arith) in absurd (cc)

pub last : (slots : List ℕ) → 1 ≤ length slots → reverse slots ≡ get_or slots (length slots - 1) 0 ∷ reverse (take (length slots - 1) slots)
last slots h =
    let n = length slots - 1 in
    let all : take (suc n) slots ≡ slots = take_all (suc n) slots (omega arith) in
    let parts : slots ≡ take n slots ++ get_or slots n 0 ∷ [] = sym all ∙ take-suc slots n 0 (omega arith) in
    ap reverse parts ∙ reverse-append (take n slots) (get_or slots n 0 ∷ [])

pub made-space : (w : World) (x : Path) → birth_at (apply (MakeSpace x None) w) x ≡ Some w.next
unfolding apply
made-space w x = rw (same_path_refl x) refl

-- an object of a scenario is no space
making-first : (x : Path) (served : Bool) (spec : Spec) → making x (first_body served spec) ≡ Make x (first_body served spec)
making-first x served (specs.Thread entry regs stops) = refl
making-first x served (specs.Mutex locked) = refl
making-first x served specs.Cond = refl
making-first x served specs.Portset = refl
making-first x served (specs.Mapping region first count offset write) = refl
making-first x served (specs.Region first count write keeper) = refl
making-first x served (specs.Port set) = refl
making-first x served (specs.Reference to) = refl

-- an object is made
pub makes : (x y : Path) (b : Body) (served : Bool) (spec : Spec) (w v : World) → y ≡ x → b ≡ first_body served spec → v ≡ apply (making y b) w
    → v ≡ apply_all (Make x (first_body served spec) ∷ []) w
unfolding apply_all
makes x y b served spec w v e f h = h ∙ ap (λ c. apply c w) (ap (λ z. making z b) e ∙ (ap (making x) f ∙ making-first x served spec))

pub makes-space : (x y : Path) (w v : World) (k : ℕ) (s : Path) → y ≡ k ∷ s → y ≡ x → v ≡ apply (MakeSpace y None) w → v ≡ apply_all (space_itself x) w
unfolding apply_all
makes-space x y w v k s whole e h = rw (← e, whole) (rw whole at h)

-- the new space is there, where the paths of the older ones are what they were
pub new-space : (m n : Contents) (space slot : ℕ) → AreBorn (world m) → IsSpace m space → world n ≡ apply (MakeSpace (slot ∷ path m space) None) (world m)
    → path n (world m).next ≡ slot ∷ path n space → ((other : ℕ) → other ≢ (world m).next → path n other ≡ path m other) → IsSpace n (world m).next
new-space m n space slot born is e home kept =
    let older : space < (world m).next = born (path m space) space is in
    let same : path n space ≡ path m space = kept space (λ e. omega arith) in
    rw (e, home, same) (made-space (world m) (slot ∷ path m space))
