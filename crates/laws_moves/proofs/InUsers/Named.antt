-- Named: where a name leads before a move and after it.
use Rattle.std.proofs.Common.{◌≡◌, ◌≤◌, ℕ, arith, Bool, true, false, if◌then◌else◌, IsSome, List, [], ◌∷◌, Option, Some, None, find, unwrap_or, option_map}
use Rattle.std.proofs.Common.{refl, sym, ap, subst, ◌∙◌, inl, inr, eq-eqb, eqb-true}
use Rattle.std.proofs.lemmas.Bool.{or_parts}
use Rattle.fk_model.specs.declared.moves.Ask.{Ask}
use Rattle.fk_model.specs.declared.names.Who.{Who}
use Rattle.fk_model.specs.Moves.{outcome, step}
use Rattle.fk_model.specs.Objects.{Body, and_then}
use Rattle.fk_model.specs.Objects.Body.{Mutex, Space}
use Rattle.fk_model.specs.Outcomes.{Outcome, listed}
use Rattle.fk_model.specs.Outcomes.Outcome.{Refused, Waits, Goes}
use Rattle.fk_model.specs.Places.{Path, same_path, parent}
use Rattle.fk_model.specs.Searches.{depth, objects}
use Rattle.fk_model.specs.Valid.{birth_at, birth_of, is_fit, IsConsistent, IsValid}
use Rattle.fk_model.specs.Who.{is_born, named, nowhere, space_born}
use Rattle.fk_model.specs.World.{World, Change, Edit, Sweep, apply, apply_all, death_sweep, edited, following, through}
use Rattle.fk_model.specs.World.Change.{Alter, Make, MakeSpace, Kill, Move, PutPage, DropPage}
use Rattle.fk_model.proofs.walks.Members.{IsIn, find_none, find_some}
use Rattle.fk_model.proofs.walks.PlaceLaws.{same_path_eq}
use Rattle.fk_model.proofs.walks.WalkLaws.{in_objects, live_above}
use Rattle.laws_moves.proofs.InMachine.safety.Moves.{outcome-safe}
use Rattle.laws_moves.proofs.InMachine.safety.Outcomes.{SafeOutcome}
use Rattle.laws_moves.proofs.InMachine.safety.Safe.{IsSafe, AreSafe}
use Rattle.laws_moves.proofs.InMachine.safety.Staying.{birth_one}
use Rattle.laws_moves.proofs.InMachine.validity.Changes.{valid-apply}
use Rattle.laws_moves.proofs.InMachine.validity.Edits.{outline-edited}
use Rattle.laws_moves.proofs.InMachine.validity.Outlines.{Outline}
use Rattle.laws_moves.proofs.InMachine.validity.Steps.{facts_of, step_keeps_valid_lem}
use Rattle.laws_moves.specs.Users.Named.{NamesStay, NamesStood, SpacesStay}
use Rattle.laws_moves.specs.Users.Stood.{put, puts, taken, takes}
use Rattle.laws_moves.proofs.InUsers.Stood.{step-listed}

nothing : (o : Option Body) → o ≡ None → IsSome o → ⊥
nothing None e h = cc
nothing (Some b) e h = cc

mapped : (f : Body → Body) (o : Option Body) → IsSome o → IsSome (option_map f o)
mapped f None is = is
mapped f (Some b) is = refl

-- ---- what stands at a place, and what doesn't

-- where nothing stands and nothing is put nothing stands then
none-apply : (c : Change) (v : World) (y : Path) → puts c y ≡ false → v.body y ≡ None → (apply c v).body y ≡ None
unfolding apply
none-apply (Alter x edit) v y off none = by (same_path y x)
  where
    by : (t : Bool) → (if t then option_map (edited edit) (v.body y) else v.body y) ≡ None
    by true = ap (option_map (edited edit)) none
    by false = none
none-apply (Make x body) v y off none = rw off none
none-apply (MakeSpace x holder) v y off none = rw off none
none-apply (Kill x) v y off none = by (same_path y x)
  where
    by : (t : Bool) → (if t then None else option_map (through (death_sweep x) y) (v.body y)) ≡ None
    by true = refl
    by false = ap (option_map (through (death_sweep x) y)) none
none-apply (Move x slot) v y off none = rw off (by (same_path y x))
  where
    by : (t : Bool) → (if t then None else option_map (through (following x (slot ∷ parent x)) y) (v.body y)) ≡ None
    by true = refl
    by false = ap (option_map (through (following x (slot ∷ parent x)) y)) none
none-apply (PutPage space page words) v y off none = none
none-apply (DropPage space page) v y off none = none

none-all : (cs : List Change) (v : World) (y : Path) → put cs y ≡ false → v.body y ≡ None → (apply_all cs v).body y ≡ None
unfolding apply_all
none-all [] v y off none = none
none-all (c ∷ cs) v y off none =
    let both = or_parts (puts c y) (put cs y) off in none-all cs (apply c v) y both.1 (none-apply c v y both.0 none)

-- what isn't taken away stands still
live-apply : (c : Change) (v : World) (y : Path) → IsSafe v c → takes c y ≡ false → IsSome (v.body y) → IsSome ((apply c v).body y)
unfolding apply
live-apply (Alter x edit) v y safe off live = by (same_path y x)
  where
    by : (t : Bool) → IsSome (if t then option_map (edited edit) (v.body y) else v.body y)
    by true = mapped (edited edit) (v.body y) live
    by false = live
live-apply (Make x body) v y safe off live = by (same_path y x)
  where
    by : (t : Bool) → IsSome (if t then Some body else v.body y)
    by true = refl
    by false = live
live-apply (MakeSpace x holder) v y safe off live = by (same_path y x)
  where
    by : (t : Bool) → IsSome (if t then Some (Space v.next holder) else v.body y)
    by true = refl
    by false = live
live-apply (Kill x) v y safe off live = rw off (mapped (through (death_sweep x) y) (v.body y) live)
live-apply (Move [] slot) v y safe off live = absurd safe
live-apply (Move (j ∷ s) slot) v y safe off live = by (same_path y (slot ∷ s))
  where
    by : (t : Bool) → IsSome (if t then option_map (through (following (j ∷ s) (slot ∷ s)) (slot ∷ s)) (v.body (j ∷ s))
        else (if same_path y (j ∷ s) then None else option_map (through (following (j ∷ s) (slot ∷ s)) y) (v.body y)))
    by true = mapped (through (following (j ∷ s) (slot ∷ s)) (slot ∷ s)) (v.body (j ∷ s)) safe.live
    by false = rw off (mapped (through (following (j ∷ s) (slot ∷ s)) y) (v.body y) live)
live-apply (PutPage space page words) v y safe off live = live
live-apply (DropPage space page) v y safe off live = live

-- ---- a space in which something stands

-- from the first world on, where that isn't taken away
births-forth : (cs : List Change) (v : World) (k : ℕ) (x : Path) → IsConsistent v → AreSafe v cs → taken cs (k ∷ x) ≡ false → IsSome (v.body (k ∷ x)) →
    birth_at (apply_all cs v) x ≡ birth_at v x
unfolding apply_all
births-forth [] v k x valid safe off live = refl
births-forth (c ∷ cs) v k x valid safe off live =
    let both = or_parts (takes c (k ∷ x)) (taken cs (k ∷ x)) off in
    births-forth cs (apply c v) k x (valid-apply c v valid safe.0) safe.1 both.1 (live-apply c v (k ∷ x) safe.0 both.0 live)
    ∙ birth_one v valid k x live c safe.0

-- and back from the last one, where that wasn't put there
births-back : (cs : List Change) (v : World) (k : ℕ) (x : Path) → IsConsistent v → AreSafe v cs → put cs (k ∷ x) ≡ false →
    IsSome ((apply_all cs v).body (k ∷ x)) → birth_at (apply_all cs v) x ≡ birth_at v x
unfolding apply_all
births-back [] v k x valid safe off live = refl
births-back (c ∷ cs) v k x valid safe off live =
    let both = or_parts (puts c (k ∷ x)) (put cs (k ∷ x)) off in
    births-back cs (apply c v) k x (valid-apply c v valid safe.0) safe.1 both.1 live ∙ birth_one v valid k x (there (v.body (k ∷ x)) refl) c safe.0
  where
    there : (o : Option Body) → v.body (k ∷ x) ≡ o → IsSome (v.body (k ∷ x))
    there (Some b) e = rw e refl
    there None e =
        let both = or_parts (puts c (k ∷ x)) (put cs (k ∷ x)) off in
        absurd (nothing ((apply_all cs (apply c v)).body (k ∷ x)) (none-all cs (apply c v) (k ∷ x) both.1 (none-apply c v (k ∷ x) both.0 e)) live)

-- ---- a space that isn't taken away

birth-mapped : (f : Body → Body) (o : Option Body) → ((b : Body) → birth_of (f b) ≡ birth_of b) → and_then birth_of (option_map f o) ≡ and_then birth_of o
birth-mapped f None same = refl
birth-mapped f (Some b) same = same b

birth-edited : (edit : Edit) (b : Body) → birth_of (edited edit b) ≡ birth_of b
birth-edited edit b = ap (λ (o : Outline). o.birth) (outline-edited edit b)

birth-through : (f : Sweep) (q : Path) (b : Body) → birth_of (through f q b) ≡ birth_of b
birth-through f q (Space birth holder) = refl
birth-through f q (Mutex locked) = refl
birth-through f q b = refl

-- where nothing stands no space does
unborn : {X : Type 0} (v : World) (y : Path) (b : ℕ) → v.body y ≡ None → birth_at v y ≡ Some b → X
unborn v y b none is = let off : None ≡ Some b = ap (and_then birth_of) (sym none) ∙ is in absurd (cc)

birth-apply : (c : Change) (v : World) (y : Path) (b : ℕ) → IsSafe v c → takes c y ≡ false → birth_at v y ≡ Some b → birth_at (apply c v) y ≡ Some b
unfolding apply
birth-apply (Alter x edit) v y b safe off is = by (same_path y x)
  where
    by : (t : Bool) → and_then birth_of (if t then option_map (edited edit) (v.body y) else v.body y) ≡ Some b
    by true = birth-mapped (edited edit) (v.body y) (birth-edited edit) ∙ is
    by false = is
birth-apply (Make [] body) v y b safe off is = absurd safe
birth-apply (Make (k ∷ s) body) v y b safe off is = by (same_path y (k ∷ s)) refl
  where
    by : (t : Bool) → same_path y (k ∷ s) ≡ t → and_then birth_of (if t then Some body else v.body y) ≡ Some b
    by true e = unborn v y b (ap v.body (same_path_eq y (k ∷ s) e) ∙ safe.place.empty) is
    by false e = is
birth-apply (MakeSpace [] holder) v y b safe off is = absurd safe
birth-apply (MakeSpace (k ∷ s) holder) v y b safe off is = by (same_path y (k ∷ s)) refl
  where
    by : (t : Bool) → same_path y (k ∷ s) ≡ t → and_then birth_of (if t then Some (Space v.next holder) else v.body y) ≡ Some b
    by true e = unborn v y b (ap v.body (same_path_eq y (k ∷ s) e) ∙ safe.place.empty) is
    by false e = is
birth-apply (Kill x) v y b safe off is =
    rw off (birth-mapped (through (death_sweep x) y) (v.body y) (birth-through (death_sweep x) y) ∙ is)
birth-apply (Move [] slot) v y b safe off is = absurd safe
birth-apply (Move (j ∷ s) slot) v y b safe off is = by (same_path y (slot ∷ s)) refl
  where
    f : Sweep
    f = following (j ∷ s) (slot ∷ s)

    by : (t : Bool) → same_path y (slot ∷ s) ≡ t → and_then birth_of (if t then option_map (through f (slot ∷ s)) (v.body (j ∷ s))
        else (if same_path y (j ∷ s) then None else option_map (through f y) (v.body y))) ≡ Some b
    by true e = unborn v y b (ap v.body (same_path_eq y (slot ∷ s) e) ∙ safe.empty) is
    by false e = rw off (birth-mapped (through f y) (v.body y) (birth-through f y) ∙ is)
birth-apply (PutPage space page words) v y b safe off is = is
birth-apply (DropPage space page) v y b safe off is = is

birth-all : (cs : List Change) (v : World) (y : Path) (b : ℕ) → AreSafe v cs → taken cs y ≡ false → birth_at v y ≡ Some b →
    birth_at (apply_all cs v) y ≡ Some b
unfolding apply_all
birth-all [] v y b safe off is = is
birth-all (c ∷ cs) v y b safe off is =
    let both = or_parts (takes c y) (taken cs y) off in
    birth-all cs (apply c v) y b safe.1 both.1 (birth-apply c v y b safe.0 both.0 is)

-- ---- birth numbers

born_is : (n : ℕ) (o : Option ℕ) → is_born n o ≡ true → o ≡ Some n
born_is n (Some found) h = ap Some (eqb-true found n h)
born_is n None h = cc

birth_some : (w : World) (x : Path) (n : ℕ) → birth_at w x ≡ Some n → IsSome (w.body x)
birth_some w x n h = by (w.body x) refl h
  where
    by : (o : Option Body) → w.body x ≡ o → birth_at w x ≡ Some n → IsSome (w.body x)
    by (Some b) e h = rw e refl
    by None e h = let none = rw e at h in cc

module _ (w : World) (valid : IsValid w) (few : w.next ≤ depth) (n : ℕ) where
  among : (x : Path) → IsSome (w.body x) → IsIn x ([] ∷ objects w)
  among [] live = inl refl
  among (k ∷ x) live = inr (in_objects w valid.consistent valid.rooted few k x live)

  -- the space that a birth number names is that which has it
  pub named_is : (x : Path) → birth_at w x ≡ Some n → space_born w n ≡ x
  unfolding space_born
  named_is x h = by (find (λ s. is_born n (birth_at w s)) ([] ∷ objects w)) refl
    where
      by : (o : Option Path) → find (λ s. is_born n (birth_at w s)) ([] ∷ objects w) ≡ o → unwrap_or o nowhere ≡ x
      by (Some s) e =
          let found = find_some (λ s. is_born n (birth_at w s)) s ([] ∷ objects w) e in
          valid.consistent.apart s x n (born_is n (birth_at w s) found.1) h
      by None e =
          let fails = find_none (λ s. is_born n (birth_at w s)) x ([] ∷ objects w) e (among x (birth_some w x n h)) in
          let holds : is_born n (birth_at w x) ≡ true = rw h (eq-eqb n n refl) in
          absurd (cc)

  -- nothing lies where a number names nothing, so what is there lies in a space of that number
  pub named_there : (k : ℕ) → IsSome (w.body (k ∷ space_born w n)) → birth_at w (space_born w n) ≡ Some n
  unfolding space_born
  named_there k live = by (find (λ s. is_born n (birth_at w s)) ([] ∷ objects w)) refl live
    where
      by : (o : Option Path) → find (λ s. is_born n (birth_at w s)) ([] ∷ objects w) ≡ o → IsSome (w.body (k ∷ unwrap_or o nowhere)) →
          birth_at w (unwrap_or o nowhere) ≡ Some n
      by (Some s) e live = let found = find_some (λ s. is_born n (birth_at w s)) s ([] ∷ objects w) e in born_is n (birth_at w s) found.1
      by None e live = let low = valid.rooted.slots 256 [] (live_above w valid.consistent k nowhere live) in absurd (omega (arith, low))

  -- a number that names a space names one that has it
  pub named_found : (space_born w n ≡ nowhere → ⊥) → birth_at w (space_born w n) ≡ Some n
  unfolding space_born
  named_found some = by (find (λ s. is_born n (birth_at w s)) ([] ∷ objects w)) refl some
    where
      by : (o : Option Path) → find (λ s. is_born n (birth_at w s)) ([] ∷ objects w) ≡ o → (unwrap_or o nowhere ≡ nowhere → ⊥) →
          birth_at w (unwrap_or o nowhere) ≡ Some n
      by (Some s) e some = let found = find_some (λ s. is_born n (birth_at w s)) s ([] ∷ objects w) e in born_is n (birth_at w s) found.1
      by None e some = absurd (some refl)

-- nothing stands nowhere
pub none_nowhere : (w : World) → IsValid w → (k : ℕ) → IsSome (w.body (k ∷ nowhere)) → ⊥
none_nowhere w valid k live = let low = valid.rooted.slots 256 [] (live_above w valid.consistent k nowhere live) in omega (arith, low)

-- ---- names

module _ (w v : World) (cs : List Change) (valid : IsValid w) (few : w.next ≤ depth) (then_valid : IsValid v) (then_few : v.next ≤ depth)
    (safe : AreSafe w cs) (is : v ≡ apply_all cs w) (who : Who) where
  stays : IsSome (w.body (named w who)) → taken cs (named w who) ≡ false → named v who ≡ named w who
  stays live off =
      let x = space_born w who.space in
      let born = named_there w valid few who.space who.slot live in
      let kept : birth_at v x ≡ Some who.space =
      ap (λ (u : World). birth_at u x) is ∙ births-forth cs w who.slot x valid.consistent safe off live ∙ born in
      ap (λ (y : Path). who.slot ∷ y) (named_is v then_valid then_few who.space x kept)

  stood : IsSome (v.body (named v who)) → put cs (named v who) ≡ false → named v who ≡ named w who
  stood live off =
      let x = space_born v who.space in
      let born = named_there v then_valid then_few who.space who.slot live in
      let there : IsSome ((apply_all cs w).body (who.slot ∷ x)) = subst (λ (u : World). IsSome (u.body (who.slot ∷ x))) is live in
      let was : birth_at w x ≡ Some who.space =
      sym (births-back cs w who.slot x valid.consistent safe off there) ∙ ap (λ (u : World). birth_at u x) (sym is) ∙ born in
      ap (λ (y : Path). who.slot ∷ y) (sym (named_is w valid few who.space x was))

safe-listed : (w : World) (o : Outcome) → SafeOutcome w o → AreSafe w (listed o)
safe-listed w (Goes changes said) safe = safe.safe
safe-listed w (Refused status) safe = tt
safe-listed w Waits safe = tt

module _ (w : World) (x : Path) (pick : Option Path) (ask : Ask) (valid : IsValid w) (few : w.next ≤ depth) (fit : is_fit w x ask ≡ true) where
  pub are_safe : AreSafe w (listed (outcome w x pick ask))
  are_safe = safe-listed w (outcome w x pick ask) (outcome-safe w x pick ask (facts_of w valid few) fit)

  stepped-is : (step w x pick ask).world ≡ apply_all (listed (outcome w x pick ask)) w
  unfolding step
  stepped-is = step-listed w (outcome w x pick ask)

pub names_stay : NamesStay
names_stay w x pick ask valid few fit then_few who live off =
    stays w (step w x pick ask).world (listed (outcome w x pick ask)) valid few (step_keeps_valid_lem w x pick ask valid few fit) then_few
    (are_safe w x pick ask valid few fit) (stepped-is w x pick ask valid few fit) who live off

pub names_stood : NamesStood
names_stood w x pick ask valid few fit then_few who live off =
    stood w (step w x pick ask).world (listed (outcome w x pick ask)) valid few (step_keeps_valid_lem w x pick ask valid few fit) then_few
    (are_safe w x pick ask valid few fit) (stepped-is w x pick ask valid few fit) who live off

pub spaces_stay : SpacesStay
spaces_stay w x pick ask valid few fit then_few y b is off =
    let v = (step w x pick ask).world in
    let cs = listed (outcome w x pick ask) in
    let here : birth_at v y ≡ Some b =
    ap (λ (u : World). birth_at u y) (stepped-is w x pick ask valid few fit) ∙ birth-all cs w y b (are_safe w x pick ask valid few fit) off is in
    (here, named_is v (step_keeps_valid_lem w x pick ask valid few fit) then_few b y here)
