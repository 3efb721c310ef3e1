-- Places: where something is put, and from where something is taken, by what is told.
use Rattle.std.proofs.Common.{◌≡◌, ℕ, Bool, true, false, ◌||◌, ◌==◌, List, [], ◌∷◌, refl, sym, ap, subst, ◌∙◌, eqb-true}
use Rattle.std.proofs.lemmas.Bool.{and_parts}
use Rattle.fk_model.specs.Places.{Path, same_path, parent}
use Rattle.fk_model.specs.World.{Change}
use Rattle.fk_model.specs.World.Change.{Alter, DropPage, Kill, Make, MakeSpace, Move, PutPage}
use Rattle.fk_model.proofs.walks.PlaceLaws.{same_path_eq, same_path_refl}
use Rattle.fk_store.specs.Store.Paths.{place}
use Rattle.fk_plans.specs.declared.wakes.touching.Touched.{Touched}
use Rattle.fk_plans.specs.declared.wakes.touching.Touched.TheVariants.{Any, Dies, Few, Makes, Moves}
use Rattle.fk_plans.specs.Wakes.Touches.{leave, leaves, makes, moves, dies}
use Rattle.laws_moves.specs.Users.Stood.{put, puts, taken, takes}

abbrev pub is_put_place : (ℕ → Path) → Touched → Path → Bool
is_put_place p (Makes object) x = same_path x (place p object)
is_put_place p (Moves object slot) x = same_path x (slot ∷ p object.space)
is_put_place p other x = false

abbrev pub is_taken_place : (ℕ → Path) → Touched → Path → Bool
is_taken_place p (Dies object) x = same_path x (place p object)
is_taken_place p (Moves object slot) x = same_path x (place p object)
is_taken_place p other x = false

module _ (p : ℕ → Path) where
  made : (t : Touched) (x : Path) → makes p t x ≡ true → is_put_place p t x ≡ true
  made (Makes object) x is = is
  made (Few first second third) x is = absurd (cc)
  made Any x is = absurd (cc)
  made (Dies object) x is = absurd (cc)
  made (Moves object slot) x is = absurd (cc)

  moved : (t : Touched) (x : Path) (slot : ℕ) → moves p t x slot ≡ true → is_put_place p t (slot ∷ parent x) ≡ true
  moved (Moves object to) x slot is =
      let both = and_parts (same_path x (place p object)) (to == slot) is in
      let at : slot ∷ parent x ≡ to ∷ p object.space =
      (λ i. sym (eqb-true to slot both.1) i ∷ parent (same_path_eq x (place p object) both.0 i)) in
      ap (λ (y : Path). same_path y (to ∷ p object.space)) at ∙ same_path_refl (to ∷ p object.space)
  moved (Few first second third) x slot is = absurd (cc)
  moved (Makes object) x slot is = absurd (cc)
  moved Any x slot is = absurd (cc)
  moved (Dies object) x slot is = absurd (cc)

  put_one : (t : Touched) (c : Change) (y : Path) → leaves p t c ≡ true → puts c y ≡ true → is_put_place p t y ≡ true
  put_one t (Make x body) y told is = subst (λ (z : Path). is_put_place p t z ≡ true) (sym (same_path_eq y x is)) (made t x told)
  put_one t (MakeSpace x holder) y told is = subst (λ (z : Path). is_put_place p t z ≡ true) (sym (same_path_eq y x is)) (made t x told)
  put_one t (Move x slot) y told is =
      subst (λ (z : Path). is_put_place p t z ≡ true) (sym (same_path_eq y (slot ∷ parent x) is)) (moved t x slot told)
  put_one t (Alter x edit) y told is = absurd (cc)
  put_one t (Kill x) y told is = absurd (cc)
  put_one t (PutPage space page words) y told is = absurd (cc)
  put_one t (DropPage space page) y told is = absurd (cc)

  -- where something is put is told
  pub put_told : (t : Touched) (cs : List Change) (y : Path) → leave p t cs ≡ true → put cs y ≡ true → is_put_place p t y ≡ true
  put_told t [] y told is = absurd (cc)
  put_told t (c ∷ cs) y told is = by (puts c y) refl (put_told t cs y (and_parts (leaves p t c) (leave p t cs) told).1)
    where
      by : (b : Bool) → puts c y ≡ b → (put cs y ≡ true → is_put_place p t y ≡ true) → is_put_place p t y ≡ true
      by true e rest = put_one t c y (and_parts (leaves p t c) (leave p t cs) told).0 e
      by false e rest = rest (ap (λ (b : Bool). b || put cs y) (sym e) ∙ is)

  dead : (t : Touched) (x : Path) → dies p t x ≡ true → is_taken_place p t x ≡ true
  dead (Dies object) x is = is
  dead (Few first second third) x is = absurd (cc)
  dead (Makes object) x is = absurd (cc)
  dead Any x is = absurd (cc)
  dead (Moves object slot) x is = absurd (cc)

  gone : (t : Touched) (x : Path) (slot : ℕ) → moves p t x slot ≡ true → is_taken_place p t x ≡ true
  gone (Moves object to) x slot is = (and_parts (same_path x (place p object)) (to == slot) is).0
  gone (Few first second third) x slot is = absurd (cc)
  gone (Makes object) x slot is = absurd (cc)
  gone Any x slot is = absurd (cc)
  gone (Dies object) x slot is = absurd (cc)

  taken_one : (t : Touched) (c : Change) (y : Path) → leaves p t c ≡ true → takes c y ≡ true → is_taken_place p t y ≡ true
  taken_one t (Kill x) y told is = subst (λ (z : Path). is_taken_place p t z ≡ true) (sym (same_path_eq y x is)) (dead t x told)
  taken_one t (Move x slot) y told is = subst (λ (z : Path). is_taken_place p t z ≡ true) (sym (same_path_eq y x is)) (gone t x slot told)
  taken_one t (Alter x edit) y told is = absurd (cc)
  taken_one t (Make x body) y told is = absurd (cc)
  taken_one t (MakeSpace x holder) y told is = absurd (cc)
  taken_one t (PutPage space page words) y told is = absurd (cc)
  taken_one t (DropPage space page) y told is = absurd (cc)

  -- and from where something is taken
  pub taken_told : (t : Touched) (cs : List Change) (y : Path) → leave p t cs ≡ true → taken cs y ≡ true → is_taken_place p t y ≡ true
  taken_told t [] y told is = absurd (cc)
  taken_told t (c ∷ cs) y told is = by (takes c y) refl (taken_told t cs y (and_parts (leaves p t c) (leave p t cs) told).1)
    where
      by : (b : Bool) → takes c y ≡ b → (taken cs y ≡ true → is_taken_place p t y ≡ true) → is_taken_place p t y ≡ true
      by true e rest = taken_one t c y (and_parts (leaves p t c) (leave p t cs) told).0 e
      by false e rest = rest (ap (λ (b : Bool). b || taken cs y) (sym e) ∙ is)
