-- A held subtree is destroyed, whatever others do between the stages.
use Rattle.std.proofs.Common.{◌≡◌, ℕ, zero, suc, ◌+◌, Bool, true, false, if◌then◌else◌, is_some, List, [], ◌∷◌, ◌++◌, length, Option, Some, None}
use Rattle.std.proofs.Common.{option_map, refl, sym, ap, subst, arith, ◌∙◌}
use Rattle.fk_model.specs.declared.limits.TheConstants.{OWN_SPACE}
use Rattle.fk_model.specs.declared.stage.Stage.TheVariants.{Destroy}
use Rattle.fk_model.specs.declared.statuses.status.TheConstants.{ENDED}
use Rattle.fk_model.specs.Places.{Path, same_path}
use Rattle.fk_model.specs.Places.Ptr.{At}
use Rattle.fk_model.specs.Objects.{Body, and_then}
use Rattle.fk_model.specs.Holds.{holder_of}
use Rattle.fk_model.specs.LinkRows.{end_all}
use Rattle.fk_model.specs.ObjectRows.{ends_with, kills}
use Rattle.fk_model.specs.Runs.{Event, after}
use Rattle.fk_model.specs.Valid.{IsValid, birth_of, birth_at}
use Rattle.fk_model.specs.World.{World, edited, through, death_sweep, apply, apply_all}
use Rattle.fk_model.specs.World.Change.{Alter, Kill}
use Rattle.fk_model.specs.World.Edit.{End}
use Rattle.fk_model.proofs.walks.PlaceLaws.{same_path_eq}
use Rattle.laws_moves.specs.Frozen.Holding.{IsUsersMove}
use Rattle.laws_moves.proofs.InFrozen.Holding.{others_keep_hold}
use Rattle.laws_moves.specs.Savable.Savable.{IsSound}
use Rattle.laws_moves.proofs.InMachine.validity.Edits.{outline-edited}
use Rattle.laws_moves.proofs.InMachine.validity.Kills.{outline-without}
use Rattle.laws_jobs.specs.Calls.{IsUnheldOutside}
use Rattle.laws_jobs.specs.Machines.{no_words, call_of, IsReadyAt, Interleaved, own_moves}
use Rattle.laws_jobs.specs.Machines.Head.{Stops}
use Rattle.laws_jobs.specs.Machines.Interleaved.{Here, Another, Own}
use Rattle.laws_jobs.proofs.Weaving.{first_sound, last_sound}
use Rattle.laws_restore.specs.Restore.Restore.{objects}
use Rattle.laws_restore.specs.Restore.Rooms.{Room}
use Rattle.laws_restore.specs.Restore.Roomed.{IsRoomed}
use Rattle.laws_restore.specs.Restore.Stages.{is_among}
use Rattle.laws_restore.proofs.InRestore.Emptying.{AreApart, IsEmptied, emptied_others, gone, world, calm_ready, left_world, fewer, next_emptied, all_gone}
use Rattle.laws_restore.proofs.InRestore.Emptying.{is_gone}
use Rattle.laws_restore.proofs.InRestore.Listed.{made, standing_length, made_there, standing_apart}
use Rattle.laws_migrate.specs.Births.{IsSpent}
use Rattle.laws_migrate.specs.Clearing.{State, destroying, clearing, MayClear, SubtreeIsDestroyed, ClearingIsReady}
use Rattle.laws_migrate.specs.Clearing.State.{Left, Over}
use Rattle.laws_migrate.specs.Clearing.End.{Destroyed}
use Rattle.laws_migrate.proofs.Births.{kept_birth, each, on}

-- ---- births after one object's death

ends_birth : (ends : List Path) (u : World) (y : Path) → birth_at (apply_all (end_all ends) u) y ≡ birth_at u y
unfolding apply_all apply
ends_birth [] u y = refl
ends_birth (x ∷ ends) u y = ends_birth ends (apply (Alter x (End ENDED [])) u) y ∙ by (same_path y x)
  where
    by : (t : Bool) → and_then birth_of (if t then option_map (edited (End ENDED [])) (u.body y) else u.body y) ≡ and_then birth_of (u.body y)
    by true = kept_birth (option_map (edited (End ENDED [])) (u.body y)) (u.body y) (each (edited (End ENDED [])) (outline-edited (End ENDED [])) (u.body y))
    by false = refl

kills_birth : (v : World) (x y : Path) → same_path y x ≡ false → birth_at (apply_all (kills v x) v) y ≡ birth_at v y
unfolding apply_all apply
kills_birth v x y apart =
    ends_birth (ends_with v x (v.body x)) (apply (Kill x) v) y
    ∙ rw apart (kept_birth (option_map (through (death_sweep x) y) (v.body y)) (v.body y) (outline-without x y (v.body y)))

module _ (nester : Path) (slot birth : ℕ) where
  abbrev root : Path
  root = slot ∷ nester

  pub record IsLeft (v : World) (more : ℕ) : Type 0 where
    pub xs : List Path
    pub emptied : IsEmptied nester slot v xs
    pub many : length xs ≡ suc more
    pub named : birth_at v (slot ∷ nester) ≡ Some birth

  -- ---- at the beginning

  module _ (bind : ℕ → ℕ) (c : World) (rooms : List Room) (its : IsRoomed bind c rooms) where
    pub begun : (v : World) → MayClear nester slot birth c v → IsLeft v (objects rooms)
    unfolding AreApart same_path
    begun v may = record {
      xs = [] ∷ made bind c rooms its;
      emptied = record { holding = may.holding; apart = (standing_apart bind c rooms its).1; listed = listed; scratch = may.scratch };
      many = let long = standing_length bind c rooms its in omega (arith, long);
      named = may.named;
    }
      where
        there : (o : Option Body) → holder_of o ≡ Some (At (255 ∷ nester)) → is_some o ≡ true
        there (Some b) h = refl
        there None h = cc

        listed : (q : Path) → is_some (v.body (q ++ root)) ≡ is_among q ([] ∷ made bind c rooms its)
        listed [] = there (v.body root) may.holding.holder
        listed (k ∷ q) = may.stands (k ∷ q) ∙ made_there bind c rooms its k q

  -- ---- others

  pub left_others : (v : World) (e : Event) (more : ℕ) → IsUsersMove nester v e → IsLeft v more → IsLeft (after v e) more
  left_others v e more moves left =
      let kept = others_keep_hold nester slot v e left.emptied.holding moves in
      record {
        xs = left.xs;
        emptied = emptied_others nester slot v e left.xs left.emptied moves;
        many = left.many;
        named = ap (λ (o : Option Body). and_then birth_of o) (kept.inside.bodies []) ∙ left.named;
      }

  -- ---- its own stages

  module _ (v : World) (sound : IsSound v) (ready : IsReadyAt v (destroying nester slot)) where
    pub left_own : (more : ℕ) → IsSound (after v (destroying nester slot)) → IsLeft v (suc more) → IsLeft (after v (destroying nester slot)) more
    left_own more later left =
        let valid = sound.whole.valid in
        let is = world nester slot v valid left.xs left.emptied ready in
        let valid_after : IsValid (left_world nester slot v valid left.xs left.emptied) = subst IsValid is later.whole.valid in
        let next = next_emptied nester slot v valid left.xs left.emptied valid_after more left.many in
        subst (λ (u : World). IsLeft u more) (sym is) (record {
          xs = _;
          emptied = next;
          many = (let few = fewer nester slot v valid left.xs left.emptied in let many = left.many in omega (arith, few, many));
          named = kills_birth v (gone nester slot v valid left.xs left.emptied) root (apart (gone nester slot v valid left.xs left.emptied)
              (is_gone v (gone nester slot v valid left.xs left.emptied)) next.holding.holder) ∙ left.named;
        })
      where
        no_one : (o : Option Body) → is_some o ≡ false → holder_of o ≡ Some (At (255 ∷ nester)) → ⊥
        no_one (Some b) off h = cc
        no_one None off h = cc

        apart : (x : Path) → is_some ((apply_all (kills v x) v).body x) ≡ false → holder_of ((apply_all (kills v x) v).body root) ≡ Some (At (255 ∷ nester))
            → same_path root x ≡ false
        apart x off held = by (same_path root x) refl
          where
            by : (t : Bool) → same_path root x ≡ t → t ≡ false
            by false e = refl
            by true e = let here = same_path_eq root x e in
                absurd (no_one ((apply_all (kills v x) v).body x) off
                (subst (λ (y : Path). holder_of ((apply_all (kills v x) v).body y) ≡ Some (At (255 ∷ nester))) here held))

    pub left_last : IsLeft v zero → ((q : Path) → (after v (destroying nester slot)).body (q ++ root) ≡ None) × IsSpent (after v (destroying nester slot)) birth
    left_last left =
        let valid = sound.whole.valid in
        let is = world nester slot v valid left.xs left.emptied ready in
        let none = all_gone nester slot v valid left.xs left.emptied left.many in
        let x = gone nester slot v valid left.xs left.emptied in
        let born = valid.consistent.born root birth left.named in
        subst (λ (u : World). ((q : Path) → u.body (q ++ root) ≡ None) × IsSpent u birth) (sym is)
        (none, (on (kills v x) v birth born, λ y h. spent x none y h))
      where
        spent : (x : Path) → ((q : Path) → (apply_all (kills v x) v).body (q ++ root) ≡ None) → (y : Path)
            → birth_at (apply_all (kills v x) v) y ≡ Some birth → ⊥
        spent x none y h = by (same_path y x) refl
          where
            nobody : (o : Option Body) → o ≡ None → and_then birth_of o ≡ Some birth → ⊥
            nobody None e h = cc
            nobody (Some b) e h = cc

            by : (t : Bool) → same_path y x ≡ t → ⊥
            by false e =
                let here = sound.whole.valid.consistent.apart y root birth (sym (kills_birth v x y e) ∙ h) left.named in
                nobody ((apply_all (kills v x) v).body root) (none []) (subst (λ (z : Path). birth_at (apply_all (kills v x) v) z ≡ Some birth) here h)
            by true e =
                let here = same_path_eq y x e in
                gone_birth ((apply_all (kills v x) v).body x) (is_gone v x) (subst (λ (z : Path). birth_at (apply_all (kills v x) v) z ≡ Some birth) here h)
              where
                gone_birth : (o : Option Body) → is_some o ≡ false → and_then birth_of o ≡ Some birth → ⊥
                gone_birth None e h = cc
                gone_birth (Some b) e h = cc

  -- ---- every interleaving

  abbrev Ending : World → Type 0
  Ending v = ((q : Path) → v.body (q ++ root) ≡ None) × IsSpent v birth

  over_here : (u v : World) (es : List Event) (s : State) → s ≡ Over → (run : Interleaved (clearing slot) nester u s es v Over) → (v ≡ u) × (own_moves run ≡ 0)
  over_here _ _ _ _ e (Here u s sound) = (refl, refl)
  over_here _ v _ _ e (Another u s f es _ _ sound works moves rest) =
      let stops : (clearing slot).head s ≡ Stops Destroyed = ap (λ (x : State). (clearing slot).head x) e in
      let both = sym stops ∙ works.2 in
      cc
  over_here _ v _ _ e (Own u s stage words es _ _ sound asks ready rest) =
      let stops : (clearing slot).head s ≡ Stops Destroyed = ap (λ (x : State). (clearing slot).head x) e in
      let both = sym stops ∙ asks in
      cc

  ends : (w v : World) (es : List Event) (more : ℕ) → IsLeft w more → (run : Interleaved (clearing slot) nester w (Left more) es v Over) →
      ((q : Path) → v.body (q ++ root) ≡ None) × IsSpent v birth × (own_moves run ≡ more + 1)
  ends _ v _ more left (Another w _ e es _ _ sound works moves rest) = ends (after w e) v es more (left_others w e more moves left) rest
  ends _ v _ zero left (Own w _ stage words es _ _ sound asks ready rest) =
      let stages : Destroy OWN_SPACE slot ≡ stage = cc in
      let given : no_words ≡ words = cc in
      let same : destroying nester slot ≡ call_of nester stage words = λ i. call_of nester (stages i) (given i) in
      let here = left_last w sound (subst (IsReadyAt w) (sym same) ready) left in
      let there = over_here (after w (call_of nester stage words)) v es Over refl rest in
      let its : Ending v = subst Ending (sym there.0) (subst (λ (e : Event). Ending (after w e)) same here) in
      (its.0, its.1, ap suc there.1)
  ends _ v _ (suc more) left (Own w _ stage words es _ _ sound asks ready rest) =
      let stages : Destroy OWN_SPACE slot ≡ stage = cc in
      let given : no_words ≡ words = cc in
      let same : destroying nester slot ≡ call_of nester stage words = λ i. call_of nester (stages i) (given i) in
      let later = first_sound (clearing slot) nester (after w (call_of nester stage words)) (Left more) es v Over rest in
      let here = left_own w sound (subst (IsReadyAt w) (sym same) ready) more (subst (λ (e : Event). IsSound (after w e)) (sym same) later) left in
      let its = ends (after w (call_of nester stage words)) v es more (subst (λ (e : Event). IsLeft (after w e) more) same here) rest in
      (its.0, its.1, (let count = its.2 in omega (arith, count)))

  still_left : (w v : World) (es : List Event) (more less : ℕ) → IsLeft w more → Interleaved (clearing slot) nester w (Left more) es v (Left less)
      → IsLeft v less
  still_left _ _ _ more _ left (Here w s sound) = left
  still_left _ v _ more less left (Another w _ e es _ _ sound works moves rest) = still_left (after w e) v es more less (left_others w e more moves left) rest
  still_left _ v _ zero less left (Own w _ stage words es _ _ sound asks ready rest) = absurd (never (after w (call_of nester stage words)) v es Over refl rest)
    where
      never : (u v : World) (es : List Event) (s : State) → s ≡ Over → Interleaved (clearing slot) nester u s es v (Left less) → ⊥
      never _ _ _ _ e (Here u s sound) = cc
      never _ v _ _ e (Another u s f es _ _ sound works moves rest) =
          let stops : (clearing slot).head s ≡ Stops Destroyed = ap (λ (x : State). (clearing slot).head x) e in
          let both = sym stops ∙ works.2 in
          cc
      never _ v _ _ e (Own u s stage words es _ _ sound asks ready rest) =
          let stops : (clearing slot).head s ≡ Stops Destroyed = ap (λ (x : State). (clearing slot).head x) e in
          let both = sym stops ∙ asks in
          cc
  still_left _ v _ (suc more) less left (Own w _ stage words es _ _ sound asks ready rest) =
      let stages : Destroy OWN_SPACE slot ≡ stage = cc in
      let given : no_words ≡ words = cc in
      let same : destroying nester slot ≡ call_of nester stage words = λ i. call_of nester (stages i) (given i) in
      let later = first_sound (clearing slot) nester (after w (call_of nester stage words)) (Left more) es v (Left less) rest in
      let here = left_own w sound (subst (IsReadyAt w) (sym same) ready) more (subst (λ (e : Event). IsSound (after w e)) (sym same) later) left in
      still_left (after w (call_of nester stage words)) v es more less (subst (λ (e : Event). IsLeft (after w e) more) same here) rest

  pub left_ready : (v : World) (more : ℕ) → IsSound v → IsUnheldOutside root v → IsLeft v more → IsReadyAt v (destroying nester slot)
  left_ready v more sound calm left = calm_ready nester slot v sound.whole.valid left.xs left.emptied calm

pub subtree_is_destroyed : SubtreeIsDestroyed
subtree_is_destroyed nester slot birth bind c rooms w v es its may run = ends nester slot birth w v es (objects rooms)
    (begun nester slot birth bind c rooms its w may) run

pub clearing_is_ready : ClearingIsReady
clearing_is_ready nester slot birth bind c rooms w v es more its may run calm =
    left_ready nester slot birth v more (last_sound (clearing slot) nester w (Left (objects rooms)) es v (Left more) run) calm
    (still_left nester slot birth w v es (objects rooms) more (begun nester slot birth bind c rooms its w may) run)
