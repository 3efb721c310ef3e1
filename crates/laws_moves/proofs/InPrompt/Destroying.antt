-- A stage of destroy that goes removes one object.
use Rattle.std.proofs.Common.{◌≡◌, ℕ, ◌&&◌, Bool, true, false, not, if◌then◌else◌, is_some, List, [], ◌∷◌, ◌++◌, Option, Some, None, option_map, Result, Ok}
use Rattle.std.proofs.Common.{Err, zero, suc, refl, ap, sym, ◌∙◌, subst}
use Rattle.fk_model.specs.declared.stage.Stage.TheVariants.{Destroy}
use Rattle.fk_model.specs.declared.limits.TheConstants.{SLOTS}
use Rattle.fk_model.specs.declared.statuses.status.TheConstants.{HELD, DENIED}
use Rattle.fk_model.specs.Places.{Path, same_path, is_within}
use Rattle.fk_model.specs.Objects.{Body}
use Rattle.fk_model.specs.World.{World, Change, Edit, apply, apply_all, edited, through, death_sweep}
use Rattle.fk_model.specs.World.Change.{Alter, Kill}
use Rattle.fk_model.specs.World.Edit.{End, Finish}
use Rattle.fk_model.specs.Searches.{depth, first_resident, leaf_from, leaf_by, leaf}
use Rattle.fk_model.specs.Holds.{is_frozen_for}
use Rattle.fk_model.specs.Outcomes.{Said, Outcome, ◌>>=◌, refuse, Caller, path_of, done, stays, telling}
use Rattle.fk_model.specs.Outcomes.Said.{Nothing}
use Rattle.fk_model.specs.Outcomes.Outcome.{Refused, Goes}
use Rattle.fk_model.specs.Readers.{object_in, anything, space_argument}
use Rattle.fk_model.specs.LinkRows.{end_all, user_at}
use Rattle.fk_model.specs.ObjectRows.{kills, destroys, destroy, ends_with, told_with}
use Rattle.fk_model.specs.Moves.{Step, call_row, closed, stepped, porter_at}
use Rattle.fk_model.proofs.walks.Lowest.{lowest-found}
use Rattle.laws_moves.proofs.InMachine.safety.Reads.{object-there}
use Rattle.laws_moves.specs.Prompt.Brief.{RemovesOne, Destroys, UsersDestroyOne, PortersDestroyOne}
use Rattle.laws_moves.proofs.InPrompt.Movers.{users-step, porters-step, unpicked}

-- ---- changes

alter-stays : (x : Path) (edit : Edit) (w : World) (q : Path) → is_some ((apply (Alter x edit) w).body q) ≡ is_some (w.body q)
unfolding apply
alter-stays x edit w q = by (same_path q x) (w.body q)
  where
    by : (t : Bool) (o : Option Body) → is_some (if t then option_map (edited edit) o else o) ≡ is_some o
    by true None = refl
    by true (Some b) = refl
    by false o = refl

kill-takes : (x : Path) (w : World) (q : Path) → is_some ((apply (Kill x) w).body q) ≡ (is_some (w.body q) && not (same_path q x))
unfolding apply
kill-takes x w q = by (same_path q x) (w.body q)
  where
    by : (t : Bool) (o : Option Body) → is_some (if t then None else option_map (through (death_sweep x) q) o) ≡ (is_some o && not t)
    by true None = refl
    by true (Some b) = refl
    by false None = refl
    by false (Some b) = refl

ends-stay : (ends : List Path) (after : List Change) (w : World) (q : Path) → ((v : World) → is_some ((apply_all after v).body q) ≡ is_some (v.body q)) →
    is_some ((apply_all (end_all ends ++ after) w).body q) ≡ is_some (w.body q)
unfolding apply_all
ends-stay [] after w q stays = stays w
ends-stay (x ∷ ends) after w q stays = ends-stay ends after _ q stays ∙ alter-stays x _ w q

-- an object goes, calls end, and the caller's too or not
lost-by : (w : World) (gone : Path) (ends : List Path) (after : List Change) → is_some (w.body gone) ≡ true →
    ((v : World) (q : Path) → is_some ((apply_all after v).body q) ≡ is_some (v.body q)) → RemovesOne w (apply_all (Kill gone ∷ end_all ends ++ after) w)
unfolding apply_all
lost-by w gone ends after there stays = record {
  gone = gone;
  there = there;
  rest = λ q. ends-stay ends after (apply (Kill gone) w) q (λ v. stays v q) ∙ kill-takes gone w q;
}

none-after : (v : World) (q : Path) → is_some ((apply_all [] v).body q) ≡ is_some (v.body q)
unfolding apply_all
none-after v q = refl

own-after : (x : Path) (edit : Edit) (v : World) (q : Path) → is_some ((apply_all (Alter x edit ∷ []) v).body q) ≡ is_some (v.body q)
unfolding apply_all
own-after x edit v q = alter-stays x edit v q

-- ---- the first leaf of an object stands

-- what is found at a slot of a space stands there
found-there : (w : World) (x : Path) (k : ℕ) → first_resident w x ≡ Some k → is_some (w.body (k ∷ x)) ≡ true
found-there w x k e = let found = lowest-found SLOTS (λ k. option_map (λ (b : Body). k) (w.body (k ∷ x))) k e in by found.0 (w.body (found.0 ∷ x)) refl found.1
  where
    by : (j : ℕ) (o : Option Body) → w.body (j ∷ x) ≡ o → option_map (λ (b : Body). j) o ≡ Some k → is_some (w.body (k ∷ x)) ≡ true
    by j None at h = cc
    by j (Some b) at h = let same : j ≡ k = cc in ap (λ j. is_some (w.body (j ∷ x))) (sym same) ∙ ap is_some at

leaf_by-there : (n : ℕ) (w : World) (x : Path) → is_some (w.body x) ≡ true → is_some (w.body (leaf_by n w x)) ≡ true
unfolding leaf_by
leaf_by-there zero w x there = there
leaf_by-there (suc n) w x there = by (first_resident w x) refl (λ k. leaf_by-there n w (k ∷ x))
  where
    by : (o : Option ℕ) → first_resident w x ≡ o → ((k : ℕ) → is_some (w.body (k ∷ x)) ≡ true → is_some (w.body (leaf_by n w (k ∷ x))) ≡ true) →
        is_some (w.body (leaf_from (λ k. leaf_by n w (k ∷ x)) x o)) ≡ true
    by None e rest = there
    by (Some k) e rest = rest k (found-there w x k e)

leaf-there : (w : World) (x : Path) → is_some (w.body x) ≡ true → is_some (w.body (leaf w x)) ≡ true
unfolding leaf
leaf-there w x there = leaf_by-there depth w x there

-- ---- the row

module _ (w : World) (c : Caller) where
  abbrev Lost : Outcome → Type 0
  Lost o = Destroys w (stepped w (closed c o)).world o

  lost-refused : (status : ℕ) → Lost (Refused status)
  lost-refused status = by c.is_porter
    where
      by : (porter : Bool) (q : Path) → is_some ((stepped w (closed (record c { is_porter = porter }) (Refused status))).world.body q) ≡ is_some (w.body q)
      by true = none-after w
      by false = own-after (path_of c) (End status []) w

  lost-read : {A : Type 0} (r : Result A ℕ) (go : A → Outcome) → ((a : A) → r ≡ Ok a → Lost (go a)) → Lost (r >>= go)
  lost-read (Ok a) go going = going a refl
  lost-read (Err status) go going = lost-refused status

  lost-telling : (said : Said) (o : Outcome) → Lost o → Lost (telling said o)
  lost-telling said (Goes cs Nothing) lost = lost
  lost-telling said o lost = lost

  append-none : (cs : List Change) → cs ++ [] ≡ cs
  append-none [] = refl
  append-none (c ∷ cs) = ap (λ cs. c ∷ cs) (append-none cs)

  -- the changes of a kill alone
  lost-kills : (gone : Path) → is_some (w.body gone) ≡ true → RemovesOne w (apply_all (kills w gone) w)
  lost-kills gone there =
      subst (λ cs. RemovesOne w (apply_all (Kill gone ∷ cs) w)) (append-none (end_all (ends_with w gone (w.body gone))))
      (lost-by w gone (ends_with w gone (w.body gone)) [] there none-after)

  lost-done : (gone : Path) → is_some (w.body gone) ≡ true → Lost (done c (kills w gone) [])
  lost-done gone there = by c.is_porter
    where
      by : (porter : Bool) →
          let o = done (record c { is_porter = porter }) (kills w gone) [] in Destroys w (stepped w (closed (record c { is_porter = porter }) o)).world o
      by true = lost-kills gone there
      by false = lost-by w gone (ends_with w gone (w.body gone)) (Alter (path_of c) (Finish []) ∷ []) there (own-after (path_of c) (Finish []))

  lost-if : (t : Bool) (a b : Outcome) → Lost a → Lost b → Lost (if t then a else b)
  lost-if true a b first second = first
  lost-if false a b first second = second

  lost-destroys : (x gone : Path) → is_some (w.body gone) ≡ true → Lost (destroys w c x gone)
  lost-destroys x gone there =
      lost-telling (told_with w gone (w.body gone)) _ (lost-if (same_path gone x) _ _ (lost-done gone there) (lost-kills gone there))

  row-lost : (s x : ℕ) → Lost (destroy w c s x)
  unfolding destroy
  row-lost s x =
      lost-read (space_argument w c s) _ (λ space place. lost-read (object_in w c anything space x) _ (λ b object.
      lost-read (refuse HELD (is_frozen_for w (path_of c) (x ∷ space))) _ (λ e free. lost-read (refuse DENIED (is_within (x ∷ space) c.space)) _ (λ e may.
      lost-read (refuse HELD (is_frozen_for w (path_of c) (leaf w (x ∷ space)))) _ (λ e loose.
      lost-destroys (x ∷ space) (leaf w (x ∷ space)) (leaf-there w (x ∷ space) (ap is_some (object-there w c x space b object))))))))

pub users_destroy_one : UsersDestroyOne
unfolding call_row
users_destroy_one w space slot s x at =
    subst (λ (step : Step). Destroys w step.world (destroy w (user_at (slot ∷ space)) s x))
    (sym (users-step w space slot (Destroy s x) at
    ∙ ap (λ o. stepped w (closed (user_at (slot ∷ space)) o)) (unpicked (destroy w (user_at (slot ∷ space)) s x))))
    (row-lost w (user_at (slot ∷ space)) s x)

pub porters_destroy_one : PortersDestroyOne
unfolding call_row
porters_destroy_one w space slot s x given at =
    subst (λ (step : Step). Destroys w step.world (destroy w (porter_at (slot ∷ space) given) s x))
    (sym (porters-step w space slot (Destroy s x) given at
    ∙ ap (λ o. stepped w (closed (porter_at (slot ∷ space) given) o)) (unpicked (destroy w (porter_at (slot ∷ space) given) s x))))
    (row-lost w (porter_at (slot ∷ space) given) s x)
