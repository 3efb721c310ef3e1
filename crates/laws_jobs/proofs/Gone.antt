-- A reference that is destroyed: nothing leads to it, so it takes nothing with it.
use Rattle.std.proofs.Common.{◌≡◌, ℕ, zero, suc, Bool, true, false, cond, IsSome, List, [], ◌∷◌, Option, Some, None, option_map, Ok, refl, sym, subst, ◌∙◌}
use Rattle.std.specs.List.{list_any}
use Rattle.fk_model.specs.declared.limits.TheConstants.{SLOTS, LAST_PORTER_SLOT}
use Rattle.fk_model.specs.declared.names.Kind.TheVariants as kinds
use Rattle.fk_model.specs.declared.stage.Stage.TheVariants.{Destroy}
use Rattle.fk_model.specs.declared.statuses.status.TheConstants.{OK}
use Rattle.fk_model.specs.Places.{Path, same_path, is_within, Ptr, leads_to}
use Rattle.fk_model.specs.Objects.{Body}
use Rattle.fk_model.specs.Objects.Body.{Reference}
use Rattle.fk_model.specs.World.{World, apply}
use Rattle.fk_model.specs.World.Change.{Kill}
use Rattle.fk_model.specs.Searches.{lowest, depth, first_resident, leaf_by, leaf}
use Rattle.fk_model.specs.Holds.{is_frozen_for}
use Rattle.fk_model.specs.Freezing.{body_pointers}
use Rattle.fk_model.specs.Outcomes.Outcome.{Goes}
use Rattle.fk_model.specs.Outcomes.Said.{Answered}
use Rattle.fk_model.specs.Readers.{anything, object_in, space_argument}
use Rattle.fk_model.specs.ObjectRows.{destroy}
use Rattle.fk_model.specs.Moves.{call_row}
use Rattle.fk_model.specs.Valid.{IsValid, kind_there}
use Rattle.laws_moves.proofs.InMachine.Frame.{apply-body}
use Rattle.fk_model.proofs.walks.PlaceLaws.{same_path_eq, same_path_refl, same_path_ne}
use Rattle.laws_jobs.specs.Machines.{no_words, porter}
use Rattle.laws_jobs.specs.Leads.{ReferenceGoesAlone}
use Rattle.laws_jobs.proofs.Dropped.{there_live, unswept}

pub leaf_alone : (n : ℕ) (w : World) (y : Path) → first_resident w y ≡ None → leaf_by n w y ≡ y
unfolding leaf_by
leaf_alone zero w y h = refl
leaf_alone (suc n) w y h = rw h refl

pub lowest_off : {A : Type 0} (n : ℕ) (f : ℕ → Option A) → ((k : ℕ) → f k ≡ None) → lowest n f ≡ None
unfolding lowest
lowest_off zero f h = refl
lowest_off (suc n) f h = rw (lowest_off n f h, h n) refl

-- ---- a reference is destroyed

module _ (w : World) (valid : IsValid w) (x : Path) (to : Ptr) (there : w.body x ≡ Some (Reference to)) where
  kind_is : kind_there w x ≡ Some kinds.Reference
  unfolding kind_there
  kind_is = rw there refl

  pub bodies_stay : (y : Path) → same_path y x ≡ false → (apply (Kill x) w).body y ≡ w.body y
  bodies_stay y apart = apply-body (Kill x) w y (rw (apart, unswept (kind_there w) x kind_is y (w.body y) (valid.consistent.good y)) refl)

  pub gone : (apply (Kill x) w).body x ≡ None
  unfolding apply
  gone = rw (same_path_refl x) refl

  no_page : (page : ℕ) → w.page x page ≡ None
  no_page page = by (w.page x page) refl
    where
      by : (o : Option (List ℕ)) → w.page x page ≡ o → o ≡ None
      by None e = refl
      by (Some words) e =
          let live : IsSome (w.page x page) = rw e refl in
          let place = valid.paged x page live in
          let space = place.space in
          let both = sym kind_is ∙ space in
          cc

  pub pages_stay : (y : Path) (page : ℕ) → (apply (Kill x) w).page y page ≡ w.page y page
  unfolding apply
  pages_stay y page = by (same_path y x) refl
    where
      by : (t : Bool) → same_path y x ≡ t → cond t None (w.page y page) ≡ w.page y page
      by true e = let same = same_path_eq y x e in rw same (sym (no_page page))
      by false e = refl

  pub not_there : (y q : Path) → list_any (leads_to y) (body_pointers (w.body q)) ≡ true → same_path y x ≡ false
  not_there y q led = same_path_ne y x (λ e.
      let here : list_any (leads_to x) (body_pointers (w.body q))
      ≡ true = subst (λ (y : Path). list_any (leads_to y) (body_pointers (w.body q)) ≡ true) e led in
      there_live (kind_there w) x kind_is q (w.body q) (valid.consistent.good q) here)

  nobody : (k : ℕ) → w.body (k ∷ x) ≡ None
  nobody k = by (w.body (k ∷ x)) refl
    where
      by : (o : Option Body) → w.body (k ∷ x) ≡ o → o ≡ None
      by None e = refl
      by (Some b) e =
          let live : IsSome (w.body (k ∷ x)) = rw e refl in
          let space = valid.consistent.parents k x live in
          let both = sym kind_is ∙ space in
          cc

  its_leaf : leaf w x ≡ x
  unfolding leaf
  its_leaf = leaf_alone depth w x (lowest_off SLOTS (λ k. option_map (λ b. k) (w.body (k ∷ x))) (λ k. rw (nobody k) refl))

module _ (nester : Path) (w : World) (valid : IsValid w) where
  abbrev me : Path
  me = LAST_PORTER_SLOT ∷ nester

  pub destroy-row : (s x : ℕ) (space : Path) (to : Ptr) → w.body (x ∷ space) ≡ Some (Reference to) → space_argument w (porter nester no_words) s ≡ Ok space
      → object_in w (porter nester no_words) anything space x ≡ Ok (Reference to) →
      is_frozen_for w me (x ∷ space) ≡ false → is_within (x ∷ space) nester ≡ false →
      call_row w (porter nester no_words) None (Destroy s x) ≡ Goes (Kill (x ∷ space) ∷ []) (Answered OK [])
  unfolding call_row destroy
  destroy-row s x space to there h object free apart = rw
      (h, object, free, apart, its_leaf w valid (x ∷ space) to there, free, there, same_path_refl (x ∷ space)) refl

pub reference_goes_alone : ReferenceGoesAlone
reference_goes_alone w x to valid there = (λ y apart. bodies_stay w valid x to there y apart, λ y page. pages_stay w valid x to there y page)
