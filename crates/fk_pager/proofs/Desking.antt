-- Where the desk of a pager is, and why there is none.
use Rattle.std.proofs.Common.{◌≡◌, ℕ, Bool, true, false, is_some, ◌∷◌, [], Some, None, refl, sym, ap, subst, ◌∙◌, eq-eqb}
use Rattle.fk_model.specs.declared.limits.TheConstants.{LAST_PORTER_SLOT}
use Rattle.fk_model.specs.declared.names.Who.{Who}
use Rattle.fk_model.specs.LinkRows.{is_member}
use Rattle.fk_model.specs.Objects.{and_then, holds}
use Rattle.fk_model.specs.Places.{Path, same_path, slot_of, parent}
use Rattle.fk_model.specs.StateRows.{is_native}
use Rattle.fk_model.specs.Valid.{birth_of, birth_at}
use Rattle.fk_store.specs.Store.Contents.{Contents}
use Rattle.fk_store.specs.Store.Paths.{path}
use Rattle.fk_store.specs.Store.World.{world, place_of, IsSpace}
use Rattle.fk_store.proofs.InStore.finding.Walks.{path-root, same_path_refl}
use Rattle.fk_pager.specs.Desks.{root, keeps_all, first_region, HasDesk, IsPageable}
use Rattle.fk_pager.specs.Seen.{is_set, leads_some, is_hindrance}
use Rattle.fk_pager.proofs.Barred.{mapless, alone, ours, barred, same-port, same-set}
use Rattle.fk_pager.proofs.Hindering.{root-space, born-space}

differ : (b : Bool) → b ≡ true → b ≡ false → ⊥
differ b e f = cc

-- no space is in the slot
pub no-space : (m : Contents) (slot : ℕ) → birth_at (world m) (slot ∷ root) ≡ None → IsPageable (world m) slot → ⊥
no-space m slot none page =
    let found : is_some (and_then birth_of ((world m).body (slot ∷ root))) ≡ true = born-space ((world m).body (slot ∷ root)) ∙ page.2.space in
    differ _ found (ap is_some none)

-- its porter isn't there
pub no-nester : (m : Contents) (slot : ℕ) (there : Bool) → there ≡ holds is_native ((world m).body (LAST_PORTER_SLOT ∷ root)) → there ≡ false →
    IsPageable (world m) slot → ⊥
no-nester m slot there is none page = differ there (is ∙ page.2.nester) none

-- no region keeps all its pages
pub no-keeper : (m : Contents) (slot space : ℕ) → path m space ≡ slot ∷ root →
    ((p : Path) → holds (keeps_all p) (first_region (world m) (path m space)) ≡ false) → IsPageable (world m) slot → ⊥
no-keeper m slot space born none page =
    differ _ page.2.kept (ap (λ (s : Path). holds (keeps_all (page.0 ∷ root)) (first_region (world m) s)) (sym born) ∙ none (page.0 ∷ root))

module _ (m : Contents) (slot space : ℕ) (born : path m space ≡ slot ∷ root) (port : Who)
    (keeps : (p : Path) → holds (keeps_all p) (first_region (world m) (path m space)) ≡ leads_some p (Some (place_of m port))) where
  keeps-here : (p : Path) → holds (keeps_all p) (first_region (world m) (slot ∷ root)) ≡ leads_some p (Some (place_of m port))
  keeps-here p = ap (λ (s : Path). holds (keeps_all p) (first_region (world m) s)) (sym born) ∙ keeps p

  -- the port is the one that was found
  placed : (p set : ℕ) → HasDesk (world m) slot p set → place_of m port ≡ p ∷ root
  placed p set desk = let same = same-port (world m) slot (Some (place_of m port)) keeps-here p set desk in cc

  pub no-set : ((set : ℕ) → is_member set ((world m).body (place_of m port)) ≡ false) → IsPageable (world m) slot → ⊥
  no-set none page =
      let at = placed page.0 page.1 page.2 in
      differ _ page.2.member (ap (λ (x : Path). is_member page.1 ((world m).body x)) (sym at) ∙ none page.1)

  pub not-root : IsSpace m port.space → (port.space ≡ 0 → ⊥) → IsPageable (world m) slot → ⊥
  not-root there other page =
      let at = placed page.0 page.1 page.2 in
      let top : path m port.space ≡ [] = ap parent at in
      let numbers : Some port.space ≡ Some 0 = sym there ∙ ap (birth_at (world m)) (top ∙ sym (path-root m)) ∙ root-space m in
      let nought : port.space ≡ 0 = cc in
      other nought

  module _ (set : ℕ) (members : (n : ℕ) → is_member n ((world m).body (place_of m port)) ≡ is_set n (Some set)) where
    pub hindered : (k : ℕ) (s : Path) → is_hindrance (path m space) port.slot set s k ((world m).body (k ∷ s)) ≡ true → IsPageable (world m) slot → ⊥
    hindered k s bars page =
        let at = placed page.0 page.1 page.2 in
        let slots : port.slot ≡ page.0 = ap slot_of at in
        let sets : Some set ≡ Some page.1 =
        same-set (world m) slot page.0 (Some set) (λ n. ap (λ (x : Path). is_member n ((world m).body x)) (sym at) ∙ members n) page.1 page.2 in
        let number : set ≡ page.1 = cc in
        let its : is_hindrance (path m space) port.slot page.1 s k ((world m).body (k ∷ s)) ≡ true =
        subst (λ (n : ℕ). is_hindrance (path m space) port.slot n s k ((world m).body (k ∷ s)) ≡ true) number bars in
        let there : is_hindrance (path m space) page.0 page.1 s k ((world m).body (k ∷ s)) ≡ true =
        subst (λ (n : ℕ). is_hindrance (path m space) n page.1 s k ((world m).body (k ∷ s)) ≡ true) slots its in
        barred (world m) slot page.0 page.1 k s
        (subst (λ (q : Path). is_hindrance q page.0 page.1 s k ((world m).body (k ∷ s)) ≡ true) born there) page.2

    module _ (nought : port.space ≡ 0) (none : (k : ℕ) (s : Path) → is_hindrance (path m space) port.slot set s k ((world m).body (k ∷ s)) ≡ false) where
      here : place_of m port ≡ port.slot ∷ root
      here = ap (λ (n : ℕ). port.slot ∷ path m n) nought ∙ ap (λ (s : Path). port.slot ∷ s) (path-root m)

      none-here : (k : ℕ) (s : Path) → is_hindrance (slot ∷ root) port.slot set s k ((world m).body (k ∷ s)) ≡ false
      none-here k s = subst (λ (q : Path). is_hindrance q port.slot set s k ((world m).body (k ∷ s)) ≡ false) born (none k s)

      pub has-desk : (birth : ℕ) → birth_at (world m) (slot ∷ root) ≡ Some birth → holds is_native ((world m).body (LAST_PORTER_SLOT ∷ root)) ≡ true →
          HasDesk (world m) slot port.slot set
      has-desk birth there nester = record {
        nester = nester;
        space = sym (born-space ((world m).body (slot ∷ root))) ∙ ap is_some there;
        mapless = mapless (world m) slot port.slot set none-here;
        kept = keeps-here (port.slot ∷ root) ∙ ap (λ (x : Path). same_path x (port.slot ∷ root)) here ∙ same_path_refl (port.slot ∷ root);
        member = ap (λ (x : Path). is_member set ((world m).body x)) (sym here) ∙ members set ∙ eq-eqb set set refl;
        alone = alone (world m) slot port.slot set none-here;
        ours = ours (world m) slot port.slot set none-here;
      }
