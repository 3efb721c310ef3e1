-- MemberBodies: what a sweep of the ports in a set makes of a body.
use Rattle.std.proofs.Common.{◌≡◌, ℕ, Bool, true, false, cond, ◌==◌, Option, Some, None, refl, sym, ap, arith}
use Rattle.std.proofs.lemmas.Bool.Decides.{nat_tests}
use Rattle.fk_model.specs.declared.body.Body.{Body}
use Rattle.fk_model.specs.declared.body.Body.TheVariants.{Mutex, Cond, Mapping, Region, Port, Portset, Space, Thread, Reference}
use Rattle.fk_store_graph.specs.Hints.Leads.{led}
use Rattle.fk_store_cells.specs.Objects.Filed.{Filed}
use Rattle.fk_store_graph.specs.Linked.Bodied.{space_under, member_after}
use Rattle.fk_store_graph.specs.Leads.Held.{is_held}
use Rattle.fk_store_graph.specs.Leads.Sweeps.{body_after, led_after}
use Rattle.fk_store_graph.specs.declared.leads.sweeps.Sweep.{Sweep}
use Rattle.fk_store_graph.proofs.InLeads.HintLaws.{set-off}

module _ (sweep : Sweep) where
  -- a sweep of the pointers, and then of the set of a port
  pub members-led : (o : Filed) (key : ℕ) (b : Body) → member_after sweep o key (led_after sweep b) ≡ body_after sweep (space_under o key) b
  members-led o key (Mutex locked) = refl
  members-led o key Cond = refl
  members-led o key (Mapping page count offset write region) = refl
  members-led o key (Region page count write keeper) = refl
  members-led o key (Port None served) = refl
  members-led o key (Port (Some set) served) = by (space_under o key == sweep.from.space) refl
    where
      by : (t : Bool) → (space_under o key == sweep.from.space) ≡ t →
          cond t (body_after sweep sweep.from.space (Port (Some set) served)) (Port (Some set) served)
          ≡ body_after sweep (space_under o key) (Port (Some set) served)
      by true e = let is : space_under o key ≡ sweep.from.space = grind (arith, nat_tests) in ap (λ s. body_after sweep s (Port (Some set) served)) (sym is)
      by false e = ap (λ x. Port x served) (sym (set-off sweep (space_under o key) (Some set) e))
  members-led o key Portset = refl
  members-led o key (Space birth holder) = refl
  members-led o key (Thread thread) = refl
  members-led o key (Reference to) = refl

  -- a port in a set leads nowhere, is no space, and isn't held
  module _ (o : Filed) (key : ℕ) where
    pub members-leads : (b : Body) (i : ℕ) → led (member_after sweep o key b) i ≡ led b i
    unfolding led
    members-leads (Mutex locked) i = refl
    members-leads Cond i = refl
    members-leads (Mapping page count offset write region) i = refl
    members-leads (Region page count write keeper) i = refl
    members-leads (Port None served) i = refl
    members-leads (Port (Some set) served) i = by (space_under o key == sweep.from.space)
      where
        by : (t : Bool) → led (cond t (body_after sweep sweep.from.space (Port (Some set) served)) (Port (Some set) served)) i ≡ None
        by true = refl
        by false = refl
    members-leads Portset i = refl
    members-leads (Space birth holder) i = refl
    members-leads (Thread thread) i = refl
    members-leads (Reference to) i = refl

    pub members-held : (b : Body) → is_held (member_after sweep o key b) ≡ is_held b
    members-held (Mutex locked) = refl
    members-held Cond = refl
    members-held (Mapping page count offset write region) = refl
    members-held (Region page count write keeper) = refl
    members-held (Port None served) = refl
    members-held (Port (Some set) served) = by (space_under o key == sweep.from.space)
      where
        by : (t : Bool) → is_held (cond t (body_after sweep sweep.from.space (Port (Some set) served)) (Port (Some set) served)) ≡ false
        by true = refl
        by false = refl
    members-held Portset = refl
    members-held (Space birth holder) = refl
    members-held (Thread thread) = refl
    members-held (Reference to) = refl
