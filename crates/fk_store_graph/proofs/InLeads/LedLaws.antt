-- LedLaws: what a sweep of pointers makes of a body.
use Rattle.std.proofs.Common.{◌≡◌, ◌≢◌, inl, inr, ℕ, suc, Bool, true, false, cond, ◌==◌, ◌&&◌, Option, Some, None, option_map, is_some, refl, sym, ap}
use Rattle.std.proofs.Common.{◌∙◌, arith}
use Rattle.std.proofs.lemmas.Bool.Decides.{nat_tests}
use Rattle.fk_model.specs.declared.names.Who.{Who}
use Rattle.fk_model.specs.declared.body.Body.{Body}
use Rattle.fk_model.specs.declared.body.Body.TheVariants.{Mutex, Cond, Mapping, Region, Port, Portset, Space, Thread, Reference}
use Rattle.fk_model.specs.Objects.{and_then}
use Rattle.fk_store_graph.specs.declared.hints.lead.Sort.TheVariants.{Pointer}
use Rattle.fk_store_graph.specs.declared.hints.lead.Lead.{Lead}
use Rattle.fk_store_graph.specs.Hints.Leads.{lead_by, led}
use Rattle.fk_store_graph.specs.Leads.Births.{stored_birth}
use Rattle.fk_store_graph.specs.Leads.Held.{is_held}
use Rattle.fk_store_graph.specs.Leads.Marks.{is_of_pages, is_member}
use Rattle.fk_store_graph.specs.Leads.Names.{same_who}
use Rattle.fk_store_graph.specs.Leads.Sweeps.{after, set_after, body_after, led_after}
use Rattle.fk_store_graph.specs.declared.leads.sweeps.Sweep.{Sweep}
use Rattle.fk_store_graph.proofs.InLeads.HintLaws.{Came, led-came, body-off}
use Rattle.fk_store_graph.proofs.InLeads.NameLaws.{same_who_eq, same_who_refl}

module _ (sweep : Sweep) where
  elsewhere : (suc sweep.from.space == sweep.from.space) ≡ false
  elsewhere = grind (arith, nat_tests)

  -- only ports differ
  pub led-swept : (space : ℕ) (b : Body) (i : ℕ) (l : Lead) → led b i ≡ Some l → body_after sweep space b ≡ led_after sweep b
  unfolding led
  led-swept space (Mutex locked) i l h = refl
  led-swept space Cond i l h = refl
  led-swept space (Mapping page count offset write region) i l h = refl
  led-swept space (Region page count write keeper) i l h = refl
  led-swept space (Port set served) i l h = absurd (cc)
  led-swept space Portset i l h = refl
  led-swept space (Space birth holder) i l h = refl
  led-swept space (Thread thread) i l h = refl
  led-swept space (Reference to) i l h = refl

  -- what doesn't lead there is as it was
  pub led-off : (b : Body) → ((i : ℕ) → led b i ≢ Some (lead_by Pointer sweep.from)) → led_after sweep b ≡ b
  led-off (Mutex locked) off = refl
  led-off Cond off = refl
  led-off (Mapping page count offset write region) off = body-off sweep (suc sweep.from.space) (Mapping page count offset write region) elsewhere off
  led-off (Region page count write keeper) off = body-off sweep (suc sweep.from.space) (Region page count write keeper) elsewhere off
  led-off (Port set served) off = refl
  led-off Portset off = refl
  led-off (Space birth holder) off = body-off sweep (suc sweep.from.space) (Space birth holder) elsewhere off
  led-off (Thread thread) off = body-off sweep (suc sweep.from.space) (Thread thread) elsewhere off
  led-off (Reference to) off = body-off sweep (suc sweep.from.space) (Reference to) elsewhere off

  -- a field led there before, or it follows what got another name
  pub led-from : (l : Lead) (b : Body) (i : ℕ) → led (led_after sweep b) i ≡ Some l → Came sweep (led b i) l
  unfolding led
  led-from l (Mutex locked) i h = absurd (cc)
  led-from l Cond i h = absurd (cc)
  led-from l (Mapping page count offset write region) i h = led-came sweep l (suc sweep.from.space) (Mapping page count offset write region) i h
  led-from l (Region page count write keeper) i h = led-came sweep l (suc sweep.from.space) (Region page count write keeper) i h
  led-from l (Port set served) i h = absurd (cc)
  led-from l Portset i h = absurd (cc)
  led-from l (Space birth holder) i h = led-came sweep l (suc sweep.from.space) (Space birth holder) i h
  led-from l (Thread thread) i h = led-came sweep l (suc sweep.from.space) (Thread thread) i h
  led-from l (Reference to) i h = led-came sweep l (suc sweep.from.space) (Reference to) i h

  module _ (other : sweep.to ≢ Some sweep.from) where
    -- nothing leads there any more
    pub came-gone : (space : ℕ) (b : Body) (l : Lead) (i : ℕ) → led (body_after sweep space b) i ≡ Some l → same_who l.to sweep.from ≡ false
    came-gone space b l i h = elim (led-came sweep l space b i h) [
      | inl before ↦ before.1
      | inr follows ↦ by (same_who l.to sweep.from) refl follows.0
    ]
      where
        by : (t : Bool) → same_who l.to sweep.from ≡ t → sweep.to ≡ Some l.to → t ≡ false
        by false e to = refl
        by true e to = absurd (other (to ∙ ap Some (same_who_eq l.to sweep.from e)))

    pub led-gone : (b : Body) (i : ℕ) → led (led_after sweep b) i ≢ Some (lead_by Pointer sweep.from)
    led-gone b i leads = elim (led-from (lead_by Pointer sweep.from) b i leads) [
      | inl before ↦ let same = same_who_refl sweep.from in absurd (let off = before.1 in cc)
      | inr follows ↦ other follows.0
    ]

    -- who is swept twice is swept
    pub led-again : (b : Body) → led_after sweep (led_after sweep b) ≡ led_after sweep b
    led-again b = led-off (led_after sweep b) (led-gone b)

    pub led-again_in : (o : Option Body) → option_map (led_after sweep) (option_map (led_after sweep) o) ≡ option_map (led_after sweep) o
    led-again_in None = refl
    led-again_in (Some b) = ap Some (led-again b)

  -- ---- what a sweep leaves

  pub swept-birth : (space : ℕ) (b : Body) → stored_birth (body_after sweep space b) ≡ stored_birth b
  swept-birth space (Mutex locked) = refl
  swept-birth space Cond = refl
  swept-birth space (Mapping page count offset write region) = refl
  swept-birth space (Region page count write keeper) = refl
  swept-birth space (Port set served) = refl
  swept-birth space Portset = refl
  swept-birth space (Space birth holder) = refl
  swept-birth space (Thread thread) = refl
  swept-birth space (Reference to) = refl

  pub swept-pages : (space : ℕ) (b : Body) → is_of_pages (body_after sweep space b) ≡ is_of_pages b
  swept-pages space (Mutex locked) = refl
  swept-pages space Cond = refl
  swept-pages space (Mapping page count offset write region) = refl
  swept-pages space (Region page count write keeper) = refl
  swept-pages space (Port set served) = refl
  swept-pages space Portset = refl
  swept-pages space (Space birth holder) = refl
  swept-pages space (Thread thread) = refl
  swept-pages space (Reference to) = refl

  -- a port in a set was in one
  pub swept-members : (space : ℕ) (b : Body) → is_member (body_after sweep space b) ≡ true → is_member b ≡ true
  swept-members space (Mutex locked) h = absurd (cc)
  swept-members space Cond h = absurd (cc)
  swept-members space (Mapping page count offset write region) h = absurd (cc)
  swept-members space (Region page count write keeper) h = absurd (cc)
  swept-members space (Port None served) h = absurd (cc)
  swept-members space (Port (Some set) served) h = refl
  swept-members space Portset h = absurd (cc)
  swept-members space (Space birth holder) h = absurd (cc)
  swept-members space (Thread thread) h = absurd (cc)
  swept-members space (Reference to) h = absurd (cc)

  -- pointers alone
  pub led-members : (b : Body) → is_member (led_after sweep b) ≡ is_member b
  led-members (Mutex locked) = refl
  led-members Cond = refl
  led-members (Mapping page count offset write region) = refl
  led-members (Region page count write keeper) = refl
  led-members (Port set served) = refl
  led-members Portset = refl
  led-members (Space birth holder) = refl
  led-members (Thread thread) = refl
  led-members (Reference to) = refl

  -- a space that is held is held by another name
  pub renamed-held : (t : Who) → sweep.to ≡ Some t → (space : ℕ) (b : Body) → is_held (body_after sweep space b) ≡ is_held b
  renamed-held t to space (Mutex locked) = refl
  renamed-held t to space Cond = refl
  renamed-held t to space (Mapping first count offset write region) = refl
  renamed-held t to space (Region first count write keeper) = refl
  renamed-held t to space (Port set served) = refl
  renamed-held t to space Portset = refl
  renamed-held t to space (Space birth None) = refl
  renamed-held t to space (Space birth (Some who)) = by (same_who who sweep.from)
    where
      by : (c : Bool) → is_some (cond c sweep.to (Some who)) ≡ true
      by true = ap is_some to
      by false = refl
  renamed-held t to space (Thread thread) = refl
  renamed-held t to space (Reference ptr) = refl
