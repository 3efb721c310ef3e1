-- Faulting: a thread gets another fault where it stands.
use Rattle.std.proofs.Common.{◌≡◌, ℕ, true, Option, Some, option_map, refl, sym, ap, subst, ◌∙◌}
use Rattle.std.specs.FinMap.{FinMap, get, insert}
use Rattle.fk_model.specs.declared.names.Kind.TheVariants as kinds
use Rattle.fk_model.specs.declared.names.Who.{Who}
use Rattle.fk_model.specs.declared.body.Body.{Body}
use Rattle.fk_model.specs.declared.body.Body.TheVariants.{Mutex, Cond, Mapping, Region, Port, Portset, Space, Thread, Reference}
use Rattle.fk_model.specs.declared.thread.Fault.{Fault}
use Rattle.fk_model.specs.declared.thread.Thread.{Thread as State}
use Rattle.fk_model.specs.Objects.{kind_of}
use Rattle.fk_model.specs.Places.{Path}
use Rattle.fk_model.specs.World.{Edit, apply, edited}
use Rattle.fk_model.specs.World.Change.{Alter}
use Rattle.fk_model.specs.World.Edit.{SetFault}
use Rattle.fk_model.specs.Valid.{kind_there}
use Rattle.fk_store.specs.Freezing.Leading.{with_fault, LeadsAmong}
use Rattle.fk_store.specs.Store.Contents.{Contents}
use Rattle.fk_store.specs.Store.Names.{who_cmp}
use Rattle.fk_store.specs.Store.Paths.{path, place}
use Rattle.fk_store.specs.Store.Bodies.{body_by, fault_by}
use Rattle.fk_store.specs.Store.Named.{Each, OnFault, OnNamed}
use Rattle.fk_store.specs.Store.World.{world, IsLive}
use Rattle.fk_store.specs.Store.WellFormed.{is_there, IsWellFormed}
use Rattle.fk_store.proofs.InStore.finding.LookUps.{body-place, there-IsLive}
use Rattle.fk_store.proofs.InStore.finding.NamedLaws.{OnNamed-map}
use Rattle.fk_store.proofs.InStore.changing.Leads.{leads-named}
use Rattle.fk_store.proofs.InStore.changing.SameKinds.{kind-there}
use Rattle.fk_store.proofs.InStore.changing.Sets.{set-edits, set-kept, set-kinds, set-paths, with_body}

a_thread : (p : ℕ → Path) (b : Body) → kind_of (body_by p b) ≡ kinds.Thread → (t : State) × (b ≡ Thread t)
a_thread p (Mutex locked) h = absurd (cc)
a_thread p Cond h = absurd (cc)
a_thread p (Mapping first count offset write region) h = absurd (cc)
a_thread p (Region first count write keeper) h = absurd (cc)
a_thread p (Port set served) h = absurd (cc)
a_thread p Portset h = absurd (cc)
a_thread p (Space birth holder) h = absurd (cc)
a_thread p (Thread thread) h = (thread, refl)
a_thread p (Reference to) h = absurd (cc)

edited_so : (p : ℕ → Path) (t : State) (fault : Option Fault) →
    edited (SetFault (option_map (fault_by p) fault)) (body_by p (Thread t)) ≡ body_by p (with_fault t fault)
unfolding edited
edited_so p t fault = refl

module _ (m : Contents) (kept : IsWellFormed m) (who : Who) (fault : Option Fault) (kind : kind_there (world m) (place (path m) who) ≡ Some kinds.Thread)
    (named : Each (OnFault (IsLive m)) fault) where
  pub thread_there : (t : State) × (get m.bodies who ≡ Some (Thread t))
  thread_there =
      let found = kind-there m kept who kinds.Thread kind in
      let thread = a_thread (path m) found.0 found.2 in
      (thread.0, found.1 ∙ ap (λ (b : Body). Some b) thread.1)

  module _ (t : State) (there : get m.bodies who ≡ Some (Thread t)) where
    all_named : OnNamed (IsLive m) (with_fault t fault)
    all_named =
        let was = OnNamed-map (λ q. is_there m q ≡ true) (IsLive m) (there-IsLive m kept) (Thread t) (kept.leads who (Thread t) there) in
        (was.0, named)

    pub fault_leads : LeadsAmong m.bodies (with_fault t fault)
    fault_leads = leads-named m kept (with_fault t fault) all_named

    module _ (bodies : FinMap who_cmp Body) (is : bodies ≡ insert m.bodies who (with_fault t fault)) where
      abbrev now : Contents
      now = record m { bodies = bodies }

      same : now ≡ with_body m who (with_fault t fault)
      same = λ i. record m { bodies = is i }

      pub fault_kept : IsWellFormed now
      fault_kept = subst IsWellFormed (sym same) (set-kept m kept who (with_fault t fault) kind tt all_named (kept.sized who (Thread t) there))

      pub fault_edits : (e : Edit) →
          option_map (edited e) ((world m).body (place (path m) who))
          ≡ option_map (edited (SetFault (option_map (fault_by (path m)) fault))) ((world m).body (place (path m) who)) →
          world now ≡ apply (Alter (place (path m) who) e) (world m)
      fault_edits e same_edit =
          let body : (world m).body (place (path m) who) ≡ Some (body_by (path m) (Thread t)) =
          body-place m kept who ∙ ap (option_map (body_by (path m))) there in
          let made = ap (option_map (edited (SetFault (option_map (fault_by (path m)) fault)))) body ∙ ap (λ b. Some b) (edited_so (path m) t fault) in
          ap world same ∙ set-edits m kept who (with_fault t fault) kind tt e (same_edit ∙ made)

      pub fault_kinds : kind_there (world now) ≡ kind_there (world m)
      fault_kinds = ap (λ k. kind_there (world k)) same ∙ set-kinds m kept who (with_fault t fault) kind tt

      pub fault_paths : path now ≡ path m
      fault_paths = ap path same ∙ set-paths m kept who (with_fault t fault) kind tt
