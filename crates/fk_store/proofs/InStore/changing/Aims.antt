-- Aims: what has the kind of a reference is one.
use Rattle.std.proofs.Common.{◌≡◌, ℕ, true, Some, ap, ◌∙◌, refl}
use Rattle.std.specs.FinMap.{get}
use Rattle.fk_model.specs.declared.names.Kind.TheVariants as kinds
use Rattle.fk_model.specs.declared.names.Ptr.{Ptr}
use Rattle.fk_model.specs.declared.names.Who.{Who}
use Rattle.fk_model.specs.declared.body.Body.{Body}
use Rattle.fk_model.specs.declared.body.Body.TheVariants.{Mutex, Cond, Mapping, Region, Port, Portset, Space, Thread, Reference}
use Rattle.fk_model.specs.Places.{Path}
use Rattle.fk_model.specs.Objects.{kind_of, holds}
use Rattle.fk_model.specs.Valid.{kind_there}
use Rattle.fk_store.specs.Freezing.Leading.{is_reference}
use Rattle.fk_store.specs.Store.Bodies.{body_by}
use Rattle.fk_store.specs.Store.Contents.{Contents}
use Rattle.fk_store.specs.Store.Paths.{place, path}
use Rattle.fk_store.specs.Store.WellFormed.{IsWellFormed}
use Rattle.fk_store.specs.Store.World.{world}
use Rattle.fk_store.proofs.InStore.changing.SameKinds.{kind-there}

reference-kind : (p : ℕ → Path) (b : Body) → kind_of (body_by p b) ≡ kinds.Reference → is_reference b ≡ true
reference-kind p (Mutex locked) h = absurd (cc)
reference-kind p Cond h = absurd (cc)
reference-kind p (Mapping first count offset write region) h = absurd (cc)
reference-kind p (Region first count write keeper) h = absurd (cc)
reference-kind p (Port set served) h = absurd (cc)
reference-kind p Portset h = absurd (cc)
reference-kind p (Space birth holder) h = absurd (cc)
reference-kind p (Thread thread) h = absurd (cc)
reference-kind p (Reference to) h = refl

pub aim-reference : (m : Contents) → IsWellFormed m → (who : Who) (to : Ptr) →
    kind_there (world m) (place (path m) who) ≡ Some (kind_of (body_by (path m) (Reference to))) → holds is_reference (get m.bodies who) ≡ true
aim-reference m kept who to kind =
    let found = kind-there m kept who _ kind in ap (holds is_reference) found.1 ∙ reference-kind (path m) found.0 found.2
