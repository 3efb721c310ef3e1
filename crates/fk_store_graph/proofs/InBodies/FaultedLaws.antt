-- FaultedLaws: a thread gets another fault, by its name.
use Rattle.std.proofs.Common.{◌≡◌, ℕ, List, Option, Some, sym, ap, subst, ◌∙◌}
use Rattle.std.specs.FinMap.{get}
use Rattle.fk_model.specs.Objects.{and_then}
use Rattle.fk_model.specs.declared.names.Who.{Who}
use Rattle.fk_model.specs.declared.body.Body.{Body}
use Rattle.fk_model.specs.declared.body.Body.TheVariants.{Thread}
use Rattle.fk_model.specs.declared.thread.Fault.{Fault}
use Rattle.fk_model.specs.declared.thread.Thread.{Thread as State}
use Rattle.fk_store_graph.specs.Linked.Shapes.{Lead, Link}
use Rattle.fk_store_graph.specs.Linked.Leads.{led}
use Rattle.fk_store_graph.specs.Linked.Filed.{Filed, key_of}
use Rattle.fk_store_graph.specs.Linked.Births.{stored_birth}
use Rattle.fk_store_graph.specs.Linked.Leading.{with_fault}
use Rattle.fk_store_graph.specs.Linked.Bodied.{body_under, bodies, Tells, told_by, AreAlike, AreBodies, IsMarked, IsTold}
use Rattle.fk_store_graph.proofs.InLinked.AlikeLaws.{hints_were}
use Rattle.fk_store_graph.proofs.InLinked.BodyLaws.{get-bodies}
use Rattle.fk_store_graph.proofs.InLinked.FaultLaws.{served_led}

-- the thread with a name stands under its key
pub thread_under : (o : Filed) (who : Who) (key : ℕ) → key_of o who ≡ Some key → (t : State) → get (bodies o) who ≡ Some (Thread t) →
    body_under o key ≡ Some (Thread t)
thread_under o who key here t is = sym (get-bodies o who ∙ ap (and_then (body_under o)) here) ∙ is

-- it has no birth number
pub thread_unborn : (x : Option Body) (t : State) (fault : Option Fault) → x ≡ Some (Thread t) → and_then stored_birth x ≡ stored_birth (with_fault t fault)
thread_unborn x t fault is = ap (and_then stored_birth) is

-- and asks for no mark
pub unmarked : (o : Filed) (who : Who) (t : State) (fault : Option Fault) → IsMarked o who (with_fault t fault)
unmarked o who t fault = record { pages = λ is. absurd (cc); members = λ is. absurd (cc) }

same_some : {A : Type 0} (o : Option A) (a b : A) → o ≡ Some a → o ≡ Some b → a ≡ b
same_some o a b h k = cc

-- who serves its talk was told of it
pub told_still : (o p : Filed) (links : List Link) (homes : List ℕ) (held : ℕ) → AreBodies o links homes held → (key : ℕ) (t : State) (fault : Option Fault) →
    body_under o key ≡ Some (Thread t) → AreAlike o p → (b : Body) (l : Lead) → body_under p key ≡ Some (with_fault t fault) → body_under p key ≡ Some b →
    led b 2 ≡ Some l → IsTold p l key
told_still o p links homes held are key t fault there alike b l now is leads k e at under =
    let hint = hints_were o p alike k e under in
    let same : with_fault t fault ≡ b = same_some (body_under p key) (with_fault t fault) b now is in
    let was : led (Thread t) 2 ≡ Some l = sym (served_led t fault) ∙ ap (λ x. led x 2) same ∙ leads in
    subst (λ h. Tells (told_by l.sort h) key) (sym hint.2) (are.told key (Thread t) 2 l there was k hint.0 (sym (alike.keys l.to) ∙ at) hint.1)
