-- FreshLaws: no objects.
use Rattle.std.proofs.Common.{◌≡◌, ℕ, ◌/◌, ◌%◌, List, [], Option, Some, None, option_map, refl, sym, ap, subst, ◌∙◌, arith}
use Rattle.std.specs.FinMap as finmap
use Rattle.std.specs.FinMap.{get, get-empty}
use Rattle.fk_model.specs.Objects.{and_then}
use Rattle.fk_model.specs.declared.names.Who.{Who}
use Rattle.fk_model.specs.declared.body.Body.{Body}
use Rattle.fk_store_graph.specs.Linked.Cells.{cell}
use Rattle.fk_store_graph.specs.Linked.Links.{AreRings}
use Rattle.fk_store_graph.proofs.InLinked.NodeLaws.{rings_along}
use Rattle.fk_store_graph.specs.Linked.Shapes.{Entry}
use Rattle.fk_store_graph.specs.Linked.Filed.{Filed, entry_under, key_of}
use Rattle.fk_store_graph.specs.Linked.Births.{stored_birth}
use Rattle.fk_store_graph.specs.Linked.Bodied.{body_under, bodies, head_by, owner, AreBodies}
use Rattle.fk_store_graph.specs.Linked.Leading.{target}
use Rattle.fk_store_graph.specs.Linked.Held.{held_in}
use Rattle.fk_store_graph.specs.Linked.Homes.{home_at}
use Rattle.fk_store_graph.specs.Linked.Names.{who_cmp}
use Rattle.fk_store_graph.proofs.InLinked.BodyLaws.{get-bodies, is-bodies}
use Rattle.fk_store_graph.proofs.InLinked.HomeLaws.{home_none}
use Rattle.fk_store_graph.proofs.InLinked.CountLaws.{none-empty}

abbrev nothing : Filed
nothing = record { keys = []; marks = []; entries = []; vacant = 0 }

no_entry : (j : ℕ) → entry_under nothing j ≡ None
unfolding entry_under
no_entry j = refl

no_body : (j : ℕ) → body_under nothing j ≡ None
unfolding body_under
no_body j = ap (option_map (λ (e : Entry). e.body)) (no_entry j)

no_key : (q : Who) → key_of nothing q ≡ None
unfolding key_of cell
no_key q = refl

none_some : {A : Type 0} (o : Option A) (a : A) → o ≡ None → o ≡ Some a → ⊥
none_some o a h k = absurd (cc)

no_owner : (n : ℕ) → owner nothing n ≡ None
unfolding owner
no_owner n = ap (λ x. and_then (head_by nothing) (and_then (target (n % 5)) x)) (no_body (n / 5))

pub fresh_map : bodies nothing ≡ finmap.empty
fresh_map = is-bodies nothing finmap.empty (λ q. ap (and_then (body_under nothing)) (no_key q) ∙ sym (get-empty who_cmp q))

none_held : held_in (bodies nothing) ≡ 0
unfolding bodies
none_held = none-empty

pub fresh_all : AreRings [] (λ n. None) → AreBodies nothing [] [] 0
fresh_all rings = record {
  rings = rings_along [] (λ n. None) (owner nothing) (λ n field. no_owner n) rings;
  long = λ j b there. absurd (none_some (body_under nothing j) b (no_body j) there);
  leads = λ j b i l there is. absurd (none_some (body_under nothing j) b (no_body j) there);
  told = λ j b i l there is k e at under. absurd (none_some (body_under nothing j) b (no_body j) there);
  homed = λ n k. (
    λ h. absurd (none_some (home_at [] n) k (home_none n) h),
    λ h. absurd (none_some (and_then stored_birth (body_under nothing k)) n (ap (and_then stored_birth) (no_body k)) h),
  );
  held = λ few. none_held;
  pages = λ w k b at there so. absurd (none_some (body_under nothing k) b (no_body k) there);
  members = λ w k b at there so. absurd (none_some (body_under nothing k) b (no_body k) there);
}
