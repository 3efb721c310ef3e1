-- LeaderWalks: the names of the nodes of a walk.
use Rattle.std.proofs.Common.{◌≡◌, inl, inr, ℕ, ◌/◌, ◌%◌, ◌≤◌, suc, List, [], ◌∷◌, length, filter_map, Option, Some, None, IsSome, is_some}
use Rattle.std.proofs.Common.{option_map, refl, sym, ap, subst, ◌∙◌, arith}
use Rattle.fk_model.specs.declared.names.Who.{Who}
use Rattle.fk_model.specs.declared.body.Body.{Body}
use Rattle.fk_model.specs.Objects.{and_then}
use Rattle.fk_model.proofs.walks.Members.{IsIn}
use Rattle.fk_store_graph.specs.Linked.Nodes.{node_of}
use Rattle.fk_store_graph.specs.Linked.Walks.{AreLeaders}
use Rattle.fk_store_graph.specs.Linked.Shapes.{Entry}
use Rattle.fk_store_graph.specs.Linked.Filed.{Filed, entry_under, name_under}
use Rattle.fk_store_graph.specs.Linked.Bodied.{body_under, head_by, owner, names_of, AreNodes}
use Rattle.fk_store_graph.specs.Linked.Leading.{target}
use Rattle.fk_store_graph.proofs.InLinked.BodyLaws.{name-of, no-name}

-- what leads anywhere is there
pub nodes_there : (o : Filed) (nodes : List ℕ) {head : ℕ} → AreLeaders (owner o) head nodes → AreNodes o (Some nodes)
unfolding owner body_under name_under
nodes_there o nodes {head = head} are n is = by (entry_under o (n / 5)) refl (are.lead n is).1
  where
    by : (x : Option Entry) → entry_under o (n / 5) ≡ x → and_then (head_by o) (and_then (target (n % 5)) (option_map (λ (e : Entry). e.body) x)) ≡ Some head →
        IsSome (option_map (λ (e : Entry). e.who) (entry_under o (n / 5)))
    by None e h = absurd (cc)
    by (Some d) e h = ap is_some (ap (option_map (λ (e : Entry). e.who)) e)

pub few_names : (o : Filed) (nodes : List ℕ) → length (names_of o nodes) ≤ length nodes
few_names o [] = omega arith
few_names o (n ∷ nodes) = by (name_under o (n / 5)) refl (few_names o nodes)
  where
    by : (x : Option Who) → name_under o (n / 5) ≡ x → length (names_of o nodes) ≤ length nodes → length (names_of o (n ∷ nodes)) ≤ length (n ∷ nodes)
    by None e few = rw e (omega (arith, few))
    by (Some w) e few = rw e (omega (arith, few))

pub name_comes : (o : Filed) (node : ℕ) (e : Entry) (walk rest : List ℕ) → walk ≡ node ∷ rest → Some e ≡ entry_under o (node / 5) →
    names_of o walk ≡ e.who ∷ names_of o rest
name_comes o node e walk rest is there = ap (names_of o) is ∙ (let name = name-of o (node / 5) e (sym there) in rw name refl)

pub name_gone : (o : Filed) (node : ℕ) (walk rest : List ℕ) → walk ≡ node ∷ rest → AreNodes o (Some walk) → None ≡ entry_under o (node / 5) → ⊥
name_gone o node walk rest is nodes none =
    let some = nodes node (subst (IsIn node) (sym is) (inl refl)) in
    let gone = no-name o (node / 5) (sym none) in
    absurd (cc)

pub no_names : (o : Filed) (old now : List ℕ) → (old ≡ []) × (now ≡ []) → (names_of o old ≡ []) × (names_of o now ≡ [])
no_names o old now none = (ap (names_of o) none.0, ap (names_of o) none.1)

pub rest_there : (o : Filed) (node : ℕ) (walk rest : List ℕ) → walk ≡ node ∷ rest → AreNodes o (Some walk) → AreNodes o (Some rest)
rest_there o node walk rest is nodes n h = nodes n (subst (IsIn n) (sym is) (inr h))
