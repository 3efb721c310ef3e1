-- BodyLaws: the map of all bodies, as objects come, go, change and get other names.
use Rattle.std.proofs.Common.{◌≡◌, ◌≢◌, ℕ, zero, suc, Bool, true, false, cond, ◌==◌, List, [], ◌∷◌, map, Option, Some, None, option_map, refl, sym}
use Rattle.std.proofs.Common.{ap, subst, ◌∙◌, arith}
use Rattle.std.proofs.lemmas.Bool.Decides.{nat_tests}
use Rattle.std.specs.FinMap as finmap
use Rattle.std.specs.FinMap.{FinMap, get, get-insert, get-remove, get-empty, same_map}
use Rattle.fk_model.specs.Objects.{and_then}
use Rattle.fk_model.specs.declared.names.Who.{Who}
use Rattle.fk_model.specs.declared.body.Body.{Body}
use Rattle.fk_store_cells.specs.Slots.Cells.{cell, cell_in}
use Rattle.fk_store_cells.proofs.InSlots.TabledLaws.{get-rows}
use Rattle.fk_store_cells.specs.declared.objects.entry.Entry.{Entry}
use Rattle.fk_store_cells.specs.Objects.Filed.{Filed, IsFiled, entry_under, key_of, name_under}
use Rattle.fk_store_graph.specs.Linked.Bodied.{body_under, bodies}
use Rattle.fk_store_graph.specs.Leads.Names.{who_cmp, same_who}
use Rattle.fk_store_graph.proofs.InLeads.NameLaws.{who_total, who_exact, who_naming, same_tied, same_who_eq, same_who_refl}

row-mapped : {A B : Type 0} (f : A → Option B) (row : List (Option A)) (k : ℕ) → cell_in (map (and_then f) row) k ≡ and_then f (cell_in row k)
row-mapped f [] k = refl
row-mapped f (c ∷ row) zero = refl
row-mapped f (c ∷ row) (suc k) = row-mapped f row k

cell-mapped : {A B : Type 0} (f : A → Option B) (rows : List (List (Option A))) (s k : ℕ) → cell (map (map (and_then f)) rows) s k ≡ and_then f (cell rows s k)
unfolding cell
cell-mapped f [] s k = refl
cell-mapped f (row ∷ rows) zero k = row-mapped f row k
cell-mapped f (row ∷ rows) (suc s) k = cell-mapped f rows s k

-- what is found by name is what is under its key
pub get-bodies : (o : Filed) (q : Who) → get (bodies o) q ≡ and_then (body_under o) (key_of o q)
unfolding bodies key_of
get-bodies o q = get-rows who_naming (map (map (and_then (body_under o))) o.keys) q.space q.slot ∙ cell-mapped (body_under o) o.keys q.space q.slot

pub is-bodies : (o : Filed) (m : FinMap who_cmp Body) → ((q : Who) → and_then (body_under o) (key_of o q) ≡ get m q) → bodies o ≡ m
is-bodies o m is = same_map who_total who_exact _ _ (λ q. get-bodies o q ∙ is q)

-- two names have no key in common
pub keys_apart : (o : Filed) → IsFiled o → (a b : Who) (key : ℕ) → key_of o a ≡ Some key → key_of o b ≡ Some key → a ≡ b
keys_apart o filed a b key h k =
    let one = filed.filed a key h in
    let other = filed.filed b key k in
    let both : Some a ≡ Some b = sym one ∙ other in cc

module _ (o p : Filed) (filed : IsFiled o) (who : Who) (key : ℕ) where
  -- the body under a key is another
  module _ (b : Body) (there : key_of o who ≡ Some key) (keys : (q : Who) → key_of p q ≡ key_of o q)
      (bodies_now : (j : ℕ) → body_under p j ≡ cond (j == key) (Some b) (body_under o j)) where
    pub put-found : (q : Who) → and_then (body_under p) (key_of p q) ≡ cond (same_who q who) (Some b) (and_then (body_under o) (key_of o q))
    put-found q = ap (and_then (body_under p)) (keys q) ∙ by (same_who q who) refl (key_of o q) refl
      where
        by : (c : Bool) → same_who q who ≡ c → (x : Option ℕ) → key_of o q ≡ x → and_then (body_under p) x ≡ cond c (Some b) (and_then (body_under o) x)
        by false e None f = refl
        by true e None f =
            let is : key_of o q ≡ Some key = ap (key_of o) (same_who_eq q who e) ∙ there in absurd (cc)
        by true e (Some j) f =
            let is : key_of o q ≡ Some key = ap (key_of o) (same_who_eq q who e) ∙ there in
            let same : (j == key) ≡ true = (let k : j ≡ key = cc in grind (arith, nat_tests)) in
            bodies_now j ∙ rw same refl
        by false e (Some j) f = bodies_now j ∙ apart (j == key) refl
          where
            apart : (d : Bool) → (j == key) ≡ d → cond d (Some b) (body_under o j) ≡ body_under o j
            apart false g = refl
            apart true g =
                let k : j ≡ key = grind (arith, nat_tests) in
                let is : q ≡ who = keys_apart o filed q who key (f ∙ ap Some k) there in
                let tests : same_who q who ≡ true = ap (λ x. same_who x who) is ∙ same_who_refl who in absurd (cc)

    pub bodies-put : bodies p ≡ finmap.insert (bodies o) who b
    bodies-put = is-bodies p _ (λ q. put-found q ∙ sym (get-insert who_total (bodies o) who b q ∙ rw (same_tied q who, get-bodies o q) refl))

  -- an object comes under a key
  module _ (b : Body) (vacant : body_under o key ≡ None) (fresh : (q : Who) → key_of o q ≡ Some key → ⊥)
      (keys : (q : Who) → key_of p q ≡ cond (same_who q who) (Some key) (key_of o q))
      (bodies_now : (j : ℕ) → body_under p j ≡ cond (j == key) (Some b) (body_under o j)) where
    pub made-found : (q : Who) → and_then (body_under p) (key_of p q) ≡ cond (same_who q who) (Some b) (and_then (body_under o) (key_of o q))
    made-found q = ap (and_then (body_under p)) (keys q) ∙ by (same_who q who) (key_of o q) refl
      where
        here : (key == key) ≡ true
        here = grind (arith, nat_tests)

        by : (c : Bool) (x : Option ℕ) → key_of o q ≡ x → and_then (body_under p) (cond c (Some key) x) ≡ cond c (Some b) (and_then (body_under o) x)
        by true x f = bodies_now key ∙ rw here refl
        by false None f = refl
        by false (Some j) f = bodies_now j ∙ apart (j == key) refl
          where
            apart : (d : Bool) → (j == key) ≡ d → cond d (Some b) (body_under o j) ≡ body_under o j
            apart false g = refl
            apart true g = let k : j ≡ key = grind (arith, nat_tests) in absurd (fresh q (f ∙ ap Some k))

    pub bodies-made : bodies p ≡ finmap.insert (bodies o) who b
    bodies-made = is-bodies p _ (λ q. made-found q ∙ sym (get-insert who_total (bodies o) who b q ∙ rw (same_tied q who, get-bodies o q) refl))

  -- the object under a key goes
  module _ (there : key_of o who ≡ Some key) (keys : (q : Who) → key_of p q ≡ cond (same_who q who) None (key_of o q))
      (bodies_now : (j : ℕ) → body_under p j ≡ cond (j == key) None (body_under o j)) where
    pub removed-found : (q : Who) → and_then (body_under p) (key_of p q) ≡ cond (same_who q who) None (and_then (body_under o) (key_of o q))
    removed-found q = ap (and_then (body_under p)) (keys q) ∙ by (same_who q who) refl (key_of o q) refl
      where
        by : (c : Bool) → same_who q who ≡ c → (x : Option ℕ) → key_of o q ≡ x →
            and_then (body_under p) (cond c None x) ≡ cond c None (and_then (body_under o) x)
        by true e x f = refl
        by false e None f = refl
        by false e (Some j) f = bodies_now j ∙ apart (j == key) refl
          where
            apart : (d : Bool) → (j == key) ≡ d → cond d None (body_under o j) ≡ body_under o j
            apart false g = refl
            apart true g =
                let k : j ≡ key = grind (arith, nat_tests) in
                let is : q ≡ who = keys_apart o filed q who key (f ∙ ap Some k) there in
                let tests : same_who q who ≡ true = ap (λ x. same_who x who) is ∙ same_who_refl who in absurd (cc)

    pub bodies-removed : bodies p ≡ finmap.remove (bodies o) who
    bodies-removed = is-bodies p _ (λ q. removed-found q ∙ sym (get-remove who_total (bodies o) who q ∙ rw (same_tied q who, get-bodies o q) refl))

  -- the object under a key gets another name
  module _ (to : Who) (there : key_of o who ≡ Some key)
      (keys : (q : Who) → key_of p q ≡ cond (same_who q to) (Some key) (cond (same_who q who) None (key_of o q)))
      (bodies_now : (j : ℕ) → body_under p j ≡ body_under o j) where
    pub renamed-found : (q : Who) → and_then (body_under p) (key_of p q)
        ≡ cond (same_who q to) (and_then (body_under o) (key_of o who)) (cond (same_who q who) None (and_then (body_under o) (key_of o q)))
    renamed-found q = ap (and_then (body_under p)) (keys q) ∙ by (same_who q to) (same_who q who) (key_of o q)
      where
        same : (x : Option ℕ) → and_then (body_under p) x ≡ and_then (body_under o) x
        same None = refl
        same (Some j) = bodies_now j

        by : (c d : Bool) (x : Option ℕ) → and_then (body_under p) (cond c (Some key) (cond d None x))
            ≡ cond c (and_then (body_under o) (key_of o who)) (cond d None (and_then (body_under o) x))
        by true d x = bodies_now key ∙ sym (ap (and_then (body_under o)) there)
        by false true x = refl
        by false false x = same x

-- what is under a key, part by part
module _ (o : Filed) (key : ℕ) where
  pub name-of : (e : Entry) → entry_under o key ≡ Some e → name_under o key ≡ Some e.who
  unfolding name_under
  name-of e is = ap (option_map (λ (e : Entry). e.who)) is

  pub body-of : (e : Entry) → entry_under o key ≡ Some e → body_under o key ≡ Some e.body
  unfolding body_under
  body-of e is = ap (option_map (λ (e : Entry). e.body)) is

  pub no-body : entry_under o key ≡ None → body_under o key ≡ None
  unfolding body_under
  no-body is = ap (option_map (λ (e : Entry). e.body)) is

-- what is found by a name
pub under_name : (o : Filed) (who : Who) (key : ℕ) → IsFiled o → key_of o who ≡ Some key → (b : Body) × (body_under o key ≡ Some b)
unfolding name_under body_under
under_name o who key filed h = by (entry_under o key) refl (filed.filed who key h)
  where
    by : (x : Option Entry) → entry_under o key ≡ x → option_map (λ (e : Entry). e.who) x ≡ Some who →
        (b : Body) × (option_map (λ (e : Entry). e.body) (entry_under o key) ≡ Some b)
    by None e h = absurd (cc)
    by (Some d) e h = (d.body, ap (option_map (λ (e : Entry). e.body)) e)

-- what has a body has a name
pub name_there : (o : Filed) (key : ℕ) (b : Body) → IsFiled o → body_under o key ≡ Some b → (who : Who) × (name_under o key ≡ Some who)
    × (key_of o who ≡ Some key)
unfolding name_under body_under
name_there o key b filed h = by (entry_under o key) refl h
  where
    by : (x : Option Entry) → entry_under o key ≡ x → option_map (λ (e : Entry). e.body) x ≡ Some b →
        (who : Who) × (option_map (λ (e : Entry). e.who) (entry_under o key) ≡ Some who) × (key_of o who ≡ Some key)
    by None e h = absurd (cc)
    by (Some d) e h =
        let named = ap (option_map (λ (e : Entry). e.who)) e in
        (d.who, named, filed.found key d.who named)

-- what the map has stands under a key
pub get_under : (o : Filed) (q : Who) (b : Body) → get (bodies o) q ≡ Some b → (key : ℕ) × (key_of o q ≡ Some key) × (body_under o key ≡ Some b)
get_under o q b h = by (key_of o q) refl (sym (get-bodies o q) ∙ h)
  where
    by : (x : Option ℕ) → key_of o q ≡ x → and_then (body_under o) x ≡ Some b → (key : ℕ) × (key_of o q ≡ Some key) × (body_under o key ≡ Some b)
    by None e h = absurd (cc)
    by (Some key) e h = (key, e, h)

pub get_at : (o : Filed) (q : Who) (key : ℕ) → key_of o q ≡ Some key → get (bodies o) q ≡ body_under o key
get_at o q key h = get-bodies o q ∙ ap (and_then (body_under o)) h

pub at_bodies : (o : Filed) (who : Who) → and_then (λ key. option_map (λ (e : Entry). e.body) (entry_under o key)) (key_of o who) ≡ get (bodies o) who
unfolding body_under
at_bodies o who = sym (get-bodies o who)

pub no-name : (o : Filed) (key : ℕ) → entry_under o key ≡ None → name_under o key ≡ None
unfolding name_under
no-name o key is = ap (option_map (λ (e : Entry). e.who)) is

pub entry_there : (o : Filed) (who : Who) (key : ℕ) → IsFiled o → key_of o who ≡ Some key → (e : Entry) × (entry_under o key ≡ Some e)
unfolding name_under
entry_there o who key filed h = by (entry_under o key) refl (filed.filed who key h)
  where
    by : (x : Option Entry) → entry_under o key ≡ x → option_map (λ (e : Entry). e.who) x ≡ Some who → (e : Entry) × (entry_under o key ≡ Some e)
    by None e h = absurd (cc)
    by (Some d) e h = (d, e)
