-- SettleLaws: what stands beside the objects, once one of them has its body and is told of.
use Rattle.std.proofs.Common.{◌≡◌, ◌≢◌, ℕ, ◌+◌, ◌*◌, ◌/◌, ◌%◌, ◌≤◌, Bool, true, false, cond, ◌==◌, length, List, Option, Some, None, IsSome}
use Rattle.std.proofs.Common.{option_map, refl, sym, ap, subst, ◌∙◌}
use Rattle.std.specs.FinMap.{get}
use Rattle.fk_model.specs.Objects.{and_then}
use Rattle.fk_model.specs.declared.names.Who.{Who}
use Rattle.fk_model.specs.declared.body.Body.{Body}
use Rattle.fk_store_graph.specs.Linked.Shapes.{Lead}
use Rattle.fk_store_graph.specs.Linked.Leads.{led}
use Rattle.fk_store_graph.specs.Linked.Tables.{mark_at}
use Rattle.fk_store_graph.specs.Linked.Cells.{cell}
use Rattle.fk_store_graph.specs.Linked.Shapes.{Link}
use Rattle.fk_store_graph.specs.Linked.Links.{AreRings}
use Rattle.fk_store_graph.specs.Linked.Nodes.{node_of}
use Rattle.fk_store_graph.proofs.InLinked.NodeLaws.{rings_along}
use Rattle.fk_store_graph.specs.Linked.Shapes.{Entry}
use Rattle.fk_store_graph.specs.Linked.Filed.{Filed, IsFiled, entry_under, key_of, name_under}
use Rattle.fk_store_graph.specs.Linked.Births.{stored_birth}
use Rattle.fk_store_graph.specs.Linked.Bodied.{body_under, bodies, head_by, owner, HaveNodes, AreThere, IsTold, AreTold, AreHomed, AreMarked, AreBodies}
use Rattle.fk_store_graph.specs.Linked.Bodied.{Retells, IsMarked, StillMarked}
use Rattle.fk_store_graph.specs.Linked.Leading.{target}
use Rattle.fk_store_graph.specs.Linked.Held.{held_in, IsCount}
use Rattle.fk_store_graph.specs.Linked.Marks.{is_of_pages, is_member, page_mark, member_mark}
use Rattle.fk_store_graph.specs.Linked.Names.{same_who}
use Rattle.fk_store_graph.proofs.InLinked.BodyLaws.{get-bodies, is-bodies}
use Rattle.fk_store_graph.proofs.InLinked.NameLaws.{same_who_eq}

same_some : {A : Type 0} (o : Option A) (a b : A) → o ≡ Some a → o ≡ Some b → a ≡ b
same_some o a b h k = cc

-- the same objects, with other marks
module _ (r q : Filed) (keys : q.keys ≡ r.keys) (entries : q.entries ≡ r.entries) where
  pub marked_keys : (w : Who) → key_of q w ≡ key_of r w
  unfolding key_of
  marked_keys w = ap (λ keys. cell keys w.space w.slot) keys

  pub marked_entries : (j : ℕ) → entry_under q j ≡ entry_under r j
  unfolding entry_under
  marked_entries j = ap (λ entries. entry_under (record r { entries = entries }) j) entries

  pub marked_names : (j : ℕ) → name_under q j ≡ name_under r j
  unfolding name_under
  marked_names j = ap (option_map (λ (e : Entry). e.who)) (marked_entries j)

  pub marked_bodies : (j : ℕ) → body_under q j ≡ body_under r j
  unfolding body_under
  marked_bodies j = ap (option_map (λ (e : Entry). e.body)) (marked_entries j)

  pub marked_told : AreTold r → AreTold q
  marked_told told key b i l there leads j e at under =
      told key b i l (sym (marked_bodies key) ∙ there) leads j e (sym (marked_keys l.to) ∙ at) (sym (marked_entries j) ∙ under)

-- the same objects, of which other things are told and marked
module _ (p r q : Filed) (retells : Retells p r) (keys : q.keys ≡ r.keys) (entries : q.entries ≡ r.entries) (marks : StillMarked r q) where
  settled_keys : (w : Who) → key_of q w ≡ key_of p w
  settled_keys w = marked_keys r q keys entries w ∙ retells.keys w

  settled_bodies : (j : ℕ) → body_under q j ≡ body_under p j
  settled_bodies j = marked_bodies r q keys entries j ∙ retells.bodies j

  settled_marks : (space mark : ℕ) → mark_at p.marks space mark ≡ true → mark_at q.marks space mark ≡ true
  settled_marks space mark on = marks space mark (ap (λ m. mark_at m space mark) retells.marks ∙ on)

  pub settled_map : bodies q ≡ bodies p
  settled_map = is-bodies q (bodies p) (λ w. ap (and_then (body_under q)) (settled_keys w) ∙ by (key_of p w) ∙ sym (get-bodies p w))
    where
      by : (x : Option ℕ) → and_then (body_under q) x ≡ and_then (body_under p) x
      by None = refl
      by (Some j) = settled_bodies j

  settled_owner : (n : ℕ) → owner q n ≡ owner p n
  unfolding owner
  settled_owner n = by (and_then (target (n % 5)) (body_under q (n / 5)))
      ∙ ap (λ x. and_then (head_by p) (and_then (target (n % 5)) x)) (settled_bodies (n / 5))
    where
      by : (x : Option Who) → and_then (head_by q) x ≡ and_then (head_by p) x
      by None = refl
      by (Some w) = ap (option_map (λ k. node_of k 2)) (settled_keys w)

  module _ (links : List Link) (homes : List ℕ) (held : ℕ) (who : Who) (key : ℕ) (b : Body) (here : key_of p who ≡ Some key) (body : body_under p key ≡ Some b)
      (marked : IsMarked q who b) where
    others_marked : (is : Body → Bool) (mark : ℕ → ℕ) →
        (is b ≡ true → mark_at q.marks who.space (mark who.slot) ≡ true) →
        ((w : Who) (k : ℕ) (c : Body) → same_who w who ≡ false → key_of p w ≡ Some k → body_under p k ≡ Some c → is c ≡ true →
        mark_at p.marks w.space (mark w.slot) ≡ true) → AreMarked q is mark
    others_marked is mark own others w k c at there so = by (same_who w who) refl
      where
        at_p : key_of p w ≡ Some k
        at_p = sym (settled_keys w) ∙ at

        there_p : body_under p k ≡ Some c
        there_p = sym (settled_bodies k) ∙ there

        by : (t : Bool) → same_who w who ≡ t → mark_at q.marks w.space (mark w.slot) ≡ true
        by false e = settled_marks w.space (mark w.slot) (others w k c e at_p there_p so)
        by true e =
            let same : w ≡ who = same_who_eq w who e in
            let one : k ≡ key = same_some (key_of p w) k key at_p (ap (key_of p) same ∙ here) in
            let body_is : c ≡ b = same_some (body_under p k) c b there_p (ap (body_under p) one ∙ body) in
            subst (λ (x : Who). mark_at q.marks x.space (mark x.slot) ≡ true) (sym same) (own (ap is (sym body_is) ∙ so))

    pub settled : AreRings links (owner p) → HaveNodes p (length links) → AreThere p → AreTold r → AreHomed p homes → IsCount (held_in (bodies p)) held →
        ((w : Who) (k : ℕ) (c : Body) → same_who w who ≡ false → key_of p w ≡ Some k → body_under p k ≡ Some c → is_of_pages c ≡ true →
        mark_at p.marks w.space (page_mark w.slot) ≡ true) →
        ((w : Who) (k : ℕ) (c : Body) → same_who w who ≡ false → key_of p w ≡ Some k → body_under p k ≡ Some c → is_member c ≡ true →
        mark_at p.marks w.space (member_mark w.slot) ≡ true) → AreBodies q links homes held
    settled rings long leads told homed count pages members = record {
      rings = rings_along links (owner p) (owner q) (λ n field. settled_owner n) rings;
      long = λ j c there. long j c (sym (settled_bodies j) ∙ there);
      leads = λ j c i l there is. subst IsSome (sym (settled_keys l.to)) (leads j c i l (sym (settled_bodies j) ∙ there) is);
      told = marked_told r q keys entries told;
      homed = λ n k.
          let same = ap (and_then stored_birth) (settled_bodies k) in
          (λ h. same ∙ (homed n k).0 h, λ h. (homed n k).1 (sym same ∙ h));
      held = subst (λ m. IsCount (held_in m) held) (sym settled_map) count;
      pages = others_marked (λ c. is_of_pages c) page_mark marked.pages pages;
      members = others_marked (λ c. is_member c) member_mark marked.members members;
    }
