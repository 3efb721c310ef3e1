-- MarkLaws: the groups of mappings and regions, and of ports in sets, are marked.
use Rattle.std.proofs.Common.{◌≡◌, ℕ, ◌+◌, ◌/◌, Bool, true, false, cond, ◌==◌, ◌&&◌, Option, Some, None, IsSome, is_some, refl, sym, ap, subst, ◌∙◌, arith}
use Rattle.std.proofs.lemmas.Bool.Decides.{nat_tests}
use Rattle.std.specs.FinMap.{get}
use Rattle.fk_model.specs.declared.names.Who.{Who}
use Rattle.fk_model.specs.declared.body.Body.{Body}
use Rattle.fk_model.specs.declared.body.Body.TheVariants.{Mutex, Cond, Mapping, Region, Port, Portset, Space, Thread, Reference}
use Rattle.fk_store_cells.specs.Keys.Tables.{mark_at}
use Rattle.fk_store_cells.specs.declared.objects.entry.Entry.{Entry}
use Rattle.fk_store_cells.specs.Objects.Filed.{Filed, IsFiled, entry_under, key_of}
use Rattle.fk_store_graph.specs.Linked.Bodied.{body_under, bodies, AreMarked, IsMarked, StillMarked}
use Rattle.fk_store_graph.specs.Leads.Marks.{is_of_pages, is_member, page_mark, member_mark}
use Rattle.fk_store_graph.specs.Leads.Names.{at}
use Rattle.fk_store_graph.proofs.InLinked.BodyLaws.{get_under}

pub still_same : (o : Filed) → StillMarked o o
still_same o space mark on = on

-- one more mark
module _ (o p : Filed) (space mark : ℕ) (marks : (s m : ℕ) → mark_at p.marks s m ≡ cond (s == space && m == mark) true (mark_at o.marks s m)) where
  pub still_more : StillMarked o p
  still_more s m on = marks s m ∙ by (s == space && m == mark)
    where
      by : (t : Bool) → cond t true (mark_at o.marks s m) ≡ true
      by true = refl
      by false = on

  pub is_set : mark_at p.marks space mark ≡ true
  is_set = marks space mark ∙ (let here : (space == space && mark == mark) ≡ true = grind (arith, nat_tests) in rw here refl)

-- the mark that a body asks for
module _ (p : Filed) (who : Who) where
  pub page_marked : (b : Body) → is_member b ≡ false → mark_at p.marks who.space (page_mark who.slot) ≡ true → IsMarked p who b
  page_marked b off on = record { pages = λ h. on; members = λ h. absurd (let both = sym h ∙ off in cc) }

  pub member_marked : (b : Body) → is_of_pages b ≡ false → mark_at p.marks who.space (member_mark who.slot) ≡ true → IsMarked p who b
  member_marked b off on = record { pages = λ h. absurd (let both = sym h ∙ off in cc); members = λ h. on }

  pub unasked : (b : Body) → is_of_pages b ≡ false → is_member b ≡ false → IsMarked p who b
  unasked b off none = record { pages = λ h. absurd (let both = sym h ∙ off in cc); members = λ h. absurd (let both = sym h ∙ none in cc) }

-- what isn't marked holds none
pub none_unmarked : (o : Filed) (is : Body → Bool) (mark : ℕ → ℕ) → AreMarked o is mark → (space k : ℕ) (b : Body) →
    mark_at o.marks space (mark k) ≡ false → get (bodies o) (at space k) ≡ Some b → is b ≡ false
none_unmarked o is mark marked space k b off there = by (is b) refl
  where
    by : (t : Bool) → is b ≡ t → t ≡ false
    by false e = refl
    by true e =
        let found = get_under o (at space k) b there in
        let on = marked (at space k) found.0 b found.1 found.2 e in
        let both = sym on ∙ off in absurd (cc)

-- a mapping or a region is no port
pub pages_alone : (b : Body) → is_of_pages b ≡ true → is_member b ≡ false
pages_alone (Mutex locked) h = refl
pages_alone Cond h = refl
pages_alone (Mapping first count offset write region) h = refl
pages_alone (Region first count write keeper) h = refl
pages_alone (Port set served) h = absurd (cc)
pages_alone Portset h = refl
pages_alone (Space birth holder) h = refl
pages_alone (Thread thread) h = refl
pages_alone (Reference to) h = refl

-- what was said of the entry that is there
pub this_marked : (o p : Filed) (key : ℕ) (d : Entry) → Some d ≡ entry_under o key → IsMarked p d.who d.body →
    (e : Entry) → entry_under o key ≡ Some e → IsMarked p e.who e.body
this_marked o p key d there marked e is = let both = there ∙ is in let same : d ≡ e = cc in subst (λ (x : Entry). IsMarked p x.who x.body) same marked

pub none_marked : (o p : Filed) (key : ℕ) → None ≡ entry_under o key → (e : Entry) → entry_under o key ≡ Some e → IsMarked p e.who e.body
none_marked o p key none e is = let both = none ∙ is in absurd (cc)
