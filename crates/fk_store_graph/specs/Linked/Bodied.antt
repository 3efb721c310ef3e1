-- Bodied: the bodies of all objects by name, and what stands beside them by key.
use Rattle.std.specs.Prelude.{◌≡◌, ⊤, ℕ, ◌+◌, ◌*◌, ◌/◌, ◌%◌, ◌≤◌, ◌↔◌, ◌==◌, ◌&&◌, not, nat_lt, Bool, true, List, [], length, map, filter_map, Option}
use Rattle.std.specs.Prelude.{Some, None, IsSome, option_map, if◌then◌else◌}
use Rattle.std.specs.FinMap.{FinMap}
use Rattle.fk_model.specs.declared.names.Who.{Who}
use Rattle.fk_model.specs.declared.body.Body.{Body}
use Rattle.fk_model.specs.declared.thread.Fault.{Fault}
use Rattle.fk_model.specs.declared.thread.Thread as threads_of
use Rattle.fk_model.specs.Objects.{and_then}
use Rattle.fk_model.proofs.walks.Members.{IsIn}
use Rattle.fk_store_cells.specs.Slots.Tabled.{map_of_rows}
use Rattle.fk_store_graph.specs.declared.hints.lead.Sort.{Sort}
use Rattle.fk_store_graph.specs.declared.hints.lead.Sort.TheVariants.{Pointer, Served, Taken}
use Rattle.fk_store_graph.specs.declared.hints.lead.Lead.{Lead}
use Rattle.fk_store_graph.specs.Hints.Leads.{led}
use Rattle.fk_store_cells.specs.Keys.Tables.{mark_at}
use Rattle.fk_store_graph.specs.declared.links.links.Link.{Link}
use Rattle.fk_store_graph.specs.Links.Links.{AreRings}
use Rattle.fk_store_graph.specs.Links.Nodes as nodes_of
use Rattle.fk_store_graph.specs.Links.Walks.{AreLeaders}
use Rattle.fk_store_cells.specs.declared.objects.entry.Entry.{Entry}
use Rattle.fk_store_cells.specs.declared.objects.entry.Hints.{Hints}
use Rattle.fk_store_cells.specs.declared.objects.entry.Told.{Told}
use Rattle.fk_store_cells.specs.declared.objects.entry.Told.TheVariants.{Nobody, One, Many}
use Rattle.fk_store_cells.specs.Objects.Filed.{Filed, entry_under, key_of, name_under}
use Rattle.fk_store_graph.specs.Leads.Births.{stored_birth}
use Rattle.fk_store_graph.specs.Leads.Held.{held_in, IsCount}
use Rattle.fk_store_graph.specs.Leads.Leading.{fault_target, target, with_fault}
use Rattle.fk_store_graph.specs.Linked.Homes.{home_at}
use Rattle.fk_store_graph.specs.Leads.Marks.{is_of_pages, is_member, page_mark, member_mark}
use Rattle.fk_store_graph.specs.Leads.Names.{at, who_cmp}
use Rattle.fk_store_graph.specs.Leads.Sweeps.{body_after}
use Rattle.fk_store_graph.specs.declared.leads.sweeps.Sweep.{Sweep}

-- the object under a key
unfoldable pub body_under : Filed → ℕ → Option Body
body_under o key = option_map (λ (e : Entry). e.body) (entry_under o key)

-- all objects, by names
unfoldable pub bodies : Filed → FinMap who_cmp Body
bodies o = map_of_rows who_cmp at (map (map (and_then (body_under o))) o.keys)

-- the head of an object's ring
abbrev pub head_by : Filed → Who → Option ℕ
head_by o who = option_map (λ k. nodes_of.node_of k 2) (key_of o who)

-- the head to which a field of a body leads
abbrev pub head_led : Filed → Option Body → ℕ → Option ℕ
head_led o b field = and_then (head_by o) (and_then (target field) b)

-- and to which a field of a thread with this fault does, of the fields 3 to 5
abbrev pub head_led_by_fault : Filed → Option Fault → ℕ → Option ℕ
head_led_by_fault o fault field = and_then (head_by o) (fault_target field fault)

-- the heads to which all nodes lead. Another name of an object changes none
unfoldable pub owner : Filed → ℕ → Option ℕ
owner o n = head_led o (body_under o (nodes_of.key_of n)) (nodes_of.field_of n)

-- and where there is another body, or none, under one key
unfoldable pub owner_with : Filed → (ℕ → Option ℕ) → ℕ → Option Body → ℕ → Option ℕ
owner_with o others key b n = if nodes_of.key_of n == key then head_led o b (nodes_of.field_of n) else others n

-- and where the object under one key leads nowhere
unfoldable pub unled_with : (ℕ → Option ℕ) → ℕ → ℕ → Option ℕ
unled_with others key n = if nodes_of.key_of n == key then None else others n

-- a thread with this fault is under a key
pub record HasFault (o : Filed) (key : ℕ) (fault : Option Fault) : Type 0 where
  pub thread : threads_of.Thread
  pub there : body_under o key ≡ Some (with_fault thread fault)

-- it may be the object under this key
abbrev pub Tells : Told → ℕ → Type 0
Tells Nobody key = ⊥
Tells (One other) key = other ≡ key
Tells Many key = ⊤

-- what a hint says of who leads to an object
abbrev pub told_by : Sort → Hints → Told
told_by Pointer hints = Many
told_by Served hints = hints.served
told_by Taken hints = hints.taken

abbrev pub told_with : Sort → Told → Hints → Hints
told_with Pointer told hints = hints
told_with Served told hints = record hints { served = told }
told_with Taken told hints = record hints { taken = told }

-- there are nodes for each object
abbrev pub HaveNodes : Filed → ℕ → Type 0
HaveNodes o long = (key : ℕ) (b : Body) → body_under o key ≡ Some b → key * 5 + 5 ≤ long

-- each object has its nodes
abbrev pub HaveHeads : Filed → ℕ → Type 0
HaveHeads o long = (w : Who) (key : ℕ) → key_of o w ≡ Some key → key * 5 + 5 ≤ long

-- what a body names is there
abbrev pub AreThere : Filed → Type 0
AreThere o = (key : ℕ) (b : Body) (i : ℕ) (l : Lead) → body_under o key ≡ Some b → led b i ≡ Some l → IsSome (key_of o l.to)

-- an object to which the one under a key leads like this is told of it
abbrev pub IsTold : Filed → Lead → ℕ → Type 0
IsTold o l key = (j : ℕ) (e : Entry) → key_of o l.to ≡ Some j → entry_under o j ≡ Some e → Tells (told_by l.sort e.hints) key

-- each pointer is told of where it leads
abbrev pub AreTold : Filed → Type 0
AreTold o = (key : ℕ) (b : Body) (i : ℕ) (l : Lead) → body_under o key ≡ Some b → led b i ≡ Some l → IsTold o l key

-- each space is known by its birth number, and no other
abbrev pub AreHomed : Filed → List ℕ → Type 0
AreHomed o homes = (n key : ℕ) → (home_at homes n ≡ Some key) ↔ (and_then stored_birth (body_under o key) ≡ Some n)

-- the groups of such objects are marked
abbrev pub AreMarked : Filed → (Body → Bool) → (ℕ → ℕ) → Type 0
AreMarked o is mark =
    (who : Who) (key : ℕ) (b : Body) → key_of o who ≡ Some key → body_under o key ≡ Some b → is b ≡ true → mark_at o.marks who.space (mark who.slot) ≡ true

pub record AreBodies (o : Filed) (links : List Link) (homes : List ℕ) (count : ℕ) : Type 0 where
  pub rings : AreRings links (owner o)
  pub long : HaveNodes o (length links)
  pub leads : AreThere o
  pub told : AreTold o
  pub homed : AreHomed o homes
  pub held : IsCount (held_in (bodies o)) count
  pub pages : AreMarked o is_of_pages page_mark
  pub members : AreMarked o is_member member_mark

-- the group of an object with this name and this body is marked, if it is to be
pub record IsMarked (o : Filed) (who : Who) (b : Body) : Type 0 where
  pub pages : is_of_pages b ≡ true → mark_at o.marks who.space (page_mark who.slot) ≡ true
  pub members : is_member b ≡ true → mark_at o.marks who.space (member_mark who.slot) ≡ true

-- what was marked is marked still
abbrev pub StillMarked : Filed → Filed → Type 0
StillMarked o p = (space mark : ℕ) → mark_at o.marks space mark ≡ true → mark_at p.marks space mark ≡ true

-- keys, names, hints and marks are the same; bodies may be others
pub record AreAlike (o p : Filed) : Type 0 where
  pub keys : (q : Who) → key_of p q ≡ key_of o q
  pub names : (j : ℕ) → name_under p j ≡ name_under o j
  pub hints : (j : ℕ) → option_map (λ (e : Entry). e.hints) (entry_under p j) ≡ option_map (λ (e : Entry). e.hints) (entry_under o j)
  pub marks : p.marks ≡ o.marks

-- and each body is what this makes of it
pub record Maps (o p : Filed) (f : ℕ → Body → Body) : Type 0 where
  pub alike : AreAlike o p
  pub bodies : (j : ℕ) → body_under p j ≡ option_map (f j) (body_under o j)

-- keys, names, bodies and marks are the same; more may be told, and less
pub record Retells (o p : Filed) : Type 0 where
  pub keys : (q : Who) → key_of p q ≡ key_of o q
  pub names : (j : ℕ) → name_under p j ≡ name_under o j
  pub bodies : (j : ℕ) → body_under p j ≡ body_under o j
  pub marks : p.marks ≡ o.marks

-- whoever was told of as this is told of still
abbrev pub StillTold : Filed → Filed → Type 0
StillTold o p = (key : ℕ) (b : Body) (i : ℕ) (l : Lead) → body_under o key ≡ Some b → led b i ≡ Some l → IsTold o l key → IsTold p l key

abbrev pub space_of : Option Who → ℕ
space_of None = 0
space_of (Some who) = who.space

abbrev pub slot_of : Option Who → ℕ
slot_of None = 0
slot_of (Some who) = who.slot

-- the space and the slot in which the object under a key stands
abbrev pub space_under : Filed → ℕ → ℕ
space_under o key = space_of (name_under o key)

abbrev pub slot_under : Filed → ℕ → ℕ
slot_under o key = slot_of (name_under o key)

-- the body under a key is swept
abbrev pub swept_at : Sweep → Filed → ℕ → ℕ → Body → Body
swept_at sweep o key j b = if j == key then body_after sweep (space_under o j) b else b

-- the ports of the space of what is swept leave it as their set, or follow it
abbrev pub member_after : Sweep → Filed → ℕ → Body → Body
member_after sweep o key b = if is_member b && space_under o key == sweep.from.space then body_after sweep sweep.from.space b else b

-- those in slots from one up to another
abbrev pub members_in : Sweep → Filed → ℕ → ℕ → ℕ → Body → Body
members_in sweep o low high key b = if not (nat_lt (slot_under o key) low) && nat_lt (slot_under o key) high then member_after sweep o key b else b

-- and with those whose pointers lead there all bodies are swept
abbrev pub swept_under : Sweep → Filed → ℕ → Body → Body
swept_under sweep o key b = body_after sweep (space_under o key) b

-- the objects of these nodes
abbrev pub names_of : Filed → List ℕ → List Who
names_of o = filter_map (λ n. name_under o (nodes_of.key_of n))

abbrev pub names_under : Filed → Option (List ℕ) → List Who
names_under o None = []
names_under o (Some walk) = names_of o walk

-- the objects of these nodes are there
abbrev pub AreNodes : Filed → Option (List ℕ) → Type 0
AreNodes o None = ⊤
AreNodes o (Some nodes) = (n : ℕ) → IsIn n nodes → IsSome (name_under o (nodes_of.key_of n))

-- the names of the objects whose pointers lead to the one under a key, one for each pointer
pub record LeadersOf (o : Filed) (key : ℕ) (names : List Who) : Type 0 where
  pub nodes : List ℕ
  pub are : AreLeaders (owner o) (nodes_of.node_of key 2) nodes
  pub named : names ≡ names_of o nodes

abbrev pub AreLeadersOf : Filed → Option ℕ → List Who → Type 0
AreLeadersOf o None names = names ≡ []
AreLeadersOf o (Some key) names = LeadersOf o key names
