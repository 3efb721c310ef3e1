-- Edits: what a change makes of the objects.
use Rattle.std.specs.Prelude.{◌≡◌, ◌≢◌, ℕ, ◌<◌, ◌==◌, ◌&&◌, Bool, Some, None, option_map, if◌then◌else◌}
use Rattle.slab.specs.Slab.{Slab, get}
use Rattle.fk_model.specs.declared.names.Who.{Who}
use Rattle.fk_model.specs.declared.body.Body.{Body}
use Rattle.fk_store_cells.specs.Keys.Tables.{mark_at}
use Rattle.fk_store_cells.specs.declared.objects.entry.Entry.{Entry}
use Rattle.fk_store_cells.specs.declared.objects.entry.Hints.{Hints}
use Rattle.fk_store_cells.specs.Objects.Filed.{Filed, entry_under, key_of}

-- names of the same object
abbrev pub same_who : Who → Who → Bool
same_who a b = a.space == b.space && a.slot == b.slot

-- an object with another body
abbrev pub with_body : Body → Entry → Entry
with_body body e = record e { body = body }

-- an object whose body is changed
abbrev pub on_body : (Body → Body) → Entry → Entry
on_body f e = record e { body = f e.body }

-- an object with other hints
abbrev pub with_hints : Hints → Entry → Entry
with_hints hints e = record e { hints = hints }

-- an object with another name
abbrev pub named : Who → Entry → Entry
named who e = record e { who = who }

-- the entry under a key is changed, and nothing else
pub record Rewrites (s t : Slab Entry) (key : ℕ) (f : Entry → Entry) : Type 0 where
  pub here : get t key ≡ option_map f (get s key)
  pub others : (k : ℕ) → k ≢ key → get t k ≡ get s k

-- the object under a key is changed, and nothing else
pub record Edits (o p : Filed) (key : ℕ) (f : Entry → Entry) : Type 0 where
  pub keys : p.keys ≡ o.keys
  pub marks : p.marks ≡ o.marks
  pub entries : (j : ℕ) → entry_under p j ≡ (if j == key then option_map f (entry_under o key) else entry_under o j)

-- an object comes under a key that none had
pub record Makes (o p : Filed) (key : ℕ) (e : Entry) : Type 0 where
  pub vacant : entry_under o key ≡ None
  pub next : key ≡ o.vacant
  pub small : key < 858993458
  pub entries : (j : ℕ) → entry_under p j ≡ (if j == key then Some e else entry_under o j)
  pub keys : (q : Who) → key_of p q ≡ (if same_who q e.who then Some key else key_of o q)
  pub marks : (space mark : ℕ) → mark_at p.marks space mark ≡ mark_at o.marks space mark

-- what stands where is the same
pub record Keeps (o p : Filed) : Type 0 where
  pub entries : (j : ℕ) → entry_under p j ≡ entry_under o j
  pub keys : (q : Who) → key_of p q ≡ key_of o q
  pub marks : (space mark : ℕ) → mark_at p.marks space mark ≡ mark_at o.marks space mark

-- the object under a key goes
pub record Removes (o p : Filed) (key : ℕ) (e : Entry) : Type 0 where
  pub entries : (j : ℕ) → entry_under p j ≡ (if j == key then None else entry_under o j)
  pub keys : (q : Who) → key_of p q ≡ (if same_who q e.who then None else key_of o q)
  pub marks : p.marks ≡ o.marks

-- the object under a key gets another name
pub record Renames (o p : Filed) (key : ℕ) (e : Entry) (to : Who) : Type 0 where
  pub entries : (j : ℕ) → entry_under p j ≡ (if j == key then Some (named to e) else entry_under o j)
  pub keys : (q : Who) → key_of p q ≡ (if same_who q to then Some key else (if same_who q e.who then None else key_of o q))
  pub marks : p.marks ≡ o.marks
