-- ChangeLaws: what a change of the slab and of the keys is for the objects.
use Rattle.std.proofs.Common.{Bor, ◌≡◌, ℕ, ◌<◌, ◌≤◌, ltb, length, Bool, true, false, cond, ◌==◌, ◌&&◌, List, [], get_or, Option, Some, None, IsSome}
use Rattle.std.proofs.Common.{IfSome, option_map, refl, sym, ap, subst, ◌∙◌, arith}
use Rattle.std.proofs.lemmas.Bool.Decides.{nat_tests}
use Rattle.std.proofs.lemmas.List.{get_or_past}
use Rattle.std.specs.Option.{option_copied}
use Rattle.slab.specs.Slab.{Slab, get, Updates}
use Rattle.fk_model.specs.declared.names.Who.{Who}
use Rattle.fk_model.specs.declared.body.Body.{Body}
use Rattle.fk_store_cells.specs.Keys.Tables.{mark_at}
use Rattle.fk_store_cells.specs.Slots.Cells.{cell}
use Rattle.fk_store_cells.specs.declared.objects.entry.Entry.{Entry}
use Rattle.fk_store_cells.specs.Objects.Filed.{Filed, IsFiled, entry_under, key_of, name_under, fresh}
use Rattle.fk_store_cells.specs.Objects.Edits.{Rewrites, Edits, Makes, Keeps, Removes, Renames, same_who, named}
use Rattle.fk_store_cells.proofs.InObjects.FiledLaws.{filed_kept, filed_made, filed_removed, filed_renamed, same_some, none_some}

-- the objects of a slab, with their keys
abbrev pub objects : List (List (Option ℕ)) → List (List Bool) → Slab Entry → Filed
objects keys marks s = record { keys = keys; marks = marks; entries = s.slots; vacant = s.vacant_key }

name_of : Entry → Who
name_of e = e.who

module _ (keys : List (List (Option ℕ))) (marks : List (List Bool)) (s t : Slab Entry) (key : ℕ) (f : Entry → Entry) (rewrites : Rewrites s t key f) where
  pub edited : Edits (objects keys marks s) (objects keys marks t) key f
  unfolding entry_under
  edited = record { keys = refl; marks = refl; entries = λ j. by j (j == key) refl }
    where
      by : (j : ℕ) (b : Bool) → (j == key) ≡ b → get t j ≡ cond b (option_map f (get s key)) (get s j)
      by j true e = let is : j ≡ key = grind (arith, nat_tests) in ap (get t) is ∙ rewrites.here
      by j false e = rewrites.others j (grind (arith, nat_tests))

  -- where names stay, keys and names agree still
  pub edited_filed : ((e : Entry) → (f e).who ≡ e.who) → IsFiled (objects keys marks s) → IsFiled (objects keys marks t)
  unfolding key_of name_under entry_under
  edited_filed stays filed = filed_kept _ _ _ _ filed (λ q. refl) (λ j. by j (j == key) refl)
    where
      here : (o : Option Entry) → option_map (λ (e : Entry). e.who) (option_map f o) ≡ option_map (λ (e : Entry). e.who) o
      here None = refl
      here (Some e) = ap Some (stays e)

      by : (j : ℕ) (b : Bool) → (j == key) ≡ b → option_map (λ (e : Entry). e.who) (get t j) ≡ option_map (λ (e : Entry). e.who) (get s j)
      by j true e =
          let is : j ≡ key = grind (arith, nat_tests) in
          ap (λ x. option_map (λ (e : Entry). e.who) (get t x)) is ∙ ap (option_map (λ (e : Entry). e.who)) rewrites.here ∙ here (get s key)
          ∙ sym (ap (λ x. option_map (λ (e : Entry). e.who) (get s x)) is)
      by j false e = ap (option_map (λ (e : Entry). e.who)) (rewrites.others j (grind (arith, nat_tests)))

-- what is under a key
pub updated : (s t : Slab Entry) (key : ℕ) (o : Option Entry) → Updates s t key o → (j : ℕ) → get t j ≡ cond (j == key) o (get s j)
updated s t key o updates j = by (j == key) refl
  where
    by : (b : Bool) → (j == key) ≡ b → get t j ≡ cond b o (get s j)
    by true e = let is : j ≡ key = grind (arith, nat_tests) in ap (get t) is ∙ updates.changed
    by false e = updates.others j (grind (arith, nat_tests))

named_if : (b : Bool) (o p : Option Entry) → option_map (λ (e : Entry). e.who) (cond b o p)
    ≡ cond b (option_map (λ (e : Entry). e.who) o) (option_map (λ (e : Entry). e.who) p)
named_if true o p = refl
named_if false o p = refl

module _ (keys keys2 : List (List (Option ℕ))) (marks marks2 : List (List Bool)) (s t : Slab Entry) (key : ℕ) where
  names_now : (o : Option Entry) → Updates s t key o → (j : ℕ) → name_under (objects keys2 marks2 t) j
      ≡ cond (j == key) (option_map (λ (e : Entry). e.who) o) (name_under (objects keys marks s) j)
  unfolding name_under entry_under
  names_now o updates j = ap (option_map (λ (e : Entry). e.who)) (updated s t key o updates j) ∙ named_if (j == key) o (get s j)

  -- an object comes
  module _ (who : Who) (body : Body) (vacant : get s key ≡ None) (updates : Updates s t key (Some (fresh who body)))
      (put : (a k : ℕ) → cell keys2 a k ≡ cond (a == who.space && k == who.slot) (Some key) (cell keys a k)) where
    pub made : key ≡ s.vacant_key → key < 858993458 → ((a m : ℕ) → mark_at marks2 a m ≡ mark_at marks a m) →
        Makes (objects keys marks s) (objects keys2 marks2 t) key (fresh who body)
    unfolding key_of entry_under
    made next small same = record {
      vacant = vacant;
      next = next;
      small = small;
      entries = updated s t key _ updates;
      keys = λ q. put q.space q.slot;
      marks = same;
    }

    pub made_filed : key < 858993458 → key_of (objects keys marks s) who ≡ None → IsFiled (objects keys marks s) → IsFiled (objects keys2 marks2 t)
    unfolding key_of name_under entry_under
    made_filed small empty filed = filed_made _ _ _ _ filed who key empty none small (λ q. put q.space q.slot) (names_now _ updates)
      where
        none : name_under (objects keys marks s) key ≡ None
        none = ap (option_map (λ (e : Entry). e.who)) vacant

  -- an object goes
  module _ (e : Entry) (there : get s key ≡ Some e) (updates : Updates s t key None)
      (left : (a k : ℕ) → cell keys2 a k ≡ cond (a == e.who.space && k == e.who.slot) None (cell keys a k)) where
    pub removed : marks2 ≡ marks → (d : Entry) → entry_under (objects keys marks s) key ≡ Some d →
        Removes (objects keys marks s) (objects keys2 marks2 t) key d
    unfolding key_of entry_under
    removed same d is = subst (λ d. Removes (objects keys marks s) (objects keys2 marks2 t) key d) (same_some (get s key) e d there is) (record {
      entries = updated s t key _ updates;
      keys = λ q. left q.space q.slot;
      marks = same;
    })

    pub removed_filed : IsFiled (objects keys marks s) → IsFiled (objects keys2 marks2 t)
    unfolding key_of name_under entry_under
    removed_filed filed = filed_removed _ _ _ _ filed e.who key name (λ q. left q.space q.slot) (names_now _ updates)
      where
        name : name_under (objects keys marks s) key ≡ Some e.who
        name = ap (option_map (λ (e : Entry). e.who)) there

  -- an object gets another name
  module _ (e : Entry) (to : Who) (there : get s key ≡ Some e) (space : e.who.space ≡ to.space) (rewrites : Rewrites s t key (named to))
      (filed : IsFiled (objects keys marks s))
      (moved : (a k : ℕ) → cell keys2 a k ≡ cond (a == e.who.space && k == to.slot) (cell keys e.who.space e.who.slot)
      (cond (a == e.who.space && k == e.who.slot) None (cell keys a k))) where
    updates : Updates s t key (Some (named to e))
    updates = record { changed = rewrites.here ∙ ap (option_map (named to)) there; others = rewrites.others }

    name : name_under (objects keys marks s) key ≡ Some e.who
    unfolding name_under entry_under
    name = ap (option_map (λ (e : Entry). e.who)) there

    keys_now : (q : Who) → key_of (objects keys2 marks2 t) q
        ≡ cond (same_who q to) (Some key) (cond (same_who q e.who) None (key_of (objects keys marks s) q))
    unfolding key_of
    keys_now q = moved q.space q.slot ∙ (λ i. cond (q.space == space i && q.slot == to.slot) (filed.found key e.who name i)
        (cond (same_who q e.who) None (cell keys q.space q.slot)))

    pub renamed : marks2 ≡ marks → (d : Entry) → entry_under (objects keys marks s) key ≡ Some d →
        Renames (objects keys marks s) (objects keys2 marks2 t) key d to
    unfolding entry_under
    renamed same d is = subst (λ d. Renames (objects keys marks s) (objects keys2 marks2 t) key d to) (same_some (get s key) e d there is) (record {
      entries = updated s t key _ updates;
      keys = keys_now;
      marks = same;
    })

    pub renamed_filed : key_of (objects keys marks s) to ≡ None → IsFiled (objects keys2 marks2 t)
    renamed_filed free = filed_renamed _ _ _ _ filed e.who to key name free keys_now (names_now _ updates)

-- what stands where is the same
module _ (keys keys2 : List (List (Option ℕ))) (marks marks2 : List (List Bool)) (s r : Slab Entry) (slots : r.slots ≡ s.slots)
    (same : (a k : ℕ) → cell keys2 a k ≡ cell keys a k) where
  pub kept : ((a m : ℕ) → mark_at marks2 a m ≡ mark_at marks a m) → Keeps (objects keys marks s) (objects keys2 marks2 r)
  unfolding key_of entry_under
  kept marked = record { entries = λ j. ap (λ l. get_or l j None) slots; keys = λ q. same q.space q.slot; marks = marked }

  pub kept_filed : IsFiled (objects keys marks s) → IsFiled (objects keys2 marks2 r)
  unfolding key_of name_under entry_under
  kept_filed filed = filed_kept _ _ _ _ filed (λ q. same q.space q.slot) (λ j. ap (λ l. option_map (λ (e : Entry). e.who) (get_or l j None)) slots)

-- an object comes, once there is room for it
module _ (keys keys2 : List (List (Option ℕ))) (marks marks2 : List (List Bool)) (s r t : Slab Entry) (key key2 : ℕ) (who : Who) (e : Entry) (body : Body)
    (room : r ≡ record s { capacity = r.capacity }) (next : key ≡ s.vacant_key) (next2 : key2 ≡ r.vacant_key) (vacant : get r key2 ≡ None)
    (updates : Updates r t key2 (Some e)) (is : e ≡ fresh who body) (small : key < 858993458)
    (put : (a k : ℕ) → cell keys2 a k ≡ cond (a == who.space && k == who.slot) (Some key) (cell keys a k)) where
  same_key : key2 ≡ key
  same_key = next2 ∙ ap (λ (x : Slab Entry). x.vacant_key) room ∙ sym next

  same_slots : r.slots ≡ s.slots
  same_slots = ap (λ (x : Slab Entry). x.slots) room

  vacant_here : get s key ≡ None
  vacant_here = (λ i. get_or (sym same_slots i) (sym same_key i) None) ∙ vacant

  updates_here : Updates s t key (Some (fresh who body))
  updates_here = record {
    changed = ap (get t) (sym same_key) ∙ updates.changed ∙ ap Some is;
    others = λ j apart. updates.others j (λ h. apart (h ∙ same_key)) ∙ ap (λ l. get_or l j None) same_slots;
  }

  pub made_all : ((a m : ℕ) → mark_at marks2 a m ≡ mark_at marks a m) → Makes (objects keys marks s) (objects keys2 marks2 t) key (fresh who body)
  made_all same = made keys keys2 marks marks2 s t key who body vacant_here updates_here put next small same

  pub made_all_filed : key_of (objects keys marks s) who ≡ None → IsFiled (objects keys marks s) → IsFiled (objects keys2 marks2 t)
  made_all_filed = made_filed keys keys2 marks marks2 s t key who body vacant_here updates_here put small

-- no objects
pub filed_none : (s : Slab Entry) → s.slots ≡ [] → IsFiled (objects [] [] s)
unfolding key_of name_under entry_under cell
filed_none s none = record {
  filed = λ q j h. absurd (cc);
  found = λ j q h. absurd (none_some (name_under (objects [] [] s) j) q
      (ap (λ l. name_under (record { keys = []; marks = []; entries = l; vacant = s.vacant_key }) j) none) h);
  small = λ j q h. absurd (none_some (name_under (objects [] [] s) j) q
      (ap (λ l. name_under (record { keys = []; marks = []; entries = l; vacant = s.vacant_key }) j) none) h);
}

-- ---- what is found under a key

pub under : (o : Filed) (who : Who) (key : ℕ) → IsFiled o → key_of o who ≡ Some key → (e : Entry) × (entry_under o key ≡ Some e) × (e.who ≡ who)
unfolding name_under
under o who key filed h = by (entry_under o key) refl (filed.filed who key h)
  where
    by : (x : Option Entry) → entry_under o key ≡ x → option_map (λ (e : Entry). e.who) x ≡ Some who →
        (e : Entry) × (entry_under o key ≡ Some e) × (e.who ≡ who)
    by None e h = absurd (cc)
    by (Some e) is h = (e, is, cc)

pub key_found : (o : Filed) (key : ℕ) (e : Entry) → IsFiled o → entry_under o key ≡ Some e → key_of o e.who ≡ Some key
unfolding name_under
key_found o key e filed h = filed.found key e.who (ap (option_map (λ (e : Entry). e.who)) h)

pub key_small : (o : Filed) (who : Who) (key : ℕ) → IsFiled o → key_of o who ≡ Some key → key < 858993458
key_small o who key filed h = filed.small key who (filed.filed who key h)

-- only keys of the slab have objects
pub under_low : (keys : List (List (Option ℕ))) (marks : List (List Bool)) (s : Slab Entry) (key : ℕ) →
    IsSome (entry_under (objects keys marks s) key) → key < length s.slots
unfolding entry_under
under_low keys marks s key there = by (ltb key (length s.slots)) refl
  where
    by : (b : Bool) → ltb key (length s.slots) ≡ b → key < length s.slots
    by true e = grind (arith, nat_tests)
    by false e =
        let past : length s.slots ≤ key = grind (arith, nat_tests) in
        let none = get_or_past s.slots key None past in
        absurd (cc)

pub under_small : (o : Filed) (key : ℕ) → IsFiled o → IsSome (entry_under o key) → key < 858993458
unfolding name_under
under_small o key filed there = by (entry_under o key) refl there
  where
    by : (x : Option Entry) → entry_under o key ≡ x → IsSome x → key < 858993458
    by None e h = absurd (cc)
    by (Some e) is h = filed.small key e.who (ap (option_map (λ (e : Entry). e.who)) is)

pub none_is : (s : Slab Entry) (k : List (List (Option ℕ)) × List (List Bool)) → k ≡ ([], []) → s.slots ≡ [] → s.vacant_key ≡ 0 →
    objects k.0 k.1 s ≡ record { keys = []; marks = []; entries = []; vacant = 0 }
none_is s k a b c = λ i. record { keys = (a i).0; marks = (a i).1; entries = b i; vacant = c i }

-- ---- what a look-up answers

pub is_key : (keys : List (List (Option ℕ))) (marks : List (List Bool)) (s : Slab Entry) (who : Who) (r : Option ℕ) → r ≡ cell keys who.space who.slot →
    r ≡ key_of (objects keys marks s) who
unfolding key_of
is_key keys marks s who r is = is

pub has_name : (o : Filed) (who : Who) (r : Option ℕ) → IsFiled o → r ≡ key_of o who →
    IfSome r (λ key. (e : Entry) × (entry_under o key ≡ Some e) × (e.who ≡ who))
has_name o who None filed is = tt
has_name o who (Some key) filed is = under o who key filed (sym is)

pub is_small : (o : Filed) (who : Who) (r : Option ℕ) → IsFiled o → r ≡ key_of o who → IfSome r (λ key. key < 858993458)
is_small o who None filed is = tt
is_small o who (Some key) filed is = key_small o who key filed (sym is)

pub contains : (keys : List (List (Option ℕ))) (marks : List (List Bool)) (s : Slab Entry) (key : ℕ) →
    IsSome (entry_under (objects keys marks s) key) → IsSome (get s key)
unfolding entry_under
contains keys marks s key there = there

pub under_is : (keys : List (List (Option ℕ))) (marks : List (List Bool)) (s : Slab Entry) (key : ℕ) (e : Entry) → get s key ≡ Some e →
    entry_under (objects keys marks s) key ≡ Some e
unfolding entry_under
under_is keys marks s key e is = is

pub entry_found : (o : Filed) (key : ℕ) (r : Option (Bor Entry)) → IsFiled o → option_copied r ≡ entry_under o key →
    IfSome r (λ e. key_of o e.now.who ≡ Some key)
entry_found o key None filed is = tt
entry_found o key (Some e) filed is = key_found o key e.now filed (sym is)

-- a space in which nothing stands is cleared
pub cleared : (keys keys2 : List (List (Option ℕ))) (space : ℕ) → ((a k : ℕ) → cell keys2 a k ≡ cond (a == space) None (cell keys a k)) →
    ((k : ℕ) → cell keys space k ≡ None) → (a k : ℕ) → cell keys2 a k ≡ cell keys a k
cleared keys keys2 space now empty a k = now a k ∙ by (a == space) refl
  where
    by : (b : Bool) → (a == space) ≡ b → cond b None (cell keys a k) ≡ cell keys a k
    by false e = refl
    by true e = let is : a ≡ space = grind (arith, nat_tests) in sym (ap (λ a. cell keys a k) is ∙ empty k)
