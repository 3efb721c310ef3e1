-- Calm changes: what fills a world and such a change may come in either order.
use Rattle.std.proofs.Common.{◌≡◌, ℕ, Bool, true, false, not, cond, ◌&&◌, ◌||◌, ◌==◌, List, [], ◌∷◌, ◌++◌, Option, Some, None, option_map, is_some, is_none}
use Rattle.std.proofs.Common.{refl, sym, ap, ◌∙◌}
use Rattle.std.specs.List.{list_any}
use Rattle.std.proofs.lemmas.Bool.{and_parts}
use Rattle.std.proofs.lemmas.List.Folds.{list_any-append}
use Rattle.fk_model.specs.Places.{Path, same_path, Ptr}
use Rattle.fk_model.specs.Objects.{Mode, Fault, Peer, Thread, Body, reference_of, and_then, or_else, holds}
use Rattle.fk_model.specs.Objects.Mode.{Running, Calling, Halted, Native}
use Rattle.fk_model.specs.Objects.Body.{Mutex, Mapping, Region, Port, Space, Thread_of, Reference}
use Rattle.fk_model.specs.World.{World, Change, Edit, serves, edited, apply, apply_all, finished_in, ended_in}
use Rattle.fk_model.specs.World.Change.{Alter, Make, MakeSpace, Kill, Move, PutPage, DropPage}
use Rattle.fk_model.specs.World.Edit.{SetLocked, SetWindow, SetExtent, SetMember, SetPointer, SetHolder, Finish, End}
use Rattle.fk_model.specs.World.Edit.{SetFault, SetTaker}
use Rattle.fk_model.specs.Searches.{fault_at, pointers, option_list, talk_pointers, fault_pointers, peer_pointer}
use Rattle.fk_model.specs.Holds.{holder_of, decider, is_frozen_for, leads_to_frozen}
use Rattle.fk_model.specs.Freezing.{changed_pointers, made_pointers, are_unfrozen, IsAllowed, AreAllowed}
use Rattle.laws_filled.specs.Filled.{Paging, is_paged, kept_fault, unfaulted, kept_back, filled, is_raise}

-- ---- changes that are calm: of one object, raising no fault of the pager's, or of a page

abbrev pub is_calm_edit : Paging → Edit → Bool
is_calm_edit p (SetFault (Some fault)) = not (is_paged p fault)
is_calm_edit p other = true

abbrev pub is_calm : Paging → Change → Bool
is_calm p (Alter x edit) = is_calm_edit p edit
is_calm p (PutPage space page words) = true
is_calm p other = false

abbrev pub AreCalm : Paging → List Change → Type 0
AreCalm p [] = Unit {0}
AreCalm p (c ∷ cs) = (is_calm p c ≡ true) × AreCalm p cs

pub calm-then : (p : Paging) (cs ds : List Change) → AreCalm p cs → AreCalm p ds → AreCalm p (cs ++ ds)
calm-then p [] ds calm after = after
calm-then p (c ∷ cs) ds calm after = (calm.0, calm-then p cs ds calm.1 after)

-- ---- changes that are tame: calm ones that besides leave mappings, regions, holders and sets, lead references alone elsewhere, take no fault of the pager's,
-- and write only to pages that are home. Each is asked in the world in which it is made

abbrev pub is_tame_edit : Paging → World → Path → Edit → Bool
is_tame_edit p w x (SetFault (Some fault)) = not (is_paged p fault) && is_none fault.taker
is_tame_edit p w x (SetTaker taker) = not (holds (is_paged p) (fault_at w x)) && not (holds (serves p.porter) taker)
is_tame_edit p w x (SetPointer to) = is_some (and_then reference_of (w.body x))
is_tame_edit p w x (SetWindow first count offset write) = false
is_tame_edit p w x (SetExtent first count write) = false
is_tame_edit p w x (SetMember set) = false
is_tame_edit p w x (SetHolder holder) = false
is_tame_edit p w x other = true

abbrev pub is_tame : Paging → World → Change → Bool
is_tame p w (Alter x edit) = is_tame_edit p w x edit
is_tame p w (PutPage space page words) = is_some (w.page space page)
is_tame p w other = false

abbrev pub AreTame : Paging → World → List Change → Type 0
AreTame p w [] = Unit {0}
AreTame p w (c ∷ cs) = (is_tame p w c ≡ true) × AreTame p (apply c w) cs

pub tame-then : (p : Paging) (w : World) (cs ds : List Change) → AreTame p w cs → ((v : World) → AreTame p v ds) → AreTame p w (cs ++ ds)
tame-then p w [] ds tame after = after w
tame-then p w (c ∷ cs) ds tame after = (tame.0, tame-then p (apply c w) cs ds tame.1 after)

tame-calm : (p : Paging) (w : World) (c : Change) → is_tame p w c ≡ true → is_calm p c ≡ true
tame-calm p w (Alter x (SetFault (Some fault))) tame = (and_parts _ _ tame).0
tame-calm p w (Alter x edit) tame = refl
tame-calm p w (PutPage space page words) tame = refl
tame-calm p w (Make x body) tame = cc
tame-calm p w (MakeSpace x holder) tame = cc
tame-calm p w (Kill x) tame = cc
tame-calm p w (Move x slot) tame = cc
tame-calm p w (DropPage space page) tame = cc

pub all-tame-calm : (p : Paging) (w : World) (cs : List Change) → AreTame p w cs → AreCalm p cs
all-tame-calm p w [] tame = tt
all-tame-calm p w (c ∷ cs) tame = (tame-calm p w c tame.0, all-tame-calm p (apply c w) cs tame.1)

module _ (p : Paging) where
  -- ---- edits

  abbrev clean : Thread → Thread
  clean t = record t { fault = and_then (kept_fault p) t.fault }

  ended-clean : (status : ℕ) (answers : List ℕ) (t : Thread) (mode : Mode) → ended_in status answers (clean t) mode ≡ clean (ended_in status answers t mode)
  ended-clean status answers t (Calling todo rest) = refl
  ended-clean status answers t (Running g) = refl
  ended-clean status answers t (Halted g code) = refl
  ended-clean status answers t (Native g) = refl

  finished-clean : (answers : List ℕ) (t : Thread) (mode : Mode) → finished_in answers (clean t) mode ≡ clean (finished_in answers t mode)
  finished-clean answers t (Calling (stage ∷ next_stage ∷ todo) rest) = refl
  finished-clean answers t (Calling (stage ∷ []) rest) = refl
  finished-clean answers t (Calling [] rest) = refl
  finished-clean answers t (Running g) = refl
  finished-clean answers t (Halted g code) = refl
  finished-clean answers t (Native g) = refl

  taker-clean : (taker : Option Peer) (o : Option Fault) →
      option_map (λ (fault : Fault). record fault { taker = taker }) (and_then (kept_fault p) o)
      ≡ and_then (kept_fault p) (option_map (λ (fault : Fault). record fault { taker = taker }) o)
  taker-clean taker None = refl
  taker-clean taker (Some fault) = by (is_paged p fault)
    where
      by : (b : Bool) → option_map (λ (f : Fault). record f { taker = taker }) (cond b None (Some fault)) ≡ cond b None (Some (record fault { taker = taker }))
      by true = refl
      by false = refl

  new-clean : (o : Option Fault) → is_calm_edit p (SetFault o) ≡ true → o ≡ and_then (kept_fault p) o
  new-clean None calm = refl
  new-clean (Some fault) calm = by (is_paged p fault) calm
    where
      by : (b : Bool) → not b ≡ true → Some fault ≡ cond b None (Some fault)
      by true e = cc
      by false e = refl

  pub edited-clean : (edit : Edit) (b : Body) → is_calm_edit p edit ≡ true → edited edit (unfaulted p b) ≡ unfaulted p (edited edit b)
  unfolding edited
  edited-clean (SetLocked locked) (Mutex old) calm = refl
  edited-clean (SetLocked locked) b calm = refl
  edited-clean (SetWindow first count offset write) (Mapping m) calm = refl
  edited-clean (SetWindow first count offset write) b calm = refl
  edited-clean (SetExtent first count write) (Region r) calm = refl
  edited-clean (SetExtent first count write) b calm = refl
  edited-clean (SetMember set) (Port old served) calm = refl
  edited-clean (SetMember set) b calm = refl
  edited-clean (SetPointer to) (Reference old) calm = refl
  edited-clean (SetPointer to) (Mapping m) calm = refl
  edited-clean (SetPointer to) (Region r) calm = refl
  edited-clean (SetPointer to) b calm = refl
  edited-clean (SetHolder holder) (Space birth old) calm = refl
  edited-clean (SetHolder holder) b calm = refl
  edited-clean (Finish answers) (Thread_of t) calm = ap Thread_of (finished-clean answers t t.mode)
  edited-clean (End status answers) (Thread_of t) calm = ap Thread_of (ended-clean status answers t t.mode)
  edited-clean (SetFault fault) (Thread_of t) calm = λ i. Thread_of (record t { fault = new-clean fault calm i })
  edited-clean (SetTaker taker) (Thread_of t) calm = λ i. Thread_of (record t { fault = taker-clean taker t.fault i })
  edited-clean edit (Thread_of t) calm = refl
  edited-clean edit b calm = refl

  -- ---- changes

  option-clean : (edit : Edit) (o : Option Body) → is_calm_edit p edit ≡ true →
      option_map (edited edit) (option_map (unfaulted p) o) ≡ option_map (unfaulted p) (option_map (edited edit) o)
  option-clean edit None calm = refl
  option-clean edit (Some b) calm = ap Some (edited-clean edit b calm)

  pub applied : (c : Change) (w : World) → is_calm p c ≡ true → apply c (filled p w) ≡ filled p (apply c w)
  unfolding apply
  applied (Alter x edit) w calm = λ i. record { body = λ q. by q (same_path q x) i; page = (filled p w).page; next = w.next }
    where
      by : (q : Path) (m : Bool) → cond m (option_map (edited edit) (option_map (unfaulted p) (w.body q))) (option_map (unfaulted p) (w.body q))
          ≡ option_map (unfaulted p) (cond m (option_map (edited edit) (w.body q)) (w.body q))
      by q true = option-clean edit (w.body q) calm
      by q false = refl
  applied (PutPage space page words) w calm = λ i. record { body = (filled p w).body; page = λ s g. by s g (same_path s space && g == page) i; next = w.next }
    where
      by : (s : Path) (g : ℕ) (m : Bool) →
          cond m (Some words) (or_else (w.page s g) (kept_back p s g)) ≡ or_else (cond m (Some words) (w.page s g)) (kept_back p s g)
      by s g true = refl
      by s g false = refl
  applied (Make x body) w calm = cc
  applied (MakeSpace x holder) w calm = cc
  applied (Kill x) w calm = cc
  applied (Move x slot) w calm = cc
  applied (DropPage space page) w calm = cc

  pub all_applied : (cs : List Change) (w : World) → AreCalm p cs → apply_all cs (filled p w) ≡ filled p (apply_all cs w)
  unfolding apply_all
  all_applied [] w calm = refl
  all_applied (c ∷ cs) w calm = ap (apply_all cs) (applied c w calm.0) ∙ all_applied cs (apply c w) calm.1

  -- none of them raises a fault of the pager's
  pub calm-raises : (cs : List Change) → AreCalm p cs → list_any (is_raise p) cs ≡ false
  calm-raises [] calm = refl
  calm-raises (c ∷ cs) calm = rw (one c calm.0) (calm-raises cs calm.1)
    where
      no : (b : Bool) → not b ≡ true → b ≡ false
      no true e = cc
      no false e = refl

      one : (d : Change) → is_calm p d ≡ true → is_raise p d ≡ false
      one (Alter x (SetFault (Some fault))) e = no (is_paged p fault) e
      one (Alter x edit) e = refl
      one d e = refl

  -- ---- what is frozen, and what is allowed

  module _ (w : World) where
    holder-same : (o : Option Body) → holder_of (option_map (unfaulted p) o) ≡ holder_of o
    holder-same None = refl
    holder-same (Some (Thread_of t)) = refl
    holder-same (Some b) = refl

    pub decider-same : (y : Path) → decider (filled p w) y ≡ decider w y
    unfolding decider
    decider-same [] = holder-same (w.body [])
    decider-same (k ∷ y) = rw (decider-same y, holder-same (w.body (k ∷ y))) refl

    pub frozen_for-same : (me y : Path) → is_frozen_for (filled p w) me y ≡ is_frozen_for w me y
    frozen_for-same me y = rw (decider-same y) refl

    pub leads-same : (me : Path) (to : Ptr) → leads_to_frozen (filled p w) me to ≡ leads_to_frozen w me to
    leads-same me (Ptr.At x) = frozen_for-same me x
    leads-same me to = refl

    pub unfrozen-same : (me : Path) (ps : List Ptr) → are_unfrozen (filled p w) me ps ≡ are_unfrozen w me ps
    unfrozen-same me ps = ap not (by ps)
      where
        by : (qs : List Ptr) → list_any (leads_to_frozen (filled p w) me) qs ≡ list_any (leads_to_frozen w me) qs
        by [] = refl
        by (q ∷ qs) = rw (leads-same me q, by qs) refl

    -- ---- what is allowed

    -- none of some pointers leads to what is frozen
    abbrev None_frozen : Path → List Ptr → Type 0
    None_frozen me ps = list_any (leads_to_frozen w me) ps ≡ false

    fewer-faults : (me : Path) (o : Option Fault) → None_frozen me (option_list fault_pointers o) →
        None_frozen me (option_list fault_pointers (and_then (kept_fault p) o))
    fewer-faults me None free = refl
    fewer-faults me (Some fault) free = by (is_paged p fault)
      where
        by : (b : Bool) → None_frozen me (option_list fault_pointers (cond b None (Some fault)))
        by true = refl
        by false = free

    fewer-takers : (me : Path) (o : Option Fault) → None_frozen me (option_list (λ (fault : Fault). option_list peer_pointer fault.taker) o) →
        None_frozen me (option_list (λ (fault : Fault). option_list peer_pointer fault.taker) (and_then (kept_fault p) o))
    fewer-takers me None free = refl
    fewer-takers me (Some fault) free = by (is_paged p fault)
      where
        by : (b : Bool) → None_frozen me (option_list (λ (f : Fault). option_list peer_pointer f.taker) (cond b None (Some fault)))
        by true = refl
        by false = free

    or-false : (a b : Bool) → (a || b) ≡ false → (a ≡ false) × (b ≡ false)
    or-false false false e = (refl, refl)
    or-false true b e = cc
    or-false false true e = cc

    fewer-pointers : (me : Path) (t : Thread) → None_frozen me (pointers (Thread_of t)) → None_frozen me (pointers (Thread_of (clean t)))
    fewer-pointers me t free =
        let parts = or-false _ _
        (sym (list_any-append (leads_to_frozen w me) (option_list talk_pointers t.talk) (option_list fault_pointers t.fault)) ∙ free) in
        list_any-append (leads_to_frozen w me) (option_list talk_pointers t.talk) (option_list fault_pointers (and_then (kept_fault p) t.fault))
        ∙ (λ i. parts.0 i || fewer-faults me t.fault parts.1 i)

    fewer-changed : (me : Path) (edit : Edit) (b : Body) → None_frozen me (changed_pointers edit b) → None_frozen me (changed_pointers edit (unfaulted p b))
    fewer-changed me (SetPointer to) (Thread_of t) free = fewer-pointers me t free
    fewer-changed me (SetHolder holder) (Thread_of t) free = fewer-pointers me t free
    fewer-changed me (SetFault fault) (Thread_of t) free = fewer-faults me t.fault free
    fewer-changed me (SetTaker taker) (Thread_of t) free = fewer-takers me t.fault free
    fewer-changed me edit (Thread_of t) free = free
    fewer-changed me edit b free = free

    not-true : (b : Bool) → not b ≡ true → b ≡ false
    not-true true e = cc
    not-true false e = refl

    option-changed : (me : Path) (edit : Edit) (o : Option Body) → are_unfrozen w me (option_list (changed_pointers edit) o) ≡ true →
        are_unfrozen w me (option_list (changed_pointers edit) (option_map (unfaulted p) o)) ≡ true
    option-changed me edit None free = free
    option-changed me edit (Some b) free = ap not (fewer-changed me edit b (not-true _ free))

    pub allowed-clean : (me : Path) (c : Change) → is_calm p c ≡ true → IsAllowed w me c → IsAllowed (filled p w) me c
    allowed-clean me (Alter x edit) calm may = record {
      object = frozen_for-same me x ∙ may.object;
      changed = unfrozen-same me (option_list (changed_pointers edit) (option_map (unfaulted p) (w.body x))) ∙ option-changed me edit (w.body x) may.changed;
      made = unfrozen-same me (made_pointers edit) ∙ may.made;
    }
    allowed-clean me (PutPage space page words) calm may = frozen_for-same me space ∙ may
    allowed-clean me (Make x body) calm may = cc
    allowed-clean me (MakeSpace x holder) calm may = cc
    allowed-clean me (Kill x) calm may = cc
    allowed-clean me (Move x slot) calm may = cc
    allowed-clean me (DropPage space page) calm may = cc

    pub all_allowed : (me : Path) (cs : List Change) → AreCalm p cs → AreAllowed w me cs → AreAllowed (filled p w) me cs
    all_allowed me [] calm may = tt
    all_allowed me (c ∷ cs) calm may = (allowed-clean me c calm.0 may.0, all_allowed me cs calm.1 may.1)
