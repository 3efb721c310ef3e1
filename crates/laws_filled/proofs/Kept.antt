-- What a pager asks of a world is kept by moves of users and of native servers, and so is which pages are home.
use Rattle.std.proofs.Common.{◌≡◌, ℕ, Bool, true, false, not, cond, ◌&&◌, ◌==◌, is_some, is_none, if◌then◌else◌, List, [], ◌∷◌, Option, Some, None, option_map}
use Rattle.std.proofs.Common.{refl, sym, ap, subst, ◌∙◌, eqb-true}
use Rattle.std.proofs.lemmas.Bool.{and_parts}
use Rattle.std.proofs.lemmas.Option.{same_Some}
use Rattle.fk_model.specs.declared.limits.TheConstants.{SLOTS}
use Rattle.fk_model.specs.Places.{Path, same_path}
use Rattle.fk_model.specs.Places.Ptr.{At}
use Rattle.fk_model.specs.Objects.{Mode, Peer, Fault, Thread, Window, Extent, Body, mapping_of, region_of, space_of, thread_of, reference_of, covers, and_then}
use Rattle.fk_model.specs.Objects.{holds}
use Rattle.fk_model.specs.Objects.Mode.{Calling}
use Rattle.fk_model.specs.Objects.Peer.{Server}
use Rattle.fk_model.specs.Objects.Body.{Mutex, Mapping, Region, Port, Space, Thread_of, Reference}
use Rattle.fk_model.specs.World.{World, Change, Edit, serves, edited, apply, apply_all, ended_in, finished_in}
use Rattle.fk_model.specs.World.Change.{Alter, Make, MakeSpace, Kill, Move, PutPage, DropPage}
use Rattle.fk_model.specs.World.Edit.{SetLocked, SetWindow, SetExtent, SetMember, SetPointer, SetHolder, Proceed, Shift, Finish, End, Replace, SetStops}
use Rattle.fk_model.specs.World.Edit.{SetTalk, CountMoved, PassTurn}
use Rattle.fk_model.specs.World.Edit.{SetPeer, SetFault, SetTaker}
use Rattle.fk_model.specs.Searches.{lowest, thread_at, fault_at}
use Rattle.fk_model.specs.Reach.{mapping_at, region_at, live_keeper, keeper}
use Rattle.fk_model.specs.Outcomes.{Outcome}
use Rattle.fk_model.specs.Moves.{stepped, step}
use Rattle.fk_model.proofs.walks.PlaceLaws.{same_path_eq, same_path_refl}
use Rattle.laws_filled.specs.Filled.{Paging, is_paged, IsOurs, IsPaging}
use Rattle.laws_filled.specs.Laws.{is_ours, PagesStay, TakenStay, PagingStays}
use Rattle.laws_filled.proofs.Changes.{is_tame_edit, is_tame, AreTame}
use Rattle.laws_filled.proofs.Moves.{outcome-seen}
use Rattle.laws_filled.proofs.Rows.{Seen}
use Rattle.laws_filled.proofs.Rows.Seen.{Waiting, Refusing, Raising, Going}

-- ---- edits that leave mappings and regions

abbrev pub is_plain_edit : Edit → Option Body → Bool
is_plain_edit (SetPointer to) o = is_some (and_then reference_of o)
is_plain_edit (SetWindow first count offset write) o = false
is_plain_edit (SetExtent first count write) o = false
is_plain_edit (SetHolder holder) o = false
is_plain_edit other o = true

mapping-edited : (edit : Edit) (b : Body) → is_plain_edit edit (Some b) ≡ true → mapping_of (edited edit b) ≡ mapping_of b
unfolding edited
mapping-edited (SetLocked locked) (Mutex old) plain = refl
mapping-edited (SetMember set) (Port old served) plain = refl
mapping-edited (SetHolder holder) b plain = cc
mapping-edited (SetPointer to) (Reference old) plain = refl
mapping-edited (SetPointer to) (Thread_of t) plain = cc
mapping-edited (SetPointer to) b plain = cc
mapping-edited (SetWindow first count offset write) b plain = cc
mapping-edited (SetExtent first count write) b plain = cc
mapping-edited edit (Thread_of t) plain = refl
mapping-edited edit b plain = refl

region-edited : (edit : Edit) (b : Body) → is_plain_edit edit (Some b) ≡ true → region_of (edited edit b) ≡ region_of b
unfolding edited
region-edited (SetLocked locked) (Mutex old) plain = refl
region-edited (SetMember set) (Port old served) plain = refl
region-edited (SetHolder holder) b plain = cc
region-edited (SetPointer to) (Reference old) plain = refl
region-edited (SetPointer to) (Thread_of t) plain = cc
region-edited (SetPointer to) b plain = cc
region-edited (SetWindow first count offset write) b plain = cc
region-edited (SetExtent first count write) b plain = cc
region-edited edit (Thread_of t) plain = refl
region-edited edit b plain = refl

space-edited : (edit : Edit) (b : Body) → is_plain_edit edit (Some b) ≡ true → space_of (edited edit b) ≡ space_of b
unfolding edited
space-edited (SetLocked locked) (Mutex old) plain = refl
space-edited (SetMember set) (Port old served) plain = refl
space-edited (SetPointer to) (Reference old) plain = refl
space-edited (SetPointer to) (Thread_of t) plain = cc
space-edited (SetPointer to) b plain = cc
space-edited (SetHolder holder) b plain = cc
space-edited (SetWindow first count offset write) b plain = cc
space-edited (SetExtent first count write) b plain = cc
space-edited edit (Thread_of t) plain = refl
space-edited edit b plain = refl

view-edited : {A : Type 0} (view : Body → Option A) (edit : Edit) (o : Option Body) →
    ((b : Body) → is_plain_edit edit (Some b) ≡ true → view (edited edit b) ≡ view b) → is_plain_edit edit o ≡ true →
    and_then view (option_map (edited edit) o) ≡ and_then view o
view-edited view edit None same plain = refl
view-edited view edit (Some b) same plain = same b plain

-- what is no thread stays none
unthreaded : (edit : Edit) (b : Body) → thread_of b ≡ None → thread_of (edited edit b) ≡ None
unfolding edited
unthreaded edit (Thread_of t) none = cc
unthreaded (SetLocked locked) (Mutex old) none = refl
unthreaded (SetWindow first count offset write) (Mapping m) none = refl
unthreaded (SetExtent first count write) (Region r) none = refl
unthreaded (SetMember set) (Port old served) none = refl
unthreaded (SetPointer to) (Reference old) none = refl
unthreaded (SetPointer to) (Mapping m) none = refl
unthreaded (SetPointer to) (Region r) none = refl
unthreaded (SetHolder holder) (Space birth old) none = refl
unthreaded (SetLocked locked) b none = refl
unthreaded (SetWindow first count offset write) b none = refl
unthreaded (SetExtent first count write) b none = refl
unthreaded (SetMember set) b none = refl
unthreaded (SetPointer to) b none = refl
unthreaded (SetHolder holder) b none = refl
unthreaded (Proceed mode counter) b none = refl
unthreaded (Shift count) b none = refl
unthreaded (Finish answers) b none = refl
unthreaded (End status answers) b none = refl
unthreaded (Replace stage) b none = refl
unthreaded (SetStops stops) b none = refl
unthreaded (SetTalk talk) b none = refl
unthreaded (CountMoved count) b none = refl
unthreaded (PassTurn turn) b none = refl
unthreaded (SetPeer peer) b none = refl
unthreaded (SetFault fault) b none = refl
unthreaded (SetTaker taker) b none = refl

option-unthreaded : (edit : Edit) (o : Option Body) → and_then thread_of o ≡ None → and_then thread_of (option_map (edited edit) o) ≡ None
option-unthreaded edit None none = refl
option-unthreaded edit (Some b) none = unthreaded edit b none

-- ---- faults

abbrev pub fault_of : Option Body → Option Fault
fault_of o = and_then (λ (t : Thread). t.fault) (and_then thread_of o)

abbrev pub sets_fault : Edit → Bool
sets_fault (SetFault fault) = true
sets_fault (SetTaker taker) = true
sets_fault other = false

ended-fault : (status : ℕ) (answers : List ℕ) (t : Thread) (mode : Mode) → (ended_in status answers t mode).fault ≡ t.fault
ended-fault status answers t (Calling todo rest) = refl
ended-fault status answers t mode = refl

finished-fault : (answers : List ℕ) (t : Thread) (mode : Mode) → (finished_in answers t mode).fault ≡ t.fault
finished-fault answers t (Calling [] rest) = refl
finished-fault answers t (Calling (stage ∷ []) rest) = refl
finished-fault answers t (Calling (stage ∷ next_stage ∷ todo) rest) = refl
finished-fault answers t mode = refl

pub fault-edited : (edit : Edit) (b : Body) → sets_fault edit ≡ false → fault_of (Some (edited edit b)) ≡ fault_of (Some b)
unfolding edited
fault-edited (SetLocked locked) (Mutex old) other = refl
fault-edited (SetWindow first count offset write) (Mapping m) other = refl
fault-edited (SetExtent first count write) (Region r) other = refl
fault-edited (SetMember set) (Port old served) other = refl
fault-edited (SetPointer to) (Reference old) other = refl
fault-edited (SetPointer to) (Mapping m) other = refl
fault-edited (SetPointer to) (Region r) other = refl
fault-edited (SetHolder holder) (Space birth old) other = refl
fault-edited (Finish answers) (Thread_of t) other = finished-fault answers t t.mode
fault-edited (End status answers) (Thread_of t) other = ended-fault status answers t t.mode
fault-edited (SetFault fault) b other = cc
fault-edited (SetTaker taker) b other = cc
fault-edited edit (Thread_of t) other = refl
fault-edited edit b other = refl

module _ (p : Paging) where
  -- whoever took a fault of the pager's is its porter
  abbrev pub Taken : Option Fault → Type 0
  Taken o = (fault : Fault) → o ≡ Some fault → is_paged p fault ≡ true → IsOurs p fault.taker

  apart : (b : Bool) → b ≡ false → b ≡ true → ⊥
  apart b e f = cc

  none-taken : Taken None
  none-taken fault e paged = cc

  -- a new fault is taken by nobody
  abbrev pub IsNew : Option Fault → Type 0
  IsNew None = Unit {0}
  IsNew (Some fault) = Unit {0} × (is_none fault.taker ≡ true)

  new-taken : (o : Option Fault) → IsNew o → Taken o
  new-taken None new fault e paged = cc
  new-taken (Some f) new fault e paged = by f.taker refl
    where
      same : f ≡ fault
      same = same_Some f fault e

      by : (o : Option Peer) → f.taker ≡ o → IsOurs p fault.taker
      by None none = subst (λ (g : Fault). IsOurs p g.taker) same (subst (IsOurs p) (sym none) tt)
      by (Some peer) has = let no : is_none (Some peer) ≡ true = ap is_none (sym has) ∙ new.1 in absurd (cc)

  -- and the porter has taken no other
  abbrev pub Ours : Option Fault → Type 0
  Ours o = (fault : Fault) → o ≡ Some fault → holds (serves p.porter) fault.taker ≡ true → is_paged p fault ≡ true

  new-ours : (o : Option Fault) → IsNew o → Ours o
  new-ours None new fault e serving = cc
  new-ours (Some f) new fault e serving =
      absurd (apart (holds (serves p.porter) f.taker) (by f.taker new.1) (ap (λ (g : Fault). holds (serves p.porter) g.taker) (same_Some f fault e) ∙ serving))
    where
      by : (o : Option Peer) → is_none o ≡ true → holds (serves p.porter) o ≡ false
      by None e = refl
      by (Some peer) e = cc

  reours : (taker : Option Peer) (o : Option Fault) → holds (serves p.porter) taker ≡ false → Ours (option_map (λ (f : Fault). record f { taker = taker }) o)
  reours taker None off fault e serving = cc
  reours taker (Some f) off fault e serving =
      absurd (apart (holds (serves p.porter) taker) off
      (ap (λ (g : Fault). holds (serves p.porter) g.taker) (same_Some (record f { taker = taker }) fault e) ∙ serving))

  retaken : (taker : Option Peer) (o : Option Fault) → holds (is_paged p) o ≡ false → Taken (option_map (λ (f : Fault). record f { taker = taker }) o)
  retaken taker None off fault e paged = cc
  retaken taker (Some f) off fault e paged =
      absurd (apart (is_paged p f) off (ap (is_paged p) (same_Some (record f { taker = taker }) fault e) ∙ paged))

  abbrev pub Both : Option Fault → Type 0
  Both o = Taken o × Ours o

  taken-edited : (edit : Edit) (o : Option Body) → sets_fault edit ≡ false → Both (fault_of o) → Both (fault_of (option_map (edited edit) o))
  taken-edited edit None other taken = taken
  taken-edited edit (Some b) other taken = subst Both (sym (fault-edited edit b other)) taken

  pub taken-set : (new : Option Fault) (o : Option Body) → IsNew new → Both (fault_of o) → Both (fault_of (option_map (edited (SetFault new)) o))
  unfolding edited
  taken-set new None is taken = taken
  taken-set new (Some (Thread_of t)) is taken = (new-taken new is, new-ours new is)
  taken-set new (Some b) is taken = taken

  taken-taken : (taker : Option Peer) (o : Option Body) → holds (is_paged p) (fault_of o) ≡ false → holds (serves p.porter) taker ≡ false → Both (fault_of o) →
      Both (fault_of (option_map (edited (SetTaker taker)) o))
  unfolding edited
  taken-taken taker None off free taken = taken
  taken-taken taker (Some (Thread_of t)) off free taken = (retaken taker t.fault off, reours taker t.fault free)
  taken-taken taker (Some b) off free taken = taken

  -- the pager's porter takes one of the pager's
  pub heard-taken : (fault : Fault) (o : Option Body) → is_paged p fault ≡ true → fault_of o ≡ Some fault →
      Both (fault_of (option_map (edited (SetTaker (Some (Server (At p.porter))))) o))
  unfolding edited
  heard-taken fault None paged e = cc
  heard-taken fault (Some (Thread_of t)) paged e = rw e (
    λ f same on. rw (← (same_Some (record fault { taker = Some (Server (At p.porter)) }) f same)) (same_path_refl p.porter),
    λ f same on. rw (← (same_Some (record fault { taker = Some (Server (At p.porter)) }) f same)) paged,
  )
  heard-taken fault (Some b) paged e = cc

  -- an edit takes nothing for the porter, and leaves what that has taken
  abbrev OursStay : Edit → Option Body → Type 0
  OursStay edit o = (f : Fault) → fault_of (option_map (edited edit) o) ≡ Some f → is_ours p (Some f) ≡ true → fault_of o ≡ Some f

  ours-edited : (edit : Edit) (o : Option Body) → sets_fault edit ≡ false → OursStay edit o
  ours-edited edit None other f e held = e
  ours-edited edit (Some b) other f e held = sym (fault-edited edit b other) ∙ e

  ours-set : (new : Option Fault) (o : Option Body) → IsNew new → OursStay (SetFault new) o
  unfolding edited
  ours-set new None is f e held = e
  ours-set None (Some (Thread_of t)) is f e held = cc
  ours-set (Some g) (Some (Thread_of t)) is f e held = absurd (by g.taker is.1 (ap (is_ours p) e ∙ held))
    where
      by : (o : Option Peer) → is_none o ≡ true → holds (serves p.porter) o ≡ true → ⊥
      by None n h = cc
      by (Some peer) n h = cc
  ours-set new (Some b) is f e held = e

  ours-taken : (taker : Option Peer) (o : Option Body) → holds (serves p.porter) taker ≡ false → OursStay (SetTaker taker) o
  unfolding edited
  ours-taken taker None free f e held = e
  ours-taken taker (Some (Thread_of t)) free f e held = by t.fault e
    where
      by : (o : Option Fault) → option_map (λ (g : Fault). record g { taker = taker }) o ≡ Some f → o ≡ Some f
      by None g = cc
      by (Some g) h = absurd (apart (holds (serves p.porter) taker) free (ap (is_ours p) h ∙ held))
  ours-taken taker (Some b) free f e held = e

  -- ---- one change

  -- a tame change, or one that raises a fault
  abbrev IsMeek : World → Change → Type 0
  IsMeek w (Alter x (SetFault new)) = IsNew new
  IsMeek w c = is_tame p w c ≡ true

  abbrev Keeps : World → World → Type 0
  Keeps w v = IsPaging p v × PagesStay w v × TakenStay p w v

  module _ (w : World) (paging : IsPaging p w) (x : Path) (edit : Edit) (plain : is_plain_edit edit (w.body x) ≡ true)
      (taken : Both (fault_of (option_map (edited edit) (w.body x)))) where
    abbrev v : World
    v = record { body = λ q. cond (same_path q x) (option_map (edited edit) (w.body q)) (w.body q); page = w.page; next = w.next }

    here : (q : Path) → same_path q x ≡ true → q ≡ x
    here q e = same_path_eq q x e

    view-kept : {A : Type 0} (view : Body → Option A) → ((b : Body) → is_plain_edit edit (Some b) ≡ true → view (edited edit b) ≡ view b) →
        (q : Path) → and_then view (v.body q) ≡ and_then view (w.body q)
    view-kept view same q = by (same_path q x) refl
      where
        by : (m : Bool) → same_path q x ≡ m → and_then view (cond m (option_map (edited edit) (w.body q)) (w.body q)) ≡ and_then view (w.body q)
        by true e = view-edited view edit (w.body q) same (subst (λ (y : Path). is_plain_edit edit (w.body y) ≡ true) (sym (here q e)) plain)
        by false e = refl

    mapping-kept : (s : Path) (page : ℕ) → mapping_at v s page ≡ mapping_at w s page
    unfolding mapping_at
    mapping-kept s page = λ i. lowest SLOTS (λ k. and_then (λ (m : Window). if covers m.first m.count page then Some m else None)
        (view-kept mapping_of (mapping-edited edit) (k ∷ s) i))

    keeper-kept : (s : Path) (page : ℕ) → keeper v s page ≡ keeper w s page
    unfolding keeper region_at
    keeper-kept s page = λ i. and_then (λ (r : Extent). live_keeper r.keeper) (lowest SLOTS (λ k. and_then
        (λ (r : Extent). if covers r.first r.count page then Some r else None) (view-kept region_of (region-edited edit) (k ∷ s) i)))

    root-kept : thread_at v [] ≡ None
    root-kept = by (same_path [] x)
      where
        by : (m : Bool) → and_then thread_of (cond m (option_map (edited edit) (w.body [])) (w.body [])) ≡ None
        by true = option-unthreaded edit (w.body []) paging.root
        by false = paging.root

    taken-kept : (y : Path) → Both (fault_at v y)
    taken-kept y = by (same_path y x) refl
      where
        by : (m : Bool) → same_path y x ≡ m → Both (fault_of (cond m (option_map (edited edit) (w.body y)) (w.body y)))
        by true e = subst (λ (z : Path). Both (fault_of (option_map (edited edit) (w.body z)))) (sym (here y e)) taken
        by false e = (paging.taken y, paging.ours y)

    ours-kept : OursStay edit (w.body x) → TakenStay p w v
    ours-kept stay y = by (same_path y x) refl
      where
        by : (m : Bool) → same_path y x ≡ m → (f : Fault) → fault_of (cond m (option_map (edited edit) (w.body y)) (w.body y)) ≡ Some f →
            is_ours p (Some f) ≡ true →
            fault_of (w.body y) ≡ Some f
        by true e = subst (λ (z : Path). OursStay edit (w.body z)) (sym (here y e)) stay
        by false e = λ f g held. g

    pub altered : IsPaging p v
    altered = record {
      root = root-kept;
      mapless = λ page. mapping-kept p.space page ∙ paging.mapless page;
      kept = λ page low. keeper-kept p.space page ∙ paging.kept page low;
      few = paging.few;
      taken = λ y. (taken-kept y).0;
      ours = λ y. (taken-kept y).1;
      there = ap is_some (view-kept space_of (space-edited edit) p.space) ∙ paging.there;
    }

  not-true : (b : Bool) → not b ≡ true → b ≡ false
  not-true true e = cc
  not-true false e = refl

  plain-tame : (w : World) (x : Path) (edit : Edit) → is_tame_edit p w x edit ≡ true → is_plain_edit edit (w.body x) ≡ true
  plain-tame w x (SetPointer to) tame = tame
  plain-tame w x (SetWindow first count offset write) tame = cc
  plain-tame w x (SetExtent first count write) tame = cc
  plain-tame w x (SetHolder holder) tame = cc
  plain-tame w x edit tame = refl

  keeps : (w : World) (c : Change) → IsMeek w c → IsPaging p w → Keeps w (apply c w)
  unfolding apply mapping_at keeper region_at
  keeps w (Alter x (SetFault new)) meek paging = (
    altered w paging x (SetFault new) refl (taken-set new (w.body x) meek (paging.taken x, paging.ours x)),
    (λ s page. refl),
    ours-kept w paging x (SetFault new) refl (taken-set new (w.body x) meek (paging.taken x, paging.ours x)) (ours-set new (w.body x) meek),
  )
  keeps w (Alter x (SetTaker taker)) meek paging = (
    altered w paging x (SetTaker taker) refl
        (taken-taken taker (w.body x) (not-true _ (and_parts _ _ meek).0) (not-true _ (and_parts _ _ meek).1) (paging.taken x, paging.ours x)),
    (λ s page. refl),
    ours-kept w paging x (SetTaker taker) refl
        (taken-taken taker (w.body x) (not-true _ (and_parts _ _ meek).0) (not-true _ (and_parts _ _ meek).1) (paging.taken x, paging.ours x))
        (ours-taken taker (w.body x) (not-true _ (and_parts _ _ meek).1)),
  )
  keeps w (Alter x edit) meek paging = (
    altered w paging x edit (plain-tame w x edit meek) (taken-edited edit (w.body x) refl (paging.taken x, paging.ours x)),
    (λ s page. refl),
    ours-kept w paging x edit (plain-tame w x edit meek) (taken-edited edit (w.body x) refl (paging.taken x, paging.ours x)) (ours-edited edit (w.body x) refl),
  )
  keeps w (PutPage space page words) meek paging = (
    record {
      root = paging.root;
      mapless = paging.mapless;
      kept = paging.kept;
      few = paging.few;
      taken = paging.taken;
      ours = paging.ours;
      there =
          paging.there;
    },
    (λ s g. by s g (same_path s space) (g == page) refl refl),
    λ y f e held. e,
  )
    where
      by : (s : Path) (g : ℕ) (m n : Bool) → same_path s space ≡ m → (g == page) ≡ n → is_some (cond (m && n) (Some words) (w.page s g)) ≡ is_some (w.page s g)
      by s g false n e f = refl
      by s g true false e f = refl
      by s g true true e f =
          sym (ap (λ (t : Path). is_some (w.page t g)) (same_path_eq s space e) ∙ ap (λ k. is_some (w.page space k)) (eqb-true g page f) ∙ meek)
  keeps w (Make y body) meek paging = cc
  keeps w (MakeSpace y holder) meek paging = cc
  keeps w (Kill y) meek paging = cc
  keeps w (Move y slot) meek paging = cc
  keeps w (DropPage space page) meek paging = cc

  meek-tame : (w : World) (c : Change) → is_tame p w c ≡ true → IsMeek w c
  meek-tame w (Alter x (SetFault None)) tame = tt
  meek-tame w (Alter x (SetFault (Some fault))) tame = (tt, (and_parts _ _ tame).1)
  meek-tame w (Alter x edit) tame = tame
  meek-tame w c tame = tame

  all-keep : (w : World) (cs : List Change) → AreTame p w cs → IsPaging p w → Keeps w (apply_all cs w)
  unfolding apply_all
  all-keep w [] tame paging = (paging, (λ s page. refl), λ y f e held. e)
  all-keep w (c ∷ cs) tame paging =
      let first = keeps w c (meek-tame w c tame.0) paging in
      let rest = all-keep (apply c w) cs tame.1 first.0 in
      (rest.0, (λ s page. rest.1 s page ∙ first.1 s page), λ y f e held. first.2 y f (rest.2 y f e held) held)

  raised-keeps : (w : World) (me : Path) (fault : Fault) → fault.taker ≡ None → IsPaging p w → Keeps w (apply (Alter me (SetFault (Some fault))) w)
  raised-keeps w me fault new paging = keeps w (Alter me (SetFault (Some fault))) (tt, ap is_none new) paging

  seen-keeps : (w : World) (me : Path) (o o' : Outcome) → Seen p w me o o' → IsPaging p w → Keeps w (stepped w o).world
  unfolding apply_all
  seen-keeps w me _ o' Waiting paging = (paging, (λ s page. refl), λ y f e held. e)
  seen-keeps w me _ _ Refusing paging = (paging, (λ s page. refl), λ y f e held. e)
  seen-keeps w me _ o' (Raising paged new) paging = raised-keeps w me _ new paging
  seen-keeps w me _ _ (Going tame) paging = all-keep w _ tame paging

pub paging_stays_lem : PagingStays
unfolding step
paging_stays_lem p w x pick ask paging other others dark = seen-keeps p w _ _ _ (outcome-seen p w paging x pick ask others dark other) paging
