-- A restorer's calls whose answer is certain: each is done, and makes of the world what it makes of the site.
use Rattle.std.proofs.Common.{◌≡◌, ℕ, ◌≤◌, Bool, true, false, cond, not, ◌&&◌, ◌||◌, ◌-◌, ◌==◌, nat_le, IsSome, is_some, IfSome, List, [], ◌∷◌, ◌++◌, map}
use Rattle.std.proofs.Common.{length, Option, Some, None, option_map, refl, sym, ap, subst, arith, length-append, ◌∙◌}
use Rattle.std.specs.Prelude.{slice_index}
use Rattle.std.specs.List.{list_any}
use Rattle.fk_model.specs.declared.limits.TheConstants.{OWN_SPACE, SLOTS, LAST_USER_SLOT, FIRST_SCRATCH_SLOT, LAST_PORTER_SLOT}
use Rattle.fk_model.specs.declared.names.Kind.{Kind}
use Rattle.fk_model.specs.declared.names.Kind.TheVariants as kinds
use Rattle.fk_model.specs.declared.statuses.status.TheConstants.{OK}
use Rattle.fk_model.specs.declared.stage.Stage.{Stage}
use Rattle.fk_model.specs.Calls.{todo_of}
use Rattle.fk_model.specs.Places.{Path, same_path, strip, is_within, Ptr}
use Rattle.fk_model.specs.Places.Ptr.{Null, Dead, At, Out, Outside, Far}
use Rattle.fk_model.specs.Objects.{Peer, Thread, Body, kind_of, same_kind, and_then, port_of, thread_of, reference_of}
use Rattle.fk_model.specs.Objects.Mode.{Running, Halted}
use Rattle.fk_model.specs.Objects.Peer.{Server, Parked}
use Rattle.fk_model.specs.Objects.Body.{Mutex, Cond, Mapping, Region, Port, Portset, Space, Thread_of, Reference}
use Rattle.fk_model.specs.World.{World, Change, Edit, apply, apply_all}
use Rattle.fk_model.specs.World.Change.{Alter, Make}
use Rattle.fk_model.specs.World.Edit.{SetPointer, SetTalk, SetFault}
use Rattle.fk_model.specs.Holds.{is_porter}
use Rattle.fk_model.specs.Outcomes.Outcome.{Goes}
use Rattle.fk_model.specs.Outcomes.Said.{Answered}
use Rattle.fk_model.specs.Readers.{anything, kind_at}
use Rattle.fk_model.specs.Records.{set_edits, takes_state, mode_of_record, calling_by, word, record_registers}
use Rattle.fk_model.specs.StateRows.{referable, held_kinds, is_of_kinds, is_native}
use Rattle.fk_model.specs.LinkRows.{portset_of, given_talk, turn_by}
use Rattle.fk_model.specs.FaultRows.{given_fault}
use Rattle.fk_model.specs.ObjectRows.{pointer_to}
use Rattle.fk_model.specs.Moves.{call_row}
use Rattle.fk_model.specs.Valid.{IsConsistent, kind_there}
use Rattle.fk_model.specs.Cut.{seen_by, is_out}
use Rattle.fk_model.proofs.walks.PlaceLaws.{same_path_refl, same_path_ne, strip_some}
use Rattle.laws_subtrees.specs.Cut.Likeness.{seeing, seen_peer, IfServer, PtrLikeness, HasLikeness, IsPlainBody}
use Rattle.laws_subtrees.specs.Cut.Likeness.PtrLikeness.{Nulls, Deads, Inside, PortAt}
use Rattle.laws_subtrees.specs.Cut.LikeChanges.{seen_edit, IsSeenEdit}
use Rattle.laws_subtrees.proofs.InCut.likeness.Records.{set_edits-seen, held_kinds-seen, takes_state-like}
use Rattle.laws_jobs.specs.Machines.{no_words, porter}
use Rattle.laws_jobs.specs.Calls.{fresh, has_pointer}
use Rattle.laws_restore.specs.Sites.Orders.{Spot, Pin, Site, pin_of, lifted, eye, bare, PinShows, IsKeptBy, SpotShows, Shows, Order, stage_of, words_of, does}
use Rattle.laws_restore.specs.Sites.Orders.{is_ref_slot, with_built, with_pin, after_set, after_pointer, IsLive, MayMake, MaySet, MayPoint, MayLead, MayGive}
use Rattle.laws_restore.specs.Sites.Orders.{MayPark}
use Rattle.laws_restore.specs.Sites.Orders.{May}
use Rattle.laws_restore.specs.Sites.Orders.Spot.{To, Unsure}
use Rattle.laws_restore.specs.Sites.Orders.Pin.{NoPin, Loose, Fast}
use Rattle.laws_restore.specs.Sites.Orders.Order.{Readies, Leads, LeadsTop, Makes, Sets, Points, Gives, MakesPin, Pins, Takes, Checks, ParksTalk, ParksFault}
use Rattle.laws_restore.specs.Sites.Orders.Order.{Drops}
use Rattle.laws_restore.specs.Sites.Orders.Order.{DropsPin, Deadens, LinksTalk, RaisesFault, LinksFault, Holds}
use Rattle.laws_restore.specs.Sites.Near.{AreNear}
use Rattle.laws_restore.proofs.InSites.Nearby.{inside_near, scratch_near, edits_near, fresh_near, page_near}
use Rattle.laws_restore.proofs.InSites.Standing.{kind_seen, unfrozen, decides, nester_unfrozen, ref_slot, ref_named, user_named, ref_there, ref_led}
use Rattle.laws_restore.proofs.InSites.Standing.{ref_unfrozen, big}
use Rattle.laws_restore.proofs.InSites.Standing.{empty_there, root_there, root_named, place-row}
use Rattle.laws_restore.proofs.InSites.Changes.{bare-pin, alters, makes, makes_space, gives, leads, led_there, pin_kept, above_stays, readies}
use Rattle.laws_jobs.proofs.Rows.{own-place, object-there, create-row, point-row, set_ptr-row, set_state-row, page_give-row, link_park-row, fault_park-row}

referable_pointer : (y : Path) (b : Body) → list_any (same_kind (kind_of b)) referable ≡ true → pointer_to y b ≡ Some (At y)
referable_pointer y (Mapping m) h = refl
referable_pointer y (Region r) h = refl
referable_pointer y (Port set served) h = refl
referable_pointer y (Space birth holder) h = refl
referable_pointer y (Thread_of t) h = refl
referable_pointer y (Reference to) h = cc
referable_pointer y (Mutex locked) h = cc
referable_pointer y Cond h = cc
referable_pointer y Portset h = cc

more : (a z s t : Bool) (o : Option Body) → (a && (z || (s && is_some (and_then portset_of (cond t None o))))) ≡ true
    → (a && (z || (s && is_some (and_then portset_of o)))) ≡ true
more true true s t o h = refl
more true false s false o h = h
more true false true true o h = cc
more true false false true o h = cc
more false z s t o h = cc

pub record IsThread (b : Body) : Type 0 where
  pub thread : Thread
  pub is : b ≡ Thread_of thread

pub record IsThere (o : Option Body) : Type 0 where
  pub body : Body
  pub is : o ≡ Some body

-- an edit that names no pointer and makes nobody a porter
abbrev IsBare : (Ptr → Ptr) → Edit → Type 0
IsBare see edit = (seen_edit see false edit ≡ edit) × ((root : Path) (big : World) (x : Path) → IsSeenEdit root see big false x edit)

abbrev AreBare : (Ptr → Ptr) → List Edit → Type 0
AreBare see [] = Unit {0}
AreBare see (edit ∷ edits) = IsBare see edit × AreBare see edits

no_porter : (n : ℕ) (g : List ℕ) (code : ℕ) → is_porter (mode_of_record n g code) ≡ false
no_porter n g code = by (n == 0) (n == 1) (todo_of g)
  where
    by : (a b : Bool) (o : Option (List Stage)) → is_porter (cond a (Running g) (cond b (calling_by g o) (Halted g code))) ≡ false
    by true b o = refl
    by false true None = refl
    by false true (Some todo) = refl
    by false false o = refl

set_bare : (see : Ptr → Ptr) (b : Body) (words : List ℕ) → AreBare see (set_edits b words)
set_bare see (Mutex locked) words = ((refl, λ root big x. tt), tt)
set_bare see Cond words = tt
set_bare see (Mapping m) words = ((refl, λ root big x. tt), tt)
set_bare see (Region r) words = ((refl, λ root big x. tt), tt)
set_bare see (Port set served) words = ((refl, λ root big x. tt), tt)
set_bare see Portset words = tt
set_bare see (Space birth holder) words = tt
set_bare see (Thread_of t) words = ((refl, λ root big x. no_porter (word words 18) (record_registers words) (word words 19)), ((refl, λ root big x. tt), tt))
set_bare see (Reference to) words = tt

module _ (nester : Path) (slot : ℕ) where
  abbrev root : Path
  root = slot ∷ nester

  abbrev me : Path
  me = LAST_PORTER_SLOT ∷ nester

  abbrev see : Ptr → Ptr
  see = eye nester slot

  -- edits one after another
  alters_all : (x : ℕ) (q : Path) (edits : List Edit) (g : Site) (w : World) → x ≤ LAST_USER_SLOT → AreBare see edits → Shows nester slot g w →
      Shows nester slot (with_built (apply_all (map (Alter (x ∷ q)) edits) g.built) g) (apply_all (map (Alter (x ∷ (q ++ root))) edits) w)
  unfolding apply_all
  alters_all x q [] g w low bare_ones shows = shows
  alters_all x q (edit ∷ edits) g w low bare_ones shows =
      let one : Shows nester slot (with_built (apply (Alter (x ∷ q) edit) g.built) g) (apply (Alter (x ∷ (q ++ root)) edit) w) =
      subst (λ (seen : Edit). Shows nester slot (with_built (apply (Alter (x ∷ q) seen) g.built) g) (apply (Alter (x ∷ (q ++ root)) edit) w)) bare_ones.0.0
      (alters nester slot g w shows false x q edit low (bare_ones.0.1 root (bare root w) (x ∷ (q ++ root)))) in
      alters_all x q edits (with_built (apply (Alter (x ∷ q) edit) g.built) g) (apply (Alter (x ∷ (q ++ root)) edit) w) low bare_ones.1 one

  module _ (g : Site) (w : World) (shows : Shows nester slot g w) (valid : IsConsistent w) where
    pub record Plain (o : Order) : Type 0 where
      pub changes : List Change
      pub near : AreNear nester slot changes
      pub row : call_row w (porter nester (words_of o)) None (stage_of slot o) ≡ Goes changes (Answered OK [])
      pub shown : Shows nester slot (does o g) (apply_all changes w)

    -- ---- scratch

    readies-plain : (r : ℕ) → is_ref_slot r ≡ true → g.spot r ≡ None → Plain (Readies r)
    unfolding apply_all
    readies-plain r is none =
        let empty : w.body (r ∷ nester) ≡ None = subst (λ (o : Option Spot). SpotShows nester slot w g.pin r o) none
        (shows.spots r (ref_slot nester slot g w shows r is)) in
        record {
          changes = Make (r ∷ nester) (Reference Null) ∷ [];
          near = ((scratch_near nester slot r (ref_slot nester slot g w shows r is), tt), tt);
          row = create-row nester no_words w OWN_SPACE r kinds.Reference nester (own-place nester no_words w) (ref_named nester slot g w shows r is)
              (nester_unfrozen nester slot g w shows) empty;
          shown = readies nester slot g w shows r valid is none empty;
        }

    leads-plain : (r s : ℕ) (q : Path) (x : ℕ) → MayLead g slot r s q x → Plain (Leads r s q x)
    unfolding apply_all
    leads-plain r s q x may =
        let ref = ref_there nester slot g w shows r may.scratch may.ready in
        let found = big nester slot g w shows x q may.object may.there in
        let its = subst (λ (b : Body). list_any (same_kind (kind_of b)) referable ≡ true) found.seen may.leads in
        let same : list_any (same_kind (kind_of found.body)) referable
        ≡ true = subst (λ (k : Kind). list_any (same_kind k) referable ≡ true) (kind_seen (seeing see) found.body) its in
        record {
          changes = Alter (r ∷ nester) (SetPointer (At (x ∷ (q ++ root)))) ∷ [];
          near = ((scratch_near nester slot r (ref_slot nester slot g w shows r may.scratch), tt), tt);
          row = point-row nester no_words w OWN_SPACE r s x nester (q ++ root) ref.to (At (x ∷ (q ++ root))) (own-place nester no_words w)
              (object-there nester no_words w reference_of nester r (Reference ref.to) ref.to (ref_named nester slot g w shows r may.scratch) ref.is refl)
              (place-row nester slot g w shows no_words s q may.place)
              (object-there nester no_words w (pointer_to (x ∷ (q ++ root))) (q ++ root) x found.body (At (x ∷ (q ++ root)))
              (user_named nester slot g w shows x may.low) found.there (referable_pointer (x ∷ (q ++ root)) found.body same))
              (ref_unfrozen nester slot g w shows r ref.to ref.is);
          shown = leads nester slot g w shows r (At (x ∷ (q ++ root))) (Some (To (At (x ∷ q)))) may.scratch
              (led_there nester slot g w shows r ref.to (At (x ∷ (q ++ root))) ref.is, tt);
        }

    leads_top-plain : (r : ℕ) → is_ref_slot r ≡ true → IsSome (g.spot r) → Plain (LeadsTop r)
    unfolding apply_all
    leads_top-plain r is ready =
        let ref = ref_there nester slot g w shows r is ready in
        let space = root_there nester slot g w shows in
        record {
          changes = Alter (r ∷ nester) (SetPointer (At root)) ∷ [];
          near = ((scratch_near nester slot r (ref_slot nester slot g w shows r is), tt), tt);
          row = point-row nester no_words w OWN_SPACE r OWN_SPACE slot nester nester ref.to (At root) (own-place nester no_words w)
              (object-there nester no_words w reference_of nester r (Reference ref.to) ref.to (ref_named nester slot g w shows r is) ref.is refl)
              (own-place nester no_words w)
              (object-there nester no_words w (pointer_to root) nester slot (Space space.birth space.holder) (At root)
              (user_named nester slot g w shows slot shows.low) space.is refl)
              (ref_unfrozen nester slot g w shows r ref.to ref.is);
          shown = leads nester slot g w shows r (At root) (Some (To (At []))) is (led_there nester slot g w shows r ref.to (At root) ref.is, tt);
        }

    -- ---- objects

    fresh-shown : (x : ℕ) (q : Path) (kind : Kind) → x ≤ LAST_USER_SLOT
        → Shows nester slot (with_built (apply (fresh (x ∷ q) kind) g.built) g) (apply (fresh (x ∷ (q ++ root)) kind) w)
    unfolding seen_by
    fresh-shown x q kinds.Mutex low = makes nester slot g w shows x q (Mutex false) low tt
    fresh-shown x q kinds.Cond low = makes nester slot g w shows x q Cond low tt
    fresh-shown x q kinds.Mapping low = makes nester slot g w shows x q _ low Nulls
    fresh-shown x q kinds.Region low = makes nester slot g w shows x q _ low Nulls
    fresh-shown x q kinds.Port low = makes nester slot g w shows x q (Port None false) low refl
    fresh-shown x q kinds.Portset low = makes nester slot g w shows x q Portset low tt
    fresh-shown x q kinds.Space low = makes_space nester slot g w shows x q low
    fresh-shown x q kinds.Thread low = makes nester slot g w shows x q _ low (tt, tt, refl)
    fresh-shown x q kinds.Reference low = makes nester slot g w shows x q (Reference Null) low Nulls

    makes-plain : (s : ℕ) (q : Path) (x : ℕ) (kind : Kind) → MayMake g slot s q x → Plain (Makes s q x kind)
    unfolding apply_all
    makes-plain s q x kind may = record {
      changes = fresh (x ∷ (q ++ root)) kind ∷ [];
      near = (fresh_near nester slot x q kind, tt);
      row = create-row nester no_words w s x kind (q ++ root) (place-row nester slot g w shows no_words s q may.place)
          (user_named nester slot g w shows x may.low) (unfrozen nester slot g w shows q)
          (empty_there nester slot g w shows x q may.low may.empty);
      shown = fresh-shown x q kind may.low;
    }

    -- what a record needs is there without the pin too
    takes_too : (q : Path) (b : Body) (words : List ℕ) → takes_state (bare root w) (q ++ root) b words ≡ true → takes_state w (q ++ root) b words ≡ true
    unfolding takes_state
    takes_too q (Port set served) words h = more (word words 0 == 5) (word words 1 == 0) (not served && nat_le (word words 1) SLOTS)
        (same_path ((word words 1 - 1) ∷ (q ++ root)) (pin_of root)) (w.body ((word words 1 - 1) ∷ (q ++ root))) h
    takes_too q (Mutex locked) words h = h
    takes_too q b words h = h

    native_off : (b : Body) → IsPlainBody see (HasLikeness root see (bare root w)) b → is_native b ≡ false
    native_off (Thread_of t) h = h.2
    native_off (Mutex locked) h = refl
    native_off b h = refl

    sets-plain : (s : ℕ) (q : Path) (x : ℕ) (words : List ℕ) → MaySet g slot s q x words → Plain (Sets s q x words)
    sets-plain s q x words may =
        let found = big nester slot g w shows x q may.object may.there in
        let taken : takes_state g.built q (seen_by (seeing see) found.body) words
        ≡ true = subst (λ (b : Body). takes_state g.built q b words ≡ true) found.seen may.takes in
        let its : takes_state (bare root w) (q ++ root) found.body words ≡ true = sym (takes_state-like shows.like q found.body words found.plain) ∙ taken in
        let changed : Shows nester slot (with_built (apply_all (map (Alter (x ∷ q)) (set_edits found.body words)) g.built) g)
        (apply_all (map (Alter (x ∷ (q ++ root))) (set_edits found.body words)) w) =
        alters_all x q (set_edits found.body words) g w may.low (set_bare see found.body words) shows in
        let edits : set_edits may.object words ≡ set_edits found.body words = ap (λ (b : Body). set_edits b words) found.seen
        ∙ set_edits-seen see found.body words in
        record {
          changes = map (Alter (x ∷ (q ++ root))) (set_edits found.body words);
          near = edits_near nester slot x q found.body words;
          row = set_state-row nester words w s x (q ++ root) found.body (place-row nester slot g w shows words s q may.place)
              (object-there nester words w anything (q ++ root) x found.body found.body (user_named nester slot g w shows x may.low) found.there refl)
              (unfrozen nester slot g w shows (x ∷ q)) (decides nester slot g w shows (x ∷ q)) (native_off found.body found.plain)
              (takes_too q found.body words its);
          shown = subst (λ (o : Option Body). Shows nester slot (with_built (after_set (x ∷ q) words o g.built) g)
              (apply_all (map (Alter (x ∷ (q ++ root))) (set_edits found.body words)) w)) (sym may.there)
              (subst (λ (edits : List Edit). Shows nester slot (with_built (apply_all (map (Alter (x ∷ q)) edits) g.built) g)
              (apply_all (map (Alter (x ∷ (q ++ root))) (set_edits found.body words)) w)) (sym edits) changed);
        }

    -- ---- ports outside

    pub record IsPortOut (i : ℕ) : Type 0 where
      pub set : Option ℕ
      pub served : Bool
      pub there : w.body (i ∷ nester) ≡ Some (Port set served)
      pub outside : is_within root (i ∷ nester) ≡ false
      pub seen : see (At (i ∷ nester)) ≡ Out i

    port_body : (i : ℕ) (o : Option Body) → w.body (i ∷ nester) ≡ o → option_map kind_of o ≡ Some kinds.Port → (i ≡ slot → ⊥) → IsPortOut i
    port_body i (Some (Port set served)) there h apart = record {
      set = set;
      served = served;
      there = there;
      outside = out (strip root (i ∷ nester)) refl;
      seen = rw (none (strip root (i ∷ nester)) refl, same_path_refl nester) refl;
    }
      where
        at : (q : Path) → i ∷ nester ≡ q ++ root → ⊥
        at [] e = let slots : i ≡ slot = cc in apart slots
        at (k ∷ q) e = omega (arith, ap length e, length-append q root)

        out : (o : Option Path) → strip root (i ∷ nester) ≡ o → is_some o ≡ false
        out None e = refl
        out (Some q) e = absurd (at q (strip_some root (i ∷ nester) q e))

        none : (o : Option Path) → strip root (i ∷ nester) ≡ o → o ≡ None
        none None e = refl
        none (Some q) e = absurd (at q (strip_some root (i ∷ nester) q e))
    port_body i (Some (Mutex locked)) there h apart = cc
    port_body i (Some Cond) there h apart = cc
    port_body i (Some (Mapping m)) there h apart = cc
    port_body i (Some (Region r)) there h apart = cc
    port_body i (Some Portset) there h apart = cc
    port_body i (Some (Space birth holder)) there h apart = cc
    port_body i (Some (Thread_of t)) there h apart = cc
    port_body i (Some (Reference to)) there h apart = cc
    port_body i None there h apart = cc

    pub port_out : (i : ℕ) → kind_there w (i ∷ nester) ≡ Some kinds.Port → IsPortOut i
    unfolding kind_there
    port_out i is = port_body i (w.body (i ∷ nester)) refl is (λ e. let space = root_there nester slot g w shows in
        let its : option_map kind_of (w.body root) ≡ Some kinds.Port = subst (λ (i : ℕ). option_map kind_of (w.body (i ∷ nester)) ≡ Some kinds.Port) e is in
        let here : option_map kind_of (w.body root) ≡ Some kinds.Space = rw space.is refl in cc)

    pub fast_port : (i : ℕ) → g.pin ≡ Fast i → IsPortOut i
    fast_port i pinned = let shown = subst (λ (p : Pin). PinShows nester slot w p) pinned shows.pin in port_out i shown.1

    bare_kind : (i : ℕ) → kind_at w (At (i ∷ nester)) ≡ Some kinds.Port → kind_at (bare root w) (At (i ∷ nester)) ≡ Some kinds.Port
    bare_kind i h = rw (same_path_ne (i ∷ nester) (pin_of root) (λ e. omega (arith, ap length e))) h

    port_at : (i : ℕ) → IsPortOut i → PtrLikeness root (bare root w) (At (i ∷ nester)) (Out i)
    port_at i port = PortAt (i ∷ nester) i port.outside (bare_kind i (rw port.there refl))

    -- ---- pointers

    pub record Leading (p : Ptr) : Type 0 where
      pub like : PtrLikeness root (bare root w) (lifted nester slot p) p
      pub seen : see (lifted nester slot p) ≡ p
      pub kind : kind_at w (lifted nester slot p) ≡ kind_at g.built p

    inside_kind : (q : Path) (o : Option Body) → g.built.body q ≡ o → IsSome o → kind_at w (At (q ++ root)) ≡ kind_at g.built (At q)
    unfolding seen_by
    inside_kind q None e live = cc
    inside_kind [] (Some b) e live =
        let space = root_there nester slot g w shows in
        rw (shows.like.bodies [], same_path_ne root (pin_of root) (λ e. omega (arith, ap length e)), space.is) refl
    inside_kind (k ∷ q) (Some b) e live =
        let found = big nester slot g w shows k q b e in
        let there : kind_at w (At (k ∷ (q ++ root))) ≡ Some (kind_of found.body) = rw found.there refl in
        let built : kind_at g.built (At (k ∷ q)) ≡ Some (kind_of b) = ap (and_then (λ b. Some (kind_of b))) e in
        there ∙ ap Some (sym (ap kind_of found.seen ∙ kind_seen (seeing see) found.body)) ∙ sym built

    leading : (p : Ptr) → IsKeptBy g.pin p → IsLive g.built p → Leading p
    leading Null kept live = record { like = Nulls; seen = refl; kind = refl }
    leading Dead kept live = record { like = Deads; seen = refl; kind = refl }
    leading (At q) kept live = record { like = Inside q; seen = shows.like.within q; kind = inside_kind q (g.built.body q) refl live }
    leading (Out i) kept live = let port = fast_port i kept in record { like = port_at i port; seen = port.seen; kind = rw port.there refl }
    leading Outside kept live = absurd kept
    leading Far kept live = absurd kept

    has_too : (b : Body) → has_pointer (seen_by (seeing see) b) ≡ true → has_pointer b ≡ true
    unfolding seen_by
    has_too (Mapping m) h = refl
    has_too (Region r) h = refl
    has_too (Reference to) h = refl
    has_too (Mutex locked) h = cc
    has_too Cond h = cc
    has_too (Port set served) h = cc
    has_too Portset h = cc
    has_too (Space birth holder) h = cc
    has_too (Thread_of t) h = cc

    points-plain : (s : ℕ) (q : Path) (x r : ℕ) → MayPoint g slot s q x r → Plain (Points s q x r)
    unfolding apply_all
    points-plain s q x r may =
        let found = big nester slot g w shows x q may.object may.there in
        let ref = ref_led nester slot g w shows r may.to may.scratch may.led in
        let way = leading may.to ref.1 may.live in
        let big_to : Ptr = lifted nester slot may.to in
        let has = has_too found.body (subst (λ (b : Body). has_pointer b ≡ true) found.seen may.has) in
        let held : held_kinds may.object ≡ held_kinds found.body = ap held_kinds found.seen ∙ held_kinds-seen see found.body in
        let fits : is_of_kinds (held_kinds found.body) (kind_at w big_to) ≡ true = rw (← held, way.kind) may.fits in
        let good : HasLikeness root see (bare root w) big_to = rw way.seen way.like in
        let changed : Shows nester slot (with_built (apply (Alter (x ∷ q) (SetPointer (see big_to))) g.built) g)
        (apply (Alter (x ∷ (q ++ root)) (SetPointer big_to)) w) =
        alters nester slot g w shows false x q (SetPointer big_to) may.low good in
        let seen : Shows nester slot (with_built (apply (Alter (x ∷ q) (SetPointer may.to)) g.built) g)
        (apply (Alter (x ∷ (q ++ root)) (SetPointer big_to)) w) =
        subst (λ (p : Ptr). Shows nester slot (with_built (apply (Alter (x ∷ q) (SetPointer p)) g.built) g)
        (apply (Alter (x ∷ (q ++ root)) (SetPointer big_to)) w)) way.seen changed in
        record {
          changes = Alter (x ∷ (q ++ root)) (SetPointer big_to) ∷ [];
          near = ((inside_near nester slot (x ∷ q), tt), tt);
          row = set_ptr-row nester no_words w s x r (q ++ root) found.body big_to (place-row nester slot g w shows no_words s q may.place)
              (object-there nester no_words w anything (q ++ root) x found.body found.body (user_named nester slot g w shows x may.low) found.there refl)
              (object-there nester no_words w reference_of nester r (Reference big_to) big_to (ref_named nester slot g w shows r may.scratch) ref.0 refl)
              (unfrozen nester slot g w shows (x ∷ q)) has fits;
          shown = subst (λ (o : Option Spot). Shows nester slot (with_built (after_pointer (x ∷ q) o g.built) g)
              (apply (Alter (x ∷ (q ++ root)) (SetPointer big_to)) w)) (sym may.led) seen;
        }

    -- ---- pages

    gives-plain : (s : ℕ) (q : Path) (page : ℕ) (words : List ℕ) → MayGive g slot s q page words → Plain (Gives s q page words)
    unfolding apply_all
    gives-plain s q page words may = record {
      changes = _;
      near = (page_near nester slot q, tt);
      row = page_give-row nester words w s page (q ++ root) (place-row nester slot g w shows words s q may.place) (unfrozen nester slot g w shows q) may.fits
          (sym (shows.like.pages q page) ∙ may.empty);
      shown = gives nester slot g w shows q page words;
    }

    -- ---- the pin

    pin_spots : (v : World) (p : Pin) (k : ℕ) (o : Option Spot) → w.body (pin_of root) ≡ None → v.body (k ∷ nester) ≡ w.body (k ∷ nester)
        → SpotShows nester slot w NoPin k o → SpotShows nester slot v p k o
    pin_spots v p k None none same h = same ∙ h
    pin_spots v p k (Some (To (Out i))) none same h = cc
    pin_spots v p k (Some (To Null)) none same h = (same ∙ h.0, tt)
    pin_spots v p k (Some (To Dead)) none same h = (same ∙ h.0, tt)
    pin_spots v p k (Some (To (At q))) none same h = (same ∙ h.0, tt)
    pin_spots v p k (Some (To Outside)) none same h = absurd h.1
    pin_spots v p k (Some (To Far)) none same h = absurd h.1
    pin_spots v p k (Some Unsure) none same h = let both = sym none ∙ h.2 in cc

    pub made_pin : w.body (pin_of root) ≡ None → Shows nester slot (with_pin Loose g) (apply (Make (pin_of root) (Reference Null)) w)
    unfolding apply
    made_pin none = record {
      low = shows.low;
      holder = rw (same_path_ne root (pin_of root) (λ e. omega (arith, ap length e))) shows.holder;
      above = above_stays nester slot g w shows (apply (Make (pin_of root) (Reference Null)) w)
          (λ a short. rw (same_path_ne a (pin_of root) (λ e. omega (arith, short, ap length e))) refl);
      porter = rw (same_path_ne me (pin_of root) (λ e. omega (arith, ap length e))) shows.porter;
      like = rw (bare-pin root w (λ there. Some (Reference Null))) shows.like;
      pin = (Null, rw (same_path_refl (pin_of root)) refl);
      spots = λ k is. pin_spots (apply (Make (pin_of root) (Reference Null)) w) Loose k (g.spot k) none
          (rw (same_path_ne (k ∷ nester) (pin_of root) (λ e. omega (arith, ap length e))) refl) (none_spot k (shows.spots k is));
    }
      where
        none_spot : (k : ℕ) → SpotShows nester slot w g.pin k (g.spot k) → SpotShows nester slot w NoPin k (g.spot k)
        none_spot k h = by (g.spot k) g.pin shows.pin h
          where
            by : (o : Option Spot) (p : Pin) → PinShows nester slot w p → SpotShows nester slot w p k o → SpotShows nester slot w NoPin k o
            by o NoPin shown h = h
            by o Loose shown h = let both = sym none ∙ shown.1 in cc
            by o (Fast i) shown h = let both = sym none ∙ shown.0 in cc

    makes_pin-plain : g.pin ≡ NoPin → Plain MakesPin
    unfolding apply_all
    makes_pin-plain is =
        let none : w.body (pin_of root) ≡ None = subst (λ (p : Pin). PinShows nester slot w p) is shows.pin in
        record {
          changes = Make (pin_of root) (Reference Null) ∷ [];
          near = ((inside_near nester slot (FIRST_SCRATCH_SLOT ∷ []), tt), tt);
          row = create-row nester no_words w slot FIRST_SCRATCH_SLOT kinds.Reference root (root_named nester slot g w shows no_words) refl
              (unfrozen nester slot g w shows []) none;
          shown = made_pin none;
        }

    takes-plain : (r : ℕ) → is_ref_slot r ≡ true → IsSome (g.spot r) → g.pin ≡ Loose → Plain (Takes r)
    unfolding apply_all
    takes-plain r is ready loose =
        let ref = ref_there nester slot g w shows r is ready in
        let pin = subst (λ (p : Pin). PinShows nester slot w p) loose shows.pin in
        record {
          changes = Alter (r ∷ nester) (SetPointer pin.0) ∷ [];
          near = ((scratch_near nester slot r (ref_slot nester slot g w shows r is), tt), tt);
          row = point-row nester no_words w OWN_SPACE r slot FIRST_SCRATCH_SLOT nester root ref.to pin.0 (own-place nester no_words w)
              (object-there nester no_words w reference_of nester r (Reference ref.to) ref.to (ref_named nester slot g w shows r is) ref.is refl)
              (root_named nester slot g w shows no_words)
              (object-there nester no_words w (pointer_to (pin_of root)) root FIRST_SCRATCH_SLOT (Reference pin.0) pin.0 refl pin.1 refl)
              (ref_unfrozen nester slot g w shows r ref.to ref.is);
          shown = leads nester slot g w shows r pin.0 (Some Unsure) is
              (pin.0, led_there nester slot g w shows r ref.to pin.0 ref.is, pin_kept nester slot g w shows r pin.0 ∙ pin.1);
        }

    -- ---- talks and faults at the port to which the pin leads

    thread_too : (b : Body) → is_some (and_then thread_of (Some (seen_by (seeing see) b))) ≡ true → IsThread b
    unfolding seen_by
    thread_too (Thread_of t) h = record { thread = t; is = refl }
    thread_too (Mutex locked) h = cc
    thread_too Cond h = cc
    thread_too (Mapping m) h = cc
    thread_too (Region r) h = cc
    thread_too (Port set served) h = cc
    thread_too Portset h = cc
    thread_too (Space birth holder) h = cc
    thread_too (Reference to) h = cc

    some_there : (o : Option Body) → is_some (and_then thread_of o) ≡ true → IsThere o
    some_there None h = cc
    some_there (Some b) h = record { body = b; is = refl }

    pub record IsBigThread (q : Path) (x : ℕ) : Type 0 where
      pub thread : Thread
      pub there : w.body (x ∷ (q ++ root)) ≡ Some (Thread_of thread)

    pub big_thread : (q : Path) (x : ℕ) → is_some (and_then thread_of (g.built.body (x ∷ q))) ≡ true → IsBigThread q x
    big_thread q x is =
        let some = some_there (g.built.body (x ∷ q)) is in
        let found = big nester slot g w shows x q some.body some.is in
        let its : is_some (and_then thread_of (Some (seen_by (seeing see) found.body)))
        ≡ true = subst (λ (b : Body). is_some (and_then thread_of (Some b)) ≡ true) found.seen
        (subst (λ (o : Option Body). is_some (and_then thread_of o) ≡ true) some.is is) in
        let thread = thread_too found.body its in
        record { thread = thread.thread; there = found.there ∙ ap Some thread.is }

    parks_talk-plain : (s : ℕ) (q : Path) (x i : ℕ) (words : List ℕ) → MayPark g slot s q x i → Plain (ParksTalk s q x i words)
    unfolding apply_all
    parks_talk-plain s q x i words may =
        let t = big_thread q x may.thread in
        let port = fast_port i may.pinned in
        let edit : Edit = SetTalk (given_talk (porter nester words) (At (i ∷ nester)) Parked) in
        let good : PtrLikeness root (bare root w) (At (i ∷ nester)) (see (At (i ∷ nester))) = rw port.seen (port_at i port) in
        let changed : Shows nester slot (with_built (apply (Alter (x ∷ q) (seen_edit see false edit)) g.built) g) (apply (Alter (x ∷ (q ++ root)) edit) w) =
        alters nester slot g w shows false x q edit may.low (good, rw port.seen tt) in
        record {
          changes = Alter (x ∷ (q ++ root)) edit ∷ [];
          near = ((inside_near nester slot (x ∷ q), tt), tt);
          row = link_park-row nester words w s x i (q ++ root) t.thread (port.set, port.served) (place-row nester slot g w shows words s q may.place)
              (object-there nester words w thread_of (q ++ root) x (Thread_of t.thread) t.thread (user_named nester slot g w shows x may.low) t.there refl)
              (object-there nester words w port_of nester i (Port port.set port.served) (port.set, port.served)
              (user_named nester slot g w shows i may.port) port.there refl)
              (unfrozen nester slot g w shows (x ∷ q));
          shown = subst (λ (p : Ptr). Shows nester slot
              (with_built (apply (Alter (x ∷ q) (SetTalk
              (Some (record {
                port = p;
                peer = seen_peer see (is_out p) Parked;
                turn = turn_by (slice_index words 0);
                moved = slice_index words 1;
              })))) g.built) g)
              (apply (Alter (x ∷ (q ++ root)) edit) w)) port.seen changed;
        }

    taken_seen : (t : Bool) → option_map (seen_peer see true) (cond t (Some Parked) None) ≡ cond t (Some (Server Outside)) None
    taken_seen true = refl
    taken_seen false = refl

    taker_good : (t out : Bool) → out ≡ true → IfSome (cond t (Some Parked) None) (λ taker. IfServer out taker (HasLikeness root see (bare root w)))
    taker_good true out h = rw h tt
    taker_good false out h = tt

    parks_fault-plain : (s : ℕ) (q : Path) (x i taken : ℕ) (words : List ℕ) → MayPark g slot s q x i → Plain (ParksFault s q x i taken words)
    unfolding apply_all
    parks_fault-plain s q x i taken words may =
        let t = big_thread q x may.thread in
        let port = fast_port i may.pinned in
        let edit : Edit = SetFault (given_fault (porter nester words) (At (i ∷ nester)) (cond (taken == 1) (Some Parked) None)) in
        let good : PtrLikeness root (bare root w) (At (i ∷ nester)) (see (At (i ∷ nester))) = rw port.seen (port_at i port) in
        let changed : Shows nester slot (with_built (apply (Alter (x ∷ q) (seen_edit see false edit)) g.built) g) (apply (Alter (x ∷ (q ++ root)) edit) w) =
        alters nester slot g w shows false x q edit may.low (good, taker_good (taken == 1) (is_out (see (At (i ∷ nester)))) (ap is_out port.seen)) in
        let at_port : Shows nester slot (with_built
        (apply (Alter (x ∷ q) (SetFault (Some (record {
          page = slice_index words 0;
          write = slice_index words 1
              == 1;
          port = Out i;
          taker = option_map (seen_peer see true) (cond (taken == 1) (Some Parked) None);
        })))) g.built) g)
        (apply (Alter (x ∷ (q ++ root)) edit) w) =
        subst (λ (p : Ptr). Shows nester slot (with_built
        (apply (Alter (x ∷ q) (SetFault (Some (record {
          page = slice_index words 0;
          write = slice_index words 1
              == 1;
          port = p;
          taker = option_map (seen_peer see (is_out p)) (cond (taken == 1) (Some Parked) None);
        })))) g.built) g)
        (apply (Alter (x ∷ (q ++ root)) edit) w)) port.seen changed in
        record {
          changes = Alter (x ∷ (q ++ root)) edit ∷ [];
          near = ((inside_near nester slot (x ∷ q), tt), tt);
          row = fault_park-row nester words w s x i taken (q ++ root) t.thread (port.set, port.served) (place-row nester slot g w shows words s q may.place)
              (object-there nester words w thread_of (q ++ root) x (Thread_of t.thread) t.thread (user_named nester slot g w shows x may.low) t.there refl)
              (object-there nester words w port_of nester i (Port port.set port.served) (port.set, port.served)
              (user_named nester slot g w shows i may.port) port.there refl)
              (unfrozen nester slot g w shows (x ∷ q));
          shown = subst (λ (taker : Option Peer). Shows nester slot
              (with_built (apply (Alter (x ∷ q) (SetFault
              (Some (record { page = slice_index words 0; write = slice_index words 1 == 1; port = Out i; taker = taker })))) g.built) g)
              (apply (Alter (x ∷ (q ++ root)) edit) w)) (taken_seen (taken == 1)) at_port;
        }

    -- ---- all of them

    abbrev pub IsPlainOrder : Order → Type 0
    IsPlainOrder (Pins i) = ⊥
    IsPlainOrder (Checks r i) = ⊥
    IsPlainOrder (Drops r) = ⊥
    IsPlainOrder DropsPin = ⊥
    IsPlainOrder (Deadens r) = ⊥
    IsPlainOrder (LinksTalk s q x r u port server words) = ⊥
    IsPlainOrder (RaisesFault s q x r port words) = ⊥
    IsPlainOrder (LinksFault s q x r u port taker words) = ⊥
    IsPlainOrder (Holds s q x r holder) = ⊥
    IsPlainOrder other = Unit {0}

    pub plain : (o : Order) → IsPlainOrder o → May slot o g → Plain o
    plain (Readies r) is may = readies-plain r may.0 may.1
    plain (Leads r s q x) is may = leads-plain r s q x may
    plain (LeadsTop r) is may = leads_top-plain r may.0 may.1
    plain (Makes s q x kind) is may = makes-plain s q x kind may
    plain (Sets s q x words) is may = sets-plain s q x words may
    plain (Points s q x r) is may = points-plain s q x r may
    plain (Gives s q page words) is may = gives-plain s q page words may
    plain MakesPin is may = makes_pin-plain may
    plain (Takes r) is may = takes-plain r may.0 may.1 may.2
    plain (ParksTalk s q x i words) is may = parks_talk-plain s q x i words may
    plain (ParksFault s q x i taken words) is may = parks_fault-plain s q x i taken words may
    plain (Pins i) is may = absurd is
    plain (Checks r i) is may = absurd is
    plain (Drops r) is may = absurd is
    plain DropsPin is may = absurd is
    plain (Deadens r) is may = absurd is
    plain (LinksTalk s q x r u port server words) is may = absurd is
    plain (RaisesFault s q x r port words) is may = absurd is
    plain (LinksFault s q x r u port taker words) is may = absurd is
    plain (Holds s q x r holder) is may = absurd is
