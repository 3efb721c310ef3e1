-- Talks and faults between threads inside, and inner holds.
use Rattle.std.proofs.lemmas.Bool.{and_parts, leb-true}
use Rattle.std.proofs.Common.{nat_le, arith, ne_eqb, ◌≡◌, ℕ, Bool, true, false, ◌==◌, is_some, List, [], ◌∷◌, ◌++◌, Option, Some, None, Ok, refl, sym, ap}
use Rattle.std.proofs.Common.{subst, ◌∙◌}
use Rattle.fk_model.specs.declared.limits.TheConstants.{OWN_SPACE, FIRST_SCRATCH_SLOT, LAST_SCRATCH_SLOT, LAST_PORTER_SLOT}
use Rattle.fk_model.specs.declared.names.Kind.{Kind}
use Rattle.fk_model.specs.declared.names.Kind.TheVariants as kinds
use Rattle.fk_model.specs.declared.stage.Stage.TheVariants.{LinkSet, FaultSet, HoldSet}
use Rattle.fk_model.specs.declared.statuses.status.TheConstants.{OK}
use Rattle.fk_model.specs.Places.{Path, Ptr}
use Rattle.fk_model.specs.Places.Ptr.{At}
use Rattle.fk_model.specs.Objects.{Thread, Body, kind_of, space_of, thread_of, reference_of}
use Rattle.fk_model.specs.Objects.Peer.{Server}
use Rattle.fk_model.specs.Objects.Body.{Mutex, Cond, Mapping, Region, Port, Portset, Space, Thread_of, Reference}
use Rattle.fk_model.specs.World.{World, Edit, apply, apply_all}
use Rattle.fk_model.specs.World.Change.{Alter}
use Rattle.fk_model.specs.World.Edit.{SetTalk, SetFault, SetHolder}
use Rattle.fk_model.specs.Outcomes.Outcome.{Goes}
use Rattle.fk_model.specs.Outcomes.Said.{Answered}
use Rattle.fk_model.specs.Readers.{object_in, space_argument, referred, kind_at}
use Rattle.fk_model.specs.Holds.{is_frozen_for}
use Rattle.fk_model.specs.LinkRows.{given_talk, link_set}
use Rattle.fk_model.specs.FaultRows.{given_fault, fault_set}
use Rattle.fk_model.specs.SpaceRows.{hold_set}
use Rattle.fk_model.specs.Moves.{call_row}
use Rattle.fk_model.specs.Valid.{IsConsistent}
use Rattle.fk_model.specs.Cut.{is_out, seen_by}
use Rattle.laws_subtrees.specs.Cut.Likeness.{seeing, IfServer, HasLikeness}
use Rattle.laws_subtrees.specs.Cut.Likeness.PtrLikeness.{Inside}
use Rattle.laws_subtrees.specs.Cut.LikeChanges.{seen_edit}
use Rattle.laws_jobs.specs.Machines.{no_words, porter}
use Rattle.laws_restore.specs.Sites.Orders.{Site, eye, bare, Shows, MayLink, MayRaise, MayHold, IsKindThere, is_ref_slot, with_built, inner_talk, inner_fault}
use Rattle.laws_restore.specs.Sites.Orders.Order.{LinksTalk, RaisesFault, LinksFault, Holds}
use Rattle.laws_restore.proofs.InSites.Nearby.{inside_near, page_near}
use Rattle.laws_restore.proofs.InSites.Standing.{kind_seen, unfrozen, ref_named, ref_led, user_named, big, place-row}
use Rattle.laws_restore.proofs.InSites.Changes.{alters}
use Rattle.laws_restore.proofs.InSites.Plain.{Plain, big_thread}
use Rattle.laws_jobs.proofs.Rows.{object-there}

module _ (nester : Path) (words : List ℕ) (w : World) where
  abbrev me : Path
  me = LAST_PORTER_SLOT ∷ nester

  pub thread-there : (r : ℕ) (x : Path) → object_in w (porter nester words) reference_of nester r ≡ Ok (At x) → kind_at w (At x) ≡ Some kinds.Thread
      → referred w (porter nester words) kinds.Thread r ≡ Ok (At x)
  unfolding referred
  thread-there r x ref is = rw (ref, is) refl

  pub port-there : (r : ℕ) (x : Path) → object_in w (porter nester words) reference_of nester r ≡ Ok (At x) → kind_at w (At x) ≡ Some kinds.Port
      → referred w (porter nester words) kinds.Port r ≡ Ok (At x)
  unfolding referred
  port-there r x ref is = rw (ref, is) refl

  pub link_set-row : (s x r u : ℕ) (space port server : Path) (t : Thread) → space_argument w (porter nester words) s ≡ Ok space
      → object_in w (porter nester words) thread_of space x ≡ Ok t →
      referred w (porter nester words) kinds.Port r ≡ Ok (At port) → referred w (porter nester words) kinds.Thread u ≡ Ok (At server)
      → is_frozen_for w me (x ∷ space) ≡ false →
      call_row w (porter nester words) None (LinkSet s x r u)
      ≡ Goes (Alter (x ∷ space) (SetTalk (given_talk (porter nester words) (At port) (Server (At server)))) ∷ []) (Answered OK [])
  unfolding call_row link_set
  link_set-row s x r u space port server t h there at thread free = rw (h, there, at, thread, free) refl

  pub fault_set-row : (s x r u : ℕ) (space port server : Path) (t : Thread) → space_argument w (porter nester words) s ≡ Ok space
      → object_in w (porter nester words) thread_of space x ≡ Ok t →
      referred w (porter nester words) kinds.Port r ≡ Ok (At port) → (u == OWN_SPACE) ≡ false
      → referred w (porter nester words) kinds.Thread u ≡ Ok (At server) → is_frozen_for w me (x ∷ space) ≡ false →
      call_row w (porter nester words) None (FaultSet s x r u)
      ≡ Goes (Alter (x ∷ space) (SetFault (given_fault (porter nester words) (At port) (Some (Server (At server))))) ∷ []) (Answered OK [])
  unfolding call_row fault_set
  fault_set-row s x r u space port server t h there at some thread free = rw (h, there, at, some, thread, free) refl

  pub fault_raise-row : (s x r : ℕ) (space port : Path) (t : Thread) → space_argument w (porter nester words) s ≡ Ok space
      → object_in w (porter nester words) thread_of space x ≡ Ok t →
      referred w (porter nester words) kinds.Port r ≡ Ok (At port) → is_frozen_for w me (x ∷ space) ≡ false →
      call_row w (porter nester words) None (FaultSet s x r OWN_SPACE)
      ≡ Goes (Alter (x ∷ space) (SetFault (given_fault (porter nester words) (At port) None)) ∷ []) (Answered OK [])
  unfolding call_row fault_set
  fault_raise-row s x r space port t h there at free = rw (h, there, at, free) refl

  pub hold_set-row : (s x r : ℕ) (space thread : Path) (old : Option Ptr) → space_argument w (porter nester words) s ≡ Ok space
      → object_in w (porter nester words) space_of space x ≡ Ok old →
      referred w (porter nester words) kinds.Thread r ≡ Ok (At thread) → is_frozen_for w me (x ∷ space) ≡ false →
      call_row w (porter nester words) None (HoldSet s x r) ≡ Goes (Alter (x ∷ space) (SetHolder (Some (At thread))) ∷ []) (Answered OK [])
  unfolding call_row hold_set
  hold_set-row s x r space thread old h there holder free = rw (h, there, holder, free) refl

-- scratch is no place
pub no_place : (u : ℕ) → is_ref_slot u ≡ true → (u == OWN_SPACE) ≡ false
no_place u h = let least = leb-true u LAST_SCRATCH_SLOT (and_parts (nat_le FIRST_SCRATCH_SLOT u) (nat_le u LAST_SCRATCH_SLOT) h).1 in
    ne_eqb u OWN_SPACE (λ e. omega (arith, least, e))

module _ (nester : Path) (slot : ℕ) (g : Site) (w : World) (shows : Shows nester slot g w) (valid : IsConsistent w) where
  abbrev root : Path
  root = slot ∷ nester

  abbrev see : Ptr → Ptr
  see = eye nester slot

  -- the kind of what stands inside
  kind_big : (kind : Kind) (k : ℕ) (q : Path) (b : Body) → g.built.body (k ∷ q) ≡ Some b → kind_of b ≡ kind → kind_at w (At (k ∷ (q ++ root))) ≡ Some kind
  kind_big kind k q b is e =
      let found = big nester slot g w shows k q b is in
      let there : kind_at w (At (k ∷ (q ++ root))) ≡ Some (kind_of found.body) = rw found.there refl in
      there ∙ ap Some (sym (kind_seen (seeing see) found.body) ∙ sym (ap kind_of found.seen) ∙ e)

  inside : (q : Path) → HasLikeness root see (bare root w) (At (q ++ root))
  inside q = rw (shows.like.within q) (Inside q)

  seen_talk_is : (port server : Ptr) (y z : Path) (words : List ℕ) → see port ≡ At y → see server ≡ At z →
      seen_edit see false (SetTalk (given_talk (porter nester words) port (Server server))) ≡ SetTalk (Some (inner_talk y z words))
  seen_talk_is port server y z words e h = rw (e, h) refl

  record IsSpace (b : Body) : Type 0 where
    pub birth : ℕ
    pub holder : Option Ptr
    pub is : b ≡ Space birth holder

  space_seen : (b : Body) → is_some (space_of (seen_by (seeing see) b)) ≡ true → IsSpace b
  unfolding seen_by
  space_seen (Space birth holder) h = record { birth = birth; holder = holder; is = refl }
  space_seen (Mutex locked) h = cc
  space_seen Cond h = cc
  space_seen (Mapping m) h = cc
  space_seen (Region e) h = cc
  space_seen (Port set served) h = cc
  space_seen Portset h = cc
  space_seen (Thread_of t) h = cc
  space_seen (Reference to) h = cc

  pub kind_of_there : (y : Path) (kind : Kind) → IsKindThere g.built y kind → kind_at w (At (y ++ root)) ≡ Some kind
  kind_of_there y kind its = subst (λ (y : Path). kind_at w (At (y ++ root)) ≡ Some kind) (sym its.is)
      (kind_big kind its.slot its.space its.body (subst (λ (y : Path). g.built.body y ≡ Some its.body) its.is its.there) its.is_kind)

  pub links_talk-plain : (s : ℕ) (q : Path) (x r u : ℕ) (y z : Path) (words : List ℕ) → (may : MayLink g slot s q x r u y z)
      → Plain nester slot g w shows valid (LinksTalk s q x r u y z words)
  unfolding apply_all
  links_talk-plain s q x r u y z words may =
      let t = big_thread nester slot g w shows valid q x may.thread in
      let port : Path = y ++ root in
      let server : Path = z ++ root in
      let to = ref_led nester slot g w shows r (At y) may.scratch may.led in
      let by = ref_led nester slot g w shows u (At z) may.second may.served in
      let edit : Edit = SetTalk (given_talk (porter nester words) (At port) (Server (At server))) in
      let out : is_out (see (At port)) ≡ false = ap is_out (shows.like.within y) in
      let changed : Shows nester slot (with_built (apply (Alter (x ∷ q) (seen_edit see false edit)) g.built) g) (apply (Alter (x ∷ (q ++ root)) edit) w) =
      alters nester slot g w shows false x q edit may.low
      (inside y, subst (λ (b : Bool). IfServer b (Server (At server)) (HasLikeness root see (bare root w))) (sym out) (inside z)) in
      let seen : seen_edit see false edit ≡ SetTalk (Some (inner_talk y z words)) = seen_talk_is (At port) (At server) y z words (shows.like.within y)
      (shows.like.within z) in
      record {
        changes = Alter (x ∷ (q ++ root)) edit ∷ [];
        near = ((inside_near nester slot (x ∷ q), page_near nester slot z), tt);
        row = link_set-row nester words w s x r u (q ++ root) port server t.thread (place-row nester slot g w shows words s q may.place)
            (object-there nester words w thread_of (q ++ root) x (Thread_of t.thread) t.thread (user_named nester slot g w shows x may.low) t.there refl)
            (port-there nester words w r port (object-there nester words w reference_of nester r (Reference (At port)) (At port)
            (ref_named nester slot g w shows r may.scratch) to.0 refl) (kind_of_there y kinds.Port may.port_there))
            (thread-there nester words w u server (object-there nester words w reference_of nester u (Reference (At server)) (At server)
            (ref_named nester slot g w shows u may.second) by.0 refl) (kind_of_there z kinds.Thread may.server_there))
            (unfrozen nester slot g w shows (x ∷ q));
        shown = subst (λ (e : Edit). Shows nester slot (with_built (apply (Alter (x ∷ q) e) g.built) g) (apply (Alter (x ∷ (q ++ root)) edit) w)) seen changed;
      }

  seen_raised_is : (port : Ptr) (y : Path) (words : List ℕ) → see port ≡ At y →
      seen_edit see false (SetFault (given_fault (porter nester words) port None)) ≡ SetFault (Some (inner_fault y None words))
  seen_raised_is port y words e = rw e refl

  seen_taken_is : (port taker : Ptr) (y z : Path) (words : List ℕ) → see port ≡ At y → see taker ≡ At z →
      seen_edit see false (SetFault (given_fault (porter nester words) port (Some (Server taker)))) ≡ SetFault (Some (inner_fault y (Some z) words))
  seen_taken_is port taker y z words e h = rw (e, h) refl

  pub raises_fault-plain : (s : ℕ) (q : Path) (x r : ℕ) (y : Path) (words : List ℕ) → (may : MayRaise g slot s q x r y)
      → Plain nester slot g w shows valid (RaisesFault s q x r y words)
  unfolding apply_all
  raises_fault-plain s q x r y words may =
      let t = big_thread nester slot g w shows valid q x may.thread in
      let port : Path = y ++ root in
      let to = ref_led nester slot g w shows r (At y) may.scratch may.led in
      let edit : Edit = SetFault (given_fault (porter nester words) (At port) None) in
      let changed : Shows nester slot (with_built (apply (Alter (x ∷ q) (seen_edit see false edit)) g.built) g) (apply (Alter (x ∷ (q ++ root)) edit) w) =
      alters nester slot g w shows false x q edit may.low (inside y, tt) in
      let seen : seen_edit see false edit ≡ SetFault (Some (inner_fault y None words)) = seen_raised_is (At port) y words (shows.like.within y) in
      record {
        changes = Alter (x ∷ (q ++ root)) edit ∷ [];
        near = ((inside_near nester slot (x ∷ q), tt), tt);
        row = fault_raise-row nester words w s x r (q ++ root) port t.thread (place-row nester slot g w shows words s q may.place)
            (object-there nester words w thread_of (q ++ root) x (Thread_of t.thread) t.thread (user_named nester slot g w shows x may.low) t.there refl)
            (port-there nester words w r port (object-there nester words w reference_of nester r (Reference (At port)) (At port)
            (ref_named nester slot g w shows r may.scratch) to.0 refl) (kind_of_there y kinds.Port may.port_there))
            (unfrozen nester slot g w shows (x ∷ q));
        shown = subst (λ (e : Edit). Shows nester slot (with_built (apply (Alter (x ∷ q) e) g.built) g) (apply (Alter (x ∷ (q ++ root)) edit) w)) seen changed;
      }

  pub links_fault-plain : (s : ℕ) (q : Path) (x r u : ℕ) (y z : Path) (words : List ℕ) → (may : MayLink g slot s q x r u y z)
      → Plain nester slot g w shows valid (LinksFault s q x r u y z words)
  unfolding apply_all
  links_fault-plain s q x r u y z words may =
      let t = big_thread nester slot g w shows valid q x may.thread in
      let port : Path = y ++ root in
      let taker : Path = z ++ root in
      let to = ref_led nester slot g w shows r (At y) may.scratch may.led in
      let by = ref_led nester slot g w shows u (At z) may.second may.served in
      let edit : Edit = SetFault (given_fault (porter nester words) (At port) (Some (Server (At taker)))) in
      let out : is_out (see (At port)) ≡ false = ap is_out (shows.like.within y) in
      let changed : Shows nester slot (with_built (apply (Alter (x ∷ q) (seen_edit see false edit)) g.built) g) (apply (Alter (x ∷ (q ++ root)) edit) w) =
      alters nester slot g w shows false x q edit may.low
      (inside y, subst (λ (b : Bool). IfServer b (Server (At taker)) (HasLikeness root see (bare root w))) (sym out) (inside z)) in
      let seen : seen_edit see false edit ≡ SetFault (Some (inner_fault y (Some z) words)) = seen_taken_is (At port) (At taker) y z words
      (shows.like.within y) (shows.like.within z) in
      record {
        changes = Alter (x ∷ (q ++ root)) edit ∷ [];
        near = ((inside_near nester slot (x ∷ q), tt), tt);
        row = fault_set-row nester words w s x r u (q ++ root) port taker t.thread (place-row nester slot g w shows words s q may.place)
            (object-there nester words w thread_of (q ++ root) x (Thread_of t.thread) t.thread (user_named nester slot g w shows x may.low) t.there refl)
            (port-there nester words w r port (object-there nester words w reference_of nester r (Reference (At port)) (At port)
            (ref_named nester slot g w shows r may.scratch) to.0 refl) (kind_of_there y kinds.Port may.port_there))
            (no_place u may.second)
            (thread-there nester words w u taker (object-there nester words w reference_of nester u (Reference (At taker)) (At taker)
            (ref_named nester slot g w shows u may.second) by.0 refl) (kind_of_there z kinds.Thread may.server_there))
            (unfrozen nester slot g w shows (x ∷ q));
        shown = subst (λ (e : Edit). Shows nester slot (with_built (apply (Alter (x ∷ q) e) g.built) g) (apply (Alter (x ∷ (q ++ root)) edit) w)) seen changed;
      }

  pub holds-plain : (s : ℕ) (q : Path) (x r : ℕ) (z : Path) → (may : MayHold g slot s q x r z) → Plain nester slot g w shows valid (Holds s q x r z)
  unfolding apply_all
  holds-plain s q x r z may =
      let found = big nester slot g w shows x q may.body may.there in
      let space = space_seen found.body (subst (λ (b : Body). is_some (space_of b) ≡ true) found.seen may.space) in
      let holder : Path = z ++ root in
      let to = ref_led nester slot g w shows r (At z) may.scratch may.led in
      let edit : Edit = SetHolder (Some (At holder)) in
      let changed : Shows nester slot (with_built (apply (Alter (x ∷ q) (SetHolder (Some (see (At holder))))) g.built) g)
      (apply (Alter (x ∷ (q ++ root)) edit) w) =
      alters nester slot g w shows false x q edit may.low (inside z) in
      record {
        changes = Alter (x ∷ (q ++ root)) edit ∷ [];
        near = ((inside_near nester slot (x ∷ q), tt), tt);
        row = hold_set-row nester no_words w s x r (q ++ root) holder space.holder (place-row nester slot g w shows no_words s q may.place)
            (object-there nester no_words w space_of (q ++ root) x (Space space.birth space.holder) space.holder (user_named nester slot g w shows x may.low)
            (found.there ∙ ap Some space.is) refl)
            (thread-there nester no_words w r holder
            (object-there nester no_words w reference_of nester r (Reference (At holder)) (At holder)
            (ref_named nester slot g w shows r may.scratch) to.0 refl) (kind_of_there z kinds.Thread may.holder_there))
            (unfrozen nester slot g w shows (x ∷ q));
        shown = subst (λ (p : Ptr). Shows nester slot (with_built (apply (Alter (x ∷ q) (SetHolder (Some p))) g.built) g)
            (apply (Alter (x ∷ (q ++ root)) edit) w)) (shows.like.within z) changed;
      }
