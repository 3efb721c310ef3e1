-- An object with nothing beneath it gets another slot of its space: the world stays valid.
--
-- Its slot and the empty one change places, as do the pointers to them.
use Rattle.std.proofs.Common.{◌≡◌, ℕ, Bool, true, false, if◌then◌else◌, not, IsSome, is_some, List, [], ◌∷◌, Option, Some, None, option_map, refl, sym, ap, ap₂}
use Rattle.std.proofs.Common.{subst, ◌∙◌}
use Rattle.std.proofs.lemmas.Bool.{and_parts, and_from}
use Rattle.fk_model.specs.declared.names.Kind.{Kind}
use Rattle.fk_model.specs.declared.names.Kind.TheVariants as kinds
use Rattle.fk_model.specs.Places.{Path, same_path, parent, slot_of, Ptr, leads_to}
use Rattle.fk_model.specs.Places.Ptr.{At}
use Rattle.fk_model.specs.Objects.{Peer, Talk, Fault, Body, kind_of, port_of, and_then, holds}
use Rattle.fk_model.specs.Objects.Peer.{Server, Service, Parked}
use Rattle.fk_model.specs.Objects.Body.{Mutex, Cond, Mapping, Region, Port, Portset, Space, Thread_of, Reference}
use Rattle.fk_model.specs.World.{World, apply, serves, through, following, follow, follow_peer, moved_to}
use Rattle.fk_model.specs.World.Change.{Move}
use Rattle.fk_model.specs.StateRows.{referable}
use Rattle.fk_model.specs.Valid.{IsConsistent, kind_there, is_one_of, leads_there, may_lead, all_in, is_good, is_good_peer, is_good_talk, is_good_fault}
use Rattle.fk_model.specs.Valid.{is_good_set, birth_of, birth_at, is_served_port, lies_with}
use Rattle.fk_model.proofs.walks.PlaceLaws.{same_path_eq, same_path_refl, same_path_ne, same_path_apart, same_path_above}
use Rattle.laws_moves.proofs.InMachine.validity.Ties.{Tie, tie_of, claim_of, body_tie, body_claim, tie_at, claim_at, is_tied_to, load, AreTied, AreFacts, facts}
use Rattle.laws_moves.proofs.InMachine.validity.Ties.{valid-from}
use Rattle.laws_moves.proofs.InMachine.validity.Ties.Tie.{Joins}
use Rattle.laws_moves.proofs.InMachine.validity.Outlines.{Outline, outline_of, outline-kind, outline-birth, outline-served, same_facts}
use Rattle.laws_moves.proofs.InMachine.safety.Safe.{IsSafeMove}
use Rattle.fk_model.proofs.walks.WalkLaws.{live-kind}

-- ---- two places change

abbrev pub swap : Path → Path → Path → Path
swap x y q = if same_path q x then y else (if same_path q y then x else q)

module _ (x y : Path) (apart : same_path y x ≡ false) where
  swap_x : swap x y x ≡ y
  swap_x = rw (same_path_refl x) refl

  swap_y : swap x y y ≡ x
  swap_y = rw (apart, same_path_refl y) refl

  swap_other : (q : Path) → same_path q x ≡ false → same_path q y ≡ false → swap x y q ≡ q
  swap_other q e f = rw (e, f) refl

  swap-swap : (q : Path) → swap x y (swap x y q) ≡ q
  swap-swap q = by (same_path q x) refl (same_path q y) refl
    where
      by : (t : Bool) → same_path q x ≡ t → (r : Bool) → same_path q y ≡ r → swap x y (if t then y else (if r then x else q)) ≡ q
      by true e r f = let here = same_path_eq q x e in swap_y ∙ sym here
      by false e true f = let here = same_path_eq q y f in swap_x ∙ sym here
      by false e false f = swap_other q e f

  swap_same : (q r : Path) → swap x y q ≡ swap x y r → q ≡ r
  swap_same q r h = sym (swap-swap q) ∙ ap (swap x y) h ∙ swap-swap r

  same-swap : (q r : Path) → same_path (swap x y q) r ≡ same_path q (swap x y r)
  same-swap q r = by (same_path (swap x y q) r) refl
    where
      by : (t : Bool) → same_path (swap x y q) r ≡ t → t ≡ same_path q (swap x y r)
      by true e = let here = same_path_eq (swap x y q) r e in
          let back : q ≡ swap x y r = sym (swap-swap q) ∙ ap (swap x y) here in sym (rw back (same_path_refl (swap x y r)))
      by false e = sym (same_path_ne q (swap x y r) (λ g. same_path_apart (swap x y q) r e (ap (swap x y) g ∙ swap-swap r)))

  swap-parent : parent x ≡ parent y → (q : Path) → parent (swap x y q) ≡ parent q
  swap-parent same q = by (same_path q x) refl (same_path q y) refl
    where
      by : (t : Bool) → same_path q x ≡ t → (r : Bool) → same_path q y ≡ r → parent (if t then y else (if r then x else q)) ≡ parent q
      by true e r f = let here = same_path_eq q x e in sym same ∙ ap parent (sym here)
      by false e true f = let here = same_path_eq q y f in same ∙ ap parent (sym here)
      by false e false f = refl

  -- ---- pointers and ties

  abbrev turned : Ptr → Ptr
  turned (At q) = At (swap x y q)
  turned p = p

  abbrev turned_peer : Peer → Peer
  turned_peer (Server server) = Server (turned server)
  turned_peer peer = peer

  abbrev turned_tie : Tie → Tie
  turned_tie (Joins port peer) = Joins (turned port) (turned_peer peer)

  turned-turned : (p : Ptr) → turned (turned p) ≡ p
  turned-turned (At q) = ap At (swap-swap q)
  turned-turned p = refl

  turned_peer-turned : (p : Peer) → turned_peer (turned_peer p) ≡ p
  turned_peer-turned (Server server) = ap Server (turned-turned server)
  turned_peer-turned p = refl

  tie_back : (o : Option Tie) (port : Ptr) (peer : Peer) → option_map turned_tie o ≡ Some (Joins port peer) → o ≡ Some (Joins (turned port) (turned_peer peer))
  tie_back None port peer h = cc
  tie_back (Some (Joins p q)) port peer h =
      let left : turned p ≡ port = cc in let right : turned_peer q ≡ peer = cc in
      rw (← left, ← right, turned-turned p, turned_peer-turned q) refl

  leads-turned : (s : Path) (p : Ptr) → leads_to s (turned p) ≡ leads_to (swap x y s) p
  leads-turned s (At q) = same-swap q s
  leads-turned s p = refl

  serves-turned : (s : Path) (p : Peer) → serves s (turned_peer p) ≡ serves (swap x y s) p
  serves-turned s (Server server) = leads-turned s server
  serves-turned s p = refl

  tied-turned : (s : Path) (o : Option Tie) → is_tied_to s (option_map turned_tie o) ≡ is_tied_to (swap x y s) o
  tied-turned s None = refl
  tied-turned s (Some (Joins port peer)) = serves-turned s peer

  lies-turned : parent x ≡ parent y → (port server : Ptr) → lies_with (turned port) (turned server) → lies_with port server
  lies-turned same (At p) (At s) h = sym (swap-parent same s) ∙ h ∙ swap-parent same p
  lies-turned same port server h = tt

  tied-turned_all : (served still : Ptr → Bool) (a b c d : Path → Option Tie) → parent x ≡ parent y →
      ((p : Ptr) → still p ≡ served (turned p)) →
      ((q : Path) → c q ≡ option_map turned_tie (a (swap x y q))) → ((q : Path) → d q ≡ option_map turned_tie (b (swap x y q))) →
      AreTied served a b → AreTied still c d
  tied-turned_all served still a b c d same stays talks claims tied = record {
    served_all = λ q port h. stays port ∙ tied.served_all (swap x y q) (turned port) (old_talk q port Service h);
    one_client =
        λ q r port h g. swap_same q r (tied.one_client (swap x y q) (swap x y r) (turned port) (old_talk q port Service h) (old_talk r port Service g));
    talks_near =
        λ q port server h. lies-turned same port server (tied.talks_near (swap x y q) (turned port) (turned server) (old_talk q port (Server server) h));
    claims_near = λ q port server h. lies-turned
        same port server (tied.claims_near (swap x y q) (turned port) (turned server) (tie_back (b (swap x y q)) port (Server server) (sym (claims q) ∙ h)));
    single = λ s. record {
      one = λ q r h g. swap_same q r ((tied.single (swap x y s)).one (swap x y q) (swap x y r) (rw (loads s q) at h) (rw (loads s r) at g));
      each = λ q. rw (loads s q) ((tied.single (swap x y s)).each (swap x y q));
    };
  }
    where
      old_talk : (q : Path) (port : Ptr) (peer : Peer) → c q ≡ Some (Joins port peer) → a (swap x y q) ≡ Some (Joins (turned port) (turned_peer peer))
      old_talk q port peer h = tie_back (a (swap x y q)) port peer (sym (talks q) ∙ h)

      loads : (s q : Path) → load s (c q) (d q) ≡ load (swap x y s) (a (swap x y q)) (b (swap x y q))
      loads s q = rw (talks q, claims q, tied-turned s (a (swap x y q)), tied-turned s (b (swap x y q))) refl

  -- ---- pointers follow, which is the same where none leads to the empty slot

  module _ (there : Path → Option Kind) (empty : there y ≡ None) where
    abbrev moved : Path → Option Kind
    moved q = there (swap x y q)

    follow-turned : (wanted : List Kind) (p : Ptr) → leads_there there wanted p ≡ true → follow x y p ≡ turned p
    follow-turned wanted (At q) h = by (same_path q x) (same_path q y) refl
      where
        by : (t r : Bool) → same_path q y ≡ r → (if t then At y else At q) ≡ At (if t then y else (if r then x else q))
        by true r f = refl
        by false true f = let here = same_path_eq q y f in let none : there q ≡ None = rw here empty in let off : false ≡ true = rw none at h in cc
        by false false f = refl
    follow-turned wanted p h = refl

    may-turned : (wanted : List Kind) (p : Ptr) → may_lead there wanted p ≡ true → follow x y p ≡ turned p
    may-turned wanted (At q) h = follow-turned wanted (At q) h
    may-turned wanted p h = refl

    leads-moved : (wanted : List Kind) (p : Ptr) → leads_there there wanted p ≡ true → leads_there moved wanted (follow x y p) ≡ true
    leads-moved wanted p h = rw (follow-turned wanted p h) (by p h)
      where
        by : (p : Ptr) → leads_there there wanted p ≡ true → leads_there moved wanted (turned p) ≡ true
        by (At q) h = rw (swap-swap q) h
        by p h = h

    may-moved : (wanted : List Kind) (p : Ptr) → may_lead there wanted p ≡ true → may_lead moved wanted (follow x y p) ≡ true
    may-moved wanted p h = rw (may-turned wanted p h) (by p h)
      where
        by : (p : Ptr) → may_lead there wanted p ≡ true → may_lead moved wanted (turned p) ≡ true
        by (At q) h = rw (swap-swap q) h
        by p h = h

    peer-turned : (peer : Peer) → is_good_peer there peer ≡ true → follow_peer x y peer ≡ turned_peer peer
    peer-turned (Server server) h = ap Server (follow-turned (kinds.Thread ∷ []) server h)
    peer-turned Service h = refl
    peer-turned Parked h = refl

    peer-moved : (peer : Peer) → is_good_peer there peer ≡ true → is_good_peer moved (follow_peer x y peer) ≡ true
    peer-moved (Server server) h = leads-moved (kinds.Thread ∷ []) server h
    peer-moved Service h = refl
    peer-moved Parked h = refl

    holder-moved : (o : Option Ptr) →
        all_in (leads_there there (kinds.Thread ∷ [])) o ≡ true → all_in (leads_there moved (kinds.Thread ∷ [])) (and_then (λ p. Some (follow x y p)) o) ≡ true
    holder-moved None h = refl
    holder-moved (Some p) h = leads-moved (kinds.Thread ∷ []) p h

    talk-moved : (o : Option Talk) → all_in (is_good_talk there) o ≡ true → all_in (is_good_talk moved) (and_then (following x y).talk o) ≡ true
    talk-moved None h = refl
    talk-moved (Some talk) h = let both = and_parts (leads_there there (kinds.Port ∷ []) talk.port) (is_good_peer there talk.peer) h in
        and_from _ _ (leads-moved (kinds.Port ∷ []) talk.port both.0) (peer-moved talk.peer both.1)

    taker-moved : (o : Option Peer) → all_in (is_good_peer there) o ≡ true → all_in (is_good_peer moved) (option_map (follow_peer x y) o) ≡ true
    taker-moved None h = refl
    taker-moved (Some taker) h = peer-moved taker h

    fault-moved : (o : Option Fault) → all_in (is_good_fault there) o ≡ true → all_in (is_good_fault moved) (and_then (following x y).fault o) ≡ true
    fault-moved None h = refl
    fault-moved (Some fault) h = let both = and_parts (leads_there there (kinds.Port ∷ []) fault.port) (all_in (is_good_peer there) fault.taker) h in
        and_from _ _ (leads-moved (kinds.Port ∷ []) fault.port both.0) (taker-moved fault.taker both.1)

    -- a port's set follows within the space
    set-moved : parent x ≡ parent y → slot_of y ∷ parent y ≡ y → (q : Path) (o : Option ℕ) (served : Bool) →
        is_good_set there (swap x y q) o served ≡ true → is_good_set moved q (and_then ((following x y).set q) o) served ≡ true
    set-moved same whole q None served h = refl
    set-moved same whole q (Some set) served h =
        let both = and_parts (not served) (is_one_of (kinds.Portset ∷ []) (there (set ∷ parent (swap x y q)))) h in
        let old : is_one_of (kinds.Portset ∷ []) (there (set ∷ parent q)) ≡ true = rw (swap-parent same q) at both.1 in
        and_from _ _ both.0 (by (same_path (set ∷ parent q) x) refl (same_path (set ∷ parent q) y) refl old)
      where
        by : (t : Bool) → same_path (set ∷ parent q) x ≡ t → (r : Bool) → same_path (set ∷ parent q) y ≡ r → is_one_of (kinds.Portset ∷ [])
            (there (set ∷ parent q)) ≡ true → is_one_of (kinds.Portset ∷ []) (there (swap x y ((if t then slot_of y else set) ∷ parent q))) ≡ true
        by true e r f g =
            let here = same_path_eq (set ∷ parent q) x e in
            let above : parent q ≡ parent y = ap parent here ∙ same in
            let there_now : slot_of y ∷ parent q ≡ y = ap (λ z. slot_of y ∷ z) above ∙ whole in
            rw (there_now, swap_y, ← here) g
        by false e true f g = let here = same_path_eq (set ∷ parent q) y f in
            let none : there (set ∷ parent q) ≡ None = rw here empty in let off : false ≡ true = rw none at g in cc
        by false e false f g = rw (swap_other (set ∷ parent q) e f) g

    good-moved : parent x ≡ parent y →
        slot_of y ∷ parent y ≡ y → (q : Path) (b : Body) → is_good there (swap x y q) b ≡ true → is_good moved q (through (following x y) q b) ≡ true
    good-moved same whole q (Mapping m) h = let both = and_parts _ (may_lead there (kinds.Region ∷ []) m.region) h in
        and_from _ _ both.0 (may-moved (kinds.Region ∷ []) m.region both.1)
    good-moved same whole q (Region r) h = let both = and_parts _ (may_lead there (kinds.Port ∷ []) r.keeper) h in
        and_from _ _ both.0 (may-moved (kinds.Port ∷ []) r.keeper both.1)
    good-moved same whole q (Port set served) h = set-moved same whole q set served h
    good-moved same whole q (Space birth holder) h = holder-moved holder h
    good-moved same whole q (Thread_of t) h =
        let both = and_parts (all_in (is_good_talk there) t.talk) (all_in (is_good_fault there) t.fault) h in
        and_from _ _ (talk-moved t.talk both.0) (fault-moved t.fault both.1)
    good-moved same whole q (Reference to) h = may-moved referable to h
    good-moved same whole q (Mutex locked) h = refl
    good-moved same whole q Cond h = refl
    good-moved same whole q Portset h = refl

    talk-tie : (o : Option Talk) →
        all_in (is_good_talk there) o ≡ true → option_map tie_of (and_then (following x y).talk o) ≡ option_map turned_tie (option_map tie_of o)
    talk-tie None h = refl
    talk-tie (Some talk) h =
        let both = and_parts (leads_there there (kinds.Port ∷ []) talk.port) (is_good_peer there talk.peer) h in
        ap₂ (λ (p : Ptr) (q : Peer). Some (Joins p q)) (follow-turned (kinds.Port ∷ []) talk.port both.0) (peer-turned talk.peer both.1)

    fault-tie : (o : Option Fault) →
        all_in (is_good_fault there) o ≡ true → and_then claim_of (and_then (following x y).fault o) ≡ option_map turned_tie (and_then claim_of o)
    fault-tie None h = refl
    fault-tie (Some fault) h =
        let both = and_parts (leads_there there (kinds.Port ∷ []) fault.port) (all_in (is_good_peer there) fault.taker) h in by fault.taker both.1 both.0
      where
        by : (o : Option Peer) → all_in (is_good_peer there) o ≡ true → leads_there there (kinds.Port ∷ []) fault.port ≡ true →
            option_map (Joins (follow x y fault.port)) (option_map (follow_peer x y) o) ≡ option_map turned_tie (option_map (Joins fault.port) o)
        by None g f = refl
        by (Some peer) g f = ap₂ (λ (p : Ptr) (q : Peer). Some (Joins p q)) (follow-turned (kinds.Port ∷ []) fault.port f) (peer-turned peer g)

    body-tie : (q z : Path) (o : Option Body) →
        all_in (is_good there z) o ≡ true → body_tie (option_map (through (following x y) q) o) ≡ option_map turned_tie (body_tie o)
    body-tie q z (Some (Thread_of t)) h = talk-tie t.talk (and_parts (all_in (is_good_talk there) t.talk) (all_in (is_good_fault there) t.fault) h).0
    body-tie q z (Some (Mutex locked)) h = refl
    body-tie q z (Some Cond) h = refl
    body-tie q z (Some (Mapping m)) h = refl
    body-tie q z (Some (Region r)) h = refl
    body-tie q z (Some (Port set served)) h = refl
    body-tie q z (Some Portset) h = refl
    body-tie q z (Some (Space birth holder)) h = refl
    body-tie q z (Some (Reference to)) h = refl
    body-tie q z None h = refl

    body-claim : (q z : Path) (o : Option Body) →
        all_in (is_good there z) o ≡ true → body_claim (option_map (through (following x y) q) o) ≡ option_map turned_tie (body_claim o)
    body-claim q z (Some (Thread_of t)) h = fault-tie t.fault (and_parts (all_in (is_good_talk there) t.talk) (all_in (is_good_fault there) t.fault) h).1
    body-claim q z (Some (Mutex locked)) h = refl
    body-claim q z (Some Cond) h = refl
    body-claim q z (Some (Mapping m)) h = refl
    body-claim q z (Some (Region r)) h = refl
    body-claim q z (Some (Port set served)) h = refl
    body-claim q z (Some Portset) h = refl
    body-claim q z (Some (Space birth holder)) h = refl
    body-claim q z (Some (Reference to)) h = refl
    body-claim q z None h = refl

pub outline-following : (x y q : Path) (o : Option Body) → option_map outline_of (option_map (through (following x y) q) o) ≡ option_map outline_of o
outline-following x y q (Some (Port set served)) = refl
outline-following x y q (Some (Mutex locked)) = refl
outline-following x y q (Some Cond) = refl
outline-following x y q (Some (Mapping m)) = refl
outline-following x y q (Some (Region r)) = refl
outline-following x y q (Some Portset) = refl
outline-following x y q (Some (Space birth holder)) = refl
outline-following x y q (Some (Thread_of t)) = refl
outline-following x y q (Some (Reference to)) = refl
outline-following x y q None = refl

-- ---- the world

module _ (w : World) (k : ℕ) (s : Path) (slot : ℕ) (safe : IsSafeMove w k s slot) (valid : IsConsistent w) where
  abbrev old : Path
  old = k ∷ s

  abbrev new : Path
  new = slot ∷ s

  abbrev after : World
  after = moved_to old new w

  apart_slots : same_path new old ≡ false
  apart_slots = same_path_ne new old (λ e. by e)
    where
      by : new ≡ old → ⊥
      by e = let here : w.body old ≡ None = rw (← e) safe.empty in let off : false ≡ true = rw here at safe.live in cc

  nothing_there : kind_there w new ≡ None
  unfolding kind_there
  nothing_there = rw safe.empty refl

  bodies : (q : Path) → after.body q ≡ option_map (through (following old new) q) (w.body (swap old new q))
  bodies q = by (same_path q new) refl (same_path q old) refl
    where
      by : (t : Bool) → same_path q new ≡ t → (r : Bool) → same_path q old ≡ r →
          (if t then option_map (through (following old new) new) (w.body old) else (if r then None else option_map (through (following old new) q) (w.body q)))
          ≡ option_map (through (following old new) q) (w.body (if r then new else (if t then old else q)))
      by true e true f = let left = same_path_eq q new e in let right = same_path_eq q old f in absurd (same_path_apart new old apart_slots (sym left ∙ right))
      by true e false f = let here = same_path_eq q new e in rw here refl
      by false e true f = rw safe.empty refl
      by false e false f = refl

  through_swap : {A : Type 0} (h : Option Body → A) →
      ((q : Path) (o : Option Body) → h (option_map (through (following old new) q) o) ≡ h o) → (q : Path) → h (after.body q) ≡ h (w.body (swap old new q))
  through_swap h same q = ap h (bodies q) ∙ same q (w.body (swap old new q))

  kinds_after : kind_there after ≡ (λ q. kind_there w (swap old new q))
  unfolding kind_there
  kinds_after = λ i q. through_swap
      (option_map kind_of) (λ q o. outline-kind _ ∙ ap (option_map (λ (f : Outline). f.kind)) (outline-following old new q o) ∙ sym (outline-kind o)) q i

  births_after : birth_at after ≡ (λ q. birth_at w (swap old new q))
  births_after = λ i q. through_swap
      (and_then birth_of) (λ q o. outline-birth _ ∙ ap (and_then (λ (f : Outline). f.birth)) (outline-following old new q o) ∙ sym (outline-birth o)) q i

  served_after : (p : Ptr) → is_served_port after p ≡ is_served_port w (turned old new apart_slots p)
  served_after (At q) = through_swap (λ o. holds (λ (port : Option ℕ × Bool). port.1) (and_then port_of o)) (λ q o. outline-served
      (option_map (through (following old new) q) o) ∙ ap (holds (λ (f : Outline). f.served)) (outline-following old new q o) ∙ sym (outline-served o)) q
  served_after p = refl

  ties_after : (q : Path) → tie_at after q ≡ option_map (turned_tie old new apart_slots) (tie_at w (swap old new q))
  ties_after q = ap body_tie (bodies q)
      ∙ body-tie old new apart_slots (kind_there w) nothing_there q (swap old new q) (w.body (swap old new q)) (valid.good (swap old new q))

  claims_after : (q : Path) → claim_at after q ≡ option_map (turned_tie old new apart_slots) (claim_at w (swap old new q))
  claims_after q = ap body_claim (bodies q)
      ∙ body-claim old new apart_slots (kind_there w) nothing_there q (swap old new q) (w.body (swap old new q)) (valid.good (swap old new q))

  space_above : kind_there w s ≡ Some kinds.Space
  space_above = valid.parents k s safe.live

  parents_after : (j : ℕ) (z : Path) → IsSome (kind_there w (swap old new (j ∷ z))) → kind_there w (swap old new z) ≡ Some kinds.Space
  parents_after j z = by (same_path (j ∷ z) old) refl (same_path (j ∷ z) new) refl
    where
      at_space : z ≡ s → kind_there w (swap old new z) ≡ Some kinds.Space
      at_space e = rw (e, same_path_above k [] s, same_path_above slot [] s) space_above

      above : (t : Bool) → same_path z old ≡ t → (r : Bool) → same_path z new ≡ r →
          kind_there w z ≡ Some kinds.Space → IsSome (kind_there w (j ∷ z)) → kind_there w (if t then new else (if r then old else z)) ≡ Some kinds.Space
      above true e r f g h =
          let here = same_path_eq z old e in
          let none : w.body (j ∷ z) ≡ None = rw here (safe.alone j) in
          let some : is_some (w.body (j ∷ z)) ≡ true = rw (live-kind w (j ∷ z)) at h in
          let off : false ≡ true = rw none at some in cc
      above false e true f g h = let here = same_path_eq z new f in let none : kind_there w z ≡ None = rw here nothing_there in cc
      above false e false f g h = g

      by : (t : Bool) → same_path (j ∷ z) old ≡ t → (r : Bool) →
          same_path (j ∷ z) new ≡ r → IsSome (kind_there w (if t then new else (if r then old else j ∷ z))) → kind_there w (swap old new z) ≡ Some kinds.Space
      by true e r f h = let off : false ≡ true = rw nothing_there at h in cc
      by false e true f h = let here = same_path_eq (j ∷ z) new f in at_space (cc)
      by false e false f h = above (same_path z old) refl (same_path z new) refl ((facts w valid).parents j z h) h

  good_after : (q : Path) → all_in (is_good (λ z. kind_there w (swap old new z)) q) (after.body q) ≡ true
  good_after q = rw (bodies q) (by (w.body (swap old new q)) (valid.good (swap old new q)))
    where
      by : (o : Option Body) → all_in (is_good (kind_there w) (swap old new q)) o ≡ true →
          all_in (is_good (λ z. kind_there w (swap old new z)) q) (option_map (through (following old new) q) o) ≡ true
      by None h = refl
      by (Some b) h = good-moved old new apart_slots (kind_there w) nothing_there refl refl q b h

  valid-after : IsConsistent after
  valid-after =
      valid-from after (same_facts (λ q. kind_there w (swap old new q)) (kind_there after) (λ q. birth_at w (swap old new q))
      (birth_at after) (is_served_port after) (is_served_port after) (tie_at after) (tie_at after) (claim_at after) (claim_at after)
      (sym kinds_after) (sym births_after) refl refl refl now)
      (λ q. subst (λ (there : Path → Option Kind). all_in (is_good there q) (after.body q) ≡ true) (sym kinds_after) (good_after q))
    where
      now : AreFacts (λ q. kind_there w (swap old new q)) (λ q. birth_at w (swap old new q)) w.next (is_served_port after) (tie_at after) (claim_at after)
      now = record {
        parents = parents_after;
        apart = λ y z number h g. swap_same old new apart_slots y z (valid.apart (swap old new y) (swap old new z) number h g);
        born = λ y number h. valid.born (swap old new y) number h;
        tied = tied-turned_all old new apart_slots (is_served_port w)
            (is_served_port after) (tie_at w) (claim_at w) (tie_at after) (claim_at after) refl served_after ties_after claims_after (facts w valid).tied;
      }

pub valid-move : (w : World) (k : ℕ) (s : Path) (slot : ℕ) → IsSafeMove w k s slot → IsConsistent w → IsConsistent (apply (Move (k ∷ s) slot) w)
unfolding apply
valid-move w k s slot safe valid = valid-after w k s slot safe valid
