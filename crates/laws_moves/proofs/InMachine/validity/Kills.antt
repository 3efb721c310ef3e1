-- An object with nothing beneath it is destroyed: the world stays valid.
use Rattle.std.proofs.Common.{◌≡◌, ℕ, Bool, true, false, if◌then◌else◌, ◌||◌, not, IsSome, is_some, List, [], ◌∷◌, Option, Some, None, option_map, refl, sym}
use Rattle.std.proofs.Common.{ap, subst, ◌∙◌}
use Rattle.std.proofs.lemmas.Bool.{and_parts, and_from, or_parts}
use Rattle.fk_model.specs.declared.names.Kind.{Kind}
use Rattle.fk_model.specs.declared.names.Kind.TheVariants as kinds
use Rattle.fk_model.specs.Places.{Path, same_path, Ptr, leads_to}
use Rattle.fk_model.specs.Places.Ptr.{Dead, At}
use Rattle.fk_model.specs.Objects.{Peer, Talk, Fault, Body, kind_of, and_then, holds}
use Rattle.fk_model.specs.Objects.Peer.{Server, Service}
use Rattle.fk_model.specs.Objects.Body.{Mutex, Cond, Mapping, Region, Port, Portset, Space, Thread_of, Reference}
use Rattle.fk_model.specs.World.{World, apply, set_at, serves, through, death_sweep, talk_without, taker_without, fault_without}
use Rattle.fk_model.specs.World.Change.{Kill}
use Rattle.fk_model.specs.StateRows.{referable}
use Rattle.fk_model.specs.Valid.{IsConsistent, kind_there, is_one_of, leads_there, may_lead, all_in, is_good, is_good_peer, is_good_talk, is_good_fault}
use Rattle.fk_model.specs.Valid.{is_good_set, birth_of, birth_at, is_served_port}
use Rattle.fk_model.proofs.walks.PlaceLaws.{same_path_eq}
use Rattle.laws_moves.proofs.InMachine.validity.Ties.{Tie, tie_of, claim_of, body_tie, body_claim, tie_at, claim_at, IsServedAll, AreFacts, facts, valid-from}
use Rattle.laws_moves.proofs.InMachine.validity.Ties.Tie.{Joins}
use Rattle.laws_moves.proofs.InMachine.validity.Outlines.{Outline, outline_of, outline-kind, outline-birth, outline-served, put, same_facts}
use Rattle.laws_moves.proofs.InMachine.validity.TieLaws.{IsWithin, tied_within}
use Rattle.laws_moves.proofs.InMachine.safety.Safe.{IsAlone}
use Rattle.fk_model.proofs.walks.WalkLaws.{live-kind}

-- ---- what is good stays so

module _ (x : Path) (there : Path → Option Kind) where
  abbrev left : Path → Option Kind
  left = put x None there

  -- where a pointer leads elsewhere it stays
  leads-kept : (wanted : List Kind) (p : Ptr) → leads_to x p ≡ false → leads_there there wanted p ≡ true → leads_there left wanted p ≡ true
  leads-kept wanted (At y) e h = rw e h
  leads-kept wanted p e h = h

  pointer-killed : (wanted : List Kind) (p : Ptr) → may_lead there wanted p ≡ true → may_lead left wanted (if leads_to x p then Dead else p) ≡ true
  pointer-killed wanted (At y) h = by (same_path y x) refl
    where
      by : (t : Bool) → same_path y x ≡ t → may_lead left wanted (if t then Dead else At y) ≡ true
      by true e = refl
      by false e = rw e h
  pointer-killed wanted p h = h

  peer-kept : (peer : Peer) → serves x peer ≡ false → is_good_peer there peer ≡ true → is_good_peer left peer ≡ true
  peer-kept (Server server) e h = leads-kept (kinds.Thread ∷ []) server e h
  peer-kept peer e h = h

  holder-killed : (o : Option Ptr) → all_in (leads_there there (kinds.Thread ∷ [])) o ≡ true →
      all_in (leads_there left (kinds.Thread ∷ [])) (and_then (λ p. if leads_to x p then None else Some p) o) ≡ true
  holder-killed None h = refl
  holder-killed (Some p) h = by (leads_to x p) refl
    where
      by : (t : Bool) → leads_to x p ≡ t → all_in (leads_there left (kinds.Thread ∷ [])) (if t then None else Some p) ≡ true
      by true e = refl
      by false e = leads-kept (kinds.Thread ∷ []) p e h

  talk-killed : (o : Option Talk) → all_in (is_good_talk there) o ≡ true → all_in (is_good_talk left) (and_then (talk_without x) o) ≡ true
  talk-killed None h = refl
  talk-killed (Some talk) h = by (leads_to x talk.port || serves x talk.peer) refl
    where
      by : (t : Bool) → (leads_to x talk.port || serves x talk.peer) ≡ t → all_in (is_good_talk left) (if t then None else Some talk) ≡ true
      by true e = refl
      by false e =
          let off = or_parts (leads_to x talk.port) (serves x talk.peer) e in
          let both = and_parts (leads_there there (kinds.Port ∷ []) talk.port) (is_good_peer there talk.peer) h in
          and_from _ _ (leads-kept (kinds.Port ∷ []) talk.port off.0 both.0) (peer-kept talk.peer off.1 both.1)

  taker-killed : (o : Option Peer) → all_in (is_good_peer there) o ≡ true → all_in (is_good_peer left) (and_then (taker_without x) o) ≡ true
  taker-killed None h = refl
  taker-killed (Some taker) h = by (serves x taker) refl
    where
      by : (t : Bool) → serves x taker ≡ t → all_in (is_good_peer left) (if t then None else Some taker) ≡ true
      by true e = refl
      by false e = peer-kept taker e h

  fault-killed : (o : Option Fault) → all_in (is_good_fault there) o ≡ true → all_in (is_good_fault left) (and_then (fault_without x) o) ≡ true
  fault-killed None h = refl
  fault-killed (Some fault) h = by (leads_to x fault.port) refl
    where
      by : (t : Bool) → leads_to x fault.port ≡ t →
          all_in (is_good_fault left) (if t then None else Some (record fault { taker = and_then (taker_without x) fault.taker })) ≡ true
      by true e = refl
      by false e =
          let both = and_parts (leads_there there (kinds.Port ∷ []) fault.port) (all_in (is_good_peer there) fault.taker) h in
          and_from _ _ (leads-kept (kinds.Port ∷ []) fault.port e both.0) (taker-killed fault.taker both.1)

  set-killed : (at : Path) (o : Option ℕ) (served : Bool) →
      is_good_set there at o served ≡ true → is_good_set left at (and_then (λ set. if same_path (set_at at set) x then None else Some set) o) served ≡ true
  set-killed at None served h = refl
  set-killed at (Some set) served h = by (same_path (set_at at set) x) refl
    where
      by : (t : Bool) → same_path (set_at at set) x ≡ t → is_good_set left at (if t then None else Some set) served ≡ true
      by true e = refl
      by false e = let both = and_parts (not served) (is_one_of (kinds.Portset ∷ []) (there (set_at at set))) h in and_from _ _ both.0 (rw e both.1)

  good-killed : (at : Path) (b : Body) → is_good there at b ≡ true → is_good left at (through (death_sweep x) at b) ≡ true
  good-killed at (Mapping m) h = let both = and_parts _ (may_lead there (kinds.Region ∷ []) m.region) h in
      and_from _ _ both.0 (pointer-killed (kinds.Region ∷ []) m.region both.1)
  good-killed at (Region r) h = let both = and_parts _ (may_lead there (kinds.Port ∷ []) r.keeper) h in
      and_from _ _ both.0 (pointer-killed (kinds.Port ∷ []) r.keeper both.1)
  good-killed at (Port set served) h = set-killed at set served h
  good-killed at (Space birth holder) h = holder-killed holder h
  good-killed at (Thread_of t) h =
      let both = and_parts (all_in (is_good_talk there) t.talk) (all_in (is_good_fault there) t.fault) h in
      and_from _ _ (talk-killed t.talk both.0) (fault-killed t.fault both.1)
  good-killed at (Reference to) h = pointer-killed referable to h
  good-killed at (Mutex locked) h = refl
  good-killed at Cond h = refl
  good-killed at Portset h = refl

-- ---- ties are kept or lost

tie-without : (x : Path) (o : Option Talk) (port : Ptr) (peer : Peer) →
    option_map tie_of (and_then (talk_without x) o) ≡ Some (Joins port peer) → (option_map tie_of o ≡ Some (Joins port peer)) × (leads_to x port ≡ false)
tie-without x None port peer h = cc
tie-without x (Some talk) port peer h = by (leads_to x talk.port || serves x talk.peer) refl h
  where
    by : (t : Bool) → (leads_to x talk.port || serves x talk.peer) ≡ t → option_map tie_of (if t then None else Some talk) ≡ Some (Joins port peer) →
        (Some (Joins talk.port talk.peer) ≡ Some (Joins port peer)) × (leads_to x port ≡ false)
    by true e g = cc
    by false e g = let same : talk.port ≡ port = cc in let off = (or_parts (leads_to x talk.port) (serves x talk.peer) e).0 in (g, rw same at off)

claim-without : (x : Path) (o : Option Fault) (tie : Tie) → and_then claim_of (and_then (fault_without x) o) ≡ Some tie → and_then claim_of o ≡ Some tie
claim-without x None tie h = cc
claim-without x (Some fault) tie h = by (leads_to x fault.port) fault.taker h
  where
    taken : (peer : Peer) (r : Bool) → option_map (Joins fault.port) (if r then None else Some peer) ≡ Some tie → Some (Joins fault.port peer) ≡ Some tie
    taken peer true g = cc
    taken peer false g = g

    by : (t : Bool) (taker : Option Peer) → and_then claim_of
        (if t then None else Some (record fault { taker = and_then (taker_without x) taker })) ≡ Some tie → option_map (Joins fault.port) taker ≡ Some tie
    by true taker g = cc
    by false None g = cc
    by false (Some peer) g = taken peer (serves x peer) g

tie-killed : (x q : Path) (o : Option Body) (port : Ptr) (peer : Peer) →
    body_tie (option_map (through (death_sweep x) q) o) ≡ Some (Joins port peer) → (body_tie o ≡ Some (Joins port peer)) × (leads_to x port ≡ false)
tie-killed x q (Some (Thread_of t)) port peer h = tie-without x t.talk port peer h
tie-killed x q o port peer h = cc

claim-killed : (x q : Path) (o : Option Body) (tie : Tie) → body_claim (option_map (through (death_sweep x) q) o) ≡ Some tie → body_claim o ≡ Some tie
claim-killed x q (Some (Thread_of t)) tie h = claim-without x t.fault tie h
claim-killed x q o tie h = cc

pub outline-without : (x q : Path) (o : Option Body) → option_map outline_of (option_map (through (death_sweep x) q) o) ≡ option_map outline_of o
outline-without x q (Some (Port set served)) = refl
outline-without x q (Some (Mutex locked)) = refl
outline-without x q (Some Cond) = refl
outline-without x q (Some (Mapping m)) = refl
outline-without x q (Some (Region r)) = refl
outline-without x q (Some Portset) = refl
outline-without x q (Some (Space birth holder)) = refl
outline-without x q (Some (Thread_of t)) = refl
outline-without x q (Some (Reference to)) = refl
outline-without x q None = refl

-- ---- the world

module _ (w : World) (x : Path) (alone : IsAlone w x) (valid : IsConsistent w) where
  abbrev after : World
  after = record {
    body = λ q. if same_path q x then None else option_map (through (death_sweep x) q) (w.body q);
    page = λ s g. if same_path s x then None else w.page s g;
    next = w.next;
  }

  put_none : {A : Type 0} (h : Option Body → Option A) → h None ≡ None →
      ((q : Path) (o : Option Body) → h (option_map (through (death_sweep x) q) o) ≡ h o) → (q : Path) → h (after.body q) ≡ put x None (λ q. h (w.body q)) q
  put_none h nothing same q = by (same_path q x)
    where
      by : (t : Bool) → h (if t then None else option_map (through (death_sweep x) q) (w.body q)) ≡ (if t then None else h (w.body q))
      by true = nothing
      by false = same q (w.body q)

  kinds_after : kind_there after ≡ put x None (kind_there w)
  unfolding kind_there
  kinds_after = λ i q.
      put_none (option_map kind_of) refl (λ q o. outline-kind _ ∙ ap (option_map (λ (f : Outline). f.kind)) (outline-without x q o) ∙ sym (outline-kind o)) q i

  births_after : birth_at after ≡ put x None (birth_at w)
  births_after = λ i q.
      put_none (and_then birth_of) refl (λ q o. outline-birth _ ∙ ap (and_then (λ (f : Outline). f.birth)) (outline-without x q o) ∙ sym (outline-birth o)) q i

  served_after : (y : Path) → leads_to x (At y) ≡ false → is_served_port w (At y) ≡ true → is_served_port after (At y) ≡ true
  served_after y e h = rw e (outline-served (option_map (through (death_sweep x) y) (w.body y))
      ∙ ap (holds (λ (f : Outline). f.served)) (outline-without x y (w.body y)) ∙ sym (outline-served (w.body y)) ∙ h)

  within_put : {A : Type 0} (a : Path → Option A) (q : Path) (v : A) → put x None a q ≡ Some v → a q ≡ Some v
  within_put a q v h = by (same_path q x) h
    where
      by : (t : Bool) → (if t then None else a q) ≡ Some v → a q ≡ Some v
      by true g = cc
      by false g = g

  tie_after : (q : Path) (port : Ptr) (peer : Peer) →
      tie_at after q ≡ Some (Joins port peer) → (tie_at w q ≡ Some (Joins port peer)) × (leads_to x port ≡ false)
  tie_after q port peer h = by (same_path q x) h
    where
      by : (t : Bool) → body_tie (if t then None else option_map (through (death_sweep x) q) (w.body q)) ≡ Some (Joins port peer) →
          (tie_at w q ≡ Some (Joins port peer)) × (leads_to x port ≡ false)
      by true g = cc
      by false g = tie-killed x q (w.body q) port peer g

  claim_after : IsWithin (claim_at after) (claim_at w)
  claim_after q tie h = by (same_path q x) h
    where
      by : (t : Bool) → body_claim (if t then None else option_map (through (death_sweep x) q) (w.body q)) ≡ Some tie → claim_at w q ≡ Some tie
      by true g = cc
      by false g = claim-killed x q (w.body q) tie g

  tie_within : IsWithin (tie_at after) (tie_at w)
  tie_within q (Joins port peer) h = (tie_after q port peer h).0

  still_served : IsServedAll (is_served_port after) (tie_at after)
  still_served q port h = let kept = tie_after q port Service h in by port kept.1 ((facts w valid).tied.served_all q port kept.0)
    where
      by : (p : Ptr) → leads_to x p ≡ false → is_served_port w p ≡ true → is_served_port after p ≡ true
      by (At y) e g = served_after y e g
      by p e g = g

  parents_after : (j : ℕ) (y : Path) → IsSome (put x None (kind_there w) (j ∷ y)) → put x None (kind_there w) y ≡ Some kinds.Space
  parents_after j y h = by (same_path (j ∷ y) x) (same_path y x) refl h
    where
      by : (t r : Bool) → same_path y x ≡ r → IsSome (if t then None else kind_there w (j ∷ y)) → (if r then None else kind_there w y) ≡ Some kinds.Space
      by true r e g = cc
      by false false e g = (facts w valid).parents j y g
      by false true e g = let here = same_path_eq y x e in let none : w.body (j ∷ y) ≡ None = rw here (alone.empty j) in
          let some : is_some (w.body (j ∷ y)) ≡ true = rw (live-kind w (j ∷ y)) at g in let off : false ≡ true = rw none at some in cc

  good_after : (q : Path) (t : Bool) →
      all_in (is_good (put x None (kind_there w)) q) (if t then None else option_map (through (death_sweep x) q) (w.body q)) ≡ true
  good_after q true = refl
  good_after q false = by (w.body q) (valid.good q)
    where
      by : (o : Option Body) →
          all_in (is_good (kind_there w) q) o ≡ true → all_in (is_good (put x None (kind_there w)) q) (option_map (through (death_sweep x) q) o) ≡ true
      by None h = refl
      by (Some b) h = good-killed x (kind_there w) q b h

  valid-after : IsConsistent after
  valid-after =
      valid-from after (same_facts (put x None (kind_there w)) (kind_there after) (put x None (birth_at w))
      (birth_at after) (is_served_port after) (is_served_port after) (tie_at after) (tie_at after) (claim_at after) (claim_at after)
      (sym kinds_after) (sym births_after) refl refl refl new)
      (λ q. subst (λ (there : Path → Option Kind). all_in (is_good there q) (after.body q) ≡ true) (sym kinds_after) (good_after q (same_path q x)))
    where
      new : AreFacts (put x None (kind_there w)) (put x None (birth_at w)) w.next (is_served_port after) (tie_at after) (claim_at after)
      new = record {
        parents = parents_after;
        apart = λ y z number h g. valid.apart y z number (within_put (birth_at w) y number h) (within_put (birth_at w) z number g);
        born = λ y number h. valid.born y number (within_put (birth_at w) y number h);
        tied = tied_within (is_served_port w)
            (is_served_port after) (tie_at w) (claim_at w) (tie_at after) (claim_at after) tie_within claim_after still_served (facts w valid).tied;
      }

pub valid-kill : (w : World) (x : Path) → IsAlone w x → IsConsistent w → IsConsistent (apply (Kill x) w)
unfolding apply
valid-kill w x alone valid = valid-after w x alone valid
