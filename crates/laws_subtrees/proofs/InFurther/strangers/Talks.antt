-- Whom a stranger meets in talks and faults: everybody is outside.
use Rattle.std.proofs.Common.{◌≡◌, ◌⊎◌, inl, inr, ℕ, Bool, true, false, if◌then◌else◌, ◌&&◌, ◌||◌, is_some, List, [], ◌∷◌, ◌++◌, Option, Some, None, option_map}
use Rattle.std.proofs.Common.{Result, Ok, Err, refl, ap, ◌∙◌, append-nil}
use Rattle.std.specs.List.{list_any, flat_map}
use Rattle.std.proofs.lemmas.Bool.{and_parts}
use Rattle.std.proofs.lemmas.List.Folds.{list_any-append}
use Rattle.fk_model.specs.declared.names.Kind.{Kind}
use Rattle.fk_model.specs.declared.names.Kind.TheVariants as kinds
use Rattle.fk_model.specs.declared.stage.Stage.{Stage}
use Rattle.fk_model.specs.declared.stage.Stage.TheVariants.{Connect}
use Rattle.fk_model.specs.declared.statuses.status.TheConstants.{WRONGKIND}
use Rattle.fk_model.specs.declared.thread.Turn.{Turn}
use Rattle.fk_model.specs.declared.thread.Turn.TheVariants as turns
use Rattle.fk_model.specs.Places.{Path, same_path, is_within, parent, slot_of, Ptr, leads_to}
use Rattle.fk_model.specs.Places.Ptr.{Null, Dead, At, Out, Outside, Far}
use Rattle.fk_model.specs.Objects.{Peer, Talk, Fault, Thread, Body, same_kind, thread_of, and_then, or_else, holds}
use Rattle.fk_model.specs.Objects.Peer.{Server, Service, Parked}
use Rattle.fk_model.specs.Objects.Body.{Mutex, Cond, Mapping, Region, Port, Portset, Space, Thread_of, Reference}
use Rattle.fk_model.specs.World.{World, serves}
use Rattle.fk_model.specs.Searches.{objects, thread_at, talk_at, client_of, faulter_of, clients_at, client_at, is_service, pointers, option_list, talk_pointers}
use Rattle.fk_model.specs.Searches.{fault_pointers, peer_pointer}
use Rattle.fk_model.specs.Talks.{Line, line, line_from, thread_led_to, talking_end, served_end, ends_beyond, if_talking, is_talking, first_stage}
use Rattle.fk_model.specs.ObjectRows.{ends_in, ends_on, ends_of_client, ends_with}
use Rattle.fk_model.specs.LinkRows.{Candidate, user_at, if_read, port_named, connecting_to, slot_in_set, is_member, is_open, is_parked, faulting, connecting}
use Rattle.fk_model.specs.LinkRows.{resuming, candidate_by, candidate}
use Rattle.fk_model.specs.LinkRows.Candidate.{Faulting, Connecting, Resuming}
use Rattle.fk_model.specs.NativeRows.{connects_here, parked_here}
use Rattle.fk_model.specs.Holds.{is_free, is_unheld}
use Rattle.fk_model.specs.Readers.{and_read, slot_for, kind_at, is_kind, led_to, handled, handle}
use Rattle.fk_model.specs.Freezing.{body_pointers}
use Rattle.fk_model.specs.Valid.{IsConsistent}
use Rattle.fk_model.specs.Cut.{is_inner_peer, is_served_by, IsPlain}
use Rattle.fk_model.proofs.walks.Members.{find_some, of_filter, IsIn}
use Rattle.fk_model.proofs.walks.PlaceLaws.{same_path_eq, same_path_refl, leads_to_at}
use Rattle.laws_subtrees.proofs.InFurther.strangers.Places.{off_from, of_within, IsAway, IsAwayObject, away_object, object_out, within-append}
use Rattle.laws_subtrees.proofs.InFurther.strangers.Leads.{inside_unled}

on_first : (a b : Bool) → a ≡ true → (a || b) ≡ true
on_first a b h = rw h refl

leads_at : (p : Ptr) (y : Path) → p ≡ At y → leads_to y p ≡ true
leads_at p y e = rw e (same_path_refl y)

on_second : (a b : Bool) → b ≡ true → (a || b) ≡ true
on_second true b h = refl
on_second false b h = h

module _ (w : World) (nester : Path) (slot : ℕ) (valid : IsConsistent w) (plain : IsPlain w nester slot) where
  abbrev root : Path
  root = slot ∷ nester

  -- ---- an object that is away is led to by nothing that is a thread inside

  -- the root is no thread
  root_none : (t : Thread) → and_then thread_of (w.body root) ≡ Some t → ⊥
  root_none t h = let body = plain.root in let gone : None ≡ Some t = rw body at h in cc

  -- a thread that leads to an object that is away is outside
  pub leads_out : (z y : Path) (t : Thread) → thread_at w z ≡ Some t → IsAwayObject nester slot y → list_any (leads_to y) (pointers (Thread_of t)) ≡ true →
      is_within root z ≡ false
  leads_out z y t there away led = off_from _ (λ inside. let q = of_within root z inside in
      by q.0 (let here : thread_at w (q.0 ++ root) ≡ Some t = rw q.1 at there in here))
    where
      body : (o : Option Body) → and_then thread_of o ≡ Some t → list_any (leads_to y) (body_pointers o) ≡ true
      body (Some (Thread_of u)) h = let same : u ≡ t = cc in rw same led
      body (Some (Mutex locked)) h = cc
      body (Some Cond) h = cc
      body (Some (Mapping m)) h = cc
      body (Some (Region r)) h = cc
      body (Some (Port set served)) h = cc
      body (Some Portset) h = cc
      body (Some (Space birth holder)) h = cc
      body (Some (Reference to)) h = cc
      body None h = cc

      by : (q : Path) → thread_at w (q ++ root) ≡ Some t → ⊥
      by [] here = root_none t here
      by (k ∷ q) here = let on = body (w.body (k ∷ (q ++ root))) here in let off = inside_unled w nester slot valid plain k q y away in cc

  -- ---- the parts of a thread that lead to it

  talk_part : (y : Path) (t : Thread) (talk : Talk) → t.talk ≡ Some talk → list_any (leads_to y) (talk_pointers talk) ≡ true →
      list_any (leads_to y) (pointers (Thread_of t)) ≡ true
  talk_part y t talk e h = list_any-append (leads_to y) (option_list talk_pointers t.talk) (option_list fault_pointers t.fault)
      ∙ on_first (list_any (leads_to y) (option_list talk_pointers t.talk)) (list_any (leads_to y) (option_list fault_pointers t.fault)) (rw e h)

  fault_part : (y : Path) (t : Thread) (fault : Fault) → t.fault ≡ Some fault → list_any (leads_to y) (fault_pointers fault) ≡ true →
      list_any (leads_to y) (pointers (Thread_of t)) ≡ true
  fault_part y t fault e h = list_any-append (leads_to y) (option_list talk_pointers t.talk) (option_list fault_pointers t.fault)
      ∙ on_second (list_any (leads_to y) (option_list talk_pointers t.talk)) (list_any (leads_to y) (option_list fault_pointers t.fault)) (rw e h)

  peer_part : (y : Path) (peer : Peer) → serves y peer ≡ true → list_any (leads_to y) (peer_pointer peer) ≡ true
  peer_part y (Server p) h = on_first _ _ h
  peer_part y Service h = cc
  peer_part y Parked h = cc

  -- ---- clients and faulters

  at_talk : (z : Path) (o : Option Thread) → thread_at w z ≡ o → (test : Talk → Bool) → holds test (and_then (λ (t : Thread). t.talk) o) ≡ true →
      (t : Thread) × (talk : Talk) × (thread_at w z ≡ Some t) × (t.talk ≡ Some talk) × (test talk ≡ true)
  at_talk z None e test h = cc
  at_talk z (Some t) e test h = by t.talk refl h
    where
      by : (o : Option Talk) → t.talk ≡ o → holds test o ≡ true →
          (t : Thread) × (talk : Talk) × (thread_at w z ≡ Some t) × (t.talk ≡ Some talk) × (test talk ≡ true)
      by None is h = cc
      by (Some talk) is h = (t, talk, e, is, h)

  at_fault : (z : Path) (o : Option Thread) → thread_at w z ≡ o → (test : Fault → Bool) → holds test (and_then (λ (t : Thread). t.fault) o) ≡ true →
      (t : Thread) × (fault : Fault) × (thread_at w z ≡ Some t) × (t.fault ≡ Some fault) × (test fault ≡ true)
  at_fault z None e test h = cc
  at_fault z (Some t) e test h = by t.fault refl h
    where
      by : (o : Option Fault) → t.fault ≡ o → holds test o ≡ true →
          (t : Thread) × (fault : Fault) × (thread_at w z ≡ Some t) × (t.fault ≡ Some fault) × (test fault ≡ true)
      by None is h = cc
      by (Some fault) is h = (t, fault, e, is, h)

  pub client-out : (y z : Path) → IsAwayObject nester slot y → client_of w y ≡ Some z → is_within root z ≡ false
  unfolding client_of
  client-out y z away found =
      let at = at_talk z (thread_at w z) refl (λ (talk : Talk). serves y talk.peer) (find_some _ z (objects w) found).1 in
      leads_out z y at.0 at.2 away (talk_part y at.0 at.1 at.3 (on_second (leads_to y at.1.port) _ (peer_part y at.1.peer at.4)))

  taker_part : (y : Path) (o : Option Peer) → holds (serves y) o ≡ true → list_any (leads_to y) (option_list peer_pointer o) ≡ true
  taker_part y None h = cc
  taker_part y (Some peer) h = peer_part y peer h

  pub faulter-out : (y z : Path) → IsAwayObject nester slot y → faulter_of w y ≡ Some z → is_within root z ≡ false
  unfolding faulter_of
  faulter-out y z away found =
      let at = at_fault z (thread_at w z) refl (λ (fault : Fault). holds (serves y) fault.taker) (find_some _ z (objects w) found).1 in
      leads_out z y at.0 at.2 away (fault_part y at.0 at.1 at.3 (on_second (leads_to y at.1.port) _ (taker_part y at.1.taker at.4)))

  pub client-at-out : (y z : Path) → IsAwayObject nester slot y → IsIn z (clients_at w y) → is_within root z ≡ false
  unfolding clients_at
  client-at-out y z away found =
      let at = at_talk z (thread_at w z) refl (λ (talk : Talk). leads_to y talk.port) (of_filter _ z (objects w) found).1 in
      leads_out z y at.0 at.2 away (talk_part y at.0 at.1 at.3 (on_first _ _ at.4))

  -- ---- the peers of whoever is outside

  pub peer-out : (z : Path) (talk : Talk) → is_within root z ≡ false → talk_at w z ≡ Some talk → is_inner_peer root talk.peer ≡ false
  peer-out z talk out there = off_from _ (λ inner. by (w.body z) there inner (plain.served_inside z out))
    where
      by : (o : Option Body) → and_then (λ (t : Thread). t.talk) (and_then thread_of o) ≡ Some talk → is_inner_peer root talk.peer ≡ true →
          is_served_by root o ≡ false → ⊥
      by (Some (Thread_of t)) h inner none = let on : is_served_by root (Some (Thread_of t)) ≡ true =
          on_first (holds (λ (talk : Talk). is_inner_peer root talk.peer) t.talk) (holds (λ (fault : Fault). holds (is_inner_peer root) fault.taker) t.fault)
          (rw h inner) in cc
      by (Some (Mutex locked)) h inner none = cc
      by (Some Cond) h inner none = cc
      by (Some (Mapping m)) h inner none = cc
      by (Some (Region r)) h inner none = cc
      by (Some (Port set served)) h inner none = cc
      by (Some Portset) h inner none = cc
      by (Some (Space birth holder)) h inner none = cc
      by (Some (Reference to)) h inner none = cc
      by None h inner none = cc

  -- the thread to which a pointer leads that is no pointer inside
  pub led-out : (p : Ptr) (e : Path × Thread) → is_inner_peer root (Server p) ≡ false → thread_led_to w p ≡ Some e → is_within root e.0 ≡ false
  led-out (At y) e out found = by (and_then thread_of (w.body y)) found
    where
      by : (o : Option Thread) → and_then (λ t. Some (y, t)) o ≡ Some e → is_within root e.0 ≡ false
      by (Some t) h = let same : (y, t) ≡ e = cc in rw (← ap (λ (e : Path × Thread). e.0) same) out
      by None h = cc
  led-out Null e out found = cc
  led-out Dead e out found = cc
  led-out (Out i) e out found = cc
  led-out Outside e out found = cc
  led-out Far e out found = cc

  -- ---- whose calls end

  abbrev pub AllOut : List Path → Type 0
  AllOut [] = Unit {0}
  AllOut (x ∷ xs) = (is_within root x ≡ false) × AllOut xs

  pub all-then : (xs ys : List Path) → AllOut xs → AllOut ys → AllOut (xs ++ ys)
  all-then [] ys out more = more
  all-then (x ∷ xs) ys out more = (out.0, all-then xs ys out.1 more)

  talking-out : (side : Turn) (p : Ptr) → is_inner_peer root (Server p) ≡ false → AllOut (talking_end w side p)
  talking-out side p out = by (thread_led_to w p) refl
    where
      test : (t : Bool) (x : Path) → is_within root x ≡ false → AllOut (if t then x ∷ [] else [])
      test true x out = (out, tt)
      test false x out = tt

      by : (o : Option (Path × Thread)) → thread_led_to w p ≡ o → AllOut (if_talking side o)
      by None e = tt
      by (Some e) is = test (is_talking side e.1.mode) e.0 (led-out p e out is)

  served-out : (peer : Peer) → is_inner_peer root peer ≡ false → AllOut (served_end w peer)
  served-out (Server p) out = talking-out turns.Server p out
  served-out Service out = tt
  served-out Parked out = tt

  -- the talk in which who is away acts, on either side
  pub record IsOutLine (l : Line) : Type 0 where
    pub client : is_within root l.client ≡ false
    pub other : is_inner_peer root l.other ≡ false

  line_from-out : (z : Path) (other : Talk → Peer) (o : Option Talk) (l : Line) → line_from z other o ≡ Some l → is_within root z ≡ false →
      ((talk : Talk) → o ≡ Some talk → is_inner_peer root (other talk) ≡ false) → IsOutLine l
  line_from-out z other None l h out peers = cc
  line_from-out z other (Some talk) l h out peers =
      let same : record { client = z; talk = talk; other = other talk } ≡ l = cc in
      record { client = rw (← ap (λ (l : Line). l.client) same) out; other = rw (← ap (λ (l : Line). l.other) same) (peers talk refl) }

  pub line-out : (y : Path) (side : Turn) (l : Line) → IsAwayObject nester slot y → is_within root y ≡ false → line w y side ≡ Some l → IsOutLine l
  unfolding line
  line-out y turns.Client l away out found = line_from-out y (λ talk. talk.peer) (talk_at w y) l found out (λ talk there. peer-out y talk out there)
  line-out y turns.Server l away out found = by (client_of w y) refl found
    where
      by : (o : Option Path) → client_of w y ≡ o → and_then (λ client. line_from client (λ talk. Server (At client)) (talk_at w client)) o ≡ Some l →
          IsOutLine l
      by None e h = cc
      by (Some z) e h = let clear = client-out y z away e in line_from-out z (λ talk. Server (At z)) (talk_at w z) l h clear (λ talk there. clear)

  pub beyond-out : (side : Turn) (l : Line) → IsOutLine l → AllOut (ends_beyond w side l)
  beyond-out turns.Client l out = served-out l.other out.other
  beyond-out turns.Server l out = talking-out turns.Client (At l.client) out.client

  line_ends-out : (side : Turn) (o : Option Line) → ((l : Line) → o ≡ Some l → IsOutLine l) → AllOut (ends_in w side o)
  line_ends-out side None out = tt
  line_ends-out side (Some l) out = beyond-out side l (out l refl)

  -- of a client outside, both ends
  client_ends-out : (z : Path) → is_within root z ≡ false → AllOut (ends_of_client w z)
  unfolding line
  client_ends-out z out = all-then (talking_end w turns.Client (At z)) (ends_on w z turns.Client) (talking-out turns.Client (At z) out)
      (line_ends-out turns.Client (line w z turns.Client) (λ l found. line_from-out z (λ talk. talk.peer) (talk_at w z) l found out
      (λ talk there. peer-out z talk out there)))

  clients_ends-out : (zs : List Path) → ((z : Path) → IsIn z zs → is_within root z ≡ false) → AllOut (flat_map (ends_of_client w) zs)
  clients_ends-out [] out = tt
  clients_ends-out (z ∷ zs) out = all-then (ends_of_client w z) (flat_map (ends_of_client w) zs) (client_ends-out z (out z (inl refl)))
      (clients_ends-out zs (λ y is. out y (inr is)))

  -- whose calls end with an object that is away
  pub death_ends-out : (y : Path) → IsAwayObject nester slot y → is_within root y ≡ false → (o : Option Body) → AllOut (ends_with w y o)
  death_ends-out y away out (Some (Thread_of t)) = all-then (ends_on w y turns.Client) (ends_on w y turns.Server)
      (line_ends-out turns.Client (line w y turns.Client) (λ l found. line-out y turns.Client l away out found))
      (line_ends-out turns.Server (line w y turns.Server) (λ l found. line-out y turns.Server l away out found))
  death_ends-out y away out (Some (Port set served)) = clients_ends-out (clients_at w y) (λ z is. client-at-out y z away is)
  death_ends-out y away out (Some (Mutex locked)) = tt
  death_ends-out y away out (Some b) = tt
  death_ends-out y away out None = tt

  -- ---- who is picked at a wait

  -- a port of the space is away
  port-away : (s : Path) (set : ℕ) (p : Ptr) (k : ℕ) → IsAway nester slot s → slot_in_set w s set p ≡ Some k →
      (y : Path) × (p ≡ At y) × IsAwayObject nester slot y
  port-away s set (At y) k away h = by (same_path (parent y) s) refl h
    where
      object : (y : Path) → parent y ≡ s → IsAwayObject nester slot y
      object [] e =
          let top : is_within [] root ≡ true = rw (append-nil root) at (within-append [] root) in
          let on : is_within s root ≡ true = rw (← e) top in
          let off = away.below in cc
      object (j ∷ u) e = rw e (away_object nester slot j s away)

      by : (b : Bool) → same_path (parent y) s ≡ b → (if b && is_member set (w.body y) then Some (slot_of y) else None) ≡ Some k →
          (z : Path) × (At y ≡ At z) × IsAwayObject nester slot z
      by true e h = (y, refl, object y (same_path_eq (parent y) s e))
      by false e h = cc
  port-away s set Null k away h = cc
  port-away s set Dead k away h = cc
  port-away s set (Out i) k away h = cc
  port-away s set Outside k away h = cc
  port-away s set Far k away h = cc

  -- a handle of a thread inside leads to no object that is away
  led_same : (wanted : Kind) (p r : Ptr) → led_to w wanted p ≡ Ok r → r ≡ p
  led_same wanted Null r h = cc
  led_same wanted Dead r h = cc
  led_same wanted (At x) r h = by (is_kind wanted (kind_at w (At x))) h
    where
      by : (t : Bool) → (if t then Ok (At x) else Err WRONGKIND) ≡ Ok r → r ≡ At x
      by true h = cc
      by false h = cc
  led_same wanted (Out i) r h = by (is_kind wanted (kind_at w (Out i))) h
    where
      by : (t : Bool) → (if t then Ok (Out i) else Err WRONGKIND) ≡ Ok r → r ≡ Out i
      by true h = cc
      by false h = cc
  led_same wanted Outside r h = cc
  led_same wanted Far r h = cc

  own-handle : (k : ℕ) (s y : Path) (t : Bool) → (if t then Ok (At (k ∷ s)) else Err WRONGKIND) ≡ Ok (At y) → y ≡ k ∷ s
  own-handle k s y true h = cc
  own-handle k s y false h = cc

  inside_out : (y : Path) → IsAwayObject nester slot y → is_within root y ≡ true → ⊥
  inside_out y away inside = let out = object_out nester slot y away in cc

  handled-out : (k : ℕ) (q y : Path) → IsAwayObject nester slot y → handled w kinds.Port (k ∷ (q ++ root)) (w.body (k ∷ (q ++ root))) ≡ Ok (At y) → ⊥
  handled-out k q y away h = by (w.body (k ∷ (q ++ root))) refl h
    where
      own : (t : Bool) → (if t then Ok (At (k ∷ (q ++ root))) else Err WRONGKIND) ≡ Ok (At y) → ⊥
      own t h = let same = own-handle k (q ++ root) y t h in inside_out y away (rw same (within-append root (k ∷ q)))

      reference : (to : Ptr) → w.body (k ∷ (q ++ root)) ≡ Some (Reference to) → led_to w kinds.Port to ≡ Ok (At y) → ⊥
      reference to e h =
          let same = led_same kinds.Port to (At y) h in
          let on : list_any (leads_to y) (body_pointers (w.body (k ∷ (q ++ root)))) ≡ true = rw (e, ← same, same_path_refl y) refl in
          let off = inside_unled w nester slot valid plain k q y away in
          cc

      by : (o : Option Body) → w.body (k ∷ (q ++ root)) ≡ o → handled w kinds.Port (k ∷ (q ++ root)) o ≡ Ok (At y) → ⊥
      by None e h = cc
      by (Some (Reference to)) e h = reference to e h
      by (Some (Mutex locked)) e h = own (same_kind kinds.Port kinds.Mutex) h
      by (Some Cond) e h = own (same_kind kinds.Port kinds.Cond) h
      by (Some (Mapping m)) e h = own (same_kind kinds.Port kinds.Mapping) h
      by (Some (Region r)) e h = own (same_kind kinds.Port kinds.Region) h
      by (Some (Port set served)) e h = own (same_kind kinds.Port kinds.Port) h
      by (Some Portset) e h = own (same_kind kinds.Port kinds.Portset) h
      by (Some (Space birth holder)) e h = own (same_kind kinds.Port kinds.Space) h
      by (Some (Thread_of t)) e h = own (same_kind kinds.Port kinds.Thread) h

  -- where somebody inside is at its Connect
  named-out : (k : ℕ) (q : Path) (stage : Stage) (y : Path) → IsAwayObject nester slot y → port_named w (k ∷ (q ++ root)) stage ≡ Some (At y) → ⊥
  unfolding handle
  named-out k q (Connect h) y away named = by (slot_for (user_at (k ∷ (q ++ root))) h) named
    where
      ok : (r : Result Ptr ℕ) → if_read r ≡ Some (At y) → r ≡ Ok (At y)
      ok (Ok p) h = ap Ok (same p h)
        where
          same : (p : Ptr) → Some p ≡ Some (At y) → p ≡ At y
          same p h = cc
      ok (Err status) h = cc

      by : (r : Result ℕ ℕ) → if_read (and_read r (λ h. handled w kinds.Port (h ∷ (q ++ root)) (w.body (h ∷ (q ++ root))))) ≡ Some (At y) → ⊥
      by (Ok j) h = handled-out j q y away (ok _ h)
      by (Err status) h = cc
  named-out k q stage y away named = cc

  pub connecting-out : (k : ℕ) (q : Path) (t : Thread) (y : Path) → IsAwayObject nester slot y → connecting_to w (k ∷ (q ++ root)) t ≡ Some (At y) → ⊥
  connecting-out k q t y away named = by (is_some t.talk) (first_stage t.mode) named
    where
      by : (b : Bool) (o : Option Stage) → (if b then None else and_then (port_named w (k ∷ (q ++ root))) o) ≡ Some (At y) → ⊥
      by true o h = cc
      by false (Some stage) h = named-out k q stage y away h
      by false None h = cc

  -- ---- whom a native server whose port is away meets

  pub guest_of-out : (y z : Path) → IsAwayObject nester slot y → client_at w y ≡ Some z → is_within root z ≡ false
  unfolding client_at
  guest_of-out y z away found =
      let at = at_talk z (thread_at w z) refl (λ (talk : Talk). leads_to y talk.port && is_service talk.peer) (find_some _ z (objects w) found).1 in
      leads_out z y at.0 at.2 away (talk_part y at.0 at.1 at.3 (on_first _ _ (and_parts (leads_to y at.1.port) (is_service at.1.peer) at.4).0))

  -- who is at its Connect there
  pub joiner-out : (x : Path) (t : Thread) (y : Path) → IsAwayObject nester slot y → thread_at w x ≡ Some t → connects_here w y x t ≡ true →
      is_within root x ≡ false
  joiner-out x t y away there h = off_from _ (λ inside. let q = of_within root x inside in by q.0 (rw q.1 at there) (rw q.1 at h))
    where
      at : (k : ℕ) (q : Path) (o : Option Ptr) → connecting_to w (k ∷ (q ++ root)) t ≡ o → holds (leads_to y) o ≡ true → ⊥
      at k q (Some p) e h = connecting-out k q t y away (e ∙ ap Some (leads_to_at y p h))
      at k q None e h = cc

      by : (q : Path) → thread_at w (q ++ root) ≡ Some t → connects_here w y (q ++ root) t ≡ true → ⊥
      by [] there h = root_none t there
      by (k ∷ q) there h = at k q (connecting_to w (k ∷ (q ++ root)) t) refl h

  -- and who has a talk there that waits
  pub waiter-out : (x : Path) (t : Thread) (y : Path) (talk : Talk) → IsAwayObject nester slot y → thread_at w x ≡ Some t → parked_here y t ≡ Some talk →
      is_within root x ≡ false
  waiter-out x t y talk away there h = by t.talk refl h
    where
      test : (found : Talk) → t.talk ≡ Some found → (b : Bool) → (leads_to y found.port && is_parked (Some found.peer)) ≡ b →
          (if b then Some found else None) ≡ Some talk → is_within root x ≡ false
      test found e true is h = leads_out x y t there away
          (talk_part y t found e (on_first _ _ (and_parts (leads_to y found.port) (is_parked (Some found.peer)) is).0))
      test found e false is h = cc

      by : (o : Option Talk) → t.talk ≡ o →
          and_then (λ (talk : Talk). if leads_to y talk.port && is_parked (Some talk.peer) then Some talk else None) o ≡ Some talk → is_within root x ≡ false
      by (Some found) e h = test found e (leads_to y found.port && is_parked (Some found.peer)) refl h
      by None e h = cc

  -- who is a candidate for a wait in a space that is away is outside
  module _ (s : Path) (set : ℕ) (away : IsAway nester slot s) where
    fault_led : (t : Thread) (d : Candidate) → faulting w s set t ≡ Some d →
        (y : Path) × IsAwayObject nester slot y × (list_any (leads_to y) (pointers (Thread_of t)) ≡ true)
    fault_led t d h = by t.fault refl h
      where
        at : (fault : Fault) → t.fault ≡ Some fault → (o : Option ℕ) → slot_in_set w s set fault.port ≡ o →
            option_map (λ slot. Faulting slot fault) o ≡ Some d →
            (y : Path) × IsAwayObject nester slot y × (list_any (leads_to y) (pointers (Thread_of t)) ≡ true)
        at fault e (Some k) is h =
            let port = port-away s set fault.port k away is in (
              port.0,
              port.2,
              fault_part port.0 t fault e
                  (on_first (leads_to port.0 fault.port)
                  (list_any (leads_to port.0) (option_list peer_pointer fault.taker)) (leads_at fault.port port.0 port.1)),
            )
        at fault e None is h = cc

        test : (fault : Fault) → t.fault ≡ Some fault → (b : Bool) →
            (if b then option_map (λ slot. Faulting slot fault) (slot_in_set w s set fault.port) else None) ≡ Some d →
            (y : Path) × IsAwayObject nester slot y × (list_any (leads_to y) (pointers (Thread_of t)) ≡ true)
        test fault e true h = at fault e (slot_in_set w s set fault.port) refl h
        test fault e false h = cc

        by : (o : Option Fault) → t.fault ≡ o →
            and_then (λ (fault : Fault). if is_open fault.taker then option_map (λ slot. Faulting slot fault) (slot_in_set w s set fault.port) else None)
            o ≡ Some d →
            (y : Path) × IsAwayObject nester slot y × (list_any (leads_to y) (pointers (Thread_of t)) ≡ true)
        by (Some fault) e h = test fault e (is_open fault.taker) h
        by None e h = cc

    talk_led : (t : Thread) (d : Candidate) → resuming w s set t ≡ Some d →
        (y : Path) × IsAwayObject nester slot y × (list_any (leads_to y) (pointers (Thread_of t)) ≡ true)
    talk_led t d h = by t.talk refl h
      where
        at : (talk : Talk) → t.talk ≡ Some talk → (o : Option ℕ) → slot_in_set w s set talk.port ≡ o → option_map (λ slot. Resuming slot talk) o ≡ Some d →
            (y : Path) × IsAwayObject nester slot y × (list_any (leads_to y) (pointers (Thread_of t)) ≡ true)
        at talk e (Some k) is h =
            let port = port-away s set talk.port k away is in (
              port.0,
              port.2,
              talk_part port.0 t talk e
                  (on_first (leads_to port.0 talk.port) (list_any (leads_to port.0) (peer_pointer talk.peer)) (leads_at talk.port port.0 port.1)),
            )
        at talk e None is h = cc

        test : (talk : Talk) → t.talk ≡ Some talk → (b : Bool) →
            (if b then option_map (λ slot. Resuming slot talk) (slot_in_set w s set talk.port) else None) ≡ Some d →
            (y : Path) × IsAwayObject nester slot y × (list_any (leads_to y) (pointers (Thread_of t)) ≡ true)
        test talk e true h = at talk e (slot_in_set w s set talk.port) refl h
        test talk e false h = cc

        by : (o : Option Talk) → t.talk ≡ o →
            and_then (λ (talk : Talk). if is_parked (Some talk.peer) then option_map (λ slot. Resuming slot talk) (slot_in_set w s set talk.port) else None)
            o ≡ Some d →
            (y : Path) × IsAwayObject nester slot y × (list_any (leads_to y) (pointers (Thread_of t)) ≡ true)
        by (Some talk) e h = test talk e (is_parked (Some talk.peer)) h
        by None e h = cc

    connect_none : (k : ℕ) (q : Path) (t : Thread) (d : Candidate) → connecting w s set (k ∷ (q ++ root)) t ≡ Some d → ⊥
    connect_none k q t d h = by (connecting_to w (k ∷ (q ++ root)) t) refl h
      where
        at : (p : Ptr) → connecting_to w (k ∷ (q ++ root)) t ≡ Some p → (o : Option ℕ) → slot_in_set w s set p ≡ o → option_map Connecting o ≡ Some d → ⊥
        at p e (Some j) is h = let port = port-away s set p j away is in connecting-out k q t port.0 port.2 (e ∙ ap Some port.1)
        at p e None is h = cc

        by : (o : Option Ptr) → connecting_to w (k ∷ (q ++ root)) t ≡ o → option_map Connecting (and_then (slot_in_set w s set) o) ≡ Some d → ⊥
        by (Some p) e h = at p e (slot_in_set w s set p) refl h
        by None e h = cc

    either : (a b : Option Candidate) (d : Candidate) → or_else a b ≡ Some d → (a ≡ Some d) ⊎ (b ≡ Some d)
    either (Some e) b d h = inl h
    either None b d h = inr h

    inside_none : (k : ℕ) (q : Path) (t : Thread) (d : Candidate) → thread_at w (k ∷ (q ++ root)) ≡ Some t →
        candidate_by w s set (k ∷ (q ++ root)) t ≡ Some d → ⊥
    inside_none k q t d there h = first (either (faulting w s set t) _ d h)
      where
        led : (y : Path) × IsAwayObject nester slot y × (list_any (leads_to y) (pointers (Thread_of t)) ≡ true) → ⊥
        led its = let out = leads_out (k ∷ (q ++ root)) its.0 t there its.1 its.2 in let on = within-append root (k ∷ q) in cc

        last : (connecting w s set (k ∷ (q ++ root)) t ≡ Some d) ⊎ (resuming w s set t ≡ Some d) → ⊥
        last (inl e) = connect_none k q t d e
        last (inr e) = led (talk_led t d e)

        free : (b : Bool) → (if b then or_else (connecting w s set (k ∷ (q ++ root)) t) (resuming w s set t) else None) ≡ Some d → ⊥
        free true h = last (either (connecting w s set (k ∷ (q ++ root)) t) (resuming w s set t) d h)
        free false h = cc

        first : (faulting w s set t ≡ Some d) ⊎
            ((if is_free w (parent (k ∷ (q ++ root))) t then or_else (connecting w s set (k ∷ (q ++ root)) t) (resuming w s set t) else None) ≡ Some d) → ⊥
        first (inl e) = led (fault_led t d e)
        first (inr e) = free (is_free w (q ++ root) t) e

    pub candidate-out : (x : Path) (d : Candidate) → candidate w s set x ≡ Some d → is_within root x ≡ false
    unfolding candidate
    candidate-out x d h = off_from _ (λ inside. let q = of_within root x inside in by q.0 (is_unheld w (parent x)) (and_then thread_of (w.body x)) refl q.1 h)
      where
        at : (q : Path) (t : Thread) → thread_at w (q ++ root) ≡ Some t → candidate_by w s set (q ++ root) t ≡ Some d → ⊥
        at [] t there h = root_none t there
        at (k ∷ q) t there h = inside_none k q t d there h

        by : (q : Path) (b : Bool) (o : Option Thread) → and_then thread_of (w.body x) ≡ o → x ≡ q ++ root →
            (if b then and_then (candidate_by w s set x) o else None) ≡ Some d → ⊥
        by q true (Some t) e is h = at q t (rw is at e) (rw is at h)
        by q true None e is h = cc
        by q false o e is h = cc
