-- Readers of objects read the same in a filled world, but for the faults of threads.
use Rattle.std.proofs.Common.{◌≡◌, ℕ, zero, suc, Bool, true, false, cond, ◌&&◌, ◌==◌, nat_le, is_some, if◌then◌else◌, [], ◌∷◌, filter, flat_map, Option, Some}
use Rattle.std.proofs.Common.{None, option_map, Ok, Err, refl, ap}
use Rattle.std.specs.Prelude.{find}
use Rattle.fk_model.specs.declared.limits.TheConstants.{LAST_USER_SLOT, OWN_SPACE, SLOTS}
use Rattle.fk_model.specs.declared.names.Kind.{Kind}
use Rattle.fk_model.specs.declared.names.Kind.TheVariants as kinds
use Rattle.fk_model.specs.declared.stage.Stage.{Stage}
use Rattle.fk_model.specs.declared.stage.Stage.TheVariants.{Connect}
use Rattle.fk_model.specs.declared.statuses.status.TheConstants.{WRONGKIND}
use Rattle.fk_model.specs.declared.thread.Turn.{Turn}
use Rattle.fk_model.specs.declared.thread.Turn.TheVariants as turns
use Rattle.fk_model.specs.Places.{Path, same_path, parent, slot_of, Ptr, leads_to}
use Rattle.fk_model.specs.Places.Ptr.{At}
use Rattle.fk_model.specs.Objects.{Mode, Peer, Talk, Thread, Body, kind_of, number_of_kind, mutex_of, port_of, space_of, thread_of, reference_of, and_then}
use Rattle.fk_model.specs.Objects.{holds}
use Rattle.fk_model.specs.Objects.Peer.{Server, Service, Parked}
use Rattle.fk_model.specs.Objects.Body.{Thread_of, Reference}
use Rattle.fk_model.specs.World.{World, serves}
use Rattle.fk_model.specs.Searches.{lowest, slots, residents, beneath_by, beneath, depth, objects, thread_at, talk_at, fault_at, client_of, is_service}
use Rattle.fk_model.specs.Searches.{client_at}
use Rattle.fk_model.specs.Outcomes.{Caller, or_refuse}
use Rattle.fk_model.specs.Readers.{and_read, slot_for, seen_as, object_in, kind_at, is_kind, led_to, handled, handle, path_at, space_argument}
use Rattle.fk_model.specs.Talks.{Line, line_from, line, first_stage, receive_on, awaited, is_handled, receiving, path_to, if_talking, talking_end, served_end}
use Rattle.fk_model.specs.Talks.{ends_beyond}
use Rattle.fk_model.specs.SyncRows.{cond_of, asleep_on, woken, sleepers}
use Rattle.fk_model.specs.LinkRows.{if_read, user_at, port_named, connecting_to, is_member, slot_in_set, portset_of}
use Rattle.fk_model.specs.NativeRows.{awaited_at}
use Rattle.fk_model.specs.ObjectRows.{taken_from, pointer_to, pointer_in, kind_number}
use Rattle.laws_filled.specs.Filled.{Paging, kept_fault, unfaulted, filled}

module _ (p : Paging) where
  -- it sees nothing of faults
  pub record IsBlind {A : Type 0} (view : Body → Option A) : Type 0 where
    pub same : (b : Body) → view (unfaulted p b) ≡ view b

  pub blind-reference : IsBlind reference_of
  blind-reference = record { same = by }
    where
      by : (b : Body) → reference_of (unfaulted p b) ≡ reference_of b
      by (Thread_of t) = refl
      by b = refl

  pub blind-mutex : IsBlind mutex_of
  blind-mutex = record { same = by }
    where
      by : (b : Body) → mutex_of (unfaulted p b) ≡ mutex_of b
      by (Thread_of t) = refl
      by b = refl

  pub blind-cond : IsBlind cond_of
  blind-cond = record { same = by }
    where
      by : (b : Body) → cond_of (unfaulted p b) ≡ cond_of b
      by (Thread_of t) = refl
      by b = refl

  pub blind-portset : IsBlind portset_of
  blind-portset = record { same = by }
    where
      by : (b : Body) → portset_of (unfaulted p b) ≡ portset_of b
      by (Thread_of t) = refl
      by b = refl

  pub blind-space : IsBlind space_of
  blind-space = record { same = by }
    where
      by : (b : Body) → space_of (unfaulted p b) ≡ space_of b
      by (Thread_of t) = refl
      by b = refl

  pub blind-port : IsBlind port_of
  blind-port = record { same = by }
    where
      by : (b : Body) → port_of (unfaulted p b) ≡ port_of b
      by (Thread_of t) = refl
      by b = refl

  pub kind-same : (b : Body) → kind_of (unfaulted p b) ≡ kind_of b
  kind-same (Thread_of t) = refl
  kind-same b = refl

  pub blind-pointer : (x : Path) → IsBlind (pointer_to x)
  blind-pointer x = record { same = by }
    where
      by : (b : Body) → pointer_to x (unfaulted p b) ≡ pointer_to x b
      by (Thread_of t) = refl
      by b = refl

  pub view-same : {A : Type 0} (view : Body → Option A) → IsBlind view → (o : Option Body) → and_then view (option_map (unfaulted p) o) ≡ and_then view o
  view-same view blind None = refl
  view-same view blind (Some b) = blind.same b

  there-same : (o : Option Body) → is_some (option_map (unfaulted p) o) ≡ is_some o
  there-same None = refl
  there-same (Some b) = refl

  module _ (w : World) where
    seen_as-same : {A : Type 0} (view : Body → Option A) → IsBlind view → (o : Option Body) → seen_as view (option_map (unfaulted p) o) ≡ seen_as view o
    seen_as-same view blind None = refl
    seen_as-same view blind (Some b) = ap (or_refuse WRONGKIND) (blind.same b)

    pub object_in-same : {A : Type 0} (c : Caller) (view : Body → Option A) (s : Path) (k : ℕ) → IsBlind view →
        object_in (filled p w) c view s k ≡ object_in w c view s k
    unfolding object_in
    object_in-same c view s k blind = λ i. and_read (slot_for c k) (λ j. seen_as-same view blind (w.body (j ∷ s)) i)

    kind_at-same : (to : Ptr) → kind_at (filled p w) to ≡ kind_at w to
    kind_at-same (At x) = by (w.body x)
      where
        by : (o : Option Body) → and_then (λ b. Some (kind_of b)) (option_map (unfaulted p) o) ≡ and_then (λ b. Some (kind_of b)) o
        by None = refl
        by (Some b) = ap Some (kind-same b)
    kind_at-same to = refl

    led_to-same : (wanted : Kind) (to : Ptr) → led_to (filled p w) wanted to ≡ led_to w wanted to
    led_to-same wanted (At x) = ap (λ o. cond (is_kind wanted o) (Ok (At x)) (Err WRONGKIND)) (kind_at-same (At x))
    led_to-same wanted to = refl

    handled-same : (wanted : Kind) (x : Path) (o : Option Body) → handled (filled p w) wanted x (option_map (unfaulted p) o) ≡ handled w wanted x o
    handled-same wanted x None = refl
    handled-same wanted x (Some (Reference to)) = led_to-same wanted to
    handled-same wanted x (Some (Thread_of t)) = refl
    handled-same wanted x (Some b) = refl

    pub handle-same : (c : Caller) (wanted : Kind) (h : ℕ) → handle (filled p w) c wanted h ≡ handle w c wanted h
    unfolding handle
    handle-same c wanted h = λ i. and_read (slot_for c h) (λ j. handled-same wanted (j ∷ c.space) (w.body (j ∷ c.space)) i)

    pub space_argument-same : (c : Caller) (s : ℕ) → space_argument (filled p w) c s ≡ space_argument w c s
    unfolding space_argument
    space_argument-same c s = ap (λ r. cond (s == OWN_SPACE) (Ok c.space) (and_read r path_at)) (handle-same c kinds.Space s)

    pub pointer_in-same : (c : Caller) (s : Path) (k : ℕ) → pointer_in (filled p w) c s k ≡ pointer_in w c s k
    pointer_in-same c s k = object_in-same c (pointer_to (k ∷ s)) s k (blind-pointer (k ∷ s))

    pub kind_number-same : (to : Ptr) → kind_number (kind_at (filled p w) to) ≡ kind_number (kind_at w to)
    kind_number-same to = ap kind_number (kind_at-same to)

    pub taken_from-same : (space : Path) (last from : ℕ) → lowest SLOTS (taken_from (filled p w) space last from) ≡ lowest SLOTS (taken_from w space last from)
    taken_from-same space last from = λ i. lowest SLOTS (λ k. by k (w.body (k ∷ space)) (nat_le from k && nat_le k last) i)
      where
        by : (k : ℕ) (o : Option Body) (t : Bool) →
            cond {A = Option (ℕ × ℕ)} t (option_map {U = ℕ × ℕ} (λ b. (k, number_of_kind (kind_of b))) (option_map (unfaulted p) o)) None
            ≡ cond {A = Option (ℕ × ℕ)} t (option_map {U = ℕ × ℕ} (λ b. (k, number_of_kind (kind_of b))) o) None
        by k o false = refl
        by k None true = refl
        by k (Some b) true = ap (λ kind. Some (k, number_of_kind kind)) (kind-same b)

    -- ---- threads

    pub thread-same : (y : Path) → thread_at (filled p w) y ≡ option_map (λ (t : Thread). record t { fault = and_then (kept_fault p) t.fault }) (thread_at w y)
    thread-same y = by (w.body y)
      where
        by : (o : Option Body) →
            and_then thread_of (option_map (unfaulted p) o)
            ≡ option_map (λ (t : Thread). record t { fault = and_then (kept_fault p) t.fault }) (and_then thread_of o)
        by None = refl
        by (Some (Thread_of t)) = refl
        by (Some b) = refl

    pub talk-same : (y : Path) → talk_at (filled p w) y ≡ talk_at w y
    talk-same y = by (w.body y)
      where
        by : (o : Option Body) →
            and_then (λ (t : Thread). t.talk) (and_then thread_of (option_map (unfaulted p) o)) ≡ and_then (λ (t : Thread). t.talk) (and_then thread_of o)
        by None = refl
        by (Some (Thread_of t)) = refl
        by (Some b) = refl

    pub fault-same : (y : Path) → fault_at (filled p w) y ≡ and_then (kept_fault p) (fault_at w y)
    fault-same y = by (w.body y)
      where
        by : (o : Option Body) → and_then (λ (t : Thread). t.fault) (and_then thread_of (option_map (unfaulted p) o))
            ≡ and_then (kept_fault p) (and_then (λ (t : Thread). t.fault) (and_then thread_of o))
        by None = refl
        by (Some (Thread_of t)) = refl
        by (Some b) = refl

    -- ---- walks

    residents-same : (s : Path) → residents (filled p w) s ≡ residents w s
    unfolding residents
    residents-same s = λ i. filter (λ k. there-same (w.body (k ∷ s)) i) (slots SLOTS)

    beneath-same : (n : ℕ) (s : Path) → beneath_by n (filled p w) s ≡ beneath_by n w s
    unfolding beneath_by
    beneath-same zero s = refl
    beneath-same (suc n) s = λ i. flat_map (λ k. (k ∷ s) ∷ beneath-same n (k ∷ s) i) (residents-same s i)

    pub objects-same : objects (filled p w) ≡ objects w
    unfolding beneath
    objects-same = beneath-same depth []

    pub client_of-same : (server : Path) → client_of (filled p w) server ≡ client_of w server
    unfolding client_of
    client_of-same server = λ i. find (λ c. holds (λ (talk : Talk). serves server talk.peer) (talk-same c i)) (objects-same i)

    pub client_at-same : (port : Path) → client_at (filled p w) port ≡ client_at w port
    unfolding client_at
    client_at-same port = λ i. find (λ c. holds (λ (talk : Talk). leads_to port talk.port && is_service talk.peer) (talk-same c i)) (objects-same i)

    -- ---- who receives

    handled_in-same : (space : Path) (to : Option ℕ) → is_handled (filled p w) space to ≡ is_handled w space to
    handled_in-same space None = refl
    handled_in-same space (Some k) = ap (λ (b : Bool). nat_le k LAST_USER_SLOT && b) (by (w.body (k ∷ space)))
      where
        by : (o : Option Body) → holds (λ b. is_some (reference_of b)) (option_map (unfaulted p) o) ≡ holds (λ b. is_some (reference_of b)) o
        by None = refl
        by (Some b) = ap is_some (blind-reference.same b)

    pub receiving-same : (space : Path) (side : Turn) (mode : Mode) → receiving (filled p w) space side mode ≡ receiving w space side mode
    receiving-same space side mode = ap (λ (b : Bool). if b then and_then (receive_on side) (first_stage mode) else None) (handled_in-same space (awaited mode))

    pub awaited_at-same : (y : Path) → awaited_at (filled p w) y ≡ awaited_at w y
    awaited_at-same y = by (w.body y)
      where
        by : (o : Option Body) → and_then (λ (t : Thread). awaited t.mode) (and_then thread_of (option_map (unfaulted p) o))
            ≡ and_then (λ (t : Thread). awaited t.mode) (and_then thread_of o)
        by None = refl
        by (Some (Thread_of t)) = refl
        by (Some b) = refl

    -- ---- talks

    pub line-same : (me : Path) (side : Turn) → line (filled p w) me side ≡ line w me side
    unfolding line
    line-same me turns.Client = ap (line_from me (λ talk. talk.peer)) (talk-same me)
    line-same me turns.Server = λ i. and_then (λ client. line_from client (λ talk. Server (At client)) (talk-same client i)) (client_of-same me i)

    talking-same : (side : Turn) (to : Ptr) → talking_end (filled p w) side to ≡ talking_end w side to
    talking-same side to = by (path_to to)
      where
        of_body : (x : Path) (o : Option Body) → if_talking side (and_then (λ t. Some (x, t)) (and_then thread_of (option_map (unfaulted p) o)))
            ≡ if_talking side (and_then (λ t. Some (x, t)) (and_then thread_of o))
        of_body x None = refl
        of_body x (Some (Thread_of t)) = refl
        of_body x (Some b) = refl

        by : (o : Option Path) → if_talking side (and_then (λ x. and_then (λ t. Some (x, t)) (and_then thread_of ((filled p w).body x))) o)
            ≡ if_talking side (and_then (λ x. and_then (λ t. Some (x, t)) (and_then thread_of (w.body x))) o)
        by None = refl
        by (Some x) = of_body x (w.body x)

    served-same : (peer : Peer) → served_end (filled p w) peer ≡ served_end w peer
    served-same (Server thread) = talking-same turns.Server thread
    served-same Service = refl
    served-same Parked = refl

    pub ends-same : (side : Turn) (l : Line) → ends_beyond (filled p w) side l ≡ ends_beyond w side l
    ends-same turns.Client l = served-same l.other
    ends-same turns.Server l = talking-same turns.Client (At l.client)

    -- ---- sleepers

    pub asleep-same : (cond : ℕ) (y : Path) → asleep_on cond ((filled p w).body y) ≡ asleep_on cond (w.body y)
    asleep-same cond y = by (w.body y)
      where
        by : (o : Option Body) → asleep_on cond (option_map (unfaulted p) o) ≡ asleep_on cond o
        by None = refl
        by (Some (Thread_of t)) = refl
        by (Some b) = refl

    pub sleepers-same : (space : Path) (cond : ℕ) → sleepers (filled p w) space cond ≡ sleepers w space cond
    unfolding sleepers
    sleepers-same space cond = λ i. flat_map (λ k. woken (k ∷ space) (asleep-same cond (k ∷ space) i)) (slots SLOTS)

    -- ---- sets, and who connects

    member-same : (set : ℕ) (x : Path) → is_member set ((filled p w).body x) ≡ is_member set (w.body x)
    member-same set x = ap (holds (λ (port : Option ℕ × Bool). holds (λ k. k == set) port.0)) (view-same port_of blind-port (w.body x))

    pub slot_in_set-same : (space : Path) (set : ℕ) (port : Ptr) → slot_in_set (filled p w) space set port ≡ slot_in_set w space set port
    slot_in_set-same space set port =
        λ i. and_then (λ x. if same_path (parent x) space && member-same set x i then Some (slot_of x) else None) (path_to port)

    port_named-same : (x : Path) (stage : Stage) → port_named (filled p w) x stage ≡ port_named w x stage
    port_named-same x (Connect h) = ap if_read (handle-same (user_at x) kinds.Port h)
    port_named-same x stage = refl

    pub connecting_to-same : (x : Path) (t : Thread) → connecting_to (filled p w) x t ≡ connecting_to w x t
    connecting_to-same x t = λ i. if is_some t.talk then None else and_then (λ stage. port_named-same x stage i) (first_stage t.mode)
