-- A new space keeps to itself: nobody outside leads in, and the threads there talk among themselves, or wait for a native server.
-- So whose calls end with an object there lies there too.
use Rattle.std.proofs.Common.{◌≡◌, ℕ, Bool, true, false, cond, ◌&&◌, ◌||◌, nat_le, ◌⊎◌, inl, inr, is_some, List, [], ◌∷◌, ◌++◌, Option, Some, None, option_map}
use Rattle.std.proofs.Common.{refl, sym, subst, ◌∙◌}
use Rattle.std.specs.List.{list_any, flat_map}
use Rattle.std.proofs.lemmas.Bool.{and_parts}
use Rattle.fk_model.specs.declared.limits.TheConstants.{FIRST_SCRATCH_SLOT, LAST_SCRATCH_SLOT}
use Rattle.fk_model.specs.declared.thread.Turn.{Turn}
use Rattle.fk_model.specs.declared.thread.Turn.TheVariants as turns
use Rattle.fk_model.specs.Places.{Path, same_path, strip, is_within, Ptr, leads_to}
use Rattle.fk_model.specs.Places.Ptr.{Null, Dead, At, Out, Outside, Far}
use Rattle.fk_model.specs.Objects.{Mode, Peer, Talk, Thread, Body, and_then, holds, thread_of}
use Rattle.fk_model.specs.Objects.Mode.{Calling}
use Rattle.fk_model.specs.Objects.Peer.{Server, Service, Parked}
use Rattle.fk_model.specs.Objects.Body.{Mutex, Cond, Mapping, Region, Port, Portset, Space, Thread_of, Reference}
use Rattle.fk_model.specs.World.{World, Change, Edit, serves, talk_without, through, death_sweep, edited, ended_in, finished_in, on_thread, apply, apply_all}
use Rattle.fk_model.specs.World.Change.{Alter, Make, MakeSpace, Kill, Move, PutPage, DropPage}
use Rattle.fk_model.specs.World.Edit.{SetLocked, SetWindow, SetExtent, SetMember, SetPointer, SetHolder, Proceed, Shift, Finish, End, Replace, SetStops}
use Rattle.fk_model.specs.World.Edit.{SetTalk, CountMoved, PassTurn, SetPeer, SetFault, SetTaker}
use Rattle.fk_model.specs.Searches.{talk_at, client_of, clients_at, objects, option_list, peer_pointer, talk_pointers, fault_pointers}
use Rattle.fk_model.specs.Freezing.{body_pointers}
use Rattle.fk_model.specs.Talks.{line, line_from, if_talking, is_talking, talking_end, served_end}
use Rattle.fk_model.specs.LinkRows.{end_all}
use Rattle.fk_model.specs.ObjectRows.{is_scratch, ends_in, ends_on, ends_of_client, ends_with, kills}
use Rattle.fk_model.specs.Runs.{Event, after}
use Rattle.fk_model.proofs.walks.PlaceLaws.{same_path_eq, strip_some}
use Rattle.fk_model.proofs.walks.Members.{IsIn, in_either, of_filter, find_some, of_flat_map}
use Rattle.laws_moves.specs.Frozen.Holding.{IsHolding, IsUsersMove, only_reference}
use Rattle.laws_moves.proofs.InFrozen.Holding.{others_keep_hold}
use Rattle.laws_jobs.proofs.LeadLaws.{others_keep_unled}
use Rattle.laws_restore.specs.Sites.Fit.{IsUnled}
use Rattle.laws_restore.specs.Sites.Near.{IsInnerPeer, IsInnerEdit, IsTalkless, IsNearChange, AreNear, IsNearCall}
use Rattle.laws_restore.proofs.InSites.Near.{changes_unled}

-- ---- whoever has a talk leads to its port, and to its server

leads_by : (x : Path) (port : Ptr) (peer : Peer) (more : List Ptr) → (leads_to x port || serves x peer) ≡ true
    → list_any (leads_to x) ((port ∷ peer_pointer peer) ++ more) ≡ true
leads_by x port (Server thread) more h = by (leads_to x port) (leads_to x thread) h
  where
    by : (a b : Bool) → (a || b) ≡ true → (a || (b || list_any (leads_to x) more)) ≡ true
    by true b h = refl
    by false true h = refl
    by false false h = cc
leads_by x port Service more h = by (leads_to x port) h
  where
    by : (a : Bool) → (a || false) ≡ true → (a || list_any (leads_to x) more) ≡ true
    by true h = refl
    by false h = cc
leads_by x port Parked more h = by (leads_to x port) h
  where
    by : (a : Bool) → (a || false) ≡ true → (a || list_any (leads_to x) more) ≡ true
    by true h = refl
    by false h = cc

abbrev talk_in : Option Body → Option Talk
talk_in o = and_then (λ (t : Thread). t.talk) (and_then thread_of o)

leads_by_talk : (x : Path) (o : Option Body) (talk : Talk) → talk_in o ≡ Some talk → (leads_to x talk.port || serves x talk.peer) ≡ true
    → list_any (leads_to x) (body_pointers o) ≡ true
leads_by_talk x (Some (Thread_of t)) talk e h = by t.talk e
  where
    by : (o : Option Talk) → o ≡ Some talk → list_any (leads_to x) (option_list talk_pointers o ++ option_list fault_pointers t.fault) ≡ true
    by None e = cc
    by (Some other) e = let same : other ≡ talk = cc in rw same (leads_by x talk.port talk.peer (option_list fault_pointers t.fault) h)
leads_by_talk x None talk e h = cc
leads_by_talk x (Some (Mutex locked)) talk e h = cc
leads_by_talk x (Some Cond) talk e h = cc
leads_by_talk x (Some (Mapping m)) talk e h = cc
leads_by_talk x (Some (Region r)) talk e h = cc
leads_by_talk x (Some (Port set served)) talk e h = cc
leads_by_talk x (Some Portset) talk e h = cc
leads_by_talk x (Some (Space birth holder)) talk e h = cc
leads_by_talk x (Some (Reference to)) talk e h = cc

no_talk : (o : Option Body) → only_reference o ≡ true → talk_in o ≡ None
no_talk None h = refl
no_talk (Some (Reference to)) h = refl
no_talk (Some (Space birth holder)) h = cc
no_talk (Some (Mutex locked)) h = cc
no_talk (Some Cond) h = cc
no_talk (Some (Mapping m)) h = cc
no_talk (Some (Region r)) h = cc
no_talk (Some (Port set served)) h = cc
no_talk (Some Portset) h = cc
no_talk (Some (Thread_of t)) h = cc

ended_talk : (status : ℕ) (answers : List ℕ) (t : Thread) (m : Mode) → (ended_in status answers t m).talk ≡ t.talk
ended_talk status answers t (Calling todo rest) = refl
ended_talk status answers t m = refl

finished_talk : (answers : List ℕ) (t : Thread) (m : Mode) → (finished_in answers t m).talk ≡ t.talk
finished_talk answers t (Calling (stage ∷ next_stage ∷ todo) rest) = refl
finished_talk answers t m = refl

module _ (nester : Path) (slot : ℕ) where
  abbrev root : Path
  root = slot ∷ nester

  abbrev IsInside : Path → Type 0
  IsInside x = is_within root x ≡ true

  abbrev pub IsInnerTalk : Option Talk → Type 0
  IsInnerTalk None = Unit {0}
  IsInnerTalk (Some talk) = IsInnerPeer nester slot talk.peer

  -- nobody outside leads in, and no peer of a talk inside lies outside
  pub record IsSecluded (v : World) : Type 0 where
    pub unled : IsUnled nester slot v
    pub inner : (q : Path) → IsInnerTalk (talk_at v (q ++ root))

  pub scratch_of : (v : World) → IsHolding nester slot v → (x : Path) → is_scratch nester x ≡ true → only_reference (v.body x) ≡ true
  scratch_of v held [] e =
      let both = and_parts (same_path [] nester && nat_le FIRST_SCRATCH_SLOT 0) (nat_le 0 LAST_SCRATCH_SLOT) e in
      let first = and_parts (same_path [] nester) (nat_le FIRST_SCRATCH_SLOT 0) both.0 in
      let second = first.1 in cc
  scratch_of v held (k ∷ z) e =
      let both = and_parts (same_path z nester && nat_le FIRST_SCRATCH_SLOT k) (nat_le k LAST_SCRATCH_SLOT) e in
      let first = and_parts (same_path z nester) (nat_le FIRST_SCRATCH_SLOT k) both.0 in
      let here = same_path_eq z nester first.0 in
      let at : is_scratch nester (k ∷ nester) ≡ true = subst (λ (z : Path). is_scratch nester (k ∷ z) ≡ true) here e in
      subst (λ (z : Path). only_reference (v.body (k ∷ z)) ≡ true) (sym here) (held.scratch k at)

  -- ---- whose calls end

  module _ (v : World) (held : IsHolding nester slot v) (alone : IsSecluded v) where
    scratch_talk : (x : Path) → is_scratch nester x ≡ true → talk_at v x ≡ None
    scratch_talk x is = no_talk (v.body x) (scratch_of v held x is)

    client_inside : (x y : Path) (talk : Talk) → IsInside x → talk_at v y ≡ Some talk → (leads_to x talk.port || serves x talk.peer) ≡ true → IsInside y
    client_inside x y talk inside e h = by (is_within root y) (is_scratch nester y) refl refl
      where
        unled : (o : Option Path) → strip root x ≡ o → is_some o ≡ true → is_within root y ≡ false → is_scratch nester y ≡ false → IsInside y
        unled None at there out off = cc
        unled (Some q) at there out off =
            let here = strip_some root x q at in
            let none : list_any (leads_to x) (body_pointers (v.body y)) ≡ false = rw here (alone.unled q y out off) in
            let both = sym (leads_by_talk x (v.body y) talk e h) ∙ none in cc

        by : (a b : Bool) → is_within root y ≡ a → is_scratch nester y ≡ b → IsInside y
        by true b f g = f
        by false true f g = let both = sym e ∙ scratch_talk y g in cc
        by false false f g = unled (strip root x) refl inside f g

    talking_inside : (side : Turn) (p : Ptr) → ((y : Path) → p ≡ At y → IsInside y) → (x : Path) → IsIn x (talking_end v side p) → IsInside x
    talking_inside side (At y) inside x h = by (and_then thread_of (v.body y)) h
      where
        at : (b : Bool) → IsIn x (cond b (y ∷ []) []) → IsInside x
        at true (inl e) = subst IsInside e (inside y refl)
        at true (inr h) = absurd h
        at false h = absurd h

        by : (o : Option Thread) → IsIn x (if_talking side (and_then (λ (t : Thread). Some (y, t)) o)) → IsInside x
        by None h = absurd h
        by (Some t) h = at (is_talking side t.mode) h
    talking_inside side Null inside x h = absurd h
    talking_inside side Dead inside x h = absurd h
    talking_inside side (Out j) inside x h = absurd h
    talking_inside side Outside inside x h = absurd h
    talking_inside side Far inside x h = absurd h

    here_inside : (side : Turn) (y : Path) → IsInside y → (x : Path) → IsIn x (talking_end v side (At y)) → IsInside x
    here_inside side y inside x h = talking_inside side (At y) (λ z e. let same : y ≡ z = cc in subst IsInside same inside) x h

    served_inside : (peer : Peer) → IsInnerPeer nester slot peer → (x : Path) → IsIn x (served_end v peer) → IsInside x
    served_inside (Server (At y)) inside x h = here_inside turns.Server y inside x h
    served_inside (Server Null) inside x h = absurd inside
    served_inside (Server Dead) inside x h = absurd inside
    served_inside (Server (Out j)) inside x h = absurd inside
    served_inside (Server Outside) inside x h = absurd inside
    served_inside (Server Far) inside x h = absurd inside
    served_inside Service inside x h = absurd inside
    served_inside Parked inside x h = absurd h

    inner_at : (y : Path) → IsInside y → IsInnerTalk (talk_at v y)
    inner_at y inside = by (strip root y) refl inside
      where
        by : (o : Option Path) → strip root y ≡ o → is_some o ≡ true → IsInnerTalk (talk_at v y)
        by None e h = cc
        by (Some q) e h = subst (λ (z : Path). IsInnerTalk (talk_at v z)) (sym (strip_some root y q e)) (alone.inner q)

    -- of a client its server's
    as_client : (y : Path) → IsInside y → (x : Path) → IsIn x (ends_on v y turns.Client) → IsInside x
    unfolding line
    as_client y inside x h = by (talk_at v y) (inner_at y inside) h
      where
        by : (o : Option Talk) → IsInnerTalk o → IsIn x (ends_in v turns.Client (line_from y (λ (talk : Talk). talk.peer) o)) → IsInside x
        by None inner h = absurd h
        by (Some talk) inner h = served_inside talk.peer inner x h

    -- of a server its client's
    as_server : (y : Path) → IsInside y → (x : Path) → IsIn x (ends_on v y turns.Server) → IsInside x
    unfolding line client_of
    as_server y inside x h = by (client_of v y) refl h
      where
        at : (client : Path) (o : Option Talk) → talk_at v client ≡ o → holds (λ (talk : Talk). serves y talk.peer) o ≡ true →
            IsIn x (ends_in v turns.Server (line_from client (λ (talk : Talk). Server (At client)) o)) → IsInside x
        at client None e served h = absurd h
        at client (Some talk) e served h = here_inside turns.Client client (client_inside y client talk inside e (either (leads_to y talk.port) served)) x h
          where
            either : (a : Bool) → serves y talk.peer ≡ true → (a || serves y talk.peer) ≡ true
            either true s = refl
            either false s = s

        by : (o : Option Path) → client_of v y ≡ o
            → IsIn x (ends_in v turns.Server (and_then (λ (client : Path). line_from client (λ (talk : Talk). Server (At client)) (talk_at v client)) o))
            → IsInside x
        by None e h = absurd h
        by (Some client) e h = at client (talk_at v client) refl
            (find_some (λ (c : Path). holds (λ (talk : Talk). serves y talk.peer) (talk_at v c)) client (objects v) e).1 h

    -- of a port its clients' and their servers'
    at_port : (y : Path) → IsInside y → (x : Path) → IsIn x (flat_map (ends_of_client v) (clients_at v y)) → IsInside x
    unfolding clients_at
    at_port y inside x h =
        let found = of_flat_map (ends_of_client v) x (clients_at v y) h in
        let client = found.0 in
        let there = client_at_port client (talk_at v client) refl
        (of_filter (λ (c : Path). holds (λ (talk : Talk). leads_to y talk.port) (talk_at v c)) client (objects v) found.1).1 in
        by client there (in_either x (talking_end v turns.Client (At client)) (ends_on v client turns.Client) found.2)
      where
        client_at_port : (client : Path) (o : Option Talk) → talk_at v client ≡ o → holds (λ (talk : Talk). leads_to y talk.port) o ≡ true → IsInside client
        client_at_port client None e led = cc
        client_at_port client (Some talk) e led = client_inside y client talk inside e (rw led refl)

        by : (client : Path) → IsInside client → IsIn x (talking_end v turns.Client (At client)) ⊎ IsIn x (ends_on v client turns.Client) → IsInside x
        by client there (inl h) = here_inside turns.Client client there x h
        by client there (inr h) = as_client client there x h

    ends_inside : (y : Path) → IsInside y → (o : Option Body) → (x : Path) → IsIn x (ends_with v y o) → IsInside x
    ends_inside y inside (Some (Thread_of t)) x h = by (in_either x (ends_on v y turns.Client) (ends_on v y turns.Server) h)
      where
        by : IsIn x (ends_on v y turns.Client) ⊎ IsIn x (ends_on v y turns.Server) → IsInside x
        by (inl h) = as_client y inside x h
        by (inr h) = as_server y inside x h
    ends_inside y inside (Some (Port set served)) x h = at_port y inside x h
    ends_inside y inside None x h = absurd h
    ends_inside y inside (Some (Mutex locked)) x h = absurd h
    ends_inside y inside (Some Cond) x h = absurd h
    ends_inside y inside (Some (Mapping m)) x h = absurd h
    ends_inside y inside (Some (Region r)) x h = absurd h
    ends_inside y inside (Some Portset) x h = absurd h
    ends_inside y inside (Some (Space birth holder)) x h = absurd h
    ends_inside y inside (Some (Reference to)) x h = absurd h

    ends_near : (ends : List Path) → ((x : Path) → IsIn x ends → IsInside x) → AreNear nester slot (end_all ends)
    ends_near [] inside = tt
    ends_near (y ∷ ends) inside = let here = inside y (inl refl) in ((rw here refl, tt), ends_near ends (λ x h. inside x (inr h)))

    -- the death of an object inside changes what is near alone
    pub kills_near : (y : Path) → IsInside y → AreNear nester slot (kills v y)
    kills_near y inside = (rw inside refl, ends_near (ends_with v y (v.body y)) (λ x h. ends_inside y inside (v.body y) x h))

  -- ---- near changes keep it so

  abbrev Inner : Body → Type 0
  Inner b = IsInnerTalk (talk_in (Some b))

  on_thread_inner : (f : Thread → Thread) → ((t : Thread) → IsInnerTalk t.talk → IsInnerTalk (f t).talk) → (b : Body) → Inner b → Inner (on_thread f b)
  on_thread_inner f keeps (Thread_of t) h = keeps t h
  on_thread_inner f keeps b h = h

  same_peer : (f : Talk → Talk) → ((talk : Talk) → (f talk).peer ≡ talk.peer) → (o : Option Talk) → IsInnerTalk o → IsInnerTalk (option_map f o)
  same_peer f same None h = h
  same_peer f same (Some talk) h = subst (IsInnerPeer nester slot) (sym (same talk)) h

  edit_inner : (e : Edit) → IsInnerEdit nester slot e → (b : Body) → Inner b → Inner (edited e b)
  unfolding edited
  edit_inner (SetLocked locked) near (Mutex old) h = tt
  edit_inner (SetLocked locked) near b h = h
  edit_inner (SetWindow first count offset write) near (Mapping m) h = tt
  edit_inner (SetWindow first count offset write) near b h = h
  edit_inner (SetExtent first count write) near (Region r) h = tt
  edit_inner (SetExtent first count write) near b h = h
  edit_inner (SetMember set) near (Port old served) h = tt
  edit_inner (SetMember set) near b h = h
  edit_inner (SetPointer to) near (Mapping m) h = tt
  edit_inner (SetPointer to) near (Region r) h = tt
  edit_inner (SetPointer to) near (Reference old) h = tt
  edit_inner (SetPointer to) near b h = h
  edit_inner (SetHolder holder) near (Space birth old) h = tt
  edit_inner (SetHolder holder) near b h = h
  edit_inner (Proceed mode counter) near b h = on_thread_inner _ (λ t h. h) b h
  edit_inner (Shift count) near b h = on_thread_inner _ (λ t h. h) b h
  edit_inner (Finish answers) near b h = on_thread_inner _ (λ t h. subst IsInnerTalk (sym (finished_talk answers t t.mode)) h) b h
  edit_inner (End status answers) near b h = on_thread_inner _ (λ t h. subst IsInnerTalk (sym (ended_talk status answers t t.mode)) h) b h
  edit_inner (Replace stage) near b h = on_thread_inner _ (λ t h. h) b h
  edit_inner (SetStops stops) near b h = on_thread_inner _ (λ t h. h) b h
  edit_inner (SetTalk (Some talk)) near b h = on_thread_inner _ (λ t h. near) b h
  edit_inner (SetTalk None) near b h = on_thread_inner _ (λ t h. tt) b h
  edit_inner (CountMoved count) near b h = on_thread_inner _ (λ t h. same_peer _ (λ talk. refl) t.talk h) b h
  edit_inner (PassTurn turn) near b h = on_thread_inner _ (λ t h. same_peer _ (λ talk. refl) t.talk h) b h
  edit_inner (SetPeer peer) near b h = absurd near
  edit_inner (SetFault fault) near b h = on_thread_inner _ (λ t h. h) b h
  edit_inner (SetTaker taker) near b h = on_thread_inner _ (λ t h. h) b h

  edited_inner : (e : Edit) → IsInnerEdit nester slot e → (o : Option Body) → IsInnerTalk (talk_in o) → IsInnerTalk (talk_in (option_map (edited e) o))
  edited_inner e near None h = h
  edited_inner e near (Some b) h = edit_inner e near b h

  made_inner : (b : Body) → IsTalkless b → Inner b
  made_inner (Thread_of t) none = subst IsInnerTalk (sym none) tt
  made_inner (Mutex locked) none = tt
  made_inner Cond none = tt
  made_inner (Mapping m) none = tt
  made_inner (Region r) none = tt
  made_inner (Port set served) none = tt
  made_inner Portset none = tt
  made_inner (Space birth holder) none = tt
  made_inner (Reference to) none = tt

  swept_inner : (x y : Path) (o : Option Body) → IsInnerTalk (talk_in o) → IsInnerTalk (talk_in (option_map (through (death_sweep x) y) o))
  swept_inner x y (Some (Thread_of t)) h = by t.talk h
    where
      at : (talk : Talk) (b : Bool) → IsInnerTalk (Some talk) → IsInnerTalk (cond b None (Some talk))
      at talk true h = tt
      at talk false h = h

      by : (o : Option Talk) → IsInnerTalk o → IsInnerTalk (and_then (talk_without x) o)
      by None h = h
      by (Some talk) h = at talk (leads_to x talk.port || serves x talk.peer) h
  swept_inner x y None h = tt
  swept_inner x y (Some (Mutex locked)) h = tt
  swept_inner x y (Some Cond) h = tt
  swept_inner x y (Some (Mapping m)) h = tt
  swept_inner x y (Some (Region r)) h = tt
  swept_inner x y (Some (Port set served)) h = tt
  swept_inner x y (Some Portset) h = tt
  swept_inner x y (Some (Space birth holder)) h = tt
  swept_inner x y (Some (Reference to)) h = tt

  abbrev AreInner : World → Type 0
  AreInner v = (q : Path) → IsInnerTalk (talk_at v (q ++ root))

  -- one of two, by whether it is that place
  either_inner : (t : Bool) (a b : Option Body) → IsInnerTalk (talk_in a) → IsInnerTalk (talk_in b) → IsInnerTalk (talk_in (cond t a b))
  either_inner true a b h g = h
  either_inner false a b h g = g

  change_inner : (c : Change) (v : World) → IsNearChange nester slot c → AreInner v → AreInner (apply c v)
  unfolding apply
  change_inner (Alter x edit) v near inner q = either_inner (same_path (q ++ root) x) _ _ (edited_inner edit near.1 (v.body (q ++ root)) (inner q)) (inner q)
  change_inner (Make x body) v near inner q = either_inner (same_path (q ++ root) x) _ _ (made_inner body near.1) (inner q)
  change_inner (MakeSpace x holder) v near inner q = either_inner (same_path (q ++ root) x) (Some (Space v.next holder)) _ tt (inner q)
  change_inner (Kill x) v near inner q = either_inner (same_path (q ++ root) x) None _ tt (swept_inner x (q ++ root) (v.body (q ++ root)) (inner q))
  change_inner (PutPage space page words) v near inner q = inner q
  change_inner (DropPage space page) v near inner q = absurd near
  change_inner (Move x k) v near inner q = absurd near

  changes_inner : (cs : List Change) (v : World) → AreNear nester slot cs → AreInner v → AreInner (apply_all cs v)
  unfolding apply_all
  changes_inner [] v near inner = inner
  changes_inner (c ∷ cs) v near inner = changes_inner cs (apply c v) near.1 (change_inner c v near.0 inner)

  pub secluded_by : (cs : List Change) (v : World) → AreNear nester slot cs → IsSecluded v → IsSecluded (apply_all cs v)
  secluded_by cs v near alone = record { unled = changes_unled nester slot cs v near alone.unled; inner = changes_inner cs v near alone.inner }

  pub secluded_near : (v : World) (e : Event) → IsNearCall nester slot v e → IsSecluded v → IsSecluded (after v e)
  secluded_near v e near alone = subst IsSecluded (sym near.world) (secluded_by near.changes v near.near alone)

  pub secluded_others : (v : World) (e : Event) → IsHolding nester slot v → IsUsersMove nester v e → IsSecluded v → IsSecluded (after v e)
  secluded_others v e held moves alone =
      let kept = others_keep_hold nester slot v e held moves in
      record {
        unled = others_keep_unled nester slot v e held moves alone.unled;
        inner = λ q. subst (λ (o : Option Body). IsInnerTalk (talk_in o)) (sym (kept.inside.bodies q)) (alone.inner q);
      }

  -- a new space, beneath which nothing stood
  pub secluded_first : (v : World) (e : Event) → IsNearCall nester slot v e → ((q : Path) → v.body (q ++ root) ≡ None) → IsUnled nester slot (after v e)
      → IsSecluded (after v e)
  secluded_first v e near none unled = record {
    unled = unled;
    inner = subst AreInner (sym near.world) (changes_inner near.changes v near.near
        (λ q. subst (λ (o : Option Body). IsInnerTalk (talk_in o)) (sym (none q)) tt));
  }
