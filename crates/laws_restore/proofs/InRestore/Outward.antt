-- The passes that lead pointers out, one slot of the nester after the other.
use Rattle.std.proofs.Common.{◌≡◌, ℕ, suc, ◌≤◌, ◌<◌, Bool, true, false, cond, ◌||◌, ◌==◌, eqb, nat_le, nat_lt, IsSome, is_some, List, [], ◌∷◌, ◌++◌, Option}
use Rattle.std.proofs.Common.{Some, None, refl, sym, ap, subst, arith, eqb-true, ◌∙◌}
use Rattle.std.proofs.lemmas.Bool.{le-ltb, lt-ltb, ltb-true, ltb-false, eqb-false}
use Rattle.fk_model.specs.declared.limits.TheConstants.{LAST_USER_SLOT}
use Rattle.fk_model.specs.declared.thread.Turn.{Turn}
use Rattle.fk_model.specs.declared.thread.Turn.TheVariants as turns
use Rattle.fk_model.specs.declared.names.Kind.TheVariants as kinds
use Rattle.fk_model.specs.Places.{Path, Ptr}
use Rattle.fk_model.specs.Places.Ptr.{Null, Dead, At, Out, Outside, Far}
use Rattle.fk_model.specs.Objects.{Body, Talk, Fault, Thread, Peer, and_then, thread_of, flag_of}
use Rattle.fk_model.specs.Objects.Peer.{Server, Service, Parked}
use Rattle.fk_model.specs.Objects.Body.{Mutex, Cond, Mapping, Region, Port, Portset, Space, Thread_of, Reference}
use Rattle.fk_model.specs.World.{World, edited, apply}
use Rattle.fk_model.specs.World.Change.{Alter}
use Rattle.fk_model.specs.World.Edit.{SetTalk, SetFault}
use Rattle.fk_model.specs.LinkRows.{turn_number, turn_by}
use Rattle.fk_model.specs.Rebind.{rebound_ptr}
use Rattle.laws_jobs.specs.Calls.{has_pointer}
use Rattle.laws_restore.specs.Sites.Orders.{Site, does, does_all, stays_in, parked_talk, parked_fault}
use Rattle.laws_restore.specs.Sites.Orders.Spot.{Unsure}
use Rattle.laws_restore.specs.Sites.Orders.Pin.{NoPin}
use Rattle.laws_restore.specs.Sites.Orders.Order.{LeadsTop, Points, Pins, Takes, Checks, ParksTalk, ParksFault}
use Rattle.laws_restore.specs.Restore.Fits.{there, IsWay}
use Rattle.laws_restore.specs.Restore.Script.{P, T, U, D, pointer_of, is_out_to, is_talk_out, is_fault_out, leads_out, talk_words, fault_words, taken_flag}
use Rattle.laws_restore.specs.Restore.Script.{parks_talk}
use Rattle.laws_restore.specs.Restore.Script.{parks_fault, leads_body_out}
use Rattle.laws_restore.specs.Restore.Stages.{Mask, bound, leading, led_below, is_out_below, is_led_below, shown_talk, shown_fault, is_among}
use Rattle.laws_restore.specs.Restore.Roomed.{GivesTalk, GivesFault, IsAim, IsPair, IsTalkAim, IsFaultAim, IsTakenAim, IsAble}
use Rattle.laws_restore.proofs.InRestore.Leaving.{Good, Leaves, leaves_on, leaves_none, place_of, ordered}
use Rattle.laws_restore.proofs.InRestore.Ways.{one}
use Rattle.laws_restore.proofs.InRestore.Ways.Grouped.{NoMore, Look}
use Rattle.laws_restore.proofs.InRestore.Led.{led_kinds, led_alike}
use Rattle.laws_restore.proofs.InRestore.Pointing.{pointed}
use Rattle.laws_restore.proofs.InRestore.Halfway.{before, halfway, after, halfway_kinds, halfway_there, to_half, edit_half, from_half, edit_rest}

-- ---- a slot is begun and ended

module _ (slot : ℕ) (Safe : ℕ → Site → Type 0) (c : World) (p : Path) where
  pub stays_all : (g : Site) → Good slot Safe c p None g → (k : ℕ) → stays_in (g.spot k) ≡ true
  stays_all g good k = by (eqb k P) (eqb k T) (eqb k U) (eqb k D) refl refl refl refl
    where
      by : (a b u d : Bool) → eqb k P ≡ a → eqb k T ≡ b → eqb k U ≡ u → eqb k D ≡ d → stays_in (g.spot k) ≡ true
      by true b u d e f h i = let is = eqb-true k P e in let at = good.at in rw (is, at) refl
      by false true u d e f h i = let is = eqb-true k T f in rw is good.aimed.1
      by false false true d e f h i = let is = eqb-true k U h in rw is good.u.1
      by false false false true e f h i = let is = eqb-true k D i in let dead = good.dead in rw (is, dead) refl
      by false false false false e f h i = let off = good.none k e f h i in rw off refl

  -- all of it that is made stands, no scratch leads out, and the pin is there
  pub record IsOpening (g : Site) : Type 0 where
    pub built : g.built ≡ c
    pub at : IsSome (g.spot P)
    pub t : IsSome (g.spot T)
    pub u : IsSome (g.spot U)
    pub dead : IsSome (g.spot D)
    pub none : (k : ℕ) → eqb k P ≡ false → eqb k T ≡ false → eqb k U ≡ false → eqb k D ≡ false → g.spot k ≡ None
    pub pin : g.pin ≡ NoPin → ⊥

  pub opens_slot : (j : ℕ) → j ≤ LAST_USER_SLOT → ((g : Site) → IsOpening g → Safe j g)
      → Leaves slot Safe c p None c p (Some j) (Pins j ∷ Takes T ∷ Checks T j ∷ [])
  unfolding does_all
  opens_slot j low safe g good =
      let s2 : Site = does (Pins j) g in
      let s3 : Site = does (Takes T) s2 in
      let s4 : Site = does (Checks T j) s3 in
      let first : IsOpening g = record {
        built = good.built;
        at = rw good.at refl;
        t = good.aimed.0;
        u = good.u.0;
        dead = rw good.dead refl;
        none = good.none;
        pin = good.pin;
      } in
      let second : IsOpening s3 = record {
        built = good.built;
        at = rw good.at refl;
        t = refl;
        u = good.u.0;
        dead = rw good.dead refl;
        none = λ k p t u d. rw t (good.none k p t u d);
        pin = λ e. cc;
      } in
      let stay : (k : ℕ) → (k ≡ T → ⊥) → stays_in (s3.spot k) ≡ true = λ k apart. others k (eqb k T) refl apart (stays_all g good k) in
      record {
        site = s4;
        runs = record {
          may = ((good.pin, stays_all g good, low), ((refl, good.aimed.0, refl), ((refl, refl, stay, low), tt)));
          suits = (tt, (tt, (tt, tt)));
          safe = (safe g first, (tt, (safe s3 second, tt)));
          grouped = Look T j [] NoMore;
          end = refl;
        };
        good = record {
          built = good.built;
          at = good.at;
          aimed = (refl, refl);
          u = good.u;
          dead = good.dead;
          none = λ k p t u d. rw t (good.none k p t u d);
          pin = λ e. cc;
        };
      }
    where
      others : (k : ℕ) (t : Bool) → eqb k T ≡ t → (k ≡ T → ⊥) → stays_in (g.spot k) ≡ true → stays_in (cond t (Some Unsure) (g.spot k)) ≡ true
      others k true e apart stays = absurd (apart (eqb-true k T e))
      others k false e apart stays = stays

  pub closes_slot : (j : ℕ) → Leaves slot Safe c p (Some j) c p None (LeadsTop T ∷ [])
  closes_slot j g good = record {
    site = does (LeadsTop T) g;
    runs = one slot Safe g (LeadsTop T) (refl, rw good.aimed.0 refl) tt refl;
    good = record {
      built = good.built;
      at = good.at;
      aimed = (refl, refl);
      u = good.u;
      dead = good.dead;
      none = λ k p t u d. rw t (good.none k p t u d);
      pin = λ e. let both = sym good.aimed.1 ∙ e in cc;
    };
  }

-- ---- masks of one slot and the next

next_below : (i : ℕ) (p : Ptr) → is_out_to i p ≡ false → is_out_below i p ≡ is_out_below (suc i) p
next_below i (Out j) h = by (nat_lt j i) refl
  where
    by : (t : Bool) → nat_lt j i ≡ t → t ≡ nat_lt j (suc i)
    by true e = sym (lt-ltb j (suc i) (less j i e))
      where
        less : (j i : ℕ) → nat_lt j i ≡ true → j < suc i
        less j i e = let low = ltb-true j i e in omega (arith, low)
    by false e =
        let most = ltb-false j i e in
        let apart : j ≡ i → ⊥ = eqb-false j i h in
        sym (le-ltb j (suc i) (more j i most apart))
      where
        more : (j i : ℕ) → i ≤ j → (j ≡ i → ⊥) → suc i ≤ j
        more j i most apart = omega (arith, most, apart)
next_below i Null h = refl
next_below i Dead h = refl
next_below i (At z) h = refl
next_below i Outside h = refl
next_below i Far h = refl

pub now_below : (i : ℕ) → nat_lt i (suc i) ≡ true
now_below i = lt-ltb i (suc i) (omega arith)

alike_led : (i : ℕ) (p : Ptr) → is_out_to i p ≡ false → is_led_below i p ≡ is_led_below (suc i) p
alike_led i (Out j) h = next_below i (Out j) h
alike_led i Null h = refl
alike_led i Dead h = refl
alike_led i (At z) h = refl
alike_led i Outside h = refl
alike_led i Far h = refl

talk_alike : (i : ℕ) (o : Option Talk) → is_talk_out i o ≡ false → shown_talk (is_out_below i) o ≡ shown_talk (is_out_below (suc i)) o
talk_alike i None h = refl
talk_alike i (Some talk) h = rw (next_below i talk.port h) refl

fault_alike : (i : ℕ) (o : Option Fault) → is_fault_out i o ≡ false → shown_fault (is_out_below i) o ≡ shown_fault (is_out_below (suc i)) o
fault_alike i None h = refl
fault_alike i (Some fault) h = rw (next_below i fault.port h) refl

or_off : (a b : Bool) → (a || b) ≡ false → (a ≡ false) × (b ≡ false)
or_off true b h = cc
or_off false b h = (refl, h)

pub alike_out : (bind : ℕ → ℕ) (i : ℕ) (y : Path) (b : Body) → leads_out i b ≡ false → bound bind (led_below i) y b ≡ bound bind (led_below (suc i)) y b
alike_out bind i y (Mapping w) h = rw (alike_led i w.region h) refl
alike_out bind i y (Region r) h = rw (alike_led i r.keeper h) refl
alike_out bind i y (Reference to) h = rw (alike_led i to h) refl
alike_out bind i y (Thread_of t) h = let off = or_off (is_talk_out i t.talk) (is_fault_out i t.fault) h in
    rw (talk_alike i t.talk off.0, fault_alike i t.fault off.1) refl
alike_out bind i y (Mutex locked) h = refl
alike_out bind i y Cond h = refl
alike_out bind i y (Port set served) h = refl
alike_out bind i y Portset h = refl
alike_out bind i y (Space birth holder) h = refl

-- ---- what is parked is what the picture shows, with its port bound

pub turn_back : (t : Turn) → turn_by (turn_number t) ≡ t
turn_back turns.Client = refl
turn_back turns.Server = refl

pub flag_back : (b : Bool) → (flag_of b == 1) ≡ b
flag_back true = refl
flag_back false = refl

pub is_out_at : (i : ℕ) (p : Ptr) → is_out_to i p ≡ true → p ≡ Out i
is_out_at i (Out j) h = ap Out (eqb-true j i h)
is_out_at i Null h = cc
is_out_at i Dead h = cc
is_out_at i (At z) h = cc
is_out_at i Outside h = cc
is_out_at i Far h = cc

few_taken : (taker : Option Peer) → nat_le (taken_flag taker) 1 ≡ true
few_taken None = refl
few_taken (Some taker) = refl

module _ (bind : ℕ → ℕ) (c : World) (root : c.body [] ≡ Some (Space 0 None)) (slot : ℕ) (Safe : ℕ → Site → Type 0) (i : ℕ) (low : bind i ≤ LAST_USER_SLOT) where
  abbrev new : Mask
  new = led_below (suc i)

  abbrev old : Mask
  old = led_below i

  abbrev mid : Mask
  mid = record old { talk = is_out_below (suc i) }

  abbrev world : List Path → World
  world done = leading bind c new old done

  -- the talk of a thread
  talk_set : (y : Path) (t : Thread) (talk : Talk) → t.talk ≡ Some talk → talk.port ≡ Out i → talk.peer ≡ Server Outside →
      edited (SetTalk (Some (parked_talk (bind i) (talk_words talk)))) (bound bind old y (Thread_of t)) ≡ bound bind mid y (Thread_of t)
  unfolding edited
  talk_set y t talk e port peer = rw (e, port, now_below i, peer, turn_back talk.turn) refl

  fault_set : (y : Path) (t : Thread) (fault : Fault) → t.fault ≡ Some fault → fault.port ≡ Out i → (taker : Option Peer) → fault.taker ≡ taker
      → IsTakenAim bind c (Out i) taker →
      edited (SetFault (Some (parked_fault (bind i) (taken_flag fault.taker) (fault_words fault)))) (bound bind mid y (Thread_of t))
      ≡ bound bind new y (Thread_of t)
  unfolding edited
  fault_set y t fault e port None is its = rw (e, port, now_below i, is, flag_back fault.write) refl
  fault_set y t fault e port (Some (Server Outside)) is its = rw (e, port, now_below i, is, flag_back fault.write) refl
  fault_set y t fault e port (Some (Server (At z))) is its = absurd its
  fault_set y t fault e port (Some (Server (Out j))) is its = absurd its
  fault_set y t fault e port (Some (Server Null)) is its = absurd its
  fault_set y t fault e port (Some (Server Dead)) is its = absurd its
  fault_set y t fault e port (Some (Server Far)) is its = absurd its
  fault_set y t fault e port (Some Service) is its = absurd its
  fault_set y t fault e port (Some Parked) is its = absurd its

  peer_outside : (peer : Peer) → (port : Ptr) → port ≡ Out i → IsPair bind c port peer → peer ≡ Server Outside
  peer_outside (Server Outside) port e its = refl
  peer_outside (Server (At z)) port e its = absurd (subst (λ (p : Ptr). IsPair bind c p (Server (At z))) e its)
  peer_outside (Server (Out j)) port e its = absurd (subst (λ (p : Ptr). IsPair bind c p (Server (Out j))) e its)
  peer_outside (Server Null) port e its = absurd (subst (λ (p : Ptr). IsPair bind c p (Server Null)) e its)
  peer_outside (Server Dead) port e its = absurd (subst (λ (p : Ptr). IsPair bind c p (Server Dead)) e its)
  peer_outside (Server Far) port e its = absurd (subst (λ (p : Ptr). IsPair bind c p (Server Far)) e its)
  peer_outside Service port e its = absurd (subst (λ (p : Ptr). IsPair bind c p Service) e its)
  peer_outside Parked port e its = absurd (subst (λ (p : Ptr). IsPair bind c p Parked) e its)

  module _ (q : Path) (x : ℕ) (t : Thread) (done : List Path) (space : there c q ≡ Some kinds.Space) (its : IsAble bind c q x (Thread_of t))
      (anew : is_among (x ∷ q) done ≡ false) where
    abbrev y : Path
    y = x ∷ q

    abbrev from : World
    from = before bind c new mid old done y (Thread_of t) its.there anew

    abbrev half : World
    half = halfway bind c new mid old done y (Thread_of t) its.there anew

    abbrev to : World
    to = after bind c new mid old done y (Thread_of t) its.there anew

    thread_here : is_some (and_then thread_of (from.body y)) ≡ true
    thread_here = rw (its.there, anew) refl

    thread_half : is_some (and_then thread_of (half.body y)) ≡ true
    thread_half = rw (halfway_there bind c new mid old done y (Thread_of t) its.there anew) refl

    half_space : there half q ≡ Some kinds.Space
    half_space = halfway_kinds bind c new mid old done y (Thread_of t) its.there anew q ∙ space

    talk_step : (o : Option Talk) → t.talk ≡ o → IsTalkAim bind c o → GivesTalk o
        → Leaves slot Safe from q (Some (bind i)) half q (Some (bind i)) (parks_talk i bind q x o)
    unfolding apply
    talk_step None e aim told = leaves_none slot Safe from half q (Some (bind i)) (to_half bind c new mid old done y (Thread_of t) its.there anew (rw e refl))
    talk_step (Some talk) e aim told = by (is_out_to i talk.port) refl
      where
        by : (b : Bool) → is_out_to i talk.port ≡ b
            → Leaves slot Safe from q (Some (bind i)) half q (Some (bind i)) (cond b (ParksTalk P q x (bind i) (talk_words talk) ∷ []) [])
        by true h = λ g good.
            let port = is_out_at i talk.port h in
            let edit = SetTalk (Some (parked_talk (bind i) (talk_words talk))) in
            ordered slot Safe from half q (Some (bind i)) g (ParksTalk P q x (bind i) (talk_words talk)) (apply (Alter y edit) g.built) good refl refl
            (ap (apply (Alter y edit)) good.built ∙ edit_half bind c new mid old done y (Thread_of t) its.there anew edit
            (talk_set y t talk e port (peer_outside talk.peer talk.port port aim)))
            (record {
              place = place_of slot Safe from q (Some (bind i)) g good (led_kinds bind c new old done q ∙ space);
              low = its.low;
              thread = rw good.built thread_here;
              pinned = good.aimed.1;
              port = low;
            }) told
        by false h = leaves_none slot Safe from half q (Some (bind i))
            (to_half bind c new mid old done y (Thread_of t) its.there anew (rw (e, next_below i talk.port h) refl))

    fault_step : (o : Option Fault) → t.fault ≡ o → IsFaultAim bind c o → GivesFault o
        → Leaves slot Safe half q (Some (bind i)) to q (Some (bind i)) (parks_fault i bind q x o)
    unfolding apply
    fault_step None e aim told = leaves_none slot Safe half to q (Some (bind i)) (from_half bind c new mid old done y (Thread_of t) its.there anew (rw e refl))
    fault_step (Some fault) e aim told = by (is_out_to i fault.port) refl
      where
        by : (b : Bool) → is_out_to i fault.port ≡ b
            → Leaves slot Safe half q (Some (bind i)) to q (Some (bind i))
            (cond b (ParksFault P q x (bind i) (taken_flag fault.taker) (fault_words fault) ∷ []) [])
        by true h = λ g good.
            let port = is_out_at i fault.port h in
            let edit = SetFault (Some (parked_fault (bind i) (taken_flag fault.taker) (fault_words fault))) in
            ordered slot Safe half to q (Some (bind i)) g (ParksFault P q x (bind i) (taken_flag fault.taker) (fault_words fault))
            (apply (Alter y edit) g.built) good refl refl
            (ap (apply (Alter y edit)) good.built ∙ edit_rest bind c new mid old done y (Thread_of t) its.there anew edit
            (fault_set y t fault e port fault.taker refl (subst (λ (p : Ptr). IsTakenAim bind c p fault.taker) port aim)))
            (record {
              place = place_of slot Safe half q (Some (bind i)) g good half_space;
              low = its.low;
              thread = rw good.built thread_half;
              pinned = good.aimed.1;
              port = low;
            }) (told.0, told.1, few_taken fault.taker)
        by false h = leaves_none slot Safe half to q (Some (bind i))
            (from_half bind c new mid old done y (Thread_of t) its.there anew (rw (e, next_below i fault.port h) refl))

    thread_out : Leaves slot Safe from q (Some (bind i)) to q (Some (bind i)) (parks_talk i bind q x t.talk ++ parks_fault i bind q x t.fault)
    thread_out = leaves_on slot Safe from q (Some (bind i)) half q (Some (bind i)) to q (Some (bind i)) (parks_talk i bind q x t.talk)
        (parks_fault i bind q x t.fault)
        (talk_step t.talk refl its.aims.0 its.told.0) (fault_step t.fault refl its.aims.1 its.told.1)

  -- a pointer
  pointer_out : (q : Path) (x : ℕ) (b : Body) (done : List Path) → there c q ≡ Some kinds.Space → IsAble bind c q x b → is_among (x ∷ q) done ≡ false
      → has_pointer b ≡ true → (IsAim bind c b (pointer_of b)) →
      leads_out i b ≡ is_out_to i (pointer_of b) →
      Leaves slot Safe (world done) q (Some (bind i)) (world ((x ∷ q) ∷ done)) q (Some (bind i)) (cond (is_out_to i (pointer_of b)) (Points P q x T ∷ []) [])
  pointer_out q x b done space its anew pointing aim same = by (is_out_to i (pointer_of b)) refl
    where
      by : (t : Bool) → is_out_to i (pointer_of b) ≡ t
          → Leaves slot Safe (world done) q (Some (bind i)) (world ((x ∷ q) ∷ done)) q (Some (bind i)) (cond t (Points P q x T ∷ []) [])
      by true h = λ g good.
          let port = is_out_at i (pointer_of b) h in
          let fits : IsAim bind c b (Out i) = subst (IsAim bind c b) port aim in
          let shows : new.pointer (pointer_of b) ≡ true = rw (port, now_below i) refl in
          pointed bind c root slot Safe new old (Some (bind i)) x q b done space its anew g T (Out (bind i)) good refl good.aimed.0
          (sym (ap (rebound_ptr bind) port)) pointing shows tt fits.2
      by false h = leaves_none slot Safe (world done) (world ((x ∷ q) ∷ done)) q (Some (bind i))
          (led_alike bind c new old done (x ∷ q) b its.there (alike_out bind i (x ∷ q) b (same ∙ h)))

  quiet : (q : Path) (x : ℕ) (b : Body) (done : List Path) → IsAble bind c q x b → leads_out i b ≡ false
      → Leaves slot Safe (world done) q (Some (bind i)) (world ((x ∷ q) ∷ done)) q (Some (bind i)) []
  quiet q x b done its off = leaves_none slot Safe (world done) (world ((x ∷ q) ∷ done)) q (Some (bind i))
      (led_alike bind c new old done (x ∷ q) b its.there (alike_out bind i (x ∷ q) b off))

  pub out_item : (q : Path) (x : ℕ) (b : Body) (done : List Path) → there c q ≡ Some kinds.Space → IsWay (there c) q → IsAble bind c q x b
      → is_among (x ∷ q) done ≡ false →
      Leaves slot Safe (world done) q (Some (bind i)) (world ((x ∷ q) ∷ done)) q (Some (bind i)) (leads_body_out i bind q x b)
  out_item q x (Thread_of t) done space way its anew = thread_out q x t done space its anew
  out_item q x (Mapping w) done space way its anew = pointer_out q x (Mapping w) done space its anew refl its.aims refl
  out_item q x (Region r) done space way its anew = pointer_out q x (Region r) done space its anew refl its.aims refl
  out_item q x (Reference to) done space way its anew = pointer_out q x (Reference to) done space its anew refl its.aims refl
  out_item q x (Mutex locked) done space way its anew = quiet q x (Mutex locked) done its refl
  out_item q x Cond done space way its anew = quiet q x Cond done its refl
  out_item q x (Port set served) done space way its anew = quiet q x (Port set served) done its refl
  out_item q x Portset done space way its anew = quiet q x Portset done its refl
  out_item q x (Space birth holder) done space way its anew = quiet q x (Space birth holder) done its refl

  pub out_idle : (q : Path) (x : ℕ) (b : Body) → IsAble bind c q x b → leads_out i b ≡ false → bound bind old (x ∷ q) b ≡ bound bind new (x ∷ q) b
  out_idle q x b its off = alike_out bind i (x ∷ q) b off
