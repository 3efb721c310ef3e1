-- The pass that makes talks and faults between threads inside.
use Rattle.std.proofs.Common.{◌≡◌, ℕ, ◌≤◌, ◌<◌, Bool, true, false, cond, ◌||◌, nat_lt, is_some, List, [], ◌∷◌, ◌++◌, Option, Some, None, option_map, refl, sym}
use Rattle.std.proofs.Common.{ap, arith, ◌∙◌}
use Rattle.std.proofs.lemmas.Bool.{lt-ltb}
use Rattle.fk_model.specs.declared.limits.TheConstants.{LAST_USER_SLOT}
use Rattle.fk_model.specs.declared.names.Kind.{Kind}
use Rattle.fk_model.specs.declared.names.Kind.TheVariants as kinds
use Rattle.fk_model.specs.Places.{Path, Ptr}
use Rattle.fk_model.specs.Places.Ptr.{Null, Dead, At, Out, Outside, Far}
use Rattle.fk_model.specs.Objects.{Body, Talk, Fault, Thread, Peer, kind_of, and_then, thread_of}
use Rattle.fk_model.specs.Objects.Peer.{Server, Service, Parked}
use Rattle.fk_model.specs.Objects.Body.{Mutex, Cond, Mapping, Region, Port, Portset, Space, Thread_of, Reference}
use Rattle.fk_model.specs.World.{World, edited, apply}
use Rattle.fk_model.specs.World.Change.{Alter}
use Rattle.fk_model.specs.World.Edit.{SetTalk, SetFault}
use Rattle.laws_restore.specs.Sites.Orders.{Site, inner_talk, inner_fault, IsKindThere}
use Rattle.laws_restore.specs.Sites.Orders.Spot.{To}
use Rattle.laws_restore.specs.Sites.Orders.Order.{LinksTalk, RaisesFault, LinksFault}
use Rattle.fk_model.specs.Valid.{services}
use Rattle.fk_model.proofs.walks.PlaceLaws.{same_path_refl, same_path_eq}
use Rattle.fk_model.specs.Places.{same_path}
use Rattle.laws_restore.specs.Sites.Fit.{IsIdleIn}
use Rattle.laws_restore.specs.Sites.Owed.{IsFree}
use Rattle.laws_restore.proofs.InRestore.Idle.{talks, faults, talks_less, faults_less, led_talks, led_faults, by_talk, by_fault, other_fault, other_talk}
use Rattle.laws_restore.proofs.InRestore.Idle.{idle_by}
use Rattle.laws_restore.specs.Restore.Fits.{there, IsWay}
use Rattle.laws_restore.specs.Restore.Script.{P, T, U, leads_to_at, talk_words, fault_words, is_talk_inside, is_fault_inside, ties_inside, ties_talk}
use Rattle.laws_restore.specs.Restore.Script.{ties_fault}
use Rattle.laws_restore.specs.Restore.Script.{ties_its_talk, ties_its_fault, ties_body}
use Rattle.laws_restore.specs.Restore.Stages.{Mask, bound, leading, led_below, all_led, is_out_below, is_led_below, anywhere, shown_talk, shown_fault}
use Rattle.laws_restore.specs.Restore.Stages.{shown_ptr}
use Rattle.laws_restore.specs.Restore.Stages.{is_among}
use Rattle.laws_restore.specs.Restore.Roomed.{AreBeside, GivesTalk, GivesFault, IsAim, IsPair, IsTalkAim, IsFaultAim, IsTakenAim, IsAble}
use Rattle.laws_restore.proofs.InRestore.Leaving.{Leaves, leaves_on, leaves_none, leads_t, leads_u, place_of, ordered}
use Rattle.laws_restore.proofs.InRestore.Ways.{on}
use Rattle.laws_restore.proofs.InRestore.Led.{body_old, led_kinds, led_way, led_alike}
use Rattle.laws_restore.proofs.InRestore.Halfway.{before, halfway, after, halfway_kinds, halfway_way, halfway_there, to_half, edit_half, from_half, edit_rest}
use Rattle.laws_restore.proofs.InRestore.Outward.{turn_back, flag_back}

-- an object that is no space isn't the root
pub kind_there_of : (w : World) (y : Path) (kind : Kind) → there w [] ≡ Some kinds.Space → there w y ≡ Some kind → (kind ≡ kinds.Space → ⊥)
    → IsKindThere w y kind
kind_there_of w [] kind top is apart = let both = sym top ∙ is in let same : kinds.Space ≡ kind = cc in absurd (apart (sym same))
kind_there_of w (k ∷ q) kind top is apart = by (w.body (k ∷ q)) refl is
  where
    by : (o : Option Body) → w.body (k ∷ q) ≡ o → option_map kind_of o ≡ Some kind → IsKindThere w (k ∷ q) kind
    by None e h = cc
    by (Some b) e h = record { slot = k; space = q; is = refl; body = b; there = e; is_kind = let same : kind_of b ≡ kind = cc in same }

pub all_below : (j : ℕ) → j ≤ LAST_USER_SLOT → nat_lt j 240 ≡ true
all_below j low = lt-ltb j 240 (omega (arith, low))

module _ (bind : ℕ → ℕ) (c : World) (root : c.body [] ≡ Some (Space 0 None)) (slot : ℕ) (Safe : ℕ → Site → Type 0)
    (one_service : (server x y : Path) → 0 < services c server x → 0 < services c server y → x ≡ y)
    (one_each : (server x : Path) → services c server x ≤ 1) where
  abbrev new : Mask
  new = all_led false

  abbrev old : Mask
  old = led_below 240

  abbrev mid : Mask
  mid = record old { talk = anywhere }

  abbrev world : List Path → World
  world done = leading bind c new old done

  talk_set : (y : Path) (t : Thread) (talk : Talk) (port server : Path) → t.talk ≡ Some talk → talk.port ≡ At port → talk.peer ≡ Server (At server) →
      edited (SetTalk (Some (inner_talk port server (talk_words talk)))) (bound bind old y (Thread_of t)) ≡ bound bind mid y (Thread_of t)
  unfolding edited
  talk_set y t talk port server e p s = rw (e, p, s, turn_back talk.turn) refl

  raise_set : (y : Path) (t : Thread) (fault : Fault) (port : Path) → t.fault ≡ Some fault → fault.port ≡ At port → fault.taker ≡ None →
      edited (SetFault (Some (inner_fault port None (fault_words fault)))) (bound bind mid y (Thread_of t)) ≡ bound bind new y (Thread_of t)
  unfolding edited
  raise_set y t fault port e p s = rw (e, p, s, flag_back fault.write) refl

  taken_set : (y : Path) (t : Thread) (fault : Fault) (port taker : Path) → t.fault ≡ Some fault → fault.port ≡ At port
      → fault.taker ≡ Some (Server (At taker)) →
      edited (SetFault (Some (inner_fault port (Some taker) (fault_words fault)))) (bound bind mid y (Thread_of t)) ≡ bound bind new y (Thread_of t)
  unfolding edited
  taken_set y t fault port taker e p s = rw (e, p, s, flag_back fault.write) refl

  module _ (q : Path) (x : ℕ) (t : Thread) (done : List Path) (space : there c q ≡ Some kinds.Space) (its : IsAble bind c q x (Thread_of t))
      (anew : is_among (x ∷ q) done ≡ false) where
    abbrev y : Path
    y = x ∷ q

    abbrev from : World
    from = before bind c new mid old done y (Thread_of t) its.there anew

    abbrev half : World
    half = halfway bind c new mid old done y (Thread_of t) its.there anew

    abbrev to : World
    to = after bind c new mid old done y (Thread_of t) its.there anew

    thread_here : is_some (and_then thread_of (from.body y)) ≡ true
    thread_here = rw (its.there, anew) refl

    thread_half : is_some (and_then thread_of (half.body y)) ≡ true
    thread_half = rw (halfway_there bind c new mid old done y (Thread_of t) its.there anew) refl

    from_kinds : (z : Path) → there from z ≡ there c z
    from_kinds = led_kinds bind c new old done

    half_kinds : (z : Path) → there half z ≡ there c z
    half_kinds = halfway_kinds bind c new mid old done y (Thread_of t) its.there anew

    top_kind : there c [] ≡ Some kinds.Space
    top_kind = ap (option_map kind_of) root

    here_kind : (w : World) → ((z : Path) → there w z ≡ there c z) → (z : Path) (kind : Kind) → there c z ≡ Some kind → (kind ≡ kinds.Space → ⊥)
        → IsKindThere w z kind
    here_kind w same z kind is apart = kind_there_of w z kind (same [] ∙ top_kind) (same z ∙ is) apart

    -- where its talk, or its fault, is the one that a thread is to serve, that serves nobody yet
    beside : (port server : Path) → AreBeside port server → (w : World) → (g : Site) → g.built ≡ w → IsIdleIn w server → IsFree g port server
    beside (j ∷ p) (k ∷ r) same w g built idle = record {
      space = p;
      port_slot = j;
      server_slot = k;
      port_is = refl;
      server_is = rw same refl;
      idle = rw built idle;
    }
    beside [] server same w g built idle = absurd same
    beside (j ∷ p) [] same w g built idle = absurd same

    talk_there : (talk : Talk) (server : Path) → t.talk ≡ Some talk → talk.peer ≡ Server (At server) → talks bind c server (c.body y) ≡ true
    talk_there talk server e s = rw (its.there, e, s) (same_path_refl server)

    fault_there : (fault : Fault) (taker : Path) → t.fault ≡ Some fault → fault.taker ≡ Some (Server (At taker)) → faults bind c taker (c.body y) ≡ true
    fault_there fault taker e s = rw (its.there, e, s) (same_path_refl taker)

    off_by : (a b : Bool) → (a ≡ true → b ≡ true) → b ≡ false → a ≡ false
    off_by false b less off = refl
    off_by true b less off = let clash = sym (less refl) ∙ off in cc

    idle_from : (talk : Talk) (port server : Path) → t.talk ≡ Some talk → talk.port ≡ At port → talk.peer ≡ Server (At server) → IsIdleIn from server
    idle_from talk port server e p s =
        let there = talk_there talk server e s in
        let old_here = body_old bind c new old done y (Thread_of t) its.there anew in
        idle_by bind c server from y (λ a b. one_service server a b) (by_talk bind c server y there) (led_talks bind c server new old done)
        (led_faults bind c server new old done)
        (rw (old_here, e, p) refl)
        (off_by (faults bind c server (from.body y)) (faults bind c server (c.body y)) (led_faults bind c server new old done y)
        (other_fault bind c server y (one_each server y) there))

    half_talks : (server z : Path) → talks bind c server (half.body z) ≡ true → talks bind c server (c.body z) ≡ true
    half_talks server z h = by (same_path z y) refl h
      where
        by : (b : Bool) → same_path z y ≡ b → talks bind c server (cond b (Some (bound bind mid y (Thread_of t))) (from.body z)) ≡ true
            → talks bind c server (c.body z) ≡ true
        by true e h = let same = same_path_eq z y e in rw (same, its.there) (talks_less bind c server mid y (Thread_of t) h)
        by false e h = led_talks bind c server new old done z h

    half_faults : (server z : Path) → faults bind c server (half.body z) ≡ true → faults bind c server (c.body z) ≡ true
    half_faults server z h = by (same_path z y) refl h
      where
        by : (b : Bool) → same_path z y ≡ b → faults bind c server (cond b (Some (bound bind mid y (Thread_of t))) (from.body z)) ≡ true
            → faults bind c server (c.body z) ≡ true
        by true e h = let same = same_path_eq z y e in rw (same, its.there) (faults_less bind c server mid y (Thread_of t) h)
        by false e h = led_faults bind c server new old done z h

    idle_half : (fault : Fault) (port taker : Path) → t.fault ≡ Some fault → fault.port ≡ At port → fault.taker ≡ Some (Server (At taker)) → IsIdleIn half taker
    idle_half fault port taker e p s =
        let there = fault_there fault taker e s in
        let half_here = halfway_there bind c new mid old done y (Thread_of t) its.there anew in
        idle_by bind c taker half y (λ a b. one_service taker a b) (by_fault bind c taker y there) (half_talks taker) (half_faults taker)
        (off_by (talks bind c taker (half.body y)) (talks bind c taker (c.body y)) (half_talks taker y) (other_talk bind c taker y (one_each taker y) there))
        (rw (half_here, e, p) refl)

    -- a talk between two inside
    ties : (talk : Talk) (port server : Path) → t.talk ≡ Some talk → talk.port ≡ At port → talk.peer ≡ Server (At server) → GivesTalk (Some talk)
        → IsPair bind c (At port) (Server (At server)) →
        Leaves slot Safe from q None half q None (leads_to_at slot T q port
        ++ (leads_to_at slot U q server ++ LinksTalk P q x T U port server (talk_words talk) ∷ []))
    unfolding apply
    ties talk port server e p s told aim g good =
        let edit = SetTalk (Some (inner_talk port server (talk_words talk))) in
        let to_port = leads_t slot Safe from q port g good (led_way bind c new old done port aim.0) in
        let to_server = leads_u slot Safe from q server to_port.site to_port.good (led_way bind c new old done server aim.2) in
        let site = to_server.site in
        let at_port : site.spot T ≡ Some (To (At port)) = to_server.others T refl ∙ to_port.to in
        let built = to_server.good.built in
        let next = ordered slot Safe from half q None site (LinksTalk P q x T U port server (talk_words talk))
        (apply (Alter y edit) site.built) to_server.good refl refl
        (ap (apply (Alter y edit)) built ∙ edit_half bind c new mid old done y (Thread_of t) its.there anew edit (talk_set y t talk port server e p s))
        (record {
          place = place_of slot Safe from q None site to_server.good (from_kinds q ∙ space);
          low = its.low;
          thread = rw built thread_here;
          scratch = refl;
          led = at_port;
          port_there = rw built (here_kind from from_kinds port kinds.Port aim.1 (λ e. cc));
          second = refl;
          served = to_server.to;
          server_there = rw built (here_kind from from_kinds server kinds.Thread aim.3 (λ e. cc));
        })
        (told.0, told.1, beside port server aim.4 from site built (idle_from talk port server e p s)) in
        record {
          site = next.site;
          runs = on slot Safe g to_port.site next.site _ _ to_port.runs (on slot Safe to_port.site site next.site _ _ to_server.runs next.runs);
          good = next.good;
        }

    talk_out : (talk : Talk) (j : ℕ) → t.talk ≡ Some talk → talk.port ≡ Out j → j ≤ LAST_USER_SLOT → Leaves slot Safe from q None half q None []
    talk_out talk j e p low = leaves_none slot Safe from half q None
        (to_half bind c new mid old done y (Thread_of t) its.there anew (rw (e, p, all_below j low) refl))

    talk_step : (o : Option Talk) → t.talk ≡ o → GivesTalk o → IsTalkAim bind c o → Leaves slot Safe from q None half q None (ties_its_talk slot q x o)
    talk_step None e told aim = leaves_none slot Safe from half q None (to_half bind c new mid old done y (Thread_of t) its.there anew (rw e refl))
    talk_step (Some talk) e told aim = by talk.port talk.peer refl refl aim
      where
        by : (port : Ptr) (peer : Peer) → talk.port ≡ port → talk.peer ≡ peer → IsPair bind c port peer
            → Leaves slot Safe from q None half q None (ties_talk slot q x talk port peer)
        by (At port) (Server (At server)) p s aim = ties talk port server e p s told aim
        by (Out j) (Server Outside) p s aim = talk_out talk j e p aim.0
        by (At port) (Server Null) p s aim = absurd aim
        by (At port) (Server Dead) p s aim = absurd aim
        by (At port) (Server (Out j)) p s aim = absurd aim
        by (At port) (Server Outside) p s aim = absurd aim
        by (At port) (Server Far) p s aim = absurd aim
        by (At port) Service p s aim = absurd aim
        by (At port) Parked p s aim = absurd aim
        by (Out j) (Server Null) p s aim = absurd aim
        by (Out j) (Server Dead) p s aim = absurd aim
        by (Out j) (Server (At z)) p s aim = absurd aim
        by (Out j) (Server (Out k)) p s aim = absurd aim
        by (Out j) (Server Far) p s aim = absurd aim
        by (Out j) Service p s aim = absurd aim
        by (Out j) Parked p s aim = absurd aim
        by Null peer p s aim = absurd aim
        by Dead peer p s aim = absurd aim
        by Outside peer p s aim = absurd aim
        by Far peer p s aim = absurd aim

    raises : (fault : Fault) (port : Path) → t.fault ≡ Some fault → fault.port ≡ At port → fault.taker ≡ None → GivesFault (Some fault)
        → IsWay (there c) port × (there c port ≡ Some kinds.Port) →
        Leaves slot Safe half q None to q None (leads_to_at slot T q port ++ RaisesFault P q x T port (fault_words fault) ∷ [])
    unfolding apply
    raises fault port e p s told aim g good =
        let edit = SetFault (Some (inner_fault port None (fault_words fault))) in
        let to_port = leads_t slot Safe half q port g good (halfway_way bind c new mid old done y (Thread_of t) its.there anew port aim.0) in
        let site = to_port.site in
        let built = to_port.good.built in
        let next = ordered slot Safe half to q None site (RaisesFault P q x T port (fault_words fault)) (apply (Alter y edit) site.built) to_port.good refl refl
        (ap (apply (Alter y edit)) built ∙ edit_rest bind c new mid old done y (Thread_of t) its.there anew edit (raise_set y t fault port e p s))
        (record {
          place = place_of slot Safe half q None site to_port.good (half_kinds q ∙ space);
          low = its.low;
          thread = rw built thread_half;
          scratch = refl;
          led = to_port.to;
          port_there = rw built (here_kind half half_kinds port kinds.Port aim.1 (λ e. cc));
        })
        told in
        record { site = next.site; runs = on slot Safe g site next.site _ _ to_port.runs next.runs; good = next.good }

    takes : (fault : Fault) (port taker : Path) → t.fault ≡ Some fault → fault.port ≡ At port → fault.taker ≡ Some (Server (At taker))
        → GivesFault (Some fault) → IsPair bind c (At port) (Server (At taker)) →
        Leaves slot Safe half q None to q None (leads_to_at slot T q port
        ++ (leads_to_at slot U q taker ++ LinksFault P q x T U port taker (fault_words fault) ∷ []))
    unfolding apply
    takes fault port taker e p s told aim g good =
        let edit = SetFault (Some (inner_fault port (Some taker) (fault_words fault))) in
        let way : (z : Path) → IsWay (there c) z → IsWay (there half) z = halfway_way bind c new mid old done y (Thread_of t) its.there anew in
        let to_port = leads_t slot Safe half q port g good (way port aim.0) in
        let to_taker = leads_u slot Safe half q taker to_port.site to_port.good (way taker aim.2) in
        let site = to_taker.site in
        let at_port : site.spot T ≡ Some (To (At port)) = to_taker.others T refl ∙ to_port.to in
        let built = to_taker.good.built in
        let next = ordered slot Safe half to q None site (LinksFault P q x T U port taker (fault_words fault))
        (apply (Alter y edit) site.built) to_taker.good refl refl
        (ap (apply (Alter y edit)) built ∙ edit_rest bind c new mid old done y (Thread_of t) its.there anew edit (taken_set y t fault port taker e p s))
        (record {
          place = place_of slot Safe half q None site to_taker.good (half_kinds q ∙ space);
          low = its.low;
          thread = rw built thread_half;
          scratch = refl;
          led = at_port;
          port_there = rw built (here_kind half half_kinds port kinds.Port aim.1 (λ e. cc));
          second = refl;
          served = to_taker.to;
          server_there = rw built (here_kind half half_kinds taker kinds.Thread aim.3 (λ e. cc));
        })
        (told.0, told.1, beside port taker aim.4 half site built (idle_half fault port taker e p s)) in
        record {
          site = next.site;
          runs = on slot Safe g to_port.site next.site _ _ to_port.runs (on slot Safe to_port.site site next.site _ _ to_taker.runs next.runs);
          good = next.good;
        }

    fault_out : (fault : Fault) (j : ℕ) → t.fault ≡ Some fault → fault.port ≡ Out j → j ≤ LAST_USER_SLOT → Leaves slot Safe half q None to q None []
    fault_out fault j e p low = leaves_none slot Safe half to q None
        (from_half bind c new mid old done y (Thread_of t) its.there anew (rw (e, p, all_below j low) refl))

    fault_step : (o : Option Fault) → t.fault ≡ o → GivesFault o → IsFaultAim bind c o → Leaves slot Safe half q None to q None (ties_its_fault slot q x o)
    fault_step None e told aim = leaves_none slot Safe half to q None (from_half bind c new mid old done y (Thread_of t) its.there anew (rw e refl))
    fault_step (Some fault) e told aim = by fault.port fault.taker refl refl aim
      where
        by : (port : Ptr) (taker : Option Peer) → fault.port ≡ port → fault.taker ≡ taker → IsTakenAim bind c port taker
            → Leaves slot Safe half q None to q None (ties_fault slot q x fault port taker)
        by (At port) None p s aim = raises fault port e p s told aim
        by (At port) (Some (Server (At taker))) p s aim = takes fault port taker e p s told aim
        by (Out j) None p s aim = fault_out fault j e p aim.0
        by (Out j) (Some (Server Outside)) p s aim = fault_out fault j e p aim.0
        by (At port) (Some (Server Null)) p s aim = absurd aim
        by (At port) (Some (Server Dead)) p s aim = absurd aim
        by (At port) (Some (Server (Out j))) p s aim = absurd aim
        by (At port) (Some (Server Outside)) p s aim = absurd aim
        by (At port) (Some (Server Far)) p s aim = absurd aim
        by (At port) (Some Service) p s aim = absurd aim
        by (At port) (Some Parked) p s aim = absurd aim
        by (Out j) (Some (Server Null)) p s aim = absurd aim
        by (Out j) (Some (Server Dead)) p s aim = absurd aim
        by (Out j) (Some (Server (At z))) p s aim = absurd aim
        by (Out j) (Some (Server (Out k))) p s aim = absurd aim
        by (Out j) (Some (Server Far)) p s aim = absurd aim
        by (Out j) (Some Service) p s aim = absurd aim
        by (Out j) (Some Parked) p s aim = absurd aim
        by Null None p s aim = absurd aim
        by Dead None p s aim = absurd aim
        by Outside None p s aim = absurd aim
        by Far None p s aim = absurd aim
        by Null (Some peer) p s aim = absurd aim
        by Dead (Some peer) p s aim = absurd aim
        by Outside (Some peer) p s aim = absurd aim
        by Far (Some peer) p s aim = absurd aim

    thread_tied : Leaves slot Safe from q None to q None (ties_its_talk slot q x t.talk ++ ties_its_fault slot q x t.fault)
    thread_tied = leaves_on slot Safe from q None half q None to q None (ties_its_talk slot q x t.talk) (ties_its_fault slot q x t.fault)
        (talk_step t.talk refl its.told.0 its.aims.0) (fault_step t.fault refl its.told.1 its.aims.1)

  -- ---- what leads inside, or out, is led already

  pointer_alike : (b : Body) (p : Ptr) → IsAim bind c b p → shown_ptr (is_led_below 240) p ≡ shown_ptr anywhere p
  pointer_alike b Null aim = refl
  pointer_alike b Dead aim = refl
  pointer_alike b (At z) aim = refl
  pointer_alike b (Out j) aim = rw (all_below j aim.0) refl
  pointer_alike b Outside aim = absurd aim
  pointer_alike b Far aim = absurd aim

  talk_alike : (o : Option Talk) → IsTalkAim bind c o → is_talk_inside o ≡ false → shown_talk (is_out_below 240) o ≡ shown_talk anywhere o
  talk_alike None aim off = refl
  talk_alike (Some talk) aim off = by talk.port talk.peer refl aim off
    where
      by : (p : Ptr) (peer : Peer) → talk.port ≡ p → IsPair bind c p peer → is_talk_inside (Some talk) ≡ false
          → shown_talk (is_out_below 240) (Some talk) ≡ shown_talk anywhere (Some talk)
      by (Out j) (Server Outside) e aim off = rw (e, all_below j aim.0) refl
      by (At z) peer e aim off = let on : is_talk_inside (Some talk) ≡ true = rw e refl in let both = sym on ∙ off in cc
      by (Out j) (Server Null) e aim off = absurd aim
      by (Out j) (Server Dead) e aim off = absurd aim
      by (Out j) (Server (At z)) e aim off = absurd aim
      by (Out j) (Server (Out k)) e aim off = absurd aim
      by (Out j) (Server Far) e aim off = absurd aim
      by (Out j) Service e aim off = absurd aim
      by (Out j) Parked e aim off = absurd aim
      by Null peer e aim off = absurd aim
      by Dead peer e aim off = absurd aim
      by Outside peer e aim off = absurd aim
      by Far peer e aim off = absurd aim

  fault_alike : (o : Option Fault) → IsFaultAim bind c o → is_fault_inside o ≡ false → shown_fault (is_out_below 240) o ≡ shown_fault anywhere o
  fault_alike None aim off = refl
  fault_alike (Some fault) aim off = by fault.port fault.taker refl aim off
    where
      shown : (j : ℕ) → fault.port ≡ Out j → j ≤ LAST_USER_SLOT → shown_fault (is_out_below 240) (Some fault) ≡ shown_fault anywhere (Some fault)
      shown j e low = rw (e, all_below j low) refl

      by : (p : Ptr) (taker : Option Peer) → fault.port ≡ p → IsTakenAim bind c p taker → is_fault_inside (Some fault) ≡ false
          → shown_fault (is_out_below 240) (Some fault) ≡ shown_fault anywhere (Some fault)
      by (Out j) None e aim off = shown j e aim.0
      by (Out j) (Some (Server Outside)) e aim off = shown j e aim.0
      by (At z) taker e aim off = let on : is_fault_inside (Some fault) ≡ true = rw e refl in let both = sym on ∙ off in cc
      by (Out j) (Some (Server Null)) e aim off = absurd aim
      by (Out j) (Some (Server Dead)) e aim off = absurd aim
      by (Out j) (Some (Server (At z))) e aim off = absurd aim
      by (Out j) (Some (Server (Out k))) e aim off = absurd aim
      by (Out j) (Some (Server Far)) e aim off = absurd aim
      by (Out j) (Some Service) e aim off = absurd aim
      by (Out j) (Some Parked) e aim off = absurd aim
      by Null None e aim off = absurd aim
      by Dead None e aim off = absurd aim
      by Outside None e aim off = absurd aim
      by Far None e aim off = absurd aim
      by Null (Some peer) e aim off = absurd aim
      by Dead (Some peer) e aim off = absurd aim
      by Outside (Some peer) e aim off = absurd aim
      by Far (Some peer) e aim off = absurd aim

  or_off : (a b : Bool) → (a || b) ≡ false → (a ≡ false) × (b ≡ false)
  or_off true b h = cc
  or_off false b h = (refl, h)

  pub tie_idle : (q : Path) (x : ℕ) (b : Body) → IsAble bind c q x b → ties_inside b ≡ false → bound bind old (x ∷ q) b ≡ bound bind new (x ∷ q) b
  tie_idle q x (Mapping w) its off = rw (pointer_alike (Mapping w) w.region its.aims) refl
  tie_idle q x (Region r) its off = rw (pointer_alike (Region r) r.keeper its.aims) refl
  tie_idle q x (Reference to) its off = rw (pointer_alike (Reference to) to its.aims) refl
  tie_idle q x (Thread_of t) its off = let both = or_off (is_talk_inside t.talk) (is_fault_inside t.fault) off in
      rw (talk_alike t.talk its.aims.0 both.0, fault_alike t.fault its.aims.1 both.1) refl
  tie_idle q x (Mutex locked) its off = refl
  tie_idle q x Cond its off = refl
  tie_idle q x (Port set served) its off = refl
  tie_idle q x Portset its off = refl
  tie_idle q x (Space birth holder) its off = refl

  quiet : (q : Path) (x : ℕ) (b : Body) (done : List Path) → IsAble bind c q x b → ties_inside b ≡ false
      → Leaves slot Safe (world done) q None (world ((x ∷ q) ∷ done)) q None []
  quiet q x b done its off = leaves_none slot Safe (world done) (world ((x ∷ q) ∷ done)) q None
      (led_alike bind c new old done (x ∷ q) b its.there (tie_idle q x b its off))

  pub tie_item : (q : Path) (x : ℕ) (b : Body) (done : List Path) → there c q ≡ Some kinds.Space → IsWay (there c) q → IsAble bind c q x b
      → is_among (x ∷ q) done ≡ false →
      Leaves slot Safe (world done) q None (world ((x ∷ q) ∷ done)) q None (ties_body slot q x b)
  tie_item q x (Thread_of t) done space way its anew = thread_tied q x t done space its anew
  tie_item q x (Mapping w) done space way its anew = quiet q x (Mapping w) done its refl
  tie_item q x (Region r) done space way its anew = quiet q x (Region r) done its refl
  tie_item q x (Reference to) done space way its anew = quiet q x (Reference to) done its refl
  tie_item q x (Mutex locked) done space way its anew = quiet q x (Mutex locked) done its refl
  tie_item q x Cond done space way its anew = quiet q x Cond done its refl
  tie_item q x (Port set served) done space way its anew = quiet q x (Port set served) done its refl
  tie_item q x Portset done space way its anew = quiet q x Portset done its refl
  tie_item q x (Space birth holder) done space way its anew = quiet q x (Space birth holder) done its refl
