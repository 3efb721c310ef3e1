-- Up to the first move that peeks, what others do beside a pager is a run of the first world.
use Rattle.std.proofs.Common.{◌≡◌, ℕ, ◌≤◌, Bool, true, false, not, nat_le, List, [], ◌∷◌, ◌++◌, length, Option, Some, None, option_map, refl, sym, ap, subst, ◌∙◌, arith}
use Rattle.std.proofs.lemmas.Bool.{and_parts, le-leb}
use Rattle.std.proofs.lemmas.Option.{same_Some}
use Rattle.fk_model.specs.declared.limits.TheConstants.{LAST_PORTER_SLOT, LAST_USER_SLOT}
use Rattle.fk_model.specs.declared.moves.Ask.{Ask}
use Rattle.fk_model.specs.declared.moves.Ask.TheVariants as asks
use Rattle.fk_model.specs.declared.moves.Move.{Move}
use Rattle.fk_model.specs.declared.names.Who.{Who}
use Rattle.fk_model.specs.Endings.{has_ended}
use Rattle.fk_model.specs.Places.{Path, same_path}
use Rattle.fk_model.specs.Places.Ptr.{At}
use Rattle.fk_model.specs.Objects.{Mode, Thread, Body, port_of, and_then, holds}
use Rattle.fk_model.specs.Objects.Mode.{Running, Calling, Halted, Native}
use Rattle.fk_model.specs.Objects.Body.{Mutex, Cond, Mapping, Region, Port, Portset, Space, Thread_of, Reference}
use Rattle.fk_model.specs.World.{World}
use Rattle.fk_model.specs.Holds.{is_porter}
use Rattle.fk_model.specs.StateRows.{is_native}
use Rattle.fk_model.specs.Outcomes.{Said}
use Rattle.fk_model.specs.Outcomes.Said.{Nothing, Answered, Taken, Words, Given, Full, Passed, Ended}
use Rattle.fk_model.specs.Outcomes.{when}
use Rattle.fk_model.specs.Moves.{Step, IsReady, GoesAllowed, outcome, goes_on, step}
use Rattle.fk_model.specs.Runs.{Event, after, run}
use Rattle.fk_model.specs.Valid.{is_served_port, IsValid}
use Rattle.fk_model.specs.Who.{named, event_of}
use Rattle.fk_model.proofs.walks.PlaceLaws.{same_path_ne}
use Rattle.laws_moves.specs.Frozen.Users.{is_users}
use Rattle.laws_moves.proofs.InMachine.validity.Steps.{step_keeps_valid_lem}
use Rattle.laws_migrate.specs.Porters.{HasPorter}
use Rattle.laws_migrate.proofs.Porters.{root_keeps_porter}
use Rattle.laws_filled.specs.Filled.{Paging, filled, unfaulted}
use Rattle.laws_filled.specs.Laws.{is_others}
use Rattle.laws_filled.specs.Heard.{Heard, heard_of, is_for_nobody, IsSilent, HearAlike}
use Rattle.laws_filled.specs.Heard.HearAlike.{First_alone}
use Rattle.laws_filled.specs.Pager as pagers
use Rattle.laws_filled.specs.Pager.{Desk, Phase, State, paging, is_opening, call_of, said_of, hears, IsOthers, IsOwn, IsAt, IsGood, IsFirst, AreWithin}
use Rattle.laws_filled.specs.Pager.{struck as struck_events}
use Rattle.laws_filled.specs.Pager.Phase.{Seeking, Taking, Waiting, Looking, Evicting, Giving, Ending}
use Rattle.laws_filled.specs.Pager.IsPaged.{Here as Nobody_moves, Own as Pager_moves}
use Rattle.laws_filled.proofs.Moves.{filled_moves_alike_lem, raises_are_unseen_lem}
use Rattle.laws_filled.proofs.Servers.{names_lead_alike_lem, ports_are_served_alike_lem, talks_end_alike_lem, unseen_ends_no_talk_lem}
use Rattle.laws_filled.proofs.Own.{own, others-good}
use Rattle.laws_filled.proofs.First.{first-good, pagers_are_hidden_lem}
use Rattle.laws_filled.proofs.Heard.{servers_hear_alike_lem}
use Rattle.fk_host.specs.Served.{Services, asked, asked_at, news_at, said_at, after_news}
use Rattle.fk_host.proofs.Acts.{fit-asked, servers_ask_as_users}
use Rattle.fk_pager.specs.Desks.{root, desk_of_root}
use Rattle.fk_pager.specs.Runs.{Moment, heard_by, IsOthersMove, by_others, IsPagersMove, by_pager, pagers_event, IsRun, peeks_now, raises_now, is_dark, unless_raised, struck, IsPlainRun}
use Rattle.fk_pager.specs.Runs.IsRun.{Begins, Others, Own}
use Rattle.fk_pager.specs.Runs.IsPlainRun.{Starts, Goes}
use Rattle.fk_pager.specs.Unseen.{IsBeginning, scene_of, filled_scene, PagersAreHidden}
use Rattle.fk_pager.proofs.Begins.{desks_are_first_lem}

abbrev me : Path
me = LAST_PORTER_SLOT ∷ root

-- ---- the porter makes no move of a user

no-port : (o : Option Body) → holds is_native o ≡ true → holds (λ (port : Option ℕ × Bool). port.1) (and_then port_of o) ≡ false
no-port None native = cc
no-port (Some (Thread_of t)) native = refl
no-port (Some (Port set served)) native = cc
no-port (Some b) native = refl

rests : (w : World) (x : Path) (pick : Option Path) → holds is_native (w.body x) ≡ true → IsReady w x pick asks.Run → ⊥
unfolding outcome
rests w x pick native ready = by (w.body x) refl native
  where
    at-mode : (t : Thread) (mode : Mode) → is_porter mode ≡ true → (b : Bool) → GoesAllowed w x (when b (goes_on w x pick t mode)) → ⊥
    at-mode t (Native g) is true goes = goes
    at-mode t (Native g) is false goes = goes
    at-mode t (Running g) is b goes = cc
    at-mode t (Calling todo rest) is b goes = cc
    at-mode t (Halted g code) is b goes = cc

    by : (o : Option Body) → w.body x ≡ o → holds is_native o ≡ true → ⊥
    by (Some (Thread_of t)) e is = at-mode t t.mode is _ (rw e at ready)
    by None e is = cc
    by (Some (Mutex locked)) e is = cc
    by (Some Cond) e is = cc
    by (Some (Mapping m)) e is = cc
    by (Some (Region r)) e is = cc
    by (Some (Port set served)) e is = cc
    by (Some Portset) e is = cc
    by (Some (Space birth holder)) e is = cc
    by (Some (Reference to)) e is = cc

pub not-porter : (services : Services) (w : World) (who : Who) (pick : Option Path) (ask : Ask) → HasPorter w → asked services w who ≡ Some ask →
    IsReady w (named w who) pick ask → same_path me (named w who) ≡ false
not-porter services w who pick ask native asks_it ready = same_path_ne me (named w who) (λ e.
    let here : holds is_native (w.body (named w who)) ≡ true = subst (λ y. holds is_native (w.body y) ≡ true) e native in
    let runs : asked services w who ≡ Some asks.Run = ap (λ (b : Bool). asked_at b services who) (no-port (w.body (named w who)) here) in
    let same : asks.Run ≡ ask = same_Some asks.Run ask (sym runs ∙ asks_it) in
    rests w (named w who) pick here (subst (λ a. IsReady w (named w who) pick a) (sym same) ready))

pub users-others : (ask : Ask) → is_users ask ≡ true → is_others ask ≡ true
users-others asks.Run is = refl
users-others (asks.Call stage words) is = cc
users-others asks.Accept is = refl
users-others (asks.Give words len) is = refl
users-others asks.Over is = refl

-- ---- native servers

said-nobody : (said : Said) (port : Path) → is_for_nobody said ≡ true → said_at said port ≡ None
said-nobody Nothing port nobody = refl
said-nobody (Answered status words) port nobody = refl
said-nobody (Taken to client resumed turn moved) port nobody = cc
said-nobody (Words to words) port nobody = cc
said-nobody (Given to count) port nobody = cc
said-nobody (Full to) port nobody = cc
said-nobody (Passed to) port nobody = cc
said-nobody (Ended to) port nobody = cc

-- who hears nothing stays as it is
still : (w : World) (e : Event) (services : Services) → is_for_nobody (said_of w e) ≡ true → ((port : Path) → has_ended w (after w e) port ≡ false) →
    heard_by w e services ≡ services
still w e [] nobody none = refl
still w e (s ∷ ss) nobody none = λ i. (s.0, after_news (quiet i) s.1) ∷ still w e ss nobody none i
  where
    quiet : news_at w e (named w s.0) ≡ None
    quiet = rw (none (named w s.0), said-nobody (said_of w e) (named w s.0) nobody) refl

module _ (p : Paging) (w : World) where
  abbrev F : World
  F = filled p w

  names : named F ≡ named w
  names = λ i who. names_lead_alike_lem p w who i

  pub asked-same : (services : Services) (who : Who) → asked services F who ≡ asked services w who
  asked-same services who = ap (λ (b : Bool). asked_at b services who)
      (ap (λ x. is_served_port F (At x)) (names_lead_alike_lem p w who) ∙ ports_are_served_alike_lem p w (At (named w who)))

  pub event-same : (ask : Ask) (m : Move) → event_of F ask m ≡ event_of w ask m
  event-same ask m = λ i. record { mover = names i m.who; pick = option_map (names i) m.pick; ask = ask }

  module _ (e : Event) (said : said_of F e ≡ said_of w e) (same : after F e ≡ filled p (after w e)) where
    news-same : (who : Who) → news_at F e (named F who) ≡ news_at w e (named w who)
    news-same who = ap (news_at F e) (names_lead_alike_lem p w who) ∙ by (named w who)
      where
        ended : (port : Path) → has_ended F (after F e) port ≡ has_ended w (after w e) port
        ended port = ap (λ (v : World). has_ended F v port) same ∙ talks_end_alike_lem p w (after w e) port

        by : (port : Path) → news_at F e port ≡ news_at w e port
        by port = rw (ended port, said) refl

    heard-same : (services : Services) → heard_by F e services ≡ heard_by w e services
    heard-same [] = refl
    heard-same (s ∷ ss) = λ i. (s.0, after_news (news-same s.0 i) s.1) ∷ heard-same ss i

-- ---- who stands where

pub native-blind : (p : Paging) (o : Option Body) → holds is_native (option_map (unfaulted p) o) ≡ holds is_native o
native-blind p None = refl
native-blind p (Some (Thread_of t)) = refl
native-blind p (Some b) = refl

pub not-true : (b : Bool) → not b ≡ true → b ≡ false
not-true true e = cc
not-true false e = refl

alone : (h : Heard) → HearAlike (h ∷ []) [] → IsSilent h
alone h (First_alone _ _ _ silent rest) = silent

module _ (slot port set room : ℕ) (low : slot ≤ LAST_USER_SLOT) (some : 1 ≤ room) where
  abbrev d : Desk
  d = desk_of_root slot port set room

  pub is_low : nat_le slot LAST_USER_SLOT ≡ true
  is_low = le-leb slot LAST_USER_SLOT low

  pub record IsStanding (first : Moment) (others : List Move) (at : Moment) : Type 0 where
    pub good : IsGood d at.world at.state
    pub porter : HasPorter at.world
    pub run : IsPlainRun (scene_of first) others (filled_scene d at)
    pub valid : IsValid (filled (paging d at.state) at.world)

  -- ---- a move of another

  module _ (first : Moment) (past : List Move) (at : Moment) (m : Move) (ask : Ask) (so : IsStanding first past at) (move : IsOthersMove at m ask)
      (dark : peeks_now d at m ask ≡ false) where
    abbrev w : World
    w = at.world

    abbrev e : Event
    e = event_of at.world ask m

    abbrev p : Paging
    p = paging d at.state

    pub is-others : IsOthers d w at.state e
    is-others = record {
      opened = move.opened;
      other = not-porter at.services w m.who (option_map (named w) m.pick) ask so.porter move.asks move.ready;
      asks = users-others ask (servers_ask_as_users at.services w m.who ask move.asks);
      dark = dark;
      ready = move.ready;
    }

    porter-stays : HasPorter (after w e)
    porter-stays = root_keeps_porter w e (record {
      valid = move.valid;
      few = move.few;
      fit = fit-asked at.services w m.who ask (named w m.who) move.asks;
      ready = move.ready;
      users = servers_ask_as_users at.services w m.who ask move.asks;
      other = is-others.other;
    }) so.porter

    good-stays : IsGood d (after w e) at.state
    good-stays = others-good d is_low some w at.state e is-others so.good

    raised : raises_now d at m ask ≡ true → IsPlainRun (scene_of first) past (filled_scene d (by_others at m ask))
    raised raising =
        let unseen = raises_are_unseen_lem p w e.mover e.pick e.ask so.good.paging is-others.other is-others.asks is-others.dark is-others.ready raising in
        let nobody : is_for_nobody (said_of w e) ≡ true = ap (λ (x : Step). is_for_nobody x.said) unseen.0 in
        let none = unseen_ends_no_talk_lem p p w (after w e) unseen.1 in
        subst (IsPlainRun (scene_of first) past) (λ i. record { world = sym unseen.1 i; services = sym (still w e at.services nobody none) i }) so.run

    calm : raises_now d at m ask ≡ false → IsPlainRun (scene_of first) (past ++ m ∷ []) (filled_scene d (by_others at m ask))
    calm none =
        let one = filled_moves_alike_lem p w e.mover e.pick e.ask so.good.paging is-others.other is-others.asks is-others.dark is-others.ready none in
        let same : after (filled p w) e ≡ filled p (after w e) = ap (λ (x : Step). x.world) one.1 in
        let said : said_of (filled p w) e ≡ said_of w e = ap (λ (x : Step). x.said) one.1 in
        let there : after (filled p w) (event_of (filled p w) ask m) ≡ filled p (after w e) = ap (after (filled p w)) (event-same p w ask m) ∙ same in
        let told : heard_by (filled p w) (event_of (filled p w) ask m) at.services ≡ heard_by w e at.services =
        ap (λ x. heard_by (filled p w) x at.services) (event-same p w ask m) ∙ heard-same p w e said same at.services in
        subst (IsPlainRun (scene_of first) (past ++ m ∷ [])) (λ i. record { world = there i; services = told i })
        (Goes past (filled_scene d at) m ask so.run (asked-same p w at.services m.who ∙ move.asks)
        (subst (λ (n : Who → Path). IsReady (filled p w) (n m.who) (option_map n m.pick) ask) (sym (names p w)) one.0))

    raised-valid : raises_now d at m ask ≡ true → IsValid (filled p (after w e))
    raised-valid raising =
        let unseen = raises_are_unseen_lem p w e.mover e.pick e.ask so.good.paging is-others.other is-others.asks is-others.dark is-others.ready raising in
        subst IsValid (sym unseen.1) so.valid

    calm-valid : raises_now d at m ask ≡ false → IsValid (filled p (after w e))
    calm-valid none =
        let one = filled_moves_alike_lem p w e.mover e.pick e.ask so.good.paging is-others.other is-others.asks is-others.dark is-others.ready none in
        let same : after (filled p w) e ≡ filled p (after w e) = ap (λ (x : Step). x.world) one.1 in
        let fit = fit-asked at.services (filled p w) m.who ask (named w m.who) (asked-same p w at.services m.who ∙ move.asks) in
        subst IsValid same (step_keeps_valid_lem (filled p w) e.mover e.pick e.ask so.valid move.few fit)

    by-others : IsStanding first (unless_raised (raises_now d at m ask) past m) (by_others at m ask)
    by-others = record { good = good-stays; porter = porter-stays; run = by (raises_now d at m ask) refl; valid = stays (raises_now d at m ask) refl }
      where
        stays : (b : Bool) → raises_now d at m ask ≡ b → IsValid (filled p (after w e))
        stays true raising = raised-valid raising
        stays false none = calm-valid none

        by : (b : Bool) → raises_now d at m ask ≡ b → IsPlainRun (scene_of first) (unless_raised b past m) (filled_scene d (by_others at m ask))
        by true raising = raised raising
        by false none = calm none

  -- ---- a call of the pager's

  by-pager : (first : Moment) (past : List Move) (at : Moment) (m : Move) → IsStanding first past at → IsPagersMove d at m →
      IsStanding first past (by_pager d at m)
  unfolding step struck_events
  by-pager first past at m so move =
      let w = at.world in
      let pick = option_map (named at.world) m.pick in
      let e = pagers_event d at m in
      let t = hears d at.state (said_of w e) in
      let comes = own d is_low some w at.state at.state.phase pick so.good move.own.picks move.own.ready in
      let alike = servers_hear_alike_lem d w at.state (e ∷ []) (after w e) t is_low some so.good
      (Pager_moves w at.state pick [] (after w e) t move.own (Nobody_moves (after w e) t)) in
      let silent : IsSilent (heard_of w e) = alone (heard_of w e) alike in
      record {
        good = comes.1;
        porter = sym (native-blind (paging d t) ((after w e).body me)) ∙ ap (λ (x : World). holds is_native (x.body me)) comes.0
            ∙ native-blind (paging d at.state) (w.body me) ∙ so.porter;
        run = subst (IsPlainRun (scene_of first) past)
            (λ i. record { world = sym comes.0 i; services = sym (still w e at.services silent.said silent.ended) i }) so.run;
        valid = subst IsValid (sym comes.0) so.valid;
      }

  -- ---- a run

  module _ (first : Moment) (begins : IsBeginning slot port set first) where
    is_first : IsFirst d first.world
    is_first = desks_are_first_lem slot port set room first.world begins.desk begins.valid begins.clear

    same-world : filled (paging d pagers.first) first.world ≡ first.world
    unfolding run struck_events
    same-world = sym (pagers_are_hidden_lem d first.world [] first.world pagers.first is_low some is_first (Nobody_moves first.world pagers.first)).world

    same-first : filled (paging d first.state) first.world ≡ first.world
    same-first = ap (λ (s : State). filled (paging d s) first.world) begins.state ∙ same-world

    stands-first : IsStanding first [] first
    stands-first = record {
      good = subst (λ (s : State). IsGood d first.world s) (sym begins.state) (first-good d first.world is_first);
      porter = begins.desk.nester;
      run = subst (IsPlainRun (scene_of first) [])
          (λ i. record { world = sym same-first i; services = first.services }) Starts;
      valid = subst IsValid (sym same-first) begins.valid;
    }

    pub stands : (moves : List Move) (at : Moment) (r : IsRun d first moves at) → is_dark r ≡ true → IsStanding first (struck r) at
    unfolding is_dark struck
    stands _ _ Begins dark = stands-first
    stands _ _ (Others past at m ask r move) dark =
        let both = and_parts (is_dark r) _ dark in
        by-others first (struck r) at m ask (stands past at r both.0) move (not-true _ both.1)
    stands _ _ (Own past at m r move) dark = by-pager first (struck r) at m (stands past at r dark) move

  within-at : (w : World) (s : State) (phase : Phase) → is_opening phase ≡ false → IsAt d w s phase → AreWithin d w s × (length s.inside ≤ d.room)
  within-at w s (Seeking from) opened at = cc
  within-at w s (Taking page) opened at = cc
  within-at w s Waiting opened at = (at.1, at.2)
  within-at w s (Looking page) opened at = (at.1, at.2)
  within-at w s (Evicting old page) opened at = (at.1, at.2)
  within-at w s (Giving page) opened at = (at.1, omega (arith, at.2))
  within-at w s (Ending page) opened at = (at.1, at.2)

pub pagers_are_hidden : PagersAreHidden
pagers_are_hidden slot port set room first moves at low some begins r dark =
    let so = stands slot port set room low some first begins moves at r dark in
    record { run = so.run; within = λ opened. within-at slot port set room low some at.world at.state at.state.phase opened so.good.phase }
