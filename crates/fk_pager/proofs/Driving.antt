-- A driver's turns are those of a run.
use Rattle.std.proofs.Common.{◌≡◌, ◌⊎◌, inl, inr, IfNone, ℕ, zero, suc, ◌+◌, ◌<◌, ◌≤◌, ltb, Bool, true, false, is_some, if◌then◌else◌, List, [], ◌∷◌, ◌++◌, length, length-append, append_assoc, append-nil, replicate, Option, Some, None, option_map, refl, sym, ap, subst, ◌∙◌, arith}
use Rattle.std.proofs.lemmas.Bool.{ltb-true, ltb-false}
use Rattle.std.proofs.lemmas.List.{length-replicate, replicate_more}
use Rattle.std.proofs.lemmas.Option.{slice_get_within}
use Rattle.std.specs.List.{slice_get}
use Rattle.fk_model.specs.declared.limits.TheConstants.{LAST_PORTER_SLOT, LAST_USER_SLOT}
use Rattle.fk_model.specs.declared.moves.Ask.{Ask}
use Rattle.fk_model.specs.declared.moves.Ask.TheVariants as asks
use Rattle.fk_model.specs.declared.moves.Move.{Move}
use Rattle.fk_model.specs.declared.moves.Said as says_of
use Rattle.fk_model.specs.declared.stage.Stage.{Stage}
use Rattle.fk_model.specs.declared.names.Who.{Who}
use Rattle.fk_model.specs.Objects.{and_then}
use Rattle.fk_model.specs.Places.{Path}
use Rattle.fk_model.specs.World.{World}
use Rattle.fk_model.specs.Searches.{depth}
use Rattle.fk_model.specs.Holds.{decider, is_unheld}
use Rattle.fk_model.specs.Moves.{Step, IsReady, step}
use Rattle.fk_model.specs.Runs.{Event, after}
use Rattle.fk_model.specs.Valid.{IsValid, is_fit}
use Rattle.fk_model.specs.Who.{named, event_of, space_born}
use Rattle.fk_store.specs.Store.Contents.{Contents}
use Rattle.fk_store.specs.Store.Moves.{said_by}
use Rattle.fk_store.specs.Store.World as worlds
use Rattle.fk_store.proofs.InStore.finding.Walks.{path-root}
use Rattle.fk_host.specs.Kernels.{Kept, path_of}
use Rattle.fk_host.specs.Kernels.{world_of as world}
use Rattle.fk_host.specs.Hosts.{AreQuietTurns, IsFitFor, IsFitWith, IsReadyWith, IsStepped, IsTurn, IsTurnFor}
use Rattle.fk_host.specs.Served.{Services, asked}
use Rattle.fk_host.specs.Acts.{IsReadyFor, IsReadyAsked}
use Rattle.fk_model.specs.Moves.{IsReady}
use Rattle.fk_host.proofs.Acts.{fit-asked}
use Rattle.fk_paging.specs.declared.pager.Page.{Page}
use Rattle.fk_model.specs.declared.moves.Said.TheVariants as says
use Rattle.fk_model.specs.Objects.{holds}
use Rattle.fk_model.specs.StateRows.{is_native}
use Rattle.laws_moves.specs.Whole.Runnable.{IsRunnable}
use Rattle.laws_migrate.specs.Porters.{HasPorter}
use Rattle.fk_paging.specs.declared.pager.Pager.{Pager}
use Rattle.fk_paging.specs.Pagers.{answered, page_words, backing_of, desk_of, state_of}
use Rattle.fk_model.specs.Searches.{fault_at}
use Rattle.laws_filled.specs.Filled.{is_paged}
use Rattle.laws_filled.specs.Pager.{Desk, Phase, State, paging, is_opening, stage_of, words_of, call_of, said_of, hears, IsPick, IsOwn}
use Rattle.laws_filled.specs.Pager.Phase.{Seeking, Taking, Waiting, Looking, Evicting, Giving, Ending}
use Rattle.fk_pager.specs.Desks.{root}
use Rattle.fk_pager.specs.Driven.{moment, desk, is_waiting, HasGrown, HearsWell, IsTurnReady, Drives}
use Rattle.fk_pager.specs.Faults.{is_fault_of}
use Rattle.fk_pager.specs.declared.driver.PagedRun as driver
use Rattle.fk_pager.proofs.Searching.{root-place}
use Rattle.fk_pager.proofs.Phases.{stays-done}
use Rattle.fk_pager.proofs.Rows.{opening-ready, opening-keeps, good-answers}
use Rattle.fk_pager.specs.Runs.{Moment, heard_by, IsOthersMove, IsPagersMove, pagers_event, IsRun, GoesOn}
use Rattle.fk_pager.specs.Runs.IsRun.{Begins, Others, Own}
use Rattle.fk_pager.specs.Ends.{IsAnyReady, IsAtRest, IsEnd}
use Rattle.fk_report.specs.declared.end.End.TheVariants as ends
use Rattle.fk_pager.specs.declared.driver.Turn.{Turn}
use Rattle.fk_pager.specs.declared.driver.Turn.TheVariants as turns
use Rattle.fk_pager.specs.Paged.{opened_by, IsPaged}
use Rattle.fk_report.specs.declared.end.End.{End}

-- ---- names

-- an object of the root, by its name
pub named-root : (k : Kept) → path_of k ≡ space_born (world k) → (slot : ℕ) → named (world k) (record { space = 0; slot = slot }) ≡ slot ∷ root
named-root k born slot = ap (λ (p : ℕ → Path). slot ∷ p 0) (sym born) ∙ ap (λ (s : Path). slot ∷ s) (path-root k.store)

-- an object has the path of its name
pub named-place : (k : Kept) → path_of k ≡ space_born (world k) → (who : Who) → named (world k) who ≡ worlds.place_of k.store who
named-place k born who = ap (λ (p : ℕ → Path). who.slot ∷ p who.space) (sym born)

-- nobody holds the root
pub root-unheld : (k : Kept) → is_unheld (world k) root ≡ true
unfolding worlds.world decider
root-unheld k = refl

-- ---- picks

pub no-pick : (d : Desk) (s : State) (w : World) (phase : Phase) → is_waiting phase ≡ false → IsPick d s w phase None
no-pick d s w (Seeking from) other = refl
no-pick d s w (Taking page) other = refl
no-pick d s w Waiting other = cc
no-pick d s w (Looking page) other = refl
no-pick d s w (Evicting old page) other = refl
no-pick d s w (Giving page) other = refl
no-pick d s w (Ending page) other = refl

pub picks-none : (d : Desk) (s : State) (w : World) (phase : Phase) (pick : Option Path) → is_waiting phase ≡ false → IsPick d s w phase pick → pick ≡ None
picks-none d s w (Seeking from) pick other picks = picks
picks-none d s w (Taking page) pick other picks = picks
picks-none d s w Waiting pick other picks = cc
picks-none d s w (Looking page) pick other picks = picks
picks-none d s w (Evicting old page) pick other picks = picks
picks-none d s w (Giving page) pick other picks = picks
picks-none d s w (Ending page) pick other picks = picks

pub waits-for : (phase : Phase) → is_waiting phase ≡ true → phase ≡ Waiting
waits-for (Seeking from) is = cc
waits-for (Taking page) is = cc
waits-for Waiting is = refl
waits-for (Looking page) is = cc
waits-for (Evicting old page) is = cc
waits-for (Giving page) is = cc
waits-for (Ending page) is = cc

pub none-other : (d : Desk) (s : State) (w : World) → is_waiting s.phase ≡ false → (IsOwn d w s None → ⊥) → (pick : Option Path) → IsOwn d w s pick → ⊥
none-other d s w other none pick own = none (subst (IsOwn d w s) (picks-none d s w s.phase pick other own.picks) own)

-- ---- its call is ready, or isn't

module _ (d : Desk) (k : Kept) (services : Services) (s : State) (who : Who) (pick : Option Who) (ask : Ask) (nester : d.nester ≡ root)
    (valid : IsValid (world k)) (few : (world k).next ≤ depth) (born : path_of k ≡ space_born (world k))
    (porter : who ≡ record { space = 0; slot = LAST_PORTER_SLOT }) (asks_it : ask ≡ asks.Call (stage_of d s.phase) (words_of s s.phase)) where
  abbrev move : Move
  move = record { who = who; pick = pick }

  abbrev picked : Option Path
  picked = option_map (named (world k)) pick

  pub placed : named (world k) who ≡ LAST_PORTER_SLOT ∷ d.nester
  placed = ap (named (world k)) porter ∙ named-root k born LAST_PORTER_SLOT ∙ ap (λ (x : Path). LAST_PORTER_SLOT ∷ x) (sym nester)

  pub call-ready : IsPick d s (world k) s.phase picked → IsReadyWith services (world k) move ask → IsOwn d (world k) s picked
  call-ready picks ready = record {
    valid = valid;
    few = few;
    picks = picks;
    ready = subst (λ (x : Path). IsReady (world k) x picked (asks.Call (stage_of d s.phase) (words_of s s.phase))) placed
        (subst (λ (a : Ask). IsReadyWith services (world k) move a) asks_it ready);
  }

  pub call-unready : (IsReadyWith services (world k) move ask → ⊥) → IsOwn d (world k) s picked → ⊥
  call-unready none own =
      none (subst (λ (a : Ask). IsReadyWith services (world k) move a) (sym asks_it)
      (subst (λ (x : Path). IsReady (world k) x picked (asks.Call (stage_of d s.phase) (words_of s s.phase))) (sym placed) own.ready))

-- a test that is never met
pub unmet : (b : Bool) (P : Type 0) → (P → b ≡ true) → b ≡ false → P → ⊥
unmet b P meets none p = let is = meets p in cc

-- ---- whose fault it takes

pub fault-there : (m n : Contents) (port who : Who) (pages list : List Page) (b : Bool) → n ≡ m → list ≡ pages →
    b ≡ holds (is_fault_of (worlds.place_of n port) (backing_of list)) (fault_at (worlds.world n) (worlds.place_of n who)) →
    b ≡ holds (is_fault_of (worlds.place_of m port) (backing_of pages)) (fault_at (worlds.world m) (worlds.place_of m who))
fault-there m n port who pages list b same all is =
    is ∙ ap (λ (x : Contents). holds (is_fault_of (worlds.place_of x port) (backing_of list)) (fault_at (worlds.world x) (worlds.place_of x who))) same
    ∙ ap (λ (x : List Page). holds (is_fault_of (worlds.place_of m port) (backing_of x)) (fault_at (worlds.world m) (worlds.place_of m who))) all

module _ (d : Desk) (k : Kept) (s : State) (who port : Who) (nester : d.nester ≡ root) (waits : s.phase ≡ Waiting)
    (is_port : port ≡ record { space = 0; slot = d.port }) where
  abbrev place : Path
  place = worlds.place_of k.store who

  same-fault : holds (is_fault_of (worlds.place_of k.store port) s.backing) (fault_at (world k) place)
      ≡ holds (is_paged (paging d s)) (fault_at (world k) place)
  same-fault =
      ap (λ (x : Path). holds (is_fault_of x s.backing) (fault_at (world k) place))
      (ap (worlds.place_of k.store) is_port ∙ root-place k.store d.port ∙ ap (λ (x : Path). d.port ∷ x) (sym nester))

  pub takes : path_of k ≡ space_born (world k) → holds (is_fault_of (worlds.place_of k.store port) s.backing) (fault_at (world k) place) ≡ true →
      IsPick d s (world k) s.phase (Some (named (world k) who))
  takes born is =
      subst (λ (phase : Phase). IsPick d s (world k) phase (Some (named (world k) who))) (sym waits)
      (subst (λ (y : Path). holds (is_paged (paging d s)) (fault_at (world k) y) ≡ true) (sym (named-place k born who)) (sym same-fault ∙ is))

  pub takes-none : holds (is_fault_of (worlds.place_of k.store port) s.backing) (fault_at (world k) place) ≡ false →
      IsOwn d (world k) s (Some place) → ⊥
  takes-none none own =
      let is : holds (is_paged (paging d s)) (fault_at (world k) place) ≡ true =
      subst (λ (phase : Phase). IsPick d s (world k) phase (Some place)) waits own.picks in
      let other : holds (is_paged (paging d s)) (fault_at (world k) place) ≡ false = sym same-fault ∙ none in
      cc

-- ---- what it asks is fit

-- so is what others ask
pub fit-others : (services : Services) (w : World) (m : Move) → IsFitFor w m (asked services w m.who)
fit-others services w m = by (asked services w m.who) refl
  where
    by : (o : Option Ask) → asked services w m.who ≡ o → IsFitFor w m o
    by None e = tt
    by (Some ask) e = fit-asked services w m.who ask (named w m.who) e

pub fit-call : (d : Desk) (s : State) (w : World) (x : Path) (phase : Phase) → is_fit w x (asks.Call (stage_of d phase) (words_of s phase)) ≡ true
unfolding is_fit
fit-call d s w x (Seeking from) = refl
fit-call d s w x (Taking page) = refl
fit-call d s w x Waiting = refl
fit-call d s w x (Looking page) = refl
fit-call d s w x (Evicting old page) = refl
fit-call d s w x (Giving page) = refl
fit-call d s w x (Ending page) = refl

pub fit-own : (d : Desk) (s : State) (services : Services) (w : World) (move : Move) (ask : Ask) →
    ask ≡ asks.Call (stage_of d s.phase) (words_of s s.phase) → IsFitWith services w move ask
fit-own d s services w move ask is =
    subst (λ (a : Ask). IsFitWith services w move a) (sym is) (fit-call d s w (named w move.who) s.phase)

-- pages of its list are pages of a space
pub listed-few : (pages : List Page) → length pages ≡ 256 → (page : ℕ) → is_some (backing_of pages page) ≡ true → page < 256
listed-few pages whole page listed = by (slice_get pages page) refl listed
  where
    by : (o : Option Page) → slice_get pages page ≡ o → is_some (and_then page_words o) ≡ true → page < 256
    by None e is = cc
    by (Some there) e is = let within = slice_get_within pages page there e in omega (arith, within, whole)

-- ---- turns

module _ (d : Desk) (m n : Kept) (services new : Services) (s t : State) (opened : ℕ) where
  abbrev at : Moment
  at = record { world = world m; services = services; state = s; opened = opened }

  -- its porter's call is the pager's event
  pub own-event : (move : Move) (ask : Ask) → IsPagersMove d at move → ask ≡ asks.Call (stage_of d s.phase) (words_of s s.phase) →
      event_of (world m) ask move ≡ pagers_event d at move
  own-event move ask is asks_it = λ i. record { mover = is.porter i; pick = option_map (named (world m)) move.pick; ask = asks_it i }

  module _ (move : Move) (is : IsPagersMove d at move) (said : says_of.Said)
      (turn : IsStepped m services (event_of (world m) (asks.Call (stage_of d s.phase) (words_of s s.phase)) move) said n new) where
    abbrev e : Event
    e = pagers_event d at move

    same-event : event_of (world m) (asks.Call (stage_of d s.phase) (words_of s s.phase)) move ≡ e
    same-event = own-event move _ is refl

    stepped : step (world m) e.mover e.pick e.ask ≡ record { world = world n; said = said_by (path_of n) said }
    stepped = ap (λ (x : Event). step (world m) x.mover x.pick x.ask) (sym same-event) ∙ turn.step

    pub own-world : after (world m) e ≡ world n
    own-world = ap (λ (x : Step). x.world) stepped

    pub own-said : said_of (world m) e ≡ said_by (path_of n) said
    own-said = ap (λ (x : Step). x.said) stepped

    own-heard : new ≡ heard_by (world m) e services
    own-heard = turn.hears ∙ ap (λ x. heard_by (world m) x services) same-event

    pub own-goes : (past : List Move) → t ≡ hears d s (said_by (path_of n) said) →
        GoesOn d past at (past ++ move ∷ [])
        (record { world = world n; services = new; state = t; opened = opened + (if is_opening s.phase then 1 else 0) })
    own-goes past hears_it first run =
        subst (IsRun d first (past ++ move ∷ [])) (λ i. record {
          world = ap (λ (x : Step). x.world) stepped i;
          services = sym own-heard i;
          state = (ap (hears d s) own-said ∙ sym hears_it) i;
          opened = opened + (if is_opening s.phase then 1 else 0);
        }) (Own past at move run is)

    -- the same where the list and the number are known by equations
    pub own-drives : (past moves : List Move) → moves ≡ past ++ move ∷ [] → t ≡ hears d s (said_by (path_of n) said) → (later : ℕ) →
        later ≡ opened + (if is_opening s.phase then 1 else 0) →
        GoesOn d past at moves (record { world = world n; services = new; state = t; opened = later })
    own-drives past moves longer hears_it later counts first run =
        subst (λ (l : ℕ). IsRun d first moves (record { world = world n; services = new; state = t; opened = l })) (sym counts)
        (subst (λ (ms : List Move). IsRun d first ms
        (record { world = world n; services = new; state = t; opened = opened + (if is_opening s.phase then 1 else 0) })) (sym longer)
        (own-goes past hears_it first run))

  pub others-goes : (move : Move) (ask : Ask) (is : IsOthersMove at move ask) (said : says_of.Said) →
      IsStepped m services (event_of (world m) ask move) said n new → (past : List Move) →
      GoesOn d past at (past ++ move ∷ []) (record { world = world n; services = new; state = s; opened = opened })
  others-goes move ask is said turn past first run =
      subst (IsRun d first (past ++ move ∷ [])) (λ i. record {
        world = ap (λ (x : Step). x.world) turn.step i;
        services = sym turn.hears i;
        state = s;
        opened = opened;
      }) (Others past at move ask run is)

  pub others-drive : (move : Move) (ask : Ask) (is : IsOthersMove at move ask) (said : says_of.Said) →
      IsStepped m services (event_of (world m) ask move) said n new → (past moves : List Move) → moves ≡ past ++ move ∷ [] →
      GoesOn d past at moves (record { world = world n; services = new; state = s; opened = opened })
  others-drive move ask is said turn past moves longer first run =
      subst (λ (ms : List Move). IsRun d first ms (record { world = world n; services = new; state = s; opened = opened })) (sym longer)
      (others-goes move ask is said turn past first run)

-- where nothing was done it is the same run
pub still-goes : (d : Desk) (w v : World) (services new : Services) (s : State) (opened : ℕ) (past moves : List Move) → v ≡ w → new ≡ services → moves ≡ past →
    GoesOn d past (record { world = w; services = services; state = s; opened = opened }) moves
    (record { world = v; services = new; state = s; opened = opened })
still-goes d w v services new s opened past moves same served longer first run =
    subst (λ (ms : List Move). IsRun d first ms (record { world = v; services = new; state = s; opened = opened })) (sym longer)
    (subst (IsRun d first past) (λ i. record { world = sym same i; services = sym served i; state = s; opened = opened }) run)

-- quiet turns of whoever moved last, one after the other
module _ (d : Desk) (services : Services) (s : State) (opened : ℕ) (move : Move) (closed : is_opening s.phase ≡ false) where
  abbrev at_world : World → Moment
  at_world w = record { world = w; services = services; state = s; opened = opened }

  quiet-run : (n : ℕ) (w v : World) → AreQuietTurns services move n w v → (past : List Move) (first : Moment) → IsRun d first past (at_world w) →
      IsRun d first (past ++ replicate n move) (at_world v)
  quiet-run zero w v led past first run =
      subst (λ (ms : List Move). IsRun d first ms (at_world v)) (sym (append-nil past)) (subst (λ (x : World). IsRun d first past (at_world x)) led run)
  quiet-run (suc n) w v led past first run =
      let u = led.0 in
      let turn = led.2 in
      let is : IsOthersMove (at_world u) move asks.Run =
      record { opened = closed; asks = turn.runs; valid = turn.valid; few = turn.few; ready = turn.ready } in
      let moves : (past ++ replicate n move) ++ move ∷ [] ≡ past ++ replicate (suc n) move =
      append_assoc past (replicate n move) (move ∷ []) ∙ ap (λ (ms : List Move). past ++ ms) (replicate_more n move ∙ ap (λ (k : ℕ). replicate k move) (one-more n)) in
      subst (λ (ms : List Move). IsRun d first ms (at_world v)) moves
      (subst (IsRun d first ((past ++ replicate n move) ++ move ∷ []))
      (λ i. record { world = turn.goes i; services = turn.hears i; state = s; opened = opened })
      (Others (past ++ replicate n move) (at_world u) move asks.Run (quiet-run n w u led.1 past first run) is))
    where
      one-more : (k : ℕ) → k + 1 ≡ suc k
      one-more k = omega arith

  -- the same where the list is known by an equation, and so are the servers
  pub quiet-drives : (n : ℕ) (w v : World) → AreQuietTurns services move n w v → (new : Services) → new ≡ services → (past moves : List Move) →
      moves ≡ past ++ replicate n move →
      GoesOn d past (at_world w) moves (record { world = v; services = new; state = s; opened = opened })
  quiet-drives n w v led new same past moves longer first run =
      subst (λ (l : Services). IsRun d first moves (record { world = v; services = l; state = s; opened = opened })) (sym same)
      (subst (λ (ms : List Move). IsRun d first ms (at_world v)) (sym longer) (quiet-run n w v led past first run))

-- it asks for the call of its stage with its words
pub asks-call : (d : Desk) (s : State) (stage : Stage) (words : List ℕ) → stage ≡ stage_of d s.phase → words ≡ words_of s s.phase →
    asks.Call stage words ≡ asks.Call (stage_of d s.phase) (words_of s s.phase)
asks-call d s stage words stages given = λ i. asks.Call (stages i) (given i)

-- which is ready where its move is
pub own-ready : (d : Desk) (at : Moment) (move : Move) (ask : Ask) → ask ≡ asks.Call (stage_of d at.state.phase) (words_of at.state at.state.phase) →
    IsPagersMove d at move → IsReadyWith at.services at.world move ask
own-ready d at move ask is ready =
    subst (λ (a : Ask). IsReadyWith at.services at.world move a) (sym is)
    (subst (λ (x : Path). IsReady at.world x (option_map (named at.world) move.pick) (asks.Call (stage_of d at.state.phase) (words_of at.state at.state.phase)))
    (sym ready.porter) ready.own.ready)

-- its turn is its call's
pub own-stepped : (d : Desk) (m n : Kept) (services new : Services) (s : State) (move : Move) (ask : Ask) (said : says_of.Said) →
    ask ≡ asks.Call (stage_of d s.phase) (words_of s s.phase) → IsTurn m services move ask said n new →
    IsStepped m services (event_of (world m) (asks.Call (stage_of d s.phase) (words_of s s.phase)) move) said n new
own-stepped d m n services new s move ask said is turn = subst (λ (a : Ask). IsTurn m services move a said n new) is turn

-- a move of the opening counts, any other doesn't
pub counts-most : (opened later : ℕ) (opening : Bool) → later ≡ opened + (if opening then 1 else 0) → later ≤ opened + 1
counts-most opened later true is = omega (arith, is)
counts-most opened later false is = omega (arith, is)

-- how far the list has grown
pub grown-by : (n most : ℕ) (past moves : List Move) (m : Move) → moves ≡ past ++ replicate n m → n ≤ most →
    HasGrown (ltb 0 n) (length past + most) (length past) (length moves)
grown-by n most past moves m longer few = by (ltb 0 n) refl
  where
    long : length moves ≡ length past + n
    long = ap length longer ∙ length-append past (replicate n m) ∙ ap (λ (k : ℕ). length past + k) (length-replicate n m)

    by : (made : Bool) → ltb 0 n ≡ made → HasGrown made (length past + most) (length past) (length moves)
    by true e = let some = ltb-true 0 n e in (omega (arith, long, some), omega (arith, long, few))
    by false e = let none = ltb-false 0 n e in omega (arith, long, none)

pub grown-one : (budget before between chosen after : ℕ) → before < budget → between ≡ before → chosen ≡ between → after ≡ chosen + 1 →
    HasGrown true budget before after
grown-one budget before between chosen after left still same more = (omega (arith, left, still, same, more), omega (arith, left, still, same, more))

pub grown-within : (made : Bool) (most budget before after : ℕ) → most ≤ budget → HasGrown made most before after → HasGrown made budget before after
grown-within true most budget before after few grown = let most_now = grown.1 in (grown.0, omega (arith, few, most_now))
grown-within false most budget before after few grown = grown

pub grown-then : (made : Bool) (most before between after : ℕ) → between ≡ before → HasGrown made most between after → HasGrown made most before after
grown-then true most before between after same grown = let later = grown.0 in (omega (arith, later, same), grown.1)
grown-then false most before between after same grown = grown ∙ same

pub few-more : (opened later : ℕ) (past moves : List Move) (move : Move) → moves ≡ past ++ move ∷ [] → opened ≤ length past → later ≤ opened + 1 →
    later ≤ length moves
few-more opened later past moves move longer few more =
    let long : length moves ≡ length past + 1 = ap length longer ∙ length-append past (move ∷ []) in
    omega (arith, long, few, more)

-- a move that a user or a server asks for
pub others-ready : (services : Services) (w : World) (s : State) (opened : ℕ) (move : Move) → is_opening s.phase ≡ false → IsValid w → w.next ≤ depth →
    IsReadyAsked services w move →
    (ask : Ask) × IsOthersMove (record { world = w; services = services; state = s; opened = opened }) move ask
others-ready services w s opened move closed valid few ready = by (asked services w move.who) refl ready
  where
    by : (o : Option Ask) → asked services w move.who ≡ o → IsReadyFor w move o →
        (ask : Ask) × IsOthersMove (record { world = w; services = services; state = s; opened = opened }) move ask
    by None e r = absurd r
    by (Some ask) e r = (ask, record { opened = closed; asks = e; valid = valid; few = few; ready = r })

-- and its turn is its event's
pub others-turn : (m n : Kept) (services new : Services) (move : Move) (ask : Ask) (said : says_of.Said) → asked services (world m) move.who ≡ Some ask →
    IsTurn m services move asks.Run said n new → IsStepped m services (event_of (world m) ask move) said n new
others-turn m n services new move ask said asks_it turn = subst (λ o. IsTurnFor m services move o said n new) asks_it turn

-- ---- what a driver keeps by its pager's turn

-- what is told is good
pub hears-well : (d : Desk) (k n : Kept) (p : Pager) (pick : Option Path) → d.nester ≡ root → d.slot ≤ LAST_USER_SLOT → IsRunnable (world k) →
    length p.pages.items ≡ 256 → IsOwn d (world k) (state_of p) pick → (said : says_of.Said) →
    said_of (world k) (call_of d (state_of p) pick) ≡ said_by (path_of n) said → HearsWell p said
hears-well d k n p pick nester low runnable whole own (says.Answer answer) is =
    good-answers d (world k) (state_of p) pick nester low runnable.whole.full (listed-few p.pages.items whole) own answer.status (answered answer) is
hears-well d k n p pick nester low runnable whole own says.Nothing is = tt
hears-well d k n p pick nester low runnable whole own (says.Taken port client resumed turn moved) is = tt
hears-well d k n p pick nester low runnable whole own (says.Words port words len) is = tt
hears-well d k n p pick nester low runnable whole own (says.Given port len) is = tt
hears-well d k n p pick nester low runnable whole own (says.Full port) is = tt
hears-well d k n p pick nester low runnable whole own (says.Over port) is = tt
hears-well d k n p pick nester low runnable whole own (says.Ended port) is = tt

-- while it opens its porter stands
pub porter-stands : (d : Desk) (k n : Kept) (s t : State) (pick : Option Path) (said : says_of.Said) → d.nester ≡ root →
    (is_opening s.phase ≡ true → HasPorter (world k)) → IsOwn d (world k) s pick → after (world k) (call_of d s pick) ≡ world n →
    t ≡ hears d s (said_by (path_of n) said) → is_opening t.phase ≡ true → HasPorter (world n)
porter-stands d k n s t pick said nester stood own same heard opening = by (is_opening s.phase) refl
  where
    none : (phase : Phase) → is_opening phase ≡ true → IsPick d s (world k) phase pick → pick ≡ None
    none (Seeking from) is picks = picks
    none (Taking page) is picks = picks
    none Waiting is picks = cc
    none (Looking page) is picks = cc
    none (Evicting old page) is picks = cc
    none (Giving page) is picks = cc
    none (Ending page) is picks = cc

    by : (b : Bool) → is_opening s.phase ≡ b → HasPorter (world n)
    by true e =
        let native = stood e in
        let nobody : pick ≡ None = none s.phase e own.picks in
        let event : call_of d s pick ≡ record { mover = LAST_PORTER_SLOT ∷ root; pick = None; ask = asks.Call (stage_of d s.phase) (words_of s s.phase) } =
        λ i. record { mover = LAST_PORTER_SLOT ∷ nester i; pick = nobody i; ask = asks.Call (stage_of d s.phase) (words_of s s.phase) } in
        ap (λ (w : World). holds is_native (w.body (LAST_PORTER_SLOT ∷ root))) (sym same ∙ ap (after (world k)) event)
        ∙ ap (holds is_native) (opening-keeps d nester (world k) s native (root-unheld k) s.phase e (LAST_PORTER_SLOT ∷ root)) ∙ native
    by false e =
        let done = stays-done d s e (said_by (path_of n) said) in
        absurd (both (is_opening t.phase) opening (ap (λ (x : State). is_opening x.phase) heard ∙ done))
      where
        both : (b : Bool) → b ≡ true → b ≡ false → ⊥
        both b f g = cc

-- its opening's call is ready
pub opens-ready : (d : Desk) (k : Kept) (s : State) → d.nester ≡ root → IsValid (world k) → (world k).next ≤ depth → HasPorter (world k) →
    is_opening s.phase ≡ true → (pick : Option Path) × IsOwn d (world k) s pick
opens-ready d k s nester valid few native opening = (
  None,
  record {
    valid = valid;
    few = few;
    picks = picks s.phase opening;
    ready = subst (λ x. IsReady (world k) (LAST_PORTER_SLOT ∷ x) None (asks.Call (stage_of d s.phase) (words_of s s.phase))) (sym nester)
        (opening-ready d nester (world k) s native (root-unheld k) s.phase opening);
  },
)
  where
    picks : (phase : Phase) → is_opening phase ≡ true → IsPick d s (world k) phase None
    picks (Seeking from) is = refl
    picks (Taking page) is = refl
    picks Waiting is = cc
    picks (Looking page) is = cc
    picks (Evicting old page) is = cc
    picks (Giving page) is = cc
    picks (Ending page) is = cc

-- so where none is it doesn't open
pub not-opening : (d : Desk) (k : Kept) (s : State) → d.nester ≡ root → IsValid (world k) → (world k).next ≤ depth →
    (is_opening s.phase ≡ true → HasPorter (world k)) → ((pick : Option Path) × IsOwn d (world k) s pick → ⊥) → is_opening s.phase ≡ false
not-opening d k s nester valid few stood none = by (is_opening s.phase) refl
  where
    by : (b : Bool) → is_opening s.phase ≡ b → b ≡ false
    by false e = refl
    by true e = absurd (none (opens-ready d k s nester valid few (stood e) e))

-- ---- who else is ready

pub both-none : {A : Type 0} (o : Option A) (X Y Z : Type 0) → (X → Y → Z) → IfNone o X → IfNone o Y → IfNone o Z
both-none None X Y Z f x y = f x y
both-none (Some a) X Y Z f x y = tt

pub none-of-either : {A B : Type 0} {P : A → Type 0} → ((a : A) → P a → ⊥) → (B → ⊥) → ((a : A) × P a) ⊎ B → ⊥
none-of-either first second (inl is) = first is.0 is.1
none-of-either first second (inr is) = second is

-- ---- a run that goes on

pub drives-none : {S : Type 0} (a : driver.PagedRun S) → Drives a a
drives-none a = record { same = refl; run = λ first run. run }

pub drives-then : {S : Type 0} (a b c : driver.PagedRun S) → Drives a b → Drives b c → Drives a c
drives-then a b c one two = record {
  same = two.same ∙ one.same;
  run = λ first run.
      subst (λ (d : Desk). IsRun d first c.history.items (moment c)) one.same
      (two.run first (subst (λ (d : Desk). IsRun d first b.history.items (moment b)) (sym one.same) (one.run first run)));
}

-- with the same moment, pager, port and moves it is the same run
pub drives-alike : {S : Type 0} (a b : driver.PagedRun S) → moment b ≡ moment a → b.pager ≡ a.pager → b.port ≡ a.port → b.history ≡ a.history → Drives a b
drives-alike a b at pager port history = record {
  same = λ i. desk_of root (port i) (pager i);
  run = λ first run.
      let items : b.history.items ≡ a.history.items = λ i. (history i).items in
      subst (λ (x : Moment). IsRun (desk a) first b.history.items x) (sym at)
      (subst (λ (ms : List Move). IsRun (desk a) first ms (moment a)) (sym items) run);
}

-- ---- how it ends

-- what isn't ready where it was looked for isn't where that has changed nothing
pub none-still : {S : Type 0} (old chosen : driver.PagedRun S) → moment chosen ≡ moment old → chosen.pager ≡ old.pager → chosen.port ≡ old.port →
    (IsAnyReady (desk old) (moment old) → ⊥) → IsAnyReady (desk chosen) (moment chosen) → ⊥
none-still old chosen at pager port none =
    let same : desk chosen ≡ desk old = λ i. desk_of root (port i) (pager i) in
    subst (λ (d : Desk). IsAnyReady d (moment chosen) → ⊥) (sym same) (subst (λ (x : Moment). IsAnyReady (desk old) x → ⊥) (sym at) none)

rest-ends : (d : Desk) (budget made : ℕ) (at : Moment) (e : End) → (IsAnyReady d at → ⊥) → IsAtRest at.world e → IsEnd d budget made at e
rest-ends d budget made here ends.Halted none rest = (none, rest)
rest-ends d budget made here ends.Quiet none rest = (none, rest)
rest-ends d budget made here ends.Budget none rest = absurd rest
rest-ends d budget made here ends.Listed none rest = rest

-- where nothing was ready once it was looked for
pub rest-of : {S : Type 0} (start old chosen : driver.PagedRun S) (budget : ℕ) (e : End) → Drives start old → moment chosen ≡ moment old →
    (IsAnyReady (desk old) (moment old) → ⊥) → IsAtRest (moment chosen).world e →
    IsEnd (desk start) budget (length chosen.history.items) (moment chosen) e
rest-of start old chosen budget e drives at none rest =
    rest-ends (desk start) budget (length chosen.history.items) (moment chosen) e
    (subst (λ (d : Desk). IsAnyReady d (moment chosen) → ⊥) drives.same (subst (λ (x : Moment). IsAnyReady (desk old) x → ⊥) (sym at) none)) rest

-- where the budget is used
pub used-of : {S : Type 0} (start old new : driver.PagedRun S) (budget : ℕ) (e : End) → Drives start old → moment new ≡ moment old →
    new.history ≡ old.history → IsEnd (desk old) budget (length old.history.items) (moment old) e →
    IsEnd (desk start) budget (length new.history.items) (moment new) e
used-of start old new budget e drives at history ended =
    let count : length new.history.items ≡ length old.history.items = λ i. length (history i).items in
    subst (λ (d : Desk). IsEnd d budget (length new.history.items) (moment new) e) drives.same
    (subst (λ (x : Moment). IsEnd (desk old) budget (length new.history.items) x e) (sym at)
    (subst (λ (n : ℕ). IsEnd (desk old) budget n (moment old) e) (sym count) ended))

-- what a turn is ready for
pub turn-any : (d : Desk) (at : Moment) (turn : Turn) → IsTurnReady d at turn → IsAnyReady d at
turn-any d at (turns.Pager m) ready = inl (option_map (named at.world) m.pick, ready.own)
turn-any d at (turns.Other m) ready =
    inr (inl (m, subst (IsReadyFor at.world m) (sym ready.1.asks) ready.1.ready))

-- ---- a whole run

pub paged-out : {S : Type 0} (old new : driver.PagedRun S) (d : Desk) (first : Moment) (budget : ℕ) (end : End) → desk old ≡ d → moment old ≡ first →
    old.history.items ≡ [] → Drives old new → (length old.history.items ≤ budget → length new.history.items ≤ budget) →
    IsEnd (desk old) budget (length new.history.items) (moment new) end →
    IsPaged d first budget new.host.kernel new.host.services.list (record {
      history = new.history.items;
      opened = opened_by (length new.history.items) (moment new);
      faults = (moment new).state.faults;
      end = end;
    })
paged-out old new d first budget end here begins none drives within ends =
    let empty : length old.history.items ≡ 0 = ap length none in
    let run : IsRun (desk old) (moment old) new.history.items (moment new) =
    drives.run (moment old) (subst (λ (ms : List Move). IsRun (desk old) (moment old) ms (moment old)) (sym none) Begins) in
    record {
      at = moment new;
      there = refl;
      serve = refl;
      run = subst (λ (x : Moment). IsRun d x new.history.items (moment new)) begins
          (subst (λ (x : Desk). IsRun x (moment old) new.history.items (moment new)) here run);
      within = within (omega (arith, empty));
      opened = refl;
      faults = refl;
      end = subst (λ (x : Desk). IsEnd x budget (length new.history.items) (moment new) end) here ends;
    }
