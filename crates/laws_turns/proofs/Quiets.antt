-- Quiets: each instruction of a burst is a quiet move.
use Rattle.std.proofs.Common.{◌≡◌, ℕ, zero, suc, false, ◌&&◌, cond, List, ◌∷◌, replicate, is_some, is_none, Option, Some, None, option_map}
use Rattle.std.proofs.Common.{refl, sym, ap, subst, ◌∙◌}
use Rattle.std.proofs.lemmas.Option.{same_Some}
use Rattle.fk_model.specs.declared.moves.Ask.TheVariants as asks
use Rattle.fk_model.specs.declared.moves.Move.{Move}
use Rattle.fk_model.specs.Moves.{IsReady, step}
use Rattle.fk_model.specs.Objects.{Thread, Body, thread_of, and_then}
use Rattle.fk_model.specs.Objects.Body.{Thread_of}
use Rattle.fk_model.specs.Objects.Mode.{Running}
use Rattle.fk_model.specs.Outcomes.Said.{Nothing}
use Rattle.fk_model.specs.Places.{Path}
use Rattle.fk_model.specs.Runs.{Event, after, run, IsLegal}
use Rattle.fk_model.specs.Searches.{thread_at, client_at}
use Rattle.fk_model.specs.Valid.{IsPaged}
use Rattle.fk_model.specs.Who.{named, space_born, event_of}
use Rattle.fk_model.specs.World.{World, edited}
use Rattle.fk_model.specs.World.Edit.{Proceed}
use Rattle.fk_model.proofs.walks.PlaceLaws.{same_path_refl}
use Rattle.laws_bursts.specs.Bursts.{Burst, instructed, made}
use Rattle.laws_bursts.specs.Laws.{IsWhereItBegan, HasPages, committed, move_of, AreQuiet as TellNothing, LeadQuietly}
use Rattle.laws_bursts.proofs.Moves.{bursts_are_moves_lem, instructed-used}
use Rattle.laws_runs.specs.Cores.{House, JobEnd, Work, IsGone, others_ask, asks_of_job, work_asks, work_of, current, asker}
use Rattle.laws_runs.specs.Cores.Asker.{Others}
use Rattle.laws_turns.specs.Quiet.{HearNothing, ThreadsRun, IsNoPorter, BurstsAreQuiet}
use Rattle.laws_turns.specs.Turns.{core_in, IsUnheard, AreUnheard}
use Rattle.laws_turns.proofs.Stays.{committed_alike, born-same, client-same}

-- ---- the last of several events

module _ (e : Event) where
  pub last-ready : (n : ℕ) (w : World) → IsLegal w (replicate (suc n) e) → IsReady (run w (replicate n e)) e.mover e.pick e.ask
  unfolding run
  last-ready zero w legal = legal.0
  last-ready (suc n) w legal = last-ready n (after w e) legal.1

  last-quiet : (n : ℕ) (w : World) → TellNothing w (replicate (suc n) e) → (step (run w (replicate n e)) e.mover e.pick e.ask).said ≡ Nothing
  unfolding run
  last-quiet zero w quiet = quiet.0
  last-quiet (suc n) w quiet = last-quiet n (after w e) quiet.1

  pub last-goes : (n : ℕ) (w : World) → after (run w (replicate n e)) e ≡ run w (replicate (suc n) e)
  unfolding run
  last-goes zero w = refl
  last-goes (suc n) w = last-goes n (after w e)

-- ---- a thread that stands there

pub has-thread : (w : World) (x : Path) (c : Burst) (t : Thread) → thread_at w x ≡ Some t →
    (u : Thread) × (thread_at (committed w x c) x ≡ Some u) × (u.mode ≡ Running c.registers)
unfolding edited
has-thread w x c t there =
    (record t { mode = Running c.registers; counter = c.counter }, at-x ∙ by (w.body x) there, refl)
  where
    at-x : thread_at (committed w x c) x ≡ and_then thread_of (option_map (edited (Proceed (Running c.registers) c.counter)) (w.body x))
    at-x = ap (λ m. and_then thread_of (cond m (option_map (edited (Proceed (Running c.registers) c.counter)) (w.body x)) (w.body x))) (same_path_refl x)

    by : (o : Option Body) → and_then thread_of o ≡ Some t →
        and_then thread_of (option_map (edited (Proceed (Running c.registers) c.counter)) o)
        ≡ Some (record t { mode = Running c.registers; counter = c.counter })
    by None h = cc
    by (Some (Thread_of own)) h = ap (λ (u : Thread). Some (record u { mode = Running c.registers; counter = c.counter })) (same_Some own t h)
    by (Some other) h = cc

pub no-end : {X : Type 0} (a b : Option X) → a ≡ b → (is_some a && is_none b) ≡ false
no-end None b same = refl
no-end (Some x) b same = ap is_none (sym same)

-- who runs, as far as servers go, and isn't a job's porter runs
pub asks_run : {J S A V : Type 0} (h : House J S A V) (servers : V) (m : Move) (v : World) (ends : List (JobEnd A)) (work : Option (Work S)) (events : ℕ) →
    IsNoPorter h m → h.servers.asks servers v m.who ≡ Some asks.Run → asker h (core_in h servers m v ends work events) m.who ≡ Others asks.Run
asks_run {J} h servers m v ends work events no_porter runs = by (current h (core_in h servers m v ends work events))
  where
    by : (o : Option J) → asks_of_job h (core_in h servers m v ends work events) m.who o ≡ Others asks.Run
    by None = ap others_ask runs
    by (Some j) =
        ap (λ t. cond t (work_asks h.machine (work_of events work (h.begins j ends))) (others_ask (h.servers.asks servers v m.who))) (no_porter j)
        ∙ ap others_ask runs

module _ {J S A V : Type 0} (h : House J S A V) (servers : V) (m : Move) (w : World) (b : Burst)
    (hear : HearNothing h servers) (threads : ThreadsRun h servers) (no_porter : IsNoPorter h m) (unpicked : m.pick ≡ None)
    (paged : IsPaged w) (began : IsWhereItBegan w (named w m.who) b) where
  abbrev x : Path
  x = named w m.who

  abbrev after_burst : Burst → World
  after_burst c = committed w x c

  -- the move is that of the thread in each world of the burst
  named-same : (c : Burst) → named (after_burst c) m.who ≡ x
  named-same c = ap (λ (s : Path). m.who.slot ∷ s) (born-same w (after_burst c) (committed_alike w x c) m.who.space)

  event-same : (c : Burst) → event_of (after_burst c) asks.Run m ≡ move_of x
  event-same c = λ i. record { mover = named-same c i; pick = picks i; ask = asks.Run }
    where
      picks : option_map (named (after_burst c)) m.pick ≡ None
      picks = ap (option_map (named (after_burst c))) unpicked

  -- who asks
  asks-so : (c : Burst) (ends : List (JobEnd A)) (work : Option (Work S)) (events : ℕ) →
      asker h (core_in h servers m (after_burst c) ends work events) m.who ≡ Others asks.Run
  asks-so c ends work events = asks_run h servers m (after_burst c) ends work events no_porter runs
    where
      here : (u : Thread) × (thread_at (after_burst c) x ≡ Some u) × (u.mode ≡ Running c.registers)
      here = has-thread w x c began.thread began.there

      runs : h.servers.asks servers (after_burst c) m.who ≡ Some asks.Run
      runs = threads (after_burst c) m here.0 (subst (λ (y : Path). thread_at (after_burst c) y ≡ Some here.0) (sym (named-same c)) here.1)

  gone-same : (c d : Burst) (birth : ℕ) → IsGone (after_burst c) birth → IsGone (after_burst d) birth
  gone-same c d birth gone y there = gone y ((committed_alike w x c).births y ∙ sym ((committed_alike w x d).births y) ∙ there)

  quiets : (n : ℕ) (c : Burst) → made n b ≡ Some c → HasPages w x c b → AreUnheard h servers m n w (after_burst c)
  unfolding made run
  quiets zero c is has = (bursts_are_moves_lem w m.who.slot (space_born w m.who.space) zero b c paged began is has).world
  quiets (suc n) c is has = by (made n b) refl is (λ d so pages. quiets n d so pages)
    where
      by : (o : Option Burst) → made n b ≡ o → and_then instructed o ≡ Some c →
          ((d : Burst) → made n b ≡ Some d → HasPages w x d b → AreUnheard h servers m n w (after_burst d)) → AreUnheard h servers m (suc n) w (after_burst c)
      by None so is rest = absurd (cc)
      by (Some d) so next rest = (after_burst d, rest d so pages, quiet)
        where
          pages : HasPages w x d b
          pages page used = has page (instructed-used d c page next used)

          before : LeadQuietly w (replicate n (move_of x)) (after_burst d)
          before = bursts_are_moves_lem w m.who.slot (space_born w m.who.space) n b d paged began so pages

          behind : LeadQuietly w (replicate (suc n) (move_of x)) (after_burst c)
          behind = bursts_are_moves_lem w m.who.slot (space_born w m.who.space) (suc n) b c paged began is has

          goes : after (after_burst d) (move_of x) ≡ after_burst c
          goes = ap (λ v. after v (move_of x)) (sym before.world) ∙ last-goes (move_of x) n w ∙ behind.world

          quiet : IsUnheard h servers m (after_burst d) (after_burst c)
          quiet = record {
            runs = asks-so d;
            ready = subst (λ (e : Event). IsReady (after_burst d) e.mover e.pick e.ask) (sym (event-same d))
                (subst (λ v. IsReady v x None asks.Run) before.world (last-ready (move_of x) n w behind.legal));
            goes = ap (after (after_burst d)) (event-same d) ∙ goes;
            unheard = hear (after_burst d) (event_of (after_burst d) asks.Run m)
                (ap (λ (e : Event). (step (after_burst d) e.mover e.pick e.ask).said) (event-same d)
                ∙ ap (λ v. (step v x None asks.Run).said) (sym before.world) ∙ last-quiet (move_of x) n w behind.quiet)
                (λ port. no-end _ _ (client-same w (after_burst d) (committed_alike w x d) port
                ∙ sym (client-same w (after_burst c) (committed_alike w x c) port)
                ∙ ap (λ v. client_at v port) (sym (ap (after (after_burst d)) (event-same d) ∙ goes))));
            gone = gone-same d c;
            comes = gone-same c d;
          }

pub bursts_are_quiet_lem : {J S A V : Type 0} → BurstsAreQuiet J S A V
bursts_are_quiet_lem h servers m w n b c hear threads no_porter unpicked paged began is has =
    quiets h servers m w b hear threads no_porter unpicked paged began n c is has
