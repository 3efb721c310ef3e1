-- Where no move is ready at the end of a run without peeks, none is in the filled world.
use Rattle.std.proofs.Common.{◌≡◌, ℕ, ◌≤◌, inl, inr, true, List, Option, Some, None, option_map, refl, sym, subst, ◌∙◌}
use Rattle.fk_host.specs.Acts.{IsReadyFor}
use Rattle.fk_host.specs.Served.{asked}
use Rattle.fk_model.specs.declared.limits.TheConstants.{LAST_USER_SLOT}
use Rattle.fk_model.specs.declared.moves.Ask.{Ask}
use Rattle.fk_model.specs.declared.moves.Ask.TheVariants as asks
use Rattle.fk_model.specs.declared.moves.Move.{Move}
use Rattle.fk_model.specs.Moves.{IsReady, GoesAllowed, outcome}
use Rattle.fk_model.specs.Objects.{Body}
use Rattle.fk_model.specs.Objects.Body.{Thread_of}
use Rattle.fk_model.specs.Outcomes.{Outcome}
use Rattle.fk_model.specs.Outcomes.Outcome.{Refused, Waits, Goes}
use Rattle.fk_model.specs.Places.{Path}
use Rattle.fk_model.specs.Runs.{Event}
use Rattle.fk_model.specs.Who.{named}
use Rattle.fk_model.specs.World.{World}
use Rattle.fk_report.specs.Threads.{state_at, HaveHalted}
use Rattle.laws_filled.specs.Filled.{Paging, filled}
use Rattle.laws_filled.specs.Pager.{paging}
use Rattle.laws_filled_ends.specs.Ends.{is_act, IsIdle, IsSettled}
use Rattle.laws_filled_ends.proofs.Acts.{acts_stay_same_lem}
use Rattle.laws_filled_ends.proofs.Ends.{idle_stays_filled_lem}
use Rattle.laws_waits.proofs.Complete.{all-allowed}
use Rattle.fk_pager.specs.Alike.{IsKernels, EndsAlike, RunsEndAlike}
use Rattle.fk_pager.specs.Desks.{desk_of_root}
use Rattle.fk_pager.specs.Ends.{IsAnyReady}
use Rattle.fk_pager.specs.Left.{IsQuiet, IsUnheld}
use Rattle.fk_pager.specs.Runs.{Moment, IsRun, is_dark}
use Rattle.fk_pager.specs.Unseen.{IsBeginning}
use Rattle.fk_pager.proofs.Left.{runs_leave_none}
use Rattle.fk_pager.proofs.Unseen.{asked-same, event-same, stands}
use Rattle.fk_host.proofs.Acts.{never-calls}

-- ---- who has halted

state-same : (p : Paging) (w : World) (x : Path) → state_at (filled p w) x ≡ state_at w x
state-same p w x = by (w.body x) refl
  where
    by : (o : Option Body) → w.body x ≡ o → state_at (filled p w) x ≡ state_at w x
    by None e = rw e refl
    by (Some (Thread_of t)) e = rw e refl
    by (Some b) e = rw e refl

halted-there : (p : Paging) (w : World) → HaveHalted w → HaveHalted (filled p w)
halted-there p w all x t is = all x t (sym (state-same p w x) ∙ is)

halted-here : (p : Paging) (w : World) → HaveHalted (filled p w) → HaveHalted w
halted-here p w all x t is = all x t (state-same p w x ∙ is)

-- ---- who is ready

module _ (p : Paging) (w : World) (settled : IsSettled p w) (idle : IsIdle w) where
  act-ready : (x : Path) (pick : Option Path) (ask : Ask) → is_act ask ≡ true → IsReady (filled p w) x pick ask → IsReady w x pick ask
  act-ready x pick ask act ready =
      goes (outcome w x pick ask) (subst (GoesAllowed (filled p w) x) (acts_stay_same_lem p w settled idle x pick ask act) ready)
    where
      goes : (o : Outcome) → GoesAllowed (filled p w) x o → GoesAllowed w x o
      goes (Goes changes said) may = all-allowed w settled.unheld x changes
      goes (Refused status) may = may
      goes Waits may = may

module _ (slot port set room : ℕ) (first : Moment) (moves : List Move) (at : Moment) (low : slot ≤ LAST_USER_SLOT) (some : 1 ≤ room)
    (begins : IsBeginning slot port set first) (quiet : IsQuiet set first.world) (run : IsRun (desk_of_root slot port set room) first moves at)
    (dark : is_dark run ≡ true) (unheld : IsUnheld at.world) (kernels : IsKernels at.world) (none : IsAnyReady (desk_of_root slot port set room) at → ⊥) where
  abbrev p : Paging
  p = paging (desk_of_root slot port set room) at.state

  abbrev w : World
  w = at.world

  idle : IsIdle w
  idle x pick ready = none (inr (inr (x, pick, ready)))

  settled : IsSettled p w
  settled =
      let so = stands slot port set room low some first begins moves at run dark in
      let left = runs_leave_none slot port set room first moves at low some begins quiet run dark unheld (λ own. none (inl own)) in
      record {
        paging = so.good.paging;
        none = left.none;
        valid = unheld.valid;
        few = unheld.few;
        whole = kernels.whole;
        unheld = unheld.none;
        shaped = kernels.shaped;
      }

  users : IsIdle (filled p w)
  users = idle_stays_filled_lem p w settled (stands slot port set room low some first begins moves at run dark).valid idle

  acts : (m : Move) (ask : Ask) → is_act ask ≡ true → asked at.services w m.who ≡ Some ask →
      IsReady (filled p w) (named (filled p w) m.who) (option_map (named (filled p w)) m.pick) ask → ⊥
  acts m ask act asks_it ready =
      let there : IsReady (filled p w) (named w m.who) (option_map (named w) m.pick) ask =
      subst (λ (e : Event). IsReady (filled p w) e.mover e.pick e.ask) (event-same p w ask m) ready in
      let here : IsReadyFor w m (Some ask) = act-ready p w settled idle (named w m.who) (option_map (named w) m.pick) ask act there in
      none (inr (inl (m, subst (IsReadyFor w m) (sym asks_it) here)))

  by_ask : (m : Move) (o : Option Ask) → asked at.services w m.who ≡ o → IsReadyFor (filled p w) m o → ⊥
  by_ask m None e ready = ready
  by_ask m (Some asks.Run) e ready = users (named (filled p w) m.who) (option_map (named (filled p w)) m.pick) ready
  by_ask m (Some (asks.Call stage words)) e ready = never-calls at.services w m.who stage words e
  by_ask m (Some asks.Accept) e ready = acts m asks.Accept refl e ready
  by_ask m (Some (asks.Give words len)) e ready = acts m (asks.Give words len) refl e ready
  by_ask m (Some asks.Over) e ready = acts m asks.Over refl e ready

  rests-filled : (m : Move) → IsReadyFor (filled p w) m (asked at.services (filled p w) m.who) → ⊥
  rests-filled m ready = by_ask m (asked at.services w m.who) refl (subst (IsReadyFor (filled p w) m) (asked-same p w at.services m.who) ready)

  pub ends-alike : EndsAlike (desk_of_root slot port set room) at
  ends-alike = record { rests = rests-filled; halted = (halted-here p w, halted-there p w) }

pub runs_end_alike : RunsEndAlike
runs_end_alike slot port set room first moves at low some begins quiet run dark unheld kernels none =
    ends-alike slot port set room first moves at low some begins quiet run dark unheld kernels none
