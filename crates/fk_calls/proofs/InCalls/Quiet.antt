-- Quiet: a porter's stage that shows words and changes nothing.
use Rattle.std.proofs.Common.{◌≡◌, ℕ, Bool, true, false, ◌||◌, is_none, Option, Some, None, refl, sym, subst}
use Rattle.fk_model.specs.declared.moves.Ask.{Ask}
use Rattle.fk_model.specs.declared.moves.Move.{Move}
use Rattle.fk_model.specs.declared.names.Who.{Who}
use Rattle.fk_model.specs.Moves.{GoesAllowed}
use Rattle.fk_model.specs.Places.{Path}
use Rattle.fk_model.specs.World.{World}
use Rattle.fk_plans.specs.declared.plans.plan.Plan.TheVariants as plans
use Rattle.fk_plans.specs.declared.plans.plan.Verdict.{Verdict}
use Rattle.fk_plans.specs.declared.plans.plan.Verdict.TheVariants as verdicts
use Rattle.fk_plans.specs.Plans.Verdicts.{hearer_of, move_by}
use Rattle.fk_store.specs.Store.Contents.{Contents}
use Rattle.fk_store.specs.Store.Paths.{path, place}
use Rattle.fk_store.specs.Store.World.{world}
use Rattle.fk_calls.specs.Acts.Endings.{IsLeft}
use Rattle.fk_calls.specs.declared.calls.judging.Judgement.{Judgement}
use Rattle.fk_calls.specs.Calls.Judgements.{words_of, IsJudged, IsReadyMove}
use Rattle.fk_calls.specs.Calls.Quiet.{is_quiet}
use Rattle.fk_calls.specs.Calls.Tried.{porter}

abbrev pub shown : Who → Bool → Verdict → Judgement
shown who chosen v = record { caller = porter who; chooses = chosen; verdict = v }

-- it is ready where it picks as it may
pub quiet_ready : (m : Contents) (move : Move) (ask : Ask) (chosen : Bool) (v : Verdict) → is_quiet v ≡ true →
    IsJudged m move ask (shown move.who chosen v) → (chosen || is_none move.pick) ≡ true → IsReadyMove m move ask
quiet_ready m move ask chosen v quiet is may = subst (GoesAllowed (world m) (place (path m) move.who)) (sym is.outcome) (by v quiet chosen move.pick may)
  where
    by : (v : Verdict) → is_quiet v ≡ true → (chosen : Bool) (pick : Option Who) → (chosen || is_none pick) ≡ true →
        GoesAllowed (world m) (place (path m) move.who) (move_by m (porter move.who) (words_of ask) chosen pick v)
    by (verdicts.ShowsRecord object) quiet true pick may = tt
    by (verdicts.ShowsRecord object) quiet false None may = tt
    by (verdicts.ShowsRecord object) quiet false (Some q) may = absurd (cc)
    by (verdicts.Shows plans.Nothing space page) quiet true pick may = tt
    by (verdicts.Shows plans.Nothing space page) quiet false None may = tt
    by (verdicts.Shows plans.Nothing space page) quiet false (Some q) may = absurd (cc)
    by other quiet chosen pick may = absurd (cc)

pub quiet_unready : (m : Contents) (move : Move) (ask : Ask) (chosen : Bool) (v : Verdict) → is_quiet v ≡ true →
    IsJudged m move ask (shown move.who chosen v) → (chosen || is_none move.pick) ≡ false → IsReadyMove m move ask → ⊥
quiet_unready m move ask chosen v quiet is may ready =
    by v quiet chosen move.pick may (subst (GoesAllowed (world m) (place (path m) move.who)) is.outcome ready)
  where
    by : (v : Verdict) → is_quiet v ≡ true → (chosen : Bool) (pick : Option Who) → (chosen || is_none pick) ≡ false →
        GoesAllowed (world m) (place (path m) move.who) (move_by m (porter move.who) (words_of ask) chosen pick v) → ⊥
    by (verdicts.ShowsRecord object) quiet true pick may goes = absurd (cc)
    by (verdicts.ShowsRecord object) quiet false None may goes = absurd (cc)
    by (verdicts.ShowsRecord object) quiet false (Some q) may goes = goes
    by (verdicts.Shows plans.Nothing space page) quiet true pick may goes = absurd (cc)
    by (verdicts.Shows plans.Nothing space page) quiet false None may goes = absurd (cc)
    by (verdicts.Shows plans.Nothing space page) quiet false (Some q) may goes = goes
    by other quiet chosen pick may goes = absurd (cc)

-- nobody loses a client by it
pub quiet_left : (w : World) (p : ℕ → Path) (v : Verdict) → is_quiet v ≡ true → IsLeft w p v None
quiet_left w p (verdicts.ShowsRecord object) quiet = refl
quiet_left w p (verdicts.Shows plans.Nothing space page) quiet = refl
quiet_left w p other quiet = absurd (cc)

-- and no native server hears it
pub quiet_unheard : (v : Verdict) → is_quiet v ≡ true → hearer_of v ≡ None
quiet_unheard (verdicts.ShowsRecord object) quiet = refl
quiet_unheard (verdicts.Shows plans.Nothing space page) quiet = refl
quiet_unheard other quiet = absurd (cc)
