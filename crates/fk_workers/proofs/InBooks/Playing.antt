-- Plays: what may be made in a book is what may follow its moves.
use Rattle.std.proofs.Common.{◌≡◌, ℕ, List, [], ◌∷◌, ◌++◌, sym, ap, subst, ◌∙◌, arith}
use Rattle.fk_model.specs.declared.moves.Move.{Move}
use Rattle.laws_runs.proofs.Same.{one_run}
use Rattle.fk_core.specs.Cores.Cores.{house, IsReadyMove}
use Rattle.fk_trace_text.specs.Trace.{trace_text, AreLegal, BeginsWith, BeginsWithNone}
use Rattle.fk_trace_text.proofs.Traces.{AreLegal-more, trace_text-more}
use Rattle.fk_workers.specs.Books.Shown.{Shown, MayMove, HasRun}
use Rattle.fk_workers.specs.Books.Plays.{MayPlay}

may_follow : (first s : Shown) (past : List Move) (m : Move) → HasRun first past s → MayMove s m → MayPlay first past m
may_follow first s past m run may =
    let events = run.events in
    let budget = run.budget in
    let few = may.0 in
    (omega (arith, events, budget, few), (s.core, run.run, subst (λ jobs. IsReadyMove jobs s.core m) run.jobs may.1))

-- a history has one core, so what isn't ready in that may not follow
may_be_made : (first s : Shown) (past : List Move) (m : Move) → HasRun first past s → MayPlay first past m → MayMove s m
may_be_made first s past m run may =
    let same : may.1.0 ≡ s.core = (one_run (house first.jobs) first.core may.1.0 s.core past may.1.1 run.run).0 in
    let events = run.events in
    let budget = run.budget in
    let few = may.0 in
    (omega (arith, events, budget, few), subst (λ jobs. IsReadyMove jobs s.core m) (sym run.jobs) (subst (λ c. IsReadyMove first.jobs c m) same may.1.2))

pub none_follows : (first s : Shown) (past : List Move) (rest : List ℕ)
    → HasRun first past s → BeginsWithNone (MayMove s) rest → BeginsWithNone (MayPlay first past) rest
none_follows first s past rest run none move after begins may = none move after begins (may_be_made first s past move run may)

-- the moves with one more that was made
pub legal_more : (first s : Shown) (past longer : List Move) (m : Move) (text after : List ℕ) → HasRun first past s → MayMove s m → BeginsWith text m after
    → AreLegal (MayPlay first) past → longer ≡ past ++ m ∷ [] → AreLegal (MayPlay first) longer
legal_more first s past longer m text after run may begins legal is =
    subst (AreLegal (MayPlay first)) (sym is) (AreLegal-more (MayPlay first) past m legal begins.range (may_follow first s past m run may))

pub spelled_more : (trace text after : List ℕ) (past longer : List Move) (m : Move) → trace ≡ trace_text past ++ text → BeginsWith text m after
    → longer ≡ past ++ m ∷ [] → trace ≡ trace_text longer ++ after
spelled_more trace text after past longer m spelled begins is =
    spelled ∙ (ap (λ rest. trace_text past ++ rest) begins.spelled ∙ (sym (trace_text-more past m after) ∙ ap (λ moves. trace_text moves ++ after) (sym is)))
