-- Touches: which objects a move changes that is judged.
use Rattle.std.proofs.Common.{◌≡◌, ◌||◌, ℕ, true, false, Option, Some, None, option_map, refl, sym, ap, subst, ◌∙◌}
use Rattle.std.proofs.lemmas.Bool.{or_left, or_right}
use Rattle.fk_model.specs.declared.moves.Ask.{Ask}
use Rattle.fk_model.specs.declared.moves.Ask.TheVariants as asks
use Rattle.fk_model.specs.declared.moves.Move.{Move}
use Rattle.fk_model.specs.declared.names.Who.{Who}
use Rattle.fk_model.specs.Objects.{holds}
use Rattle.fk_model.specs.Outcomes.{Outcome, listed}
use Rattle.fk_model.specs.Places.{Path, same_path}
use Rattle.fk_plans.specs.declared.plans.plan.Plan.{Plan}
use Rattle.fk_plans.specs.declared.plans.plan.Plan.TheVariants as plans
use Rattle.fk_plans.specs.declared.plans.plan.Verdict.{Verdict}
use Rattle.fk_plans.specs.declared.plans.plan.Verdict.TheVariants as verdicts
use Rattle.fk_plans.specs.declared.plans.plan.Moving.{Moving}
use Rattle.fk_plans.specs.Plans.Movings.{plan_of, verdict_of}
use Rattle.fk_plans.specs.Plans.Plans.{caller_by, IsSure}
use Rattle.fk_plans.specs.Plans.Verdicts.{outcome_by, IsSureVerdict}
use Rattle.fk_store.specs.Store.Contents.{Contents}
use Rattle.fk_store.specs.Store.Moves.{picked_by}
use Rattle.fk_store.specs.Store.Paths.{path, place}
use Rattle.fk_store.specs.Store.World.{world}
use Rattle.fk_plans.specs.declared.wakes.touching.Touched.{Touched}
use Rattle.fk_plans.specs.declared.wakes.touching.Touched.TheVariants.{Few}
use Rattle.fk_plans.specs.Wakes.Touches.{is_at, is_making, is_touched, judged, leave, planned, MovesFirst, TouchesOne}
use Rattle.fk_plans.proofs.InPlans.Moved.{each}
use Rattle.fk_plans.proofs.InWakes.Acts.{acts_touch}
use Rattle.fk_plans.proofs.InWakes.Leaving.{closed_leaves, verdict_leaves}
use Rattle.fk_plans.proofs.InWakes.Moving.{always, verdict_first}
use Rattle.fk_plans.proofs.InWakes.Naming.{closed_names, verdict_names}
use Rattle.laws_moves.specs.Machine.Frame.{name_body}
use Rattle.fk_calls.specs.declared.calls.judging.Judgement.{Judgement}
use Rattle.fk_calls.specs.Acts.Acts.{is_act}
use Rattle.fk_calls.specs.Calls.Quiet.{is_nothing, is_quiet}
use Rattle.fk_calls.specs.Calls.Judgements.{client_by, outcome_of, words_of, IsJudged, TellsTouched}

-- what takes no memory makes nothing
sure_plan : (plan : Plan) → IsSure plan → is_making (planned plan) ≡ false
sure_plan (plans.Makes object kind) sure = absurd sure
sure_plan (plans.MakesHeld object holder) sure = absurd sure
sure_plan other sure = refl

sure_makes : (v : Verdict) → IsSureVerdict v → is_making (judged v) ≡ false
sure_makes (verdicts.Done plan answers) sure = sure_plan plan sure
sure_makes (verdicts.Ends plan answers) sure = sure_plan plan sure
sure_makes (verdicts.Shows plan space page) sure = sure_plan plan sure
sure_makes (verdicts.Goes plan) sure = sure_plan plan sure
sure_makes (verdicts.Tells plan news last) sure = sure_plan plan sure
sure_makes other sure = refl

-- what is told by its verdict of a move that is judged so
pub touching : (m : Contents) (move : Move) (ask : Ask) (j : Judgement) → IsJudged m move ask j → TellsTouched m move ask (judged j.verdict)
touching m move ask j is =
    let mover = caller_by (path m) j.caller (words_of ask) in
    let t = judged j.verdict in
    let o = outcome_by (world m) (path m) mover j.verdict in
    record {
      names = λ x names.
          subst (λ (w : Who). (same_path x (place (path m) w) || is_touched (path m) t x) ≡ true) is.mover
          (closed_names (world m) mover x (is_touched (path m) t x) j.chooses (picked_by (path m) move.pick) o
          (λ n. verdict_names (world m) (path m) mover j.verdict x n) (ap (λ (o : Outcome). name_body (world m) (listed o) x) (sym is.outcome) ∙ names));
      leaves = ap (λ (o : Outcome). leave (path m) t (listed o)) is.outcome
          ∙ closed_leaves (path m) t mover j.chooses (picked_by (path m) move.pick) o (verdict_leaves (world m) (path m) mover j.verdict);
      makes = λ sure. sure_makes j.verdict (is.sure sure);
      moves = subst (MovesFirst (path m) t) (sym is.outcome) (verdict_first (world m) (path m) mover j.chooses (picked_by (path m) move.pick) j.verdict);
    }

-- the same by what is told
pub touching_by : (m : Contents) (move : Move) (ask : Ask) (j : Judgement) (touched : Touched) → touched ≡ judged j.verdict → IsJudged m move ask j →
    TellsTouched m move ask touched
touching_by m move ask j touched by is = subst (TellsTouched m move ask) (sym by) (touching m move ask j is)

-- of words that go to a receiver
pub moving_judged : (words : Moving) → judged (verdict_of words) ≡ Few (Some words.client) (Some words.receiver) (Some words.sender)
moving_judged words =
    each (λ (v : Verdict). judged v ≡ Few (Some words.client) (Some words.receiver) (Some words.sender)) words.last (plan_of words) refl refl

-- what shows words and changes nothing
nothing_planned : (plan : Plan) → is_nothing plan ≡ true → Few None None None ≡ planned plan
nothing_planned plans.Nothing is = refl
nothing_planned other is = absurd (cc)

pub quiet_touches : (v : Verdict) → is_quiet v ≡ true → Few None None None ≡ judged v
quiet_touches (verdicts.ShowsRecord object) is = refl
quiet_touches (verdicts.Shows plan space page) is = nothing_planned plan is
quiet_touches other is = absurd (cc)

-- ---- acts of native servers

act_touches : (m : Contents) (move : Move) (ask : Ask) (t : Touched) → is_act ask ≡ true →
    TouchesOne (path m) t (world m) (client_by (world m) (place (path m) move.who) (picked_by (path m) move.pick) ask) (listed (outcome_of m move ask))
act_touches m move asks.Run t is = absurd (cc)
act_touches m move (asks.Call stage words) t is = absurd (cc)
act_touches m move asks.Accept t is = (acts_touch (path m) t (world m) (place (path m) move.who) (picked_by (path m) move.pick)).accept
act_touches m move (asks.Give words len) t is = (acts_touch (path m) t (world m) (place (path m) move.who) (picked_by (path m) move.pick)).give words len
act_touches m move asks.Over t is = (acts_touch (path m) t (world m) (place (path m) move.who) (picked_by (path m) move.pick)).over

at_client : (p : ℕ → Path) (client : Option Who) (x : Path) → holds (λ (y : Path). same_path x y) (option_map (place p) client) ≡ true →
    is_at p client x ≡ true
at_client p None x is = absurd (cc)
at_client p (Some w) x is = is

-- its client is told
pub acting : (m : Contents) (move : Move) (ask : Ask) (client : Option Who) → is_act ask ≡ true →
    option_map (place (path m)) client ≡ client_by (world m) (place (path m) move.who) (picked_by (path m) move.pick) ask →
    TellsTouched m move ask (Few client None None)
acting m move ask client act is =
    let one = act_touches m move ask (Few client None None) act in
    record {
      names = λ x names.
          or_right (same_path x (place (path m) move.who)) (is_touched (path m) (Few client None None) x)
          (or_left (is_at (path m) client x) (is_at (path m) None x || is_at (path m) None x)
          (at_client (path m) client x (ap (λ (o : Option Path). holds (λ (y : Path). same_path x y) o) is ∙ one.names x names)));
      leaves = one.leaves;
      makes = λ sure. refl;
      moves = always (path m) (Few client None None) (outcome_of m move ask) (λ cs. refl);
    }
