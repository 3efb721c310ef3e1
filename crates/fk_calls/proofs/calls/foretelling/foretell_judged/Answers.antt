use Rattle.std.proofs.Common.{◌∙◌, ap, sym, subst, refl, option_map}
use Rattle.fk_model.specs.Moves.{Step}
use Rattle.fk_store.specs.Store.Named.{Each}
use Rattle.fk_store.specs.Store.Paths.{path, place, HasOwnPath}
use Rattle.fk_store.specs.Store.World.{world}
use Rattle.fk_plans.specs.Endings.Clients.{IsEnding}
use Rattle.fk_plans.specs.Plans.Hearers.{to_servers}
use Rattle.fk_plans.proofs.InPlans.Hearers.{own-heard}
use Rattle.fk_calls.specs.Calls.Judgements.{words_of}
use Rattle.fk_calls.proofs.InCalls.Given.{fit_given}
use Rattle.fk_calls.proofs.InCalls.Judged.{ready_judged, step_judged}
use Rattle.fk_calls.proofs.calls.foretelling.foretell_judged.Goals as goal

pub judge-requires-clause-words : goal.judge-requires-clause-words
judge-requires-clause-words c = fit_given _ _ _ c.requires.fit

pub is_ready-requires-clause-free : goal.is_ready-requires-clause-free
is_ready-requires-clause-free c user = rw c.in_ok-j.ensures.judged.mover (c.in_ok-j.ensures.judged.free user)

pub returns-clause-ready : goal.returns-clause-ready
returns-clause-ready c some =
    (ready_judged c.args.store.now c.args.m.now c.args.ask.now c.in_ok-j.j _ c.in_ok-j.ensures.judged (c.is_ready.ensures (words_of c.args.ask.now))).0 (cc)

pub returns-clause-told : goal.returns-clause-told
returns-clause-told c =
    let m = c.args.store.now in
    let words = words_of c.args.ask.now in
    let ready = returns-clause-ready c refl in
    let step = step_judged m c.args.m.now c.args.ask.now c.in_ok-j.j c.in_ok-j.ensures.judged ready in
    record {
      said = ap (λ (s : Step). to_servers s.said) step ∙ c.foretell.ensures.said words;
      heard = own-heard (path m) c.foretell.result (subst (Each (HasOwnPath (path m))) (sym c.foretell.ensures.port) c.apart.ensures);
      ending = subst (λ (s : Step). IsEnding (world m) s.world (option_map (place (path m)) c.ended_by.result)) (sym step) (c.ended_by.ensures.ending words);
      apart = c.ended_by.ensures.apart;
    }
