use Rattle.std.proofs.Common.{Option, option_map, sym, ap, ◌∙◌}
use Rattle.fk_model.specs.declared.thread.Fault.{Fault}
use Rattle.fk_model.specs.Objects.{and_then}
use Rattle.fk_model.specs.Talks.{first_stage}
use Rattle.fk_store.specs.Store.Bodies.{fault_by, thread_by}
use Rattle.fk_store.specs.Store.Paths.{path}
use Rattle.fk_store.specs.Store.World.{world, place_of}
use Rattle.fk_turns.specs.Whys.Causes.{fault_port, is_at_rest, stage_cause}
use Rattle.fk_turns.proofs.InWhys.Waited.{awake, still}
use Rattle.fk_turns.proofs.whys.causes.thread_cause.Goals as goal

pub returns-then-is_at_rest : goal.returns-then-is_at_rest
returns-then-is_at_rest c =
    let m = c.args.store.now in
    let t = thread_by (path m) c.args.thread.now in
    still (is_at_rest t) (fault_port t.fault (and_then (stage_cause (world m) (place_of m c.args.who) t) (first_stage t.mode)))
    (sym (c.is_at_rest.ensures (path m)) ∙ c.if-is_at_rest.true)

pub returns-in-Some : goal.returns-in-Some
returns-in-Some c =
    let m = c.args.store.now in
    let t = thread_by (path m) c.args.thread.now in
    let call = and_then (stage_cause (world m) (place_of m c.args.who) t) (first_stage t.mode) in
    awake (is_at_rest t) _ (fault_port t.fault call) (sym (c.is_at_rest.ensures (path m)) ∙ c.if-is_at_rest.false)
    (ap (λ (f : Option Fault). fault_port (option_map (fault_by (path m)) f) call) (sym c.in-Some.is))

pub returns-in-None : goal.returns-in-None
returns-in-None c =
    let m = c.args.store.now in
    let t = thread_by (path m) c.args.thread.now in
    let call = and_then (stage_cause (world m) (place_of m c.args.who) t) (first_stage t.mode) in
    awake (is_at_rest t) _ (fault_port t.fault call) (sym (c.is_at_rest.ensures (path m)) ∙ c.if-is_at_rest.false)
    (c.call_cause.ensures ∙ ap (λ (f : Option Fault). fault_port (option_map (fault_by (path m)) f) call) (sym c.in-None.is))
