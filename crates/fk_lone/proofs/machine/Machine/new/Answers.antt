use Rattle.std.proofs.Common.{◌≡◌, ◌≤◌, length, vec_len, None, replicate, refl, ap, ◌∙◌, arith}
use Rattle.std.proofs.lemmas.List.{take_all}
use Rattle.fk_model.specs.declared.thread.Mode.TheVariants as modes
use Rattle.fk_model.specs.declared.thread.Thread.{Thread}
use Rattle.fk_lone.proofs.Filled.{filled-root, filled-empty, started}
use Rattle.fk_lone.proofs.machine.Machine.new.Goals as goal

pub make-requires-clause-space : goal.make-requires-clause-space
make-requires-clause-space c = filled-root _ 256 _ c.in_ok-store.ensures

pub make-requires-clause-empty : goal.make-requires-clause-empty
make-requires-clause-empty c = filled-empty _ _ c.in_ok-store.ensures

fresh : Thread
fresh = record { regs = replicate 16 0; pc = 0; mode = modes.Running; stops = 0; talk = None; fault = None }

pub invariant_of-result : goal.invariant_of-result
unfolding fresh
invariant_of-result c =
    let long : length c.deref.result.now ≡ 16384 = omega (arith, ap length c.deref.ensures.value, c.in_ok-resize.ensures.len) in
    (started _ _ c.deref.result.now fresh long refl c.in_ok-store.ensures c.in_ok-make.ensures.world).0

pub returns : goal.returns
unfolding fresh
returns c =
    let long : length c.deref.result.now ≡ 16384 = omega (arith, ap length c.deref.ensures.value, c.in_ok-resize.ensures.len) in
    let program = c.args.program in
    let same : vec_len program ≡ length program.items = omega (arith, program.ok.0) in
    let within : length program.items ≤ 16384 = omega arith in
    (started _ _ c.deref.result.now fresh long refl c.in_ok-store.ensures c.in_ok-make.ensures.world).1 ∙
    rw (c.deref.ensures.value, c.in_ok-resize.ensures.items, same, take_all 16384 program.items within) refl
