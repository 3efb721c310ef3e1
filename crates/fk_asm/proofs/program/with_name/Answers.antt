use Rattle.std.proofs.Common.{◌≡◌, Some, cond, is_eq, nat_cmp, ap, ◌∙◌}
use Rattle.std.proofs.lemmas.Map.Text.{is_eq-slice_cmp}
use Rattle.std.specs.Cmp.Lexicographic.{slice_cmp}
use Rattle.fk_asm.specs.Labels.{label_address_in}
use Rattle.fk_asm.proofs.program.with_name.Goals as goal

pub returns-in-Ok : goal.returns-in-Ok
returns-in-Ok c = λ name.
    let updated : label_address_in c.insert.new.self name ≡ cond (is_eq (slice_cmp nat_cmp c.args.name.now name)) (Some c.args.address) (label_address_in
    c.args.addresses name) =
    c.in-Ok.ensures.updates.0 (record c.args.name { now = name }) in
    updated ∙ ap (λ t. cond t (Some c.args.address) (label_address_in c.args.addresses name)) (is_eq-slice_cmp c.args.name.now name)
