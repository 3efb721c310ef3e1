use Rattle.std.proofs.Common.{ℕ, Vec, Some, sym, ap, ◌∙◌}
use Rattle.std.specs.declared.alloc.Global.{Global}
use Rattle.std.specs.Option.{option_map}
use Rattle.fk_causes.proofs.Shelves.{get_files_of}
use Rattle.fk_causes.proofs.mem_shelf.copy_of.Goals as goal

pub returns-in_ok-from_slice-in-Some : goal.returns-in_ok-from_slice-in-Some
returns-in_ok-from_slice-in-Some c =
    get_files_of c.args.files.now c.args.name.now ∙ ap (option_map (λ (v : Vec ℕ Global). v.items)) (sym c.in-Some.ensures.value)
    ∙ ap (λ x. Some x) (sym (c.in_ok-from_slice-in-Some.ensures.items ∙ c.deref.ensures.value))

pub returns-in-None : goal.returns-in-None
returns-in-None c = get_files_of c.args.files.now c.args.name.now ∙ ap (option_map (λ (v : Vec ℕ Global). v.items)) (sym c.in-None.ensures.value)
