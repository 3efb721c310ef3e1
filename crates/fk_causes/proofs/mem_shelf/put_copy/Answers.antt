use Rattle.std.proofs.Common.{Some, string_bytes, ap, ◌∙◌}
use Rattle.fk_causes.proofs.Shelves.{get_files_of_inserted, get_files_of_other}
use Rattle.fk_causes.proofs.mem_shelf.put_copy.Goals as goal

pub returns-clause-stored : goal.returns-clause-stored
returns-clause-stored c =
    rw (← c.in_ok-name.ensures.ok) (get_files_of_inserted c.args.files.now
    c.insert.new.self (string_bytes c.in_ok-name.name) c.in_ok-bytes.bytes c.in_ok-insert.ensures.updates ∙ ap (λ x. Some x) c.in_ok-bytes.ensures.items)

pub returns-clause-others : goal.returns-clause-others
returns-clause-others c = λ other differs.
    get_files_of_other c.args.files.now c.insert.new.self
    (string_bytes c.in_ok-name.name) other c.in_ok-bytes.bytes c.in_ok-insert.ensures.updates (λ same. differs (same ∙ c.in_ok-name.ensures.ok))
