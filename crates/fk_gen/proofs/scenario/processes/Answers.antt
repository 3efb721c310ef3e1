use Rattle.std.proofs.Common.{◌≡◌, ◌+◌, ◌-◌, ◌++◌, ◌∙◌, ℕ, List, string_bytes, append_assoc, ap, sym}
use Rattle.std.proofs.lemmas.List.{append-nil}
use Rattle.fk_gen.specs.Soak.{process_text, processes_from}
use Rattle.fk_gen.proofs.Processes.{next_process, no_process}
use Rattle.fk_gen.proofs.scenario.processes.Goals as goal

pub loop-process-preserved : goal.loop-process-preserved
loop-process-preserved c =
    let k = c.loop-process.process in
    let n = c.args.count in
    let old = string_bytes c.loop-process.text in
    let rest = processes_from (k + 1) (n - (k + 1)) in
    let piece : string_bytes c.push_str.new.self ≡ old
    ++ process_text k = c.in_ok-push_str.ensures.bytes ∙ ap (λ (t : List ℕ). old ++ t) (c.as_str.ensures.value ∙ c.in_ok-process_text.ensures) in
    ap (λ (t : List ℕ). t ++ rest) piece
    ∙ append_assoc old (process_text k) rest ∙ ap (λ (t : List ℕ). old ++ t) (sym (next_process k n c.loop-process-test.true)) ∙ c.loop-process.invariant

pub returns : goal.returns
returns c =
    let old = string_bytes c.loop-process.text in
    sym (append-nil old) ∙ ap (λ (t : List ℕ). old ++ t) (sym (no_process c.loop-process.process c.args.count c.loop-process-test.false))
    ∙ c.loop-process.invariant
