use Rattle.std.proofs.Common.{◌≡◌, ◌==◌, ◌||◌, Bool, List, ◌++◌, ap, sym, ◌∙◌}
use Rattle.std.proofs.lemmas.List.Folds.{list_any-append}
use Rattle.std.specs.List.{list_any}
use Rattle.fk_model.specs.Calls.{Call, object_calls, thread_calls, client_calls, server_calls, rebuilding_calls}
use Rattle.fk_image.proofs.image.call_codes.is_call_code.Goals as goal

-- whether one of five lists has such a one
any-of-five : {X : Type 0} (p : X → Bool) (a b c d e : List X)
    → list_any p (a ++ (b ++ (c ++ (d ++ e)))) ≡ (list_any p a || (list_any p b || (list_any p c || (list_any p d || list_any p e))))
any-of-five p a b c d e =
    list_any-append p a (b ++ (c ++ (d ++ e))) ∙ ap (λ x. list_any p a || x) (list_any-append p b (c ++ (d ++ e))
    ∙ ap (λ x. list_any p b || x) (list_any-append p c (d ++ e) ∙ ap (λ x. list_any p c || x) (list_any-append p d e)))

pub returns : goal.returns
returns c =
    let code = c.args.code in
    let found = any-of-five (λ (d : Call). code == d.code) object_calls thread_calls client_calls server_calls rebuilding_calls in
    rw (c.is_of_objects.ensures, c.is_of_threads.ensures, c.is_of_clients.ensures, c.is_of_servers.ensures, c.is_rebuilding.ensures) at c.any_of.ensures
    ∙ sym found
