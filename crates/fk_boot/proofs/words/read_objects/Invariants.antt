use Rattle.std.proofs.Common.{◌≡◌, true, take}
use Rattle.std.specs.List.{list_all}
use Rattle.fk_boot.specs.Words.{has_words}
use Rattle.fk_boot.proofs.words.read_objects.Given as goal

abbrev pub invariant-loop-object : goal.invariant-loop-object
invariant-loop-object l = list_all (λ o. has_words o.spec) (take l.object-index l.objects) ≡ true
