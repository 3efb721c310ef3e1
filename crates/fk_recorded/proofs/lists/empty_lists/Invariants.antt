use Rattle.std.proofs.Common.{◌≡◌, ◌-◌}
use Rattle.fk_trace.specs.Posts.{words_of_all}
use Rattle.fk_recorded.specs.Lists.{none_of}
use Rattle.fk_recorded.proofs.lists.empty_lists.Given as goal

-- as many lists stand there as rounds were made
abbrev pub invariant-loop : goal.invariant-loop
invariant-loop l = words_of_all l.lists.items ≡ none_of l.counter
