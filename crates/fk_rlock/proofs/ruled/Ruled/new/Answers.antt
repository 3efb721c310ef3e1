use Rattle.std.proofs.Common.{ap, ◌∙◌, sym, ◌∷◌, [], ◌++◌}
use Rattle.fk_rlock.proofs.Passes.{starts_with}
use Rattle.fk_rlock.proofs.ruled.Ruled.new.Goals as goal

pub new-requires : goal.new-requires
new-requires g c = starts_with _ _ _ _ _ _ c.requires.seats.0 c.requires.seats.1 (c.count-count.ensures ∙ ap g.T.Counted.counted (sym c.of.ensures))
    (c.in_ok-push.ensures.items ∙ (ap (λ l. l ++ c.args.first ∷ []) c.in_ok-slots.ensures.items ∙ ap (λ x. x ∷ []) (sym c.of.ensures)))
