use Rattle.std.proofs.Common.{◌≡◌, sym, ap, ◌∙◌, Some, IsSome, option_map}
use Rattle.fk_store.proofs.InFreezing.NameLaws.{same_who_eq}
use Rattle.fk_model.specs.Places.{Path}
use Rattle.fk_model.specs.Places.Ptr.{At}
use Rattle.fk_model.specs.Holds as holds
use Rattle.fk_store.specs.Store.World.{world, place_of}
use Rattle.fk_store.proofs.InStore.finding.OneHolder.{one-holder}
use Rattle.fk_store.proofs.store.store.Store.is_holder.Goals as goal

pub returns-in-Some-holder : goal.returns-in-Some-holder
returns-in-Some-holder c is = one-holder (world c.args.self.now) (place_of c.args.self.now c.args.me) mine
  where
    me_is : c.in-Some-holder.holder ≡ c.args.me
    me_is = same_who_eq _ _ (sym c.eq.ensures ∙ is)

    mine : (x : Path) → IsSome (holds.holder_of ((world c.args.self.now).body x)) → holds.holder_of ((world c.args.self.now).body x) ≡ Some (At (place_of c.args.self.now c.args.me))
    mine x some = ap (λ p. holds.holder_of ((world c.args.self.now).body p)) (sym (c.in-Some.ensures x some)) ∙ sym c.holder.ensures.holder
        ∙ ap (option_map (λ who. At (place_of c.args.self.now who))) c.in-Some-holder.is ∙ ap (λ who. Some (At (place_of c.args.self.now who))) me_is
