use Rattle.std.proofs.Common.{◌≤◌, refl, subst}
use Rattle.fk_model.specs.Searches.{depth}
use Rattle.fk_model.specs.Valid.{IsValid}
use Rattle.fk_host.specs.Kernels.{Kept}
use Rattle.fk_host.specs.Kernels.{world_of as world}
use Rattle.fk_paging.specs.Pagers.{state_of}
use Rattle.fk_pager.specs.Driven.{desk}
use Rattle.fk_pager.proofs.Driving.{not-opening}
use Rattle.fk_pager.proofs.driver.PagedRun.choose.Goals as goal

pub others_move-requires : goal.others_move-requires
others_move-requires g c =
    let self = c.args.self.now in
    record {
      opened = not-opening (desk self) self.host.kernel (state_of self.pager) refl
          (subst (λ (k : Kept). IsValid (world k)) c.kernel.ensures c.names.ensures.valid)
          (subst (λ (k : Kept). (world k).next ≤ depth) c.kernel.ensures c.names.ensures.few) c.requires.driven.porter c.in-None.ensures.none;
    }
