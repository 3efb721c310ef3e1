-- What is the same inside stays so.
use Rattle.std.proofs.Common.{◌≡◌, true, ◌++◌, refl, ◌∙◌}
use Rattle.std.specs.List.{list_any}
use Rattle.fk_model.specs.Places.{Path, leads_to}
use Rattle.fk_model.specs.World.{World}
use Rattle.fk_model.specs.Freezing.{body_pointers}
use Rattle.laws_moves.specs.Frozen.Frozen.{IsSameInside}

pub inside-itself : (root : Path) (w : World) → IsSameInside root w w
inside-itself root w = record { bodies = λ q. refl; pages = λ q page. refl; kinds = λ x q led. refl }

pub inside-then : (root : Path) (w v u : World) → IsSameInside root w v → IsSameInside root v u → IsSameInside root w u
inside-then root w v u first later = record {
  bodies = λ q. later.bodies q ∙ first.bodies q;
  pages = λ q page. later.pages q page ∙ first.pages q page;
  kinds = λ x q led. let there : list_any (leads_to x) (body_pointers (v.body (q ++ root))) ≡ true = rw (first.bodies q) led in later.kinds x q there
      ∙ first.kinds x q led;
}
