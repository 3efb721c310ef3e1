-- The call of an object's part, where there is such an object; and that of an item's part.
use Rattle.std.proofs.Common.{◌≡◌, ℕ, true, List, Option, Some, None, option_map, cond, sym, ap, ◌∙◌}
use Rattle.std.specs.Prelude.{slice_get, nat_lt}
use Rattle.fk_model.specs.declared.stage.Stage.{Stage}
use Rattle.fk_image.specs.declared.image.image.ObjectRec.{ObjectRec}
use Rattle.fk_image.specs.declared.image.image.SpaceRec.{SpaceRec}
use Rattle.laws_restore.specs.Sites.Orders.{Order, stage_of}
use Rattle.fk_restore.specs.declared.positions.parts.Doing.TheVariants.{Asks as Calls}
use Rattle.fk_restore.specs.declared.positions.position.Pass.{Pass}
use Rattle.fk_restore.specs.Positions.Passes.{object_part, part_at}
use Rattle.fk_restore.specs.Positions.Passes.Part.{Nothing, Asks}
use Rattle.fk_restore.specs.Positions.Positions.{asked, asked_in}
use Rattle.fk_restore.specs.Positions.Doing.{doing_of}

pub object_asked : (ss : List SpaceRec) (slot : ℕ) (bind : ℕ → ℕ) (n : ℕ) (s : SpaceRec) (order : ObjectRec
    → Order) (j : ℕ) (os : List ObjectRec) (o : ObjectRec) (stage : Stage) →
    slice_get os j ≡ Some o → stage ≡ stage_of slot (order o) → Calls stage ≡ doing_of slot (object_part ss slot bind n s order j os)
object_asked ss slot bind n s order j os o stage here e =
    ap Calls e ∙ sym (ap (λ (x : Option ObjectRec). doing_of slot (elim x [ None ↦ Nothing | Some o ↦ Asks (order o) ])) here)

pub part_asked : (ss : List SpaceRec) (slot : ℕ) (bind : ℕ → ℕ) (pass : Pass) (n j k : ℕ) (o : Option SpaceRec) (s : SpaceRec) (r : Option Stage) →
    o ≡ Some s → nat_lt k 6 ≡ true → r ≡ option_map (stage_of slot) (asked ss slot bind (part_at ss slot bind n s pass j k)) →
    r ≡ option_map (stage_of slot) (asked_in ss slot bind pass n j k o)
part_asked ss slot bind pass n j k o s r here low e =
    e ∙ ap (λ t. option_map (stage_of slot) (cond t (asked ss slot bind (part_at ss slot bind n s pass j k)) None)) (sym low)
    ∙ ap (λ o. option_map (stage_of slot) (asked_in ss slot bind pass n j k o)) (sym here)
