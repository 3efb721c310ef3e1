-- What a subtree seen alone has, in which a restorer finds its way: kinds, and ways down.
use Rattle.std.specs.Prelude.{◌≡◌, ◌≤◌, Bool, true, false, [], ◌∷◌, Option, Some, None, option_map}
use Rattle.std.specs.List.{list_any}
use Rattle.fk_model.specs.declared.limits.TheConstants.{LAST_USER_SLOT}
use Rattle.fk_model.specs.declared.names.Kind.{Kind}
use Rattle.fk_model.specs.declared.names.Kind.TheVariants as kinds
use Rattle.fk_model.specs.Places.{Path}
use Rattle.fk_model.specs.Objects.{kind_of, same_kind}
use Rattle.fk_model.specs.World.{World}
use Rattle.fk_model.specs.StateRows.{referable}

abbrev pub there : World → Path → Option Kind
there c y = option_map kind_of (c.body y)

abbrev pub is_referable : Option Kind → Bool
is_referable None = false
is_referable (Some k) = list_any (same_kind k) referable

-- a way down: spaces, and at its end what a reference may lead to
abbrev pub IsWay : (Path → Option Kind) → Path → Type 0
IsWay kinds_at [] = Unit {0}
IsWay kinds_at (k ∷ q) = (is_referable (kinds_at (k ∷ q)) ≡ true) × (k ≤ LAST_USER_SLOT) × (kinds_at q ≡ Some kinds.Space) × IsWay kinds_at q
