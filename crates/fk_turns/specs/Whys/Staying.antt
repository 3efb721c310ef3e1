-- Staying: which moves leave a reason.
use Rattle.std.specs.Prelude.{◌≡◌, ℕ, false, is_some, List, [], ◌∷◌, Option, ⊤}
use Rattle.fk_model.specs.declared.moves.Ask.{Ask}
use Rattle.fk_model.specs.Moves.{outcome, step}
use Rattle.fk_model.specs.Outcomes.{listed}
use Rattle.fk_model.specs.Places.{Path}
use Rattle.fk_model.specs.World.{World, Change, apply}
use Rattle.fk_model.specs.World.Change.{Alter, Kill, Make, MakeSpace, Move}
use Rattle.fk_store.specs.Store.Paths.{place}
use Rattle.laws_moves.specs.Machine.Frame.{name_body}
use Rattle.fk_turns.specs.declared.whys.whys.Why.{Why}
use Rattle.fk_turns.specs.declared.whys.whys.Why.TheVariants as whys
use Rattle.fk_turns.specs.Whys.Whys.{IsWhy}

-- a change takes no object from its place, and makes none where something stands
abbrev pub IsMild : World → Change → Type 0
IsMild w (Alter x edit) = ⊤
IsMild w (Make x body) = is_some (w.body x) ≡ false
IsMild w (MakeSpace x holder) = is_some (w.body x) ≡ false
IsMild w (Kill x) = ⊥
IsMild w (Move x slot) = ⊥
IsMild w other = ⊤

abbrev pub AreMild : World → List Change → Type 0
AreMild w [] = ⊤
AreMild w (c ∷ cs) = IsMild w c × AreMild (apply c w) cs

-- changes that name neither a thread nor what its reason reads. What may be any reason no change leaves
abbrev pub AreApart : World → List Change → (ℕ → Path) → Path → Why → Type 0
AreApart w cs p x whys.Still = name_body w cs x ≡ false
AreApart w cs p x (whys.At key) = (name_body w cs x ≡ false) × (name_body w cs (place p key) ≡ false)
AreApart w cs p x whys.Loud = ⊥
AreApart w cs p x whys.Barred = ⊥

-- what holds of a thread holds after a move whose changes are mild and apart from it
abbrev pub ReasonsStay : Type 0
ReasonsStay = (w : World) (mover : Path) (pick : Option Path) (ask : Ask) (p : ℕ → Path) (x : Path) (why : Why) → IsWhy w p x why →
    AreMild w (listed (outcome w mover pick ask)) → AreApart w (listed (outcome w mover pick ask)) p x why → IsWhy (step w mover pick ask).world p x why
