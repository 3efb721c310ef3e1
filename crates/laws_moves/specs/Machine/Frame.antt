-- The frame: which bodies and pages a list of changes names. All others stay.
use Rattle.std.specs.Prelude.{◌≡◌, ℕ, Bool, false, ◌&&◌, ◌||◌, ◌==◌, List, [], ◌∷◌, Option}
use Rattle.fk_model.specs.declared.moves.Ask.{Ask}
use Rattle.fk_model.specs.Places.{Path, same_path, parent}
use Rattle.fk_model.specs.World.{World, Change, apply}
use Rattle.fk_model.specs.World.Change.{Alter, Make, MakeSpace, Kill, Move, PutPage, DropPage}
use Rattle.fk_model.specs.Freezing.{is_swept}
use Rattle.fk_model.specs.Outcomes.{listed}
use Rattle.fk_model.specs.Moves.{outcome, step}

-- a change names the body at q: it is the one that is changed, made, destroyed or renamed, the place that a renamed one
-- gets, or a body with a pointer to it
abbrev pub names_body : World → Change → Path → Bool
names_body w (Alter x edit) q = same_path q x
names_body w (Make x body) q = same_path q x
names_body w (MakeSpace x holder) q = same_path q x
names_body w (Kill x) q = same_path q x || is_swept x q (w.body q)
names_body w (Move x slot) q = same_path q (slot ∷ parent x) || (same_path q x || is_swept x q (w.body q))
names_body w (PutPage space page words) q = false
names_body w (DropPage space page) q = false

-- a change names a page of space s: it is put or dropped, or goes with its space
abbrev pub names_page : Change → Path → ℕ → Bool
names_page (Alter x edit) s page = false
names_page (Make x body) s page = false
names_page (MakeSpace x holder) s page = false
names_page (Kill x) s page = same_path s x
names_page (Move x slot) s page = same_path s (slot ∷ parent x) || same_path s x
names_page (PutPage space number words) s page = same_path s space && page == number
names_page (DropPage space number) s page = same_path s space && page == number

-- one of the changes names it, in the world in which it is made
abbrev pub name_body : World → List Change → Path → Bool
name_body w [] q = false
name_body w (c ∷ cs) q = names_body w c q || name_body (apply c w) cs q

abbrev pub name_page : List Change → Path → ℕ → Bool
name_page [] s page = false
name_page (c ∷ cs) s page = names_page c s page || name_page cs s page

-- a move changes only the bodies that its row lists
abbrev pub MoveKeepsBodies : Type 0
MoveKeepsBodies = (w : World) (x : Path) (pick : Option Path) (ask : Ask) (q : Path) →
    name_body w (listed (outcome w x pick ask)) q ≡ false → (step w x pick ask).world.body q ≡ w.body q

-- and only the pages
abbrev pub MoveKeepsPages : Type 0
MoveKeepsPages = (w : World) (x : Path) (pick : Option Path) (ask : Ask) (s : Path) (page : ℕ) →
    name_page (listed (outcome w x pick ask)) s page ≡ false → (step w x pick ask).world.page s page ≡ w.page s page
