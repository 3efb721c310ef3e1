-- Stood: who was a user's thread before a move, and who is one after it.
use Rattle.std.specs.Prelude.{◌≡◌, Bool, true, false, not, ◌||◌, List, [], ◌∷◌, Option}
use Rattle.fk_model.specs.declared.moves.Ask.{Ask}
use Rattle.fk_model.specs.declared.moves.Ask.TheVariants as asks
use Rattle.fk_model.specs.declared.stage.Stage.{Stage}
use Rattle.fk_model.specs.Holds.{is_porter}
use Rattle.fk_model.specs.Moves.{outcome, step}
use Rattle.fk_model.specs.Objects.{Mode, Thread, holds}
use Rattle.fk_model.specs.Objects.Mode.{Calling}
use Rattle.fk_model.specs.Outcomes.{listed}
use Rattle.fk_model.specs.Places.{Path, same_path, parent}
use Rattle.fk_model.specs.Searches.{thread_at}
use Rattle.fk_model.specs.StageFacts.{Made, facts_of}
use Rattle.fk_model.specs.StageFacts.Made.{Makes_nothing, An_object, A_page}
use Rattle.fk_model.specs.Valid.{IsRooted}
use Rattle.fk_model.specs.World.{World, Change}
use Rattle.fk_model.specs.World.Change.{Kill, Make, MakeSpace, Move}

-- a user's thread stands at a path
abbrev pub is_users_at : World → Path → Bool
is_users_at w x = holds (λ (t : Thread). not (is_porter t.mode)) (thread_at w x)

-- a change puts something there
abbrev pub puts : Change → Path → Bool
puts (Make x body) q = same_path q x
puts (MakeSpace x holder) q = same_path q x
puts (Move x slot) q = same_path q (slot ∷ parent x)
puts other q = false

abbrev pub put : List Change → Path → Bool
put [] q = false
put (c ∷ cs) q = puts c q || put cs q

-- or takes something from there
abbrev pub takes : Change → Path → Bool
takes (Kill x) q = same_path q x
takes (Move x slot) q = same_path q x
takes other q = false

abbrev pub taken : List Change → Path → Bool
taken [] q = false
taken (c ∷ cs) q = takes c q || taken cs q

-- whoever is a user's thread after a move was one before it, or was put there by it: no move makes a porter one
abbrev pub UsersStood : Type 0
UsersStood = (w : World) (x : Path) (pick : Option Path) (ask : Ask) (q : Path) → IsRooted w → put (listed (outcome w x pick ask)) q ≡ false →
    is_users_at (step w x pick ask).world q ≡ true → is_users_at w q ≡ true

-- whoever was a user's thread before a move is one after it, unless it was taken from its place or something was put there: no move makes a user's thread a
-- porter
abbrev pub UsersStay : Type 0
UsersStay = (w : World) (x : Path) (pick : Option Path) (ask : Ask) (q : Path) → IsRooted w → put (listed (outcome w x pick ask)) q ≡ false →
    taken (listed (outcome w x pick ask)) q ≡ false → is_users_at w q ≡ true → is_users_at (step w x pick ask).world q ≡ true

-- ---- who gives a page

abbrev pub is_page : Made → Bool
is_page A_page = true
is_page An_object = false
is_page Makes_nothing = false

abbrev pub is_giving : Stage → Bool
is_giving stage = is_page (facts_of stage).makes

abbrev pub gives_first : Mode → Bool
gives_first (Calling (stage ∷ todo) rest) = is_giving stage
gives_first other = false

-- the stage that a mover is asked for, or that comes next of its call, gives a page
abbrev pub gives : Ask → Option Thread → Bool
gives asks.Run o = holds (λ (t : Thread). gives_first t.mode) o
gives (asks.Call stage words) o = is_giving stage
gives other o = false

-- such a move puts nothing anywhere
abbrev pub GivesPutNothing : Type 0
GivesPutNothing = (w : World) (x : Path) (pick : Option Path) (ask : Ask) (q : Path) → gives ask (thread_at w x) ≡ true →
    put (listed (outcome w x pick ask)) q ≡ false
