-- Giving: what may lack memory makes an object, or gives a page, which puts nothing.
use Rattle.std.proofs.Common.{◌≡◌, ◌≤◌, ℕ, Bool, true, false, List, [], ◌∷◌, Option, Some, None, IsSome, Result, Ok, Err, OnErr, refl, sym, ap, subst, ◌∙◌}
use Rattle.fk_model.specs.declared.moves.Ask.{Ask}
use Rattle.fk_model.specs.declared.moves.Ask.TheVariants as asks
use Rattle.fk_model.specs.declared.moves.Move.{Move}
use Rattle.fk_model.specs.declared.names.Who.{Who}
use Rattle.fk_model.specs.declared.stage.Stage.{Stage}
use Rattle.fk_model.specs.declared.stage.Stage.TheVariants.{Create, PageGive, SpaceMakeHeld}
use Rattle.fk_model.specs.Moves.{outcome, step}
use Rattle.fk_model.specs.Objects.{Mode, Thread}
use Rattle.fk_model.specs.Objects.Mode.{Calling}
use Rattle.fk_model.specs.Outcomes.{listed}
use Rattle.fk_model.specs.Places.{Path}
use Rattle.fk_model.specs.Searches.{depth, thread_at}
use Rattle.fk_model.specs.Valid.{is_fit, IsValid}
use Rattle.fk_model.specs.Who.{named, space_born}
use Rattle.fk_model.specs.World.{World}
use Rattle.fk_store.specs.Store.Contents.{Contents}
use Rattle.fk_store.specs.Store.Paths.{path, place}
use Rattle.fk_store.specs.Store.Threads.{todo_at, todo_of_mode, todo_of_thread}
use Rattle.fk_store.specs.Store.World.{world, place_of}
use Rattle.fk_turns.specs.Next.Judgements.{may_lack}
use Rattle.fk_turns.specs.Next.Rows.{first_takes_memory, takes_memory}
use Rattle.fk_turns.specs.Moved.Kept.{is_user_at}
use Rattle.fk_turns.proofs.InMoved.Told.{user_there}
use Rattle.laws_moves.specs.Users.Stood.{gives, gives_first, is_giving, is_users_at, put}
use Rattle.laws_moves.proofs.InUsers.Rows.{gives_put_nothing}
use Rattle.laws_moves.proofs.InUsers.Named.{names_stood}
use Rattle.laws_moves.proofs.InUsers.Stood.{users_stood}
use Rattle.fk_turns.specs.Steps.Steps.{first_makes, makes_object, may_make}

pub lacks : {A E : Type 0} (r : Result A E) (X Y : Type 0) → (X → Y) → OnErr r X → OnErr r Y
lacks (Ok a) X Y f h = tt
lacks (Err e) X Y f h = f h

-- ---- stages

pub stage_lacks : (porter : Bool) (stage : Stage) → makes_object porter stage ≡ true → takes_memory porter stage ≡ true
stage_lacks porter (Create s x kind) is = refl
stage_lacks porter (SpaceMakeHeld x) is = is
stage_lacks porter other is = absurd (cc)

stage_gives : (porter : Bool) (stage : Stage) → takes_memory porter stage ≡ true → makes_object porter stage ≡ false → is_giving stage ≡ true
stage_gives porter (PageGive s page address) is off = refl
stage_gives porter (Create s x kind) is off = absurd (cc)
stage_gives porter (SpaceMakeHeld x) is off = absurd (cc)
stage_gives porter other is off = absurd (cc)

first_lacks : (todo : List Stage) → first_makes todo ≡ true → first_takes_memory todo ≡ true
first_lacks [] is = absurd (cc)
first_lacks (stage ∷ later) is = stage_lacks false stage is

-- ---- moves

pub makes_lacks : (m : Contents) (move : Move) (ask : Ask) → may_make m move ask ≡ true → may_lack m move ask ≡ true
makes_lacks m move asks.Run is = first_lacks (todo_at (world m) (place (path m) move.who)) is
makes_lacks m move (asks.Call stage words) is = stage_lacks true stage is
makes_lacks m move other is = absurd (cc)

thread_gives : (w : World) (x : Path) → first_takes_memory (todo_at w x) ≡ true → first_makes (todo_at w x) ≡ false → gives asks.Run (thread_at w x) ≡ true
unfolding todo_at
thread_gives w x is off = by (thread_at w x) is off
  where
    by_mode : (g : Mode) → first_takes_memory (todo_of_mode g) ≡ true → first_makes (todo_of_mode g) ≡ false → gives_first g ≡ true
    by_mode (Calling (stage ∷ later) rest) is off = stage_gives false stage is off
    by_mode (Calling [] rest) is off = absurd (cc)
    by_mode other is off = absurd (cc)

    by : (o : Option Thread) → first_takes_memory (todo_of_thread o) ≡ true → first_makes (todo_of_thread o) ≡ false → gives asks.Run o ≡ true
    by None is off = absurd (cc)
    by (Some t) is off = by_mode t.mode is off

pub lacks_gives : (m : Contents) (move : Move) (ask : Ask) → may_lack m move ask ≡ true → may_make m move ask ≡ false →
    gives ask (thread_at (world m) (place (path m) move.who)) ≡ true
lacks_gives m move asks.Run is off = thread_gives (world m) (place (path m) move.who) is off
lacks_gives m move (asks.Call stage words) is off = stage_gives true stage is off
lacks_gives m move other is off = absurd (cc)

-- whoever is a user's thread once a page was given was one before
pub stood_before : (m n : Contents) (x : Path) (pick : Option Path) (ask : Ask) → IsValid (world m) → (world m).next ≤ depth →
    path m ≡ space_born (world m) → path n ≡ space_born (world n) → (world n).next ≤ depth → is_fit (world m) x ask ≡ true →
    world n ≡ (step (world m) x pick ask).world → gives ask (thread_at (world m) x) ≡ true → (who : Who) → is_user_at n who ≡ true → is_user_at m who ≡ true
stood_before m n x pick ask valid few born born_new few_new fit stepped giving who is =
    let w = world m in
    let v = (step w x pick ask).world in
    let none : (q : Path) → put (listed (outcome w x pick ask)) q ≡ false = λ q. gives_put_nothing w x pick ask q giving in
    let there : place_of n who ≡ named v who =
    ap (λ (p : ℕ → Path). who.slot ∷ p who.space) born_new ∙ ap (λ (u : World). named u who) stepped in
    let user : is_users_at v (named v who) ≡ true =
    subst (λ (q : Path). is_users_at v q ≡ true) there (sym (ap (λ (u : World). is_users_at u (place_of n who)) stepped) ∙ is) in
    let live : IsSome (v.body (named v who)) = user_there v (named v who) user in
    let then_few : v.next ≤ depth = subst (λ (u : World). u.next ≤ depth) stepped few_new in
    let back : named v who ≡ named w who = names_stood w x pick ask valid few fit then_few who live (none (named v who)) in
    let stood : is_users_at w (named v who) ≡ true = users_stood w x pick ask (named v who) valid.rooted (none (named v who)) user in
    let here : place_of m who ≡ named w who = ap (λ (p : ℕ → Path). who.slot ∷ p who.space) born in
    subst (λ (q : Path). is_users_at w q ≡ true) (back ∙ sym here) stood
