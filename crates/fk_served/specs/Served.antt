-- Native servers, each by its port: what they ask for, and what each hears of a move.
use Rattle.std.specs.Prelude.{◌≡◌, ◌&&◌, ◌||◌, ℕ, Bool, true, false, List, [], ◌∷◌, map, take, Option, Some, None, if◌then◌else◌}
use Rattle.std.specs.List.{All}
use Rattle.fk_model.specs.declared.moves.Ask.{Ask}
use Rattle.fk_model.specs.declared.moves.Ask.TheVariants as asks
use Rattle.fk_model.specs.declared.moves.Rule.{Rule}
use Rattle.fk_model.specs.declared.moves.Said as says_of
use Rattle.fk_model.specs.declared.moves.Said.TheVariants as says
use Rattle.fk_model.specs.declared.names.Who.{Who}
use Rattle.fk_model.specs.Endings.{has_ended}
use Rattle.fk_model.specs.Outcomes as outcomes
use Rattle.fk_model.specs.Outcomes.Said.{Taken, Words, Given, Passed}
use Rattle.fk_model.specs.Places.{Path, leads_to}
use Rattle.fk_model.specs.Runs.{Event, after}
use Rattle.fk_model.specs.Places.Ptr.{At}
use Rattle.fk_model.specs.Valid.{is_served_port}
use Rattle.fk_model.specs.Whole.{are_words}
use Rattle.fk_model.specs.Who.{named}
use Rattle.fk_model.specs.World.{World}
use Rattle.fk_natives.specs.Natives as natives
use Rattle.fk_natives.specs.Natives.{State, News, hears, asks_for, DoesFit}
use Rattle.fk_store.specs.Store.Names.{same_who}
use Rattle.fk_kernel.specs.Kernels.{Kept}
use Rattle.fk_store.specs.Store.Moves.{said_by}
use Rattle.fk_kernel.specs.Kernels.{path_of as path}
use Rattle.fk_kernel.specs.Kernels.{world_of as world}
use Rattle.fk_plans.specs.Plans.Hearers.{says_to, says_to_who}
use Rattle.fk_kernel.specs.Events.{is_who, step_of}
use Rattle.laws_moves.specs.Frozen.Users.{is_users}
use Rattle.laws_jobs.specs.Machines.{said_of}
use Rattle.laws_runs.specs.Cores.{Servers}

-- the servers in the order of the file, each with the name of its port
abbrev pub Services : Type 0
Services = List (Who × State)

-- ---- what they ask for

-- the server of a port
unfoldable pub serving : Services → Who → Option State
serving [] who = None
serving (e ∷ es) who = if same_who e.0 who then Some e.1 else serving es who

-- what a server asks for; everybody else runs
abbrev pub asked_of : Option State → Option Ask
asked_of None = Some asks.Run
asked_of (Some state) = asks_for state

-- where a served port stands its server is asked. What stands there once that port is gone runs
abbrev pub asked_at : Bool → Services → Who → Option Ask
asked_at is_port services who = if is_port then asked_of (serving services who) else Some asks.Run

-- what a mover asks for: what the server does whose port it is, or to run
abbrev pub asked : Services → World → Who → Option Ask
asked services w who = asked_at (is_served_port w (At (named w who))) services who

-- it is what users may ask for
abbrev pub ServersAskAsUsers : Type 0
ServersAskAsUsers = (services : Services) (w : World) (who : Who) (ask : Ask) → asked services w who ≡ Some ask → is_users ask ≡ true

-- what is given is words
abbrev pub gives_words : Ask → Bool
gives_words (asks.Give words len) = are_words words
gives_words other = true

-- ---- what they hear

-- what a move tells the server of the port at a path
abbrev pub said_at : outcomes.Said → Path → Option News
said_at (Taken to client resumed turn moved) port = if leads_to port to then Some (natives.Taken turn moved) else None
said_at (Words to words) port = if leads_to port to then Some (natives.Words words) else None
said_at (Given to count) port = if leads_to port to then Some (natives.Given count) else None
said_at (Passed to) port = if leads_to port to then Some natives.Over else None
said_at other port = None

-- a server that had a client before the move and has none after it hears that the talk has ended, whoever moved; any other what the
-- move tells it
abbrev pub news_at : World → Event → Path → Option News
news_at w e port = if has_ended w (after w e) port then Some natives.Ended else said_at (said_of w e) port

abbrev pub after_news : Option News → State → State
after_news None state = state
after_news (Some news) state = hears state news

abbrev pub hears_of : World → Event → Who × State → Who × State
hears_of w e served = (served.0, after_news (news_at w e (named w served.0)) served.1)

-- all servers, as a run has them
abbrev pub servers : Servers Services
servers = record { asks = asked; hears = λ services w e. map (hears_of w e) services }

-- ---- the same by names

-- what a server hears of what a move told
abbrev pub said_to : says_of.Said → Who → Option News
said_to says.Nothing who = None
said_to (says.Answer answer) who = None
said_to (says.Taken port client resumed turn moved) who = if same_who who port then Some (natives.Taken turn moved) else None
said_to (says.Words port words len) who = if same_who who port then Some (natives.Words (take len words)) else None
said_to (says.Given port len) who = if same_who who port then Some (natives.Given len) else None
said_to (says.Full port) who = None
said_to (says.Over port) who = if same_who who port then Some natives.Over else None
said_to (says.Ended port) who = None

-- and where it lost its client, that alone
abbrev pub news_to : says_of.Said → Option Who → Who → Option News
news_to said ended who = if is_who ended who then Some natives.Ended else said_to said who

-- what becomes of a server
abbrev pub told : says_of.Said → Option Who → Who × State → Who × State
told said ended served = (served.0, after_news (news_to said ended served.0) served.1)

-- the server of a port alone hears this
abbrev pub news_at_port : Who → News → Who → Option News
news_at_port port news who = if same_who who port then Some news else None

abbrev pub told_at_port : Who → News → Who × State → Who × State
told_at_port port news served = (served.0, after_news (news_at_port port news served.0) served.1)

-- ---- what takes memory

-- a server grows by news, if there are any
abbrev pub grows_by : Option News → State → Bool
grows_by None state = false
grows_by (Some news) state = natives.grows state news

-- a server grows by a move: by what this says at its port, or by the end of its talk
abbrev pub grows_at : World → Event → Who × State → Bool
grows_at w e served = grows_by (said_at (said_of w e) (named w served.0)) served.1
    || (has_ended w (after w e) (named w served.0) && natives.grows served.1 natives.Ended)

-- some server does
abbrev pub some_grow : World → Event → Services → Bool
some_grow w e [] = false
some_grow w e (s ∷ ss) = grows_at w e s || some_grow w e ss

-- the same by names
abbrev pub grows_told : says_of.Said → Option Who → Who × State → Bool
grows_told said ended served = grows_by (said_to said served.0) served.1 || (is_who ended served.0 && natives.grows served.1 natives.Ended)

-- some server grows by it
abbrev pub some_told : says_of.Said → Option Who → Services → Bool
some_told said ended [] = false
some_told said ended (s ∷ ss) = grows_told said ended s || some_told said ended ss

-- ---- what they rest on

-- the table has the rule of each at its place
abbrev pub AllFit : List Rule → Services → Type 0
AllFit rules [] = Unit {0}
AllFit rules (e ∷ es) = DoesFit rules e.1 × AllFit rules es

-- what stands at each port is shown by its state
abbrev pub shown : {S : Type 0} → (S → State) → List (Who × S) → Services
shown meaning list = map (λ e. (e.0, meaning e.1)) list

-- each has room for what it may hear
abbrev pub HaveRoom : {S : Type 0} → (S → Bool) → List (Who × S) → Type 0
HaveRoom has_room list = All (λ e. has_room e.1 ≡ true) list

-- so has each that grows by what is told
abbrev pub HaveRoomFor : {S : Type 0} → (S → State) → (S → Bool) → says_of.Said → Option Who → List (Who × S) → Type 0
HaveRoomFor meaning has_room said ended list = All (λ e. grows_told said ended (e.0, meaning e.1) ≡ true → has_room e.1 ≡ true) list

-- servers as the code has them: whether there is room for what each may hear
pub record Housed : Type 0 where
  pub list : Services
  pub ready : Bool

-- ---- what is said of it by names is what the machine says by paths

-- where a move's step is known, whose talk it ends, and whom it tells what, each server hears by its name what it hears by its port's path
abbrev pub HearByNames : Type 0
HearByNames = (m n : Kept) (e : Event) (said : says_of.Said) (ended : Option Who) →
    step_of (world m) e ≡ record { world = world n; said = said_by (path n) said } →
    ((port : Who) → has_ended (world m) (world n) (named (world m) port) ≡ is_who ended port) →
    ((port : Who) → says_to (step_of (world m) e).said (named (world m) port) ≡ says_to_who said port) →
    (services : Services) → map (hears_of (world m) e) services ≡ map (told said ended) services

-- what they hear leaves the table fitting
abbrev pub FitsOnceTold : Type 0
FitsOnceTold = (rules : List Rule) (said : says_of.Said) (ended : Option Who) (services : Services) → AllFit rules services
    → AllFit rules (map (told said ended) services)
