-- Acts: what servers ask for.
use Rattle.std.proofs.Common.{◌≡◌, ℕ, suc, ◌<◌, Bool, true, false, if◌then◌else◌, List, [], ◌∷◌, length, Option, Some, None, refl, subst, arith}
use Rattle.std.specs.List.{slice_get}
use Rattle.fk_model.specs.declared.moves.Ask.{Ask}
use Rattle.fk_model.specs.declared.moves.Ask.TheVariants as asks
use Rattle.fk_model.specs.declared.names.Who.{Who}
use Rattle.fk_model.specs.declared.stage.Stage.{Stage}
use Rattle.fk_model.specs.Moves.{IsReady, GoesAllowed, outcome, user_move}
use Rattle.fk_model.specs.Objects.{Body}
use Rattle.fk_model.specs.Objects.Body.{Thread_of, Port}
use Rattle.fk_model.specs.Places.{Path}
use Rattle.fk_model.specs.Places.Ptr.{At}
use Rattle.fk_model.specs.Valid.{is_fit, is_served_port}
use Rattle.fk_model.specs.Who.{named}
use Rattle.fk_model.specs.World.{World}
use Rattle.fk_natives.specs.declared.service.Side.{Side}
use Rattle.fk_natives.specs.declared.service.Side.TheVariants as sides
use Rattle.fk_natives.specs.Natives.{State, asks_at, asks_for, gives_left, left_of, side_of}
use Rattle.fk_store.specs.Store.Names.{same_who}
use Rattle.fk_store_graph.proofs.InLeads.NameLaws.{same_who_eq}
use Rattle.laws_moves.specs.Frozen.Users.{is_users}
use Rattle.laws_moves.specs.Whole.Runnable.{has_all_words}
use Rattle.fk_served.specs.Served.{Services, serving, asked, asked_of, asked_at, gives_words, ServersAskAsUsers}

-- ---- what servers ask for is fit

fit-left : (w : World) (x : Path) (left : List ℕ) → is_fit w x (gives_left left) ≡ true
unfolding is_fit
fit-left w x [] = refl
fit-left w x (word ∷ words) = refl

fit-state : (w : World) (x : Path) (side : Side) (left : List ℕ) (ask : Ask) → asks_at side left ≡ Some ask → is_fit w x ask ≡ true
unfolding is_fit
fit-state w x sides.Idle left ask is = let same : asks.Accept ≡ ask = cc in subst (λ a. is_fit w x a ≡ true) same refl
fit-state w x sides.Client left ask is = absurd (cc)
fit-state w x sides.Own left ask is = let same : gives_left left ≡ ask = cc in subst (λ a. is_fit w x a ≡ true) same (fit-left w x left)

pub fit-asked : (services : Services) (w : World) (who : Who) (ask : Ask) (x : Path) → asked services w who ≡ Some ask → is_fit w x ask ≡ true
unfolding is_fit
fit-asked services w who ask x is = by (is_served_port w (At (named w who))) (serving services who) is
  where
    run : (ask : Ask) → Some asks.Run ≡ Some ask → is_fit w x ask ≡ true
    run ask is = let same : asks.Run ≡ ask = cc in subst (λ a. is_fit w x a ≡ true) same refl

    by : (port : Bool) (state : Option State) → (if port then asked_of state else Some asks.Run) ≡ Some ask → is_fit w x ask ≡ true
    by true None is = run ask is
    by true (Some state) is = fit-state w x (side_of state) (left_of state) ask is
    by false state is = run ask is

-- ---- which servers there are, and that none calls

pub found : (services : Services) (who : Who) (state : State) → serving services who ≡ Some state →
    (k : ℕ) × (served : Who × State) × (slice_get services k ≡ Some served) × (k < length services) × (served.0 ≡ who)
unfolding serving
found [] who state is = absurd (cc)
found (e ∷ es) who state is = by (same_who e.0 who) refl (λ rest. found es who state rest)
  where
    by : (t : Bool) → same_who e.0 who ≡ t → (serving es who ≡ Some state
        → (k : ℕ) × (served : Who × State) × (slice_get es k ≡ Some served) × (k < length es) × (served.0 ≡ who))
        → (k : ℕ) × (served : Who × State) × (slice_get (e ∷ es) k ≡ Some served) × (k < length (e ∷ es)) × (served.0 ≡ who)
    by true same later = (0, e, refl, omega arith, same_who_eq e.0 who same)
    by false other later = let rest = later (rw other at is) in (suc rest.0, rest.1, rest.2, omega (arith, rest.3), rest.4)

-- no server asks for a call
no-call : (left : List ℕ) (stage : Stage) (words : List ℕ) → gives_left left ≡ asks.Call stage words → ⊥
no-call [] stage words is = cc
no-call (word ∷ left) stage words is = cc

state-calls : (side : Side) (left : List ℕ) (stage : Stage) (words : List ℕ) → asks_at side left ≡ Some (asks.Call stage words) → ⊥
state-calls sides.Idle left stage words is = cc
state-calls sides.Client left stage words is = cc
state-calls sides.Own left stage words is = no-call left stage words (let same : gives_left left ≡ asks.Call stage words = cc in same)

pub never-calls : (services : Services) (w : World) (who : Who) (stage : Stage) (words : List ℕ) → asked services w who ≡ Some (asks.Call stage words) → ⊥
never-calls services w who stage words is = by (is_served_port w (At (named w who))) (serving services who) is
  where
    by : (port : Bool) (state : Option State) → (if port then asked_of state else Some asks.Run) ≡ Some (asks.Call stage words) → ⊥
    by true (Some state) e = state-calls (side_of state) (left_of state) stage words e
    by true None e = cc
    by false state e = cc

-- who is ready to run isn't a port
no-thread : (w : World) (x : Path) (pick : Option Path) → GoesAllowed w x (user_move w x pick None) → ⊥
no-thread w x pick h = h

pub runs : (services : Services) (w : World) (who : Who) (pick : Option Path) → IsReady w (named w who) pick asks.Run → asked services w who ≡ Some asks.Run
unfolding outcome
runs services w who pick ready = by (w.body (named w who)) refl
  where
    by : (o : Option Body) → w.body (named w who) ≡ o → asked services w who ≡ Some asks.Run
    by (Some (Thread_of t)) e = rw e refl
    by (Some (Port set served)) e = absurd (no-thread w (named w who) pick (rw e at ready))
    by (Some b) e = rw e refl
    by None e = rw e refl

-- nor is it where no native server acts for whatever stands there
pub unserved_runs : (services : Services) (w : World) (who : Who) → is_served_port w (At (named w who)) ≡ false → asked services w who ≡ Some asks.Run
unserved_runs services w who none = rw none refl

-- ---- what is given is words

word_state : (state : State) (ask : Ask) → asks_for state ≡ Some ask → gives_words ask ≡ true → has_all_words ask ≡ true
word_state state asks.Run is words = refl
word_state state (asks.Call stage given) is words = absurd (state-calls (side_of state) (left_of state) stage given is)
word_state state asks.Accept is words = refl
word_state state (asks.Give given len) is words = words
word_state state asks.Over is words = refl

pub words_asked : (o : Option State) (ask : Ask) → asked_of o ≡ Some ask → gives_words ask ≡ true → has_all_words ask ≡ true
words_asked (Some state) ask is words = word_state state ask is words
words_asked None ask is words = let same : asks.Run ≡ ask = cc in subst (λ a. has_all_words a ≡ true) same refl

-- ---- they ask for what users may

same_ask : (a b : Ask) → Some a ≡ Some b → is_users a ≡ true → is_users b ≡ true
same_ask a b e h = let same : a ≡ b = cc in rw (← same) h

given : (left : List ℕ) → is_users (gives_left left) ≡ true
given [] = refl
given (word ∷ words) = refl

state_asks : (side : Side) (left : List ℕ) (ask : Ask) → asks_at side left ≡ Some ask → is_users ask ≡ true
state_asks sides.Idle left ask e = same_ask asks.Accept ask e refl
state_asks sides.Client left ask e = cc
state_asks sides.Own left ask e = same_ask (gives_left left) ask e (given left)

served_asks : (o : Option State) (ask : Ask) → asked_of o ≡ Some ask → is_users ask ≡ true
served_asks None ask e = same_ask asks.Run ask e refl
served_asks (Some state) ask e = state_asks (side_of state) (left_of state) ask e

pub servers_ask_as_users : ServersAskAsUsers
servers_ask_as_users services w who ask e = by (is_served_port w (At (named w who))) e
  where
    by : (t : Bool) → asked_at t services who ≡ Some ask → is_users ask ≡ true
    by true e = served_asks (serving services who) ask e
    by false e = same_ask asks.Run ask e refl
