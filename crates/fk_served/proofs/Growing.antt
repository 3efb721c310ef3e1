-- Growing: which servers grow by what a move tells them, and whether there is room for that.
use Rattle.std.proofs.Common.{◌≡◌, ◌≤◌, ℕ, Bool, true, false, not, ◌&&◌, ◌||◌, List, [], ◌∷◌, Option, Some, None, refl, sym, ap, subst, ◌∙◌, arith}
use Rattle.std.proofs.lemmas.List.Elements.{All-cons}
use Rattle.fk_model.specs.declared.moves.Said as says_of
use Rattle.fk_model.specs.declared.names.Who.{Who}
use Rattle.fk_model.specs.Endings.{has_ended}
use Rattle.fk_model.specs.Moves.{Step}
use Rattle.fk_model.specs.Outcomes as outcomes
use Rattle.fk_model.specs.Outcomes.Said.{Nothing, Answered, Taken, Words, Given, Full, Passed, Ended}
use Rattle.fk_model.specs.Places.{Path}
use Rattle.fk_model.specs.Runs.{Event, after}
use Rattle.fk_model.specs.Searches.{depth}
use Rattle.fk_model.specs.Valid.{IsValid}
use Rattle.fk_model.specs.Who.{named}
use Rattle.fk_model.specs.World.{World}
use Rattle.fk_natives.specs.Natives as natives
use Rattle.fk_natives.specs.Natives.{State, News, grows}
use Rattle.fk_kernel.specs.Events.{step_of, is_who}
use Rattle.fk_served.specs.Foretold.{IsForetold}
use Rattle.fk_kernel.specs.Kernels.{Kept}
use Rattle.fk_kernel.specs.Kernels.{path_of as path}
use Rattle.fk_kernel.specs.Kernels.{world_of as world}
use Rattle.fk_kernel.specs.Tolds.{Told}
use Rattle.fk_plans.specs.Plans.Hearers.{says_to, says_to_who, to_servers}
use Rattle.fk_store.specs.Store.Moves.{said_by}
use Rattle.laws_jobs.specs.Machines.{said_of}
use Rattle.fk_served.specs.Served.{Services, said_at, said_to, news_to, shown, grows_by, grows_at, grows_told, some_grow, some_told, HaveRoom, HaveRoomFor}
use Rattle.fk_served.proofs.Hearing.{said-alike}

-- ---- room

or-true : (b : Bool) → (b || true) ≡ true
or-true true = refl
or-true false = refl

-- who grows by what it hears grows by what is told
pub told_room : (said : says_of.Said) (ended : Option Who) (who : Who) (state : State) (news : News) → Some news ≡ news_to said ended who →
    grows state news ≡ true → grows_told said ended (who, state) ≡ true
told_room said ended who state news is grow = by (is_who ended who) refl
  where
    by : (b : Bool) → is_who ended who ≡ b → grows_told said ended (who, state) ≡ true
    by true e =
        let same : news ≡ natives.Ended = (let there = rw e at is in cc) in
        let its : grows state natives.Ended ≡ true = subst (λ n. grows state n ≡ true) same grow in
        rw (e, its) (or-true (grows_by (said_to said who) state))
    by false e =
        let there : Some news ≡ said_to said who = rw e at is in
        rw (sym there, grow) refl

or-false : (a b : Bool) → (a || b) ≡ false → (a ≡ false) × (b ≡ false)
or-false true b is = absurd (cc)
or-false false b is = (refl, is)

not-both : {P : Type 0} (b : Bool) → b ≡ false → b ≡ true → P
not-both b nay yea = absurd (cc)

module _ {S : Type 0} (meaning : S → State) (has : S → Bool) (said : says_of.Said) (ended : Option Who) where
  -- where nobody grows no room is needed
  still-room : (list : List (Who × S)) → some_told said ended (shown meaning list) ≡ false → HaveRoomFor meaning has said ended list
  still-room [] none = λ k d less. absurd (omega (arith, less))
  still-room (e ∷ es) none =
      let both = or-false (grows_told said ended (e.0, meaning e.1)) (some_told said ended (shown meaning es)) none in
      All-cons (λ (e : Who × S). grows_told said ended (e.0, meaning e.1) ≡ true → has e.1 ≡ true) e es
      (not-both (grows_told said ended (e.0, meaning e.1)) both.0) (still-room es both.1)

  -- so there is room for what is told where there is room for anything, or nobody grows
  pub room-for : (used : Bool) (list : List (Who × S)) → (used ≡ false → HaveRoom has list) →
      (not used ≡ false → some_told said ended (shown meaning list) ≡ false) → HaveRoomFor meaning has said ended list
  room-for false list room none = λ k d less grow. room refl k d less
  room-for true list room none = still-room list (none refl)

-- ---- by what a move says, and by names

said-servers : (said : outcomes.Said) (x : Path) → said_at (to_servers said) x ≡ said_at said x
said-servers Nothing x = refl
said-servers (Answered status words) x = refl
said-servers (Taken port client resumed turn moved) x = refl
said-servers (Words port words) x = refl
said-servers (Given port count) x = refl
said-servers (Full port) x = refl
said-servers (Passed port) x = refl
said-servers (Ended port) x = refl

both-true : (a b c : Bool) → (c ≡ true → a ≡ true) → (c && b) ≡ true → (a && b) ≡ true
both-true a b true leads is = rw (leads refl) is
both-true a b false leads is = absurd (cc)

or-lead : (a b c : Bool) → (b ≡ true → c ≡ true) → (a || b) ≡ true → (a || c) ≡ true
or-lead true b c leads is = refl
or-lead false b c leads is = leads is

or-both : (a b c d : Bool) → (a ≡ true → c ≡ true) → (b ≡ true → d ≡ true) → (a || b) ≡ true → (c || d) ≡ true
or-both true b c d first second is = rw (first refl) refl
or-both false b c d first second is = rw (second is) (or-true c)

-- what is foretold
module _ (w : World) (p : ℕ → Path) (e : Event) (told : Told) (is : IsForetold w p e told) where
  foretold-said : (who : Who) → said_at (said_of w e) (named w who) ≡ said_to told.said who
  foretold-said who = sym (said-servers (said_of w e) (named w who)) ∙ ap (λ s. said_at s (named w who)) is.said
      ∙ said-servers (said_by p told.said) (named w who) ∙ said-alike p told.said (named w who) who (is.heard who)

  -- whoever grows by what is foretold grows by the move
  pub foretold-grow : (services : Services) → some_told told.said told.ended services ≡ true → some_grow w e services ≡ true
  foretold-grow [] grow = grow
  foretold-grow (s ∷ ss) grow = or-both _ _ _ _ here (foretold-grow ss) grow
    where
      here : grows_told told.said told.ended s ≡ true → grows_at w e s ≡ true
      here one = rw (foretold-said s.0) (or-lead (grows_by (said_to told.said s.0) s.1) _ _
          (both-true (has_ended w (after w e) (named w s.0)) (grows s.1 natives.Ended) (is_who told.ended s.0) (is.loses s.0)) one)

  -- and where nobody does nobody does, if the world behind it is valid
  module _ (valid : IsValid (after w e)) (few : (after w e).next ≤ depth) where
    same-end : (who : Who) (b : Bool) → is_who told.ended who ≡ b → has_ended w (after w e) (named w who) ≡ b
    same-end who true e = is.loses who e
    same-end who false e = is.keeps valid few who e

    pub foretold-same : (services : Services) → some_grow w e services ≡ some_told told.said told.ended services
    foretold-same [] = refl
    foretold-same (s ∷ ss) = rw (foretold-said s.0, same-end s.0 (is_who told.ended s.0) refl, foretold-same ss) refl

-- what is told of a move that was made
pub told-same : (m n : Kept) (e : Event) (said : says_of.Said) (ended : Option Who) →
    step_of (world m) e ≡ record { world = world n; said = said_by (path n) said } →
    ((port : Who) → has_ended (world m) (world n) (named (world m) port) ≡ is_who ended port) →
    ((port : Who) → says_to (step_of (world m) e).said (named (world m) port) ≡ says_to_who said port) →
    (services : Services) → some_grow (world m) e services ≡ some_told said ended services
told-same m n e said ended made ends tells [] = refl
told-same m n e said ended made ends tells (s ∷ ss) =
    let goes : after (world m) e ≡ world n = ap (λ (t : Step). t.world) made in
    let same = ap (λ (t : Step). t.said) made in
    let tell = subst (λ t. says_to t (named (world m) s.0) ≡ says_to_who said s.0) same (tells s.0) in
    let alike = subst (λ t. said_at t (named (world m) s.0) ≡ said_to said s.0) (sym same) (said-alike (path n) said (named (world m) s.0) s.0 tell) in
    rw (goes, ends s.0, alike, told-same m n e said ended made ends tells ss) refl
