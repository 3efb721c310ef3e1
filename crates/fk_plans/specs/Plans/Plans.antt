-- Plans: the changes that a plan makes.
use Rattle.std.specs.Prelude.{◌≤◌, ◌+◌, ◌≡◌, ℕ, Bool, true, false, ◌&&◌, List, [], ◌∷◌, Option, Some, None, option_map, IsSome, ⊤}
use Rattle.fk_model.specs.declared.names.Who.{Who}
use Rattle.fk_model.specs.declared.stage.Stage.TheVariants.{CondAsleep, CondWait, MutexLock}
use Rattle.fk_model.specs.ObjectRows.{new_object}
use Rattle.fk_model.specs.Places.{Path, Ptr}
use Rattle.fk_model.specs.Places.Ptr.{At}
use Rattle.fk_model.specs.Reach.{words_at}
use Rattle.fk_model.specs.TransferRows.{overwritten}
use Rattle.fk_model.specs.Valid.{birth_at, kind_there}
use Rattle.fk_model.specs.World.{World, Change, apply}
use Rattle.fk_model.specs.World.Change.{Alter, MakeSpace, PutPage, DropPage}
use Rattle.fk_model.specs.World.Edit.{SetLocked, SetPointer, SetHolder, SetStops, Replace, CountMoved, Shift, End, Finish, PassTurn, SetTalk, SetPeer, SetFault, SetTaker}
use Rattle.fk_store.specs.Store.Bodies.{fault_by, peer_by, pointer_by, talk_by}
use Rattle.fk_store.specs.Store.Named.{Each, OnFault, OnPeer, OnPointer, OnTalk}
use Rattle.fk_changes.specs.Records.Settings.{record_there}
use Rattle.fk_store.specs.Store.Paths.{place}
use Rattle.fk_store.specs.Store.Threads.{todo_at}
use Rattle.fk_changes.specs.Threads.Answers.{came_answers}
use Rattle.fk_changes.specs.Threads.Firsts.{IsFirst}
use Rattle.fk_changes.specs.Threads.Shifted.{IsLow}
use Rattle.fk_changes.specs.Threads.Sleepers.{IsAsleep}
pub use Rattle.fk_changes.specs.Readers.Callers.{caller_by}
use Rattle.fk_plans.specs.Plans.Blocks.{block_page, IsBlock}
use Rattle.fk_plans.specs.Plans.Sources.{source_words, IsSource}
use Rattle.fk_changes.specs.declared.readers.caller.Caller.{Caller}
use Rattle.fk_plans.specs.declared.plans.plan.Deed.{Deed}
use Rattle.fk_plans.specs.declared.plans.plan.Deed.TheVariants as deeds
use Rattle.fk_plans.specs.declared.plans.plan.Plan.{Plan}
use Rattle.fk_plans.specs.declared.plans.plan.Plan.TheVariants as plans
use Rattle.fk_plans.specs.declared.plans.sources.Source.TheVariants as sources

-- the holder of a space
abbrev pub holder_by : (ℕ → Path) → Option Who → Option Ptr
holder_by p holder = option_map (λ who. At (place p who)) holder

-- the change that a deed is, where the world is this
abbrev pub change_by : (ℕ → Path) → Deed → World → Change
change_by p (deeds.Locks mutex locked) w = Alter (place p mutex) (SetLocked locked)
change_by p (deeds.Points object to) w = Alter (place p object) (SetPointer (pointer_by p to))
change_by p (deeds.Wakes thread mutex) w = Alter (place p thread) (Replace (MutexLock mutex))
change_by p (deeds.Sleeps thread cond mutex) w = Alter (place p thread) (Replace (CondAsleep cond mutex))
change_by p (deeds.Records object to at) w =
    PutPage (p to.0) to.1 (overwritten (words_at w (p to.0) to.1) at (record_there (w.body (place p object))))
change_by p (deeds.Sends block) w = PutPage (p block.to.0) block.to.1 (block_page p w block)
change_by p (deeds.Counts client count) w = Alter (place p client) (CountMoved count)
change_by p (deeds.Shifts thread count) w = Alter (place p thread) (Shift count)
change_by p (deeds.Ends thread status) w = Alter (place p thread) (End status [])
change_by p (deeds.Finishes thread came) w = Alter (place p thread) (Finish (came_answers came))
change_by p (deeds.Passes client turn) w = Alter (place p client) (PassTurn turn)
change_by p (deeds.Unlinks client) w = Alter (place p client) (SetTalk None)
change_by p (deeds.Links client talk) w = Alter (place p client) (SetTalk (Some (talk_by p talk)))
change_by p (deeds.Serves client peer) w = Alter (place p client) (SetPeer (peer_by p peer))
change_by p (deeds.Frees thread) w = Alter (place p thread) (SetFault None)
change_by p (deeds.Raises thread fault) w = Alter (place p thread) (SetFault (Some (fault_by p fault)))
change_by p (deeds.Takes thread taker) w = Alter (place p thread) (SetTaker (Some (peer_by p taker)))
change_by p (deeds.Holds space holder) w = Alter (place p space) (SetHolder (holder_by p holder))
change_by p (deeds.Stops thread stops) w = Alter (place p thread) (SetStops stops)
change_by p (deeds.Copies from to) w = PutPage (p to.0) to.1 (words_at w (p from.0) from.1)
change_by p (deeds.Drops space page) w = DropPage (p space) page

abbrev pub after : (ℕ → Path) → Deed → World → World
after p d w = apply (change_by p d w) w

-- a deed, and then what follows, in the world that it makes
abbrev pub and_next : (ℕ → Path) → Deed → (World → List Change) → World → List Change
and_next p d next w = change_by p d w ∷ next (after p d w)

abbrev pub no_more : World → List Change
no_more w = []

-- a change that may be made, as a list
abbrev pub made : Option Change → List Change
made None = []
made (Some change) = change ∷ []

-- the changes of a plan, where a porter gives these words
abbrev pub changes_by : (ℕ → Path) → List ℕ → Plan → World → List Change
changes_by p given plans.Nothing w = []
changes_by p given (plans.One a) w = and_next p a no_more w
changes_by p given (plans.Two a b) w = and_next p a (and_next p b no_more) w
changes_by p given (plans.Moves block client receiver sender) w = and_next p (deeds.Sends block) (and_next p (deeds.Counts client block.count)
    (and_next p (deeds.Shifts receiver block.count) (and_next p (deeds.Shifts sender block.count) no_more))) w
changes_by p given (plans.HandsOver reference to receiver client turn) w = and_next p (deeds.Points reference to)
    (and_next p (deeds.Finishes receiver (Some true)) (and_next p (deeds.Passes client turn) no_more)) w
changes_by p given (plans.Makes object kind) w = made (new_object (place p object) kind)
changes_by p given (plans.MakesHeld object holder) w = MakeSpace (place p object) (Some (At (place p holder))) ∷ []
changes_by p given (plans.Gives space page source) w = PutPage (p space) page (source_words p given source w) ∷ []

-- ---- what is needed to do it

abbrev pub IsDeed : (ℕ → Path) → World → Deed → Type 0
IsDeed p w (deeds.Locks mutex locked) = ⊤
IsDeed p w (deeds.Points object to) = OnPointer (λ other. IsSome (kind_there w (place p other))) to
IsDeed p w (deeds.Wakes thread mutex) = IsAsleep w (place p thread) mutex
IsDeed p w (deeds.Sleeps thread cond mutex) = IsFirst (CondWait cond mutex) (todo_at w (place p thread))
IsDeed p w (deeds.Records object to at) = (at + 32 ≤ 64) × (birth_at w (p to.0) ≡ Some to.0) × IsSome (w.page (p to.0) to.1)
IsDeed p w (deeds.Sends block) = IsBlock p w block
IsDeed p w (deeds.Counts client count) = ⊤
IsDeed p w (deeds.Shifts thread count) = IsLow w (place p thread) count
IsDeed p w (deeds.Ends thread status) = ⊤
IsDeed p w (deeds.Finishes thread came) = ⊤
IsDeed p w (deeds.Passes client turn) = ⊤
IsDeed p w (deeds.Unlinks client) = ⊤
IsDeed p w (deeds.Links client talk) = OnTalk (λ other. IsSome (kind_there w (place p other))) talk
IsDeed p w (deeds.Serves client peer) = OnPeer (λ other. IsSome (kind_there w (place p other))) peer
IsDeed p w (deeds.Frees thread) = ⊤
IsDeed p w (deeds.Raises thread fault) = OnFault (λ other. IsSome (kind_there w (place p other))) fault
IsDeed p w (deeds.Takes thread taker) = OnPeer (λ other. IsSome (kind_there w (place p other))) taker
IsDeed p w (deeds.Holds space holder) = Each (λ other. IsSome (kind_there w (place p other))) holder
IsDeed p w (deeds.Stops thread stops) = ⊤
IsDeed p w (deeds.Copies from to) = IsSome (w.page (p from.0) from.1) × (birth_at w (p to.0) ≡ Some to.0) × IsSome (w.page (p to.0) to.1)
IsDeed p w (deeds.Drops space page) = ⊤

-- an empty slot of a space that is there, and a kind
abbrev pub IsMaking : (ℕ → Path) → World → Who → ℕ → Type 0
IsMaking p w object kind = (birth_at w (p object.space) ≡ Some object.space) × (w.body (place p object) ≡ None) × IsSome (new_object [] kind)

-- an empty slot of a space that is there, and a holder
abbrev pub IsMakingHeld : (ℕ → Path) → World → Who → Who → Type 0
IsMakingHeld p w object holder =
    (birth_at w (p object.space) ≡ Some object.space) × (w.body (place p object) ≡ None) × IsSome (kind_there w (place p holder))

-- it begins a talk or ends one, or gives it another peer
abbrev pub moves_talk : Deed → Bool
moves_talk (deeds.Unlinks client) = true
moves_talk (deeds.Links client talk) = true
moves_talk (deeds.Serves client peer) = true
moves_talk other = false

-- of two deeds one at most moves a talk
abbrev pub IsPlan : (ℕ → Path) → World → Plan → Type 0
IsPlan p w plans.Nothing = ⊤
IsPlan p w (plans.One a) = IsDeed p w a
IsPlan p w (plans.Two a b) = IsDeed p w a × IsDeed p (after p a w) b × ((moves_talk a && moves_talk b) ≡ false)
IsPlan p w (plans.Moves block client receiver sender) =
    let counted = after p (deeds.Counts client block.count) (after p (deeds.Sends block) w) in
    IsBlock p w block × IsLow counted (place p receiver) block.count
    × IsLow (after p (deeds.Shifts receiver block.count) counted) (place p sender) block.count
IsPlan p w (plans.HandsOver reference to receiver client turn) = OnPointer (λ other. IsSome (kind_there w (place p other))) to
IsPlan p w (plans.Makes object kind) = IsMaking p w object kind
IsPlan p w (plans.MakesHeld object holder) = IsMakingHeld p w object holder
IsPlan p w (plans.Gives space page source) = (birth_at w (p space) ≡ Some space) × IsSource p w source

-- who does it gives the words that it takes: a porter alone gives words
abbrev pub IsGiver : Caller → Plan → Type 0
IsGiver c (plans.Gives space page sources.Given) = c.is_porter ≡ true
IsGiver c other = ⊤

-- it takes no memory
abbrev pub IsSure : Plan → Type 0
IsSure (plans.Makes object kind) = ⊥
IsSure (plans.MakesHeld object holder) = ⊥
IsSure (plans.Gives space page source) = ⊥
IsSure other = ⊤
