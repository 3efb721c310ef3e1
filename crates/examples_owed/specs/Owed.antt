-- What a porter's call owes, in the world that meets every premise: the porter of the root holds the subtree in slot 1.
use Rattle.std.specs.Prelude.{ℕ, true, [], ◌∷◌, replicate, None, Some}
use Rattle.fk_model.specs.declared.limits.TheConstants.{OWN_SPACE}
use Rattle.fk_model.specs.declared.stage.Stage.{Stage}
use Rattle.fk_model.specs.declared.stage.Stage.TheVariants.{Create, Destroy, Rename, SpaceRelease, HoldSet, SpaceMakeHeld}
use Rattle.fk_model.specs.declared.thread.Turn.TheVariants as turns
use Rattle.fk_model.specs.Places.Ptr.{Null, At}
use Rattle.fk_model.specs.Objects.{Talk, Fault, Body}
use Rattle.fk_model.specs.Objects.Peer.{Server}
use Rattle.fk_model.specs.Objects.Body.{Reference}
use Rattle.fk_model.specs.World.{World}
use Rattle.fk_model.specs.Runs.{Event}
use Rattle.examples_moves.specs.Worked.{makes, world_of, page_with, running, with_talk, with_fault}
use Rattle.examples_premises.specs.Premises.{nesters_porter, within, objects_of, pages_of, full_of_all, held_with}

-- its scratch in slot 240 leads to a thread within, or to itself
abbrev pub leads_within : World
leads_within = held_with (Reference (At (within 5)))

abbrev pub leads_outside : World
leads_outside = held_with (Reference (At nesters_porter))

abbrev pub asks : Stage → Event
asks stage = makes nesters_porter stage (replicate 64 0)

-- the thread to which its scratch leads is to hold the subtree
abbrev pub gives_hold : Event
gives_hold = asks (HoldSet OWN_SPACE 1 240)

-- it makes an object of a kind in a slot of its space, and a held space there; destroys what stands in a slot; renames it
abbrev pub makes_in : ℕ → ℕ → Event
makes_in slot kind = asks (Create OWN_SPACE slot kind)

-- in the space that it holds, in slot 1 of its own
abbrev pub makes_within : ℕ → ℕ → Event
makes_within slot kind = asks (Create 1 slot kind)

-- it gives up its hold of that space
abbrev pub releases : Event
releases = asks (SpaceRelease OWN_SPACE 1)

-- a world in which nobody holds that space, and one in which there is scratch in it, and the porter holds it
unfoldable pub unheld : World
unheld = full_of_all None

unfoldable pub scratched : World
scratched = world_of ((within 240, Reference Null) ∷ objects_of (Some (At nesters_porter))) pages_of

-- the same without a hold, and with scratch in a space further in, whose holder is no porter
unfoldable pub scratched_unheld : World
scratched_unheld = world_of ((within 240, Reference Null) ∷ objects_of None) pages_of

unfoldable pub scratched_deeper : World
scratched_deeper = world_of ((240 ∷ within 6, Reference Null) ∷ objects_of (Some (At nesters_porter))) pages_of

-- a user thread with this register, this counter, so many words moved, or a fault on this page
abbrev pub with_thread : Body → World
with_thread t = world_of ((within 13, t) ∷ objects_of None) pages_of

abbrev pub with_register : ℕ → World
with_register n = with_thread (running 0 (n ∷ []))

abbrev pub with_counter : ℕ → World
with_counter n = with_thread (running n [])

abbrev pub talk_of_moved : ℕ → Talk
talk_of_moved n = record { port = At (within 4); peer = Server (At (within 5)); turn = turns.Client; moved = n }

abbrev pub fault_on_page : ℕ → Fault
fault_on_page n = record { page = n; write = true; port = At (within 4); taker = None }

abbrev pub with_moved : ℕ → World
with_moved n = with_thread (with_talk (talk_of_moved n) (running 0 []))

abbrev pub with_missing : ℕ → World
with_missing n = with_thread (with_fault (fault_on_page n) (running 0 []))

-- a page that begins with this word
abbrev pub with_word : ℕ → World
with_word n = world_of (objects_of None) (page_with (within 6) 1 (n ∷ []) ∷ pages_of)

abbrev pub makes_held_in : ℕ → Event
makes_held_in slot = asks (SpaceMakeHeld slot)

abbrev pub destroys_in : ℕ → Event
destroys_in slot = asks (Destroy OWN_SPACE slot)

abbrev pub renames_from : ℕ → Event
renames_from slot = asks (Rename OWN_SPACE slot 12)
