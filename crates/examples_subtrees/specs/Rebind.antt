-- A subtree whose outward ports get other names: a thread of /1 has sent a block to port 9 of its nester.
use Rattle.std.specs.Prelude.{ℕ, ◌==◌, true, false, [], ◌∷◌, None, if◌then◌else◌}
use Rattle.fk_model.specs.declared.thread.Turn.TheVariants as turns
use Rattle.fk_model.specs.Places.Ptr.{At, Out}
use Rattle.fk_model.specs.Objects.Peer.{Service}
use Rattle.fk_model.specs.Objects.Body.{Region, Port, Reference}
use Rattle.fk_model.specs.World.{World}
use Rattle.fk_model.specs.Further.{touch_row, onward_row}
use Rattle.fk_model.specs.Runs.{run}
use Rattle.fk_model.specs.Cut.{seen_by, cut}
use Rattle.fk_model.specs.Rebind.{rebound}
use Rattle.examples_moves.specs.Worked.{machine, goes, calling, with_talk}
use Rattle.examples_subtrees.specs.Cuts.{sending_out, in_subtree}
use Rattle.examples_subtrees.specs.Further.{alone_of, outward}

-- port 9 becomes port 10, and each other keeps its name
abbrev pub from_9_to_10 : ℕ → ℕ
from_9_to_10 i = if i == 9 then 10 else i

-- seen alone after its first block of 70 words
unfoldable pub after_a_block : World
after_a_block = cut (run (sending_out Service) (goes (in_subtree 0) ∷ [])) [] 1

-- a talk at port 9, a reference to port 10, and a page that port 11 keeps; a port inside
unfoldable pub three_ports : World
three_ports = alone_of
    ((0 ∷ [], with_talk (outward turns.Client 0) (calling 20 (38 ∷ []))) ∷ (1 ∷ [], Reference (Out 10)) ∷ (2 ∷ [], Reference (At (4 ∷ [])))
    ∷ (4 ∷ [], Port None false) ∷ (5 ∷ [], Region (record { first = 8; count = 8; write = true; keeper = Out 11 })) ∷ []) []

-- ---- to compute in these worlds is to unfold these
unfoldable pub rebound_worlds : Unit {0}
unfolding machine seen_by cut sending_out alone_of after_a_block three_ports rebound touch_row onward_row
rebound_worlds = tt
