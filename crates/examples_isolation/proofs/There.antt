-- The world with a stranger meets what the laws of isolation suppose, and so does that after the stranger's move.
use Rattle.std.proofs.Common.{◌≡◌, ℕ, ◌+◌, ◌≤◌, if◌then◌else◌, eqb, Bool, true, List, [], ◌∷◌, length, Option, None, Some, refl, sym, subst, arith}
use Rattle.std.proofs.lemmas.Bool.{eqb-true}
use Rattle.fk_model.specs.Places.{Path, same_path}
use Rattle.fk_model.specs.Objects.{Body, registers_of, thread_of, and_then}
use Rattle.fk_model.specs.Objects.Body.{Port, Space, Thread_of}
use Rattle.fk_model.specs.declared.thread.Turn.TheVariants as turns
use Rattle.fk_model.specs.Places.Ptr.{At}
use Rattle.fk_model.specs.Objects.Peer.{Service}
use Rattle.fk_model.specs.World.{World, apply_all}
use Rattle.fk_model.specs.World.Change.{Alter}
use Rattle.fk_model.specs.World.Edit.{SetTalk, Finish}
use Rattle.fk_model.specs.Searches.{depth}
use Rattle.fk_model.specs.Valid.{kind_there}
use Rattle.fk_model.specs.Whole.{IsWhole}
use Rattle.fk_model.specs.Cut.{IsPlain}
use Rattle.fk_model.specs.Runs.{after}
use Rattle.laws_moves.specs.Whole.Runnable.{HasRegisters, IsRunnable, IsProper}
use Rattle.laws_moves.proofs.InWhole.Laws.{keeps_runnable}
use Rattle.laws_subtrees.specs.Further.Runs.IsSeenRun.{Ends, Sees}
use Rattle.laws_isolation.specs.Integrity.{IsUntouched}
use Rattle.laws_isolation.specs.Integrity.IsStrangersMove.{OfServer}
use Rattle.laws_isolation.specs.Noninterference.{IsWatchedRun}
use Rattle.laws_isolation.proofs.Undisturbed.{strangers_leave_cut}
use Rattle.examples_moves.proofs.Tested.{legal-tested}
use Rattle.laws_subtrees.specs.Further.Strangers.{HasNoWindow}
use Rattle.examples_moves.specs.Worked.{calling}
use Rattle.examples_premises.specs.Premises.{premises, within, objects_of, pages_of, with_stranger, strangers_port, strangers_client}
use Rattle.examples_premises.proofs.Apart.{no_window}
use Rattle.examples_premises.proofs.Listed.{found, whole, plain}
use Rattle.examples_isolation.specs.Isolation.{isolated_worlds, accepts_there, sends_block, block}

abbrev listed : List (Path × Body)
listed =
    ([], Space 0 None) ∷ (2 ∷ [], Space 3 None) ∷ (strangers_port, Port None true) ∷ (strangers_client, calling 0 (32 ∷ 9 ∷ [])) ∷ objects_of None

home : ℕ → Path
unfolding same_path
home n = if eqb n 0 then [] else (if eqb n 1 then 1 ∷ [] else (if eqb n 3 then 2 ∷ [] else within 6))

pub is_whole : IsWhole with_stranger
unfolding premises home kind_there
is_whole = whole with_stranger listed pages_of (λ x. refl) (λ s g. refl) home (λ s. within 2) (within 0) refl refl refl (omega arith)

pub is_plain : IsPlain with_stranger [] 1
unfolding premises
is_plain = plain with_stranger listed (λ x. refl) [] 1 refl 1 None refl

pub has_no_window : HasNoWindow with_stranger [] 1
unfolding premises
has_no_window = no_window with_stranger listed (λ x. refl) [] 1 refl

-- ---- the stranger's move

pub untouched : IsUntouched with_stranger [] 1 accepts_there
unfolding isolated_worlds
untouched = strangers_leave_cut with_stranger [] 1 accepts_there is_whole is_plain has_no_window refl (legal-tested with_stranger (accepts_there ∷ []) refl).0
    (OfServer (record { outside = refl; aside = refl }) refl)

-- ---- a run before it, and one after it

abbrev has_registers : Path → Body → Bool
has_registers x (Thread_of t) = eqb (length (registers_of t.mode)) 16
has_registers x other = true

registers : HasRegisters with_stranger
unfolding isolated_worlds
registers x t h = by (with_stranger.body x) refl h
  where
    by : (o : Option Body) → with_stranger.body x ≡ o → and_then thread_of o ≡ Some t → length (registers_of t.mode) ≡ 16
    by (Some (Thread_of u)) e h =
        let same : u ≡ t = cc in rw same at (eqb-true (length (registers_of u.mode)) 16 (found has_registers listed refl x (Thread_of u) e))
    by None e h = cc
    by (Some b) e h = cc

is_runnable : IsRunnable with_stranger
is_runnable = record { whole = is_whole; registers = registers }

few : (n : ℕ) → n ≡ 100 → n + 1 ≤ depth
few n e = omega (arith, e)

next_number : with_stranger.next ≡ 100
unfolding isolated_worlds
next_number = refl

proper_accept : IsProper with_stranger accepts_there
unfolding isolated_worlds
proper_accept = record { fit = refl; words = refl }

pub before : IsWatchedRun with_stranger [] 1 (sends_block ∷ []) (block ∷ [])
unfolding isolated_worlds
before = record {
  runnable = is_runnable;
  few = few with_stranger.next refl;
  proper = (record { fit = refl; words = refl }, tt);
  plain = is_plain;
  seen = Sees with_stranger sends_block [] block [] (legal-tested with_stranger (sends_block ∷ []) refl).0 (refl, refl)
      (Ends (after with_stranger sends_block));
}

-- the world after it, by what the move changes
connected : World
connected = apply_all
    (Alter strangers_client (SetTalk (Some (record { port = At strangers_port; peer = Service; turn = turns.Client; moved = 0 })))
    ∷ Alter strangers_client (Finish []) ∷ []) with_stranger

is_connected : after with_stranger accepts_there ≡ connected
unfolding isolated_worlds connected
is_connected = refl

watched : IsRunnable connected → IsPlain connected [] 1 → IsWatchedRun connected [] 1 (sends_block ∷ []) (block ∷ [])
unfolding isolated_worlds connected
watched runs its = record {
  runnable = runs;
  few = few connected.next refl;
  proper = (record { fit = refl; words = refl }, tt);
  plain = its;
  seen = Sees connected sends_block [] block [] (legal-tested connected (sends_block ∷ []) refl).0 (refl, refl) (Ends (after connected sends_block));
}

pub behind : IsWatchedRun (after with_stranger accepts_there) [] 1 (sends_block ∷ []) (block ∷ [])
behind = subst (λ (v : World). IsWatchedRun v [] 1 (sends_block ∷ []) (block ∷ [])) (sym is_connected)
    (watched (subst (λ (v : World). IsRunnable v) is_connected
    (keeps_runnable with_stranger accepts_there is_runnable proper_accept (few with_stranger.next next_number)))
    (subst (λ (v : World). IsPlain v [] 1) is_connected untouched.plain))
