-- NudgeLaws: a thread that changes a little, or goes on, and a mutex that is set, as an edit of its entry.
use Rattle.std.proofs.Common.{◌≡◌, ℕ, ◌==◌, Bool, true, false, cond, List, Option, Some, None, option_map, refl, ap, ◌∙◌}
use Rattle.fk_model.specs.declared.body.Body.{Body}
use Rattle.fk_model.specs.declared.body.Body.TheVariants.{Mutex, Cond, Mapping, Region, Port, Portset, Space, Thread, Reference}
use Rattle.fk_model.specs.declared.thread.Mode.{Mode}
use Rattle.fk_model.specs.declared.thread.Turn.{Turn}
use Rattle.fk_store_graph.specs.Linked.Shapes.{Entry}
use Rattle.fk_store_graph.specs.Linked.Filed.{Filed, entry_under}
use Rattle.fk_store_graph.specs.Linked.Edits.{Edits, on_body}
use Rattle.fk_store_graph.specs.Linked.Threads.{on_mutex, on_thread, going, counting, passing, stopping}
use Rattle.fk_store_graph.specs.Linked.Nudges.{nudged}
use Rattle.fk_store_graph.specs.Bodies.Threads.{proceeded}
use Rattle.fk_store_graph.specs.Linked.Shapes.{Nudge}
use Rattle.fk_store_graph.specs.Linked.Shapes.{Counts, Locks, Passes, Stops}
use Rattle.fk_store_graph.proofs.InBodies.QuietLaws.{IsQuiet, quiet_along, quiet_counting, quiet_locking, quiet_passing, quiet_stopping}

pub edits-along : (o p : Filed) (key : ℕ) (f g : Body → Body) → ((b : Body) → f b ≡ g b) → Edits o p key (on_body f) → Edits o p key (on_body g)
edits-along o p key f g same edits = record {
  keys = edits.keys;
  marks = edits.marks;
  entries = λ j. edits.entries j
      ∙ ap (λ x. cond (j == key) x (entry_under o j)) (by (entry_under o key));
}
  where
    by : (x : Option Entry) → option_map (on_body f) x ≡ option_map (on_body g) x
    by None = refl
    by (Some e) = λ i. Some (record e { body = same e.body i })

pub counts_is : (words : ℕ) (b : Body) → on_thread (counting words) b ≡ nudged (Counts words) b
counts_is words (Mutex locked) = refl
counts_is words Cond = refl
counts_is words (Mapping first count offset write region) = refl
counts_is words (Region first count write keeper) = refl
counts_is words (Port set served) = refl
counts_is words Portset = refl
counts_is words (Space birth holder) = refl
counts_is words (Thread thread) = refl
counts_is words (Reference to) = refl

pub passes_is : (turn : Turn) (b : Body) → on_thread (passing turn) b ≡ nudged (Passes turn) b
passes_is turn (Mutex locked) = refl
passes_is turn Cond = refl
passes_is turn (Mapping first count offset write region) = refl
passes_is turn (Region first count write keeper) = refl
passes_is turn (Port set served) = refl
passes_is turn Portset = refl
passes_is turn (Space birth holder) = refl
passes_is turn (Thread thread) = refl
passes_is turn (Reference to) = refl

pub stops_is : (stops : ℕ) (b : Body) → on_thread (stopping stops) b ≡ nudged (Stops stops) b
stops_is stops (Mutex locked) = refl
stops_is stops Cond = refl
stops_is stops (Mapping first count offset write region) = refl
stops_is stops (Region first count write keeper) = refl
stops_is stops (Port set served) = refl
stops_is stops Portset = refl
stops_is stops (Space birth holder) = refl
stops_is stops (Thread thread) = refl
stops_is stops (Reference to) = refl

pub locks_is : (locked : Bool) (b : Body) → on_mutex locked b ≡ nudged (Locks locked) b
locks_is locked (Mutex old) = refl
locks_is locked Cond = refl
locks_is locked (Mapping first count offset write region) = refl
locks_is locked (Region first count write keeper) = refl
locks_is locked (Port set served) = refl
locks_is locked Portset = refl
locks_is locked (Space birth holder) = refl
locks_is locked (Thread thread) = refl
locks_is locked (Reference to) = refl

pub goes_is : (registers : List ℕ) (counter : ℕ) (mode : Mode) (b : Body) → on_thread (going registers counter mode) b ≡ proceeded registers counter mode b
goes_is registers counter mode (Mutex locked) = refl
goes_is registers counter mode Cond = refl
goes_is registers counter mode (Mapping first count offset write region) = refl
goes_is registers counter mode (Region first count write keeper) = refl
goes_is registers counter mode (Port set served) = refl
goes_is registers counter mode Portset = refl
goes_is registers counter mode (Space birth holder) = refl
goes_is registers counter mode (Thread thread) = refl
goes_is registers counter mode (Reference to) = refl

pub quiet_nudged : (change : Nudge) → IsQuiet (nudged change)
quiet_nudged (Counts words) = quiet_along _ _ (counts_is words) (quiet_counting words)
quiet_nudged (Passes turn) = quiet_along _ _ (passes_is turn) (quiet_passing turn)
quiet_nudged (Stops stops) = quiet_along _ _ (stops_is stops) (quiet_stopping stops)
quiet_nudged (Locks locked) = quiet_along _ _ (locks_is locked) (quiet_locking locked)
