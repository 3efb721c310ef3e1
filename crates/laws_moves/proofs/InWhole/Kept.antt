-- Full changes keep pages and registers full, and give out one birth number at most.
use Rattle.std.proofs.Common.{◌≡◌, ℕ, ◌+◌, ◌≤◌, Bool, true, false, ◌&&◌, ◌==◌, if◌then◌else◌, length, List, [], ◌∷◌, Option, Some, None, option_map, refl, sym}
use Rattle.std.proofs.Common.{ap, ◌∙◌, arith}
use Rattle.fk_model.specs.declared.limits.TheConstants.{PAGE_WORDS}
use Rattle.fk_model.specs.declared.names.Kind.TheVariants as kinds
use Rattle.fk_model.specs.declared.stage.Stage.{Stage}
use Rattle.fk_model.specs.Places.{Path, same_path, parent, Ptr}
use Rattle.fk_model.specs.Objects.{Mode, Thread, Body, kind_of, registers_of, thread_of, and_then}
use Rattle.fk_model.specs.Objects.Mode.{Calling}
use Rattle.fk_model.specs.Objects.Body.{Mutex, Cond, Mapping, Region, Port, Portset, Space, Thread_of, Reference}
use Rattle.fk_model.specs.World.{World, Change, Edit, Sweep, edited, through, death_sweep, following, apply, apply_all, birth_after, shifted_in, ended_in}
use Rattle.fk_model.specs.World.{finished_in, replaced_in}
use Rattle.fk_model.specs.World.Change.{Alter, Make, MakeSpace, Kill, Move, PutPage, DropPage}
use Rattle.fk_model.specs.World.Edit.{SetLocked, Proceed, Shift, Finish, End, Replace}
use Rattle.fk_model.specs.Outcomes.{Outcome}
use Rattle.fk_model.specs.Outcomes.Outcome.{Refused, Waits, Goes}
use Rattle.fk_model.specs.Moves.{stepped}
use Rattle.fk_model.specs.Whole.{HasFullPages}
use Rattle.std.proofs.lemmas.List.{length-set}
use Rattle.laws_moves.proofs.InMachine.validity.Outlines.{Outline}
use Rattle.laws_moves.proofs.InMachine.validity.Edits.{outline-edited}
use Rattle.laws_moves.specs.Whole.Runnable.{HasRegisters}
use Rattle.laws_moves.proofs.InWhole.Lengths.{length-with_answers, length-left_by, length-calling}
use Rattle.laws_moves.proofs.InWhole.Outcomes.{HasAll, IsFullEdit, IsFull, AreFull, IsFullRow, FullOutcome}

-- ---- bodies

-- what is no thread has no registers
no_thread : (b : Body) → (kind_of b ≡ kinds.Thread → ⊥) → HasAll b
no_thread (Thread_of t) other = absurd (other refl)
no_thread (Mutex locked) other = tt
no_thread b other = tt

same_kind : (edit : Edit) (b : Body) → kind_of (edited edit b) ≡ kind_of b
same_kind edit b = ap (λ (o : Outline). o.kind) (outline-edited edit b)

ended-all : (status : ℕ) (answers : List ℕ) (t : Thread) (m : Mode) → length (registers_of m) ≡ 16 → length (registers_of t.mode) ≡ 16 →
    length (registers_of (ended_in status answers t m).mode) ≡ 16
ended-all status answers t (Calling todo rest) all its =
    length-with_answers answers _ ∙ length-set (registers_of (Calling todo rest)) 0 status ∙ all
ended-all status answers t m all its = its

finished-all : (answers : List ℕ) (t : Thread) (m : Mode) → length (registers_of m) ≡ 16 → length (registers_of t.mode) ≡ 16 →
    length (registers_of (finished_in answers t m).mode) ≡ 16
finished-all answers t (Calling (stage ∷ next_stage ∷ todo) rest) all its =
    length-calling (next_stage ∷ todo) _ ∙ length-with_answers answers _ ∙ length-left_by stage (next_stage ∷ todo) rest
    ∙ sym (length-calling (stage ∷ next_stage ∷ todo) rest) ∙ all
finished-all answers t (Calling (stage ∷ []) rest) all its = ended-all 0 answers t (Calling (stage ∷ []) rest) all its
finished-all answers t (Calling [] rest) all its = ended-all 0 answers t (Calling [] rest) all its
finished-all answers t m all its = its

shifted-all : (count : ℕ) (m : Mode) → length (registers_of m) ≡ 16 → length (registers_of (shifted_in count m)) ≡ 16
shifted-all count (Calling (stage ∷ todo) rest) all = length-calling _ rest ∙ sym (length-calling (stage ∷ todo) rest) ∙ all
shifted-all count (Calling [] rest) all = all
shifted-all count m all = all

replaced-all : (stage : Stage) (m : Mode) → length (registers_of m) ≡ 16 → length (registers_of (replaced_in stage m)) ≡ 16
replaced-all stage (Calling (old ∷ todo) rest) all =
    length-calling (stage ∷ todo) _ ∙ length-left_by old (stage ∷ todo) rest ∙ sym (length-calling (old ∷ todo) rest) ∙ all
replaced-all stage (Calling [] rest) all = all
replaced-all stage m all = all

thread-all : (edit : Edit) (t : Thread) → IsFullEdit edit → length (registers_of t.mode) ≡ 16 → HasAll (edited edit (Thread_of t))
unfolding edited
thread-all (Proceed mode counter) t full all = full
thread-all (Shift count) t full all = shifted-all count t.mode all
thread-all (Finish answers) t full all = finished-all answers t t.mode all all
thread-all (End status answers) t full all = ended-all status answers t t.mode all all
thread-all (Replace stage) t full all = replaced-all stage t.mode all
thread-all (SetLocked locked) t full all = all
thread-all edit t full all = all

edited-all : (edit : Edit) (b : Body) → IsFullEdit edit → HasAll b → HasAll (edited edit b)
edited-all edit (Thread_of t) full all = thread-all edit t full all
edited-all edit (Mutex locked) full all = no_thread _ (λ e. let k = same_kind edit (Mutex locked) in cc)
edited-all edit Cond full all = no_thread _ (λ e. let k = same_kind edit Cond in cc)
edited-all edit (Mapping m) full all = no_thread _ (λ e. let k = same_kind edit (Mapping m) in cc)
edited-all edit (Region r) full all = no_thread _ (λ e. let k = same_kind edit (Region r) in cc)
edited-all edit (Port set served) full all = no_thread _ (λ e. let k = same_kind edit (Port set served) in cc)
edited-all edit Portset full all = no_thread _ (λ e. let k = same_kind edit Portset in cc)
edited-all edit (Space birth holder) full all = no_thread _ (λ e. let k = same_kind edit (Space birth holder) in cc)
edited-all edit (Reference to) full all = no_thread _ (λ e. let k = same_kind edit (Reference to) in cc)

swept-all : (f : Sweep) (q : Path) (b : Body) → HasAll b → HasAll (through f q b)
swept-all f q (Thread_of t) all = all
swept-all f q (Mutex locked) all = tt
swept-all f q b all = tt

-- ---- worlds

-- where every thread has its registers, each body does
abbrev AllHave : World → Type 0
AllHave w = (x : Path) (b : Body) → w.body x ≡ Some b → HasAll b

pub all-have : (w : World) → HasRegisters w → AllHave w
all-have w registers x (Thread_of t) there = registers x t (rw there refl)
all-have w registers x (Mutex locked) there = tt
all-have w registers x b there = tt

pub registers-of : (w : World) → AllHave w → HasRegisters w
registers-of w all x t there = by (w.body x) refl there
  where
    by : (o : Option Body) → w.body x ≡ o → and_then thread_of o ≡ Some t → length (registers_of t.mode) ≡ 16
    by (Some (Thread_of u)) e h = let same : u ≡ t = cc in rw (← same) (all x (Thread_of u) e)
    by (Some (Mutex locked)) e h = cc
    by (Some Cond) e h = cc
    by (Some (Mapping m)) e h = cc
    by (Some (Region r)) e h = cc
    by (Some (Port set served)) e h = cc
    by (Some Portset) e h = cc
    by (Some (Space birth holder)) e h = cc
    by (Some (Reference to)) e h = cc
    by None e h = cc

pub record IsFilled (w : World) : Type 0 where
  pub pages : HasFullPages w
  pub all : AllHave w

-- what one body, and one page, become
mapped : (f : Body → Body) → ((b : Body) → HasAll b → HasAll (f b)) → (o : Option Body) (c : Body) →
    ((b : Body) → o ≡ Some b → HasAll b) → option_map f o ≡ Some c → HasAll c
mapped f keeps None c all h = cc
mapped f keeps (Some b) c all h = let same : f b ≡ c = cc in rw (← same) (keeps b (all b refl))

module _ (w : World) (filled : IsFilled w) where
  at : (x : Path) (b : Body) → w.body x ≡ Some b → HasAll b
  at x b there = filled.all x b there

  altered : (x y : Path) (edit : Edit) (b : Body) → IsFullEdit edit → (apply (Alter x edit) w).body y ≡ Some b → HasAll b
  unfolding apply
  altered x y edit b full = by (same_path y x)
    where
      by : (t : Bool) → (if t then option_map (edited edit) (w.body y) else w.body y) ≡ Some b → HasAll b
      by true h = mapped (edited edit) (λ b all. edited-all edit b full all) (w.body y) b (at y) h
      by false h = at y b h

  made : (t : Bool) (y : Path) (new b : Body) → HasAll new → (if t then Some new else w.body y) ≡ Some b → HasAll b
  made true y new b all h = let same : new ≡ b = cc in rw (← same) all
  made false y new b all h = at y b h

  swept : (f : Sweep) (y : Path) (at_y : Path) (b : Body) → option_map (through f at_y) (w.body y) ≡ Some b → HasAll b
  swept f y at_y b h = mapped (through f at_y) (swept-all f at_y) (w.body y) b (at y) h

  killed : (t : Bool) (f : Sweep) (y : Path) (b : Body) → (if t then None else option_map (through f y) (w.body y)) ≡ Some b → HasAll b
  killed true f y b h = cc
  killed false f y b h = swept f y y b h

  renamed : (t : Bool) (f : Sweep) (x y z : Path) (b : Body) → (r : Bool) →
      (if t then option_map (through f z) (w.body x) else (if r then None else option_map (through f y) (w.body y))) ≡ Some b → HasAll b
  renamed true f x y z b r h = swept f x z b h
  renamed false f x y z b r h = killed r f y b h

  put : (t : Bool) (s : Path) (page : ℕ) (words new : List ℕ) → length new ≡ PAGE_WORDS → (if t then Some new else w.page s page) ≡ Some words →
      length words ≡ PAGE_WORDS
  put true s page words new full h = let same : new ≡ words = cc in rw (← same) full
  put false s page words new full h = filled.pages s page words h

  dropped : (t : Bool) (s : Path) (page : ℕ) (words : List ℕ) → (if t then None else w.page s page) ≡ Some words → length words ≡ PAGE_WORDS
  dropped true s page words h = cc
  dropped false s page words h = filled.pages s page words h

  moved : (t r : Bool) (x s : Path) (page : ℕ) (words : List ℕ) → (if t then w.page x page else (if r then None else w.page s page)) ≡ Some words →
      length words ≡ PAGE_WORDS
  moved true r x s page words h = filled.pages x page words h
  moved false r x s page words h = dropped r s page words h

  pub filled-apply : (c : Change) → IsFull c → IsFilled (apply c w)
  unfolding apply
  filled-apply (Alter x edit) full = record { pages = filled.pages; all = λ y b. altered x y edit b full }
  filled-apply (Make x body) full = record { pages = filled.pages; all = λ y b. made (same_path y x) y body b full }
  filled-apply (MakeSpace x holder) full = absurd full
  filled-apply (Kill x) full = record {
    pages = λ s page words. dropped (same_path s x) s page words;
    all = λ y b. killed (same_path y x) (death_sweep x) y b;
  }
  filled-apply (Move x slot) full = record {
    pages = λ s page words. moved (same_path s (slot ∷ parent x)) (same_path s x) x s page words;
    all = λ y b. renamed (same_path y (slot ∷ parent x)) (following x (slot ∷ parent x)) x y (slot ∷ parent x) b (same_path y x);
  }
  filled-apply (PutPage space page words) full = record {
    pages = λ s g old. put (same_path s space && g == page) s g old words full;
    all = filled.all;
  }
  filled-apply (DropPage space page) full = record { pages = λ s g words. dropped (same_path s space && g == page) s g words; all = filled.all }

  pub filled-space : (x : Path) (holder : Option Ptr) → IsFilled (apply (MakeSpace x holder) w)
  unfolding apply
  filled-space x holder = record { pages = filled.pages; all = λ y b. made (same_path y x) y (Space w.next holder) b tt }

pub filled-all : (cs : List Change) (w : World) → IsFilled w → AreFull cs → IsFilled (apply_all cs w)
unfolding apply_all
filled-all [] w filled full = filled
filled-all (c ∷ cs) w filled full = filled-all cs (apply c w) (filled-apply w filled c full.0) full.1

filled-row : (cs : List Change) (w : World) → IsFilled w → IsFullRow cs → IsFilled (apply_all cs w)
unfolding apply_all
filled-row [] w filled full = filled
filled-row (MakeSpace x holder ∷ cs) w filled full = filled-all cs (apply (MakeSpace x holder) w) (filled-space w filled x holder) full
filled-row (Alter x edit ∷ cs) w filled full = filled-all (Alter x edit ∷ cs) w filled full
filled-row (Make x body ∷ cs) w filled full = filled-all (Make x body ∷ cs) w filled full
filled-row (Kill x ∷ cs) w filled full = filled-all (Kill x ∷ cs) w filled full
filled-row (Move x slot ∷ cs) w filled full = filled-all (Move x slot ∷ cs) w filled full
filled-row (PutPage space page words ∷ cs) w filled full = filled-all (PutPage space page words ∷ cs) w filled full
filled-row (DropPage space page ∷ cs) w filled full = filled-all (DropPage space page ∷ cs) w filled full

pub filled-stepped : (w : World) (o : Outcome) → IsFilled w → FullOutcome o → IsFilled (stepped w o).world
filled-stepped w (Goes changes said) filled full = filled-row changes w filled full.full
filled-stepped w (Refused status) filled full = filled
filled-stepped w Waits filled full = filled

-- ---- birth numbers

next-apply : (c : Change) (w : World) → IsFull c → (apply c w).next ≡ w.next
unfolding apply
next-apply (Alter x edit) w full = refl
next-apply (Make x body) w full = refl
next-apply (MakeSpace x holder) w full = absurd full
next-apply (Kill x) w full = refl
next-apply (Move x slot) w full = refl
next-apply (PutPage space page words) w full = refl
next-apply (DropPage space page) w full = refl

next-all : (cs : List Change) (w : World) → AreFull cs → (apply_all cs w).next ≡ w.next
unfolding apply_all
next-all [] w full = refl
next-all (c ∷ cs) w full = next-all cs (apply c w) full.1 ∙ next-apply c w full.0

born_one : (n : ℕ) → birth_after n ≤ n + 1
born_one n = by (n == 0)
  where
    by : (t : Bool) → (if t then 0 else n + 1) ≤ n + 1
    by true = omega arith
    by false = omega arith

next-space : (x : Path) (holder : Option Ptr) (cs : List Change) (w : World) → AreFull cs → (apply_all cs (apply (MakeSpace x holder) w)).next ≤ w.next + 1
unfolding apply
next-space x holder cs w full = rw (next-all cs (apply (MakeSpace x holder) w) full) (born_one w.next)

next-same : (cs : List Change) (w : World) → AreFull cs → (apply_all cs w).next ≤ w.next + 1
next-same cs w full = let same = next-all cs w full in omega (arith, same)

next-row : (cs : List Change) (w : World) → IsFullRow cs → (apply_all cs w).next ≤ w.next + 1
unfolding apply_all
next-row [] w full = omega arith
next-row (MakeSpace x holder ∷ cs) w full = next-space x holder cs w full
next-row (Alter x edit ∷ cs) w full = next-same (Alter x edit ∷ cs) w full
next-row (Make x body ∷ cs) w full = next-same (Make x body ∷ cs) w full
next-row (Kill x ∷ cs) w full = next-same (Kill x ∷ cs) w full
next-row (Move x slot ∷ cs) w full = next-same (Move x slot ∷ cs) w full
next-row (PutPage space page words ∷ cs) w full = next-same (PutPage space page words ∷ cs) w full
next-row (DropPage space page ∷ cs) w full = next-same (DropPage space page ∷ cs) w full

pub next-stepped : (w : World) (o : Outcome) → FullOutcome o → (stepped w o).world.next ≤ w.next + 1
next-stepped w (Goes changes said) full = next-row changes w full.full
next-stepped w (Refused status) full = omega arith
next-stepped w Waits full = omega arith
