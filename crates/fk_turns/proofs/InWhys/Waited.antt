-- Waited: what threads wait for, from what the code reads.
use Rattle.std.proofs.Common.{◌≡◌, ℕ, Bool, true, false, [], ◌∷◌, Option, Some, None, option_map, Result, if◌then◌else◌, refl, sym, ap, ◌∙◌}
use Rattle.fk_model.specs.declared.names.Who.{Who}
use Rattle.fk_model.specs.Holds.{decider, holder_of}
use Rattle.fk_model.specs.LinkRows.{if_read}
use Rattle.fk_model.specs.Objects.{and_then, or_else}
use Rattle.fk_model.specs.Places.{Path, Ptr}
use Rattle.fk_model.specs.Places.Ptr.{At}
use Rattle.fk_model.specs.Talks.{path_to}
use Rattle.fk_model.specs.World.{World}
use Rattle.fk_changes.specs.Readers.Callers.{mapped}
use Rattle.fk_store.specs.Store.Contents.{Contents}
use Rattle.fk_store.specs.Store.Paths.{path, place}
use Rattle.fk_store.specs.Store.World.{world, IsLive}
use Rattle.fk_store.proofs.InStore.finding.Walks.{path-root}
use Rattle.laws_waits.specs.Stuck.{is_held}
use Rattle.fk_turns.specs.Whys.Causes.{or_itself, outermost_held}

-- ---- the outermost hold

second_none : {A : Type 0} (a b : Option A) → or_else a b ≡ None → b ≡ None
second_none None b is = is
second_none (Some a) b is = absurd (cc)

-- where nobody decides nothing is held
pub none_held : (w : World) → ((x : Path) → decider w x ≡ None) → (x : Path) → outermost_held w x ≡ None
unfolding outermost_held decider
none_held w none [] = refl
none_held w none (k ∷ x) =
    let here : holder_of (w.body (k ∷ x)) ≡ None = second_none (decider w x) (holder_of (w.body (k ∷ x))) (none (k ∷ x)) in
    rw (none_held w none x, here) refl

-- what is held further out, or else what was found so far
pub record IsFound (m : Contents) (from at : Who) (found : Option Who) : Type 0 where
  pub live : IsLive m at
  pub all : or_else (outermost_held (world m) (path m at.space)) (option_map (place (path m)) found) ≡ outermost_held (world m) (path m from.space)

or_none : {A : Type 0} (o : Option A) → or_else o None ≡ o
or_none None = refl
or_none (Some a) = refl

pub found_first : (m : Contents) (who : Who) → IsLive m who → IsFound m who who None
found_first m who live = record { live = live; all = or_none (outermost_held (world m) (path m who.space)) }

found_up : (p : ℕ → Path) (a : Option Path) (held : Bool) (space : Who) (found : Option Who) →
    or_else a (option_map (place p) (if held then Some space else found))
    ≡ or_else (or_else a (if held then Some (place p space) else None)) (option_map (place p) found)
found_up p None true space found = refl
found_up p None false space found = refl
found_up p (Some x) held space found = refl

outermost_up : (w : World) (k : ℕ) (x : Path) → outermost_held w (k ∷ x) ≡ or_else (outermost_held w x) (if is_held w (k ∷ x) then Some (k ∷ x) else None)
unfolding outermost_held
outermost_up w k x = refl

pub found_next : (m : Contents) (from at space : Who) (found now : Option Who) → IsFound m from at found → IsLive m space →
    place (path m) space ≡ path m at.space → now ≡ (if is_held (world m) (place (path m) space) then Some space else found) → IsFound m from space now
found_next m from at space found now is live up step = record {
  live = live;
  all = ap (λ (o : Option Who). or_else (outermost_held (world m) (path m space.space)) (option_map (place (path m)) o)) step
      ∙ found_up (path m) (outermost_held (world m) (path m space.space)) (is_held (world m) (place (path m) space)) space found
      ∙ ap (λ (o : Option Path). or_else o (option_map (place (path m)) found))
      (sym (outermost_up (world m) space.slot (path m space.space)) ∙ ap (outermost_held (world m)) up)
      ∙ is.all;
}

outermost_root : (w : World) → outermost_held w [] ≡ None
unfolding outermost_held
outermost_root w = refl

pub found_all : (m : Contents) (from at : Who) (found : Option Who) → IsFound m from at found → at.space ≡ 0 →
    option_map (place (path m)) found ≡ outermost_held (world m) (path m from.space)
found_all m from at found is root =
    sym (ap (λ (o : Option Path). or_else o (option_map (place (path m)) found))
    (ap (λ (n : ℕ). outermost_held (world m) (path m n)) root ∙ ap (outermost_held (world m)) (path-root m) ∙ outermost_root (world m)))
    ∙ is.all

-- ---- what is read

pub led_at : (p : ℕ → Path) (o : Option Who) (to : Option Ptr) → option_map (λ (port : Who). At (place p port)) o ≡ to →
    option_map (place p) o ≡ and_then path_to to
led_at p None to is = ap (and_then path_to) is
led_at p (Some who) to is = ap (and_then path_to) is

pub read_at : (p : ℕ → Path) (r : Result ℕ ℕ) (to : Result Path ℕ) → mapped p r ≡ to → if_read (mapped p r) ≡ if_read to
read_at p r to is = ap if_read is

pub or_first : (x : Path) (a b : Option Path) (y : Path) → Some y ≡ a → y ≡ or_itself x (or_else a b)
or_first x a b y is = ap (λ (o : Option Path). or_itself x (or_else o b)) is

pub or_second : (x : Path) (a b : Option Path) (y : Path) → None ≡ a → Some y ≡ b → y ≡ or_itself x (or_else a b)
or_second x a b y none is = (λ i. or_itself x (or_else (none i) (is i)))

pub or_neither : (x : Path) (a b : Option Path) → None ≡ a → None ≡ b → x ≡ or_itself x (or_else a b)
or_neither x a b none is = (λ i. or_itself x (or_else (none i) (is i)))

-- one that is still waits for itself
pub still : (b : Bool) (o : Option Path) → b ≡ true → None ≡ (if b then None else o)
still b o is = rw is refl

pub awake : (b : Bool) (a o : Option Path) → b ≡ false → a ≡ o → a ≡ (if b then None else o)
awake b a o not_so is = rw not_so is
