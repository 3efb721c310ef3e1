-- Leading: who leads to a port and is yet to come.
use Rattle.std.proofs.Common.{◌≡◌, ◌≢◌, ◌⊎◌, inl, inr, List, [], ◌∷◌, Option, Some, None, IfNone, refl, sym, ap, subst, ◌∙◌}
use Rattle.fk_model.specs.declared.names.Who.{Who}
use Rattle.fk_model.specs.Places.{Path, parent}
use Rattle.fk_model.specs.Places.Ptr.{At}
use Rattle.fk_model.specs.Objects.{Thread}
use Rattle.fk_model.specs.Searches.{pointers_to, thread_at}
use Rattle.fk_model.proofs.walks.Members.{IsIn}
use Rattle.fk_store.specs.Store.Contents.{Contents}
use Rattle.fk_store.specs.Store.World.{world, place_of}
use Rattle.fk_turns.specs.declared.picks.moves.Picker.{Picker}
use Rattle.fk_turns.proofs.InPicks.Scans.{nobody}
use Rattle.fk_turns.specs.Picks.Stands.{ComesBy, ConnectsBy, ConnectsByReference, IsPicked, StandsAt}
use Rattle.fk_turns.specs.Picks.Stands.StandsAt.{Leads, Connects}
use Rattle.fk_turns.proofs.InPicks.Stands.{counted_first, some_hits}

-- each object that leads there, and by which somebody is picked, is among these
abbrev pub AreToCome : Contents → Picker → Who → List Who → Type 0
AreToCome m me port whos = (y q : Path) → pointers_to (place_of m port) ((world m).body y) ≢ 0 →
    ComesBy (world m) y q → IsPicked m me q → (from : Who) × (place_of m from ≡ y) × IsIn from whos

pub next_to_come : (m : Contents) (me : Picker) (port who : Who) (whos : List Who) → AreToCome m me port (who ∷ whos) →
    ((q : Path) → ComesBy (world m) (place_of m who) q → IsPicked m me q → ⊥) → AreToCome m me port whos
next_to_come m me port who whos all none y q leads comes picked = let found = all y q leads comes picked in by found.0 found.1 found.2
  where
    by : (from : Who) → place_of m from ≡ y → (who ≡ from) ⊎ IsIn from whos → (from : Who) × (place_of m from ≡ y) × IsIn from whos
    by from at (inl same) = absurd (none q (subst (λ x. ComesBy (world m) x q) (sym (ap (place_of m) same ∙ at)) comes) picked)
    by from at (inr later) = (from, at, later)

-- who stands at a port leads there, or connects by it or by what leads there
pub stands_picked : (m : Contents) (me : Picker) (port : Who) (q : Path) → ((x : Path) → ConnectsBy (world m) (place_of m port) x → IsPicked m me x → ⊥) →
    ((y x : Path) → pointers_to (place_of m port) ((world m).body y) ≢ 0 → ComesBy (world m) y x → IsPicked m me x → ⊥) →
    StandsAt (world m) (place_of m port) q → IsPicked m me q → ⊥
stands_picked m me port q own leading (Leads leads) picked = leading q q leads (inl refl) picked
stands_picked m me port q own leading (Connects h first (inl same)) picked =
    own q (subst (λ y. ConnectsBy (world m) y q) (sym same) (first, refl)) picked
stands_picked m me port q own leading (Connects h first (inr led)) picked =
    let hits : pointers_to (place_of m port) ((world m).body (h ∷ parent q)) ≢ 0 =
    rw led (some_hits (counted_first (place_of m port) (At (place_of m port)) [] refl)) in
    leading (h ∷ parent q) q hits (inr (At (place_of m port), led, (first, refl))) picked

-- ---- what is a thread is no reference, and what is none isn't picked

pub by_thread : (m : Contents) (me : Picker) (from : Who) (t : Thread) → Some t ≡ thread_at (world m) (place_of m from) → (IsPicked m me (place_of m from) → ⊥) →
    (q : Path) → ComesBy (world m) (place_of m from) q → IsPicked m me q → ⊥
by_thread m me from t there none q (inl same) picked = none (subst (IsPicked m me) same picked)
by_thread m me from t there none q (inr way) picked = let no = rw way.1 at there in absurd (cc)

pub by_reference : (m : Contents) (me : Picker) (from : Who) → None ≡ thread_at (world m) (place_of m from) →
    ((q : Path) → ConnectsByReference (world m) (place_of m from) q → IsPicked m me q → ⊥) →
    (q : Path) → ComesBy (world m) (place_of m from) q → IsPicked m me q → ⊥
by_reference m me from none_there none q (inl same) picked =
    let here : IsPicked m me (place_of m from) = subst (IsPicked m me) same picked in
    absurd (nobody m me (place_of m from) (sym none_there) here)
by_reference m me from none_there none q (inr way) picked = none q way picked

-- ---- where no move is found

pub if_none : {A P Q : Type 0} (o : Option A) → (P → Q) → IfNone o P → IfNone o Q
if_none None f p = f p
if_none (Some a) f p = tt
