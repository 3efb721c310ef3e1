-- Spaces and their pages are made safely.
use Rattle.std.proofs.Common.{◌≡◌, ℕ, zero, suc, ◌*◌, ◌-◌, ◌<◌, ◌≤◌, Bool, true, false, nat_lt, cond, List, [], ◌∷◌, ◌++◌, length, get_or, take, drop}
use Rattle.std.proofs.Common.{reverse, Option, Some, None, option_map, IsSome, refl, ◌∙◌, arith}
use Rattle.std.proofs.lemmas.List.Elements.{All-nil, All-head, All-tail, All-push, All-get_or}
use Rattle.std.specs.List.{All, flat_map}
use Rattle.fk_model.specs.declared.names.Kind.TheVariants as kinds
use Rattle.fk_model.specs.Places.{Path}
use Rattle.fk_model.specs.Objects.{Body, kind_of, and_then}
use Rattle.fk_model.specs.Objects.Body.{Space}
use Rattle.fk_model.specs.World.{World, Change, apply, apply_all}
use Rattle.fk_model.specs.World.Change.{MakeSpace, PutPage}
use Rattle.fk_model.specs.Searches.{slots}
use Rattle.fk_model.specs.Valid.{kind_there, birth_of, birth_at}
use Rattle.laws_moves.proofs.InMachine.safety.Safe.{IsVacant, AreSafe}
use Rattle.fk_scenario.specs.declared.entries.types.Program.{Program}
use Rattle.fk_scenario.specs.declared.entries.types.SpaceEntry.{SpaceEntry}
use Rattle.fk_scenario.specs.Entries.Kept.{AreSlots}
use Rattle.fk_scenario.specs.Fields.Paths.{enclosing}
use Rattle.fk_scenario.specs.Sections.Kept.{KeepsSpace}
use Rattle.fk_boot.specs.FirstWorld.{page_words, zero_pages, program_page, program_pages, words_of_program, space_itself, space_changes}
use Rattle.fk_boot.specs.MadeSoFar.{HasPlace, CanStand, HasSpaces}
use Rattle.fk_boot.proofs.Walks.{last, made-space}
use Rattle.fk_boot.proofs.MadeSoFar.{can-stand}

-- some changes after others
pub safe-append : (a b : List Change) (w : World) → AreSafe w a → AreSafe (apply_all a w) b → AreSafe w (a ++ b)
unfolding apply_all
safe-append [] b w first rest = rest
safe-append (c ∷ a) b w first rest = (first.0, safe-append a b (apply c w) first.1 rest)

-- what has a birth number is a space
pub birth-space : (w : World) (x : Path) → IsSome (birth_at w x) → kind_there w x ≡ Some kinds.Space
unfolding kind_there
birth-space w x h = by (w.body x) h
  where
    by : (o : Option Body) → IsSome (and_then birth_of o) → option_map kind_of o ≡ Some kinds.Space
    by None h = absurd (cc)
    by (Some (Space birth holder)) h = refl
    by (Some b) h = absurd (cc)

-- ---- pages

zeros-safe : (space : Path) (pages : List ℕ) (w : World) →
    kind_there w space ≡ Some kinds.Space → All (λ page. page ≤ 255) pages → AreSafe w (zero_pages space pages)
unfolding kind_there apply
zeros-safe space [] w is few = tt
zeros-safe space (page ∷ pages) w is few = (
  record { space = is; number = (let low = All-head (λ page. page ≤ 255) page pages few in omega (arith, low)) },
  zeros-safe space pages (apply (PutPage space page (page_words [])) w) is (All-tail (λ page. page ≤ 255) page pages few),
)

zeros-kind : (space : Path) (pages : List ℕ) (w : World) → kind_there (apply_all (zero_pages space pages) w) space ≡ kind_there w space
unfolding kind_there apply apply_all
zeros-kind space [] w = refl
zeros-kind space (page ∷ pages) w = zeros-kind space pages (apply (PutPage space page (page_words [])) w)

part-safe : (space : Path) (words : List ℕ) (page : ℕ) (w : World) → kind_there w space ≡ Some kinds.Space → page < 256
    → AreSafe w (program_page space words page) × (kind_there (apply_all (program_page space words page) w) space ≡ Some kinds.Space)
unfolding kind_there apply apply_all
part-safe space words page w is low = by (nat_lt (page * 64) (length words))
  where
    by : (b : Bool) → AreSafe w (cond b (PutPage space page (page_words (take 64 (drop (page * 64) words))) ∷ []) [])
        × (kind_there (apply_all (cond b (PutPage space page (page_words (take 64 (drop (page * 64) words))) ∷ []) []) w) space ≡ Some kinds.Space)
    by true = ((record { space = is; number = low }, tt), is)
    by false = (tt, is)

parts-safe : (space : Path) (words pages : List ℕ) (w : World) → kind_there w space ≡ Some kinds.Space → All (λ page. page < 256) pages
    → AreSafe w (flat_map (program_page space words) pages)
parts-safe space words [] w is few = tt
parts-safe space words (page ∷ pages) w is few =
    let part = part-safe space words page w is (All-head (λ page. page < 256) page pages few) in
    let rest = parts-safe space words pages (apply_all (program_page space words page) w) part.1 (All-tail (λ page. page < 256) page pages few) in
    safe-append (program_page space words page) (flat_map (program_page space words) pages) w part.0 rest

first_slots : (n most : ℕ) → n ≤ most → All (λ k. k < most) (slots n)
unfolding slots
first_slots zero most h = All-nil (λ k. k < most)
first_slots (suc n) most h = All-push (λ k. k < most) (slots n) n (first_slots n most (omega (arith, h))) (omega (arith, h))

-- an entry's place is an empty slot of a space
pub place-vacant : (w : World) (path : List ℕ) → 1 ≤ length path → AreSlots path → HasPlace w path
    → IsVacant w (get_or path (length path - 1) 0) (reverse (enclosing path))
place-vacant w path inside slots place =
    let low = All-get_or (λ slot. slot ≤ 239) path (length path - 1) 0 (omega (arith, inside)) slots in
    record {
      slot = omega (arith, low);
      space = birth-space w (reverse (enclosing path)) place.space;
      empty = rw (last path inside) at place.empty;
    }

-- ---- spaces

itself-safe : (w : World) (path : List ℕ) → CanStand w path → AreSlots path
    → AreSafe w (space_itself (reverse path)) × (kind_there (apply_all (space_itself (reverse path)) w) (reverse path) ≡ Some kinds.Space)
unfolding apply_all
itself-safe w [] stands slots = (tt, birth-space w [] (rw stands refl))
itself-safe w (k ∷ path) stands slots =
    let ends = last (k ∷ path) (omega arith) in
    let made : birth_at (apply (MakeSpace (reverse (k ∷ path)) None) w) (reverse (k ∷ path)) ≡ Some w.next = made-space w (reverse (k ∷ path)) in
    let is = birth-space (apply (MakeSpace (reverse (k ∷ path)) None) w) (reverse (k ∷ path)) (rw made refl) in
    rw ends ((record { place = place-vacant w (k ∷ path) (omega arith) slots stands; held = refl }, tt), rw ends at is)

-- a space with its pages
pub entry-safe : (programs : List Program) (done : List SpaceEntry) (s : SpaceEntry) (w : World) →
    HasSpaces w done → KeepsSpace programs done s → AreSafe w (space_changes programs s)
entry-safe programs done s w h keeps =
    let space = reverse s.path in
    let words = words_of_program programs s.program in
    let itself = itself-safe w s.path (can-stand programs done s w h keeps) keeps.slots in
    let v = apply_all (space_itself space) w in
    let zeros = zeros-safe space s.pages v itself.1 keeps.pages in
    let still = zeros-kind space s.pages v ∙ itself.1 in
    let parts = parts-safe space words (slots 256) (apply_all (zero_pages space s.pages) v) still (first_slots 256 256 (omega arith)) in
    safe-append (space_itself space) (zero_pages space s.pages ++ program_pages space words) w itself.0
    (safe-append (zero_pages space s.pages) (program_pages space words) v zeros parts)
