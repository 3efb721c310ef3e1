-- Scans: who is ready among all objects, from one object on.
use Rattle.std.proofs.Common.{◌≡◌, ℕ, Bool, true, false, IsTrue, [], ◌∷◌, Option, Some, None, option_map, IfSome, refl, sym, ap, ◌∙◌}
use Rattle.fk_model.specs.declared.moves.Ask.TheVariants as asks
use Rattle.fk_model.specs.declared.moves.Move.{Move}
use Rattle.fk_model.specs.declared.names.Who.{Who}
use Rattle.fk_model.specs.Who.{named, space_born}
use Rattle.fk_model.specs.Places.{Path}
use Rattle.fk_model.specs.Objects.{Thread}
use Rattle.fk_model.specs.World.{World}
use Rattle.fk_model.specs.Outcomes.Outcome.{Waits}
use Rattle.fk_model.specs.Moves.{user_move, outcome, IsReady}
use Rattle.fk_model.specs.Searches.{thread_at}
use Rattle.fk_store.specs.Store.Contents.{Contents}
use Rattle.fk_store.specs.Store.Paths.{path}
use Rattle.fk_store.specs.Store.World.{world, place_of, IsLive}
use Rattle.fk_turns.proofs.InSteps.Ahead.{IsAhead, rootless, thread_there}
use Rattle.std.specs.Ordering.{is_le, is_lt, ordering_reverse}
use Rattle.std.specs.Cmp.{IsTotalOrder, nat_cmp_total}
use Rattle.std.proofs.lemmas.Cmp.{on_total, then_total}
use Rattle.std.specs.declared.cmp.Ordering.{Ordering}
use Rattle.std.specs.declared.cmp.Ordering.TheVariants.{Less, Equal, Greater}
use Rattle.fk_store.specs.Store.Names.{who_cmp}
use Rattle.fk_store.specs.Store.Orders.{comes_after, IsFirstAfter}
use Rattle.fk_kernel.specs.Events.{is_past, is_who, AreNamed, IsAnyReady, IsIdleBetween, IsIdleUpTo, IsMoveReady, IsReadyBesides}

-- a user is ready
abbrev pub IsUp : Contents → Who → Type 0
IsUp m other = IsMoveReady (world m) (place_of m other)

-- ---- the order of names

who_total : IsTotalOrder who_cmp
who_total = then_total (on_total (λ (w : Who). w.space) nat_cmp_total) (on_total (λ (w : Who). w.slot) nat_cmp_total)

-- after one that comes after, all come after
lt_le : (a b c : Who) → is_lt (who_cmp a b) ≡ true → IsTrue (is_le (who_cmp b c)) → IsTrue (is_lt (who_cmp a c))
lt_le a b c first next = by (who_cmp b c) refl next
  where
    less : (r : Ordering) → is_lt r ≡ true → r ≡ Less
    less Less is = refl
    less Equal is = absurd (cc)
    less Greater is = absurd (cc)

    before : who_cmp a b ≡ Less
    before = less (who_cmp a b) first

    by : (r : Ordering) → who_cmp b c ≡ r → IsTrue (is_le r) → IsTrue (is_lt (who_cmp a c))
    by Less e le = rw (who_total.trans a b c before e) refl
    by Equal e le =
        let back = who_total.congr c b a (who_total.antisymm c b ∙ ap ordering_reverse e) in
        let same : who_cmp a c ≡ who_cmp a b = who_total.antisymm a c ∙ ap ordering_reverse back ∙ sym (who_total.antisymm a b) in
        rw (same, before) refl
    by Greater e le = absurd (cc)

-- ---- nobody is ready where no object is

no_thread : (w : World) (x : Path) (pick : Option Path) → thread_at w x ≡ None → outcome w x pick asks.Run ≡ Waits
unfolding outcome
no_thread w x pick none = ap (user_move w x pick) none

-- what moves is an object with a name
pub nobody_ready : (m : Contents) → AreNamed m → ((other : Who) → IsLive m other → IsUp m other → ⊥) →
    (x : Path) (pick : Option Path) → IsReady (world m) x pick asks.Run → ⊥
nobody_ready m named none [] pick ready = rw (no_thread (world m) [] pick (rootless m)) at ready
nobody_ready m named none (k ∷ s) pick ready = by (thread_at (world m) (k ∷ s)) refl
  where
    by : (o : Option Thread) → thread_at (world m) (k ∷ s) ≡ o → ⊥
    by None e = rw (no_thread (world m) (k ∷ s) pick e) at ready
    by (Some t) e =
        let some = thread_there (world m) (k ∷ s) t e in
        let other = named k s some in
        none other.0 (rw other.1 some) (pick, rw other.1 ready)

-- nor by any other name than one
pub nobody_besides : (m : Contents) (besides : Option Who) → path m ≡ space_born (world m) →
    ((other : Who) → IsLive m other → is_who besides other ≡ false → IsUp m other → ⊥) → (move : Move) → IsReadyBesides (world m) besides move → ⊥
nobody_besides m besides born none move ready = by (thread_at (world m) (named (world m) move.who)) refl
  where
    there : place_of m move.who ≡ named (world m) move.who
    there = ap (λ (p : ℕ → Path). move.who.slot ∷ p move.who.space) born

    by : (o : Option Thread) → thread_at (world m) (named (world m) move.who) ≡ o → ⊥
    by None e = let waits = no_thread (world m) (named (world m) move.who) (option_map (named (world m)) move.pick) e in let moves = ready.1 in
        rw waits at moves
    by (Some t) e =
        let some = thread_there (world m) (named (world m) move.who) t e in
        none move.who (rw there some) ready.0 (option_map (named (world m)) move.pick, rw there ready.1)

-- ---- between two objects

-- a user that is ready, after one object and up to another, but maybe one
abbrev pub IsUpBetween : Contents → Option Who → Option Who → Option Who → Who → Type 0
IsUpBetween m after last besides other =
    IsTrue (comes_after who_cmp after other) × (is_past other last ≡ false) × (is_who besides other ≡ false) × IsUp m other

-- before the first of them each is yet to come
pub all_ahead : (m : Contents) (after last besides at : Option Who) → IsFirstAfter who_cmp (IsLive m) after at → IsAhead m (IsUpBetween m after last besides) at
all_ahead m after last besides None first = λ other live is. first other live is.0
all_ahead m after last besides (Some who) first = λ other live is. first.2 other live is.0

-- past the last of them there is none
pub none_past : (m : Contents) (after last besides : Option Who) (who : Who) → IsAhead m (IsUpBetween m after last besides) (Some who) →
    is_past who last ≡ true →
    IsIdleBetween m after last besides
none_past m after None besides who ahead past other live comes within is up = absurd (cc)
none_past m after (Some last) besides who ahead past other live comes within is up =
    let later : IsTrue (is_lt (who_cmp last other)) = lt_le last who other past (ahead other live (comes, within, is, up)) in
    absurd (cc)

pub idle_between : (m : Contents) (after last besides : Option Who) → IsAhead m (IsUpBetween m after last besides) None → IsIdleBetween m after last besides
idle_between m after last besides ahead other live comes within is up = ahead other live (comes, within, is, up)

-- nobody after an object, nor up to it
pub idle_around : (m : Contents) (last besides : Option Who) → IsIdleBetween m last None besides → IsIdleUpTo m last besides →
    (other : Who) → IsLive m other → is_who besides other ≡ false → IsUp m other → ⊥
idle_around m None besides after upto other live is up = after other live refl refl is up
idle_around m (Some last) besides after upto other live is up = by (is_lt (who_cmp last other)) refl
  where
    by : (b : Bool) → is_lt (who_cmp last other) ≡ b → ⊥
    by true e = after other live e refl is up
    by false e = upto other live refl e is up

-- whoever moves by its own name is another, where it isn't this one
pub moves_besides : (besides : Option Who) (who : Who) (o : Option Move) → is_who besides who ≡ false → IfSome o (λ m. m.who ≡ who)
    → IfSome o (λ m. is_who besides m.who ≡ false)
moves_besides besides who None is same = tt
moves_besides besides who (Some m) is same = rw same is

-- nobody else is ready, where nobody is
pub none_besides : (w : World) (besides : Option Who) → (IsAnyReady w → ⊥) → (m : Move) → IsReadyBesides w besides m → ⊥
none_besides w besides none m ready = none (named w m.who, option_map (named w) m.pick, ready.1)
