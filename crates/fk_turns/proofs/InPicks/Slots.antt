-- Slots: what holds of each slot of a space, one after another.
use Rattle.std.proofs.Common.{◌≡◌, ◌⊎◌, inl, inr, ℕ, ◌+◌, ◌<◌, ◌≤◌, true, is_some, IsSome, [], ◌∷◌, Option, Some, None, option_map}
use Rattle.std.proofs.Common.{refl, sym, ap, subst, ◌∙◌, arith}
use Rattle.fk_model.specs.LinkRows.{is_member}
use Rattle.fk_model.specs.Objects.{Thread, Body, and_then, kind_of, thread_of}
use Rattle.fk_model.specs.Objects.Body.{Thread_of}
use Rattle.fk_model.specs.Places.{Path, parent}
use Rattle.fk_model.specs.Searches.{thread_at}
use Rattle.fk_model.specs.SyncRows.{asleep_on}
use Rattle.fk_model.specs.Valid.{IsValid, kind_there}
use Rattle.fk_model.specs.World.{World}
use Rattle.fk_store.specs.Store.Threads.{todo_at, todo_of_thread}
use Rattle.fk_links.specs.Connects.{connect_first}

-- so far, and up to the next slot in which something stands: what isn't there counts as seen
pub up_to : (F L : ℕ → Type 0) (n next : ℕ) → ((k : ℕ) → (L k → F k) → F k) → ((k : ℕ) → k < n → F k) → ((k : ℕ) → L k → n ≤ k → next ≤ k) →
    F next → (k : ℕ) → k < next + 1 → F k
up_to F L n next shows all first here k low = by (below k n)
  where
    below : (k n : ℕ) → (k < n) ⊎ (n ≤ k)
    below k n = grind arith

    between : (k next : ℕ) → k < next + 1 → (k < next) ⊎ (next ≡ k)
    between k next low = grind (arith, low)

    after : n ≤ k → (k < next) ⊎ (next ≡ k) → F k
    after far (inr same) = subst F same here
    after far (inl short) = shows k (λ there. let least = first k there far in absurd (omega (arith, least, short)))

    by : (k < n) ⊎ (n ≤ k) → F k
    by (inl seen) = all k seen
    by (inr far) = after far (between k next low)

-- where nothing stands from there on all are seen
pub all_slots : (F L : ℕ → Type 0) (n : ℕ) → ((k : ℕ) → (L k → F k) → F k) → ((k : ℕ) → k < n → F k) → ((k : ℕ) → L k → k < n) → (k : ℕ) → F k
all_slots F L n shows all last k = shows k (λ there. all k (last k there))

-- an object that is no root
pub record IsSlot (q : Path) : Type 0 where
  pub slot : ℕ
  pub space : Path
  pub at : q ≡ slot ∷ space
  pub low : slot < 256

there : (w : World) (q : Path) (t : Thread) → thread_at w q ≡ Some t → w.body q ≡ Some (Thread_of t)
there w q t here = by (w.body q) here
  where
    by : (o : Option Body) → and_then thread_of o ≡ Some t → o ≡ Some (Thread_of t)
    by (Some (Thread_of other)) here = let same : other ≡ t = cc in rw same refl
    by (Some other) here = absurd (cc)
    by None here = absurd (cc)

-- a thread is no root
thread_slot : (w : World) (q : Path) (t : Thread) → IsValid w → thread_at w q ≡ Some t → IsSlot q
unfolding kind_there
thread_slot w [] t valid here = let root = rw (there w [] t here) at valid.rooted.root in absurd (cc)
thread_slot w (k ∷ s) t valid here = record { slot = k; space = s; at = refl; low = valid.rooted.slots k s (rw (there w (k ∷ s) t here) refl) }

-- nor is a sleeper, or who connects
pub asleep_slot : (w : World) (q : Path) (c : ℕ) → IsValid w → IsSome (asleep_on c (w.body q)) → IsSlot q
asleep_slot w q c valid asleep = by (w.body q) refl asleep
  where
    by : (o : Option Body) → w.body q ≡ o → is_some (asleep_on c o) ≡ true → IsSlot q
    by (Some (Thread_of t)) e asleep = thread_slot w q t valid (ap (and_then thread_of) e)
    by (Some other) e asleep = absurd (cc)
    by None e asleep = absurd (cc)

pub connecting_slot : (w : World) (q : Path) (h : ℕ) → IsValid w → connect_first (todo_at w q) ≡ Some h → IsSlot q
unfolding todo_at
connecting_slot w q h valid connects = by (thread_at w q) refl connects
  where
    by : (o : Option Thread) → thread_at w q ≡ o → connect_first (todo_of_thread o) ≡ Some h → IsSlot q
    by (Some t) e connects = thread_slot w q t valid e
    by None e connects = absurd (cc)

-- who connects is there
pub connecting_there : (w : World) (q : Path) (h : ℕ) → connect_first (todo_at w q) ≡ Some h → IsSome (kind_there w q)
unfolding todo_at kind_there
connecting_there w q h connects = by (w.body q) connects
  where
    by : (o : Option Body) → connect_first (todo_of_thread (and_then thread_of o)) ≡ Some h → is_some (option_map kind_of o) ≡ true
    by (Some b) connects = refl
    by None connects = absurd (cc)

-- and so is a port of a set
pub member_there : (w : World) (q : Path) (set : ℕ) → is_member set (w.body q) ≡ true → IsSome (kind_there w q)
unfolding kind_there
member_there w q set is = by (w.body q) is
  where
    by : (o : Option Body) → is_member set o ≡ true → is_some (option_map kind_of o) ≡ true
    by (Some b) is = refl
    by None is = absurd (cc)

-- what holds of each slot of a space holds of what lies there
pub each_slot : (G : Path → Type 0) (q s : Path) (slot : IsSlot q) → parent q ≡ s → ((k : ℕ) → k < 256 → G (k ∷ s)) → G q
each_slot G q s slot near all =
    let space : slot.space ≡ s = rw slot.at at near in
    subst G (sym (slot.at ∙ ap (λ t. slot.slot ∷ t) space)) (all slot.slot slot.low)

pub member_low : (w : World) (s : Path) (k set : ℕ) → IsValid w → is_member set (w.body (k ∷ s)) ≡ true → k < 256
member_low w s k set valid is = valid.rooted.slots k s (by (w.body (k ∷ s)) is)
  where
    by : (o : Option Body) → is_member set o ≡ true → is_some o ≡ true
    by (Some b) is = refl
    by None is = absurd (cc)
