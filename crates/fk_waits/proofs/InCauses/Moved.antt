-- Moved: threads in the queues of causes, once one has come, has gone to another queue, or is gone.
use Rattle.std.proofs.Common.{◌≡◌, ◌≢◌, ◌≤◌, ◌+◌, ℕ, suc, List, [], ◌∷◌, ◌++◌, length, length-append, Some, refl, sym, ap, ◌∙◌, arith}
use Rattle.slab.specs.Slab.{slab_len}
use Rattle.fk_model.specs.declared.names.Who.{Who}
use Rattle.fk_waits.specs.Queues.Nodes.{shown_at}
use Rattle.fk_waits.specs.Causes.Names.{key_at}
use Rattle.fk_waits.specs.Queues.Places.{AreFiled, IsHead, Place, SameHeads}
use Rattle.fk_waits.specs.declared.queues.queues.Queues.{Queues}
use Rattle.fk_waits.specs.Causes.Causes.{ArePlaced}
use Rattle.fk_waits.specs.declared.causes.causes.Causes.{Causes}
use Rattle.fk_waits.proofs.InCauses.Placed.{with_queues}

abbrev pub at_head : Place → ℕ → Place
at_head p h = record { key = p.key; node = p.node; who = p.who; head = h }

abbrev pub with_name : Place → Who → Place
with_name p who = record { key = p.key; node = p.node; who = who; head = p.head }

long_moved : (a b : List Place) (p x : Place) → length ((a ++ b) ++ x ∷ []) ≡ length (a ++ p ∷ b)
long_moved a b p x =
    let one = length-append (a ++ b) (x ∷ []) in let two = length-append a b in let three = length-append a (p ∷ b) in omega (arith, one, two, three)

long_named : (a b : List Place) (p x : Place) → length (a ++ x ∷ b) ≡ length (a ++ p ∷ b)
long_named [] b p x = refl
long_named (y ∷ a) b p x = ap (λ (n : ℕ). suc n) (long_named a b p x)

long_left : (a b : List Place) (p : Place) → length (a ++ p ∷ b) ≡ length (a ++ b) + 1
long_left a b p = let one = length-append a b in let two = length-append a (p ∷ b) in omega (arith, one, two)

pub long_last : (l : List Place) (p : Place) → length (l ++ p ∷ []) ≡ length l + 1
long_last l p = let one = length-append l (p ∷ []) in omega (arith, one)

module _ (c : Causes) (q : Queues) (same : SameHeads c.queues.lines q.lines) where
  -- what is said of names and heads stays, where the heads are the same
  pub record Stays : Type 0 where
    pub head_stays : (h : ℕ) → IsHead c.queues.lines h → IsHead q.lines h
    pub known_stays : ((name : Who) (h : ℕ) → key_at c.names.0 name ≡ Some h → (shown_at c.queues.lines h ≡ Some (name, h)) × (h ≢ c.ready)) →
        (name : Who) (h : ℕ) → key_at c.names.0 name ≡ Some h → (shown_at q.lines h ≡ Some (name, h)) × (h ≢ c.ready)
    pub found_stays : ((name : Who) (h : ℕ) → shown_at c.queues.lines h ≡ Some (name, h) → h ≢ c.ready → key_at c.names.0 name ≡ Some h) →
        (name : Who) (h : ℕ) → shown_at q.lines h ≡ Some (name, h) → h ≢ c.ready → key_at c.names.0 name ≡ Some h

  pub stays : Stays
  stays = record {
    head_stays = λ h is. (is.0, same.kept h is ∙ is.1);
    known_stays = λ known name h is. let was = known name h is in (same.kept h (name, was.0) ∙ was.0, was.1);
    found_stays = λ found name h is off. found name h (sym (same.kept h (same.none h (name, is))) ∙ is) off;
  }

  -- one goes to another queue
  pub moved : (head : ℕ) (a : List Place) (p : Place) (b : List Place) → ArePlaced c head (a ++ p ∷ b) → AreFiled q ((a ++ b) ++ at_head p head ∷ []) →
      slab_len q.order ≡ slab_len c.queues.order → slab_len q.lines ≡ slab_len c.queues.lines →
      ArePlaced (with_queues c q) c.ready ((a ++ b) ++ at_head p head ∷ [])
  moved head a p b placed filed order lines = record {
    filed = filed;
    ready = stays.head_stays c.ready placed.ready;
    one = stays.head_stays c.ready placed.ready;
    known = stays.known_stays placed.known;
    found = stays.found_stays placed.found;
    order = let long = long_moved a b p (at_head p head) in omega (arith, order, placed.order, long);
    lines = let long = long_moved a b p (at_head p head) in omega (arith, lines, placed.lines, long);
    few = let long = long_moved a b p (at_head p head) in omega (arith, placed.few, long);
    many = placed.many;
  }

  -- one goes
  pub gone : (a : List Place) (p : Place) (b : List Place) → ArePlaced c c.ready (a ++ p ∷ b) → AreFiled q (a ++ b) →
      slab_len q.order + 1 ≡ slab_len c.queues.order → slab_len q.lines + 1 ≡ slab_len c.queues.lines → ArePlaced (with_queues c q) c.ready (a ++ b)
  gone a p b placed filed order lines = record {
    filed = filed;
    ready = stays.head_stays c.ready placed.ready;
    one = stays.head_stays c.ready placed.ready;
    known = stays.known_stays placed.known;
    found = stays.found_stays placed.found;
    order = let long = long_left a b p in omega (arith, order, placed.order, long);
    lines = let long = long_left a b p in omega (arith, lines, placed.lines, long);
    few = let long = long_left a b p in omega (arith, placed.few, long);
    many = placed.many;
  }

  -- one comes
  pub come : (l : List Place) (p : Place) → ArePlaced c p.head l → AreFiled q (l ++ p ∷ []) →
      slab_len q.order ≡ slab_len c.queues.order + 1 → slab_len q.lines ≡ slab_len c.queues.lines + 1 → length l + 1 ≤ c.seats →
      ArePlaced (with_queues c q) c.ready (l ++ p ∷ [])
  come l p placed filed order lines seat = record {
    filed = filed;
    ready = stays.head_stays c.ready placed.ready;
    one = stays.head_stays c.ready placed.ready;
    known = stays.known_stays placed.known;
    found = stays.found_stays placed.found;
    order = let long = long_last l p in omega (arith, order, placed.order, long);
    lines = let long = long_last l p in omega (arith, lines, placed.lines, long);
    few = let long = long_last l p in omega (arith, seat, long);
    many = placed.many;
  }

  -- one has another name
  pub named : (a : List Place) (p : Place) (b : List Place) (who : Who) → ArePlaced c c.ready (a ++ p ∷ b) → AreFiled q (a ++ with_name p who ∷ b) →
      slab_len q.order ≡ slab_len c.queues.order → slab_len q.lines ≡ slab_len c.queues.lines →
      ArePlaced (with_queues c q) c.ready (a ++ with_name p who ∷ b)
  named a p b who placed filed order lines = record {
    filed = filed;
    ready = stays.head_stays c.ready placed.ready;
    one = stays.head_stays c.ready placed.ready;
    known = stays.known_stays placed.known;
    found = stays.found_stays placed.found;
    order = let long = long_named a b p (with_name p who) in omega (arith, order, placed.order, long);
    lines = let long = long_named a b p (with_name p who) in omega (arith, lines, placed.lines, long);
    few = let long = long_named a b p (with_name p who) in omega (arith, placed.few, long);
    many = placed.many;
  }
