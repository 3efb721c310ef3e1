-- What a stage answers is words: slots, pages, kinds, counts and records.
use Rattle.std.proofs.Common.{◌≡◌, ℕ, zero, suc, ◌+◌, ◌-◌, ◌<◌, ◌≤◌, Bool, true, false, if◌then◌else◌, not, ◌&&◌, nat_le, nat_lt, IsSome, is_none, List, []}
use Rattle.std.proofs.Common.{◌∷◌, ◌++◌, length, Option, Some, None, option_map, Ok, refl, arith}
use Rattle.std.proofs.lemmas.Bool.{and_parts, leb-true, ltb-true}
use Rattle.fk_model.specs.declared.limits.TheConstants.{SLOTS, PAGES, RECORD_WORDS, MOST_MOVED}
use Rattle.fk_model.specs.declared.names.Kind.{Kind}
use Rattle.fk_model.specs.declared.names.Kind.TheVariants as kinds
use Rattle.fk_model.specs.declared.thread.Turn.{Turn}
use Rattle.fk_model.specs.declared.thread.Turn.TheVariants as turns
use Rattle.fk_model.specs.Places.{Path, same_path, parent, slot_of, strip, Ptr}
use Rattle.fk_model.specs.Places.Ptr.{Null, Dead, At, Out, Outside, Far}
use Rattle.fk_model.specs.Objects.{Mode, Talk, Fault, Thread, Body, kind_of, number_of_kind, registers_of, flag_of, thread_of, reference_of, and_then, or_else}
use Rattle.fk_model.specs.Objects.Mode.{Running, Calling, Halted, Native}
use Rattle.fk_model.specs.Objects.Body.{Mutex, Cond, Mapping, Region, Port, Portset, Space, Thread_of, Reference}
use Rattle.fk_model.specs.World.{World}
use Rattle.fk_model.specs.Searches.{lowest}
use Rattle.fk_model.specs.Holds.{is_free, is_unheld}
use Rattle.fk_model.specs.Outcomes.{Caller}
use Rattle.fk_model.specs.Readers.{object_in, kind_at}
use Rattle.fk_model.specs.Talks.{path_to}
use Rattle.fk_model.specs.LinkRows.{Candidate, is_member, slot_in_set, faulting, connecting, connecting_to, resuming, candidate_by, candidate, is_open}
use Rattle.fk_model.specs.LinkRows.{is_parked, turn_number}
use Rattle.fk_model.specs.LinkRows.Candidate.{Faulting, Connecting, Resuming}
use Rattle.fk_model.specs.Records.{mode_number, halt_code, talk_words, fault_words, member_word, state_words, record_of, is_page_range}
use Rattle.fk_model.specs.StateRows.{Field, field_number, referable}
use Rattle.fk_model.specs.Shapes.{IsCodeInRange}
use Rattle.fk_model.specs.StateRows.Field.{Pointer, NoThread}
use Rattle.fk_model.specs.SpaceRows.{next_page}
use Rattle.fk_model.specs.ObjectRows.{taken_from, outermost, way_down, way_to, target_of, kind_number}
use Rattle.fk_model.specs.Valid.{IsConsistent, IsRooted, kind_there, is_one_of, is_good, is_good_set}
use Rattle.fk_model.proofs.walks.PlaceLaws.{strip_some}
use Rattle.fk_model.proofs.walks.WalkLaws.{live_above}
use Rattle.laws_moves.proofs.InMachine.safety.Reads.{object_in-found}
use Rattle.laws_moves.proofs.InSavable.Words.{IsWord, AreWords, below-word, words-append, words-zeros, of-numbered, all-words}
use Rattle.laws_moves.proofs.InSavable.Kept.{IsFewMoved, IsOnPage, IsTidyThread, IsTidy, AreTidy}

-- ---- small numbers

pub small-word : (n : ℕ) → n ≤ 65535 → IsWord n
small-word n few = below-word n (omega (arith, few))

pub flag-word : (b : Bool) → IsWord (flag_of b)
flag-word true = refl
flag-word false = refl

number-word : (kind : Kind) → IsWord (number_of_kind kind)
number-word kinds.Mutex = refl
number-word kinds.Cond = refl
number-word kinds.Mapping = refl
number-word kinds.Region = refl
number-word kinds.Port = refl
number-word kinds.Portset = refl
number-word kinds.Space = refl
number-word kinds.Thread = refl
number-word kinds.Reference = refl

pub field-word : (f : Field) → IsWord (field_number f)
field-word (Pointer Null) = refl
field-word (Pointer Dead) = refl
field-word (Pointer (At x)) = refl
field-word (Pointer (Out slot)) = refl
field-word (Pointer Outside) = refl
field-word (Pointer Far) = refl
field-word NoThread = refl

pub turn-word : (turn : Turn) → IsWord (turn_number turn)
turn-word turns.Client = refl
turn-word turns.Server = refl

-- ---- what a search finds

lowest-below : {A : Type 0} (n : ℕ) (f : ℕ → Option A) (a : A) → lowest n f ≡ Some a → (k : ℕ) × (k < n) × (f k ≡ Some a)
unfolding lowest
lowest-below zero f a h = cc
lowest-below {A} (suc n) f a h = by (lowest n f) refl h (lowest-below n f a)
  where
    by : (o : Option A) → lowest n f ≡ o → or_else o (f n) ≡ Some a → (lowest n f ≡ Some a → (k : ℕ) × (k < n) × (f k ≡ Some a)) →
        (k : ℕ) × (k < suc n) × (f k ≡ Some a)
    by None e h below = (n, omega arith, h)
    by (Some b) e h below = let its = below (rw e h) in let less = its.1 in (its.0, omega (arith, less), its.2)

pub taken-words : (w : World) (space : Path) (last from : ℕ) (found : ℕ × ℕ) → lowest SLOTS (taken_from w space last from) ≡ Some found →
    AreWords (found.0 ∷ found.1 ∷ [])
taken-words w space last from found h = let at = lowest-below SLOTS (taken_from w space last from) found h in
    by at.0 at.1 (nat_le from at.0 && nat_le at.0 last) at.2
  where
    of : (k : ℕ) → k < SLOTS → (o : Option Body) → option_map (λ b. (k, number_of_kind (kind_of b))) o ≡ Some found → AreWords (found.0 ∷ found.1 ∷ [])
    of k low None h = cc
    of k low (Some b) h = let same : found ≡ (k, number_of_kind (kind_of b)) = cc in rw same (below-word k (omega (arith, low)), (number-word (kind_of b), tt))

    by : (k : ℕ) → k < SLOTS → (t : Bool) → (if t then option_map (λ b. (k, number_of_kind (kind_of b))) (w.body (k ∷ space)) else None) ≡ Some found →
        AreWords (found.0 ∷ found.1 ∷ [])
    by k low true h = of k low (w.body (k ∷ space)) h
    by k low false h = cc

pub page-words : (w : World) (space : Path) (from page : ℕ) → next_page w space from ≡ Some page → AreWords (page ∷ [])
unfolding next_page
page-words w space from page h =
    let at = lowest-below PAGES (λ page. if nat_le from page then option_map (λ words. page) (w.page space page) else None) page h in
    by at.0 at.1 (nat_le from at.0) at.2
  where
    of : (k : ℕ) → k < PAGES → (o : Option (List ℕ)) → option_map (λ words. k) o ≡ Some page → AreWords (page ∷ [])
    of k low None h = cc
    of k low (Some words) h = let same : page ≡ k = cc in rw same (below-word k (omega (arith, low)), tt)

    by : (k : ℕ) → k < PAGES → (t : Bool) → (if t then option_map (λ words. k) (w.page space k) else None) ≡ Some page → AreWords (page ∷ [])
    by k low true h = of k low (w.page space k) h
    by k low false h = cc

-- ---- the way to an object

module _ (w : World) (valid : IsConsistent w) (rooted : IsRooted w) where
  outermost-low : (q space : Path) → IsSome (w.body (q ++ space)) → IsWord (outermost q)
  outermost-low [] space live = refl
  outermost-low (k ∷ []) space live = let low = rooted.slots k space live in below-word k (omega (arith, low))
  outermost-low (k ∷ j ∷ q) space live = outermost-low (j ∷ q) space (live_above w valid k ((j ∷ q) ++ space) live)

  deep-word : (t : Bool) → IsWord (if t then 0 else 1)
  deep-word true = refl
  deep-word false = refl

  kind-word : (o : Option Kind) → IsWord (kind_number o)
  kind-word None = refl
  kind-word (Some kind) = number-word kind

  -- a reference leads to what is there
  led-live : (c : Caller) (reference : ℕ) (x : Path) → object_in w c reference_of c.space reference ≡ Ok (At x) → IsSome (w.body x)
  unfolding kind_there
  led-live c reference x read =
      let found = object_in-found w c reference_of c.space reference (At x) read in
      of found.body found.seen found.there
    where
      some : (wanted : List Kind) (o : Option Body) → is_one_of wanted (option_map kind_of o) ≡ true → IsSome o
      some wanted (Some b) h = refl
      some wanted None h = cc

      of : (b : Body) → reference_of b ≡ Some (At x) → w.body (reference ∷ c.space) ≡ Some b → IsSome (w.body x)
      of (Reference to) seen there =
          let same : to ≡ At x = cc in
          let good = valid.good (reference ∷ c.space) in
          some referable (w.body x) (rw (there, same) at good)
      of (Mutex locked) seen there = cc
      of b seen there = cc

  pub way-words : (c : Caller) (reference : ℕ) (space : Path) (p to : Ptr) (way : List ℕ) → object_in w c reference_of c.space reference ≡ Ok p →
      target_of p ≡ Ok to → way_to space to ≡ Some way → AreWords (way ++ kind_number (kind_at w to) ∷ [])
  way-words c reference space (At x) to way read target found =
      let same : to ≡ At x = cc in words-append way (kind_number (kind_at w to) ∷ []) (by (strip space x) refl (rw same at found))
      (kind-word (kind_at w to), tt)
    where
      by : (o : Option Path) → strip space x ≡ o → option_map way_down o ≡ Some way → AreWords way
      by None e h = cc
      by (Some q) e h =
          let at = strip_some space x q e in
          let live : IsSome (w.body (q ++ space)) = (let there = led-live c reference x read in rw at at there) in
          let form : way ≡ way_down q = cc in
          rw form (outermost-low q space live, (deep-word (nat_le (length q) 1), tt))
  way-words c reference space Null to way read target found = cc
  way-words c reference space Dead to way read target found = cc
  way-words c reference space (Out slot) to way read target found = let same : to ≡ Out slot = cc in let none = rw same at found in cc
  way-words c reference space Outside to way read target found = let same : to ≡ Outside = cc in let none = rw same at found in cc
  way-words c reference space Far to way read target found = let same : to ≡ Far = cc in let none = rw same at found in cc

  -- ---- whom a wait picks

  abbrev pub IsFewCandidate : Option Candidate → Type 0
  IsFewCandidate None = Unit {0}
  IsFewCandidate (Some (Faulting slot fault)) = (slot ≤ 255) × (fault.page < PAGES)
  IsFewCandidate (Some (Connecting slot)) = slot ≤ 255
  IsFewCandidate (Some (Resuming slot talk)) = (slot ≤ 255) × (talk.moved ≤ MOST_MOVED)

  slot-few : (space : Path) (set : ℕ) (port : Ptr) (slot : ℕ) → slot_in_set w space set port ≡ Some slot → slot ≤ 255
  slot-few space set port slot h = by (path_to port) h
    where
      low : (x : Path) → is_member set (w.body x) ≡ true → slot_of x ≤ 255
      low [] h = omega arith
      low (k ∷ x) h = let fits = rooted.slots k x (some (w.body (k ∷ x)) h) in omega (arith, fits)
        where
          some : (o : Option Body) → is_member set o ≡ true → IsSome o
          some (Some b) h = refl
          some None h = cc

      of : (x : Path) (near member : Bool) → is_member set (w.body x) ≡ member → (if near && member then Some (slot_of x) else None) ≡ Some slot → slot ≤ 255
      of x true true e h = let same : slot_of x ≡ slot = cc in rw (← same) (low x e)
      of x true false e h = cc
      of x false member e h = cc

      by : (o : Option Path) → and_then (λ x. if same_path (parent x) space && is_member set (w.body x) then Some (slot_of x) else None) o ≡ Some slot
          → slot ≤ 255
      by None h = cc
      by (Some x) h = of x (same_path (parent x) space) (is_member set (w.body x)) refl h

  few-faulting : (space : Path) (set : ℕ) (t : Thread) → IsTidyThread t → IsFewCandidate (faulting w space set t)
  few-faulting space set t tidy = by t.fault tidy.missing
    where
      of : (fault : Fault) → fault.page < PAGES → (o : Option ℕ) → slot_in_set w space set fault.port ≡ o
          → IsFewCandidate (option_map (λ slot. Faulting slot fault) o)
      of fault low None e = tt
      of fault low (Some slot) e = (slot-few space set fault.port slot e, low)

      test : (fault : Fault) → fault.page < PAGES → (b : Bool) →
          IsFewCandidate (if b then option_map (λ slot. Faulting slot fault) (slot_in_set w space set fault.port) else None)
      test fault low true = of fault low (slot_in_set w space set fault.port) refl
      test fault low false = tt

      by : (o : Option Fault) → IsOnPage o → IsFewCandidate (and_then (λ (fault : Fault). if is_open fault.taker then option_map (λ slot. Faulting slot fault)
          (slot_in_set w space set fault.port) else None) o)
      by None low = tt
      by (Some fault) low = test fault low (is_open fault.taker)

  few-resuming : (space : Path) (set : ℕ) (t : Thread) → IsTidyThread t → IsFewCandidate (resuming w space set t)
  few-resuming space set t tidy = by t.talk tidy.moved
    where
      of : (talk : Talk) → talk.moved ≤ MOST_MOVED → (o : Option ℕ) → slot_in_set w space set talk.port ≡ o
          → IsFewCandidate (option_map (λ slot. Resuming slot talk) o)
      of talk few None e = tt
      of talk few (Some slot) e = (slot-few space set talk.port slot e, few)

      test : (talk : Talk) → talk.moved ≤ MOST_MOVED → (b : Bool) →
          IsFewCandidate (if b then option_map (λ slot. Resuming slot talk) (slot_in_set w space set talk.port) else None)
      test talk few true = of talk few (slot_in_set w space set talk.port) refl
      test talk few false = tt

      by : (o : Option Talk) → IsFewMoved o → IsFewCandidate
          (and_then (λ (talk : Talk). if is_parked (Some talk.peer) then option_map (λ slot. Resuming slot talk)
          (slot_in_set w space set talk.port) else None) o)
      by None few = tt
      by (Some talk) few = test talk few (is_parked (Some talk.peer))

  few-connecting : (space : Path) (set : ℕ) (x : Path) (t : Thread) → IsFewCandidate (connecting w space set x t)
  few-connecting space set x t = by (connecting_to w x t)
    where
      of : (p : Ptr) (o : Option ℕ) → slot_in_set w space set p ≡ o → IsFewCandidate (option_map Connecting o)
      of p None e = tt
      of p (Some slot) e = slot-few space set p slot e

      by : (o : Option Ptr) → IsFewCandidate (option_map Connecting (and_then (slot_in_set w space set) o))
      by None = tt
      by (Some p) = of p (slot_in_set w space set p) refl

  few-either : (a b : Option Candidate) → IsFewCandidate a → IsFewCandidate b → IsFewCandidate (or_else a b)
  few-either None b first second = second
  few-either (Some c) b first second = first

  few-if : (t : Bool) (a : Option Candidate) → IsFewCandidate a → IsFewCandidate (if t then a else None)
  few-if true a few = few
  few-if false a few = tt

  pub candidate-few : AreTidy w → (space : Path) (set : ℕ) (x : Path) → IsFewCandidate (candidate w space set x)
  unfolding candidate
  candidate-few tidy space set x = few-if (is_unheld w (parent x)) _ (by (and_then thread_of (w.body x)) refl)
    where
      by : (o : Option Thread) → and_then thread_of (w.body x) ≡ o → IsFewCandidate (and_then (candidate_by w space set x) o)
      by None e = tt
      by (Some t) e =
          let its = tidy x t e in
          few-either (faulting w space set t) _ (few-faulting space set t its)
          (few-if (is_free w (parent x) t) _ (few-either (connecting w space set x t) _ (few-connecting space set x t) (few-resuming space set t its)))

  -- ---- the record of an object

  mode-word : (m : Mode) → IsWord (mode_number m)
  mode-word (Running g) = refl
  mode-word (Calling todo rest) = refl
  mode-word (Halted g code) = refl
  mode-word (Native g) = refl

  code-word : (t : Thread) → IsTidyThread t → IsWord (halt_code t.mode)
  code-word t tidy = by t.mode tidy.code
    where
      by : (m : Mode) → IsCodeInRange m → IsWord (halt_code m)
      by (Halted g code) few = small-word code (omega (arith, few))
      by (Running g) few = refl
      by m few = refl

  talk-all : (o : Option Talk) → IsFewMoved o → AreWords (talk_words o)
  talk-all None few = (refl, (refl, tt))
  talk-all (Some talk) few = (turn-word talk.turn, (small-word talk.moved few, tt))

  fault-all : (o : Option Fault) → IsOnPage o → AreWords (fault_words o)
  fault-all None low = (refl, (refl, (refl, tt)))
  fault-all (Some fault) low = (raised (is_none fault.taker), (small-word fault.page (omega (arith, low)), (flag-word fault.write, tt)))
    where
      raised : (t : Bool) → IsWord (if t then 1 else 2)
      raised true = refl
      raised false = refl

  range-few : (first count : ℕ) → is_page_range first count ≡ true → (first ≤ 256) × (count ≤ 256)
  range-few first count h =
      let all = and_parts (nat_le 1 count && nat_le count PAGES) (nat_le (first + count) PAGES) h in
      let last = leb-true (first + count) PAGES all.1 in
      (omega (arith, last), omega (arith, last))

  member-few : (at : Path) (set : Option ℕ) (served : Bool) → is_good_set (kind_there w) at set served ≡ true → IsWord (member_word set)
  unfolding kind_there
  member-few at None served good = refl
  member-few at (Some set) served good = by (w.body (set ∷ parent at)) refl (and_parts (not served) _ good).1
    where
      by : (o : Option Body) → w.body (set ∷ parent at) ≡ o → is_one_of (kinds.Portset ∷ []) (option_map kind_of o) ≡ true → IsWord (1 + set)
      by (Some b) e h = let low = rooted.slots set (parent at) (rw e refl) in small-word (1 + set) (omega (arith, low))
      by None e h = cc

  state-all : (at : Path) (b : Body) → IsTidy b → is_good (kind_there w) at b ≡ true → AreWords (state_words b)
  state-all at (Mutex locked) tidy good = (flag-word locked, tt)
  state-all at Cond tidy good = tt
  state-all at (Mapping m) tidy good =
      let both = and_parts (is_page_range m.first m.count && nat_lt m.offset PAGES) _ good in
      let two = and_parts (is_page_range m.first m.count) (nat_lt m.offset PAGES) both.0 in
      let few = range-few m.first m.count two.0 in
      let first = few.0 in
      let count = few.1 in
      let low = ltb-true m.offset PAGES two.1 in (
        small-word m.first (omega (arith, first)),
        (
          small-word m.count (omega (arith, count)),
          (small-word m.offset (omega (arith, low)), (flag-word m.write, tt)),
        ),
      )
  state-all at (Region r) tidy good =
      let few = range-few r.first r.count (and_parts (is_page_range r.first r.count) _ good).0 in
      let first = few.0 in
      let count = few.1 in
      (small-word r.first (omega (arith, first)), (small-word r.count (omega (arith, count)), (flag-word r.write, tt)))
  state-all at (Port set served) tidy good = (member-few at set served good, tt)
  state-all at Portset tidy good = tt
  state-all at (Space birth holder) tidy good = tt
  state-all at (Thread_of t) tidy good =
      words-append _ (fault_words t.fault)
      (words-append _ (talk_words t.talk)
      (words-append (registers_of t.mode) (t.counter ∷ mode_number t.mode ∷ halt_code t.mode ∷ t.stops ∷ [])
      (all-words (registers_of t.mode) (of-numbered t.mode tidy.shaped tidy.numbers))
      (tidy.counter, (mode-word t.mode, (code-word t tidy, (small-word t.stops tidy.stops, tt)))))
      (talk-all t.talk tidy.moved)) (fault-all t.fault tidy.missing)
  state-all at (Reference to) tidy good = tt

  pub record-words : (at : Path) (b : Body) → IsTidy b → is_good (kind_there w) at b ≡ true → AreWords (record_of b)
  unfolding record_of
  record-words at b tidy good =
      words-append (number_of_kind (kind_of b) ∷ state_words b) _ (number-word (kind_of b), state-all at b tidy good)
      (words-zeros (RECORD_WORDS - length (number_of_kind (kind_of b) ∷ state_words b)))
