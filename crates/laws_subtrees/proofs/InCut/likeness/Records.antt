-- State records and pointer fields are read alike in a likeness.
use Rattle.std.proofs.Common.{◌≡◌, ℕ, ◌-◌, Bool, false, List, ◌∷◌, ◌++◌, Option, Some, None, is_some, is_none, option_map, refl}
use Rattle.fk_model.specs.Places.{Path, Ptr}
use Rattle.fk_model.specs.Objects.{Peer, Talk, Fault, Body, number_of_kind, kind_of, and_then}
use Rattle.fk_model.specs.Objects.Body.{Mutex, Mapping, Port, Portset, Space, Thread_of}
use Rattle.fk_model.specs.World.{World}
use Rattle.fk_model.specs.LinkRows.{portset_of}
use Rattle.fk_model.specs.Records.{state_words, record_of, talk_words, fault_words, set_edits, is_member_word, is_state, takes_state, word}
use Rattle.fk_model.specs.StateRows.{field_number, held_kinds, is_native, is_inner}
use Rattle.fk_model.specs.StateRows.Field.{Pointer}
use Rattle.fk_model.specs.Cut.{seen_by, unheld}
use Rattle.laws_subtrees.specs.Cut.Likeness.{seeing, PtrLikeness, HasLikeness, IsPlainBody, IsLikeness}
use Rattle.laws_subtrees.specs.Cut.Likeness.PtrLikeness.{Nulls, Deads, Inside, PortAt, PortOut}

module _ (see : Ptr → Ptr) where
  abbrev seen : Body → Body
  seen b = seen_by (seeing see) b

  talk-words : (o : Option Talk) → talk_words (and_then (seeing see).talk o) ≡ talk_words o
  talk-words None = refl
  talk-words (Some talk) = refl

  untaken : (f : Peer → Peer) (o : Option Peer) → is_none (option_map f o) ≡ is_none o
  untaken f None = refl
  untaken f (Some taker) = refl

  fault-words : (o : Option Fault) → fault_words (and_then (seeing see).fault o) ≡ fault_words o
  fault-words None = refl
  fault-words (Some fault) = rw (untaken _ fault.taker) refl

  state-words : (b : Body) → state_words (seen b) ≡ state_words b
  unfolding seen_by
  state-words (Port None served) = refl
  state-words (Port (Some set) served) = refl
  state-words (Thread_of t) = rw (talk-words t.talk, fault-words t.fault) refl
  state-words b = refl

  kind-number : (b : Body) → number_of_kind (kind_of (seen b)) ≡ number_of_kind (kind_of b)
  unfolding seen_by
  kind-number (Mutex locked) = refl
  kind-number b = refl

  -- the record of an object shows nothing of its pointers
  pub record-seen : (b : Body) → record_of (seen b) ≡ record_of b
  unfolding record_of
  record-seen b = rw (kind-number b, state-words b) refl

  pub set_edits-seen : (b : Body) (words : List ℕ) → set_edits (seen b) words ≡ set_edits b words
  unfolding seen_by
  set_edits-seen (Mutex locked) words = refl
  set_edits-seen b words = refl

  pub held_kinds-seen : (b : Body) → held_kinds (seen b) ≡ held_kinds b
  unfolding seen_by
  held_kinds-seen (Mapping m) = refl
  held_kinds-seen b = refl

  pub is_native-seen : (b : Body) → is_native (seen b) ≡ is_native b
  unfolding seen_by
  is_native-seen (Thread_of t) = refl
  is_native-seen b = refl

  pub is_inner-seen : (b : Body) → is_inner (seen b) ≡ is_inner b
  unfolding seen_by
  is_inner-seen (Space birth holder) = refl
  is_inner-seen b = refl

module _ {root : Path} {see : Ptr → Ptr} {small big : World} (like : IsLikeness root see small big) where
  -- what the number of a field says of its pointer
  pub field_number-like : (p seen : Ptr) → PtrLikeness root big p seen → field_number (Pointer seen) ≡ field_number (Pointer p)
  field_number-like _ _ Nulls = refl
  field_number-like _ _ Deads = refl
  field_number-like _ _ (Inside x) = refl
  field_number-like _ _ (PortAt x slot apart port) = refl
  field_number-like _ _ (PortOut old slot) = refl

  portset-like : (k : ℕ) (q : Path) → is_some (and_then portset_of (small.body (k ∷ q))) ≡ is_some (and_then portset_of (big.body (k ∷ (q ++ root))))
  unfolding seen_by
  portset-like k q = rw (like.bodies (k ∷ q)) (by (big.body (k ∷ (q ++ root))))
    where
      by : (v : Option Body) → is_some (and_then portset_of (option_map (λ b. unheld (k ∷ q) (seen_by (seeing see) b)) v)) ≡ is_some (and_then portset_of v)
      by None = refl
      by (Some Portset) = refl
      by (Some b) = refl

  member_word-like : (space : Path) (served : Bool) (n : ℕ) → served ≡ false → is_member_word small space false n ≡ is_member_word big (space ++ root) served n
  member_word-like space served n h = rw (h, portset-like (n - 1) space) refl

  state-like : (space : Path) (b : Body) (words : List ℕ) →
      IsPlainBody see (HasLikeness root see big) b → is_state small space (seen_by (seeing see) b) words ≡ is_state big (space ++ root) b words
  unfolding seen_by
  state-like space (Port set served) words h = member_word-like space served (word words 1) h
  state-like space b words h = refl

  -- an object takes the same records
  pub takes_state-like : (space : Path) (b : Body) (words : List ℕ) →
      IsPlainBody see (HasLikeness root see big) b → takes_state small space (seen_by (seeing see) b) words ≡ takes_state big (space ++ root) b words
  unfolding takes_state
  takes_state-like space b words h = rw (kind-number see b, state-like space b words h) refl
