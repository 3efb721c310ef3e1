-- Pointing: the fields of an object that a gatherer reads, each of which holds a pointer that the object has, and where it leads.
use Rattle.std.proofs.Common.{◌≡◌, ℕ, ◌≤◌, Bool, false, IsSome, is_some, List, [], ◌∷◌, ◌++◌, Option, Some, None, refl}
use Rattle.std.proofs.Common.{sym, ap, subst, arith, ◌∙◌, inl, inr, suc, nat_le}
use Rattle.fk_model.specs.declared.names.Kind.TheVariants as kinds
use Rattle.fk_model.specs.Places.{Path, Ptr}
use Rattle.fk_model.specs.Places.Ptr.{Null, At}
use Rattle.fk_model.specs.Objects.{Body}
use Rattle.fk_model.specs.Objects.Body.{Reference}
use Rattle.fk_model.specs.World.{World}
use Rattle.fk_model.specs.Searches.{depth}
use Rattle.fk_model.specs.StateRows.{field_number}
use Rattle.fk_model.specs.StateRows.Field.{Pointer}
use Rattle.fk_model.specs.Valid.{IsValid, kind_there}
use Rattle.fk_model.proofs.walks.PlaceLaws.{same_path_refl}
use Rattle.fk_model.proofs.walks.Members.{IsIn}
use Rattle.laws_moves.specs.Frozen.Holding.{IsHolding}
use Rattle.std.proofs.lemmas.Bool.Decides.{nat_tests}
use Rattle.fk_model.proofs.walks.WalkLaws.{live-kind}
use Rattle.laws_moves.proofs.InFrozen.Frozen.{there_live}
use Rattle.laws_checkpoint.specs.Foreign.{TARGETS}
use Rattle.laws_checkpoint.specs.Gather.{pointer_fields}
use Rattle.fk_model.specs.Objects.{Window, Extent, Talk, Fault, Thread, Peer}
use Rattle.fk_model.specs.Objects.Peer.{Server, Service, Parked}
use Rattle.fk_model.specs.Objects.Body.{Mutex, Cond, Mapping, Region, Port, Portset, Space, Thread_of}
use Rattle.fk_model.specs.StateRows.{Field, field_of}
use Rattle.fk_model.specs.StateRows.Field.{NoThread}
use Rattle.fk_model.specs.Searches.{pointers, option_list, talk_pointers, fault_pointers}
use Rattle.fk_model.specs.Cut.{cutting, seen_by}
use Rattle.fk_model.proofs.walks.Members.{in_right}

pub two_long : (n : ℕ) → nat_le (suc (suc n)) 1 ≡ false
two_long n = grind (arith, nat_tests)

pub no_more : {A : Type 0} (ps : List A) → ps ≡ ps ++ []
no_more [] = refl
no_more (p ∷ ps) = ap (λ qs. p ∷ qs) (no_more ps)

pub pushed : (got : List Ptr) (p : Ptr) (rest : List Ptr) → (got ++ p ∷ []) ++ rest ≡ got ++ p ∷ rest
pushed [] p rest = refl
pushed (g ∷ got) p rest = ap (λ (ps : List Ptr). g ∷ ps) (pushed got p rest)

-- ---- what a reference leads to is there, and what lies above it is a space

module _ (nester : Path) (slot : ℕ) (x : Path) (w : World) (holding : IsHolding nester slot w) (target : w.body (TARGETS ∷ nester) ≡ Some (Reference (At x)))
    (valid : IsValid w) (few : w.next ≤ depth) where
  pub live_target : IsSome (w.body x)
  live_target =
      sym (live-kind w x) ∙ there_live (kind_there w) x (TARGETS ∷ nester) (w.body (TARGETS ∷ nester)) (valid.consistent.good (TARGETS ∷ nester))
      (rw target (rw (same_path_refl x) refl))

  pub above_live : (j : ℕ) (q y : Path) → IsSome (w.body ((j ∷ q) ++ y)) → kind_there w y ≡ Some kinds.Space
  above_live j [] y live = valid.consistent.parents j y live
  above_live j (i ∷ q) y live = above_live i q y (space_there ((i ∷ q) ++ y) (valid.consistent.parents j ((i ∷ q) ++ y) live))
    where
      space_there : (y : Path) → kind_there w y ≡ Some kinds.Space → IsSome (w.body y)
      space_there y h = sym (live-kind w y) ∙ ap is_some h

-- ---- the fields that are asked

pub data Pointing : Body → ℕ → Type 0 where
  Maps : {m : Window} → Pointing (Mapping m) 0
  Keeps : {r : Extent} → Pointing (Region r) 0
  Refers : {to : Ptr} → Pointing (Reference to) 0
  Holds : {birth : ℕ} {holder : Option Ptr} → Pointing (Space birth holder) 0
  Talks : {t : Thread} → Pointing (Thread_of t) 0
  Serves : {t : Thread} → Pointing (Thread_of t) 1
  Faults : {t : Thread} → Pointing (Thread_of t) 2
  Takes : {t : Thread} → Pointing (Thread_of t) 3

abbrev pub AllPointing : Body → List ℕ → Type 0
AllPointing b [] = Unit {0}
AllPointing b (n ∷ ns) = Pointing b n × AllPointing b ns

pub all_pointing : (b : Body) → AllPointing b (pointer_fields (Some b))
all_pointing (Mapping m) = (Maps, tt)
all_pointing (Region r) = (Keeps, tt)
all_pointing (Reference to) = (Refers, tt)
all_pointing (Space birth holder) = (Holds, tt)
all_pointing (Thread_of t) = (Talks, (Serves, (Faults, (Takes, tt))))
all_pointing (Mutex locked) = tt
all_pointing Cond = tt
all_pointing (Port set served) = tt
all_pointing Portset = tt

pub record Pointed (b : Body) (n : ℕ) : Type 0 where
  pub field : Field
  pub is : field_of n b ≡ Some field
  pub among : (to : Ptr) → field ≡ Pointer to → field_number (Pointer to) ≡ 2 → IsIn to (pointers b)

no_null : (P : Type 0) (to : Ptr) → Pointer Null ≡ Pointer to → field_number (Pointer to) ≡ 2 → P
no_null P to e some = let off : field_number (Pointer Null) ≡ 2 = subst (λ (f : Field). field_number f ≡ 2) (sym e) some in cc

pub same_to : (p to : Ptr) → Pointer p ≡ Pointer to → p ≡ to
same_to p to e = cc

module _ (t : Thread) where
  talk_at_port : (o : Option Talk) → Pointed (Thread_of (record t { talk = o })) 0
  talk_at_port None = record {
    field = Pointer Null;
    is = refl;
    among = λ to e some. no_null (IsIn to (pointers (Thread_of (record t { talk = None })))) to e some;
  }
  talk_at_port (Some talk) = record { field = Pointer talk.port; is = refl; among = λ to e some. inl (same_to talk.port to e) }

  talk_served : (o : Option Talk) → Pointed (Thread_of (record t { talk = o })) 1
  talk_served None = record {
    field = Pointer Null;
    is = refl;
    among = λ to e some. no_null (IsIn to (pointers (Thread_of (record t { talk = None })))) to e some;
  }
  talk_served (Some talk) = by talk.peer
    where
      by : (peer : Peer) → Pointed (Thread_of (record t { talk = Some (record talk { peer = peer }) })) 1
      by (Server thread) = record { field = Pointer thread; is = refl; among = λ to e some. inr (inl (same_to thread to e)) }
      by Service = record { field = NoThread; is = refl; among = λ to e some. cc }
      by Parked = record { field = NoThread; is = refl; among = λ to e some. cc }

  fault_at_port : (o : Option Fault) → Pointed (Thread_of (record t { fault = o })) 2
  fault_at_port None = record {
    field = Pointer Null;
    is = refl;
    among = λ to e some. no_null (IsIn to (pointers (Thread_of (record t { fault = None })))) to e some;
  }
  fault_at_port (Some fault) = record {
    field = Pointer fault.port;
    is = refl;
    among = λ to e some. in_right to (option_list talk_pointers t.talk) (fault_pointers fault) (inl (same_to fault.port to e));
  }

  fault_taken : (o : Option Fault) → Pointed (Thread_of (record t { fault = o })) 3
  fault_taken None = record {
    field = Pointer Null;
    is = refl;
    among = λ to e some. no_null (IsIn to (pointers (Thread_of (record t { fault = None })))) to e some;
  }
  fault_taken (Some fault) = by fault.taker
    where
      by : (taker : Option Peer) → Pointed (Thread_of (record t { fault = Some (record fault { taker = taker }) })) 3
      by None = record {
        field = Pointer Null;
        is = refl;
        among = λ to e some. no_null (IsIn to (pointers (Thread_of (record t { fault = Some (record fault { taker = None }) })))) to e some;
      }
      by (Some (Server thread)) = record {
        field = Pointer thread;
        is = refl;
        among = λ to e some. in_right to (option_list talk_pointers t.talk) (fault.port ∷ thread ∷ []) (inr (inl (same_to thread to e)));
      }
      by (Some Service) = record { field = NoThread; is = refl; among = λ to e some. cc }
      by (Some Parked) = record { field = NoThread; is = refl; among = λ to e some. cc }

pub pointed : (b : Body) (n : ℕ) → Pointing b n → Pointed b n
pointed (Mapping m) _ Maps = record { field = Pointer m.region; is = refl; among = λ to e some. inl (same_to m.region to e) }
pointed (Region r) _ Keeps = record { field = Pointer r.keeper; is = refl; among = λ to e some. inl (same_to r.keeper to e) }
pointed (Reference to) _ Refers = record { field = Pointer to; is = refl; among = λ x e some. inl (same_to to x e) }
pointed (Space birth None) _ Holds = record { field = Pointer Null; is = refl; among = λ to e some. no_null (IsIn to (pointers (Space birth None))) to e some }
pointed (Space birth (Some p)) _ Holds = record { field = Pointer p; is = refl; among = λ to e some. inl (same_to p to e) }
pointed (Mutex locked) n c = elim c [ ]
pointed Cond n c = elim c [ ]
pointed (Port set served) n c = elim c [ ]
pointed Portset n c = elim c [ ]
pointed (Thread_of t) _ Talks = talk_at_port t t.talk
pointed (Thread_of t) _ Serves = talk_served t t.talk
pointed (Thread_of t) _ Faults = fault_at_port t t.fault
pointed (Thread_of t) _ Takes = fault_taken t t.fault

pub same_pointers : (ports : ℕ → Bool) (nester : Path) (slot : ℕ) (b : Body)
    → pointer_fields (Some (seen_by (cutting ports nester slot) b)) ≡ pointer_fields (Some b)
unfolding seen_by
same_pointers ports nester slot (Mapping m) = refl
same_pointers ports nester slot (Region r) = refl
same_pointers ports nester slot (Reference to) = refl
same_pointers ports nester slot (Space birth holder) = refl
same_pointers ports nester slot (Thread_of t) = refl
same_pointers ports nester slot (Mutex locked) = refl
same_pointers ports nester slot Cond = refl
same_pointers ports nester slot (Port set served) = refl
same_pointers ports nester slot Portset = refl
