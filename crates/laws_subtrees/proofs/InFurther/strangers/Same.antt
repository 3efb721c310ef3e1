-- Two worlds that are the same beneath a root have the same cut there.
use Rattle.std.proofs.Common.{◌≡◌, ℕ, zero, Bool, true, false, if◌then◌else◌, ◌&&◌, [], ◌∷◌, ◌++◌, Option, Some, None, option_map, refl, ap, ◌∙◌}
use Rattle.std.specs.List.{list_any}
use Rattle.fk_model.specs.declared.names.Kind.TheVariants as kinds
use Rattle.fk_model.specs.Places.{Path, same_path, strip, Ptr, leads_to}
use Rattle.fk_model.specs.Places.Ptr.{Null, Dead, At, Out, Outside, Far}
use Rattle.fk_model.specs.Objects.{Body, kind_of}
use Rattle.fk_model.specs.Objects.Body.{Mutex, Cond, Mapping, Region, Port, Portset, Space, Thread_of, Reference}
use Rattle.fk_model.specs.World.{World}
use Rattle.fk_model.specs.Searches.{pointers}
use Rattle.fk_model.specs.Freezing.{body_pointers}
use Rattle.fk_model.specs.Valid.{kind_there}
use Rattle.fk_model.specs.Cut.{ports_of, cut_out, cut_to, cut_ptr, cutting, seen_by, unheld, cut}
use Rattle.fk_model.proofs.walks.Members.{IsIn, any_in}
use Rattle.fk_model.proofs.walks.PlaceLaws.{same_path_eq, same_path_refl}
use Rattle.laws_moves.proofs.InFrozen.FrozenCut.{port_by_kind, body_alike}
use Rattle.laws_subtrees.proofs.InFurther.strangers.Away.{IsSameBelow}

module _ (w v : World) (nester : Path) (slot : ℕ) (same : IsSameBelow (slot ∷ nester) w v) (space : kind_there w (slot ∷ nester) ≡ Some kinds.Space) where
  abbrev root : Path
  root = slot ∷ nester

  ports_alike : (i : ℕ) → kind_there v (i ∷ nester) ≡ kind_there w (i ∷ nester) → ports_of v nester slot i ≡ ports_of w nester slot i
  unfolding kind_there
  ports_alike i h = rw (port_by_kind (v.body (i ∷ nester)), port_by_kind (w.body (i ∷ nester)), h) refl

  out_alike : (x : Path) → kind_there v x ≡ kind_there w x → cut_out (ports_of v nester slot) nester x ≡ cut_out (ports_of w nester slot) nester x
  out_alike [] h = refl
  out_alike (i ∷ x) h = by (same_path x nester) refl
    where
      by : (t : Bool) → same_path x nester ≡ t → (if t && ports_of v nester slot i then Out i else Far) ≡ (if t && ports_of w nester slot i then Out i else Far)
      by true e = let is = same_path_eq x nester e in let there : kind_there v (i ∷ nester) ≡ kind_there w (i ∷ nester) = rw is at h in
          rw (ports_alike i there) refl
      by false e = refl

  to_alike : (x : Path) (o : Option Path) → kind_there v x ≡ kind_there w x →
      cut_to (ports_of v nester slot) nester x o ≡ cut_to (ports_of w nester slot) nester x o
  to_alike x (Some q) h = refl
  to_alike x None h = out_alike x h

  ptr_alike : (k : ℕ) (q : Path) (b : Body) → w.body (k ∷ (q ++ root)) ≡ Some b → (p : Ptr) → IsIn p (pointers b) →
      cut_ptr (ports_of v nester slot) nester slot p ≡ cut_ptr (ports_of w nester slot) nester slot p
  ptr_alike k q b there (At x) is =
      let led : list_any (leads_to x) (body_pointers (w.body (k ∷ (q ++ root)))) ≡ true =
      rw there (any_in (leads_to x) (At x) (pointers b) is (same_path_refl x)) in
      to_alike x (strip root x) (same.kinds x k q led)
  ptr_alike k q b there Null is = refl
  ptr_alike k q b there Dead is = refl
  ptr_alike k q b there (Out i) is = refl
  ptr_alike k q b there Outside is = refl
  ptr_alike k q b there Far is = refl

  there_alike : (k : ℕ) (q : Path) (o : Option Body) → w.body (k ∷ (q ++ root)) ≡ o →
      option_map (λ b. unheld (k ∷ q) (seen_by (cutting (ports_of v nester slot) nester slot) b)) o
      ≡ option_map (λ b. unheld (k ∷ q) (seen_by (cutting (ports_of w nester slot) nester slot) b)) o
  there_alike k q None there = refl
  there_alike k q (Some b) there =
      ap (λ b. Some (unheld (k ∷ q) b)) (body_alike nester slot (ports_of w nester slot) (ports_of v nester slot) b (ptr_alike k q b there))

  -- a space at the root is seen alike whoever holds it
  root_seen : (ports : ℕ → Bool) (o : Option Body) → option_map kind_of o ≡ Some kinds.Space →
      option_map (λ b. unheld [] (seen_by (cutting ports nester slot) b)) o ≡ Some (Space 0 None)
  unfolding seen_by
  root_seen ports (Some (Space birth holder)) h = refl
  root_seen ports (Some (Mutex locked)) h = cc
  root_seen ports (Some Cond) h = cc
  root_seen ports (Some (Mapping m)) h = cc
  root_seen ports (Some (Region r)) h = cc
  root_seen ports (Some (Port set served)) h = cc
  root_seen ports (Some Portset) h = cc
  root_seen ports (Some (Thread_of t)) h = cc
  root_seen ports (Some (Reference to)) h = cc
  root_seen ports None h = cc

  body_same : (q : Path) → (cut v nester slot).body q ≡ (cut w nester slot).body q
  unfolding cut kind_there
  body_same [] = rw (root_seen (ports_of v nester slot) (v.body root) (same.top ∙ space), root_seen (ports_of w nester slot) (w.body root) space) refl
  body_same (k ∷ q) = ap (option_map (λ b. unheld (k ∷ q) (seen_by (cutting (ports_of v nester slot) nester slot) b))) (same.bodies k q)
      ∙ there_alike k q (w.body (k ∷ (q ++ root))) refl

  pub same-below-cut : cut v nester slot ≡ cut w nester slot
  unfolding cut
  same-below-cut = λ i. record { body = λ q. body_same q i; page = λ q page. same.pages q page i; next = zero }
