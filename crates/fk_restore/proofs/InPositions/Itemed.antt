-- An item's orders are its parts', and then those of the items behind it.
use Rattle.std.proofs.Common.{◌≡◌, ℕ, zero, suc, ◌+◌, ◌-◌, ◌<◌, ◌≤◌, ◌⊎◌, inl, inr, Bool, true, false, cond, ltb, List, [], ◌∷◌, ◌++◌, drop, length}
use Rattle.std.proofs.Common.{Option, Some, None, is_some, refl, sym, ap, ◌∙◌, arith, ne_eqb}
use Rattle.std.specs.Prelude.{slice_get}
use Rattle.std.specs.List.{flat_map}
use Rattle.std.proofs.lemmas.Bool.{cases_lt, lt-ltb, le-ltb}
use Rattle.std.proofs.lemmas.List.{append-nil}
use Rattle.std.proofs.lemmas.List.Concat.{flat_map-cons}
use Rattle.fk_model.specs.declared.names.Kind.TheVariants as kinds
use Rattle.fk_image.specs.declared.image.image.ObjectRec.{ObjectRec}
use Rattle.fk_image.specs.declared.image.image.PageRec.{PageRec}
use Rattle.fk_image.specs.declared.image.image.SpaceRec.{SpaceRec}
use Rattle.fk_image.specs.Image.Picture.{space_path}
use Rattle.laws_restore.specs.Sites.Orders.{Order}
use Rattle.laws_restore.specs.Sites.Orders.Order.{Makes, Gives, Holds}
use Rattle.laws_restore.specs.Restore.Script.{P, T, points_body, leads_body_out, ties_body}
use Rattle.laws_pictures.specs.Tree.{IsTree}
use Rattle.laws_restore.proofs.InRooms.Beneath.{IsNested}
use Rattle.fk_restore.specs.declared.positions.position.Pass.{Pass}
use Rattle.fk_restore.specs.declared.positions.position.Pass.TheVariants.{Spaces, Fills, Inward, Outward, Ties, Holds as HoldsPass}
use Rattle.fk_restore.specs.Positions.Walks.{walk_rest, leads}
use Rattle.fk_restore.specs.Positions.Passes.{Part, leads_within, items_of, object_part, page_part, makes_object, sets_object, fills_item, inward_part}
use Rattle.fk_restore.specs.Positions.Passes.{outward_part, ties_part, path_of, once, held_orders, items_from}
use Rattle.fk_restore.specs.Positions.Passes.Part.{Nothing, Walks, Asks}
use Rattle.fk_restore.specs.Positions.Positions.{part_orders}
use Rattle.fk_restore.proofs.InPositions.Parted.{drop_at, drop_out, at_of, IsLinkedRec, inward_six, outward_six, ties_six, six_at, item_orders, no_more}
use Rattle.fk_restore.proofs.InPositions.Parted.{object_six}

module _ (ss : List SpaceRec) (tree : IsTree ss) (nested : IsNested ss) (slot : ℕ) (bind : ℕ → ℕ) (n : ℕ) (s : SpaceRec) (is : is_some (slice_get ss n) ≡ true)
    (linked : (j : ℕ) (o : ObjectRec) → slice_get s.objects j ≡ Some o → IsLinkedRec ss o.body) where
  abbrev from_at : Pass → ℕ → List Order
  from_at pass j = items_from ss slot bind n s pass j

  abbrev six_of : Pass → ℕ → List Order
  six_of pass j = six_at ss tree nested slot bind n s is pass j

  -- ---- objects, their records, pages

  abbrev many : ℕ
  many = length s.objects

  abbrev filled : ℕ → ℕ → ℕ → List Order
  filled a b c =
      flat_map (λ (o : ObjectRec). makes_object ss slot bind n s o ∷ []) (drop a s.objects)
      ++ (flat_map (λ (o : ObjectRec). sets_object ss slot bind n s o ∷ []) (drop b s.objects)
      ++ flat_map (λ (p : PageRec). Gives P (space_path ss n) p.page p.words ∷ []) (drop c s.pages))

  next_made : (a b c : ℕ) (o : ObjectRec) → slice_get s.objects a ≡ Some o → filled a b c ≡ makes_object ss slot bind n s o ∷ filled (suc a) b c
  next_made a b c o e =
      ap (λ (os : List Order). os ++ (flat_map (λ (o : ObjectRec). sets_object ss slot bind n s o ∷ []) (drop b s.objects)
      ++ flat_map (λ (p : PageRec). Gives P (space_path ss n) p.page p.words ∷ []) (drop c s.pages)))
      (ap (flat_map (λ (o : ObjectRec). makes_object ss slot bind n s o ∷ [])) (drop_at s.objects a o e)
      ∙ flat_map-cons (λ (o : ObjectRec). makes_object ss slot bind n s o ∷ []) o (drop (suc a) s.objects))

  next_told : (a b c : ℕ) (o : ObjectRec) → many ≤ a → slice_get s.objects b ≡ Some o → filled a b c ≡ sets_object ss slot bind n s o ∷ filled (suc a) (suc b) c
  next_told a b c o le e =
      ap (λ (os : List ObjectRec). flat_map (λ (o : ObjectRec). makes_object ss slot bind n s o ∷ []) os
      ++ (flat_map (λ (o : ObjectRec). sets_object ss slot bind n s o ∷ []) (drop b s.objects)
      ++ flat_map (λ (p : PageRec). Gives P (space_path ss n) p.page p.words ∷ []) (drop c s.pages)))
      (drop_out s.objects a le)
      ∙ ap (λ (os : List Order). os ++ flat_map (λ (p : PageRec). Gives P (space_path ss n) p.page p.words ∷ []) (drop c s.pages))
      (ap (flat_map (λ (o : ObjectRec). sets_object ss slot bind n s o ∷ [])) (drop_at s.objects b o e)
      ∙ flat_map-cons (λ (o : ObjectRec). sets_object ss slot bind n s o ∷ []) o (drop (suc b) s.objects))
      ∙ ap (λ (os : List ObjectRec). sets_object ss slot bind n s o
      ∷ (flat_map (λ (o : ObjectRec). makes_object ss slot bind n s o ∷ []) os
      ++ (flat_map (λ (o : ObjectRec). sets_object ss slot bind n s o ∷ []) (drop (suc b) s.objects)
      ++ flat_map (λ (p : PageRec). Gives P (space_path ss n) p.page p.words ∷ []) (drop c s.pages))))
      (sym (drop_out s.objects (suc a) (omega (arith, le))))

  next_given : (a b c : ℕ) (p : PageRec) → many ≤ a → many ≤ b → slice_get s.pages c ≡ Some p
      → filled a b c ≡ Gives P (space_path ss n) p.page p.words ∷ filled (suc a) (suc b) (suc c)
  next_given a b c p le ge e =
      ap (λ (os : List ObjectRec). flat_map (λ (o : ObjectRec). makes_object ss slot bind n s o ∷ []) os
      ++ (flat_map (λ (o : ObjectRec). sets_object ss slot bind n s o ∷ []) (drop b s.objects)
      ++ flat_map (λ (p : PageRec). Gives P (space_path ss n) p.page p.words ∷ []) (drop c s.pages)))
      (drop_out s.objects a le)
      ∙ ap (λ (os : List ObjectRec). flat_map (λ (o : ObjectRec). sets_object ss slot bind n s o ∷ []) os
      ++ flat_map (λ (p : PageRec). Gives P (space_path ss n) p.page p.words ∷ []) (drop c s.pages))
      (drop_out s.objects b ge)
      ∙ (ap (flat_map (λ (p : PageRec). Gives P (space_path ss n) p.page p.words ∷ [])) (drop_at s.pages c p e)
      ∙ flat_map-cons (λ (p : PageRec). Gives P (space_path ss n) p.page p.words ∷ []) p (drop (suc c) s.pages))
      ∙ sym (ap (λ (os : List Order). Gives P (space_path ss n) p.page p.words ∷ os) (empty (suc a) (suc b) (suc c) (omega (arith, le)) (omega (arith, ge))))
    where
      empty : (a b c : ℕ) → many ≤ a → many ≤ b → filled a b c ≡ flat_map (λ (p : PageRec). Gives P (space_path ss n) p.page p.words ∷ []) (drop c s.pages)
      empty a b c le ge =
          ap (λ (os : List ObjectRec). flat_map (λ (o : ObjectRec). makes_object ss slot bind n s o ∷ []) os
          ++ (flat_map (λ (o : ObjectRec). sets_object ss slot bind n s o ∷ []) (drop b s.objects)
          ++ flat_map (λ (p : PageRec). Gives P (space_path ss n) p.page p.words ∷ []) (drop c s.pages)))
          (drop_out s.objects a le)
          ∙ ap (λ (os : List ObjectRec). flat_map (λ (o : ObjectRec). sets_object ss slot bind n s o ∷ []) os
          ++ flat_map (λ (p : PageRec). Gives P (space_path ss n) p.page p.words ∷ []) (drop c s.pages))
          (drop_out s.objects b ge)

  none_left : (a b c : ℕ) → many ≤ a → many ≤ b → length s.pages ≤ c → filled a b c ≡ []
  none_left a b c le ge last =
      (λ i. flat_map (λ (o : ObjectRec). makes_object ss slot bind n s o ∷ []) (drop_out s.objects a le i)
      ++ (flat_map (λ (o : ObjectRec). sets_object ss slot bind n s o ∷ []) (drop_out s.objects b ge i)
      ++ flat_map (λ (p : PageRec). Gives P (space_path ss n) p.page p.words ∷ []) (drop_out s.pages c last i)))

  numbers : (j a b : ℕ) → j - many ≡ a → j - (many + many) ≡ b → from_at Fills j ≡ filled j a b
  numbers j a b e f = λ i. filled j (e i) (f i)

  fills_six : (j : ℕ) → six_of Fills j ≡ part_orders ss slot bind (fills_item ss slot bind n s j)
  fills_six j = append-nil (part_orders ss slot bind (fills_item ss slot bind n s j))

  object_is : (order : ObjectRec → Order) (j : ℕ) (o : ObjectRec) → slice_get s.objects j ≡ Some o
      → object_part ss slot bind n s order j s.objects ≡ Asks (order o)
  object_is order j o e = ap by e
    where
      by : Option ObjectRec → Part
      by None = Nothing
      by (Some o) = Asks (order o)

  page_is : (j : ℕ) (p : PageRec) → slice_get s.pages j ≡ Some p → page_part ss slot bind n s j s.pages ≡ Asks (Gives P (space_path ss n) p.page p.words)
  page_is j p e = ap by e
    where
      by : Option PageRec → Part
      by None = Nothing
      by (Some p) = Asks (Gives P (space_path ss n) p.page p.words)

  fills_law : (j : ℕ) → j < many + many + length s.pages → from_at Fills j ≡ six_of Fills j ++ from_at Fills (suc j)
  fills_law j lt = by (cases_lt j many) (cases_lt j (many + many))
    where
      by : (j < many) ⊎ (many ≤ j) → (j < many + many) ⊎ (many + many ≤ j) → from_at Fills j ≡ six_of Fills j ++ from_at Fills (suc j)
      by (inl low) second =
          let o = at_of s.objects j low in
          let first : fills_item ss slot bind n s j ≡ Asks (makes_object ss slot bind n s o.item) =
          ap (λ t. cond t (object_part ss slot bind n s (makes_object ss slot bind n s) j s.objects)
          (cond (ltb j (many + many)) (object_part ss slot bind n s (sets_object ss slot bind n s) (j - many) s.objects)
          (page_part ss slot bind n s (j - (many + many)) s.pages))) (lt-ltb j many low)
          ∙ object_is (makes_object ss slot bind n s) j o.item o.is in
          numbers j 0 0 (omega (arith, low)) (omega (arith, low)) ∙ next_made j 0 0 o.item o.is
          ∙ sym ((λ i. (fills_six j ∙ ap (part_orders ss slot bind) first) i ++ numbers (suc j) 0 0 (omega (arith, low)) (omega (arith, low)) i))
      by (inr high) (inl low) =
          let b = j - many in
          let o = at_of s.objects b (omega (arith, high, low)) in
          let next : suc j - many ≡ suc b = omega (arith, high) in
          let first : fills_item ss slot bind n s j ≡ Asks (sets_object ss slot bind n s o.item) =
          ap (λ t. cond t (object_part ss slot bind n s (makes_object ss slot bind n s) j s.objects)
          (cond (ltb j (many + many)) (object_part ss slot bind n s (sets_object ss slot bind n s) (j - many) s.objects)
          (page_part ss slot bind n s (j - (many + many)) s.pages))) (le-ltb j many high)
          ∙ ap (λ t. cond t (object_part ss slot bind n s (sets_object ss slot bind n s) (j - many) s.objects)
          (page_part ss slot bind n s (j - (many + many)) s.pages)) (lt-ltb j (many + many) low)
          ∙ object_is (sets_object ss slot bind n s) b o.item o.is in
          numbers j b 0 refl (omega (arith, low)) ∙ next_told j b 0 o.item high o.is
          ∙ sym ((λ i. (fills_six j ∙ ap (part_orders ss slot bind) first) i ++ numbers (suc j) (suc b) 0 next (omega (arith, low)) i))
      by (inr high) (inr last) =
          let b = j - many in
          let c = j - (many + many) in
          let p = at_of s.pages c (omega (arith, last, lt)) in
          let next : suc j - many ≡ suc b = omega (arith, high) in
          let next_page : suc j - (many + many) ≡ suc c = omega (arith, last) in
          let first : fills_item ss slot bind n s j ≡ Asks (Gives P (space_path ss n) p.item.page p.item.words) =
          ap (λ t. cond t (object_part ss slot bind n s (makes_object ss slot bind n s) j s.objects)
          (cond (ltb j (many + many)) (object_part ss slot bind n s (sets_object ss slot bind n s) (j - many) s.objects)
          (page_part ss slot bind n s (j - (many + many)) s.pages))) (le-ltb j many high)
          ∙ ap (λ t. cond t (object_part ss slot bind n s (sets_object ss slot bind n s) (j - many) s.objects)
          (page_part ss slot bind n s (j - (many + many)) s.pages)) (le-ltb j (many + many) last)
          ∙ page_is c p.item p.is in
          numbers j b c refl refl ∙ next_given j b c p.item high (omega (arith, last)) p.is
          ∙ sym ((λ i. (fills_six j ∙ ap (part_orders ss slot bind) first) i ++ numbers (suc j) (suc b) (suc c) next next_page i))

  -- ---- all passes

  once_behind : (j : ℕ) (os : List Order) → once ss slot bind n s (suc j) os ≡ []
  once_behind j os = ap (λ t. cond t os []) (ne_eqb (suc j) 0 (λ e. omega (arith, e)))

  pub item_law : (pass : Pass) (j : ℕ) → j < items_of pass s → from_at pass j ≡ six_of pass j ++ from_at pass (suc j)
  item_law Spaces zero lt = refl
  item_law Spaces (suc j) lt = absurd (omega (arith, lt))
  item_law Fills j lt = fills_law j lt
  item_law Inward j lt =
      let o = at_of s.objects j lt in
      item_orders ss tree nested slot bind n s is (points_body slot) j o.item o.is
      ∙ ap (λ (os : List Order). os ++ from_at Inward (suc j))
      (sym (object_six ss tree nested slot bind n s is (inward_part ss slot bind n s) j o.item o.is
      ∙ inward_six ss tree nested slot bind n s is o.item.slot o.item.body (linked j o.item o.is).link))
  item_law (Outward i) j lt =
      let o = at_of s.objects j lt in
      item_orders ss tree nested slot bind n s is (leads_body_out i bind) j o.item o.is
      ∙ ap (λ (os : List Order). os ++ from_at (Outward i) (suc j))
      (sym (object_six ss tree nested slot bind n s is (outward_part ss slot bind n s i) j o.item o.is
      ∙ outward_six ss tree nested slot bind n s is i o.item.slot o.item.body))
  item_law Ties j lt =
      let o = at_of s.objects j lt in
      item_orders ss tree nested slot bind n s is (ties_body slot) j o.item o.is
      ∙ ap (λ (os : List Order). os ++ from_at Ties (suc j))
      (sym (object_six ss tree nested slot bind n s is (ties_part ss slot bind n s) j o.item o.is
      ∙ ties_six ss tree nested slot bind n s is o.item.slot o.item.body (linked j o.item o.is)))
  item_law HoldsPass zero lt = by (leads_within s.holder)
    where
      order : Order
      order = Holds P (space_path ss s.parent) s.slot T (path_of ss slot bind n s s.holder)

      by : (t : Bool) → cond t (walk_rest ss (leads ss slot T s.parent s.holder) ++ order ∷ []) []
          ≡ (part_orders ss slot bind (cond t (Walks (leads ss slot T s.parent s.holder)) Nothing) ++ (part_orders ss slot bind (cond t (Asks order) Nothing)
          ++ (part_orders ss slot bind (cond t Nothing Nothing)
          ++ (part_orders ss slot bind (cond t Nothing Nothing)
          ++ (part_orders ss slot bind (cond t Nothing Nothing) ++ (part_orders ss slot bind (cond t Nothing Nothing) ++ [])))))) ++ []
      by true = sym (append-nil (walk_rest ss (leads ss slot T s.parent s.holder) ++ order ∷ []))
      by false = refl
  item_law HoldsPass (suc j) lt = absurd (omega (arith, lt))

  pub item_end : (pass : Pass) (j : ℕ) → items_of pass s ≤ j → from_at pass j ≡ []
  item_end Spaces zero le = absurd (omega (arith, le))
  item_end Spaces (suc j) le = once_behind j (Makes P (space_path ss s.parent) s.slot kinds.Space ∷ [])
  item_end Fills j le = none_left j (j - many) (j - (many + many)) (omega (arith, le)) (omega (arith, le)) (omega (arith, le))
  item_end Inward j le = no_more ss tree nested slot bind n s is (points_body slot) j le
  item_end (Outward i) j le = no_more ss tree nested slot bind n s is (leads_body_out i bind) j le
  item_end Ties j le = no_more ss tree nested slot bind n s is (ties_body slot) j le
  item_end HoldsPass zero le = absurd (omega (arith, le))
  item_end HoldsPass (suc j) le = once_behind j (held_orders ss slot bind n s)
