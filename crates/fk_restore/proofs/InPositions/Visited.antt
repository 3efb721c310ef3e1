-- The code's tests of records are the script's tests of what these stand for.
use Rattle.std.proofs.Common.{◌≡◌, ℕ, ◌+◌, Bool, true, false, ◌||◌, List, [], ◌∷◌, map, Option, Some, None, option_map, refl, sym, ap, ◌∙◌}
use Rattle.std.specs.List.{list_any}
use Rattle.fk_image.specs.declared.image.image.Link.{Link}
use Rattle.fk_image.specs.declared.image.image.Link.TheVariants.{Null, Dead, In, Out, Root, Outside}
use Rattle.fk_image.specs.declared.image.image.TalkRec.{TalkRec}
use Rattle.fk_image.specs.declared.image.image.FaultRec.{FaultRec}
use Rattle.fk_image.specs.declared.image.image.Rec.{Rec}
use Rattle.fk_image.specs.declared.image.image.Rec.TheVariants.{Mutex, Cond, Portset, Mapping, Region, Port, Thread, Reference}
use Rattle.fk_image.specs.declared.image.image.ObjectRec.{ObjectRec}
use Rattle.fk_image.specs.declared.image.image.SpaceRec.{SpaceRec}
use Rattle.fk_image.specs.Image.Picture.{ptr, pictured_talk, pictured_fault, pictured_body}
use Rattle.laws_restore.specs.Restore.Rooms.{Item}
use Rattle.laws_restore.specs.Restore.Script as script
use Rattle.laws_restore.specs.Rooms.Rooms.{item_of, room_of, rooms_from}
use Rattle.fk_restore.specs.declared.positions.position.Pass.{Pass, Pass as passes}
use Rattle.fk_restore.specs.Positions.Passes.{leads_within, visits}
use Rattle.fk_restore.specs.Positions.Code.{is_out, talk_is_out, fault_is_out, talk_is_within, fault_is_within, stays_within, leads_in, leads_out, ties_inside}

any_same : {A B : Type 0} (f : B → Bool) (g : A → Bool) (h : A → B) (xs : List A) → ((x : A) → f (h x) ≡ g x) → list_any f (map h xs) ≡ list_any g xs
any_same f g h [] e = refl
any_same f g h (x ∷ xs) e = λ i. e x i || any_same f g h xs e i

or_false : (b : Bool) → ((b || false) || false) ≡ b
or_false true = refl
or_false false = refl

module _ (ss : List SpaceRec) where
  stays_same : (to : Link) → script.stays_inside (ptr ss to) ≡ stays_within to
  stays_same (In k m) = refl
  stays_same Root = refl
  stays_same Dead = refl
  stays_same Null = refl
  stays_same (Out k) = refl
  stays_same Outside = refl

  out_same : (i : ℕ) (to : Link) → script.is_out_to i (ptr ss to) ≡ is_out i to
  out_same i (In k m) = refl
  out_same i Root = refl
  out_same i Dead = refl
  out_same i Null = refl
  out_same i (Out k) = refl
  out_same i Outside = refl

  within_same : (to : Link) → script.is_port_inside (ptr ss to) ≡ leads_within to
  within_same (In k m) = refl
  within_same Root = refl
  within_same Dead = refl
  within_same Null = refl
  within_same (Out k) = refl
  within_same Outside = refl

  in_same : (r : Rec) → script.leads_in (pictured_body ss r) ≡ leads_in r
  in_same (Mutex locked) = refl
  in_same Cond = refl
  in_same Portset = refl
  in_same (Mapping first count offset write to) = stays_same to
  in_same (Region first count write to) = stays_same to
  in_same (Port set) = refl
  in_same (Thread t) = refl
  in_same (Reference to) = stays_same to

  leads_same : (i : ℕ) (r : Rec) → script.leads_out i (pictured_body ss r) ≡ leads_out i r
  leads_same i (Mutex locked) = refl
  leads_same i Cond = refl
  leads_same i Portset = refl
  leads_same i (Mapping first count offset write to) = out_same i to ∙ sym (or_false (is_out i to))
  leads_same i (Region first count write to) = out_same i to ∙ sym (or_false (is_out i to))
  leads_same i (Port set) = refl
  leads_same i (Reference to) = out_same i to ∙ sym (or_false (is_out i to))
  leads_same i (Thread t) = λ j. talk t.talk j || fault t.fault j
    where
      talk : (t : Option TalkRec) → script.is_talk_out i (option_map (pictured_talk ss) t) ≡ talk_is_out i t
      talk None = refl
      talk (Some t) = out_same i t.port

      fault : (f : Option FaultRec) → script.is_fault_out i (option_map (pictured_fault ss) f) ≡ fault_is_out i f
      fault None = refl
      fault (Some f) = out_same i f.port

  ties_same : (r : Rec) → script.ties_inside (pictured_body ss r) ≡ ties_inside r
  ties_same (Mutex locked) = refl
  ties_same Cond = refl
  ties_same Portset = refl
  ties_same (Mapping first count offset write to) = refl
  ties_same (Region first count write to) = refl
  ties_same (Port set) = refl
  ties_same (Reference to) = refl
  ties_same (Thread t) = λ j. talk t.talk j || fault t.fault j
    where
      talk : (t : Option TalkRec) → script.is_talk_inside (option_map (pictured_talk ss) t) ≡ talk_is_within t
      talk None = refl
      talk (Some t) = within_same t.port

      fault : (f : Option FaultRec) → script.is_fault_inside (option_map (pictured_fault ss) f) ≡ fault_is_within f
      fault None = refl
      fault (Some f) = within_same f.port

  pub has_in : (n : ℕ) (s : SpaceRec) → script.has script.leads_in (room_of ss n s) ≡ list_any (λ (o : ObjectRec). leads_in o.body) s.objects
  has_in n s = any_same (λ (item : Item). script.leads_in item.body) (λ (o : ObjectRec). leads_in o.body) (item_of ss) s.objects (λ o. in_same o.body)

  pub has_out : (i n : ℕ) (s : SpaceRec) → script.has (script.leads_out i) (room_of ss n s) ≡ list_any (λ (o : ObjectRec). leads_out i o.body) s.objects
  has_out i n s = any_same (λ (item : Item). script.leads_out i item.body) (λ (o : ObjectRec). leads_out i o.body) (item_of ss) s.objects
      (λ o. leads_same i o.body)

  pub has_ties : (n : ℕ) (s : SpaceRec) → script.has script.ties_inside (room_of ss n s) ≡ list_any (λ (o : ObjectRec). ties_inside o.body) s.objects
  has_ties n s = any_same (λ (item : Item). script.ties_inside item.body) (λ (o : ObjectRec). ties_inside o.body) (item_of ss) s.objects (λ o. ties_same o.body)

  pub any_out : (i n : ℕ) (xs : List SpaceRec) → list_any (script.has (script.leads_out i)) (rooms_from ss n xs)
      ≡ list_any (λ (s : SpaceRec). list_any (λ (o : ObjectRec). leads_out i o.body) s.objects) xs
  any_out i n [] = refl
  any_out i n (s ∷ xs) = λ j. has_out i n s j || any_out i (n + 1) xs j

  -- what a test of the code says of the visits of a pass
  pub visits_in : (pass : Pass) (n : ℕ) (s : SpaceRec) (os : List ObjectRec) (r : Bool) → pass ≡ passes.Inward → os ≡ s.objects
      → r ≡ list_any (λ (o : ObjectRec). leads_in o.body) os → r ≡ visits ss pass n s
  visits_in pass n s os r is same e = e ∙ ap (list_any (λ (o : ObjectRec). leads_in o.body)) same ∙ sym (has_in n s) ∙ ap (λ p. visits ss p n s) (sym is)

  pub visits_out : (pass : Pass) (i n : ℕ) (s : SpaceRec) (os : List ObjectRec) (r : Bool) → pass ≡ passes.Outward i → os ≡ s.objects
      → r ≡ list_any (λ (o : ObjectRec). leads_out i o.body) os → r ≡ visits ss pass n s
  visits_out pass i n s os r is same e = e ∙ ap (list_any (λ (o : ObjectRec). leads_out i o.body)) same ∙ sym (has_out i n s)
      ∙ ap (λ p. visits ss p n s) (sym is)

  pub visits_ties : (pass : Pass) (n : ℕ) (s : SpaceRec) (os : List ObjectRec) (r : Bool) → pass ≡ passes.Ties → os ≡ s.objects
      → r ≡ list_any (λ (o : ObjectRec). ties_inside o.body) os → r ≡ visits ss pass n s
  visits_ties pass n s os r is same e = e ∙ ap (list_any (λ (o : ObjectRec). ties_inside o.body)) same ∙ sym (has_ties n s) ∙ ap (λ p. visits ss p n s) (sym is)
