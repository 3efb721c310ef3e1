-- Formed: what the walk over pointers tells is the first place where one is wrong, and an image is valid exactly where it has the form.
use Rattle.std.proofs.Common.{◌≡◌, ℕ, ◌+◌, Bool, true, false, ◌&&◌, List, [], Option, Some, None, Result, Ok, Err, refl, sym, ap, subst, ◌∙◌, arith}
use Rattle.std.specs.List.{sum_by}
use Rattle.fk_image.specs.declared.image.image.Link.{Link}
use Rattle.fk_image.specs.declared.image.image.Link.TheVariants.{In}
use Rattle.fk_image.specs.declared.image.image.ObjectRec.{ObjectRec}
use Rattle.fk_image.specs.declared.image.image.SpaceRec.{SpaceRec}
use Rattle.fk_image.specs.Image.Links.{is_set_of, all_lead}
use Rattle.fk_image.specs.Image.Valid.{fits_spaces, is_valid}
use Rattle.fk_image.specs.Format.Fields.{◌>>=◌}
use Rattle.fk_image.specs.Format.Offsets.{Named, nobody, offset_of, wrong_in}
use Rattle.fk_image.specs.Form.Order.{AreInOrder}
use Rattle.fk_image.specs.Form.Holding.{PointerField}
use Rattle.fk_image.specs.Form.Holding.PointerField.{Holder, Server}
use Rattle.fk_image.specs.Form.Standing.{ObjectAt, PointerAt, IsWrongAt, IsFirstWrong, AllRight, space_size}
use Rattle.fk_image.specs.Form.Standing.PointerAt.{OfSpace, OfObject}
use Rattle.fk_image.specs.Form.Standing.IsWrongAt.{Leads, Again, BadSet}
use Rattle.fk_image.specs.Form.Formed.{IsFormed}
use Rattle.fk_image.proofs.InFormat.Basics.{both, and2}
use Rattle.fk_image.proofs.InFormat.Leads.{none_wrong, leads_right}
use Rattle.laws_image_faults.specs.Formed.{ValidIsFormed, WrongIsFirst}
use Rattle.laws_image_faults.proofs.Paths.{not-both}
use Rattle.laws_image_faults.proofs.Spaces.{spaces-formed, formed-fits}
use Rattle.laws_image_faults.proofs.Holding.{may, may-hold, hold-may, set-may, may-set}
use Rattle.laws_image_faults.proofs.Events.{What, Event, right, judge, event, spaces_events, walk_at, spaces-go}
use Rattle.laws_image_faults.proofs.Events.What.{Points, Sets}
use Rattle.laws_image_faults.proofs.Judged.{Among, Bad, Told, told}
use Rattle.laws_image_faults.proofs.Judged.Bad.{NotRight, Twice}
use Rattle.laws_image_faults.proofs.Places.{StandsIn, Stands, event-stands, stands-event, spaces-rise}
use Rattle.laws_image_faults.proofs.Places.StandsIn.{InPointer, InSet}
use Rattle.laws_image_faults.proofs.Places.Stands.{OfHolder, OfBody}

module _ (spaces : List SpaceRec) (order : AreInOrder spaces) where
  abbrev events : List Event
  events = spaces_events 0 spaces 14

  -- ---- what stands

  pointer-stands : (at : ℕ) (f : PointerField) (to : Link) → PointerAt spaces at f to → Stands spaces at (Points f to)
  pointer-stands _ _ _ (OfSpace start number s there) = OfHolder start number s there
  pointer-stands _ _ _ (OfObject start behind s o f to there has) = OfBody start behind s o (Points f to) there (InPointer behind f to has)

  field_or : PointerField → What → PointerField
  field_or f (Points g to) = g
  field_or f (Sets objects set) = f

  link_or : Link → What → Link
  link_or to (Points g other) = other
  link_or to (Sets objects set) = to

  same-field : (f g : PointerField) (to other : Link) → Points f to ≡ Points g other → f ≡ g
  unfolding field_or
  same-field f g to other is = ap (field_or f) is

  same-link : (f g : PointerField) (to other : Link) → Points f to ≡ Points g other → to ≡ other
  unfolding link_or
  same-link f g to other is = ap (link_or to) is

  stands-in : (start behind : ℕ) (s : SpaceRec) (o : ObjectRec) (what : What) (f : PointerField) (to : Link) → ObjectAt spaces start s o
      → what ≡ Points f to → StandsIn s.objects o.body behind what → PointerAt spaces (start + behind) f to
  stands-in start _ s o _ f to there is (InPointer behind g other has) =
      subst (λ h. PointerAt spaces (start + behind) h to) (same-field g f other to is)
      (subst (λ l. PointerAt spaces (start + behind) g l) (same-link g f other to is) (OfObject start behind s o g other there has))
  stands-in start _ s o _ f to there is (InSet set body) = absurd cc

  stands-pointer : (at : ℕ) (what : What) (f : PointerField) (to : Link) → what ≡ Points f to → Stands spaces at what → PointerAt spaces at f to
  stands-pointer _ _ f to is (OfHolder start number s there) =
      subst (λ h. PointerAt spaces (start + 5) h to) (same-field (Holder number) f s.holder to is)
      (subst (λ l. PointerAt spaces (start + 5) (Holder number) l) (same-link (Holder number) f s.holder to is) (OfSpace start number s there))
  stands-pointer _ _ f to is (OfBody start behind s o what there stands) = stands-in start behind s o what f to there is stands

  pointer-there : (at : ℕ) (f : PointerField) (to : Link) → Among (event at (Points f to)) events → PointerAt spaces at f to
  pointer-there at f to m = stands-pointer at (Points f to) f to refl (event-stands spaces (event at (Points f to)) m)

  there-pointer : (at : ℕ) (f : PointerField) (to : Link) → PointerAt spaces at f to → Among (event at (Points f to)) events
  there-pointer at f to p = stands-event spaces at (Points f to) (pointer-stands at f to p)

  -- ---- what is wrong

  set-of : What → List ObjectRec × ℕ
  set-of (Sets objects set) = (objects, set)
  set-of (Points f to) = ([], 0)

  set-wrong : (start behind : ℕ) (s : SpaceRec) (o : ObjectRec) (what : What) (objects : List ObjectRec) (set : ℕ)
      → ObjectAt spaces start s o → what ≡ Sets objects set
      → StandsIn s.objects o.body behind what → is_set_of objects set ≡ false → IsWrongAt spaces (start + behind)
  unfolding set-of
  set-wrong start _ s o _ objects set there is (InPointer behind f to has) off = absurd cc
  set-wrong start _ s o _ objects set there is (InSet other body) off =
      let pair = ap set-of is in
      BadSet start other s o there body (λ may. not-both (is_set_of s.objects other) (may-set s.objects other may)
      (ap (λ (p : List ObjectRec × ℕ). is_set_of p.0 p.1) pair ∙ off))

  set-bad : (at : ℕ) (what : What) (objects : List ObjectRec) (set : ℕ) → what ≡ Sets objects set → Stands spaces at what → is_set_of objects set ≡ false
      → IsWrongAt spaces at
  set-bad _ _ objects set is (OfHolder start number s there) off = absurd cc
  set-bad _ _ objects set is (OfBody start behind s o what there stands) off = set-wrong start behind s o what objects set there is stands off

  bad-wrong : (at : ℕ) → Bad spaces events at → IsWrongAt spaces at
  bad-wrong at (NotRight _ (Points f to) m off) =
      Leads at f to (pointer-there at f to m) (λ holds. not-both (may spaces f to) (hold-may spaces order f to holds) off)
  bad-wrong at (NotRight _ (Sets objects set) m off) = set-bad at (Sets objects set) objects set refl (event-stands spaces (event at (Sets objects set)) m) off
  bad-wrong at (Twice earlier _ slot n port other one lt two) =
      Again earlier at slot n port other (pointer-there earlier (Server port) (In slot n) one) lt (pointer-there at (Server other) (In slot n) two)

  isnt : (b : Bool) → (b ≡ true → ⊥) → b ≡ false
  isnt true no-way = absurd (no-way refl)
  isnt false no-way = refl

  wrong-bad : (at : ℕ) → IsWrongAt spaces at → Bad spaces events at
  wrong-bad _ (Leads at f to there wrong) =
      NotRight at (Points f to) (there-pointer at f to there) (isnt (may spaces f to) (λ right. wrong (may-hold spaces order f to right)))
  wrong-bad _ (Again earlier at slot n port other one lt two) =
      Twice earlier at slot n port other (there-pointer earlier (Server port) (In slot n) one) lt (there-pointer at (Server other) (In slot n) two)
  wrong-bad _ (BadSet start set s o there is wrong) =
      NotRight (start + 2) (Sets s.objects set)
      (stands-event spaces (start + 2) (Sets s.objects set) (OfBody start 2 s o (Sets s.objects set) there (InSet set is)))
      (isnt (is_set_of s.objects set) (λ right. wrong (set-may s.objects set right)))

  -- ---- the walk

  abbrev Says : Option ℕ → Type 0
  Says (Some offset) = IsFirstWrong spaces offset
  Says None = AllRight spaces

  says : (r : Result Named ℕ) → Told spaces events r → Says (offset_of (r >>= λ (n : Named). Ok (walk_at (14 + sum_by space_size spaces) n)))
  says (Ok named) told = λ offset wrong. told offset (wrong-bad offset wrong)
  says (Err offset) told = record { wrong = bad-wrong offset told.0; first = λ other wrong. told.1 other (wrong-bad other wrong) }

  walk-says : Says (wrong_in spaces)
  unfolding wrong_in
  walk-says = subst (λ r. Says (offset_of r)) (sym (spaces-go spaces 0 spaces 14 nobody))
      (says (judge spaces events nobody) (told spaces 14 (14 + sum_by space_size spaces) events (spaces-rise 0 spaces 14)))

  one-first : (a b : ℕ) → IsFirstWrong spaces a → IsFirstWrong spaces b → a ≡ b
  one-first a b p q = let le = p.first b q.wrong in let ge = q.first a p.wrong in omega (arith, le, ge)

  wrong-some : (o : Option ℕ) → Says o → (offset : ℕ) → IsFirstWrong spaces offset → o ≡ Some offset
  wrong-some None right offset first = absurd (right offset first.wrong)
  wrong-some (Some other) there offset first = ap Some (one-first other offset there first)

  wrong-none : (o : Option ℕ) → Says o → AllRight spaces → o ≡ None
  wrong-none None none right = refl
  wrong-none (Some other) first right = absurd (right other first.wrong)

pub wrong-first : WrongIsFirst
wrong-first spaces order = (
  (λ offset. (
    (λ is. subst (Says spaces order) is (walk-says spaces order)),
    (λ first. wrong-some spaces order (wrong_in spaces) (walk-says spaces order) offset first),
  )),
  ((λ is. subst (Says spaces order) is (walk-says spaces order)), (λ right. wrong-none spaces order (wrong_in spaces) (walk-says spaces order) right)),
)

pub valid-formed : ValidIsFormed
unfolding is_valid
valid-formed i = (to, from)
  where
    to : (fits_spaces i.spaces && all_lead i.spaces) ≡ true → IsFormed i
    to valid =
        let parts = and2 (fits_spaces i.spaces) (all_lead i.spaces) valid in
        let spaces = spaces-formed i.spaces parts.0 in
        record { spaces = spaces; pointers = (wrong-first i.spaces spaces.order).1.0 (leads_right i.spaces parts.1) }

    from : IsFormed i → (fits_spaces i.spaces && all_lead i.spaces) ≡ true
    from formed = both (fits_spaces i.spaces) (all_lead i.spaces) (formed-fits i.spaces formed.spaces)
        (none_wrong i.spaces ((wrong-first i.spaces formed.spaces.order).1.1 formed.pointers))
