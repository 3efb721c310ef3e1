-- Slots marked one pointer after the other.
use Rattle.std.proofs.Common.{◌≡◌, ℕ, ◌+◌, ◌<◌, Bool, true, false, ◌||◌, List, [], ◌∷◌, ◌++◌, length, take, get_or, refl, sym, ap, subst, ◌∙◌}
use Rattle.std.specs.List.{list_any, flat_map}
use Rattle.std.proofs.lemmas.List.{take_more, append-nil}
use Rattle.std.proofs.lemmas.List.Folds.{list_any-append}
use Rattle.std.proofs.lemmas.List.Concat.{flat_map-append, flat_map-cons}
use Rattle.fk_image.specs.declared.image.image.Link.{Link}
use Rattle.fk_image.specs.Image.Outs.{Marks, leads_out_at}

or-assoc : (a b c : Bool) → ((a || b) || c) ≡ (a || (b || c))
or-assoc true b c = refl
or-assoc false b c = refl

pub marks_then : (a b c : List Bool) (xs ys : List Link) → Marks a b xs → Marks b c ys → Marks a c (xs ++ ys)
marks_then a b c xs ys p q = λ slot lt.
    q slot lt
    ∙ ap (λ (u : Bool). u || list_any (leads_out_at slot) ys) (p slot lt)
    ∙ or-assoc (get_or a slot false) (list_any (leads_out_at slot) xs) (list_any (leads_out_at slot) ys)
    ∙ ap (λ (u : Bool). get_or a slot false || u) (sym (list_any-append (leads_out_at slot) xs ys))

pub marks_more : {X : Type 0} (f : X → List Link) (xs : List X) (i : ℕ) (x : X) (a b c : List Bool) →
    i < length xs → x ≡ get_or xs i x → Marks a b (flat_map f (take i xs)) → Marks b c (f x)
    → Marks a c (flat_map f (take (i + 1) xs))
marks_more {X} f xs i x a b c lt is p q =
    let one : flat_map f (get_or xs i x ∷ []) ≡ f x = flat_map-cons f (get_or xs i x) [] ∙ append-nil (f (get_or xs i x)) ∙ ap f (sym is) in
    let all : flat_map f (take (i + 1) xs) ≡ flat_map f (take i xs) ++ f x =
    ap (flat_map f) (take_more xs i x lt) ∙ flat_map-append f (take i xs) (get_or xs i x ∷ []) ∙ ap (λ (ls : List Link). flat_map f (take i xs) ++ ls) one in
    subst (λ (ls : List Link). Marks a c ls) (sym all) (marks_then a b c (flat_map f (take i xs)) (f x) p q)
