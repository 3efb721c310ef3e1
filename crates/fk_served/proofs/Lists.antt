-- Lists of servers, one after the other.
use Rattle.std.proofs.Common.{◌≡◌, ℕ, zero, suc, ◌+◌, ◌<◌, ◌≤◌, Bool, true, false, List, [], ◌∷◌, ◌++◌, append_assoc, length, get_or, take, drop, map}
use Rattle.std.proofs.Common.{slice_set, Option, Some, None, refl, sym, ap, ◌∙◌, arith, add-one}
use Rattle.std.proofs.Math.Seq.{drop-cons, map-set_same}
use Rattle.std.proofs.lemmas.List.{drop-set-lt, map-append, take_all}
use Rattle.std.proofs.lemmas.List.Elements.{All-head, All-tail, All-push}
use Rattle.std.specs.List.{All}
use Rattle.fk_model.specs.declared.moves.Rule.{Rule}
use Rattle.fk_model.specs.declared.moves.Said as says_of
use Rattle.fk_model.specs.declared.names.Who.{Who}
use Rattle.fk_natives.specs.declared.service.Side.TheVariants as sides
use Rattle.fk_natives.specs.Natives.{State, asks_at, gives_left, left_of, side_of}
use Rattle.fk_store.specs.Store.Names.{same_who}
use Rattle.std.proofs.Math.ListN.{drop_of_length-le}
use Rattle.fk_served.specs.Served.{Services, shown, told, AllFit, HaveRoom, after_news, news_to, serving, asked_of}

-- what is told changes nothing where nobody is told anything
pub untold : (said : says_of.Said) (ended : Option Who) → ((who : Who) → news_to said ended who ≡ None) → (services : Services)
    → services ≡ map (told said ended) services
untold said ended none [] = refl
untold said ended none (e ∷ es) =
    let here : e ≡ told said ended e = ap (λ news. (e.0, after_news news e.1)) (sym (none e.0)) in
    ap (λ x. x ∷ es) here ∙ ap (λ xs. told said ended e ∷ xs) (untold said ended none es)

-- the front of a list with one more that is new
taken : {X : Type 0} (xs : List X) (i : ℕ) (y : X) → i < length xs → take (suc i) (slice_set xs i y) ≡ take i xs ++ y ∷ []
taken [] i y h = absurd (omega (arith, h))
taken (x ∷ xs) zero y h = refl
taken (x ∷ xs) (suc i) y h = ap (λ zs. x ∷ zs) (taken xs i y (omega (arith, h)))

-- a server at its own turn gives what it has left
pub asks_left : (o : Option State) (state : State) (left : List ℕ) → Some state ≡ o → sides.Own ≡ side_of state → left ≡ left_of state
    → asked_of o ≡ Some (gives_left left)
asks_left o state left is own rest =
    ap asked_of (sym is) ∙ (ap (λ side. asks_at side (left_of state)) (sym own) ∙ ap (λ words. Some (gives_left words)) (sym rest))

-- ---- the server of a port is sought one after the other

module _ {S : Type 0} (meaning : S → State) where
  pub served-here : (xs : List (Who × S)) (i : ℕ) (x : Who × S) (who : Who) → i < length xs → x ≡ get_or xs i x → same_who x.0 who ≡ true
      → serving (shown meaning (drop i xs)) who ≡ Some (meaning x.1)
  unfolding serving
  served-here xs i x who h is same =
      let rest : drop i xs ≡ x ∷ drop (suc i) xs = drop-cons xs i x h ∙ ap (λ y. y ∷ drop (suc i) xs) (sym is) in
      rw (rest, same) refl

  pub served-next : (xs : List (Who × S)) (i : ℕ) (x : Who × S) (who : Who) → i < length xs → x ≡ get_or xs i x → same_who x.0 who ≡ false
      → serving (shown meaning (drop (i + 1) xs)) who ≡ serving (shown meaning (drop i xs)) who
  unfolding serving
  served-next xs i x who h is other =
      let rest : drop i xs ≡ x ∷ drop (suc i) xs = drop-cons xs i x h ∙ ap (λ y. y ∷ drop (suc i) xs) (sym is) in
      rw (rest, other, add-one) refl

  pub served-none : (xs : List (Who × S)) (i : ℕ) (who : Who) → length xs ≤ i → serving (shown meaning (drop i xs)) who ≡ None
  unfolding serving
  served-none xs i who h = rw (drop_of_length-le xs h) refl

  -- ---- one after the other hears

  -- a server that is shown as it was changes nothing
  pub shown-set : (xs : List (Who × S)) (i : ℕ) (x y : Who × S) → x ≡ get_or xs i x → y.0 ≡ x.0 → meaning y.1 ≡ meaning x.1
      → shown meaning (slice_set xs i y) ≡ shown meaning xs
  shown-set xs i x y is who same = map-set_same (λ e. (e.0, meaning e.1)) xs i y x (ap (λ k. (k, meaning y.1)) who
      ∙ (ap (λ m. (x.0, m)) same ∙ ap (λ e. (e.0, meaning e.1)) is))

  pub told-set : (f : Who × State → Who × State) (xs : List (Who × S)) (i : ℕ) (x y : Who × S) → i < length xs → x ≡ get_or xs i x
      → (y.0, meaning y.1) ≡ f (x.0, meaning x.1) → (t : Services)
      → shown meaning (take i xs) ++ map f (shown meaning (drop i xs)) ≡ t
      → shown meaning (take (i + 1) (slice_set xs i y)) ++ map f (shown meaning (drop (i + 1) (slice_set xs i y))) ≡ t
  told-set f xs i x y h is heard t left =
      let rest : drop i xs ≡ x ∷ drop (suc i) xs = drop-cons xs i x h ∙ ap (λ y. y ∷ drop (suc i) xs) (sym is) in
      let front : take (i + 1) (slice_set xs i y) ≡ take i xs ++ y ∷ [] = ap (λ n. take n (slice_set xs i y)) (add-one i) ∙ taken xs i y h in
      let back : drop (i + 1) (slice_set xs i y) ≡ drop (suc i) xs = drop-set-lt (i + 1) xs i y (omega arith) ∙ ap (λ n. drop n xs) (add-one i) in
      rw (front, back) (rw (map-append, append_assoc, heard) (rw rest at left))

  pub room-here : (has : S → Bool) (xs : List (Who × S)) (i : ℕ) (x : Who × S) → i < length xs → x ≡ get_or xs i x → HaveRoom has (drop i xs) → has x.1 ≡ true
  room-here has xs i x h is room =
      let rest : drop i xs ≡ x ∷ drop (suc i) xs = drop-cons xs i x h ∙ ap (λ y. y ∷ drop (suc i) xs) (sym is) in
      All-head (λ e. has e.1 ≡ true) x (drop (suc i) xs) (rw rest at room)

  pub room-next : (has : S → Bool) (xs : List (Who × S)) (i : ℕ) (x y : Who × S) → i < length xs → x ≡ get_or xs i x → HaveRoom has (drop i xs)
      → HaveRoom has (drop (i + 1) (slice_set xs i y))
  room-next has xs i x y h is room =
      let rest : drop i xs ≡ x ∷ drop (suc i) xs = drop-cons xs i x h ∙ ap (λ y. y ∷ drop (suc i) xs) (sym is) in
      let back : drop (i + 1) (slice_set xs i y) ≡ drop (suc i) xs = drop-set-lt (i + 1) xs i y (omega arith) ∙ ap (λ n. drop n xs) (add-one i) in
      rw back (All-tail (λ e. has e.1 ≡ true) x (drop (suc i) xs) (rw rest at room))

  pub for-here : (P : Who × S → Type 0) (xs : List (Who × S)) (i : ℕ) (x : Who × S) → i < length xs → x ≡ get_or xs i x → All P (drop i xs) → P x
  for-here P xs i x h is all =
      let rest : drop i xs ≡ x ∷ drop (suc i) xs = drop-cons xs i x h ∙ ap (λ y. y ∷ drop (suc i) xs) (sym is) in
      All-head P x (drop (suc i) xs) (rw rest at all)

  pub for-next : (P : Who × S → Type 0) (xs : List (Who × S)) (i : ℕ) (x y : Who × S) → i < length xs → x ≡ get_or xs i x → All P (drop i xs)
      → All P (drop (i + 1) (slice_set xs i y))
  for-next P xs i x y h is all =
      let rest : drop i xs ≡ x ∷ drop (suc i) xs = drop-cons xs i x h ∙ ap (λ y. y ∷ drop (suc i) xs) (sym is) in
      let back : drop (i + 1) (slice_set xs i y) ≡ drop (suc i) xs = drop-set-lt (i + 1) xs i y (omega arith) ∙ ap (λ n. drop n xs) (add-one i) in
      rw back (All-tail P x (drop (suc i) xs) (rw rest at all))

  pub fits-next : (rules : List Rule) (xs : List (Who × S)) (i : ℕ) (x y : Who × S) → i < length xs → x ≡ get_or xs i x
      → AllFit rules (shown meaning (drop i xs))
      → AllFit rules (shown meaning (drop (i + 1) (slice_set xs i y)))
  fits-next rules xs i x y h is fits =
      let rest : drop i xs ≡ x ∷ drop (suc i) xs = drop-cons xs i x h ∙ ap (λ y. y ∷ drop (suc i) xs) (sym is) in
      let back : drop (i + 1) (slice_set xs i y) ≡ drop (suc i) xs = drop-set-lt (i + 1) xs i y (omega arith) ∙ ap (λ n. drop n xs) (add-one i) in
      rw back (rw rest at fits).1

  pub room-more : (has : S → Bool) (xs : List (Who × S)) (i : ℕ) (y : Who × S) → i < length xs → has y.1 ≡ true → HaveRoom has (take i xs)
      → HaveRoom has (take (i + 1) (slice_set xs i y))
  room-more has xs i y h some room = rw (ap (λ n. take n (slice_set xs i y)) (add-one i) ∙ taken xs i y h)
      (All-push (λ e. has e.1 ≡ true) (take i xs) y room some)

  pub room-all : (has : S → Bool) (xs : List (Who × S)) (i : ℕ) → length xs ≤ i → HaveRoom has (take i xs) → HaveRoom has xs
  room-all has xs i h room = rw (take_all i xs h) at room
