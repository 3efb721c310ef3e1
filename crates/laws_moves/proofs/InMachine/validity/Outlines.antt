-- Outlines: what an edit leaves of an object, which is its kind, its birth number and whether it is served.
use Rattle.std.proofs.Common.{◌≡◌, ℕ, Bool, true, false, if◌then◌else◌, Option, Some, None, option_map, refl, sym, ap, subst, ◌∙◌}
use Rattle.fk_model.specs.declared.names.Kind.{Kind}
use Rattle.fk_model.specs.Places.{Path, same_path, Ptr}
use Rattle.fk_model.specs.Places.Ptr.{At}
use Rattle.fk_model.specs.Objects.{Body, kind_of, port_of, and_then, holds}
use Rattle.fk_model.specs.World.{World, at_path}
use Rattle.fk_model.specs.Valid.{IsConsistent, kind_there, all_in, is_good, birth_of, birth_at, is_served_port}
use Rattle.fk_model.proofs.walks.PlaceLaws.{same_path_eq}
use Rattle.laws_moves.proofs.InMachine.validity.Ties.{Tie, body_tie, body_claim, tie_at, claim_at, AreTied, AreFacts, facts, valid-from}

pub record Outline : Type 0 where
  pub kind : Kind
  pub birth : Option ℕ
  pub served : Bool

abbrev pub is_served : Body → Bool
is_served b = holds (λ (port : Option ℕ × Bool). port.1) (port_of b)

abbrev pub outline_of : Body → Outline
outline_of b = record { kind = kind_of b; birth = birth_of b; served = is_served b }

pub outline-kind : (o : Option Body) → option_map kind_of o ≡ option_map (λ (f : Outline). f.kind) (option_map outline_of o)
outline-kind None = refl
outline-kind (Some b) = refl

pub outline-birth : (o : Option Body) → and_then birth_of o ≡ and_then (λ (f : Outline). f.birth) (option_map outline_of o)
outline-birth None = refl
outline-birth (Some b) = refl

pub outline-served : (o : Option Body) →
    holds (λ (port : Option ℕ × Bool). port.1) (and_then port_of o) ≡ holds (λ (f : Outline). f.served) (option_map outline_of o)
outline-served None = refl
outline-served (Some b) = refl

module _ (w v : World) (same : (q : Path) → option_map outline_of (v.body q) ≡ option_map outline_of (w.body q)) where
  pub same_kinds : kind_there v ≡ kind_there w
  unfolding kind_there
  same_kinds = λ i q. (outline-kind (v.body q) ∙ ap (option_map (λ (f : Outline). f.kind)) (same q) ∙ sym (outline-kind (w.body q))) i

  pub same_births : birth_at v ≡ birth_at w
  same_births = λ i q. (outline-birth (v.body q) ∙ ap (and_then (λ (f : Outline). f.birth)) (same q) ∙ sym (outline-birth (w.body q))) i

  served_alike : (p : Ptr) → is_served_port v p ≡ is_served_port w p
  served_alike (At q) = outline-served (v.body q) ∙ ap (holds (λ (f : Outline). f.served)) (same q) ∙ sym (outline-served (w.body q))
  served_alike p = refl

  pub same_served : is_served_port v ≡ is_served_port w
  same_served = λ i p. served_alike p i

-- a value put at one path
abbrev pub put : {A : Type 0} → Path → A → (Path → A) → Path → A
put x u a q = if same_path q x then u else a q

pub put_at : {A : Type 0} (x : Path) (h : Option Body → A) (f : Option Body → Option Body) (body : Path → Option Body) (q : Path) →
    h (if same_path q x then f (body q) else body q) ≡ put x (h (f (body x))) (λ q. h (body q)) q
put_at x h f body q = by (same_path q x) refl
  where
    by : (b : Bool) → same_path q x ≡ b → h (if b then f (body q) else body q) ≡ (if b then h (f (body x)) else h (body q))
    by true e = let same = same_path_eq q x e in rw same refl
    by false e = refl

pub same_facts : {n : ℕ} (k l : Path → Option Kind) (b c : Path → Option ℕ) (s t : Ptr → Bool) (x y z u : Path → Option Tie) →
    k ≡ l → b ≡ c → s ≡ t → x ≡ y → z ≡ u → AreFacts k b n s x z → AreFacts l c n t y u
same_facts k l b c s t x y z u e f g p q h = rw (← e, ← f, ← g, ← p, ← q) h

-- the body at one path is changed to one with the same outline
pub valid-at : (w : World) (x : Path) (f : Body → Body) → ((b : Body) → outline_of (f b) ≡ outline_of b) →
    ((b : Body) → w.body x ≡ Some b → is_good (kind_there w) x b ≡ true → is_good (kind_there w) x (f b) ≡ true) →
    AreTied (is_served_port w) (put x (body_tie (option_map f (w.body x))) (tie_at w)) (put x (body_claim (option_map f (w.body x))) (claim_at w)) →
    IsConsistent w → IsConsistent (at_path x (option_map f) w)
valid-at w x f outlined keeps tied valid =
    valid-from v (same_facts (kind_there w) (kind_there v) (birth_at w) (birth_at v) (is_served_port w)
    (is_served_port v) _ (tie_at v) _ (claim_at v) (sym kinds) (sym (same_births w v same)) (sym (same_served w v same)) (sym ties) (sym claims) old)
    (λ q. subst (λ (k : Path → Option Kind). all_in (is_good k q) (v.body q) ≡ true) (sym kinds) (good q (same_path q x) refl))
  where
    v : World
    v = at_path x (option_map f) w

    outlines : (o : Option Body) → option_map outline_of (option_map f o) ≡ option_map outline_of o
    outlines None = refl
    outlines (Some b) = ap Some (outlined b)

    same : (q : Path) → option_map outline_of (v.body q) ≡ option_map outline_of (w.body q)
    same q = by (same_path q x)
      where
        by : (b : Bool) → option_map outline_of (if b then option_map f (w.body q) else w.body q) ≡ option_map outline_of (w.body q)
        by true = outlines (w.body q)
        by false = refl

    kinds : kind_there v ≡ kind_there w
    kinds = same_kinds w v same

    ties : tie_at v ≡ put x (body_tie (option_map f (w.body x))) (tie_at w)
    ties = λ i q. put_at x body_tie (option_map f) w.body q i

    claims : claim_at v ≡ put x (body_claim (option_map f (w.body x))) (claim_at w)
    claims = λ i q. put_at x body_claim (option_map f) w.body q i

    old : AreFacts (kind_there w) (birth_at w)
        w.next (is_served_port w) (put x (body_tie (option_map f (w.body x))) (tie_at w)) (put x (body_claim (option_map f (w.body x))) (claim_at w))
    old = let f = facts w valid in record { parents = f.parents; apart = f.apart; born = f.born; tied = tied }

    good_there : (o : Option Body) → w.body x ≡ o → all_in (is_good (kind_there w) x) o ≡ true → all_in (is_good (kind_there w) x) (option_map f o) ≡ true
    good_there None e h = refl
    good_there (Some b) e h = keeps b e h

    good : (q : Path) (b : Bool) → same_path q x ≡ b → all_in (is_good (kind_there w) q) (if b then option_map f (w.body q) else w.body q) ≡ true
    good q true e = let here = same_path_eq q x e in rw here (good_there (w.body x) refl (valid.good x))
    good q false e = valid.good q

-- what is put there is what was there
pub put_kept : {A : Type 0} (x : Path) (u : A) (a : Path → A) → u ≡ a x → put x u a ≡ a
put_kept x u a e = λ i q. at q i
  where
    at : (q : Path) → put x u a q ≡ a q
    at q = by (same_path q x) refl
      where
        by : (b : Bool) → same_path q x ≡ b → (if b then u else a q) ≡ a q
        by true g = let here = same_path_eq q x g in rw here e
        by false g = refl

-- and its tie and its claim stay too
pub valid-at_quiet : (w : World) (x : Path) (f : Body → Body) → ((b : Body) → outline_of (f b) ≡ outline_of b) →
    ((b : Body) → body_tie (Some (f b)) ≡ body_tie (Some b)) → ((b : Body) → body_claim (Some (f b)) ≡ body_claim (Some b)) →
    ((b : Body) → w.body x ≡ Some b → is_good (kind_there w) x b ≡ true → is_good (kind_there w) x (f b) ≡ true) →
    IsConsistent w → IsConsistent (at_path x (option_map f) w)
valid-at_quiet w x f outlined tied claimed keeps valid = valid-at w x f outlined keeps (rw (ties, claims) (facts w valid).tied) valid
  where
    kept : {A : Type 0} (h : Option Body → A) → ((b : Body) → h (Some (f b)) ≡ h (Some b)) → (o : Option Body) → h (option_map f o) ≡ h o
    kept h same None = refl
    kept h same (Some b) = same b

    ties : put x (body_tie (option_map f (w.body x))) (tie_at w) ≡ tie_at w
    ties = put_kept x _ (tie_at w) (kept body_tie tied (w.body x))

    claims : put x (body_claim (option_map f (w.body x))) (claim_at w) ≡ claim_at w
    claims = put_kept x _ (claim_at w) (kept body_claim claimed (w.body x))
