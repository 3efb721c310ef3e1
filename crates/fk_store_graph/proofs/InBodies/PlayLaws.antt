-- PlayLaws: who plays a part is told of it, or leads there.
use Rattle.std.proofs.Common.{◌≡◌, ℕ, ◌+◌, ◌<◌, ltb, Bool, true, false, Option, Some, None, IsSome, IfSome}
use Rattle.std.proofs.Common.{is_some, refl, sym, ap, subst, ◌∙◌, arith}
use Rattle.std.proofs.lemmas.Bool.Decides.{nat_tests}
use Rattle.std.specs.FinMap.{get}
use Rattle.fk_model.specs.declared.names.Who.{Who}
use Rattle.fk_model.specs.declared.body.Body.{Body}
use Rattle.fk_store_graph.specs.Linked.Leads.{lead_by}
use Rattle.fk_store_graph.specs.Linked.Shapes.{Entry}
use Rattle.fk_store_graph.specs.Linked.Shapes.{Told}
use Rattle.fk_store_graph.specs.Linked.Shapes.{Nobody, One}
use Rattle.fk_store_graph.specs.Linked.Filed.{Filed, IsFiled, entry_under, key_of}
use Rattle.fk_store_graph.specs.Linked.Bodied.{body_under, bodies, Tells, told_by, AreThere, AreTold}
use Rattle.fk_store_graph.specs.Linked.Parts.{plays, whose, sort_of}
use Rattle.fk_store_graph.specs.Bodies.Playing.{IsPlayer, NobodyPlays}
use Rattle.fk_store_graph.specs.Linked.Shapes.{Part}
use Rattle.fk_store_graph.proofs.InLinked.BodyLaws.{name-of, body-of, no-body, get_at, get_under, entry_there}
use Rattle.fk_store_graph.proofs.InLinked.PointerLaws.{plays-led}

-- ---- by keys

pub none_is : {A : Type 0} (o : Option A) → is_some o ≡ false → o ≡ None
none_is None h = refl
none_is (Some a) h = absurd (cc)

-- the object of an entry plays it, or doesn't
pub player : (o : Filed) (part : Part) (key : ℕ) (e : Entry) → Some e ≡ entry_under o key → plays part e.body ≡ true → IsPlayer o part e.who
player o part key e there on = record {
  key = key;
  body = e.body;
  named = name-of o key e (sym there);
  there = body-of o key e (sym there);
  playing = on;
}

pub no_player : (o : Filed) (part : Part) (key : ℕ) (e : Entry) → Some e ≡ entry_under o key → plays part e.body ≡ false →
    (b : Body) → body_under o key ≡ Some b → plays part b ≡ false
no_player o part key e there off b is =
    let here = body-of o key e (sym there) in
    let same : e.body ≡ b = cc in
    ap (plays part) (sym same) ∙ off

pub nothing_plays : (o : Filed) (part : Part) (key : ℕ) → None ≡ entry_under o key → (b : Body) → body_under o key ≡ Some b → plays part b ≡ false
nothing_plays o part key none b is = let gone = no-body o key (sym none) in absurd (cc)

-- ---- those who are told

module _ (o : Filed) (part : Part) (told : Told) (all : (j : ℕ) (b : Body) → body_under o j ≡ Some b → plays part b ≡ true → Tells told j) where
  pub nobody_told : told ≡ Nobody → NobodyPlays o part
  nobody_told is j b there = by (plays part b) refl
    where
      by : (t : Bool) → plays part b ≡ t → t ≡ false
      by false e = refl
      by true e = absurd (subst (λ x. Tells x j) is (all j b there e))

  pub one_told : (other : ℕ) → told ≡ One other → ((b : Body) → body_under o other ≡ Some b → plays part b ≡ false) → NobodyPlays o part
  one_told other is off j b there = by (plays part b) refl
    where
      by : (t : Bool) → plays part b ≡ t → t ≡ false
      by false e = refl
      by true e =
          let same : other ≡ j = subst (λ x. Tells x j) is (all j b there e) in
          let none = off b (ap (body_under o) same ∙ there) in
          absurd (let both = sym e ∙ none in cc)

-- ---- those with keys

module _ (o : Filed) (part : Part) where
  -- those with keys so far
  pub none_so_far : (key : ℕ) → ((j : ℕ) (b : Body) → j < key → body_under o j ≡ Some b → plays part b ≡ false) →
      ((b : Body) → body_under o key ≡ Some b → plays part b ≡ false) → (j : ℕ) (b : Body) → j < key + 1 → body_under o j ≡ Some b → plays part b ≡ false
  none_so_far key so_far here j b low there = by (ltb j key) refl
    where
      by : (t : Bool) → ltb j key ≡ t → plays part b ≡ false
      by true e = so_far j b (grind (arith, nat_tests)) there
      by false e = let is : j ≡ key = grind (arith, nat_tests) in here b (ap (body_under o) (sym is) ∙ there)

  pub none_at_all : (bound key : ℕ) → bound ≡ key → ((j : ℕ) → IsSome (entry_under o j) → j < bound) →
      ((j : ℕ) (b : Body) → j < key → body_under o j ≡ Some b → plays part b ≡ false) → NobodyPlays o part
  none_at_all bound key is low so_far j b there = by (entry_under o j) refl
    where
      by : (x : Option Entry) → entry_under o j ≡ x → plays part b ≡ false
      by None e = let gone = no-body o j e in absurd (cc)
      by (Some d) e = let below = low j (ap is_some e) in so_far j b (omega (arith, below, is)) there

-- ---- by names

module _ (o : Filed) (filed : IsFiled o) (part : Part) where
  pub player_found : (r : Option Who) → IfSome r (IsPlayer o part) → IfSome r (λ who. (b : Body) × (get (bodies o) who ≡ Some b) × (plays part b ≡ true))
  player_found None h = tt
  player_found (Some who) h = (h.body, get_at o who h.key (filed.found h.key who h.named) ∙ h.there, h.playing)

  pub nobody_found : NobodyPlays o part → (who : Who) (b : Body) → get (bodies o) who ≡ Some b → plays part b ≡ false
  nobody_found none who b there = let found = get_under o who b there in none found.0 b found.2

  -- where it isn't played for anybody
  pub nobody_there : AreThere o → None ≡ key_of o (whose part) → NobodyPlays o part
  nobody_there leads none j b there = by (plays part b) refl
    where
      by : (t : Bool) → plays part b ≡ t → t ≡ false
      by false e = refl
      by true e =
          let found = plays-led part b e in
          let some = leads j b found.0 (lead_by (sort_of part) (whose part)) there found.1 in
          absurd (let gone = ap is_some none in cc)

  -- those who play it are told of
  pub players_told : AreTold o → (key : ℕ) → Some key ≡ key_of o (whose part) → (told : Told) →
      ((e : Entry) → entry_under o key ≡ Some e → told ≡ told_by (sort_of part) e.hints) →
      (j : ℕ) (b : Body) → body_under o j ≡ Some b → plays part b ≡ true → Tells told j
  players_told told_all key here told is j b there on =
      let found = plays-led part b on in
      let entry = entry_there o (whose part) key filed (sym here) in
      subst (λ t. Tells t j) (sym (is entry.0 entry.1))
      (told_all j b found.0 (lead_by (sort_of part) (whose part)) there found.1 key entry.0 (sym here) entry.1)
