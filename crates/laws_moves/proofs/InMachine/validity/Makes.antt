-- A new object in an empty slot of a space keeps a world valid.
use Rattle.std.proofs.Common.{◌≡◌, ℕ, ◌+◌, ◌<◌, Bool, true, false, if◌then◌else◌, IsSome, is_none, List, [], ◌∷◌, Option, Some, None, option_map, refl, sym, ap}
use Rattle.std.proofs.Common.{subst, arith, ne_eqb, ◌∙◌}
use Rattle.std.proofs.lemmas.Bool.{and_parts, and_from}
use Rattle.fk_model.specs.declared.names.Kind.{Kind}
use Rattle.fk_model.specs.declared.names.Kind.TheVariants as kinds
use Rattle.fk_model.specs.Places.{Path, same_path, Ptr}
use Rattle.fk_model.specs.Places.Ptr.{At}
use Rattle.fk_model.specs.Objects.{Peer, Talk, Fault, Body, kind_of, port_of, and_then, holds}
use Rattle.fk_model.specs.Objects.Peer.{Server}
use Rattle.fk_model.specs.Objects.Body.{Mutex, Cond, Mapping, Region, Port, Portset, Space, Thread_of, Reference}
use Rattle.fk_model.specs.World.{World, apply, set_at, birth_after}
use Rattle.fk_model.specs.World.Change.{Make, MakeSpace}
use Rattle.fk_model.specs.StateRows.{referable}
use Rattle.fk_model.specs.Valid.{IsConsistent, kind_there, is_one_of, leads_there, may_lead, all_in, is_good, is_good_peer, is_good_talk, is_good_fault}
use Rattle.fk_model.specs.Valid.{is_good_set, birth_of, birth_at, is_served_port}
use Rattle.fk_model.proofs.walks.PlaceLaws.{same_path_eq, same_path_above}
use Rattle.laws_moves.proofs.InMachine.validity.Ties.{tie_of, claim_of, body_tie, body_claim, tie_at, claim_at, AreTied, AreFacts, facts, valid-from}
use Rattle.laws_moves.proofs.InMachine.validity.Outlines.{put, put_at, put_kept, same_facts}
use Rattle.laws_moves.proofs.InMachine.safety.Safe.{IsVacant, is_plain, IsSafeMake, IsSafeMakeSpace}

-- ---- what is good stays good where kinds are only added

abbrev pub Grows : (Path → Option Kind) → (Path → Option Kind) → Type 0
Grows there more = (q : Path) (kind : Kind) → there q ≡ Some kind → more q ≡ Some kind

module _ (there more : Path → Option Kind) (grows : Grows there more) where
  one_of-grows : (wanted : List Kind) (q : Path) → is_one_of wanted (there q) ≡ true → is_one_of wanted (more q) ≡ true
  one_of-grows wanted q h = by (there q) refl h
    where
      by : (o : Option Kind) → there q ≡ o → is_one_of wanted o ≡ true → is_one_of wanted (more q) ≡ true
      by None e h = cc
      by (Some kind) e h = rw (grows q kind e) h

  leads-grows : (wanted : List Kind) (p : Ptr) → leads_there there wanted p ≡ true → leads_there more wanted p ≡ true
  leads-grows wanted (At q) h = one_of-grows wanted q h
  leads-grows wanted p h = h

  may-grows : (wanted : List Kind) (p : Ptr) → may_lead there wanted p ≡ true → may_lead more wanted p ≡ true
  may-grows wanted (At q) h = one_of-grows wanted q h
  may-grows wanted p h = h

  peer-grows : (peer : Peer) → is_good_peer there peer ≡ true → is_good_peer more peer ≡ true
  peer-grows (Server server) h = leads-grows (kinds.Thread ∷ []) server h
  peer-grows peer h = h

  all-grows : {A : Type 0} (f g : A → Bool) → ((a : A) → f a ≡ true → g a ≡ true) → (o : Option A) → all_in f o ≡ true → all_in g o ≡ true
  all-grows f g less None h = refl
  all-grows f g less (Some a) h = less a h

  talk-grows : (talk : Talk) → is_good_talk there talk ≡ true → is_good_talk more talk ≡ true
  talk-grows talk h = let both = and_parts (leads_there there (kinds.Port ∷ []) talk.port) (is_good_peer there talk.peer) h in
      and_from _ _ (leads-grows (kinds.Port ∷ []) talk.port both.0) (peer-grows talk.peer both.1)

  fault-grows : (fault : Fault) → is_good_fault there fault ≡ true → is_good_fault more fault ≡ true
  fault-grows fault h =
      let both = and_parts (leads_there there (kinds.Port ∷ []) fault.port) (all_in (is_good_peer there) fault.taker) h in
      and_from _ _ (leads-grows (kinds.Port ∷ []) fault.port both.0) (all-grows (is_good_peer there) (is_good_peer more) peer-grows fault.taker both.1)

  set-grows : (at : Path) (set : Option ℕ) (served : Bool) → is_good_set there at set served ≡ true → is_good_set more at set served ≡ true
  set-grows at None served h = refl
  set-grows at (Some set) served h = let both = and_parts _ (is_one_of (kinds.Portset ∷ []) (there (set_at at set))) h in
      and_from _ _ both.0 (one_of-grows (kinds.Portset ∷ []) (set_at at set) both.1)

  pub good-grows : (at : Path) (b : Body) → is_good there at b ≡ true → is_good more at b ≡ true
  good-grows at (Mapping m) h = let both = and_parts _ (may_lead there (kinds.Region ∷ []) m.region) h in
      and_from _ _ both.0 (may-grows (kinds.Region ∷ []) m.region both.1)
  good-grows at (Region r) h = let both = and_parts _ (may_lead there (kinds.Port ∷ []) r.keeper) h in
      and_from _ _ both.0 (may-grows (kinds.Port ∷ []) r.keeper both.1)
  good-grows at (Port set served) h = set-grows at set served h
  good-grows at (Space birth holder) h =
      all-grows (leads_there there (kinds.Thread ∷ [])) (leads_there more (kinds.Thread ∷ [])) (leads-grows (kinds.Thread ∷ [])) holder h
  good-grows at (Thread_of t) h =
      let both = and_parts (all_in (is_good_talk there) t.talk) (all_in (is_good_fault there) t.fault) h in
      and_from _ _ (all-grows (is_good_talk there) (is_good_talk more) talk-grows t.talk both.0)
      (all-grows (is_good_fault there) (is_good_fault more) fault-grows t.fault both.1)
  good-grows at (Reference to) h = may-grows referable to h
  good-grows at b h = h

-- ---- an object is put in an empty slot

module _ (w : World) (k : ℕ) (s : Path) (body : Body) (n : ℕ) (place : IsVacant w k s) (valid : IsConsistent w) where
  abbrev made : World
  made = record { body = λ q. if same_path q (k ∷ s) then Some body else w.body q; page = w.page; next = n }

  nothing_there : kind_there w (k ∷ s) ≡ None
  unfolding kind_there
  nothing_there = rw place.empty refl

  kinds_made : kind_there made ≡ put (k ∷ s) (Some (kind_of body)) (kind_there w)
  unfolding kind_there
  kinds_made = λ i q. put_at (k ∷ s) (option_map kind_of) (λ there. Some body) w.body q i

  births_made : birth_at made ≡ put (k ∷ s) (birth_of body) (birth_at w)
  births_made = λ i q. put_at (k ∷ s) (and_then birth_of) (λ there. Some body) w.body q i

  ties_made : body_tie (Some body) ≡ None → tie_at made ≡ tie_at w
  ties_made none =
      (λ i q. put_at (k ∷ s) body_tie (λ there. Some body) w.body q i) ∙ put_kept (k ∷ s) (body_tie (Some body)) (tie_at w) (rw (none, place.empty) refl)

  claims_made : body_claim (Some body) ≡ None → claim_at made ≡ claim_at w
  claims_made none =
      (λ i q. put_at (k ∷ s) body_claim (λ there. Some body) w.body q i) ∙ put_kept (k ∷ s) (body_claim (Some body)) (claim_at w) (rw (none, place.empty) refl)

  more : Grows (kind_there w) (put (k ∷ s) (Some (kind_of body)) (kind_there w))
  more q kind h = by (same_path q (k ∷ s)) refl
    where
      by : (t : Bool) → same_path q (k ∷ s) ≡ t → (if t then Some (kind_of body) else kind_there w q) ≡ Some kind
      by true e = let here = same_path_eq q (k ∷ s) e in
          let none : kind_there w (k ∷ s) ≡ None = nothing_there in let some : kind_there w (k ∷ s) ≡ Some kind = rw here at h in cc
      by false e = h

  parents_made : (j : ℕ) (y : Path) →
      IsSome (put (k ∷ s) (Some (kind_of body)) (kind_there w) (j ∷ y)) → put (k ∷ s) (Some (kind_of body)) (kind_there w) y ≡ Some kinds.Space
  parents_made j y = by (same_path (j ∷ y) (k ∷ s)) refl
    where
      by : (t : Bool) → same_path (j ∷ y) (k ∷ s) ≡ t →
          IsSome (if t then Some (kind_of body) else kind_there w (j ∷ y)) → put (k ∷ s) (Some (kind_of body)) (kind_there w) y ≡ Some kinds.Space
      by true e h = let here = same_path_eq (j ∷ y) (k ∷ s) e in let above : y ≡ s = cc in rw (above, same_path_above k [] s) place.space
      by false e h = more y kinds.Space ((facts w valid).parents j y h)

  served_made : (p : Ptr) → is_served_port w p ≡ true → is_served_port made p ≡ true
  served_made (At q) h = by (same_path q (k ∷ s)) refl
    where
      by : (t : Bool) → same_path q (k ∷ s) ≡ t → holds (λ (port : Option ℕ × Bool). port.1) (and_then port_of (if t then Some body else w.body q)) ≡ true
      by true e = let here = same_path_eq q (k ∷ s) e in let none : w.body q ≡ None = rw here place.empty in let off : false ≡ true = rw none at h in cc
      by false e = h
  served_made p h = cc

  pub valid-made : body_tie (Some body) ≡ None → body_claim (Some body) ≡ None → is_good (kind_there w) (k ∷ s) body ≡ true →
      ((x y : Path) (number : ℕ) →
      put (k ∷ s) (birth_of body) (birth_at w) x ≡ Some number → put (k ∷ s) (birth_of body) (birth_at w) y ≡ Some number → x ≡ y) →
      ((x : Path) (number : ℕ) → put (k ∷ s) (birth_of body) (birth_at w) x ≡ Some number → number < n) →
      IsConsistent made
  valid-made no_tie no_claim good apart born =
      valid-from made (same_facts (put (k ∷ s) (Some (kind_of body)) (kind_there w)) (kind_there made) (put (k ∷ s) (birth_of body) (birth_at w))
      (birth_at made) (is_served_port made) (is_served_port made) (tie_at w) (tie_at made) (claim_at w) (claim_at made)
      (sym kinds_made) (sym births_made) refl (sym (ties_made no_tie)) (sym (claims_made no_claim)) new)
      (λ q. subst (λ (there : Path → Option Kind). all_in (is_good there q) (made.body q) ≡ true) (sym kinds_made) (by q (same_path q (k ∷ s)) refl))
    where
      old : AreTied (is_served_port w) (tie_at w) (claim_at w)
      old = (facts w valid).tied

      new : AreFacts
          (put (k ∷ s) (Some (kind_of body)) (kind_there w)) (put (k ∷ s) (birth_of body) (birth_at w)) n (is_served_port made) (tie_at w) (claim_at w)
      new = record {
        parents = parents_made;
        apart = apart;
        born = born;
        tied = record {
          served_all = λ x port h. served_made port (old.served_all x port h);
          one_client = old.one_client;
          talks_near = old.talks_near;
          claims_near = old.claims_near;
          single = old.single;
        };
      }

      grown : (q : Path) (o : Option Body) →
          all_in (is_good (kind_there w) q) o ≡ true → all_in (is_good (put (k ∷ s) (Some (kind_of body)) (kind_there w)) q) o ≡ true
      grown q None h = refl
      grown q (Some b) h = good-grows (kind_there w) (put (k ∷ s) (Some (kind_of body)) (kind_there w)) more q b h

      by : (q : Path) (t : Bool) →
          same_path q (k ∷ s) ≡ t → all_in (is_good (put (k ∷ s) (Some (kind_of body)) (kind_there w)) q) (if t then Some body else w.body q) ≡ true
      by q true e = let here = same_path_eq q (k ∷ s) e in
          rw here (good-grows (kind_there w) (put (k ∷ s) (Some (kind_of body)) (kind_there w)) more (k ∷ s) body good)
      by q false e = grown q (w.body q) (valid.good q)

no_tie_plain : (b : Body) → is_plain b ≡ true → body_tie (Some b) ≡ None
no_tie_plain (Thread_of t) plain = by t.talk (and_parts (is_none t.talk) (is_none t.fault) plain).0
  where
    by : (o : Option Talk) → is_none o ≡ true → option_map tie_of o ≡ None
    by None h = refl
    by (Some talk) h = cc
no_tie_plain b plain = refl

no_claim_plain : (b : Body) → is_plain b ≡ true → body_claim (Some b) ≡ None
no_claim_plain (Thread_of t) plain = by t.fault (and_parts (is_none t.talk) (is_none t.fault) plain).1
  where
    by : (o : Option Fault) → is_none o ≡ true → and_then claim_of o ≡ None
    by None h = refl
    by (Some fault) h = cc
no_claim_plain b plain = refl

no_birth_plain : (b : Body) → is_plain b ≡ true → birth_of b ≡ None
no_birth_plain (Space birth holder) plain = cc
no_birth_plain b plain = refl

pub valid-make : (w : World) (k : ℕ) (s : Path) (body : Body) → IsSafeMake w k s body → IsConsistent w → IsConsistent (apply (Make (k ∷ s) body) w)
unfolding apply
valid-make w k s body safe valid =
    valid-made w k s body w.next safe.place valid (no_tie_plain body safe.plain) (no_claim_plain body safe.plain) safe.good
    (λ x y number h g. valid.apart x y number (ap (λ f. f x) (sym births) ∙ h) (ap (λ f. f y) (sym births) ∙ g))
    (λ x number h. valid.born x number (ap (λ f. f x) (sym births) ∙ h))
  where
    births : put (k ∷ s) (birth_of body) (birth_at w) ≡ birth_at w
    births = put_kept (k ∷ s) (birth_of body) (birth_at w) (rw (safe.place.empty, no_birth_plain body safe.plain) refl)

-- a space has a birth number, so the next one is not 0
after_birth : (w : World) (s : Path) → IsConsistent w → kind_there w s ≡ Some kinds.Space → birth_after w.next ≡ w.next + 1
unfolding kind_there
after_birth w s valid h = by (w.body s) refl h
  where
    by : (o : Option Body) → w.body s ≡ o → option_map kind_of o ≡ Some kinds.Space → birth_after w.next ≡ w.next + 1
    by (Some (Space birth holder)) e g = let below : birth < w.next = valid.born s birth (rw e refl) in rw (ne_eqb w.next 0 (λ z. omega arith)) refl
    by (Some (Mutex locked)) e g = cc
    by (Some Cond) e g = cc
    by (Some (Mapping m)) e g = cc
    by (Some (Region r)) e g = cc
    by (Some (Port set served)) e g = cc
    by (Some Portset) e g = cc
    by (Some (Thread_of t)) e g = cc
    by (Some (Reference to)) e g = cc
    by None e g = cc

pub valid-make_space : (w : World) (k : ℕ) (s : Path) (holder : Option Ptr) →
    IsSafeMakeSpace w k s holder → IsConsistent w → IsConsistent (apply (MakeSpace (k ∷ s) holder) w)
unfolding apply
valid-make_space w k s holder safe valid =
    valid-made w k s (Space w.next holder) (birth_after w.next) safe.place valid refl refl safe.held
    (λ x y number. apart x y number (same_path x (k ∷ s)) refl (same_path y (k ∷ s)) refl)
    (λ x number h. rw next (born x number (same_path x (k ∷ s)) h))
  where
    next : birth_after w.next ≡ w.next + 1
    next = after_birth w s valid safe.place.space

    apart : (x y : Path) (number : ℕ) (t : Bool) → same_path x (k ∷ s) ≡ t → (r : Bool) →
        same_path y (k ∷ s) ≡ r → (if t then Some w.next else birth_at w x) ≡ Some number → (if r then Some w.next else birth_at w y) ≡ Some number → x ≡ y
    apart x y number true e true f h g = let left = same_path_eq x (k ∷ s) e in let right = same_path_eq y (k ∷ s) f in rw (left, right) refl
    apart x y number true e false f h g = let same : w.next ≡ number = cc in let below = valid.born y number g in absurd (omega arith)
    apart x y number false e true f h g = let same : w.next ≡ number = cc in let below = valid.born x number h in absurd (omega arith)
    apart x y number false e false f h g = valid.apart x y number h g

    born : (x : Path) (number : ℕ) (t : Bool) → (if t then Some w.next else birth_at w x) ≡ Some number → number < w.next + 1
    born x number true h = let same : w.next ≡ number = cc in omega arith
    born x number false h = let below = valid.born x number h in omega arith
