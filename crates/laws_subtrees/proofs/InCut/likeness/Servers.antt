-- The client of a server, and the thread whose fault it has taken, are found alike in a likeness.
use Rattle.std.proofs.Common.{◌≡◌, ℕ, zero, suc, ◌+◌, ◌<◌, ◌≤◌, Bool, true, false, cond, ◌&&◌, ◌||◌, List, [], ◌∷◌, ◌++◌, length, find, Option, Some, None}
use Rattle.std.proofs.Common.{IfSome, is_some, option_map, ◌⊎◌, inl, inr, refl, sym, ap, ◌∙◌, arith, append_assoc, append-nil, length-append}
use Rattle.std.specs.List.{list_any}
use Rattle.std.proofs.lemmas.Bool.{or_cases, or_right, and_parts}
use Rattle.fk_model.specs.declared.names.Kind.{Kind}
use Rattle.fk_model.specs.declared.names.Kind.TheVariants as kinds
use Rattle.fk_model.specs.Places.{Path, same_path, strip, is_within, Ptr}
use Rattle.fk_model.specs.Places.Ptr.{Null, Dead, At, Out, Outside, Far}
use Rattle.fk_model.specs.Objects.{Peer, Talk, Fault, Thread, Body, thread_of, and_then, holds}
use Rattle.fk_model.specs.Objects.Peer.{Server, Service, Parked}
use Rattle.fk_model.specs.Objects.Body.{Thread_of}
use Rattle.fk_model.specs.World.{World, serves}
use Rattle.fk_model.specs.Searches.{residents, depth, beneath_by, beneath, objects, talk_at, fault_at, client_of, faulter_of, is_serving}
use Rattle.fk_model.specs.Valid.{services, IsValid, kind_there, is_one_of, leads_there, all_in, is_good, is_good_peer, is_good_talk, is_good_fault, lies_with}
use Rattle.fk_model.specs.Cut.{is_out, is_served_by, ports_of, cut_out, cut_to, cut_ptr, IsPlain}
use Rattle.laws_subtrees.specs.Cut.Likeness.{seen_peer, HasLikeness, IfServer, IsLikeness, IsCutWorld, ServesNobodyOutside, is_listed, IsWalked, IsServedAlike}
use Rattle.laws_subtrees.specs.Cut.Likeness.{AlikeOptions, IsBeneath, IsSeenTalk, IsSeenFault}
use Rattle.fk_model.proofs.walks.PlaceLaws.{same_path_eq, same_path_cancel, strip-append, strip_some, leads_to_at}
use Rattle.fk_model.proofs.walks.WalkLaws.{objects-all}
use Rattle.laws_subtrees.proofs.InCut.likeness.Alike.{alike-is_some}
use Rattle.laws_subtrees.proofs.InCut.likeness.Memory.{root_space, root_seen}
use Rattle.laws_subtrees.proofs.InCut.likeness.Talks.{talk_at-like, fault_at-like}
use Rattle.laws_subtrees.proofs.InCut.likeness.Walks.{list_any-flat_map, any_beneath-like, is_taken-like}
use Rattle.laws_subtrees.proofs.InCut.likeness.Sweeps.{serves_alike}

-- ---- walks

any_found : {A : Type 0} (f : A → Bool) (xs : List A) → list_any f xs ≡ true → (x : A) × (f x ≡ true) × ((g : A → Bool) → g x ≡ true → list_any g xs ≡ true)
any_found f [] h = cc
any_found f (x ∷ xs) h = by (any_found f xs) (f x) refl h
  where
    later : ((y : _) × (f y ≡ true) × ((g : _ → Bool) → g y ≡ true → list_any g xs ≡ true)) →
        (y : _) × (f y ≡ true) × ((g : _ → Bool) → g y ≡ true → (g x || list_any g xs) ≡ true)
    later below = (below.0, below.1, λ g e. or_right (g x) (list_any g xs) (below.2 g e))

    by : (list_any f xs ≡ true → (y : _) × (f y ≡ true) × ((g : _ → Bool) → g y ≡ true → list_any g xs ≡ true)) →
        (b : Bool) → f x ≡ b → (b || list_any f xs) ≡ true → (y : _) × (f y ≡ true) × ((g : _ → Bool) → g y ≡ true → (g x || list_any g xs) ≡ true)
    by below true e h = (x, e, λ g here. rw here refl)
    by below false e h = later (below h)

any_by : {A : Type 0} (f : A → Bool) (xs : List A) → list_any f xs ≡ true → (g : A → Bool) → ((x : A) → f x ≡ true → g x ≡ true) → list_any g xs ≡ true
any_by f xs h g more = let found = any_found f xs h in found.2 g (more found.0 found.1)

or_more : (a b c : Bool) → (a || b) ≡ true → (b ≡ true → c ≡ true) → (a || c) ≡ true
or_more true b c h more = refl
or_more false b c h more = more h

-- what a walk finds lies beneath where it began
walk_beneath : (n : ℕ) (w : World) (s x : Path) → is_listed x (beneath_by n w s) ≡ true → (p : Path) × (k : ℕ) × (x ≡ p ++ k ∷ s)
unfolding beneath_by
walk_beneath zero w s x h = cc
walk_beneath (suc n) w s x h =
    by (walk_beneath n w) (any_found _ (residents w s) (sym (list_any-flat_map (same_path x) (λ k. (k ∷ s) ∷ beneath_by n w (k ∷ s)) (residents w s)) ∙ h))
  where
    by : ((s x : Path) → is_listed x (beneath_by n w s) ≡ true → (p : Path) × (k : ℕ) × (x ≡ p ++ k ∷ s)) →
        (k : ℕ) × ((same_path x (k ∷ s) || is_listed x (beneath_by n w (k ∷ s))) ≡ true) × ((g : ℕ → Bool) → g k ≡ true → list_any g (residents w s) ≡ true) →
        (p : Path) × (k : ℕ) × (x ≡ p ++ k ∷ s)
    by below found = at (or_cases (same_path x (found.0 ∷ s)) _ found.1)
      where
        at : (same_path x (found.0 ∷ s) ≡ true) ⊎ (is_listed x (beneath_by n w (found.0 ∷ s)) ≡ true) → (p : Path) × (k : ℕ) × (x ≡ p ++ k ∷ s)
        at (inl e) = ([], found.0, same_path_eq x (found.0 ∷ s) e)
        at (inr deeper) = let there = below (found.0 ∷ s) x deeper in
            (there.0 ++ there.1 ∷ [], found.0, there.2 ∙ sym (append_assoc there.0 (there.1 ∷ []) (found.0 ∷ s)))

-- with more fuel it finds no less
walk_more : (n : ℕ) (w : World) (s x : Path) → is_listed x (beneath_by n w s) ≡ true → is_listed x (beneath_by (suc n) w s) ≡ true
unfolding beneath_by
walk_more zero w s x h = cc
walk_more (suc n) w s x h =
    let here = sym (list_any-flat_map (same_path x) (λ k. (k ∷ s) ∷ beneath_by n w (k ∷ s)) (residents w s)) ∙ h in
    list_any-flat_map (same_path x) (λ k. (k ∷ s) ∷ beneath_by (suc n) w (k ∷ s)) (residents w s)
    ∙ any_by (λ k. same_path x (k ∷ s) || is_listed x (beneath_by n w (k ∷ s)))
    (residents w s) here (λ k. same_path x (k ∷ s) || is_listed x (beneath_by (suc n) w (k ∷ s)))
    (λ k found. or_more (same_path x (k ∷ s)) _ _ found (walk_more n w (k ∷ s) x))

-- two ends of one list, of which the second is no longer
shorter_end : (a b r t : Path) → a ++ r ≡ b ++ t → length t ≤ length r → (c : Path) × (r ≡ c ++ t)
shorter_end [] b r t e short = (b, e)
shorter_end (k ∷ a) [] r t e short = absurd (omega (arith, ap length e, length-append a r))
shorter_end (k ∷ a) (j ∷ b) r t e short = let rest : a ++ r ≡ b ++ t = cc e in shorter_end a b r t rest short

-- what lies beneath a space on the way is found from there
walk_from : (n : ℕ) (w : World) (s p a r x : Path) (i : ℕ) →
    r ≡ p ++ s → x ≡ a ++ i ∷ r → is_listed x (beneath_by n w s) ≡ true → is_listed x (beneath_by n w r) ≡ true
unfolding beneath_by
walk_from n w s [] a r x i at within h = rw at h
walk_from zero w s (j ∷ p) a r x i at within h = cc
walk_from (suc n) w s (j ∷ p) a r x i at within h = by (walk_from n w) (any_found (λ k. same_path x (k ∷ s) || is_listed x (beneath_by n w (k ∷ s)))
    (residents w s) (sym (list_any-flat_map (same_path x) (λ k. (k ∷ s) ∷ beneath_by n w (k ∷ s)) (residents w s)) ∙ h))
  where
    long : length r ≡ suc (length p + length s)
    long = omega (arith, ap length at, length-append p s)

    far : length x ≡ length a + suc (length r)
    far = omega (arith, ap length within, length-append a (i ∷ r))

    by : ((s p a r x : Path) (i : ℕ) → r ≡ p ++ s → x ≡ a ++ i ∷ r → is_listed x (beneath_by n w s) ≡ true → is_listed x (beneath_by n w r) ≡ true) →
        (k : ℕ) × ((same_path x (k ∷ s) || is_listed x (beneath_by n w (k ∷ s))) ≡ true) × ((g : ℕ → Bool) → g k ≡ true → list_any g (residents w s) ≡ true) →
        is_listed x (beneath_by (suc n) w r) ≡ true
    by below found = at_slot (or_cases (same_path x (found.0 ∷ s)) _ found.1)
      where
        at_slot : (same_path x (found.0 ∷ s) ≡ true) ⊎ (is_listed x (beneath_by n w (found.0 ∷ s)) ≡ true) → is_listed x (beneath_by (suc n) w r) ≡ true
        at_slot (inl e) = absurd (omega (arith, ap length (same_path_eq x (found.0 ∷ s) e), long, far))
        at_slot (inr deeper) =
            let there = walk_beneath n w (found.0 ∷ s) x deeper in
            let ends : (a ++ i ∷ []) ++ r ≡ (there.0 ++ there.1 ∷ [])
            ++ (found.0 ∷ s) = append_assoc a (i ∷ []) r ∙ sym within ∙ there.2 ∙ sym (append_assoc there.0 (there.1 ∷ []) (found.0 ∷ s)) in
            let under = shorter_end (a ++ i ∷ []) (there.0 ++ there.1 ∷ []) r (found.0 ∷ s) ends (omega (arith, long)) in
            walk_more n w r x (below (found.0 ∷ s) under.0 a r x i under.1 within deeper)

-- the outermost slot of a path
outer_slot : (k : ℕ) (q root : Path) → (a : Path) × (i : ℕ) × (k ∷ (q ++ root) ≡ a ++ i ∷ root)
outer_slot k [] root = ([], k, refl)
outer_slot k (j ∷ q) root = let below = outer_slot j q root in (k ∷ below.0, below.1, ap (λ (x : Path). k ∷ x) below.2)

-- ---- the one that passes a test

find_none : (test : Path → Bool) (xs : List Path) → find test xs ≡ None → (x : Path) → is_listed x xs ≡ true → test x ≡ false
find_none test [] h x among = cc
find_none test (y ∷ ys) h x among = by (find_none test ys) (test y) refl h
  where
    by : (find test ys ≡ None → (x : Path) → is_listed x ys ≡ true → test x ≡ false) →
        (b : Bool) → test y ≡ b → cond b (Some y) (find test ys) ≡ None → test x ≡ false
    by below true e h = cc
    by below false e h = at (or_cases (same_path x y) (is_listed x ys) among)
      where
        at : (same_path x y ≡ true) ⊎ (is_listed x ys ≡ true) → test x ≡ false
        at (inl same) = ap test (same_path_eq x y same) ∙ e
        at (inr later) = below h x later

pub find_some : (test : Path → Bool) (xs : List Path) (x : Path) → find test xs ≡ Some x → test x ≡ true
find_some test [] x h = cc
find_some test (y ∷ ys) x h = by (find_some test ys x) (test y) refl h
  where
    by : (find test ys ≡ Some x → test x ≡ true) → (b : Bool) → test y ≡ b → cond b (Some y) (find test ys) ≡ Some x → test x ≡ true
    by below true e h = let same : y ≡ x = cc in ap test (sym same) ∙ e
    by below false e h = below h

-- two tests that agree inside, of which the second fails outside and on all objects but one
module _ (root : Path) (near far : Path → Bool) (xs ys : List Path)
    (same : (k : ℕ) (q : Path) → near (k ∷ q) ≡ far (k ∷ (q ++ root))) (at_top : near [] ≡ false) (at_root : far root ≡ false)
    (inside : (x : Path) → far x ≡ true → is_within root x ≡ true) (one : (x y : Path) → far x ≡ true → far y ≡ true → x ≡ y)
    (all_near : (k : ℕ) (q : Path) → near (k ∷ q) ≡ true → is_listed (k ∷ q) xs ≡ true)
    (all_far : (k : ℕ) (q : Path) → far (k ∷ (q ++ root)) ≡ true → is_listed (k ∷ (q ++ root)) ys ≡ true) where
  near-far : (q : Path) → near q ≡ true → far (q ++ root) ≡ true
  near-far [] h = let none : true ≡ false = sym h ∙ at_top in cc
  near-far (k ∷ q) h = sym (same k q) ∙ h

  found_near : (x : Path) → far x ≡ true → find near xs ≡ None → ⊥
  found_near x h none = by (strip root x) refl (inside x h)
    where
      at : (q : Path) → x ≡ q ++ root → ⊥
      at [] e = let off : true ≡ false = sym h ∙ ap far e ∙ at_root in cc
      at (k ∷ q) e =
          let on : near (k ∷ q) ≡ true = same k q ∙ ap far (sym e) ∙ h in
          let off : true ≡ false = sym on ∙ find_none near xs none (k ∷ q) (all_near k q on) in
          cc

      by : (o : Option Path) → strip root x ≡ o → is_some o ≡ true → ⊥
      by None e some = cc
      by (Some q) e some = at q (strip_some root x q e)

  found_far : (q : Path) → near q ≡ true → find far ys ≡ None → ⊥
  found_far [] h none = let off : true ≡ false = sym h ∙ at_top in cc
  found_far (k ∷ q) h none = let on : far (k ∷ (q ++ root)) ≡ true = sym (same k q) ∙ h in
      let off : true ≡ false = sym on ∙ find_none far ys none (k ∷ (q ++ root)) (all_far k q on) in cc

  alike_find : AlikeOptions (IsBeneath root) (find near xs) (find far ys)
  alike_find = by (find near xs) (find far ys) refl refl
    where
      by : (o p : Option Path) → find near xs ≡ o → find far ys ≡ p → AlikeOptions (IsBeneath root) o p
      by None None d e = tt
      by (Some q) (Some x) d e = one x (q ++ root) (find_some far ys x e) (near-far q (find_some near xs q d))
      by None (Some x) d e = absurd (found_near x (find_some far ys x e) d)
      by (Some q) None d e = absurd (found_far q (find_some near xs q d) e)

-- ---- who serves whom

abbrev serves_at : World → Path → Path → Bool
serves_at w server x = holds (λ (talk : Talk). serves server talk.peer) (talk_at w x)

abbrev takes_at : World → Path → Path → Bool
takes_at w server x = holds (λ (fault : Fault). holds (serves server) fault.taker) (fault_at w x)

pub serves_is : (server : Path) (peer : Peer) → serves server peer ≡ true → peer ≡ Server (At server)
serves_is server (Server thread) h = ap Server (leads_to_at server thread h)
serves_is server Service h = cc
serves_is server Parked h = cc

-- an outside thread whose talk or fault an inside thread has
pub served_talk : (root q : Path) (t : Thread) (talk : Talk) →
    t.talk ≡ Some talk → talk.peer ≡ Server (At (q ++ root)) → is_served_by root (Some (Thread_of t)) ≡ true
served_talk root q t talk is peer = rw (is, peer, strip-append root q) refl

or_true : (a : Bool) → (a || true) ≡ true
or_true true = refl
or_true false = refl

served_fault : (root q : Path) (t : Thread) (fault : Fault) →
    t.fault ≡ Some fault → fault.taker ≡ Some (Server (At (q ++ root))) → is_served_by root (Some (Thread_of t)) ≡ true
served_fault root q t fault is taker = rw (is, taker, strip-append root q) (or_true _)

module _ {root : Path} {see : Ptr → Ptr} {small big : World} (like : IsLikeness root see small big) where
  -- the walk finds every object of the likeness
  pub walked-like : IsWalked big → IsWalked small
  unfolding beneath
  walked-like walked = record {
    found = λ k q there.
        let far = walked.found k (q ++ root) (sym (is_taken-like like (k ∷ q)) ∙ there) in
        let outer = outer_slot k q root in
        let near = walk_from depth big [] root outer.0 root (k ∷ (q ++ root)) outer.1 (sym (append-nil root)) outer.2 far in
        any_beneath-like like (same_path (k ∷ q)) (same_path (k ∷ (q ++ root))) (λ j z. sym (same_path_cancel (k ∷ q) (j ∷ z) root)) [] ∙ near;
  }

  module _ (facts : IsServedAlike root see big) (me : Path) where
    serves_same : (j : ℕ) (q : Path) → serves_at small me (j ∷ q) ≡ serves_at big (me ++ root) (j ∷ (q ++ root))
    serves_same j q = by (talk_at small (j ∷ q)) (talk_at big (j ∷ (q ++ root))) refl (talk_at-like like (j ∷ q))
      where
        by : (o p : Option Talk) → talk_at big (j ∷ (q ++ root)) ≡ p → AlikeOptions (IsSeenTalk root see big) o p →
            holds (λ (talk : Talk). serves me talk.peer) o ≡ holds (λ (talk : Talk). serves (me ++ root) talk.peer) p
        by None None is h = refl
        by (Some seen) (Some talk) is h = rw h.0 (serves_alike like me (is_out (see talk.port)) talk.peer h.1.1 (λ out. facts.apart.talks j q talk is out me))
        by None (Some talk) is h = absurd h
        by (Some seen) None is h = absurd h

    takes_same : (j : ℕ) (q : Path) → takes_at small me (j ∷ q) ≡ takes_at big (me ++ root) (j ∷ (q ++ root))
    takes_same j q = by (fault_at small (j ∷ q)) (fault_at big (j ∷ (q ++ root))) refl (fault_at-like like (j ∷ q))
      where
        taker : (fault : Fault) (o : Option Peer) → fault_at big (j ∷ (q ++ root)) ≡ Some fault →
            fault.taker ≡ o → IfSome o (λ taker. IfServer (is_out (see fault.port)) taker (HasLikeness root see big)) →
            holds (serves me) (option_map (seen_peer see (is_out (see fault.port))) o) ≡ holds (serves (me ++ root)) o
        taker fault None here is h = refl
        taker fault (Some peer) here is h = serves_alike like me (is_out (see fault.port)) peer h (λ out. facts.apart.faults j q fault peer here out is me)

        by : (o p : Option Fault) → fault_at big (j ∷ (q ++ root)) ≡ p → AlikeOptions (IsSeenFault root see big) o p →
            holds (λ (fault : Fault). holds (serves me) fault.taker) o ≡ holds (λ (fault : Fault). holds (serves (me ++ root)) fault.taker) p
        by None None is h = refl
        by (Some seen) (Some fault) is h = rw h.0 (taker fault fault.taker is refl h.1.1)
        by None (Some fault) is h = absurd h
        by (Some seen) None is h = absurd h

    serves_top : (serves_at small me [] ≡ false) × (serves_at big (me ++ root) root ≡ false)
    serves_top = (rw (root_seen like) refl, rw (root_space like).2 refl)

    takes_top : (takes_at small me [] ≡ false) × (takes_at big (me ++ root) root ≡ false)
    takes_top = (rw (root_seen like) refl, rw (root_space like).2 refl)

    served_body : (v : Option Body) →
        holds (λ (talk : Talk). serves (me ++ root) talk.peer) (and_then (λ (t : Thread). t.talk) (and_then thread_of v)) ≡ true → is_served_by root v ≡ true
    served_body None h = cc
    served_body (Some (Thread_of t)) h = by t.talk refl h
      where
        by : (o : Option Talk) → t.talk ≡ o → holds (λ (talk : Talk). serves (me ++ root) talk.peer) o ≡ true → is_served_by root (Some (Thread_of t)) ≡ true
        by None is h = cc
        by (Some talk) is h = served_talk root me t talk is (serves_is (me ++ root) talk.peer h)
    served_body (Some b) h = cc

    taken_body : (v : Option Body) → holds (λ (fault : Fault). holds (serves (me ++ root)) fault.taker)
        (and_then (λ (t : Thread). t.fault) (and_then thread_of v)) ≡ true → is_served_by root v ≡ true
    taken_body None h = cc
    taken_body (Some (Thread_of t)) h = by t.fault refl h
      where
        of_taker : (fault : Fault) (o : Option Peer) →
            t.fault ≡ Some fault → fault.taker ≡ o → holds (serves (me ++ root)) o ≡ true → is_served_by root (Some (Thread_of t)) ≡ true
        of_taker fault None is taker h = cc
        of_taker fault (Some peer) is taker h = served_fault root me t fault is (taker ∙ ap Some (serves_is (me ++ root) peer h))

        by : (o : Option Fault) →
            t.fault ≡ o → holds (λ (fault : Fault). holds (serves (me ++ root)) fault.taker) o ≡ true → is_served_by root (Some (Thread_of t)) ≡ true
        by None is h = cc
        by (Some fault) is h = of_taker fault fault.taker is refl h
    taken_body (Some b) h = cc

    within_if : (x : Path) → is_served_by root (big.body x) ≡ true → is_within root x ≡ true
    within_if x served = by (is_within root x) refl
      where
        by : (b : Bool) → is_within root x ≡ b → b ≡ true
        by true e = refl
        by false e = let none = sym (facts.inside x e) ∙ served in cc

    serves_once : (x : Path) → serves_at big (me ++ root) x ≡ true → 0 < services big (me ++ root) x
    serves_once x h = rw h (omega arith)

    takes_once : (x : Path) → takes_at big (me ++ root) x ≡ true → 0 < services big (me ++ root) x
    takes_once x h = rw h (omega arith)

    -- who has a talk or a fault is there
    live_talk : (server : Path) (v : Option Body) →
        holds (λ (talk : Talk). serves server talk.peer) (and_then (λ (t : Thread). t.talk) (and_then thread_of v)) ≡ true → is_some v ≡ true
    live_talk server None h = cc
    live_talk server (Some b) h = refl

    live_fault : (server : Path) (v : Option Body) →
        holds (λ (fault : Fault). holds (serves server) fault.taker) (and_then (λ (t : Thread). t.fault) (and_then thread_of v)) ≡ true → is_some v ≡ true
    live_fault server None h = cc
    live_fault server (Some b) h = refl

    pub client_of-like : AlikeOptions (IsBeneath root) (client_of small me) (client_of big (me ++ root))
    unfolding client_of
    client_of-like =
        alike_find root (serves_at small me) (serves_at big (me ++ root)) (objects small) (objects big) serves_same serves_top.0 serves_top.1
        (λ x h. within_if x (served_body (big.body x) h))
        (λ x y h g. facts.one (me ++ root) x y (serves_once x h) (serves_once y g))
        (λ j q h. (walked-like facts.walked).found j q (live_talk me (small.body (j ∷ q)) h))
        (λ j q h. facts.walked.found j (q ++ root) (live_talk (me ++ root) (big.body (j ∷ (q ++ root))) h))

    pub faulter_of-like : AlikeOptions (IsBeneath root) (faulter_of small me) (faulter_of big (me ++ root))
    unfolding faulter_of
    faulter_of-like =
        alike_find root (takes_at small me) (takes_at big (me ++ root)) (objects small) (objects big) takes_same takes_top.0 takes_top.1
        (λ x h. within_if x (taken_body (big.body x) h))
        (λ x y h g. facts.one (me ++ root) x y (takes_once x h) (takes_once y g))
        (λ j q h. (walked-like facts.walked).found j q (live_fault me (small.body (j ∷ q)) h))
        (λ j q h. facts.walked.found j (q ++ root) (live_fault (me ++ root) (big.body (j ∷ (q ++ root))) h))

    pub is_serving-like : is_serving small me ≡ is_serving big (me ++ root)
    is_serving-like =
        rw (
          alike-is_some (IsBeneath root) (client_of small me) (client_of big (me ++ root)) client_of-like,
          alike-is_some (IsBeneath root) (faulter_of small me) (faulter_of big (me ++ root)) faulter_of-like,
        ) refl

-- ---- the cut of a plain subtree of a valid world

-- a port that a cut shows outside stands in the nester
out_port : (ports : ℕ → Bool) (nester : Path) (slot : ℕ) (p : Ptr) → is_out (cut_ptr ports nester slot p) ≡ true → (i : ℕ) × (p ≡ At (i ∷ nester))
out_port ports nester slot Null h = cc
out_port ports nester slot Dead h = cc
out_port ports nester slot (Out i) h = cc
out_port ports nester slot Outside h = cc
out_port ports nester slot Far h = cc
out_port ports nester slot (At x) h = by (strip (slot ∷ nester) x) h
  where
    at_port : (i : ℕ) (y : Path) (b : Bool) →
        (same_path y nester && ports i) ≡ b → is_out (cond b (Out i) Far) ≡ true → (j : ℕ) × (At (i ∷ y) ≡ At (j ∷ nester))
    at_port i y true e h = (i, ap (λ (z : Path). At (i ∷ z)) (same_path_eq y nester (and_parts (same_path y nester) (ports i) e).0))
    at_port i y false e h = cc

    out : (y : Path) → is_out (cut_out ports nester y) ≡ true → (j : ℕ) × (At y ≡ At (j ∷ nester))
    out [] h = cc
    out (i ∷ y) h = at_port i y (same_path y nester && ports i) refl h

    by : (o : Option Path) → is_out (cut_to ports nester x o) ≡ true → (j : ℕ) × (At x ≡ At (j ∷ nester))
    by (Some q) h = cc
    by None h = out x h

pub good_talk : (there : Path → Option Kind) (at : Path) (v : Option Body) (talk : Talk) →
    all_in (is_good there at) v ≡ true → and_then (λ (t : Thread). t.talk) (and_then thread_of v) ≡ Some talk → is_good_talk there talk ≡ true
good_talk there at (Some (Thread_of t)) talk good is = let talks = (and_parts (all_in (is_good_talk there) t.talk) _ good).0 in rw is at talks
good_talk there at (Some b) talk good is = cc
good_talk there at None talk good is = cc

pub good_fault : (there : Path → Option Kind) (at : Path) (v : Option Body) (fault : Fault) →
    all_in (is_good there at) v ≡ true → and_then (λ (t : Thread). t.fault) (and_then thread_of v) ≡ Some fault → is_good_fault there fault ≡ true
good_fault there at (Some (Thread_of t)) fault good is = let faults = (and_parts (all_in (is_good_talk there) t.talk) _ good).1 in rw is at faults
good_fault there at (Some b) fault good is = cc
good_fault there at None fault good is = cc

module _ (w : World) (nester : Path) (slot : ℕ) (valid : IsValid w) (plain : IsPlain w nester slot) where
  -- who serves at a port of the nester lives in the nester's space
  near_nester : (port : Ptr) (x : Path) → is_out (cut_ptr (ports_of w nester slot) nester slot port) ≡ true →
      lies_with port (At (x ++ slot ∷ nester)) → is_one_of (kinds.Thread ∷ []) (kind_there w (x ++ slot ∷ nester)) ≡ true → ⊥
  unfolding kind_there
  near_nester port [] out near thread = let off = rw plain.root at thread in cc
  near_nester port (j ∷ x) out near thread =
      let at = out_port (ports_of w nester slot) nester slot port out in
      let same : x ++ slot ∷ nester ≡ nester = rw at.1 at near in
      omega (arith, ap length same, length-append x (slot ∷ nester))

  cut_apart_talk : (x : Path) (k : ℕ) (q : Path) (talk : Talk) → talk_at w (k ∷ (q ++ slot ∷ nester)) ≡ Some talk →
      is_out (cut_ptr (ports_of w nester slot) nester slot talk.port) ≡ true → serves (x ++ slot ∷ nester) talk.peer ≡ false
  cut_apart_talk x k q talk is out = by (serves (x ++ slot ∷ nester) talk.peer) refl
    where
      by : (b : Bool) → serves (x ++ slot ∷ nester) talk.peer ≡ b → b ≡ false
      by false e = refl
      by true e =
          let peer = serves_is (x ++ slot ∷ nester) talk.peer e in
          let good = good_talk (kind_there w)
          (k ∷ (q ++ slot ∷ nester)) (w.body (k ∷ (q ++ slot ∷ nester))) talk (valid.consistent.good (k ∷ (q ++ slot ∷ nester))) is in
          absurd (near_nester talk.port x out (valid.consistent.talks_near (k ∷ (q ++ slot ∷ nester)) talk (At (x ++ slot ∷ nester)) is peer)
          (rw peer at (and_parts (leads_there (kind_there w) (kinds.Port ∷ []) talk.port) (is_good_peer (kind_there w) talk.peer) good).1))

  cut_apart_fault : (x : Path) (k : ℕ) (q : Path) (fault : Fault) (taker : Peer) → fault_at w (k ∷ (q ++ slot ∷ nester)) ≡ Some fault →
      is_out (cut_ptr (ports_of w nester slot) nester slot fault.port) ≡ true → fault.taker ≡ Some taker → serves (x ++ slot ∷ nester) taker ≡ false
  cut_apart_fault x k q fault taker is out took = by (serves (x ++ slot ∷ nester) taker) refl
    where
      by : (b : Bool) → serves (x ++ slot ∷ nester) taker ≡ b → b ≡ false
      by false e = refl
      by true e =
          let peer = took ∙ ap Some (serves_is (x ++ slot ∷ nester) taker e) in
          let good = good_fault (kind_there w)
          (k ∷ (q ++ slot ∷ nester)) (w.body (k ∷ (q ++ slot ∷ nester))) fault (valid.consistent.good (k ∷ (q ++ slot ∷ nester))) is in
          absurd (near_nester fault.port x out (valid.consistent.faults_near (k ∷ (q ++ slot ∷ nester)) fault (At (x ++ slot ∷ nester)) is peer)
          (rw peer at (and_parts (leads_there (kind_there w) (kinds.Port ∷ []) fault.port) (all_in (is_good_peer (kind_there w)) fault.taker) good).1))

  pub cut-apart : ServesNobodyOutside (slot ∷ nester) (cut_ptr (ports_of w nester slot) nester slot) w
  cut-apart = record {
    talks = λ k q talk is out x. cut_apart_talk x k q talk is out;
    faults = λ k q fault taker is out took x. cut_apart_fault x k q fault taker is out took;
  }

  pub cut-served : w.next ≤ depth → IsServedAlike (slot ∷ nester) (cut_ptr (ports_of w nester slot) nester slot) w
  cut-served few = record {
    walked = record { found = objects-all w valid.consistent valid.rooted few };
    apart = cut-apart;
    one = valid.consistent.one_service;
    inside = plain.served_inside;
  }

-- ---- a likeness, and a rebinding of it

-- in a cut world who is at a port outside is outside
module _ (c : World) (see : Ptr → Ptr) (same : (p : Ptr) → is_out (see p) ≡ is_out p) (alone : IsCutWorld c) where
  outside_peer : (x : Path) (out : Bool) (peer : Peer) → out ≡ true → peer ≡ seen_peer (λ p. p) out peer → serves x peer ≡ false
  outside_peer x true peer on is = rw is refl
  outside_peer x false peer on is = cc

  outside_talk : (k : ℕ) (q x : Path) (talk : Talk) → talk_at c (k ∷ (q ++ [])) ≡ Some talk → is_out (see talk.port) ≡ true → serves (x ++ []) talk.peer ≡ false
  outside_talk k q x talk is out = by (talk_at c (k ∷ q)) (ap (λ (y : Path). talk_at c (k ∷ y)) (sym (append-nil q)) ∙ is) (talk_at-like alone (k ∷ q))
    where
      by : (o : Option Talk) → o ≡ Some talk → AlikeOptions (IsSeenTalk [] (λ p. p) c) o (talk_at c (k ∷ (q ++ []))) → serves (x ++ []) talk.peer ≡ false
      by o e h =
          let both : IsSeenTalk [] (λ p. p) c talk talk = rw (e, is) at h in
          outside_peer (x ++ []) (is_out talk.port) talk.peer (sym (same talk.port) ∙ out) (ap (λ (t : Talk). t.peer) both.0)

  outside_fault : (k : ℕ) (q x : Path) (fault : Fault) (taker : Peer) →
      fault_at c (k ∷ (q ++ [])) ≡ Some fault → is_out (see fault.port) ≡ true → fault.taker ≡ Some taker → serves (x ++ []) taker ≡ false
  outside_fault k q x fault taker is out took =
      by (fault_at c (k ∷ q)) (ap (λ (y : Path). fault_at c (k ∷ y)) (sym (append-nil q)) ∙ is) (fault_at-like alone (k ∷ q))
    where
      by : (o : Option Fault) → o ≡ Some fault → AlikeOptions (IsSeenFault [] (λ p. p) c) o (fault_at c (k ∷ (q ++ []))) → serves (x ++ []) taker ≡ false
      by o e h =
          let both : IsSeenFault [] (λ p. p) c fault fault = rw (e, is) at h in
          let takers = ap (λ (f : Fault). f.taker) both.0 in
          let peer : Some taker ≡ Some (seen_peer (λ p. p) (is_out fault.port) taker) = rw took at takers in
          outside_peer (x ++ []) (is_out fault.port) taker (sym (same fault.port) ∙ out) cc

  pub cut_world-apart : ServesNobodyOutside [] see c
  cut_world-apart = record {
    talks = λ k q talk is out x. outside_talk k q x talk is out;
    faults = λ k q fault taker is out took x. outside_fault k q x fault taker is out took;
  }
