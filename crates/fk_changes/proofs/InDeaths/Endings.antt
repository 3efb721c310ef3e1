-- Endings: calls that end one after another, in whatever order, and before or after a death.
use Rattle.std.proofs.Common.{◌≡◌, ℕ, zero, suc, is_some, Bool, true, false, cond, ◌||◌, List, [], ◌∷◌, ◌++◌, Option, Some, None, option_map, refl}
use Rattle.std.proofs.Common.{sym, ap, subst, ◌∙◌}
use Rattle.std.proofs.lemmas.List.Folds.{list_any-append}
use Rattle.fk_model.specs.declared.statuses.status.TheConstants.{ENDED}
use Rattle.fk_model.specs.declared.thread.Turn.{Turn}
use Rattle.fk_model.specs.LinkRows.{end_all}
use Rattle.fk_model.specs.ObjectRows.{ends_with, kills}
use Rattle.fk_model.specs.Objects.{Mode, Thread, Body, thread_of, and_then, holds, or_else}
use Rattle.fk_model.specs.Objects.Mode.{Running, Calling, Halted, Native}
use Rattle.fk_model.specs.Objects.Body.{Mutex, Cond, Mapping, Region, Port, Portset, Space, Thread_of, Reference}
use Rattle.fk_model.specs.declared.limits.TheConstants.{SLOTS}
use Rattle.fk_model.specs.Places.{Path, same_path}
use Rattle.fk_model.specs.Places.Ptr.{At}
use Rattle.fk_model.specs.Searches.{has_residents, lowest}
use Rattle.fk_model.specs.Valid.{kind_there}
use Rattle.fk_model.specs.Talks.{is_talking, if_talking, talking_end}
use Rattle.fk_model.specs.World.{World, apply, apply_all, death_sweep, edited, through}
use Rattle.fk_model.specs.World.Change.{Alter, Kill}
use Rattle.fk_model.specs.World.Edit.{End}
use Rattle.fk_model.proofs.walks.PlaceLaws.{same_path_eq}
use Rattle.fk_model.proofs.walks.WalkLaws.{live-kind}
use Rattle.fk_changes.specs.Deaths.Ends.{ended_where, is_in_list, talking}

-- ---- one body

abbrev pub ended : Option Body → Option Body
ended b = option_map (edited (End ENDED [])) b

abbrev pub thread_with : Mode → Thread → Option Body
thread_with mode t = Some (Thread_of (record t { mode = mode }))

-- a call ends once
pub ended_twice : (b : Option Body) → ended (ended b) ≡ ended b
unfolding edited
ended_twice None = refl
ended_twice (Some (Mutex locked)) = refl
ended_twice (Some Cond) = refl
ended_twice (Some (Mapping window)) = refl
ended_twice (Some (Region extent)) = refl
ended_twice (Some (Port set served)) = refl
ended_twice (Some Portset) = refl
ended_twice (Some (Space birth holder)) = refl
ended_twice (Some (Thread_of t)) = by t.mode
  where
    by : (mode : Mode) → ended (ended (thread_with mode t)) ≡ ended (thread_with mode t)
    by (Running g) = refl
    by (Calling todo rest) = refl
    by (Halted g code) = refl
    by (Native g) = refl
ended_twice (Some (Reference to)) = refl

-- and then its thread is at no stage
pub ended_quiet : (side : Turn) (b : Option Body) → talking side (ended b) ≡ false
unfolding edited
ended_quiet side None = refl
ended_quiet side (Some (Mutex locked)) = refl
ended_quiet side (Some Cond) = refl
ended_quiet side (Some (Mapping window)) = refl
ended_quiet side (Some (Region extent)) = refl
ended_quiet side (Some (Port set served)) = refl
ended_quiet side (Some Portset) = refl
ended_quiet side (Some (Space birth holder)) = refl
ended_quiet side (Some (Thread_of t)) = by t.mode
  where
    by : (mode : Mode) → talking side (ended (thread_with mode t)) ≡ false
    by (Running g) = refl
    by (Calling todo rest) = refl
    by (Halted g code) = refl
    by (Native g) = refl
ended_quiet side (Some (Reference to)) = refl

-- a death changes pointers alone
swept_ended : (x q : Path) (b : Option Body) → option_map (through (death_sweep x) q) (ended b) ≡ ended (option_map (through (death_sweep x) q) b)
unfolding edited
swept_ended x q None = refl
swept_ended x q (Some (Mutex locked)) = refl
swept_ended x q (Some Cond) = refl
swept_ended x q (Some (Mapping window)) = refl
swept_ended x q (Some (Region extent)) = refl
swept_ended x q (Some (Port set served)) = refl
swept_ended x q (Some Portset) = refl
swept_ended x q (Some (Space birth holder)) = refl
swept_ended x q (Some (Thread_of t)) = by t.mode
  where
    by : (mode : Mode) → option_map (through (death_sweep x) q) (ended (thread_with mode t))
        ≡ ended (option_map (through (death_sweep x) q) (thread_with mode t))
    by (Running g) = refl
    by (Calling todo rest) = refl
    by (Halted g code) = refl
    by (Native g) = refl
swept_ended x q (Some (Reference to)) = refl

-- ---- a world

-- the world that one makes where two tests agree
pub ended_alike : (f g : Path → Bool) (w : World) → ((q : Path) → f q ≡ g q) → ended_where f w ≡ ended_where g w
ended_alike f g w same = λ i. record { body = λ q. cond (same q i) (ended (w.body q)) (w.body q); page = w.page; next = w.next }

-- all of a list, one after another
pub ended_list : (xs : List Path) (w : World) → apply_all (end_all xs) w ≡ ended_where (λ q. is_in_list q xs) w
unfolding apply_all apply
ended_list [] w = refl
ended_list (x ∷ xs) w = ended_list xs (apply (Alter x (End ENDED [])) w) ∙ (λ i. record { body = λ q. at q i; page = w.page; next = w.next })
  where
    at : (q : Path) → cond (is_in_list q xs) (ended (cond (same_path q x) (ended (w.body q)) (w.body q))) (cond (same_path q x) (ended (w.body q)) (w.body q))
        ≡ cond (same_path q x || is_in_list q xs) (ended (w.body q)) (w.body q)
    at q = by (same_path q x) (is_in_list q xs)
      where
        by : (a b : Bool) → cond b (ended (cond a (ended (w.body q)) (w.body q))) (cond a (ended (w.body q)) (w.body q))
            ≡ cond (a || b) (ended (w.body q)) (w.body q)
        by true true = ended_twice (w.body q)
        by true false = refl
        by false true = refl
        by false false = refl

-- before a death or after it
killed_ended : (x : Path) (test : Path → Bool) (w : World) → apply (Kill x) (ended_where test w) ≡ ended_where test (apply (Kill x) w)
unfolding apply
killed_ended x test w = λ i. record { body = λ q. at q i; page = (apply (Kill x) w).page; next = w.next }
  where
    at : (q : Path) → cond (same_path q x) None (option_map (through (death_sweep x) q) (cond (test q) (ended (w.body q)) (w.body q)))
        ≡ cond (test q) (ended (cond (same_path q x) None (option_map (through (death_sweep x) q) (w.body q))))
        (cond (same_path q x) None (option_map (through (death_sweep x) q) (w.body q)))
    at q = by (same_path q x) (test q)
      where
        by : (a b : Bool) → cond a None (option_map (through (death_sweep x) q) (cond b (ended (w.body q)) (w.body q)))
            ≡ cond b (ended (cond a None (option_map (through (death_sweep x) q) (w.body q)))) (cond a None (option_map (through (death_sweep x) q) (w.body q)))
        by true true = refl
        by true false = refl
        by false true = swept_ended x q (w.body q)
        by false false = refl

-- ends of calls leave in each object what stands there
lowest_same : (n : ℕ) (f g : ℕ → Option Body) → ((k : ℕ) → is_some (f k) ≡ is_some (g k)) → is_some (lowest n f) ≡ is_some (lowest n g)
unfolding lowest
lowest_same zero f g same = refl
lowest_same (suc n) f g same = by (lowest n f) (f n) (lowest n g) (g n) (lowest_same n f g same) (same n)
  where
    by : (a b c d : Option Body) → is_some a ≡ is_some c → is_some b ≡ is_some d → is_some (or_else a b) ≡ is_some (or_else c d)
    by None b None d first second = second
    by (Some a) b (Some c) d first second = refl
    by None b (Some c) d first second = absurd (cc)
    by (Some a) b None d first second = absurd (cc)

pub same_residents : (w v : World) (x : Path) → kind_there v ≡ kind_there w → has_residents w x ≡ false → has_residents v x ≡ false
same_residents w v x same empty = lowest_same SLOTS _ _
    (λ k. sym (live-kind v (k ∷ x)) ∙ ap (λ kinds. is_some (kinds (k ∷ x))) same ∙ live-kind w (k ∷ x)) ∙ empty

-- all that ends with an object, and its death
pub all_killed : (w v : World) (x : Path) →
    v ≡ ended_where (λ q. is_in_list q (ends_with w x (w.body x))) w → apply (Kill x) v ≡ apply_all (kills w x) w
unfolding apply_all
all_killed w v x is = ap (apply (Kill x)) is ∙ killed_ended x _ w ∙ sym (ended_list (ends_with w x (w.body x)) (apply (Kill x) w))

-- ---- a thread whose call may have ended before

pub talking_list : (w : World) (side : Turn) (y : Path) → talking_end w side (At y) ≡ cond (talking side (w.body y)) (y ∷ []) []
talking_list w side y = by (and_then thread_of (w.body y))
  where
    by : (o : Option Thread) → if_talking side (and_then (λ (t : Thread). Some (y, t)) o) ≡ cond (holds (λ (t : Thread). is_talking side t.mode) o) (y ∷ []) []
    by None = refl
    by (Some t) = refl

module _ (w : World) (test : Path → Bool) (side : Turn) (y : Path) where
  -- its call ends now
  ends_here : talking side ((ended_where test w).body y) ≡ true →
      apply (Alter y (End ENDED [])) (ended_where test w) ≡ ended_where (λ q. test q || is_in_list q (talking_end w side (At y))) w
  unfolding apply
  ends_here on = rw (talking_list w side y, there (test y) on) (λ i. record { body = λ q. at q i; page = w.page; next = w.next })
    where
      there : (b : Bool) → talking side (cond b (ended (w.body y)) (w.body y)) ≡ true → talking side (w.body y) ≡ true
      there true on = let off = ended_quiet side (w.body y) in absurd (cc)
      there false on = on

      at : (q : Path) → cond (same_path q y) (ended (cond (test q) (ended (w.body q)) (w.body q))) (cond (test q) (ended (w.body q)) (w.body q))
          ≡ cond (test q || (same_path q y || false)) (ended (w.body q)) (w.body q)
      at q = by (same_path q y) (test q)
        where
          by : (a b : Bool) → cond a (ended (cond b (ended (w.body q)) (w.body q))) (cond b (ended (w.body q)) (w.body q))
              ≡ cond (b || (a || false)) (ended (w.body q)) (w.body q)
          by true true = ended_twice (w.body q)
          by true false = refl
          by false true = refl
          by false false = refl

  -- it ended before, or doesn't end
  ends_nothing : talking side ((ended_where test w).body y) ≡ false →
      ended_where test w ≡ ended_where (λ q. test q || is_in_list q (talking_end w side (At y))) w
  ends_nothing off = rw (talking_list w side y) (ended_alike test _ w (λ q. at q (talking side (w.body y)) refl))
    where
      before : (b : Bool) → talking side (cond b (ended (w.body y)) (w.body y)) ≡ false → talking side (w.body y) ≡ true → b ≡ true
      before true off on = refl
      before false off on = absurd (cc)

      at : (q : Path) (b : Bool) → talking side (w.body y) ≡ b → test q ≡ (test q || is_in_list q (cond b (y ∷ []) []))
      at q false is = by (test q)
        where
          by : (b : Bool) → b ≡ (b || false)
          by true = refl
          by false = refl
      at q true is = by (same_path q y) refl (test q) refl
        where
          by : (a : Bool) → same_path q y ≡ a → (b : Bool) → test q ≡ b → b ≡ (b || (a || false))
          by a e true f = refl
          by false e false f = refl
          by true e false f =
              let ended_there = before (test y) off is in
              let here : test y ≡ false = subst (λ z. test z ≡ false) (same_path_eq q y e) f in
              absurd (cc)

  pub ends_one : (v : World) → v ≡ ended_where test w → talking side (v.body y) ≡ true →
      apply (Alter y (End ENDED [])) v ≡ ended_where (λ q. test q || is_in_list q (talking_end w side (At y))) w
  ends_one v is on = rw is (ends_here (rw is at on))

  pub ends_none : (v : World) → v ≡ ended_where test w → talking side (v.body y) ≡ false →
      v ≡ ended_where (λ q. test q || is_in_list q (talking_end w side (At y))) w
  ends_none v is off = is ∙ ends_nothing (rw is at off)

-- nobody ends
pub ends_nobody : (w v : World) (test : Path → Bool) → v ≡ ended_where test w → v ≡ ended_where (λ q. test q || is_in_list q []) w
ends_nobody w v test is = is ∙ ended_alike test _ w (λ q. by (test q))
  where
    by : (b : Bool) → b ≡ (b || false)
    by true = refl
    by false = refl

-- two lists, one after another
pub ends_both : (w v : World) (test : Path → Bool) (xs ys : List Path) →
    v ≡ ended_where (λ q. (test q || is_in_list q xs) || is_in_list q ys) w → v ≡ ended_where (λ q. test q || is_in_list q (xs ++ ys)) w
ends_both w v test xs ys is = is ∙ ended_alike _ _ w (λ q. by (test q) (is_in_list q xs) (is_in_list q ys) _ (list_any-append (same_path q) xs ys))
  where
    by : (a b c d : Bool) → d ≡ (b || c) → ((a || b) || c) ≡ (a || d)
    by true b c d is = refl
    by false b c d is = sym is
