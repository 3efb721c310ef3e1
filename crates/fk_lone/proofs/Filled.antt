-- Filled: the world in which a program starts.
use Rattle.std.proofs.Common.{◌≡◌, ℕ, ◌+◌, ◌<◌, Bool, true, false, cond, ◌&&◌, nat_lt, ◌==◌, List, [], ◌∷◌, length, Some, None, refl, sym, ap, subst}
use Rattle.std.proofs.Common.{◌∙◌, arith, eqb-true}
use Rattle.std.proofs.lemmas.Bool.{ltb-true, lt-ltb, le-ltb, eqb-false, ltb-false}
use Rattle.fk_model.specs.declared.thread.Thread.{Thread}
use Rattle.fk_model.specs.Places.{same_path}
use Rattle.fk_model.specs.Objects.Body.{Thread_of}
use Rattle.fk_model.specs.Reach.{words_at}
use Rattle.fk_model.specs.World.{World, apply}
use Rattle.fk_model.specs.World.Change.{Make, PutPage}
use Rattle.fk_store.specs.Store.Contents.{Contents}
use Rattle.fk_store_graph.specs.Leads.Names.{at}
use Rattle.fk_store.specs.Store.Bodies.{mode_by, thread_by}
use Rattle.fk_store.specs.Store.Paths.{path, place}
use Rattle.fk_store.specs.Store.World.{world, first_world, IsSpace}
use Rattle.fk_store.proofs.InStore.finding.Walks.{path-root}
use Rattle.fk_lone.specs.LoneThread.{is_in_no_call, IsAlone, joined, state_by, state_of, filled, page_of}
use Rattle.fk_lone.proofs.Joined.{joined-same, joined-all, page_of-length}

-- no page so far
pub filled-none : (words : List ℕ) → first_world ≡ filled 0 words
unfolding filled
filled-none words = λ i. record first_world { page = λ s page. by (same_path s []) page i }
  where
    by : (t : Bool) (page : ℕ) → None ≡ cond (t && nat_lt page 0) (Some (page_of words page)) None
    by false page = refl
    by true page = rw (le-ltb page 0 (omega arith)) refl

-- one page more
pub filled-more : (n : ℕ) (words : List ℕ) → apply (PutPage [] n (page_of words n)) (filled n words) ≡ filled (n + 1) words
unfolding filled apply
filled-more n words = λ i. record first_world { page = λ s page. by (same_path s []) page i }
  where
    test : (page : ℕ) (t u v : Bool) → page == n ≡ t → nat_lt page n ≡ u →
        nat_lt page (n + 1) ≡ v → cond t (Some (page_of words n)) (cond u (Some (page_of words page)) None) ≡ cond v (Some (page_of words page)) None
    test page true u true e f g = ap (λ k. Some (page_of words k)) (sym (eqb-true page n e))
    test page true u false e f g = let same = eqb-true page n e in let high = ltb-false page (n + 1) g in absurd (omega (arith, same, high))
    test page false true true e f g = refl
    test page false true false e f g = let low = ltb-true page n f in let high = ltb-false page (n + 1) g in absurd (omega (arith, low, high))
    test page false false true e f g = let high = ltb-false page n f in
        let low = ltb-true page (n + 1) g in absurd (omega (arith, low, high, eqb-false page n e))
    test page false false false e f g = refl

    by : (t : Bool) (page : ℕ) → cond (t && page == n)
        (Some (page_of words n)) (cond (t && nat_lt page n) (Some (page_of words page)) None) ≡ cond (t && nat_lt page (n + 1)) (Some (page_of words page)) None
    by false page = refl
    by true page = test page (page == n) (nat_lt page n) (nat_lt page (n + 1)) refl refl refl

-- the root is a space
pub filled-root : (m : Contents) (n : ℕ) (words : List ℕ) → world m ≡ filled n words → IsSpace m 0
unfolding filled
filled-root m n words is = rw (path-root m, is) refl

-- a store with one page more
pub filled-put : (m n : Contents) (page : ℕ) (words one : List ℕ) →
    world m ≡ filled page words → one ≡ page_of words page → world n ≡ apply (PutPage (path m 0) page one) (world m) → world n ≡ filled (page + 1) words
filled-put m n page words one is same made = made ∙ rw (path-root m, is, same) (filled-more page words)

-- the thread's place is empty
pub filled-empty : (m : Contents) (words : List ℕ) → world m ≡ filled 256 words → (world m).body (place (path m) (at 0 0)) ≡ None
unfolding filled
filled-empty m words is = rw (path-root m, is) refl

-- once the thread stands there
pub started : (m n : Contents) (words : List ℕ) (t : Thread) →
    length words ≡ 16384 → is_in_no_call (mode_by t.mode t.regs) ≡ true → world m ≡ filled 256 words →
    world n ≡ apply (Make (place (path m) (at 0 0)) (Thread_of (thread_by (path m) t))) (world m) →
    IsAlone (world n) × (state_of (world n) ≡ state_by words (Some (thread_by (path m) t)))
unfolding apply filled same_path state_of
started m n words t long idle is made = subst (λ w. IsAlone w × (state_of w ≡ state_by words (Some (thread_by (path m) t))))
    same (record { thread = idle; pages = pages }, ap (λ memory. state_by memory (Some (thread_by (path m) t))) memory)
  where
    after : World
    after = apply (Make (0 ∷ []) (Thread_of (thread_by (path m) t))) (filled 256 words)

    same : after ≡ world n
    same = sym (made ∙ rw (path-root m, is) refl)

    page : (n : ℕ) → n < 256 → words_at after [] n ≡ page_of words n
    page n low = rw (lt-ltb n 256 low) refl

    pages : (n : ℕ) → n < 256 → length (words_at after [] n) ≡ 64
    pages n low = ap length (page n low) ∙ page_of-length words n long low

    memory : joined 256 (words_at after []) ≡ words
    memory = joined-same 256 (words_at after []) (page_of words) page ∙ joined-all words long
