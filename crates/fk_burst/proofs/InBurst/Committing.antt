-- Committing: a thread and pages that are replaced are the world with what a burst has made of them.
use Rattle.std.proofs.Common.{◌≡◌, ℕ, zero, suc, ◌+◌, ◌-◌, ◌<◌, ◌≤◌, ◌==◌, ◌&&◌, nat_le, nat_lt, Bool, true, false, cond}
use Rattle.std.proofs.Common.{List, [], ◌∷◌, ◌++◌, length, Some, slice_index_or, refl, sym, ap, ◌∙◌, arith, eqb-true}
use Rattle.std.proofs.lemmas.Bool.{eqb-false, leb-true, ltb-true, ltb-false, le-leb, lt-ltb, le-ltb}
use Rattle.std.proofs.lemmas.List.{get_or_past}
use Rattle.fk_model.specs.declared.names.Who.{Who}
use Rattle.fk_model.specs.Places.{Path, same_path}
use Rattle.fk_model.specs.Who.{named, space_born}
use Rattle.fk_model.specs.World.{World, apply}
use Rattle.fk_model.specs.World.Change.{PutPage, Alter}
use Rattle.fk_model.specs.World.Edit.{Proceed}
use Rattle.fk_model.specs.Objects.Mode.{Running}
use Rattle.fk_kernel.specs.declared.replace.BurstPage.{BurstPage}
use Rattle.fk_kernel.specs.Replaced.{rewritten, replaced}
use Rattle.laws_bursts.specs.Laws.{committed}
use Rattle.fk_burst.specs.declared.copies.copied.Copied.{Copied}
use Rattle.fk_burst.specs.Copies.Copies.{for_page, burst_of}
use Rattle.fk_burst.specs.Burst.Commits.{page_at, used_pages}

-- ---- pages one after the other

rewritten-append : (path : ℕ → Path) (ps qs : List BurstPage) (w : World) → rewritten path (ps ++ qs) w ≡ rewritten path qs (rewritten path ps w)
unfolding rewritten
rewritten-append path [] qs w = refl
rewritten-append path (p ∷ ps) qs w = rewritten-append path ps qs (apply (PutPage (path p.space) p.page p.words) w)

module _ (path : ℕ → Path) (w : World) (c : Copied) (space : ℕ) where
  -- a page is among the first k places, and has been used
  in_first : ℕ → ℕ → Bool
  in_first k page = (nat_le c.first page && nat_lt page (c.first + k)) && slice_index_or c.used (page - c.first) false

  words : ℕ → List ℕ
  words page = for_page c.first c.words [] page

  -- the world in which those of the first k places have got their words
  laid : ℕ → World
  laid k = record w { page = λ q page. cond (same_path q (path space) && in_first k page) (Some (words page)) (w.page q page) }

  at-place : (k page : ℕ) → page ≡ c.first + k → words page ≡ slice_index_or c.words k []
  unfolding words
  at-place k page is =
      let low : c.first ≤ page = omega (arith, is) in
      let here : page - c.first ≡ k = omega (arith, is) in
      ap (λ t. cond t (slice_index_or c.words (page - c.first) []) []) (le-leb c.first page low) ∙ ap (λ n. slice_index_or c.words n []) here

  -- one place more
  more : (k page : ℕ) → page ≡ c.first + k → in_first (suc k) page ≡ slice_index_or c.used k false
  unfolding in_first
  more k page is =
      let low : c.first ≤ page = omega (arith, is) in
      let less : page < c.first + suc k = omega (arith, is) in
      let here : page - c.first ≡ k = omega (arith, is) in
      ap (λ t. (t && nat_lt page (c.first + suc k)) && slice_index_or c.used (page - c.first) false) (le-leb c.first page low)
      ∙ ap (λ t. t && slice_index_or c.used (page - c.first) false) (lt-ltb page (c.first + suc k) less)
      ∙ ap (λ n. slice_index_or c.used n false) here

  not_yet : (k page : ℕ) → page ≡ c.first + k → in_first k page ≡ false
  unfolding in_first
  not_yet k page is =
      let high : c.first + k ≤ page = omega (arith, is) in
      ap (λ t. (nat_le c.first page && t) && slice_index_or c.used (page - c.first) false) (le-ltb page (c.first + k) high)
      ∙ off (nat_le c.first page) (slice_index_or c.used (page - c.first) false)
    where
      off : (a b : Bool) → ((a && false) && b) ≡ false
      off true b = refl
      off false b = refl

  other : (k page : ℕ) → (page ≡ c.first + k → ⊥) → in_first (suc k) page ≡ in_first k page
  unfolding in_first
  other k page apart = ap (λ t. t && slice_index_or c.used (page - c.first) false)
      (by (nat_le c.first page) refl (nat_lt page (c.first + suc k)) refl (nat_lt page (c.first + k)) refl)
    where
      by : (a : Bool) → nat_le c.first page ≡ a → (b : Bool) → nat_lt page (c.first + suc k) ≡ b → (d : Bool) → nat_lt page (c.first + k) ≡ d →
          (a && b) ≡ (a && d)
      by false e b f d g = refl
      by true e true f true g = refl
      by true e false f false g = refl
      by true e true f false g =
          let less = ltb-true page (c.first + suc k) f in
          let high = ltb-false page (c.first + k) g in
          let here : page ≡ c.first + k = omega (arith, less, high) in
          absurd (apart here)
      by true e false f true g = absurd (omega (arith, ltb-false page (c.first + suc k) f, ltb-true page (c.first + k) g))

  none : w ≡ laid 0
  unfolding laid in_first
  none = λ i. record w { page = λ q page. by q page (same_path q (path space)) (nat_le c.first page) (nat_lt page (c.first + 0)) refl refl i }
    where
      by : (q : Path) (page : ℕ) (m a b : Bool) → nat_le c.first page ≡ a → nat_lt page (c.first + 0) ≡ b →
          w.page q page ≡ cond (m && ((a && b) && slice_index_or c.used (page - c.first) false)) (Some (words page)) (w.page q page)
      by q page false a b e f = refl
      by q page true false b e f = refl
      by q page true true false e f = refl
      by q page true true true e f = absurd (omega (arith, leb-true c.first page e, ltb-true page (c.first + 0) f))

  -- the place k, where it has been used
  step-used : (k : ℕ) → slice_index_or c.used k false ≡ true → apply (PutPage (path space) (c.first + k) (slice_index_or c.words k [])) (laid k) ≡ laid (suc k)
  unfolding laid apply
  step-used k is = λ i. record w { page = λ q page. by q page (same_path q (path space)) (page == c.first + k) refl i }
    where
      by : (q : Path) (page : ℕ) (m e : Bool) → page == c.first + k ≡ e →
          cond (m && e) (Some (slice_index_or c.words k [])) (cond (m && in_first k page) (Some (words page)) (w.page q page))
          ≡ cond (m && in_first (suc k) page) (Some (words page)) (w.page q page)
      by q page false e f = refl
      by q page true true f =
          let here = eqb-true page (c.first + k) f in
          ap (λ x. Some x) (sym (at-place k page here)) ∙ sym (ap (λ t. cond t (Some (words page)) (w.page q page)) (more k page here ∙ is))
      by q page true false f = sym (ap (λ t. cond t (Some (words page)) (w.page q page)) (other k page (eqb-false page (c.first + k) f)))

  step-unused : (k : ℕ) → slice_index_or c.used k false ≡ false → laid k ≡ laid (suc k)
  unfolding laid
  step-unused k is = λ i. record w {
    page = λ q page. cond (same_path q (path space) && by page (page == c.first + k) refl i) (Some (words page)) (w.page q page);
  }
    where
      by : (page : ℕ) (e : Bool) → page == c.first + k ≡ e → in_first k page ≡ in_first (suc k) page
      by page true f = let here = eqb-true page (c.first + k) f in not_yet k page here ∙ sym (more k page here ∙ is)
      by page false f = sym (other k page (eqb-false page (c.first + k) f))

  all : (k : ℕ) → rewritten path (used_pages k c space) w ≡ laid k
  unfolding used_pages rewritten
  all zero = none
  all (suc k) =
      rewritten-append path (used_pages k c space) (cond (slice_index_or c.used k false) (page_at c space k ∷ []) []) w
      ∙ ap (rewritten path (cond (slice_index_or c.used k false) (page_at c space k ∷ []) [])) (all k)
      ∙ by (slice_index_or c.used k false) refl
    where
      by : (u : Bool) → slice_index_or c.used k false ≡ u → rewritten path (cond u (page_at c space k ∷ []) []) (laid k) ≡ laid (suc k)
      by true is = step-used k is
      by false is = step-unused k is

  -- those of all four places are those that have been used
  all-four : (page : ℕ) → length c.used ≡ 4 → in_first 4 page ≡ (burst_of c).used page
  unfolding in_first burst_of
  all-four page long = by (nat_le c.first page) refl (nat_lt page (c.first + 4)) refl
    where
      by : (a : Bool) → nat_le c.first page ≡ a → (b : Bool) → nat_lt page (c.first + 4) ≡ b →
          ((a && b) && slice_index_or c.used (page - c.first) false) ≡ cond a (slice_index_or c.used (page - c.first) false) false
      by false e b f = refl
      by true e true f = refl
      by true e false f = sym (get_or_past c.used (page - c.first) false (omega (arith, long, leb-true c.first page e, ltb-false page (c.first + 4) f)))

-- what is replaced is what is committed
pub replaced_is_committed : (w : World) (who : Who) (c : Copied) → length c.used ≡ 4 →
    ((page : ℕ) → (burst_of c).used page ≡ true → (burst_of c).page page ≡ Some (for_page c.first c.words [] page)) →
    replaced w who c.registers c.counter (used_pages 4 c who.space) ≡ committed w (named w who) (burst_of c)
unfolding apply laid words burst_of
replaced_is_committed w who c long has =
    ap (apply (Alter (named w who) (Proceed (Running c.registers) c.counter))) (all (space_born w) w c who.space 4)
    ∙ (λ i. record (committed w (named w who) (burst_of c)) {
      page = λ q page. by q page (same_path q (space_born w who.space)) ((burst_of c).used page) refl i;
    })
  where
    by : (q : Path) (page : ℕ) (m u : Bool) → (burst_of c).used page ≡ u →
        cond (m && in_first (space_born w) w c who.space 4 page) (Some (for_page c.first c.words [] page)) (w.page q page)
        ≡ cond (m && u) ((burst_of c).page page) (w.page q page)
    by q page false u e = refl
    by q page true true e =
        ap (λ t. cond t (Some (for_page c.first c.words [] page)) (w.page q page)) (all-four (space_born w) w c who.space page long ∙ e) ∙ sym (has page e)
    by q page true false e = ap (λ t. cond t (Some (for_page c.first c.words [] page)) (w.page q page)) (all-four (space_born w) w c who.space page long ∙ e)
