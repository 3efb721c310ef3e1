-- The registers in a valid image's picture are words.
use Rattle.std.proofs.Common.{◌≡◌, ℕ, ◌⊎◌, inl, inr, Bool, true, false, cond, ◌&&◌, ◌==◌, List, [], ◌∷◌, length, Option, Some, None, refl, ap, ◌∙◌, eqb-true}
use Rattle.std.specs.List.{list_all}
use Rattle.std.proofs.lemmas.Bool.{and_parts}
use Rattle.fk_model.specs.declared.stage.Stage.{Stage}
use Rattle.fk_model.specs.Calls.{todo_of}
use Rattle.fk_model.specs.Objects.{Body as bodies, Mode as modes, Thread, registers_of}
use Rattle.fk_model.proofs.calls.CallLaws.{todo_writes_back_lem}
use Rattle.fk_image.specs.declared.image.image.ThreadRec.{ThreadRec}
use Rattle.fk_image.specs.declared.image.image.Rec.{Rec, Rec as recs}
use Rattle.fk_image.specs.declared.image.image.SpaceRec.{SpaceRec}
use Rattle.fk_image.specs.Image.Ranges.{is_word, is_mode_byte, is_byte, is_code, is_half, are_words, fits_talk, fits_fault, fits_body}
use Rattle.fk_image.specs.Image.Picture.{mode, mode_while_calling, pictured_body, picture}
use Rattle.laws_pictures.specs.Saved.{PicturesHaveWords}
use Rattle.laws_pictures.proofs.Trees.{valid_is_tree}
use Rattle.laws_pictures.proofs.Bodies.{Object, Inner, stands, rising, ranged}

registers_read : (regs : List ℕ) (number code : ℕ) → length regs ≡ 16 → registers_of (mode regs number code) ≡ regs
registers_read regs number code long = by (number == 0) (number == 1) (todo_of regs) refl
  where
    by : (a b : Bool) (o : Option (List Stage)) → todo_of regs ≡ o
        → registers_of (cond a (modes.Running regs) (cond b (mode_while_calling regs o) (modes.Halted regs code))) ≡ regs
    by true b o e = refl
    by false true None e = refl
    by false true (Some todo) e = (todo_writes_back_lem regs todo long e).2
    by false false o e = refl

words_of : (t : ThreadRec) → fits_body (recs.Thread t) ≡ true → are_words 16 t.regs ≡ true
words_of t e =
    let b1 = are_words 16 t.regs in
    let b2 = is_word t.pc in
    let b3 = is_mode_byte t.regs t.mode in
    let b4 = is_byte t.code in
    let b5 = is_code t.mode t.code in
    let b6 = is_half t.stops in
    let p1 = and_parts (b1 && b2 && b3 && b4 && b5 && b6 && fits_talk t.talk) (fits_fault t.fault) e in
    let p2 = and_parts (b1 && b2 && b3 && b4 && b5 && b6) (fits_talk t.talk) p1.0 in
    let p3 = and_parts (b1 && b2 && b3 && b4 && b5) b6 p2.0 in
    let p4 = and_parts (b1 && b2 && b3 && b4) b5 p3.0 in
    let p5 = and_parts (b1 && b2 && b3) b4 p4.0 in
    let p6 = and_parts (b1 && b2) b3 p5.0 in
    (and_parts b1 b2 p6.0).0

thread_same : (t u : Thread) → bodies.Thread_of t ≡ bodies.Thread_of u → t.mode ≡ u.mode
thread_same t u e = ap (λ (v : Thread). v.mode) (one t u e)
  where
    one : (t u : Thread) → bodies.Thread_of t ≡ bodies.Thread_of u → t ≡ u
    one t u e = cc

thread_words : (ss : List SpaceRec) (t : Thread) (r : Rec) → fits_body r ≡ true → bodies.Thread_of t ≡ pictured_body ss r
    → list_all is_word (registers_of t.mode) ≡ true
thread_words ss t (recs.Thread u) fits e =
    let both = and_parts (length u.regs == 16) (list_all is_word u.regs) (words_of u fits) in
    ap (λ m. list_all is_word (registers_of m)) (thread_same t _ e)
    ∙ ap (list_all is_word) (registers_read u.regs u.mode u.code (eqb-true (length u.regs) 16 both.0)) ∙ both.1
thread_words ss t (recs.Mutex locked) fits e = absurd cc
thread_words ss t recs.Cond fits e = absurd cc
thread_words ss t recs.Portset fits e = absurd cc
thread_words ss t (recs.Mapping first count offset write to) fits e = absurd cc
thread_words ss t (recs.Region first count write to) fits e = absurd cc
thread_words ss t (recs.Port set) fits e = absurd cc
thread_words ss t (recs.Reference to) fits e = absurd cc

pub pictures_have_words : PicturesHaveWords
unfolding picture
pictures_have_words i [] t valid e = absurd cc
pictures_have_words i (k ∷ q) t valid e = let good = valid_is_tree i valid in by (stands i.spaces good.0 k q (bodies.Thread_of t) e)
  where
    by : Object i.spaces k q (bodies.Thread_of t) ⊎ Inner i.spaces k q (bodies.Thread_of t) → list_all is_word (registers_of t.mode) ≡ true
    by (inl o) = let full = (valid_is_tree i valid).1 in
        thread_words i.spaces t o.body (ranged 0 o.space.objects k o.body (rising o.space.objects (full.objects o.number o.space o.here)) o.there).fits o.is
    by (inr s) = let is = s.is in absurd cc
