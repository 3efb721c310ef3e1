-- What is read is spelled so, and fits.
use Rattle.std.proofs.Common.{◌≡◌, ℕ, zero, suc, ◌+◌, ◌^◌, ◌<◌, ◌&&◌, Bool, true, false, cond, eqb, ltb, not, List, [], ◌∷◌, ◌++◌, length, take, drop, Option}
use Rattle.std.proofs.Common.{Some, None, is_some, Result, Ok, refl, sym, ap, subst, ◌∙◌, append_assoc, arith}
use Rattle.std.specs.Cmp.Lexicographic.{same_text}
use Rattle.std.specs.List.{flat_map, list_all, list_any}
use Rattle.std.specs.Int.{w16, w32, w64, to_le_bytes}
use Rattle.std.proofs.lemmas.Bool.{ltb-true, lt-ltb, eqb-true, eq-eqb, eqb-false, ne_eqb}
use Rattle.std.proofs.lemmas.List.{append-nil, nil_from_length, take-append-drop}
use Rattle.std.proofs.lemmas.List.Concat.{flat_map-cons}
use Rattle.fk_image.specs.declared.image.image.Link.{Link}
use Rattle.fk_image.specs.declared.image.image.Link.TheVariants.{Null, Dead, In, Out, Root, Outside}
use Rattle.fk_image.specs.declared.image.image.TalkRec.{TalkRec}
use Rattle.fk_image.specs.declared.image.image.FaultRec.{FaultRec}
use Rattle.fk_image.specs.declared.image.image.ThreadRec.{ThreadRec}
use Rattle.fk_image.specs.declared.image.image.Rec.{Rec}
use Rattle.fk_image.specs.declared.image.image.Rec.TheVariants.{Mutex, Cond, Portset, Mapping, Region, Port, Thread, Reference}
use Rattle.fk_image.specs.declared.image.image.ObjectRec.{ObjectRec}
use Rattle.fk_image.specs.declared.image.image.PageRec.{PageRec}
use Rattle.fk_image.specs.declared.image.image.SpaceRec.{SpaceRec}
use Rattle.fk_image.specs.declared.image.image.Image.{Image}
use Rattle.fk_image.specs.declared.image.open.Open.{Open}
use Rattle.fk_image.specs.Image.Ranges.{is_slot, is_bit, is_byte, is_half, is_word, fits_link, is_set_word, is_extent, is_mode_byte, is_code, are_words}
use Rattle.fk_image.specs.Image.Ranges.{is_turn, fits_talk, fits_taker, fits_fault, fits_thread, fits_body}
use Rattle.fk_image.specs.Image.Preorder.{room_under, has_room, root_path, after_space}
use Rattle.fk_image.specs.Image.Links.{kind_in_space}
use Rattle.fk_image.specs.Image.Valid.{all_from, fits_object, fits_page, fits_objects, fits_pages, is_first, is_next, stands_in_order, fits_space, fits_spaces}
use Rattle.fk_image.specs.Image.Valid.{after_object, after_page}
use Rattle.fk_image.specs.declared.format.stop.Stop.{Stop}
use Rattle.fk_image.specs.Format.Spelling.{link_bytes as link, words_bytes as words, talk_bytes as talk, taker_bytes as taker, fault_bytes as fault}
use Rattle.fk_image.specs.Format.Spelling.{fault_state, thread_bytes as thread, body_bytes as body, object_bytes as object, page_bytes as page}
use Rattle.fk_image.specs.Format.Spelling.{space_bytes as space, magic, spelling_in}
use Rattle.fk_image.specs.Format.Fields.{◌>>=◌, refuse_field, read_byte, read_number, read_below, read_many}
use Rattle.fk_image.specs.Format.Reading.{read_link, read_word, same_state, read_words, read_mode, read_code, read_open_talk, read_talk, read_taker}
use Rattle.fk_image.specs.Format.Reading.{read_met_fault, read_fault, read_thread, read_extent, read_mapping, read_region, read_port, read_mutex}
use Rattle.fk_image.specs.Format.Reading.{read_reference, read_body, read_object, read_page, read_objects, read_pages, read_first, or_refuse_field, read_room}
use Rattle.fk_image.specs.Format.Reading.{read_next, read_placed, read_space, read_version, read_head, read_image}
use Rattle.fk_image.specs.Format.Versions.{shows_new, body_shows, object_shows, space_shows, image_shows, allows, version_number}
use Rattle.fk_image.proofs.InFormat.Allowed.{all_left, all_right, allows_all}
use Rattle.fk_image.proofs.InFormat.Basics.{both, and2, all3, all4, all5, all6, not_true, not_false, IsBytes, IsBytes-drop, bind_ok, expect_ok, chosen, never}
use Rattle.fk_image.proofs.InFormat.Basics.{ok_is, Takes, Takes-then, Took, made, one, byte_takes, below_takes, wide16, wide32, wide64, number_takes}

link_takes : (bytes : List ℕ) (x : Link × List ℕ) → IsBytes bytes → read_link bytes ≡ Ok x → Took link fits_link bytes x
unfolding read_link
link_takes bytes x fits e =
    let a = bind_ok (read_byte bytes) _ x e in
    let t = byte_takes bytes a.0 fits a.1 in
    by a.0.0 a.0.1 t.0 a.2
  where
    by : (tag : ℕ) (rest : List ℕ) → Takes bytes (tag ∷ []) rest
        → cond (eqb tag 0) (Ok (Null, rest)) (cond (eqb tag 1) (Ok (Dead, rest))
        (cond (eqb tag 2) (read_number w32 rest >>= λ n. read_below 240 n.1 >>= λ slot. Ok (In slot.0 n.0, slot.1))
        (cond (eqb tag 3) (read_below 240 rest >>= λ slot. Ok (Out slot.0, slot.1))
        (cond (eqb tag 4) (Ok (Root, rest)) (cond (eqb tag 5) (Ok (Outside, rest)) (refuse_field bytes 5)))))) ≡ Ok x
        → Took link fits_link bytes x
    by zero rest t e = made link fits_link bytes (Null, rest) x e (t, refl)
    by (suc zero) rest t e = made link fits_link bytes (Dead, rest) x e (t, refl)
    by (suc (suc zero)) rest t e =
        let a = bind_ok (read_number w32 rest) _ x e in
        let b = bind_ok (read_below 240 a.0.1) _ x a.2 in
        let t0 = number_takes w32 (2 ^ 32) wide32 rest a.0 t.rest_fits a.1 in
        let t1 = below_takes 240 a.0.1 b.0 t0.0.rest_fits b.1 in
        let whole = Takes-then bytes
        (2 ∷ []) rest (to_le_bytes w32 a.0.0 ++ b.0.0 ∷ []) b.0.1 t (Takes-then rest (to_le_bytes w32 a.0.0) a.0.1 (b.0.0 ∷ []) b.0.1 t0.0 t1.0) in
        made link fits_link bytes (In b.0.0 a.0.0, b.0.1) x b.2 (whole, both _ _ t0.1 t1.1)
    by (suc (suc (suc zero))) rest t e =
        let a = bind_ok (read_below 240 rest) _ x e in
        let t0 = below_takes 240 rest a.0 t.rest_fits a.1 in
        made link fits_link bytes (Out a.0.0, a.0.1) x a.2 (Takes-then bytes (3 ∷ []) rest (a.0.0 ∷ []) a.0.1 t t0.0, t0.1)
    by (suc (suc (suc (suc zero)))) rest t e = made link fits_link bytes (Root, rest) x e (t, refl)
    by (suc (suc (suc (suc (suc zero))))) rest t e = made link fits_link bytes (Outside, rest) x e (t, refl)
    by (suc (suc (suc (suc (suc (suc k)))))) rest t e =
        let n = suc (suc (suc (suc (suc (suc k))))) in
        absurd (never bytes 5 x (rw (
          ne_eqb n 0 (λ h. omega arith),
          ne_eqb n 1 (λ h. omega arith),
          ne_eqb n 2 (λ h. omega arith),
          ne_eqb n 3 (λ h. omega arith),
          ne_eqb n 4 (λ h. omega arith),
          ne_eqb n 5 (λ h. omega arith),
        ) at e))

-- ---- items one after the other

module _ {S X : Type 0} (item : S → List ℕ → Result (X × List ℕ) Stop) (next : S → X → S) (spell : X → List ℕ) (fits : S → X → Bool)
    (takes : (s : S) (bytes : List ℕ) (x : X × List ℕ) → IsBytes bytes → item s bytes ≡ Ok x → Took spell (fits s) bytes x) where
  many_takes : (n : ℕ) (s : S) (done : List X) (bytes : List ℕ) (x : List X × List ℕ) → IsBytes bytes → read_many item next n s done bytes ≡ Ok x
      → (xs : List X) × (x.0 ≡ done ++ xs) × (length xs ≡ n) × Takes bytes (flat_map spell xs) x.1 × (all_from next fits s xs ≡ true)
  unfolding read_many
  many_takes zero s done bytes x fit e =
      let same : (done, bytes) ≡ x = ok_is (done, bytes) x e in (
        [],
        ap (λ (p : List X × List ℕ). p.0) (sym same) ∙ sym (append-nil done),
        refl,
        subst (λ (p : List X × List ℕ). Takes bytes [] p.1) same (record { parts = refl; rest_fits = fit }),
        refl,
      )
  many_takes (suc n) s done bytes x fit e =
      let a = bind_ok (item s bytes) _ x e in
      let head = takes s bytes a.0 fit a.1 in
      let b = many_takes n (next s a.0.0) (done ++ a.0.0 ∷ []) a.0.1 x head.0.rest_fits a.2 in
      let whole = Takes-then bytes (spell a.0.0) a.0.1 (flat_map spell b.0) x.1 head.0 b.3 in
      (a.0.0 ∷ b.0, b.1 ∙ append_assoc done (a.0.0 ∷ []) b.0, ap suc b.2, rw flat_map-cons whole, both _ _ head.1 b.4)

  -- all of them
  all_takes : (n : ℕ) (s : S) (bytes : List ℕ) (x : List X × List ℕ) → IsBytes bytes → read_many item next n s [] bytes ≡ Ok x
      → (length x.0 ≡ n) × Takes bytes (flat_map spell x.0) x.1 × (all_from next fits s x.0 ≡ true)
  all_takes n s bytes x fit e =
      let m = many_takes n s [] bytes x fit e in
      subst (λ (xs : List X). (length xs ≡ n) × Takes bytes (flat_map spell xs) x.1 × (all_from next fits s xs ≡ true)) (sym m.1) (m.2, m.3, m.4)

all_words : (ws : List ℕ) → all_from same_state (λ _ w. is_word w) 0 ws ≡ true → list_all is_word ws ≡ true
all_words [] e = refl
all_words (w ∷ ws) e = let f = and2 (is_word w) (all_from same_state (λ _ w. is_word w) 0 ws) e in both _ _ f.0 (all_words ws f.1)

words_take : (count : ℕ) (bytes : List ℕ) (x : List ℕ × List ℕ) → IsBytes bytes → read_words count bytes ≡ Ok x → Took words (are_words count) bytes x
words_take count bytes x fits e =
    let t = all_takes read_word same_state (to_le_bytes w64) (λ _ w. is_word w) (λ s. number_takes w64 (2 ^ 64) wide64) count 0 bytes x fits e in
    (t.1, both _ _ (eq-eqb (length x.0) count t.0) (all_words x.0 t.2))

-- ---- threads

mode_takes : (new : Bool) (regs bytes : List ℕ) (x : ℕ × List ℕ) → IsBytes bytes → read_mode new regs bytes ≡ Ok x →
    Took one (λ mode. is_mode_byte regs mode && allows new (shows_new regs mode)) bytes x
unfolding read_mode
mode_takes new regs bytes x fits e =
    let a = bind_ok (read_byte bytes) _ x e in
    let g = chosen _ _ _ _ _ a.2 in
    let t = byte_takes bytes a.0 fits a.1 in
    made one (λ mode. is_mode_byte regs mode && allows new (shows_new regs mode)) bytes a.0 x (ap Ok g.1) (t.0, g.0)

code_takes : (mode : ℕ) (bytes : List ℕ) (x : ℕ × List ℕ) → IsBytes bytes → read_code mode bytes ≡ Ok x → Took one (λ n. is_byte n && is_code mode n) bytes x
unfolding read_code
code_takes mode bytes x fits e =
    let a = bind_ok (read_byte bytes) _ x e in
    let g = chosen _ _ _ _ _ a.2 in
    let t = byte_takes bytes a.0 fits a.1 in
    made one (λ n. is_byte n && is_code mode n) bytes a.0 x (ap Ok g.1) (t.0, both _ _ t.1 g.0)

open_talk_takes : (turn : ℕ) (bytes : List ℕ) (x : Option TalkRec × List ℕ) → IsBytes bytes → is_turn turn ≡ true → read_open_talk turn bytes ≡ Ok x
    → (before : List ℕ) → Takes before (turn ∷ []) bytes → Took talk fits_talk before x
unfolding read_open_talk
open_talk_takes turn bytes x fits good e before t =
    let a = bind_ok (read_number w16 bytes) _ x e in
    let b = bind_ok (read_link a.0.1) _ x a.2 in
    let c = bind_ok (read_link b.0.1) _ x b.2 in
    let t0 = number_takes w16 (2 ^ 16) wide16 bytes a.0 fits a.1 in
    let t1 = link_takes a.0.1 b.0 t0.0.rest_fits b.1 in
    let t2 = link_takes b.0.1 c.0 t1.0.rest_fits c.1 in
    let ports = Takes-then a.0.1 (link b.0.0) b.0.1 (link c.0.0) c.0.1 t1.0 t2.0 in
    let all = Takes-then bytes (to_le_bytes w16 a.0.0) a.0.1 (link b.0.0 ++ link c.0.0) c.0.1 t0.0 ports in
    made talk fits_talk before (Some (record { turn = turn; moved = a.0.0; port = b.0.0; server = c.0.0 }), c.0.1) x c.2
    (Takes-then before (turn ∷ []) bytes (to_le_bytes w16 a.0.0 ++ (link b.0.0 ++ link c.0.0)) c.0.1 t all, all4 good t0.1 t1.1 t2.1)

talk_takes : (bytes : List ℕ) (x : Option TalkRec × List ℕ) → IsBytes bytes → read_talk bytes ≡ Ok x → Took talk fits_talk bytes x
unfolding read_talk
talk_takes bytes x fits e =
    let a = bind_ok (read_below 3 bytes) _ x e in
    let t = below_takes 3 bytes a.0 fits a.1 in
    by (eqb a.0.0 0) refl a.0.1 t a.2
  where
    by : (b : Bool) → {n : ℕ} → eqb n 0 ≡ b →
        (rest : List ℕ) → Takes bytes (n ∷ []) rest × (ltb n 3 ≡ true) → cond b (Ok (None, rest)) (read_open_talk n rest) ≡ Ok x → Took talk fits_talk bytes x
    by true {n} zero_is rest t e = made talk fits_talk bytes (None, rest) x e (subst (λ (k : ℕ). Takes bytes (k ∷ []) rest) (eqb-true n 0 zero_is) t.0, refl)
    by false {n} other rest t e = open_talk_takes n rest x t.0.rest_fits (both _ _ (not_false _ other) t.1) e bytes t.0

taker_takes : (state : ℕ) (bytes : List ℕ) (x : Option Link × List ℕ) → IsBytes bytes → eqb state 0 ≡ false → ltb state 3 ≡ true → read_taker state bytes ≡ Ok x
    → Took taker fits_taker bytes x × (state ≡ fault_state x.0)
unfolding read_taker
taker_takes zero bytes x fits other small e = absurd cc
taker_takes (suc zero) bytes x fits other small e =
    let same : (None, bytes) ≡ x = ok_is (None, bytes) x e in
    subst (λ (y : Option Link × List ℕ). Took taker fits_taker bytes y × (1 ≡ fault_state y.0)) same ((record { parts = refl; rest_fits = fits }, refl), refl)
taker_takes (suc (suc zero)) bytes x fits other small e =
    let a = bind_ok (read_link bytes) _ x e in
    let t = link_takes bytes a.0 fits a.1 in
    let same : (Some a.0.0, a.0.1) ≡ x = ok_is (Some a.0.0, a.0.1) x a.2 in
    subst (λ (y : Option Link × List ℕ). Took taker fits_taker bytes y × (2 ≡ fault_state y.0)) same ((t.0, t.1), refl)
taker_takes (suc (suc (suc k))) bytes x fits other small e = let lt = ltb-true (suc (suc (suc k))) 3 small in absurd (omega arith)

met_fault_takes : (state : ℕ) (bytes : List ℕ) (x : Option FaultRec × List ℕ) →
    IsBytes bytes → eqb state 0 ≡ false → ltb state 3 ≡ true → read_met_fault state bytes ≡ Ok x
    → (before : List ℕ) → Takes before (state ∷ []) bytes → Took fault fits_fault before x
unfolding read_met_fault
met_fault_takes state bytes x fits other small e before t =
    let a = bind_ok (read_byte bytes) _ x e in
    let b = bind_ok (read_below 2 a.0.1) _ x a.2 in
    let c = bind_ok (read_link b.0.1) _ x b.2 in
    let d = bind_ok (read_taker state c.0.1) _ x c.2 in
    let t0 = byte_takes bytes a.0 fits a.1 in
    let t1 = below_takes 2 a.0.1 b.0 t0.0.rest_fits b.1 in
    let t2 = link_takes b.0.1 c.0 t1.0.rest_fits c.1 in
    let t3 = taker_takes state c.0.1 d.0 t2.0.rest_fits other small d.1 in
    let ports = Takes-then b.0.1 (link c.0.0) c.0.1 (taker d.0.0) d.0.1 t2.0 t3.0.0 in
    let flags = Takes-then a.0.1 (b.0.0 ∷ []) b.0.1 (link c.0.0 ++ taker d.0.0) d.0.1 t1.0 ports in
    let all = Takes-then bytes (a.0.0 ∷ []) a.0.1 (b.0.0 ∷ (link c.0.0 ++ taker d.0.0)) d.0.1 t0.0 flags in
    let whole = Takes-then before (state ∷ []) bytes (a.0.0 ∷ b.0.0 ∷ (link c.0.0 ++ taker d.0.0)) d.0.1 t all in
    made fault fits_fault before (Some (record { page = a.0.0; write = b.0.0; port = c.0.0; taker = d.0.0 }), d.0.1) x d.2
    (subst (λ (k : ℕ). Takes before (k ∷ a.0.0 ∷ b.0.0 ∷ (link c.0.0 ++ taker d.0.0)) d.0.1) t3.1 whole, all4 t0.1 t1.1 t2.1 t3.0.1)

fault_takes : (bytes : List ℕ) (x : Option FaultRec × List ℕ) → IsBytes bytes → read_fault bytes ≡ Ok x → Took fault fits_fault bytes x
unfolding read_fault
fault_takes bytes x fits e =
    let a = bind_ok (read_below 3 bytes) _ x e in
    let t = below_takes 3 bytes a.0 fits a.1 in
    by (eqb a.0.0 0) refl a.0.1 t a.2
  where
    by : (b : Bool) → {n : ℕ} → eqb n 0 ≡ b →
        (rest : List ℕ) → Takes bytes (n ∷ []) rest × (ltb n 3 ≡ true) → cond b (Ok (None, rest)) (read_met_fault n rest) ≡ Ok x → Took fault fits_fault bytes x
    by true {n} zero_is rest t e = made fault fits_fault bytes (None, rest) x e (subst (λ (k : ℕ). Takes bytes (k ∷ []) rest) (eqb-true n 0 zero_is) t.0, refl)
    by false {n} other rest t e = met_fault_takes n rest x t.0.rest_fits other t.1 e bytes t.0

may_none : (new : Bool) → allows new false ≡ true
may_none true = refl
may_none false = refl

-- it fits, and may stand in an image of the version
abbrev fits_in : Bool → Rec → Bool
fits_in new b = fits_body b && allows new (body_shows b)

thread_takes : (new : Bool) (bytes : List ℕ) (x : Rec × List ℕ) →
    IsBytes bytes → read_thread new bytes ≡ Ok x → (before : List ℕ) → Takes before (8 ∷ []) bytes → Took body (fits_in new) before x
unfolding read_thread
thread_takes new bytes x fits e before t =
    let a = bind_ok (read_words 16 bytes) _ x e in
    let b = bind_ok (read_number w64 a.0.1) _ x a.2 in
    let c = bind_ok (read_mode new a.0.0 b.0.1) _ x b.2 in
    let d = bind_ok (read_code c.0.0 c.0.1) _ x c.2 in
    let f = bind_ok (read_number w16 d.0.1) _ x d.2 in
    let g = bind_ok (read_talk f.0.1) _ x f.2 in
    let h = bind_ok (read_fault g.0.1) _ x g.2 in
    let t0 = words_take 16 bytes a.0 fits a.1 in
    let t1 = number_takes w64 (2 ^ 64) wide64 a.0.1 b.0 t0.0.rest_fits b.1 in
    let t2 = mode_takes new a.0.0 b.0.1 c.0 t1.0.rest_fits c.1 in
    let t3 = code_takes c.0.0 c.0.1 d.0 t2.0.rest_fits d.1 in
    let t4 = number_takes w16 (2 ^ 16) wide16 d.0.1 f.0 t3.0.rest_fits f.1 in
    let t5 = talk_takes f.0.1 g.0 t4.0.rest_fits g.1 in
    let t6 = fault_takes g.0.1 h.0 t5.0.rest_fits h.1 in
    let mode = and2 (is_mode_byte a.0.0 c.0.0) (allows new (shows_new a.0.0 c.0.0)) t2.1 in
    let code = and2 (is_byte d.0.0) (is_code c.0.0 d.0.0) t3.1 in
    let u5 = Takes-then f.0.1 (talk g.0.0) g.0.1 (fault h.0.0) h.0.1 t5.0 t6.0 in
    let u4 = Takes-then d.0.1 (to_le_bytes w16 f.0.0) f.0.1 (talk g.0.0 ++ fault h.0.0) h.0.1 t4.0 u5 in
    let r4 = to_le_bytes w16 f.0.0 ++ (talk g.0.0 ++ fault h.0.0) in
    let u3 = Takes-then c.0.1 (d.0.0 ∷ []) d.0.1 r4 h.0.1 t3.0 u4 in
    let u2 = Takes-then b.0.1 (c.0.0 ∷ []) c.0.1 (d.0.0 ∷ r4) h.0.1 t2.0 u3 in
    let u1 = Takes-then a.0.1 (to_le_bytes w64 b.0.0) b.0.1 (c.0.0 ∷ d.0.0 ∷ r4) h.0.1 t1.0 u2 in
    let r1 = to_le_bytes w64 b.0.0 ++ (c.0.0 ∷ d.0.0 ∷ r4) in
    let u0 = Takes-then bytes (words a.0.0) a.0.1 r1 h.0.1 t0.0 u1 in
    made body
    (fits_in new) before (Thread (record { regs = a.0.0; pc = b.0.0; mode = c.0.0; code = d.0.0; stops = f.0.0; talk = g.0.0; fault = h.0.0 }), h.0.1) x h.2 (
      Takes-then before (8 ∷ []) bytes (words a.0.0 ++ r1) h.0.1 t u0,
      both _ _
          (both _ _ (both _ _ (all6 t0.1 t1.1 mode.0 code.0 code.1 t4.1) t5.1) t6.1) mode.1,
    )

-- ---- objects and pages

abbrev extent : ℕ × ℕ → List ℕ
extent pages = pages.0 ∷ to_le_bytes w16 pages.1

extent_takes : (bytes : List ℕ) (x : (ℕ × ℕ) × List ℕ) →
    IsBytes bytes → read_extent bytes ≡ Ok x → Took extent (λ p. is_byte p.0 && is_half p.1 && is_extent p.0 p.1) bytes x
unfolding read_extent
extent_takes bytes x fits e =
    let a = bind_ok (read_byte bytes) _ x e in
    let b = bind_ok (read_number w16 a.0.1) _ x a.2 in
    let g = chosen _ _ _ _ _ b.2 in
    let t0 = byte_takes bytes a.0 fits a.1 in
    let t1 = number_takes w16 (2 ^ 16) wide16 a.0.1 b.0 t0.0.rest_fits b.1 in
    made extent (λ p. is_byte p.0 && is_half p.1 && is_extent p.0 p.1) bytes ((a.0.0, b.0.0), b.0.1) x (ap Ok g.1)
    (Takes-then bytes (a.0.0 ∷ []) a.0.1 (to_le_bytes w16 b.0.0) b.0.1 t0.0 t1.0, all3 t0.1 t1.1 g.0)

mapping_takes : (new : Bool) (bytes : List ℕ) (x : Rec × List ℕ) →
    IsBytes bytes → read_mapping bytes ≡ Ok x → (before : List ℕ) → Takes before (3 ∷ []) bytes → Took body (fits_in new) before x
unfolding read_mapping
mapping_takes new bytes x fits e before t =
    let a = bind_ok (read_extent bytes) _ x e in
    let b = bind_ok (read_byte a.0.1) _ x a.2 in
    let c = bind_ok (read_below 2 b.0.1) _ x b.2 in
    let d = bind_ok (read_link c.0.1) _ x c.2 in
    let t0 = extent_takes bytes a.0 fits a.1 in
    let t1 = byte_takes a.0.1 b.0 t0.0.rest_fits b.1 in
    let t2 = below_takes 2 b.0.1 c.0 t1.0.rest_fits c.1 in
    let t3 = link_takes c.0.1 d.0 t2.0.rest_fits d.1 in
    let u2 = Takes-then b.0.1 (c.0.0 ∷ []) c.0.1 (link d.0.0) d.0.1 t2.0 t3.0 in
    let u1 = Takes-then a.0.1 (b.0.0 ∷ []) b.0.1 (c.0.0 ∷ link d.0.0) d.0.1 t1.0 u2 in
    let u0 = Takes-then bytes (extent a.0.0) a.0.1 (b.0.0 ∷ c.0.0 ∷ link d.0.0) d.0.1 t0.0 u1 in
    made body (fits_in new) before (Mapping a.0.0.0 a.0.0.1 b.0.0 c.0.0 d.0.0, d.0.1) x d.2
    (Takes-then before (3 ∷ []) bytes (extent a.0.0 ++ (b.0.0 ∷ c.0.0 ∷ link d.0.0)) d.0.1 t u0, both _ _ (all4 t0.1 t1.1 t2.1 t3.1) (may_none new))

region_takes : (new : Bool) (bytes : List ℕ) (x : Rec × List ℕ) →
    IsBytes bytes → read_region bytes ≡ Ok x → (before : List ℕ) → Takes before (4 ∷ []) bytes → Took body (fits_in new) before x
unfolding read_region
region_takes new bytes x fits e before t =
    let a = bind_ok (read_extent bytes) _ x e in
    let c = bind_ok (read_below 2 a.0.1) _ x a.2 in
    let d = bind_ok (read_link c.0.1) _ x c.2 in
    let t0 = extent_takes bytes a.0 fits a.1 in
    let t2 = below_takes 2 a.0.1 c.0 t0.0.rest_fits c.1 in
    let t3 = link_takes c.0.1 d.0 t2.0.rest_fits d.1 in
    let u2 = Takes-then a.0.1 (c.0.0 ∷ []) c.0.1 (link d.0.0) d.0.1 t2.0 t3.0 in
    let u0 = Takes-then bytes (extent a.0.0) a.0.1 (c.0.0 ∷ link d.0.0) d.0.1 t0.0 u2 in
    made body (fits_in new) before (Region a.0.0.0 a.0.0.1 c.0.0 d.0.0, d.0.1) x d.2
    (Takes-then before (4 ∷ []) bytes (extent a.0.0 ++ (c.0.0 ∷ link d.0.0)) d.0.1 t u0, both _ _ (all3 t0.1 t2.1 t3.1) (may_none new))

port_takes : (new : Bool) (bytes : List ℕ) (x : Rec × List ℕ) →
    IsBytes bytes → read_port bytes ≡ Ok x → (before : List ℕ) → Takes before (5 ∷ []) bytes → Took body (fits_in new) before x
unfolding read_port
port_takes new bytes x fits e before t =
    let a = bind_ok (read_number w16 bytes) _ x e in
    let g = chosen (is_set_word a.0.0) (Port a.0.0, a.0.1) bytes 5 x a.2 in
    let t0 = number_takes w16 (2 ^ 16) wide16 bytes a.0 fits a.1 in
    made body (fits_in new) before (Port a.0.0, a.0.1) x (ap Ok g.1)
    (Takes-then before (5 ∷ []) bytes (to_le_bytes w16 a.0.0) a.0.1 t t0.0, both _ _ (g.0) (may_none new))

mutex_takes : (new : Bool) (bytes : List ℕ) (x : Rec × List ℕ) →
    IsBytes bytes → read_mutex bytes ≡ Ok x → (before : List ℕ) → Takes before (1 ∷ []) bytes → Took body (fits_in new) before x
unfolding read_mutex
mutex_takes new bytes x fits e before t =
    let a = bind_ok (read_below 2 bytes) _ x e in
    let t0 = below_takes 2 bytes a.0 fits a.1 in
    made body (fits_in new) before (Mutex a.0.0, a.0.1) x a.2 (Takes-then before (1 ∷ []) bytes (a.0.0 ∷ []) a.0.1 t t0.0, both _ _ (t0.1) (may_none new))

reference_takes : (new : Bool) (bytes : List ℕ) (x : Rec × List ℕ) →
    IsBytes bytes → read_reference bytes ≡ Ok x → (before : List ℕ) → Takes before (9 ∷ []) bytes → Took body (fits_in new) before x
unfolding read_reference
reference_takes new bytes x fits e before t =
    let a = bind_ok (read_link bytes) _ x e in
    let t0 = link_takes bytes a.0 fits a.1 in
    made body (fits_in new) before (Reference a.0.0, a.0.1) x a.2 (Takes-then before (9 ∷ []) bytes (link a.0.0) a.0.1 t t0.0, both _ _ (t0.1) (may_none new))

body_takes : (new : Bool) (bytes : List ℕ) (x : Rec × List ℕ) → IsBytes bytes → read_body new bytes ≡ Ok x → Took body (fits_in new) bytes x
unfolding read_body
body_takes new bytes x fits e =
    let a = bind_ok (read_byte bytes) _ x e in
    let t = byte_takes bytes a.0 fits a.1 in
    by a.0.0 a.0.1 t.0 a.2
  where
    by : (kind : ℕ) (rest : List ℕ) → Takes bytes (kind ∷ []) rest
        → cond (eqb kind 1) (read_mutex rest) (cond (eqb kind 2) (Ok (Cond, rest)) (cond (eqb kind 3) (read_mapping rest) (cond (eqb kind 4) (read_region rest)
        (cond (eqb kind 5) (read_port rest)
        (cond (eqb kind 6) (Ok (Portset, rest))
        (cond (eqb kind 8) (read_thread new rest) (cond (eqb kind 9) (read_reference rest) (refuse_field bytes 5)))))))) ≡ Ok x
        → Took body (fits_in new) bytes x
    by zero rest t e = absurd (never bytes 5 x e)
    by (suc zero) rest t e = mutex_takes new rest x t.rest_fits e bytes t
    by (suc (suc zero)) rest t e = made body (fits_in new) bytes (Cond, rest) x e (t, may_none new)
    by (suc (suc (suc zero))) rest t e = mapping_takes new rest x t.rest_fits e bytes t
    by (suc (suc (suc (suc zero)))) rest t e = region_takes new rest x t.rest_fits e bytes t
    by (suc (suc (suc (suc (suc zero))))) rest t e = port_takes new rest x t.rest_fits e bytes t
    by (suc (suc (suc (suc (suc (suc zero)))))) rest t e = made body (fits_in new) bytes (Portset, rest) x e (t, may_none new)
    by (suc (suc (suc (suc (suc (suc (suc zero))))))) rest t e = absurd (never bytes 5 x e)
    by (suc (suc (suc (suc (suc (suc (suc (suc zero)))))))) rest t e = thread_takes new rest x t.rest_fits e bytes t
    by (suc (suc (suc (suc (suc (suc (suc (suc (suc zero))))))))) rest t e = reference_takes new rest x t.rest_fits e bytes t
    by (suc (suc (suc (suc (suc (suc (suc (suc (suc (suc k)))))))))) rest t e =
        let n = suc (suc (suc (suc (suc (suc (suc (suc (suc (suc k))))))))) in
        absurd (never bytes 5 x (rw (
          ne_eqb n 1 (λ h. omega arith),
          ne_eqb n 2 (λ h. omega arith),
          ne_eqb n 3 (λ h. omega arith),
          ne_eqb n 4 (λ h. omega arith),
          ne_eqb n 5 (λ h. omega arith),
          ne_eqb n 6 (λ h. omega arith),
          ne_eqb n 8 (λ h. omega arith),
          ne_eqb n 9 (λ h. omega arith),
        ) at e))

abbrev object_fits_in : Bool → ℕ → ObjectRec → Bool
object_fits_in new floor o = fits_object floor o && allows new (object_shows o)

object_takes : (new : Bool) (floor : ℕ) (bytes : List ℕ) (x : ObjectRec × List ℕ) → IsBytes bytes → read_object new floor bytes ≡ Ok x →
    Took object (object_fits_in new floor) bytes x
unfolding read_object
object_takes new floor bytes x fits e =
    let a = bind_ok (read_below 240 bytes) _ x e in
    let g = expect_ok _ _ _ _ _ a.2 in
    let b = bind_ok (read_body new a.0.1) _ x g.1 in
    let t0 = below_takes 240 bytes a.0 fits a.1 in
    let t1 = body_takes new a.0.1 b.0 t0.0.rest_fits b.1 in
    let parts = and2 (fits_body b.0.0) (allows new (body_shows b.0.0)) t1.1 in
    made object (object_fits_in new floor) bytes (record { slot = a.0.0; body = b.0.0 }, b.0.1) x b.2
    (Takes-then bytes (a.0.0 ∷ []) a.0.1 (body b.0.0) b.0.1 t0.0 t1.0, both _ _ (all3 t0.1 g.0 parts.0) parts.1)

page_takes : (floor : ℕ) (bytes : List ℕ) (x : PageRec × List ℕ) → IsBytes bytes → read_page floor bytes ≡ Ok x → Took page (fits_page floor) bytes x
unfolding read_page
page_takes floor bytes x fits e =
    let a = bind_ok (read_byte bytes) _ x e in
    let g = expect_ok _ _ _ _ _ a.2 in
    let b = bind_ok (read_words 64 a.0.1) _ x g.1 in
    let t0 = byte_takes bytes a.0 fits a.1 in
    let t1 = words_take 64 a.0.1 b.0 t0.0.rest_fits b.1 in
    made page (fits_page floor) bytes (record { page = a.0.0; words = b.0.0 }, b.0.1) x b.2
    (Takes-then bytes (a.0.0 ∷ []) a.0.1 (words b.0.0) b.0.1 t0.0 t1.0, all3 t0.1 g.0 t1.1)

abbrev objects_part : List ObjectRec → List ℕ
objects_part os = to_le_bytes w16 (length os) ++ flat_map object os

abbrev pages_part : List PageRec → List ℕ
pages_part ps = to_le_bytes w16 (length ps) ++ flat_map page ps

abbrev objects_fit_in : Bool → List ObjectRec → Bool
objects_fit_in new os = fits_objects os && allows new (list_any object_shows os)

objects_take : (new : Bool) (bytes : List ℕ) (x : List ObjectRec × List ℕ) → IsBytes bytes → read_objects new bytes ≡ Ok x →
    Took objects_part (objects_fit_in new) bytes x
unfolding read_objects
objects_take new bytes x fits e =
    let a = bind_ok (read_number w16 bytes) _ x e in
    let t0 = number_takes w16 (2 ^ 16) wide16 bytes a.0 fits a.1 in
    let t1 = all_takes (read_object new) after_object object (object_fits_in new) (object_takes new) a.0.0 0 a.0.1 x t0.0.rest_fits a.2 in
    let fit = all_left after_object fits_object (λ o. allows new (object_shows o)) 0 x.0 t1.2 in
    let may = allows_all object_shows new x.0 (all_right after_object fits_object (λ o. allows new (object_shows o)) 0 x.0 t1.2) in
    let whole = Takes-then bytes (to_le_bytes w16 a.0.0) a.0.1 (flat_map object x.0) x.1 t0.0 t1.1 in (
      subst (λ (n : ℕ). Takes bytes (to_le_bytes w16 n ++ flat_map object x.0) x.1) (sym t1.0) whole,
      both _ _ (both _ _ (subst (λ (n : ℕ). is_half n ≡ true) (sym t1.0) t0.1) fit) may,
    )

pages_take : (bytes : List ℕ) (x : List PageRec × List ℕ) → IsBytes bytes → read_pages bytes ≡ Ok x → Took pages_part fits_pages bytes x
unfolding read_pages
pages_take bytes x fits e =
    let a = bind_ok (read_number w16 bytes) _ x e in
    let t0 = number_takes w16 (2 ^ 16) wide16 bytes a.0 fits a.1 in
    let t1 = all_takes read_page after_page page fits_page page_takes a.0.0 0 a.0.1 x t0.0.rest_fits a.2 in
    let whole = Takes-then bytes (to_le_bytes w16 a.0.0) a.0.1 (flat_map page x.0) x.1 t0.0 t1.1 in (
      subst (λ (n : ℕ). Takes bytes (to_le_bytes w16 n ++ flat_map page x.0) x.1) (sym t1.0) whole,
      both _ _ (subst (λ (n : ℕ). is_half n ≡ true) (sym t1.0) t0.1) t1.2,
    )

-- ---- spaces

-- a space from what was taken for each of its fields
abbrev space_fits_in : Bool → List SpaceRec × List Open → SpaceRec → Bool
space_fits_in new before s = fits_space before s && allows new (space_shows s)

joined : (new : Bool) (before : List SpaceRec) (path : List Open) (bytes r0 r1 r2 r3 : List ℕ) (s : SpaceRec) (rest : List ℕ)
    → Takes bytes (to_le_bytes w32 s.parent) r0 → Takes r0 (s.slot ∷ []) r1 → Takes r1 (link s.holder) r2
    → Took objects_part (objects_fit_in new) r2 (s.objects, r3) → Took pages_part fits_pages r3 (s.pages, rest)
    → stands_in_order before path s ≡ true → Took space (space_fits_in new (before, path)) bytes (s, rest)
joined new before path bytes r0 r1 r2 r3 s rest t0 t1 t2 t3 t4 placed =
    let os = objects_part s.objects in
    let ps = pages_part s.pages in
    let e34 = Takes-then r2 os r3 ps rest t3.0 t4.0 in
    let e24 = Takes-then r1 (link s.holder) r2 (os ++ ps) rest t2 e34 in
    let e14 = Takes-then r0 (s.slot ∷ []) r1 (link s.holder ++ (os ++ ps)) rest t1 e24 in
    let e04 = Takes-then bytes (to_le_bytes w32 s.parent) r0 (s.slot ∷ (link s.holder ++ (os ++ ps))) rest t0 e14 in
    let regroup : os ++ ps ≡ to_le_bytes w16 (length s.objects)
    ++ (flat_map object s.objects ++ ps) = append_assoc (to_le_bytes w16 (length s.objects)) (flat_map object s.objects) ps in
    let parts = and2 (fits_objects s.objects) (allows new (space_shows s)) t3.1 in (
      subst (λ (c : List ℕ). Takes bytes (to_le_bytes w32 s.parent ++ (s.slot ∷ (link s.holder ++ c))) rest) regroup e04,
      both _ _ (all3 placed parts.0 t4.1) parts.1,
    )

first_takes : (new : Bool) (path : List Open) (bytes : List ℕ) (x : SpaceRec × List ℕ) → IsBytes bytes → read_first new bytes ≡ Ok x →
    Took space (space_fits_in new ([], path)) bytes x
unfolding read_first
first_takes new path bytes x fits e =
    let a = bind_ok (read_number w32 bytes) _ x e in
    let g0 = expect_ok (eqb a.0.0 4294967295) bytes 5 _ x a.2 in
    let b = bind_ok (read_byte a.0.1) _ x g0.1 in
    let g1 = expect_ok (eqb b.0.0 0) a.0.1 5 _ x b.2 in
    let c = bind_ok (read_byte b.0.1) _ x g1.1 in
    let g2 = expect_ok (eqb c.0.0 0) b.0.1 5 _ x c.2 in
    let os = bind_ok (read_objects new c.0.1) _ x g2.1 in
    let ps = bind_ok (read_pages os.0.1) _ x os.2 in
    let t0 = number_takes w32 (2 ^ 32) wide32 bytes a.0 fits a.1 in
    let t1 = byte_takes a.0.1 b.0 t0.0.rest_fits b.1 in
    let t2 = byte_takes b.0.1 c.0 t1.0.rest_fits c.1 in
    let t3 = objects_take new c.0.1 os.0 t2.0.rest_fits os.1 in
    let t4 = pages_take os.0.1 ps.0 t3.0.rest_fits ps.1 in
    let null : Takes b.0.1 (0 ∷ []) c.0.1 = subst (λ (n : ℕ). Takes b.0.1 (n ∷ []) c.0.1) (eqb-true _ _ g2.0) t2.0 in
    let s : SpaceRec = record { parent = a.0.0; slot = b.0.0; holder = Null; objects = os.0.0; pages = ps.0.0 } in
    made space
    (space_fits_in new ([], path)) bytes (s, ps.0.1) x ps.2
    (joined new [] path bytes a.0.1 b.0.1 c.0.1 os.0.1 s ps.0.1 t0.0 t1.0 null t3 t4 (all3 g0.0 g1.0 refl))

room_is : (room : Option ℕ) (bytes : List ℕ) (x : ℕ) → or_refuse_field room bytes 4 ≡ Ok x → room ≡ Some x
room_is None bytes x e = absurd (never bytes 4 x e)
room_is (Some n) bytes x e = ap Some (ok_is n x e)

has_it : (room : Option ℕ) (floor slot : ℕ) → room ≡ Some floor → not (ltb slot floor) ≡ true → has_room room slot ≡ true
has_it room floor slot is e = rw is e

next_takes : (new : Bool) (d : SpaceRec) (before : List SpaceRec) (path : List Open) (bytes : List ℕ) (x : SpaceRec × List ℕ) →
    IsBytes bytes → read_next new (d ∷ before) path bytes ≡ Ok x → Took space (space_fits_in new (d ∷ before, path)) bytes x
unfolding read_next read_room
next_takes new d before path bytes x fits e =
    let a = bind_ok (read_number w32 bytes) _ x e in
    let f = bind_ok (read_room path a.0.0 bytes) _ x a.2 in
    let b = bind_ok (read_below 240 a.0.1) _ x f.2 in
    let g0 = expect_ok _ _ _ _ _ b.2 in
    let g1 = expect_ok _ _ _ _ _ g0.1 in
    let c = bind_ok (read_link b.0.1) _ x g1.1 in
    let os = bind_ok (read_objects new c.0.1) _ x c.2 in
    let ps = bind_ok (read_pages os.0.1) _ x os.2 in
    let t0 = number_takes w32 (2 ^ 32) wide32 bytes a.0 fits a.1 in
    let t1 = below_takes 240 a.0.1 b.0 t0.0.rest_fits b.1 in
    let t2 = link_takes b.0.1 c.0 t1.0.rest_fits c.1 in
    let t3 = objects_take new c.0.1 os.0 t2.0.rest_fits os.1 in
    let t4 = pages_take os.0.1 ps.0 t3.0.rest_fits ps.1 in
    let s : SpaceRec = record { parent = a.0.0; slot = b.0.0; holder = c.0.0; objects = os.0.0; pages = ps.0.0 } in
    made space (space_fits_in new (d ∷ before, path)) bytes (s, ps.0.1) x ps.2
    (joined new (d ∷ before) path bytes a.0.1 b.0.1 c.0.1 os.0.1 s ps.0.1 t0.0 t1.0 t2.0 t3 t4
    (all5 t0.1 t1.1 (has_it (room_under path a.0.0) f.0 b.0.0 (room_is _ bytes f.0 f.1) g0.0) g1.0 t2.1))

placed_takes : (new : Bool) (before : List SpaceRec) (path : List Open) (bytes : List ℕ) (x : SpaceRec × List ℕ) →
    IsBytes bytes → read_placed new before path bytes ≡ Ok x → Took space (space_fits_in new (before, path)) bytes x
placed_takes new [] path bytes x fits e = first_takes new path bytes x fits e
placed_takes new (d ∷ before) path bytes x fits e = next_takes new d before path bytes x fits e

space_takes : (new : Bool) (before : List SpaceRec × List Open) (bytes : List ℕ) (x : SpaceRec × List ℕ) →
    IsBytes bytes → read_space new before bytes ≡ Ok x → Took space (space_fits_in new before) bytes x
unfolding read_space
space_takes new before bytes x fits e = placed_takes new before.0 before.1 bytes x fits e

-- ---- images

version_takes : (bytes : List ℕ) (x : Bool × List ℕ) → IsBytes bytes → read_version bytes ≡ Ok x → Takes bytes (to_le_bytes w16 (version_number x.0)) x.1
unfolding read_version
version_takes bytes x fits e =
    let a = bind_ok (read_number w16 bytes) _ x e in
    let t = number_takes w16 (2 ^ 16) wide16 bytes a.0 fits a.1 in
    by a.0.0 (eqb a.0.0 1) refl (eqb a.0.0 2) refl a.0.1 t.0 a.2
  where
    by : (n : ℕ) (one : Bool) → eqb n 1 ≡ one → (two : Bool) → eqb n 2 ≡ two → (rest : List ℕ) → Takes bytes (to_le_bytes w16 n) rest →
        cond one (Ok (false, rest)) (cond two (Ok (true, rest)) (refuse_field bytes 2)) ≡ Ok x → Takes bytes (to_le_bytes w16 (version_number x.0)) x.1
    by n true is two second rest t e =
        let same : (false, rest) ≡ x = ok_is (false, rest) x e in
        subst (λ (y : Bool × List ℕ). Takes bytes (to_le_bytes w16 (version_number y.0)) y.1) same
        (subst (λ (k : ℕ). Takes bytes (to_le_bytes w16 k) rest) (eqb-true n 1 is) t)
    by n false other true second rest t e =
        let same : (true, rest) ≡ x = ok_is (true, rest) x e in
        subst (λ (y : Bool × List ℕ). Takes bytes (to_le_bytes w16 (version_number y.0)) y.1) same
        (subst (λ (k : ℕ). Takes bytes (to_le_bytes w16 k) rest) (eqb-true n 2 second) t)
    by n false other false second rest t e = absurd (never bytes 2 x e)

abbrev head : Bool × ℕ → List ℕ
head h = magic ++ (to_le_bytes w16 (version_number h.0) ++ to_le_bytes w32 h.1)

abbrev head_fits : Bool × ℕ → Bool
head_fits h = ltb 0 h.1 && ltb h.1 (2 ^ 32)

head_takes : (bytes : List ℕ) (x : (Bool × ℕ) × List ℕ) → IsBytes bytes → read_head bytes ≡ Ok x → Took head head_fits bytes x
unfolding read_head
head_takes bytes x fits e =
    let g0 = expect_ok (not (ltb (length bytes) 8)) bytes 3 _ x e in
    let g1 = expect_ok _ _ _ _ _ g0.1 in
    let a = bind_ok (read_version (drop 8 bytes)) _ x g1.1 in
    let b = bind_ok (read_number w32 a.0.1) _ x a.2 in
    let g3 = expect_ok _ _ _ _ _ b.2 in
    let front : take 8 bytes ≡ magic = same_text (take 8 bytes) magic (sym g1.0) in
    let t0 : Takes bytes magic (drop 8 bytes) =
    record { parts = sym (take-append-drop 8 bytes) ∙ ap (λ (f : List ℕ). f ++ drop 8 bytes) front; rest_fits = IsBytes-drop 8 bytes fits } in
    let t1 = version_takes (drop 8 bytes) a.0 t0.rest_fits a.1 in
    let t2 = number_takes w32 (2 ^ 32) wide32 a.0.1 b.0 t1.rest_fits b.1 in
    let some : b.0.0 ≡ 0 → ⊥ = eqb-false _ _ (not_true _ g3.0) in
    let number = to_le_bytes w16 (version_number a.0.0) in
    let whole = Takes-then bytes magic (drop 8 bytes)
    (number ++ to_le_bytes w32 b.0.0) b.0.1 t0 (Takes-then (drop 8 bytes) number a.0.1 (to_le_bytes w32 b.0.0) b.0.1 t1 t2.0) in
    made head head_fits bytes ((a.0.0, b.0.0), b.0.1) x g3.1 (whole, both _ _ (lt-ltb 0 b.0.0 (omega arith)) t2.1)

pub image_takes : (bytes : List ℕ) (x : Bool × Image) → IsBytes bytes → read_image bytes ≡ Ok x →
    (fits_spaces x.1.spaces ≡ true) × (allows x.0 (image_shows x.1) ≡ true) × (bytes ≡ spelling_in x.0 x.1)
unfolding read_image
image_takes bytes x fits e =
    let a = bind_ok (read_head bytes) _ x e in
    let new = a.0.0.0 in
    let n = a.0.0.1 in
    let b = bind_ok (read_many (read_space new) after_space n ([], root_path) [] a.0.1) _ x a.2 in
    let g = expect_ok _ _ _ _ _ b.2 in
    let t0 = head_takes bytes a.0 fits a.1 in
    let t1 = all_takes (read_space new) after_space space (space_fits_in new) (space_takes new) n ([], root_path) a.0.1 b.0 t0.0.rest_fits b.1 in
    let fit = all_left after_space fits_space (λ s. allows new (space_shows s)) ([], root_path) b.0.0 t1.2 in
    let may = allows_all space_shows new b.0.0 (all_right after_space fits_space (λ s. allows new (space_shows s)) ([], root_path) b.0.0 t1.2) in
    let nothing : b.0.1 ≡ [] = nil_from_length b.0.1 (eqb-true _ _ g.0) in
    let whole = (Takes-then bytes (head (new, n)) a.0.1 (flat_map space b.0.0) b.0.1 t0.0 t1.1).parts in
    let spelled : bytes ≡ spelling_in new (record { spaces = b.0.0 }) = whole ∙ ap (λ (r : List ℕ). (head (new, n) ++ flat_map space b.0.0) ++ r) nothing
    ∙ append-nil _ ∙ ap (λ (k : ℕ). head (new, k) ++ flat_map space b.0.0) (sym t1.0) in
    let counts = and2 (ltb 0 n) (ltb n (2 ^ 32)) t0.1 in
    let some : ltb 0 (length b.0.0) ≡ true = subst (λ (n : ℕ). ltb 0 n ≡ true) (sym t1.0) counts.0 in
    let few : ltb (length b.0.0) (2 ^ 32) ≡ true = subst (λ (n : ℕ). ltb n (2 ^ 32) ≡ true) (sym t1.0) counts.1 in
    subst (λ (y : Bool × Image). (fits_spaces y.1.spaces ≡ true) × (allows y.0 (image_shows y.1) ≡ true) × (bytes ≡ spelling_in y.0 y.1))
    (ok_is (new, record { spaces = b.0.0 }) x g.1) (all3 some few fit, may, spelled)
