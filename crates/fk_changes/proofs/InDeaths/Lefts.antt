-- Lefts: where no call ends with a port any more, all that end with it have ended.
use Rattle.std.proofs.Common.{◌≡◌, ◌≢◌, ◌⊎◌, inl, inr, Bool, true, false, cond, List, [], ◌∷◌, ◌++◌, Option, Some, None, refl, sym, ap, subst, ◌∙◌}
use Rattle.fk_model.specs.declared.thread.Turn.{Turn}
use Rattle.fk_model.specs.declared.thread.Turn.TheVariants as turns
use Rattle.fk_model.specs.ObjectRows.{ends_of_client, ends_on}
use Rattle.fk_model.specs.Objects.{Talk, Thread, thread_of, and_then, holds}
use Rattle.fk_model.specs.Places.{Path, leads_to}
use Rattle.fk_model.specs.Places.Ptr.{At}
use Rattle.fk_model.specs.Searches.{pointers_to, talk_at}
use Rattle.fk_model.specs.Talks.{if_talking, is_talking, served_end, talking_end}
use Rattle.fk_model.specs.World.{World}
use Rattle.fk_model.proofs.walks.Members.{IsIn, in_left, in_right, in_either}
use Rattle.fk_changes.specs.Deaths.Ends.{ended_where, ends_at, is_in_list, talking}
use Rattle.fk_changes.proofs.InDeaths.Allowed.{by_client, ended_led}
use Rattle.fk_changes.proofs.InDeaths.Clients.{at_port, ends_client_some, has_talk_at, listed_in, talk_same}
use Rattle.fk_changes.proofs.InDeaths.Unheld.{no_talk}

-- ---- who has nothing that ends

pub quiet : (w : World) (side : Turn) (x : Path) → talking side (w.body x) ≡ false → talking_end w side (At x) ≡ []
quiet w side x off = by (and_then thread_of (w.body x)) off
  where
    here : (b : Bool) → b ≡ false → cond b (x ∷ []) [] ≡ []
    here false off = refl
    here true off = absurd (cc)

    by : (o : Option Thread) → holds (λ (t : Thread). is_talking side t.mode) o ≡ false → if_talking side (and_then (λ (t : Thread). Some (x, t)) o) ≡ []
    by None off = refl
    by (Some t) off = here (is_talking side t.mode) off

pub off_port : (w : World) (port x : Path) → has_talk_at w port x ≡ false → ends_at w port x ≡ []
off_port w port x off = rw off refl

pub talk_elsewhere : (w : World) (port x : Path) (talk : Talk) → Some talk ≡ talk_at w x → leads_to port talk.port ≡ false → ends_at w port x ≡ []
talk_elsewhere w port x talk is off = off_port w port x (sym (ap (holds (λ (talk : Talk). leads_to port talk.port)) is) ∙ off)

pub no_talk_there : (w : World) (port x : Path) → None ≡ talk_at w x → ends_at w port x ≡ []
no_talk_there w port x is = off_port w port x (sym (ap (holds (λ (talk : Talk). leads_to port talk.port)) is))

pub both_quiet : (w : World) (port x : Path) (talk : Talk) → Some talk ≡ talk_at w x → talking_end w turns.Client (At x) ≡ [] → served_end w talk.peer ≡ [] →
    ends_at w port x ≡ []
both_quiet w port x talk is client server = by (has_talk_at w port x)
  where
    none : ends_of_client w x ≡ []
    none = (λ i. client i ++ ends_on w x turns.Client) ∙ sym (ends_client_some w x talk is) ∙ server

    by : (b : Bool) → cond b (ends_of_client w x) [] ≡ []
    by true = none
    by false = refl

-- ---- nobody is left

pub is_empty : {A : Type 0} (xs : List A) → (xs ≢ [] → ⊥) → xs ≡ []
is_empty [] h = refl
is_empty (x ∷ xs) h = absurd (h (λ e. absurd (cc)))

-- whoever has a call that ends leads to the port
pub ending_points : (w : World) (port x : Path) → ends_at w port x ≢ [] → pointers_to port (w.body x) ≢ 0
ending_points w port x some none = some (off_port w port x (no_talk port (w.body x) none))

module _ (w v : World) (test : Path → Bool) (is : v ≡ ended_where test w) (port c q : Path) where
  -- whose call hasn't ended is as before
  same_body : test q ≡ false → v.body q ≡ w.body q
  same_body off = ap (λ (u : World). u.body q) is ∙ rw off refl

  same_end : test q ≡ false → (side : Turn) → talking_end v side (At q) ≡ talking_end w side (At q)
  same_end off side = ap (λ b. if_talking side (and_then (λ (t : Thread). Some (q, t)) (and_then thread_of b))) (same_body off)

  ends_there : has_talk_at w port c ≡ true → ends_at v port c ≡ ends_of_client v c
  ends_there on = by (has_talk_at v port c) (ap (holds (λ (talk : Talk). leads_to port talk.port)) (talk_same w v test is port c) ∙ on)
    where
      by : (b : Bool) → b ≡ true → cond b (ends_of_client v c) [] ≡ ends_of_client v c
      by true e = refl
      by false e = absurd (cc)

  left_still : test q ≡ false → IsIn q (talking_end w turns.Client (At c)) ⊎ IsIn q (ends_on w c turns.Client) → IsIn q (ends_of_client v c)
  left_still off (inl h) =
      let same = ended_led w turns.Client (At c) q h in
      let here : c ≡ q = cc in
      let at_q : IsIn q (talking_end w turns.Client (At q)) = subst (λ x. IsIn q (talking_end w turns.Client (At x))) here h in
      let now : IsIn q (talking_end v turns.Client (At q)) = subst (IsIn q) (sym (same_end off turns.Client)) at_q in
      in_left q (talking_end v turns.Client (At c)) (ends_on v c turns.Client) (subst (λ x. IsIn q (talking_end v turns.Client (At x))) (sym here) now)
  left_still off (inr h) =
      let served = by_client w c q h in
      let talk = served.0 in
      let before : IsIn q (served_end w talk.peer) = subst (IsIn q) (sym (ends_client_some w c talk (sym served.1))) h in
      let at_q : IsIn q (talking_end w turns.Server (At q)) = subst (λ peer. IsIn q (served_end w peer)) served.2 before in
      let now : IsIn q (talking_end v turns.Server (At q)) = subst (IsIn q) (sym (same_end off turns.Server)) at_q in
      let after : IsIn q (served_end v talk.peer) = subst (λ peer. IsIn q (served_end v peer)) (sym served.2) now in
      let there : Some talk ≡ talk_at v c = sym (talk_same w v test is port c ∙ served.1) in
      in_right q (talking_end v turns.Client (At c)) (ends_on v c turns.Client) (subst (IsIn q) (ends_client_some v c talk there) after)

  pub has_ended : ends_at v port c ≡ [] → is_in_list q (ends_at w port c) ≡ true → test q ≡ true
  has_ended none ends = by (test q) refl
    where
      by : (b : Bool) → test q ≡ b → b ≡ true
      by true e = refl
      by false e =
          let on = at_port w port c _ refl q ends in
          let still = left_still e (in_either q (talking_end w turns.Client (At c)) (ends_on w c turns.Client) (listed_in q (ends_of_client w c) on.1)) in
          absurd (subst (IsIn q) (sym (ends_there on.0) ∙ none) still)
