-- Names and native servers in a filled world.
use Rattle.std.proofs.Common.{◌≡◌, ℕ, Bool, false, ◌&&◌, is_some, is_none, [], ◌∷◌, Option, Some, None, unwrap_or, refl, sym, ap, ◌∙◌}
use Rattle.std.specs.Prelude.{find}
use Rattle.fk_model.specs.Places.{Path}
use Rattle.fk_model.specs.Places.Ptr.{At}
use Rattle.fk_model.specs.Objects.{Body, port_of, holds}
use Rattle.fk_model.specs.Objects.Body.{Thread_of}
use Rattle.fk_model.specs.World.{World}
use Rattle.fk_model.specs.Searches.{client_at}
use Rattle.fk_model.specs.Valid.{birth_of, birth_at}
use Rattle.fk_model.specs.Who.{is_born, nowhere, space_born}
use Rattle.laws_filled.specs.Filled.{Paging, unfaulted, filled}
use Rattle.laws_filled.specs.Laws.{NamesLeadAlike, PortsAreServedAlike, TalksEndAlike, UnseenEndsNoTalk}
use Rattle.laws_filled.proofs.Reading.{view-same, blind-port, objects-same, client_at-same}

blind-birth : (p : Paging) (b : Body) → birth_of (unfaulted p b) ≡ birth_of b
blind-birth p (Thread_of t) = refl
blind-birth p b = refl

birth-same : (p : Paging) (w : World) (y : Path) → birth_at (filled p w) y ≡ birth_at w y
birth-same p w y = view-same p birth_of (record { same = blind-birth p }) (w.body y)

pub ports_are_served_alike_lem : PortsAreServedAlike
ports_are_served_alike_lem p w (At x) = ap (holds (λ (port : Option ℕ × Bool). port.1)) (view-same p port_of (blind-port p) (w.body x))
ports_are_served_alike_lem p w port = refl

pub names_lead_alike_lem : NamesLeadAlike
unfolding space_born
names_lead_alike_lem p w who = λ i. who.slot ∷ unwrap_or (find (λ s. is_born who.space (birth-same p w s i)) ([] ∷ objects-same p w i)) nowhere

pub talks_end_alike_lem : TalksEndAlike
talks_end_alike_lem p w v port = λ i. is_some (client_at-same p w port i) && is_none (client_at-same p v port i)

pub unseen_ends_no_talk_lem : UnseenEndsNoTalk
unseen_ends_no_talk_lem p q w v same port = (λ i. is_some (client i) && is_none (client_at v port)) ∙ neither (client_at v port)
  where
    client : client_at w port ≡ client_at v port
    client = sym (client_at-same p w port) ∙ ap (λ x. client_at x port) (sym same) ∙ client_at-same q v port

    neither : (o : Option Path) → (is_some o && is_none o) ≡ false
    neither None = refl
    neither (Some x) = refl
