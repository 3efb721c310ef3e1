-- Served: the talk that a thread serves, as its server sees it.
use Rattle.std.proofs.Common.{◌≡◌, Bool, true, false, [], ◌∷◌, ◌++◌, Option, Some, None, refl, sym}
use Rattle.fk_model.specs.declared.statuses.status.TheConstants.{NOTLINKED}
use Rattle.fk_model.specs.declared.thread.Turn.TheVariants as turns
use Rattle.fk_model.specs.LinkRows.{disconnect, end_all, removes}
use Rattle.fk_model.specs.Objects.{Talk, holds}
use Rattle.fk_model.specs.Objects.Peer.{Server}
use Rattle.fk_model.specs.Outcomes.{Caller, ◌>>=◌, done, or_refuse, path_of}
use Rattle.fk_model.specs.Outcomes.Outcome.{Refused}
use Rattle.fk_model.specs.Places.{Path}
use Rattle.fk_model.specs.Places.Ptr.{At}
use Rattle.fk_model.specs.Searches.{client_of, objects, talk_at}
use Rattle.fk_model.specs.Talks.{line, line_from, talking_end}
use Rattle.fk_model.specs.World.{World, serves}
use Rattle.fk_model.specs.World.Change.{Alter}
use Rattle.fk_model.specs.World.Edit.{SetTalk}
use Rattle.fk_model.proofs.walks.Members.{find_some}

-- whoever it is, the server's end of the talk removes it so
ends_so : (w : World) (c : Caller) (x : Path) (o : Option Talk) → holds (λ (talk : Talk). serves (path_of c) talk.peer) o ≡ true → (b : Bool) → b ≡ false →
    (or_refuse NOTLINKED (line_from x (λ talk. Server (At x)) o) >>= removes w (record c { is_porter = b }) turns.Server)
    ≡ done (record c { is_porter = b }) (end_all (talking_end w turns.Client (At x)) ++ Alter x (SetTalk None) ∷ []) []
ends_so w c x None h b user = absurd (cc)
ends_so w c x (Some talk) h true user = absurd (cc)
ends_so w c x (Some talk) h false user = refl

pub server_ends : (w : World) (c : Caller) (x : Path) → c.is_porter ≡ false → Some x ≡ client_of w (path_of c) →
    done c (end_all (talking_end w turns.Client (At x)) ++ Alter x (SetTalk None) ∷ []) [] ≡ disconnect w c turns.Server
unfolding disconnect line client_of
server_ends w c x user is =
    let found = (find_some (λ y. holds (λ (talk : Talk). serves (path_of c) talk.peer) (talk_at w y)) x (objects w) (sym is)).1 in
    rw (← is) (sym (ends_so w c x (talk_at w x) found c.is_porter user))

pub server_idle : (w : World) (c : Caller) → None ≡ client_of w (path_of c) → Refused NOTLINKED ≡ disconnect w c turns.Server
unfolding disconnect line
server_idle w c none = rw (← none) refl
