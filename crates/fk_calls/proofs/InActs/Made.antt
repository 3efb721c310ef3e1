-- Made: what an act leaves.
use Rattle.std.proofs.Common.{◌≡◌, ◌<◌, ◌+◌, ◌^◌, ℕ, Bool, true, false, cond, List, [], ◌∷◌, Option, Some, None, refl, sym, ap, ◌∙◌}
use Rattle.fk_model.specs.declared.moves.Said as says_of
use Rattle.fk_model.specs.declared.names.Who.{Who}
use Rattle.fk_model.specs.LinkRows.{is_parked}
use Rattle.fk_model.specs.Objects.{Peer, Talk, and_then, holds}
use Rattle.fk_model.specs.Objects.Peer.{Server, Service, Parked}
use Rattle.fk_model.specs.Places.{Path, same_path}
use Rattle.fk_model.specs.Searches.{is_service, talk_at}
use Rattle.fk_model.specs.Talks.{path_to}
use Rattle.fk_model.specs.World.{World, Change, Edit, apply, apply_all}
use Rattle.fk_model.specs.World.Change.{Alter, PutPage}
use Rattle.fk_model.specs.World.Edit.{CountMoved}
use Rattle.fk_model.proofs.walks.PlaceLaws.{same_path_eq, same_path_ne}
use Rattle.fk_store.specs.Store.Contents.{Contents}
use Rattle.fk_store.specs.Store.Moves.{said_by}
use Rattle.fk_store.specs.Store.Names.{same_who}
use Rattle.fk_store.specs.Store.Paths.{path, place, HasOwnPath}
use Rattle.fk_store.specs.Store.World.{world}
use Rattle.fk_changes.specs.Threads.Shifted.{IsLow}
use Rattle.fk_transfer.proofs.SendLaws.{todo_counted, todo_paged}
use Rattle.fk_plans.specs.Plans.Hearers.{says_to, says_to_who, told_port, IsHeard}
use Rattle.fk_plans.proofs.InPlans.Hearers.{by-name, own}
use Rattle.fk_plans.specs.Endings.Clients.{HasClient, IsEnding, native_at, native_port}
use Rattle.fk_plans.proofs.InEndings.Changes.{AreQuiet, all-same, same-ending, then-same}
use Rattle.fk_calls.specs.declared.acts.act.Act.{Act}
use Rattle.fk_calls.specs.declared.acts.act.Act.TheVariants as acts
use Rattle.fk_calls.specs.Acts.Acts.{changes_of, told_of, IsAct}

-- who receives words can count them once they are there
pub low_later : (w : World) (x s : Path) (page : ℕ) (words : List ℕ) (k : ℕ) → IsLow w x k →
    IsLow (apply (Alter x (CountMoved k)) (apply (PutPage s page words) w)) x k
low_later w x s page words k low = rw (todo_counted (apply (PutPage s page words) w) x x k ∙ todo_paged w x s page words) low

-- ---- each server keeps its client

-- whatever becomes of one who is nobody's client
nobodys : (w : World) (x : Path) (e : Edit) → native_at w x ≡ None → IsEnding w (apply (Alter x e) w) None
unfolding apply
nobodys w x e none p has = record { client = has.client; native = rw (same_path_ne has.client x apart) has.native }
  where
    apart : has.client ≡ x → ⊥
    apart at = absurd (let is = rw at at has.native in cc)

unlinked : (w : World) (x : Path) → talk_at w x ≡ None → native_at w x ≡ None
unlinked w x none = rw none refl

parked : (w : World) (x : Path) → holds (λ (talk : Talk). is_parked (Some talk.peer)) (talk_at w x) ≡ true → native_at w x ≡ None
parked w x is = by (talk_at w x) is
  where
    of_peer : (talk : Talk) (q : Peer) → is_parked (Some q) ≡ true → cond {A = Option Path} (is_service q) (path_to talk.port) None ≡ None
    of_peer talk Parked is = refl
    of_peer talk Service is = absurd (cc)
    of_peer talk (Server thread) is = absurd (cc)

    by : (o : Option Talk) → holds (λ (talk : Talk). is_parked (Some talk.peer)) o ≡ true → and_then native_port o ≡ None
    by None is = absurd (cc)
    by (Some talk) is = of_peer talk talk.peer is

pub act-ending : (m : Contents) (port : Who) (words : List ℕ) (act : Act) → IsAct m port words act →
    IsEnding (world m) (apply_all (changes_of (world m) (path m) port words act) (world m)) None
unfolding apply_all
act-ending m port words (acts.Takes client) is =
    then-same (world m) _ _ None (nobodys (world m) (place (path m) client) _ (unlinked (world m) _ is.for_whom.1)) (all-same _ (_ ∷ []) (refl, tt))
act-ending m port words (acts.Resumes client turn moved) is =
    nobodys (world m) (place (path m) client) _ (parked (world m) (place (path m) client) is.for_whom.1)
act-ending m port words acts.GivesNothing is = λ p has. has
act-ending m port words (acts.Gives client to into count) is =
    same-ending (world m) _ (all-same (world m) (changes_of (world m) (path m) port words (acts.Gives client to into count)) (refl, (refl, (refl, tt))))
act-ending m port words (acts.Fills client) is =
    same-ending (world m) _ (all-same (world m) (changes_of (world m) (path m) port words (acts.Fills client)) (refl, tt))
act-ending m port words (acts.Passes client came) is =
    same-ending (world m) _ (all-same (world m) (changes_of (world m) (path m) port words (acts.Passes client came)) (refl, (refl, tt)))

-- ---- who hears it

pub act-heard : (p q : ℕ → Path) (port : Who) (act : Act) (said : says_of.Said) →
    said_by q said ≡ told_of p port act → told_port said ≡ Some port → HasOwnPath p port → IsHeard p (said_by q said) said
act-heard p q port act said tells is apart who = ap (λ s. says_to s (place p who)) tells ∙ by act ∙ sym (by-name said port is who)
  where
    by : (act : Act) → says_to (told_of p port act) (place p who) ≡ same_who who port
    by (acts.Takes client) = own p port who apart
    by (acts.Resumes client turn moved) = own p port who apart
    by acts.GivesNothing = own p port who apart
    by (acts.Gives client to into count) = own p port who apart
    by (acts.Fills client) = own p port who apart
    by (acts.Passes client came) = own p port who apart
