-- Foreseen: what a move would tell, as an event.
use Rattle.std.proofs.Common.{◌≡◌, ◌≤◌, ℕ, Bool, true, false, ◌&&◌, is_some, is_none, Option, Some, None, IfSome, IfNone, option_map, refl, sym, ap, subst, ◌∙◌}
use Rattle.fk_model.specs.declared.moves.Ask.{Ask}
use Rattle.fk_model.specs.declared.moves.Move.{Move}
use Rattle.fk_model.specs.declared.names.Who.{Who}
use Rattle.fk_model.specs.Endings.{has_ended}
use Rattle.fk_model.specs.Places.{Path, same_path}
use Rattle.fk_model.specs.Runs.{Event, after}
use Rattle.fk_model.specs.Searches.{client_at, depth}
use Rattle.fk_model.specs.Valid.{IsValid}
use Rattle.fk_model.specs.Who.{event_of, space_born}
use Rattle.fk_model.specs.World.{World}
use Rattle.fk_model.proofs.walks.PlaceLaws.{same_path_eq}
use Rattle.fk_store.specs.Store.Contents.{Contents}
use Rattle.fk_store.specs.Store.Moves.{picked_by, said_by}
use Rattle.fk_store.specs.Store.Named.{Each}
use Rattle.fk_store.specs.Store.Paths.{path, place, HasOwnPath}
use Rattle.fk_store.specs.Store.World.{world}
use Rattle.fk_plans.specs.Plans.Hearers.{says_to, says_to_who, to_servers}
use Rattle.fk_plans.specs.Endings.Clients.{HasClient, IsEnding, LosesClient}
use Rattle.fk_plans.proofs.InEndings.Changes.{client-found, found-client}
use Rattle.fk_calls.specs.Calls.Judgements.{is_fit_move, IsReadyMove}
use Rattle.fk_calls.specs.Calls.Tried.{Foretells}
use Rattle.fk_kernel.specs.Tolds.{Told}
use Rattle.fk_kernel.specs.Events.{is_fit_event, is_who, IsReadyEvent}
use Rattle.laws_jobs.specs.Machines.{said_of}
use Rattle.fk_served.specs.Foretold.{IsForetold}

module _ (w v : World) (valid : IsValid w) (few : w.next ≤ depth) where
  some_before : (p : Path) → HasClient w p → is_some (client_at w p) ≡ true
  some_before p has = client-found w valid.consistent valid.rooted few p has

  -- who lost its client has none
  ends : (p : Path) → LosesClient w v p → has_ended w v p ≡ true
  ends p lost = rw (some_before p lost.had) (by (client_at v p) refl)
    where
      by : (o : Option Path) → client_at v p ≡ o → is_none o ≡ true
      by None e = refl
      by (Some x) e = absurd (lost.none (found-client v p (rw e refl)))

  none_some : (o : Option Path) → is_some o ≡ true → is_none o ≡ false
  none_some None some = absurd (cc)
  none_some (Some x) some = refl

  -- who had a client has one
  stays : IsValid v → v.next ≤ depth → (p : Path) → (HasClient w p → HasClient v p) → has_ended w v p ≡ false
  stays kept low p keeps = by (is_some (client_at w p)) refl
    where
      by : (b : Bool) → is_some (client_at w p) ≡ b → (b && is_none (client_at v p)) ≡ false
      by false e = refl
      by true e = none_some (client_at v p) (client-found v kept.consistent kept.rooted low p (keeps (found-client w p e)))

  -- by the name of its port, which has a path of its own
  loses-named : (p : ℕ → Path) (o : Option Who) → IsEnding w v (option_map (place p) o) → Each (HasOwnPath p) o →
      (port : Who) → is_who o port ≡ true → has_ended w v (place p port) ≡ true
  loses-named p None ending apart port is = absurd (cc)
  loses-named p (Some one) ending apart port is =
      let same = same_path_eq (place p port) (place p one) ((apart port).0 ∙ is) in
      rw same (ends (place p one) ending)

  keeps-named : (p : ℕ → Path) (o : Option Who) → IsEnding w v (option_map (place p) o) → Each (HasOwnPath p) o → IsValid v → v.next ≤ depth →
      (port : Who) → is_who o port ≡ false → has_ended w v (place p port) ≡ false
  keeps-named p None ending apart kept low port is = stays kept low (place p port) (ending (place p port))
  keeps-named p (Some one) ending apart kept low port is = stays kept low (place p port) (ending.others (place p port) ((apart port).0 ∙ is))

module _ (m : Contents) (move : Move) (ask : Ask) (born : path m ≡ space_born (world m)) where
  -- the move, where spaces have these paths
  abbrev event_by : (ℕ → Path) → Event
  event_by p = record { mover = place p move.who; pick = picked_by p move.pick; ask = ask }

  abbrev leads : (ℕ → Path) → World
  leads p = after (world m) (event_by p)

  pub fit-move : is_fit_event (world m) (event_of (world m) ask move) ≡ true → is_fit_move m move ask ≡ true
  fit-move fit = rw born fit

  pub unready-event : (o : Option Told) → IfNone o (IsReadyMove m move ask → ⊥) → IfNone o (IsReadyEvent (world m) (event_of (world m) ask move) → ⊥)
  unready-event None unready = subst (λ p. IsReadyEvent (world m) (event_by p) → ⊥) born unready
  unready-event (Some told) unready = tt

  pub foretold-event : IsValid (world m) → (world m).next ≤ depth →
      (o : Option Told) → IfSome o (Foretells m move ask) → IfSome o (IsForetold (world m) (path m) (event_of (world m) ask move))
  foretold-event valid few None told = tt
  foretold-event valid few (Some one) told = record {
    said = subst (λ p. to_servers (said_of (world m) (event_by p)) ≡ to_servers (said_by (path m) one.said)) born told.said;
    heard = λ port. subst (λ p. says_to (said_by (path m) one.said) (place p port) ≡ says_to_who one.said port) born (told.heard port);
    loses = λ port is. subst (λ p. has_ended (world m) (leads p) (place p port) ≡ true) born
        (loses-named (world m) (leads (path m)) valid few (path m) one.ended told.ending told.apart port is);
    keeps = λ kept low port is. subst (λ p. has_ended (world m) (leads p) (place p port) ≡ false) born
        (keeps-named (world m) (leads (path m)) valid few (path m) one.ended told.ending told.apart
        (subst (λ p. IsValid (leads p)) (sym born) kept) (subst (λ p. (leads p).next ≤ depth) (sym born) low) port is);
  }
