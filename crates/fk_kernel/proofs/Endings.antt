-- Endings: which native server has lost its client, by its port's name.
use Rattle.std.proofs.Common.{◌≡◌, ◌≤◌, Bool, true, false, ◌&&◌, is_some, is_none, Option, Some, None, Result, Ok, Err, IfOk, IfSome, IsSome}
use Rattle.std.proofs.Common.{List, ℕ, refl, ap, subst, ◌∙◌}
use Rattle.std.specs.Bool.{OnTrue}
use Rattle.fk_model.specs.declared.moves.Ask.{Ask}
use Rattle.fk_model.specs.declared.moves.Ask.TheVariants as asks
use Rattle.fk_model.specs.declared.moves.Move.{Move}
use Rattle.fk_model.specs.declared.moves.Said as says_of
use Rattle.fk_model.specs.declared.moves.Said.TheVariants as says
use Rattle.fk_model.specs.declared.names.Who.{Who}
use Rattle.fk_model.specs.Endings.{has_ended}
use Rattle.fk_model.specs.Moves.{Step, step}
use Rattle.fk_model.specs.Outcomes.Said.{Nothing}
use Rattle.fk_model.specs.Places.{Path, same_path}
use Rattle.fk_model.specs.Searches.{client_at, depth}
use Rattle.fk_model.specs.Valid.{IsValid}
use Rattle.fk_model.specs.Who.{event_of, named, space_born}
use Rattle.fk_model.proofs.walks.PlaceLaws.{same_path_eq}
use Rattle.fk_store.specs.Store.Contents.{Contents}
use Rattle.fk_store.specs.Store.Moves.{picked_by, said_by}
use Rattle.fk_store.specs.Store.Paths.{path, place}
use Rattle.fk_store.specs.Store.World.{world}
use Rattle.fk_plans.specs.Plans.Hearers.{says_to, says_to_who}
use Rattle.fk_plans.specs.Endings.Clients.{HasClient, LosesClient}
use Rattle.fk_plans.proofs.InEndings.Changes.{client-found, found-client}
use Rattle.fk_turns.specs.Steps.Acted.{HasActed, HasGiven}
use Rattle.fk_turns.specs.Steps.Tellings.{Told}
use Rattle.fk_turns.specs.Steps.Tellings.{Spoken}
use Rattle.fk_turns.specs.Steps.Judgements.{IsEnded, IsHeardBy, IsReadyMove, IsStepTo}
use Rattle.fk_turns.specs.Steps.Speaking.{said_of}
use Rattle.fk_turns.specs.Steps.Waiting.{Standing}
use Rattle.fk_kernel.specs.Acted.{IsActed, IsGiven}
use Rattle.fk_kernel.specs.Events.{is_who, step_of, IsReadyEvent}
use Rattle.fk_kernel.specs.Kernels.{Kept}

module _ (m n : Contents) (valid : IsValid (world m)) (few : (world m).next ≤ depth) (kept : IsValid (world n)) (low : (world n).next ≤ depth) where
  some_before : (p : Path) → HasClient (world m) p → is_some (client_at (world m) p) ≡ true
  some_before p has = client-found (world m) valid.consistent valid.rooted few p has

  some_after : (p : Path) → HasClient (world n) p → is_some (client_at (world n) p) ≡ true
  some_after p has = client-found (world n) kept.consistent kept.rooted low p has

  none_some : (o : Option Path) → is_some o ≡ true → is_none o ≡ false
  none_some None some = absurd (cc)
  none_some (Some x) some = refl

  -- who had a client has one
  stays : (p : Path) → (HasClient (world m) p → HasClient (world n) p) → has_ended (world m) (world n) p ≡ false
  stays p keeps = by (is_some (client_at (world m) p)) refl
    where
      by : (b : Bool) → is_some (client_at (world m) p) ≡ b → (b && is_none (client_at (world n) p)) ≡ false
      by false e = refl
      by true e = none_some (client_at (world n) p) (some_after p (keeps (found-client (world m) p e)))

  -- who lost its client has none
  ends : (p : Path) → LosesClient (world m) (world n) p → has_ended (world m) (world n) p ≡ true
  ends p lost = rw (some_before p lost.had) (by (client_at (world n) p) refl)
    where
      by : (o : Option Path) → client_at (world n) p ≡ o → is_none o ≡ true
      by None e = refl
      by (Some x) e = absurd (lost.none (found-client (world n) p (rw e refl)))

  pub ended-exact : (o : Option Who) → IsEnded m n o → (port : Who) → has_ended (world m) (world n) (place (path m) port) ≡ is_who o port
  ended-exact None ended port = stays (place (path m) port) (ended.ending (place (path m) port))
  ended-exact (Some one) ended port = by (same_path (place (path m) port) (place (path m) one)) refl ∙ (ended.apart port).0
    where
      by : (b : Bool) → same_path (place (path m) port) (place (path m) one) ≡ b → has_ended (world m) (world n) (place (path m) port) ≡ b
      by true e =
          let same = same_path_eq (place (path m) port) (place (path m) one) e in
          rw same (ends (place (path m) one) ended.ending)
      by false e = stays (place (path m) port) (ended.ending.others (place (path m) port) e)

  -- of a move that is tried
  pub ended-tried : {E : Type 0} (born : path m ≡ space_born (world m)) (r : Result (Option Told) E) →
      IfOk r (λ tried. IfSome tried (λ told. IsEnded m n told.ended)) →
      IfOk r (λ tried. IfSome tried (λ told. (port : Who) → has_ended (world m) (world n) (named (world m) port) ≡ is_who told.ended port))
  ended-tried born (Ok (Some told)) ended = λ port. rw (← born) (ended-exact told.ended ended port)
  ended-tried born (Ok None) ended = tt
  ended-tried born (Err e) ended = tt

  -- of an instruction that is proceeded with
  pub ended-proceeded : (born : path m ≡ space_born (world m)) (b : Bool) → OnTrue b (IsEnded m n None) →
      OnTrue b ((port : Who) → has_ended (world m) (world n) (named (world m) port) ≡ false)
  ended-proceeded born true ended = λ port. rw (← born) (ended-exact None ended port)
  ended-proceeded born false ended = tt

  -- of an act of a native server
  pub ended-acted : path m ≡ space_born (world m) → IsEnded m n None → (port : Who) → has_ended (world m) (world n) (named (world m) port) ≡ is_who None port
  ended-acted born ended = λ port. rw (← born) (ended-exact None ended port)

  -- of a move that may not have been made
  pub ended-some : {A : Type 0} (born : path m ≡ space_born (world m)) (o : Option A) → (IsSome o → IsEnded m n None) →
      IsSome o → (port : Who) → has_ended (world m) (world n) (named (world m) port) ≡ false
  ended-some born o ended some = λ port. rw (← born) (ended-exact None (ended some) port)

-- ---- who hears what a move tells

pub heard-tried : {E : Type 0} (m n : Contents) (move : Move) (ask : Ask) (born : path m ≡ space_born (world m)) (r : Result (Option Told) E) →
    IfOk r (λ tried. IfSome tried (λ told. IsReadyMove m move ask × IsStepTo m move ask n told.said)) →
    IfOk r (λ tried. IfSome tried (λ told. IsHeardBy m n told.said)) →
    IfOk r (λ tried. IfSome tried (λ told. (port : Who) →
    says_to (step_of (world m) (event_of (world m) ask move)).said (named (world m) port) ≡ says_to_who told.said port))
heard-tried m n move ask born (Ok (Some told)) made heard = λ port.
    subst (λ p. says_to (step (world m) (place p move.who) (picked_by p move.pick) ask).said (place p port) ≡ says_to_who told.said port) born
    (ap (λ (s : Step). says_to s.said (place (path m) port)) made.1 ∙ heard port)
heard-tried m n move ask born (Ok None) made heard = tt
heard-tried m n move ask born (Err e) made heard = tt

-- ---- an instruction that is proceeded with, as an event

pub made-proceeded : (m n : Contents) (who : Who) (born : path m ≡ space_born (world m)) (b : Bool) →
    OnTrue b (IsReadyMove m (record { who = who; pick = None }) asks.Run × IsStepTo m (record { who = who; pick = None }) asks.Run n says.Nothing) →
    OnTrue b (IsReadyEvent (world m) (event_of (world m) asks.Run (record { who = who; pick = None }))
    × (step_of (world m) (event_of (world m) asks.Run (record { who = who; pick = None })) ≡ record { world = world n; said = Nothing }))
made-proceeded m n who born true made = rw (← born) made
made-proceeded m n who born false made = tt

-- ---- a stage that picks, as an event

pub made-picked : (m n : Contents) (who : Who) (born : path m ≡ space_born (world m)) (o : Option Who) →
    IfSome o (λ other. IsReadyMove m (record { who = who; pick = Some other }) asks.Run
    × IsStepTo m (record { who = who; pick = Some other }) asks.Run n says.Nothing) →
    IfSome o (λ other. IsReadyEvent (world m) (event_of (world m) asks.Run (record { who = who; pick = Some other }))
    × (step_of (world m) (event_of (world m) asks.Run (record { who = who; pick = Some other })) ≡ record { world = world n; said = Nothing }))
made-picked m n who born (Some other) made = rw (← born) made
made-picked m n who born None made = tt

-- ---- what a native server is told, as an event

module _ (m n : Contents) (who : Who) (born : path m ≡ space_born (world m)) where
  abbrev runs : Move
  runs = record { who = who; pick = None }

  pub made-spoken : (o : Option Spoken) → IfSome o (λ spoken. IsReadyMove m runs asks.Run × IsStepTo m runs asks.Run n (said_of n spoken)) →
      IfSome o (λ spoken. IsReadyEvent (world m) (event_of (world m) asks.Run runs)
      × (step_of (world m) (event_of (world m) asks.Run runs) ≡ record { world = world n; said = said_by (path n) (said_of n spoken) }))
  made-spoken (Some spoken) made = rw (← born) made
  made-spoken None made = tt

  pub heard-spoken : (o : Option Spoken) → IfSome o (λ spoken. IsReadyMove m runs asks.Run × IsStepTo m runs asks.Run n (said_of n spoken)) →
      IfSome o (λ spoken. IsHeardBy m n (said_of n spoken)) → IfSome o (λ spoken. (port : Who) →
      says_to (step_of (world m) (event_of (world m) asks.Run runs)).said (named (world m) port) ≡ says_to_who (said_of n spoken) port)
  heard-spoken (Some spoken) made heard = λ port.
      subst (λ p. says_to (step (world m) (place p who) (picked_by p None) asks.Run).said (place p port) ≡ says_to_who (said_of n spoken) port) born
      (ap (λ (s : Step). says_to s.said (place (path m) port)) made.1 ∙ heard port)
  heard-spoken None made heard = tt

-- ---- an act of a native server, as an event

module _ (m n : Contents) (was now : Standing) (port : Who) (valid : IsValid (world m)) (few : (world m).next ≤ depth) (then_valid : IsValid (world n))
    (low : (world n).next ≤ depth) (born : path m ≡ space_born (world m)) where
  abbrev before : Kept
  before = record { store = m; standing = was }

  abbrev after : Kept
  after = record { store = n; standing = now }

  made-acted : (client : Who) (ask : Ask) (said : says_of.Said) → HasActed m n port client ask said → IsActed before after port ask said
  made-acted client ask said acted = record {
    ready = rw (← born) acted.ready;
    step = rw (← born) acted.step;
    ended = ended-acted m n valid few then_valid low born acted.ended;
    told = λ other.
        subst (λ p. says_to (step (world m) (place p port) (picked_by p None) ask).said (place p other) ≡ says_to_who said other) born
        (ap (λ (s : Step). says_to s.said (place (path m) other)) acted.step ∙ acted.heard other);
  }

  pub made-given : (words : List ℕ) (o : Option ℕ) → IfSome o (λ count. (client : Who) × HasGiven m n port client words count) →
      IfSome o (IsGiven before after port words)
  made-given words None given = tt
  made-given words (Some count) given =
      λ numbers len is. made-acted given.0 (asks.Give numbers len) (says.Given port count) (given.1 numbers len is)

  pub made-passed : (b : Bool) → OnTrue b ((client : Who) × HasActed m n port client asks.Over (says.Over port)) →
      OnTrue b (IsActed before after port asks.Over (says.Over port))
  made-passed true passed = made-acted passed.0 asks.Over (says.Over port) passed.1
  made-passed false passed = tt
