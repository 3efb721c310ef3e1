-- Hearers: who hears what is told.
use Rattle.std.proofs.Common.{◌≡◌, ℕ, Bool, true, false, if◌then◌else◌, List, [], Option, Some, None, refl, sym, ap, ◌∙◌}
use Rattle.fk_model.specs.declared.moves.Said as says_of
use Rattle.fk_model.specs.declared.moves.Said.TheVariants as says
use Rattle.fk_model.specs.declared.names.Who.{Who}
use Rattle.fk_model.specs.LinkRows.{told_end}
use Rattle.fk_model.specs.Moves.{Step, closed, stepped}
use Rattle.fk_model.specs.ObjectRows.{kills, told_client, told_port as told_by_port, told_with}
use Rattle.fk_model.specs.Objects.{Body, Mode, Peer, Talk, Thread}
use Rattle.fk_model.specs.Objects.Body.{Mutex, Cond, Mapping, Region, Port, Portset, Space, Thread_of, Reference}
use Rattle.fk_model.specs.Objects.Mode.{Running, Calling, Halted, Native}
use Rattle.fk_model.specs.Objects.Peer.{Server, Service, Parked}
use Rattle.fk_model.specs.Outcomes as outcomes
use Rattle.fk_model.specs.Outcomes.{done, stays, telling}
use Rattle.fk_model.specs.Outcomes.Said.{Nothing, Answered, Taken, Words, Given, Full, Passed, Ended}
use Rattle.fk_model.specs.Places.{Path}
use Rattle.fk_model.specs.Places.Ptr.{At}
use Rattle.fk_model.specs.Searches.{client_at, thread_at}
use Rattle.fk_model.specs.World.{World, Change}
use Rattle.fk_model.proofs.walks.PlaceLaws.{same_path_sym}
use Rattle.fk_store.specs.Store.Moves.{said_by}
use Rattle.fk_store.specs.Store.Named.{Each}
use Rattle.fk_store.specs.Store.Names.{same_who}
use Rattle.fk_store.specs.Store.Paths.{place, HasOwnPath}
use Rattle.fk_plans.specs.declared.plans.plan.Effect.{Effect}
use Rattle.fk_plans.specs.declared.plans.plan.Effect.TheVariants as effects
use Rattle.fk_plans.specs.declared.plans.plan.News.{News}
use Rattle.fk_plans.specs.declared.plans.plan.News.TheVariants as news
use Rattle.fk_plans.specs.declared.plans.plan.Plan.{Plan}
use Rattle.fk_plans.specs.declared.plans.plan.Verdict.{Verdict}
use Rattle.fk_plans.specs.declared.plans.plan.Verdict.TheVariants as verdicts
use Rattle.fk_plans.specs.Plans.Effects.{effect_by, in_running, of_running}
use Rattle.fk_plans.specs.Plans.Hearers.{says_to, says_to_who, to_servers, told_port, IsHeard}
use Rattle.fk_plans.specs.Plans.Plans.{caller_by, changes_by}
use Rattle.fk_plans.specs.Plans.Verdicts.{hearer, hearer_of, news_by, news_in, outcome_by, tells, IsNews, IsVerdict}
use Rattle.fk_store.specs.Store.Contents.{Contents}
use Rattle.fk_changes.specs.declared.readers.caller.Caller.{Caller}

-- ---- by names

-- the server of this port hears it, and no other
pub by-name : (said : says_of.Said) (port : Who) → told_port said ≡ Some port → (who : Who) → says_to_who said who ≡ same_who who port
by-name says.Nothing port is who = absurd (cc)
by-name (says.Answer answer) port is who = absurd (cc)
by-name (says.Taken one client resumed turn moved) port is who = cc
by-name (says.Words one words len) port is who = cc
by-name (says.Given one len) port is who = cc
by-name (says.Full one) port is who = cc
by-name (says.Over one) port is who = cc
by-name (says.Ended one) port is who = absurd (cc)

-- nobody does
pub unheard : (p q : ℕ → Path) (said : says_of.Said) → told_port said ≡ None → IsHeard p (said_by q said) said
unheard p q says.Nothing none who = refl
unheard p q (says.Answer answer) none who = refl
unheard p q (says.Taken port client resumed turn moved) none who = absurd (cc)
unheard p q (says.Words port words len) none who = absurd (cc)
unheard p q (says.Given port len) none who = absurd (cc)
unheard p q (says.Full port) none who = absurd (cc)
unheard p q (says.Over port) none who = absurd (cc)
unheard p q (says.Ended port) none who = refl

-- it is found by its path
pub own : (p : ℕ → Path) (port who : Who) → HasOwnPath p port → says_to (Full (At (place p port))) (place p who) ≡ same_who who port
own p port who apart = same_path_sym (place p port) (place p who) ∙ (apart who).0

-- ---- what tells no server anything

abbrev is_quiet : outcomes.Said → Bool
is_quiet Nothing = true
is_quiet (Answered status words) = true
is_quiet (Taken port client resumed turn moved) = false
is_quiet (Words port words) = false
is_quiet (Given port count) = false
is_quiet (Full port) = false
is_quiet (Passed port) = false
is_quiet (Ended port) = true

-- so a server may hear nothing of it
quiet-servers : (said : outcomes.Said) → is_quiet said ≡ true → to_servers said ≡ Nothing
quiet-servers Nothing quiet = refl
quiet-servers (Answered status words) quiet = refl
quiet-servers (Taken port client resumed turn moved) quiet = absurd (cc)
quiet-servers (Words port words) quiet = absurd (cc)
quiet-servers (Given port count) quiet = absurd (cc)
quiet-servers (Full port) quiet = absurd (cc)
quiet-servers (Passed port) quiet = absurd (cc)
quiet-servers (Ended port) quiet = refl

-- and what is said it hears as what may be heard of it
pub servers-hear : (said : outcomes.Said) (x : Path) → says_to (to_servers said) x ≡ says_to said x
servers-hear Nothing x = refl
servers-hear (Answered status words) x = refl
servers-hear (Taken port client resumed turn moved) x = refl
servers-hear (Words port words) x = refl
servers-hear (Given port count) x = refl
servers-hear (Full port) x = refl
servers-hear (Passed port) x = refl
servers-hear (Ended port) x = refl

-- whom it is for hears by its path before what it hears by its name
pub own-heard : (p : ℕ → Path) (said : says_of.Said) → Each (HasOwnPath p) (told_port said) → IsHeard p (said_by p said) said
own-heard p says.Nothing apart who = refl
own-heard p (says.Answer answer) apart who = refl
own-heard p (says.Taken port client resumed turn moved) apart who = own p port who apart
own-heard p (says.Words port words len) apart who = own p port who apart
own-heard p (says.Given port len) apart who = own p port who apart
own-heard p (says.Full port) apart who = own p port who apart
own-heard p (says.Over port) apart who = own p port who apart
own-heard p (says.Ended port) apart who = refl

quiet-none : (q : ℕ → Path) (said : says_of.Said) → is_quiet (said_by q said) ≡ true → told_port said ≡ None
quiet-none q says.Nothing quiet = refl
quiet-none q (says.Answer answer) quiet = refl
quiet-none q (says.Taken port client resumed turn moved) quiet = absurd (cc)
quiet-none q (says.Words port words len) quiet = absurd (cc)
quiet-none q (says.Given port len) quiet = absurd (cc)
quiet-none q (says.Full port) quiet = absurd (cc)
quiet-none q (says.Over port) quiet = absurd (cc)
quiet-none q (says.Ended port) quiet = refl

quiet-end : (talk : Talk) (peer : Peer) → is_quiet (told_end talk peer) ≡ true
quiet-end talk (Server thread) = refl
quiet-end talk Service = refl
quiet-end talk Parked = refl

quiet-client : (talk : Option Talk) → is_quiet (told_client talk) ≡ true
quiet-client None = refl
quiet-client (Some talk) = quiet-end talk talk.peer

quiet-port : (x : Path) (client : Option Path) → is_quiet (told_by_port x client) ≡ true
quiet-port x None = refl
quiet-port x (Some client) = refl

quiet-death : (w : World) (x : Path) (body : Option Body) → is_quiet (told_with w x body) ≡ true
quiet-death w x None = refl
quiet-death w x (Some (Mutex locked)) = refl
quiet-death w x (Some Cond) = refl
quiet-death w x (Some (Mapping window)) = refl
quiet-death w x (Some (Region extent)) = refl
quiet-death w x (Some (Port set served)) = quiet-port x (client_at w x)
quiet-death w x (Some Portset) = refl
quiet-death w x (Some (Space birth holder)) = refl
quiet-death w x (Some (Thread_of t)) = quiet-client t.talk
quiet-death w x (Some (Reference to)) = refl

quiet-run : (w : World) (p : ℕ → Path) (c : outcomes.Caller) (e : Effect) (o : Option Thread) →
    is_quiet (stepped w (closed c (of_running (effect_by w p (outcomes.path_of c) e) o))).said ≡ true
quiet-run w p c e None = refl
quiet-run w p c e (Some t) = in_mode t.mode
  where
    in_mode : (m : Mode) → is_quiet (stepped w (closed c (in_running (effect_by w p (outcomes.path_of c) e) t.counter m))).said ≡ true
    in_mode (Running g) = by e
      where
        by : (e : Effect) → is_quiet (stepped w (closed c (effect_by w p (outcomes.path_of c) e g t.counter))).said ≡ true
        by (effects.Puts register value) = refl
        by (effects.Jumps to) = refl
        by (effects.Halts code) = refl
        by effects.Enters = refl
        by (effects.Stores space page at value) = refl
    in_mode (Calling todo rest) = refl
    in_mode (Halted g code) = refl
    in_mode (Native g) = refl

-- a user that destroys hears what its port does, a porter its own answer
quiet-destroys : (w : World) (space : Path) (slot : ℕ) (is_porter : Bool) (words : List ℕ) (cs : List Change) (said : outcomes.Said) (last : Bool) →
    is_quiet said ≡ true →
    let c : outcomes.Caller = record { space = space; slot = slot; is_porter = is_porter; words = words } in
    is_quiet (stepped w (closed c (telling said (if last then done c cs [] else stays c cs)))).said ≡ true
quiet-destroys w space slot true words cs said true quiet = refl
quiet-destroys w space slot true words cs said false quiet = refl
quiet-destroys w space slot false words cs said true quiet = quiet
quiet-destroys w space slot false words cs said false quiet = quiet

-- ---- a verdict that is carried out

module _ (w : World) (p q : ℕ → Path) (who : Who) (words : List ℕ) where
  abbrev by_user : Bool → outcomes.Caller
  by_user is_porter = caller_by p (record { who = who; is_porter = is_porter }) words

  quiet-verdict : (is_porter : Bool) (v : Verdict) → hearer_of v ≡ None → is_quiet (stepped w (closed (by_user is_porter) (outcome_by w p (by_user is_porter) v))).said ≡ true
  quiet-verdict is_porter (verdicts.Runs e) none = quiet-run w p (by_user is_porter) e (thread_at w (place p who))
  quiet-verdict true (verdicts.Refused status) none = refl
  quiet-verdict false (verdicts.Refused status) none = refl
  quiet-verdict is_porter verdicts.Waits none = refl
  quiet-verdict true (verdicts.Done plan answers) none = refl
  quiet-verdict false (verdicts.Done plan answers) none = refl
  quiet-verdict true (verdicts.Ends plan answers) none = refl
  quiet-verdict false (verdicts.Ends plan answers) none = refl
  quiet-verdict true (verdicts.Shows plan space page) none = refl
  quiet-verdict false (verdicts.Shows plan space page) none = refl
  quiet-verdict true (verdicts.ShowsRecord object) none = refl
  quiet-verdict false (verdicts.ShowsRecord object) none = refl
  quiet-verdict true (verdicts.Sets object from) none = refl
  quiet-verdict false (verdicts.Sets object from) none = refl
  quiet-verdict true (verdicts.Renames object slot) none = refl
  quiet-verdict false (verdicts.Renames object slot) none = refl
  quiet-verdict is_porter (verdicts.Destroys object last) none =
      quiet-destroys w (p who.space) who.slot is_porter words (kills w (place p object)) (told_with w (place p object) (w.body (place p object))) last
      (quiet-death w (place p object) (w.body (place p object)))
  quiet-verdict true (verdicts.WakesAll cond) none = refl
  quiet-verdict false (verdicts.WakesAll cond) none = refl
  quiet-verdict is_porter (verdicts.Goes plan) none = refl
  quiet-verdict true (verdicts.Tells plan (news.Words words) last) none = absurd (cc)
  quiet-verdict false (verdicts.Tells plan (news.Words words) last) none = absurd (cc)
  quiet-verdict true (verdicts.Tells plan (news.Passed port) last) none = absurd (cc)
  quiet-verdict false (verdicts.Tells plan (news.Passed port) last) none = absurd (cc)
  quiet-verdict true (verdicts.Tells plan (news.Ended port) true) none = refl
  quiet-verdict true (verdicts.Tells plan (news.Ended port) false) none = refl
  quiet-verdict false (verdicts.Tells plan (news.Ended port) true) none = refl
  quiet-verdict false (verdicts.Tells plan (news.Ended port) false) none = refl
  quiet-verdict is_porter (verdicts.Faults page write port) none = refl

  -- it tells the server of this port
  loud-news : (n : News) (port : Who) → hearer n ≡ Some port → HasOwnPath p port → (other : Who) →
      says_to (news_by w p n) (place p other) ≡ same_who other port
  loud-news (news.Words words) port is apart other = let is_port : words.port ≡ port = cc in rw is_port (own p port other apart)
  loud-news (news.Passed one) port is apart other = let is_port : one ≡ port = cc in rw is_port (own p port other apart)
  loud-news (news.Ended one) port is apart other = absurd (cc)

  told-news : (cs : List Change) (n : News) (last : Bool) →
      (stepped w (closed (by_user false) (tells (by_user false) cs (news_by w p n) last))).said ≡ news_by w p n
  told-news cs n true = refl
  told-news cs n false = refl

  telling-verdict : (v : Verdict) (one : Who) → hearer_of v ≡ Some one → (plan : Plan) × (n : News) × (last : Bool) × (v ≡ verdicts.Tells plan n last)
  telling-verdict (verdicts.Tells plan n last) one is = (plan, n, last, refl)
  telling-verdict (verdicts.Runs e) one is = absurd (cc)
  telling-verdict (verdicts.Refused status) one is = absurd (cc)
  telling-verdict verdicts.Waits one is = absurd (cc)
  telling-verdict (verdicts.Done plan answers) one is = absurd (cc)
  telling-verdict (verdicts.Ends plan answers) one is = absurd (cc)
  telling-verdict (verdicts.Shows plan space page) one is = absurd (cc)
  telling-verdict (verdicts.ShowsRecord object) one is = absurd (cc)
  telling-verdict (verdicts.Sets object from) one is = absurd (cc)
  telling-verdict (verdicts.Renames object slot) one is = absurd (cc)
  telling-verdict (verdicts.Destroys object last) one is = absurd (cc)
  telling-verdict (verdicts.WakesAll cond) one is = absurd (cc)
  telling-verdict (verdicts.Goes plan) one is = absurd (cc)
  telling-verdict (verdicts.Faults page write port) one is = absurd (cc)

  -- so who hears it by its path hears it by its name
  pub heard_verdict : (is_porter : Bool) (v : Verdict) (after : World) (said : says_of.Said) →
      ((plan : Plan) (n : News) (last : Bool) → v ≡ verdicts.Tells plan n last → (is_porter ≡ false) × (told_port said ≡ hearer n)) →
      Each (HasOwnPath p) (hearer_of v) →
      stepped w (closed (by_user is_porter) (outcome_by w p (by_user is_porter) v)) ≡ record { world = after; said = said_by q said } →
      IsHeard p (said_by q said) said
  heard_verdict is_porter v after said told apart step = by (hearer_of v) refl
    where
      tells_so : (stepped w (closed (by_user is_porter) (outcome_by w p (by_user is_porter) v))).said ≡ said_by q said
      tells_so = ap (λ (s : Step). s.said) step

      by : (o : Option Who) → hearer_of v ≡ o → IsHeard p (said_by q said) said
      by None none = unheard p q said (quiet-none q said (ap is_quiet (sym tells_so) ∙ quiet-verdict is_porter v none))
      by (Some port) is = in_tells (telling-verdict v port is)
        where
          in_tells : (plan : Plan) × (n : News) × (last : Bool) × (v ≡ verdicts.Tells plan n last) → IsHeard p (said_by q said) said
          in_tells t who =
              let n = t.1 in
              let tells_it : v ≡ verdicts.Tells t.0 t.1 t.2 = t.3 in
              let own_path : HasOwnPath p port = rw is at apart in
              let heard : hearer n ≡ Some port = rw tells_it at is in
              let facts = told t.0 t.1 t.2 tells_it in
              let says_it : said_by q said ≡ news_by w p n = sym (rw (tells_it, facts.0) at tells_so) ∙ told-news (changes_by p words t.0 w) n t.2 in
              ap (λ s. says_to s (place p who)) says_it ∙ loud-news n port heard own_path who ∙ sym (by-name said port (facts.1 ∙ heard) who)

-- ---- a verdict that isn't carried out

in-news : (v : Verdict) (n : News) → news_in v ≡ Some n → (plan : Plan) × (last : Bool) × (v ≡ verdicts.Tells plan n last)
in-news (verdicts.Tells plan one last) n is = let same : one ≡ n = cc in rw same (plan, last, refl)
in-news (verdicts.Runs e) n is = absurd (cc)
in-news (verdicts.Refused status) n is = absurd (cc)
in-news verdicts.Waits n is = absurd (cc)
in-news (verdicts.Done plan answers) n is = absurd (cc)
in-news (verdicts.Ends plan answers) n is = absurd (cc)
in-news (verdicts.Shows plan space page) n is = absurd (cc)
in-news (verdicts.ShowsRecord object) n is = absurd (cc)
in-news (verdicts.Sets object from) n is = absurd (cc)
in-news (verdicts.Renames object slot) n is = absurd (cc)
in-news (verdicts.Destroys object last) n is = absurd (cc)
in-news (verdicts.WakesAll cond) n is = absurd (cc)
in-news (verdicts.Goes plan) n is = absurd (cc)
in-news (verdicts.Faults page write port) n is = absurd (cc)

no-news : (v : Verdict) → news_in v ≡ None → hearer_of v ≡ None
no-news (verdicts.Tells plan one last) none = absurd (cc)
no-news (verdicts.Runs e) none = refl
no-news (verdicts.Refused status) none = refl
no-news verdicts.Waits none = refl
no-news (verdicts.Done plan answers) none = refl
no-news (verdicts.Ends plan answers) none = refl
no-news (verdicts.Shows plan space page) none = refl
no-news (verdicts.ShowsRecord object) none = refl
no-news (verdicts.Sets object from) none = refl
no-news (verdicts.Renames object slot) none = refl
no-news (verdicts.Destroys object last) none = refl
no-news (verdicts.WakesAll cond) none = refl
no-news (verdicts.Goes plan) none = refl
no-news (verdicts.Faults page write port) none = refl

-- a user alone tells a native server news, which can be told
pub news-fit : (m : Contents) (c : Caller) (v : Verdict) (n : News) → news_in v ≡ Some n → IsVerdict m c v → (c.is_porter ≡ false) × IsNews m n
news-fit m c v n is fits = let tells_it = in-news v n is in let there = rw tells_it.2 at fits in (there.0, there.1)

-- and whom it tells
pub news-hearer : (v : Verdict) (n : News) → news_in v ≡ Some n → hearer_of v ≡ hearer n
news-hearer v n is = let tells_it = in-news v n is in rw tells_it.2 refl

pub none-hearer : (v : Verdict) → news_in v ≡ None → hearer_of v ≡ None
none-hearer v none = no-news v none

module _ (w : World) (p : ℕ → Path) (who : Who) (words : List ℕ) where
  abbrev by_one : Bool → outcomes.Caller
  by_one is_porter = caller_by p (record { who = who; is_porter = is_porter }) words

  pub news-told : (is_porter : Bool) (v : Verdict) (n : News) (said : says_of.Said) → news_in v ≡ Some n → is_porter ≡ false →
      said_by p said ≡ news_by w p n →
      to_servers (stepped w (closed (by_one is_porter) (outcome_by w p (by_one is_porter) v))).said ≡ to_servers (said_by p said)
  news-told is_porter v n said is user same =
      let tells_it = in-news v n is in
      rw (tells_it.2, user, same) (ap to_servers (told-news w p p who words (changes_by p words tells_it.0 w) n tells_it.1))

  pub none-told : (is_porter : Bool) (v : Verdict) → news_in v ≡ None →
      to_servers (stepped w (closed (by_one is_porter) (outcome_by w p (by_one is_porter) v))).said ≡ Nothing
  none-told is_porter v none = quiet-servers _ (quiet-verdict w p p who words is_porter v (no-news v none))
