-- What is noted of servers, and servers that reply by it.
use Rattle.std.proofs.Common.{◌≡◌, ℕ, zero, suc, Bool, true, false, cond, List, [], ◌∷◌, ◌++◌, append_assoc, map, drop, replicate, length, ◌-◌, Option, Some}
use Rattle.std.proofs.Common.{None, refl, sym, ap, subst, ◌∙◌, inl, inr, arith}
use Rattle.std.proofs.lemmas.List.{append-nil, take-append-le, take_all}
use Rattle.std.proofs.lemmas.List.Elements.{filter-append}
use Rattle.std.specs.List.{slice_get}
use Rattle.fk_model.specs.declared.names.Who.{Who}
use Rattle.fk_model.specs.declared.thread.Turn.TheVariants as turns
use Rattle.fk_model.specs.Answers.{answer}
use Rattle.fk_model.specs.World.{World}
use Rattle.fk_model.specs.Runs.{Event}
use Rattle.fk_model.specs.Who.{named}
use Rattle.fk_model.specs.Places.Ptr.{At}
use Rattle.fk_model.specs.Valid.{is_served_port}
use Rattle.fk_natives.specs.declared.service.Side.TheVariants as sides
use Rattle.fk_natives.specs.Natives.{State, OfConsole, OfServer, OfReplay, OfTap, News, Taken, Words, Over, Given, Ended, asks_for, hears, gives_left, given_by}
use Rattle.fk_natives.specs.Natives.{notes_by}
use Rattle.fk_natives.specs.Natives.{seen_of, alias_of, printed_by}
use Rattle.fk_natives.specs.Answers.{after}
use Rattle.fk_responders.specs.Notes as notes
use Rattle.fk_responders.specs.Notes.{is_seen}
use Rattle.laws_trace.specs.Following.{Told, told_in, hears_all, house_with, IsRunWith}
use Rattle.fk_served.specs.Served.{Services, serving, asked_of, asked, asked_at, news_at, after_news, hears_of, servers}
use Rattle.laws_trace.specs.Notes.{news_list, heard_by, noted_of, notes_at, bare, all_bare, printed_of, ServersComeTo, TapsChangeNothing, TapsNote, replies_of}
use Rattle.laws_trace.specs.Notes.{replayed, all_replayed}
use Rattle.laws_trace.specs.Notes.{ReplaysRun, RepliesAreSeen}
use Rattle.laws_trace.proofs.Following.{servers_hear, follows}

-- ---- lists

same_map : {X Y : Type 0} (f g : X → Y) → ((x : X) → f x ≡ g x) → (xs : List X) → map f xs ≡ map g xs
same_map f g same [] = refl
same_map f g same (x ∷ xs) = λ i. same x i ∷ same_map f g same xs i

map_map : {X Y Z : Type 0} (f : Y → Z) (g : X → Y) (xs : List X) → map f (map g xs) ≡ map (λ x. f (g x)) xs
map_map f g [] = refl
map_map f g (x ∷ xs) = ap (λ ys. f (g x) ∷ ys) (map_map f g xs)

map_own : {X : Type 0} (f : X → X) → ((x : X) → f x ≡ x) → (xs : List X) → map f xs ≡ xs
map_own f same [] = refl
map_own f same (x ∷ xs) = λ i. same x i ∷ map_own f same xs i

got_mapped : {X Y : Type 0} (f : X → Y) (xs : List X) (k : ℕ) (x : X) → slice_get xs k ≡ Some x → slice_get (map f xs) k ≡ Some (f x)
got_mapped f [] k x is = absurd (cc)
got_mapped f (y ∷ ys) zero x is = let same : y ≡ x = cc in ap (λ z. Some (f z)) same
got_mapped f (y ∷ ys) (suc k) x is = got_mapped f ys k x is

-- ---- servers that ask for the same in each place

module _ (f : Who × State → State) (same : (e : Who × State) → asks_for (f e) ≡ asks_for e.1) where
  asked_in : (es : Services) (who : Who) → asked_of (serving (map (λ e. (e.0, f e)) es) who) ≡ asked_of (serving es who)
  unfolding serving
  asked_in [] who = refl
  asked_in (e ∷ es) who = by _ (asked_in es who)
    where
      by : (t : Bool) → asked_of (serving (map (λ e. (e.0, f e)) es) who) ≡ asked_of (serving es who) →
          asked_of (cond t (Some (f e)) (serving (map (λ e. (e.0, f e)) es) who)) ≡ asked_of (cond t (Some e.1) (serving es who))
      by true rest = same e
      by false rest = rest

  pub asked_alike : (es : Services) (w : World) (who : Who) → asked (map (λ e. (e.0, f e)) es) w who ≡ asked es w who
  asked_alike es w who = by (is_served_port w (At (named w who)))
    where
      by : (t : Bool) → asked_at t (map (λ e. (e.0, f e)) es) who ≡ asked_at t es who
      by true = asked_in es who
      by false = refl

-- ---- what they come to

heard_on : (s : State) (o : Option News) (ns : List News) → after (after_news o s) ns ≡ after s (news_list o ++ ns)
unfolding after
heard_on s None ns = refl
heard_on s (Some n) ns = refl

come : (told : List Told) (es : Services) → hears_all servers es told ≡ map (λ e. (e.0, after e.1 (heard_by e.0 told))) es
unfolding hears_all heard_by after
come [] es = sym (map_own (λ e. (e.0, after e.1 [])) (λ e. refl) es)
come (t ∷ ts) es =
    come ts (map (hears_of t.0 t.1) es)
    ∙ (map_map (λ e. (e.0, after e.1 (heard_by e.0 ts))) (hears_of t.0 t.1) es
    ∙ same_map (λ e. (e.0, after (after_news (news_at t.0 t.1 (named t.0 e.0)) e.1) (heard_by e.0 ts)))
    (λ e. (e.0, after e.1 (news_list (news_at t.0 t.1 (named t.0 e.0)) ++ heard_by e.0 ts)))
    (λ e. ap (λ s. (e.0, s)) (heard_on e.1 (news_at t.0 t.1 (named t.0 e.0)) (heard_by e.0 ts))) es)

pub servers_come : {J S A V : Type 0} → ServersComeTo J S A V
servers_come g first c past run = servers_hear (house_with g servers) first c past run ∙ come (told_in run) first.servers

-- ---- taps

bare_asks : (s : State) → asks_for (bare s) ≡ asks_for s
bare_asks (OfConsole alias words side) = refl
bare_asks (OfServer index rule config position request left side) = refl
bare_asks (OfReplay replies left side) = refl
bare_asks (OfTap watch noted inner) = bare_asks inner

bare_hears : (s : State) (n : News) → bare (hears s n) ≡ hears (bare s) n
bare_hears (OfConsole alias words side) (Taken turn moved) = refl
bare_hears (OfConsole alias words side) (Words more) = refl
bare_hears (OfConsole alias words side) Over = refl
bare_hears (OfConsole alias words side) (Given count) = refl
bare_hears (OfConsole alias words side) Ended = refl
bare_hears (OfServer index rule config position request left side) (Taken turns.Client moved) = refl
bare_hears (OfServer index rule config position request left side) (Taken turns.Server moved) = refl
bare_hears (OfServer index rule config position request left side) (Words more) = refl
bare_hears (OfServer index rule config position request left sides.Idle) Over = refl
bare_hears (OfServer index rule config position request left sides.Client) Over = refl
bare_hears (OfServer index rule config position request left sides.Own) Over = refl
bare_hears (OfServer index rule config position request left side) (Given count) = refl
bare_hears (OfServer index rule config position request left side) Ended = refl
bare_hears (OfReplay replies left side) (Taken turns.Client moved) = refl
bare_hears (OfReplay [] left side) (Taken turns.Server moved) = refl
bare_hears (OfReplay (r ∷ rs) left side) (Taken turns.Server moved) = refl
bare_hears (OfReplay replies left side) (Words more) = refl
bare_hears (OfReplay replies left sides.Idle) Over = refl
bare_hears (OfReplay [] left sides.Client) Over = refl
bare_hears (OfReplay (r ∷ rs) left sides.Client) Over = refl
bare_hears (OfReplay replies left sides.Own) Over = refl
bare_hears (OfReplay replies left side) (Given count) = refl
bare_hears (OfReplay replies left side) Ended = refl
bare_hears (OfTap watch noted inner) n = bare_hears inner n

bare_after : (s : State) (o : Option News) → bare (after_news o s) ≡ after_news o (bare s)
bare_after s None = refl
bare_after s (Some n) = bare_hears s n

all_bare_hear : (w : World) (e : Event) (es : Services) → all_bare (map (hears_of w e) es) ≡ map (hears_of w e) (all_bare es)
all_bare_hear w e [] = refl
all_bare_hear w e (s ∷ ss) = λ i. (s.0, bare_after s.1 (news_at w e (named w s.0)) i) ∷ all_bare_hear w e ss i

bare_alias : (s : State) → alias_of (bare s) ≡ alias_of s
bare_alias (OfConsole alias words side) = refl
bare_alias (OfServer index rule config position request left side) = refl
bare_alias (OfReplay replies left side) = refl
bare_alias (OfTap watch noted inner) = bare_alias inner

bare_printed : (s : State) → printed_by (bare s) ≡ printed_by s
bare_printed (OfConsole alias words side) = refl
bare_printed (OfServer index rule config position request left side) = refl
bare_printed (OfReplay replies left side) = refl
bare_printed (OfTap watch noted inner) = bare_printed inner

all_bare_printed : (es : Services) → printed_of (all_bare es) ≡ printed_of es
all_bare_printed [] = refl
all_bare_printed (e ∷ es) = λ i. (bare_alias e.1 i, bare_printed e.1 i) ∷ all_bare_printed es i

asked_bare : (es : Services) (w : World) (who : Who) → asked (all_bare es) w who ≡ asked es w who
asked_bare es w who = asked_alike (λ e. bare e.1) (λ e. bare_asks e.1) es w who

pub taps_change_nothing : {J S A V : Type 0} → TapsChangeNothing J S A V
taps_change_nothing g first c past run v is =
    let all = follows (house_with g servers) servers (λ ahead v u. all_bare u ≡ all_bare v)
    (λ ahead v u same w who. sym (asked_bare v w who) ∙ (ap (λ es. asked es w who) (sym same) ∙ asked_bare u w who))
    (λ w e ahead v u same. all_bare_hear w e u ∙ (ap (λ es. map (hears_of w e) es) same ∙ sym (all_bare_hear w e v))) first run [] v is in
    (all.later, all.with, all.is, sym (all_bare_printed all.later) ∙ (ap printed_of all.is ∙ all_bare_printed c.servers))

pub tap_hears : (watch : ℕ) (noted : List notes.Note) (s : State) (ns : List News) → after (OfTap watch noted s) ns
    ≡ OfTap watch (noted ++ seen_of watch (noted_of s ns)) (after s ns)
unfolding after noted_of
tap_hears watch noted s [] = ap (λ ys. OfTap watch ys s) (sym (append-nil noted))
tap_hears watch noted s (n ∷ ns) =
    let now = notes_by (asks_for s) (asks_for (hears s n)) n in
    let later = noted_of (hears s n) ns in
    tap_hears watch (noted ++ seen_of watch now) (hears s n) ns
    ∙ ap (λ ys. OfTap watch ys (after (hears s n) ns))
    (append_assoc noted (seen_of watch now) (seen_of watch later) ∙ ap (λ ys. noted ++ ys) (sym (filter-append (is_seen watch) now later)))

pub taps_note : {J S A V : Type 0} → TapsNote J S A V
taps_note g first c past run k who watch noted s is =
    let ends = servers_come g first c past run in
    subst (λ es. slice_get es k ≡ Some (who, OfTap watch (noted ++ seen_of watch (notes_at run (who, s))) (after s (heard_by who (told_in run))))) (sym ends)
    (got_mapped (λ e. (e.0, after e.1 (heard_by e.0 (told_in run)))) first.servers k (who, OfTap watch noted s) is
    ∙ ap (λ t. Some (who, t)) (tap_hears watch noted s (heard_by who (told_in run))))

-- ---- replays

given_left : (left : List ℕ) → given_by (Some (gives_left left)) ≡ left
given_left [] = refl
given_left (w ∷ ws) = take-append-le (length (w ∷ ws)) (w ∷ ws) (replicate (64 - length (w ∷ ws)) 0) (omega arith) ∙ take_all (length (w ∷ ws)) (w ∷ ws)
    (omega arith)

replayed_asks : (replies : List (List ℕ)) (s : State) → asks_for (replayed replies s) ≡ asks_for s
replayed_asks replies (OfConsole alias words side) = refl
replayed_asks replies (OfServer index rule config position request left sides.Idle) = refl
replayed_asks replies (OfServer index rule config position request left sides.Client) = refl
replayed_asks replies (OfServer index rule config position request left sides.Own) = refl
replayed_asks replies (OfReplay old left sides.Idle) = refl
replayed_asks replies (OfReplay old left sides.Client) = refl
replayed_asks replies (OfReplay old left sides.Own) = refl
replayed_asks replies (OfTap watch noted inner) = replayed_asks replies inner

replayed_hears : (s : State) (n : News) (more : List notes.Note) →
    hears (replayed (replies_of (notes_by (asks_for s) (asks_for (hears s n)) n ++ more)) s) n ≡ replayed (replies_of more) (hears s n)
replayed_hears (OfConsole alias words side) (Taken turn moved) more = refl
replayed_hears (OfConsole alias words side) (Words said) more = refl
replayed_hears (OfConsole alias words side) Over more = refl
replayed_hears (OfConsole alias words side) (Given count) more = refl
replayed_hears (OfConsole alias words side) Ended more = refl
replayed_hears (OfServer index rule config position request left side) (Taken turns.Client moved) more = refl
replayed_hears (OfServer index rule config position request left side) (Taken turns.Server moved) more =
    ap (λ l. OfReplay (replies_of more) l sides.Own) (given_left (drop moved (answer rule config position [])))
replayed_hears (OfServer index rule config position request left side) (Words said) more = refl
replayed_hears (OfServer index rule config position request left sides.Idle) Over more = refl
replayed_hears (OfServer index rule config position request left sides.Client) Over more =
    ap (λ l. OfReplay (replies_of more) l sides.Own) (given_left (drop 0 (answer rule config position request)))
replayed_hears (OfServer index rule config position request left sides.Own) Over more = refl
replayed_hears (OfServer index rule config position request left side) (Given count) more = refl
replayed_hears (OfServer index rule config position request left side) Ended more = refl
replayed_hears (OfReplay old left side) (Taken turns.Client moved) more = refl
replayed_hears (OfReplay [] left side) (Taken turns.Server moved) more = refl
replayed_hears (OfReplay (r ∷ rs) left side) (Taken turns.Server moved) more = ap (λ l. OfReplay (replies_of more) l sides.Own) (given_left r)
replayed_hears (OfReplay old left side) (Words said) more = refl
replayed_hears (OfReplay old left sides.Idle) Over more = refl
replayed_hears (OfReplay [] left sides.Client) Over more = refl
replayed_hears (OfReplay (r ∷ rs) left sides.Client) Over more = ap (λ l. OfReplay (replies_of more) l sides.Own) (given_left r)
replayed_hears (OfReplay old left sides.Own) Over more = refl
replayed_hears (OfReplay old left side) (Given count) more = refl
replayed_hears (OfReplay old left side) Ended more = refl
replayed_hears (OfTap watch noted inner) n more = replayed_hears inner n more

replayed_after : (s : State) (o : Option News) (rest : List News) → after_news o (replayed (replies_of (noted_of s (news_list o ++ rest))) s)
    ≡ replayed (replies_of (noted_of (after_news o s) rest)) (after_news o s)
unfolding noted_of
replayed_after s None rest = refl
replayed_after s (Some n) rest = replayed_hears s n (noted_of (hears s n) rest)

-- what stands in the place of a server, as long as this is still to be told
abbrev stands : List Told → Who × State → State
stands ahead e = replayed (replies_of (noted_of e.1 (heard_by e.0 ahead))) e.1

all_hear : (w : World) (e : Event) (ahead : List Told) (es : Services) →
    map (hears_of w e) (map (λ s. (s.0, stands ((w, e) ∷ ahead) s)) es) ≡ map (λ s. (s.0, stands ahead s)) (map (hears_of w e) es)
unfolding heard_by
all_hear w e ahead [] = refl
all_hear w e ahead (s ∷ ss) =
    λ i. (s.0, replayed_after s.1 (news_at w e (named w s.0)) (heard_by s.0 ahead) i) ∷ all_hear w e ahead ss i

replayed_alias : (replies : List (List ℕ)) (s : State) → alias_of (replayed replies s) ≡ alias_of s
replayed_alias replies (OfConsole alias words side) = refl
replayed_alias replies (OfServer index rule config position request left side) = refl
replayed_alias replies (OfReplay old left side) = refl
replayed_alias replies (OfTap watch noted inner) = replayed_alias replies inner

replayed_printed : (replies : List (List ℕ)) (s : State) → printed_by (replayed replies s) ≡ printed_by s
replayed_printed replies (OfConsole alias words side) = refl
replayed_printed replies (OfServer index rule config position request left side) = refl
replayed_printed replies (OfReplay old left side) = refl
replayed_printed replies (OfTap watch noted inner) = replayed_printed replies inner

all_printed : (es : Services) → printed_of (all_replayed (λ e. []) es) ≡ printed_of es
all_printed [] = refl
all_printed (e ∷ es) = λ i. (replayed_alias [] e.1 i, replayed_printed [] e.1 i) ∷ all_printed es i

at_last : (es : Services) → map (λ s. (s.0, stands [] s)) es ≡ all_replayed (λ e. []) es
unfolding heard_by noted_of
at_last es = refl

pub replays_run : {J S A V : Type 0} → ReplaysRun J S A V
replays_run g first c past run =
    let all = follows (house_with g servers) servers (λ ahead v u. u ≡ map (λ s. (s.0, stands ahead s)) v)
    (λ ahead v u is w who. sym (asked_alike (stands ahead) (λ e. replayed_asks (replies_of (noted_of e.1 (heard_by e.0 ahead))) e.1) v w who)
    ∙ ap (λ es. asked es w who) (sym is))
    (λ w e ahead v u is. ap (λ es. map (hears_of w e) es) is ∙ all_hear w e ahead v)
    first run [] (all_replayed (λ e. replies_of (notes_at run e)) first.servers)
    (ap (λ told. map (λ s. (s.0, stands told s)) first.servers) (sym (append-nil (told_in run)))) in (
      subst (λ es. IsRunWith run servers (all_replayed (λ e. replies_of (notes_at run e)) first.servers) es) (all.is ∙ at_last c.servers) all.with,
      all_printed c.servers,
    )

-- ---- replies are seen

all_seen : (noted : List notes.Note) → replies_of (seen_of 0 noted) ≡ replies_of noted
all_seen [] = refl
all_seen (notes.Taken turn moved ∷ ns) = all_seen ns
all_seen (notes.Said words ∷ ns) = all_seen ns
all_seen (notes.Over ∷ ns) = all_seen ns
all_seen (notes.Reply words ∷ ns) = ap (λ rs. words ∷ rs) (all_seen ns)
all_seen (notes.Ended ∷ ns) = all_seen ns

replies_seen : (noted : List notes.Note) → replies_of (seen_of 1 noted) ≡ replies_of noted
replies_seen [] = refl
replies_seen (notes.Taken turn moved ∷ ns) = replies_seen ns
replies_seen (notes.Said words ∷ ns) = replies_seen ns
replies_seen (notes.Over ∷ ns) = replies_seen ns
replies_seen (notes.Reply words ∷ ns) = ap (λ rs. words ∷ rs) (replies_seen ns)
replies_seen (notes.Ended ∷ ns) = replies_seen ns

pub replies_are_seen : RepliesAreSeen
replies_are_seen watch noted (inl all) = subst (λ w. replies_of (seen_of w noted) ≡ replies_of noted) (sym all) (all_seen noted)
replies_are_seen watch noted (inr replies) = subst (λ w. replies_of (seen_of w noted) ≡ replies_of noted) (sym replies) (replies_seen noted)
