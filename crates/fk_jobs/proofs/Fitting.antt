-- A checkpoint's calls, part by part.
use Rattle.std.proofs.Common.{◌≡◌, ℕ, Bool, true, false, not, ◌&&◌, [], ◌∷◌, Option, Some, None, IfSome, refl, ap, ◌∙◌}
use Rattle.fk_model.specs.declared.moves.Ask.{Ask}
use Rattle.fk_model.specs.declared.moves.Ask.TheVariants as asks
use Rattle.fk_model.specs.declared.stage.Stage.{Stage}
use Rattle.fk_model.specs.declared.stage.Stage.TheVariants as stages
use Rattle.fk_model.specs.Places.{Path}
use Rattle.fk_model.specs.Valid.{is_fit, is_fit_stage}
use Rattle.fk_model.specs.Moves.{chooses, porter_at}
use Rattle.fk_model.specs.Outcomes.{Caller}
use Rattle.fk_model.specs.World.{World}
use Rattle.laws_jobs.specs.Machines.{Head}
use Rattle.laws_jobs.specs.Machines.Head.{Stops, Asks}
use Rattle.laws_checkpoint.specs.Checkpoint as checkpoints
use Rattle.laws_checkpoint.specs.Walk as walks
use Rattle.laws_checkpoint.specs.Foreign as seeks
use Rattle.laws_checkpoint.specs.Contents as reads
use Rattle.laws_checkpoint.specs.Gather as gathers
use Rattle.laws_restore.specs.Restore.Restore as restores
use Rattle.laws_restore.specs.Sites.Orders.{Order, Order as orders, stage_of}
use Rattle.laws_house.specs.Houses.{State, End, machine, ends_as}
use Rattle.laws_house.specs.Houses.State.{Checking, Restoring}
use Rattle.laws_house.specs.Houses.End.{Checked, Restored}
use Rattle.fk_jobs.specs.Jobs.{call_at, asked_by, state_of}
use Rattle.fk_jobs.specs.Fitting.{is_fit_anywhere, is_stage_fit_anywhere, picks_nobody, CheckpointCallsFitAnywhere, JobsPickNobody, FitAnywhereIsFit}

-- what a machine asks is plain and picks nobody, where it asks
abbrev is_easy : Stage → Bool
is_easy stage = is_stage_fit_anywhere stage && not (chooses stage)

abbrev fits : {A : Type 0} → Head A → Bool
fits (Asks stage words) = is_easy stage
fits (Stops end) = true

asks_as : {A : Type 0} (h : Head A) → fits (checkpoints.asks_as h) ≡ fits h
asks_as (Asks stage words) = refl
asks_as (Stops end) = refl

ends : {A B : Type 0} (made : A → B) (h : Head A) → fits (ends_as made h) ≡ fits h
ends made (Asks stage words) = refl
ends made (Stops end) = refl

walk : (slot : ℕ) (s : walks.State) → fits (walks.head slot s) ≡ true
walk slot (walks.Down from [] q k got) = refl
walk slot (walks.Down from (way ∷ ways) q k got) = refl
walk slot (walks.Searches q k got) = refl
walk slot (walks.Over got) = refl

count : (slot : ℕ) (q : Path) → is_easy (seeks.counting slot q) ≡ true
count slot [] = refl
count slot (k ∷ q) = refl

field : (q : Path) (n : ℕ) → is_easy (seeks.reading q n) ≡ true
field [] n = refl
field (k ∷ q) n = refl

seek : (slot : ℕ) (s : seeks.State) → fits (seeks.head slot s) ≡ true
seek slot (seeks.Down from [] t ts) = refl
seek slot (seeks.Down from (k ∷ ways) t ts) = refl
seek slot (seeks.Fields [] t ts) = count slot t.path
seek slot (seeks.Fields (n ∷ fs) t ts) = field t.path n
seek slot (seeks.Inside n fs t ts) = refl
seek slot (seeks.Beside n fs t ts) = refl
seek slot (seeks.Over place) = refl

reader : (slot : ℕ) (s : reads.State) → fits (reads.head slot s) ≡ true
reader slot (reads.Down from [] q qs got) = refl
reader slot (reads.Down from (way ∷ ways) q qs got) = refl
reader slot (reads.Searches k objects q qs got) = refl
reader slot (reads.Reads j objects q qs got) = refl
reader slot (reads.Looks from objects pages q qs got) = refl
reader slot (reads.Copies page objects pages q qs got) = refl
reader slot (reads.Over got) = refl

gather : (slot : ℕ) (s : gathers.State) → fits (gathers.head slot s) ≡ true
gather slot (gathers.Down from [] t ts got) = refl
gather slot (gathers.Down from (k ∷ ways) t ts got) = refl
gather slot (gathers.Fields n fs t ts got) = field t.path n
gather slot (gathers.Looks at n fs t ts got) = refl
gather slot (gathers.Leads k at n fs t ts got) = refl
gather slot (gathers.Beside n fs t ts got) = refl
gather slot (gathers.Over got) = refl

checkpoint : (slot : ℕ) (s : checkpoints.State) → fits (checkpoints.head slot s) ≡ true
checkpoint slot checkpoints.Holds = refl
checkpoint slot (checkpoints.Readies r rest) = refl
checkpoint slot (checkpoints.Walks s) = asks_as (walks.head slot s) ∙ walk slot s
checkpoint slot (checkpoints.Seeks mets s) = asks_as (seeks.head slot s) ∙ seek slot s
checkpoint slot (checkpoints.Reads s) = asks_as (reads.head slot s) ∙ reader slot s
checkpoint slot (checkpoints.Gathers contents s) = asks_as (gathers.head slot s) ∙ gather slot s
checkpoint slot (checkpoints.Drops r rest end) = refl
checkpoint slot (checkpoints.Releases end) = refl
checkpoint slot (checkpoints.Over end) = refl

both : (a b : Bool) → (a && b) ≡ true → (a ≡ true) × (b ≡ true)
both true b is = (refl, is)
both false b is = absurd (cc)

asked : (h : Head End) (ask : Ask) → fits h ≡ true → call_at h ≡ Some ask → is_fit_anywhere ask ≡ true
asked (Asks stage words) ask plain is =
    let same : asks.Call stage words ≡ ask = cc in
    ap is_fit_anywhere (let back : ask ≡ asks.Call stage words = cc in back) ∙ (both (is_stage_fit_anywhere stage) (not (chooses stage)) plain).0
asked (Stops end) ask plain is = cc

pub calls_fit_anywhere : CheckpointCallsFitAnywhere
calls_fit_anywhere slot s ask is = asked (machine.head (Checking slot s)) ask (ends Checked (checkpoints.head slot s) ∙ checkpoint slot s) is

fit_stage : (w : World) (c : Caller) (stage : Stage) → is_stage_fit_anywhere stage ≡ true → is_fit_stage w c stage ≡ true
fit_stage w c (stages.Create s x kind) plain = refl
fit_stage w c (stages.Destroy s x) plain = refl
fit_stage w c (stages.Rename s x y) plain = refl
fit_stage w c (stages.Search s from) plain = refl
fit_stage w c (stages.Point s x s2 x2) plain = refl
fit_stage w c (stages.Clear s x) plain = refl
fit_stage w c (stages.Locate reference s) plain = refl
fit_stage w c (stages.CountIn base s x) plain = refl
fit_stage w c (stages.GetState s x addr) plain = refl
fit_stage w c (stages.SetState s x addr) plain = refl
fit_stage w c (stages.GetPtr s x field reference) plain = refl
fit_stage w c (stages.SetPtr s x field reference) plain = refl
fit_stage w c (stages.SpaceHold s x) plain = refl
fit_stage w c (stages.SpaceRelease s x) plain = refl
fit_stage w c (stages.ThreadStop h) plain = refl
fit_stage w c (stages.ThreadGo h) plain = refl
fit_stage w c (stages.PageGive s page addr) plain = refl
fit_stage w c (stages.PageTake s page addr) plain = refl
fit_stage w c (stages.PageRead s page addr) plain = refl
fit_stage w c (stages.PageNext s from) plain = refl
fit_stage w c (stages.MutexLock m) plain = refl
fit_stage w c (stages.MutexTrylock m) plain = refl
fit_stage w c (stages.MutexUnlock m) plain = refl
fit_stage w c (stages.CondWait cond m) plain = refl
fit_stage w c (stages.CondAsleep cond m) plain = refl
fit_stage w c (stages.CondSignal cond) plain = cc
fit_stage w c (stages.CondBroadcast cond) plain = refl
fit_stage w c (stages.Connect h) plain = refl
fit_stage w c (stages.ClientReceive addr room) plain = refl
fit_stage w c (stages.ClientSend addr count) plain = refl
fit_stage w c stages.ClientOver plain = refl
fit_stage w c stages.Disconnect plain = refl
fit_stage w c (stages.ClientOverRef reference) plain = refl
fit_stage w c (stages.ClientReceiveRef addr room reference) plain = refl
fit_stage w c (stages.Wait set) plain = cc
fit_stage w c (stages.ServerReceive addr room) plain = refl
fit_stage w c (stages.ServerSend addr count) plain = refl
fit_stage w c stages.ServerOver plain = refl
fit_stage w c stages.ServerEnd plain = refl
fit_stage w c stages.FaultDone plain = refl
fit_stage w c (stages.ServerOverRef reference) plain = refl
fit_stage w c (stages.ServerReceiveRef addr room reference) plain = refl
fit_stage w c (stages.LinkSet s x port server) plain = cc
fit_stage w c (stages.LinkPark s x port) plain = cc
fit_stage w c (stages.FaultSet s x port taker) plain = cc
fit_stage w c (stages.FaultPark s x port taken) plain = cc
fit_stage w c (stages.HoldSet s x thread) plain = refl
fit_stage w c (stages.SpaceMakeHeld x) plain = refl

pub fits_anywhere : FitAnywhereIsFit
unfolding is_fit
fits_anywhere w x (asks.Call stage words) plain = fit_stage w (porter_at x words) stage plain
fits_anywhere w x asks.Run plain = refl
fits_anywhere w x asks.Accept plain = refl
fits_anywhere w x (asks.Give words len) plain = refl
fits_anywhere w x asks.Over plain = refl

-- ---- no call picks anybody

abbrev is_unpicking : {A : Type 0} → Head A → Bool
is_unpicking (Asks stage words) = not (chooses stage)
is_unpicking (Stops end) = true

ends_unpicking : {A B : Type 0} (made : A → B) (h : Head A) → is_unpicking (ends_as made h) ≡ is_unpicking h
ends_unpicking made (Asks stage words) = refl
ends_unpicking made (Stops end) = refl

order : (slot : ℕ) (o : Order) → not (chooses (stage_of slot o)) ≡ true
order slot (orders.Readies r) = refl
order slot (orders.Leads r s q x) = refl
order slot (orders.LeadsTop r) = refl
order slot (orders.Makes s q x kind) = refl
order slot (orders.Sets s q x words) = refl
order slot (orders.Points s q x r) = refl
order slot (orders.Gives s q page words) = refl
order slot orders.MakesPin = refl
order slot (orders.Pins i) = refl
order slot (orders.Takes r) = refl
order slot (orders.Checks r i) = refl
order slot (orders.ParksTalk s q x i words) = refl
order slot (orders.ParksFault s q x i taken words) = refl
order slot (orders.LinksTalk s q x r u port server words) = refl
order slot (orders.RaisesFault s q x r port words) = refl
order slot (orders.LinksFault s q x r u port taker words) = refl
order slot (orders.Holds s q x r holder) = refl
order slot (orders.Drops r) = refl
order slot orders.DropsPin = refl
order slot (orders.Deadens r) = refl

restore : (slot : ℕ) (s : restores.State) → is_unpicking (restores.head slot s) ≡ true
restore slot restores.Makes = refl
restore slot (restores.Works []) = refl
restore slot (restores.Works (o ∷ os)) = order slot o
restore slot (restores.Clears [] more port) = refl
restore slot (restores.Clears (o ∷ os) more port) = order slot o
restore slot (restores.Over end) = refl

easily : {A : Type 0} (h : Head A) → fits h ≡ true → is_unpicking h ≡ true
easily (Asks stage words) easy = (both (is_stage_fit_anywhere stage) (not (chooses stage)) easy).1
easily (Stops end) easy = refl

state : (s : State) → is_unpicking (machine.head s) ≡ true
state (Checking slot s) = ends_unpicking Checked (checkpoints.head slot s) ∙ easily (checkpoints.head slot s) (checkpoint slot s)
state (Restoring slot pairs image s) = ends_unpicking Restored (restores.head slot s) ∙ restore slot s

call : (h : Head End) → is_unpicking h ≡ true → IfSome (call_at h) (λ ask. picks_nobody ask ≡ true)
call (Asks stage words) is = is
call (Stops end) is = tt

asked_for : (s : Option State) → IfSome (asked_by s) (λ ask. picks_nobody ask ≡ true)
asked_for None = tt
asked_for (Some s) = call (machine.head s) (state s)

pub pick_nobody : JobsPickNobody
pick_nobody q = asked_for (state_of q)
