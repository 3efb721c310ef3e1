-- Acted: an act that was carried out where it stands is the machine's.
use Rattle.std.proofs.Common.{◌≡◌, ℕ, List, [], take, Some, None, true, false, refl, sym, ap, subst, ◌∙◌}
use Rattle.fk_model.specs.declared.moves.Ask.{Ask}
use Rattle.fk_model.specs.declared.moves.Ask.TheVariants as asks
use Rattle.fk_model.specs.declared.moves.Said as says_of
use Rattle.fk_model.specs.declared.names.Who.{Who}
use Rattle.fk_model.specs.Moves.{outcome, step, stepped, with_pick, GoesAllowed}
use Rattle.fk_model.specs.NativeRows.{give_row, over_row}
use Rattle.fk_model.specs.Places.{Path}
use Rattle.fk_model.specs.World.{World, apply_all}
use Rattle.fk_store.specs.Store.Contents.{Contents}
use Rattle.fk_store.specs.Store.Moves.{said_by}
use Rattle.fk_store.specs.Store.Paths.{path, place, HasOwnPath}
use Rattle.fk_store.specs.Store.World.{world}
use Rattle.fk_plans.specs.Plans.Hearers.{told_port}
use Rattle.fk_calls.specs.declared.acts.act.Act.{Act}
use Rattle.fk_calls.specs.Acts.Acts.{changes_of, is_act, is_act_allowed, outcome_by, told_of, IsAct}
use Rattle.fk_calls.specs.Calls.Acted.{act_of, HasActed}
use Rattle.fk_calls.specs.Calls.Judgements.{client_by}
use Rattle.fk_calls.proofs.InActs.Allowed.{allowed_iff}
use Rattle.fk_calls.proofs.InActs.Made.{act-ending, act-heard}
use Rattle.fk_calls.proofs.InCalls.Touches.{acting}

-- what a server asks to give is words, whatever stands behind them
pub row_given : (w : World) (p : ℕ → Path) (port : Who) (words numbers : List ℕ) (len : ℕ) (act : Act) → take len numbers ≡ words →
    outcome_by w p port words (Some act) ≡ give_row w (place p port) words →
    outcome_by w p port words (Some act) ≡ outcome w (place p port) None (asks.Give numbers len)
unfolding outcome
row_given w p port words numbers len act given row =
    ap (with_pick false None) row ∙ ap (λ (l : List ℕ). with_pick false None (give_row w (place p port) l)) (sym given)

pub row_passed : (w : World) (p : ℕ → Path) (port : Who) (act : Act) → outcome_by w p port [] (Some act) ≡ over_row w (place p port) →
    outcome_by w p port [] (Some act) ≡ outcome w (place p port) None asks.Over
unfolding outcome
row_passed w p port act row = ap (with_pick false None) row

pub acted : (m n : Contents) (port client : Who) (ask : Ask) (words : List ℕ) (act : Act) (said : says_of.Said) → is_act ask ≡ true →
    IsAct m port words act →
    outcome_by (world m) (path m) port words (Some act) ≡ outcome (world m) (place (path m) port) None ask →
    is_act_allowed (world m) (place (path m) port) (path m) act ≡ true →
    world n ≡ apply_all (changes_of (world m) (path m) port words act) (world m) →
    said_by (path n) said ≡ told_of (path m) port act → told_port said ≡ Some port → HasOwnPath (path m) port →
    Some (place (path m) client) ≡ client_by (world m) (place (path m) port) None ask → HasActed m n port client ask said
unfolding step
acted m n port client ask words act said is fits row allowed world_is said_is told own client_is = record {
  ready = subst (GoesAllowed (world m) (place (path m) port)) row ((allowed_iff m port words act fits).0 allowed);
  step = ap (stepped (world m)) (sym row) ∙ rw (world_is, said_is) refl;
  ended = record { ending = rw world_is (act-ending m port words act fits); apart = tt };
  heard = act-heard (path m) (path n) port act said said_is told own;
  touched = acting m (act_of port) ask (Some client) is client_is;
}
