-- The laws of likenesses.
use Rattle.laws_subtrees.specs.Cut.LikenessLaws.{CutIsLikeness, CutIsServedAlike, LikenessIsCutWorld, RebindingIsLikeness, LikenessReadsAlike}
use Rattle.laws_subtrees.specs.Cut.LikenessLaws.{LikenessHoldsAlike}
use Rattle.laws_subtrees.specs.Cut.LikenessLaws.{LikenessServesAlike, LockActsAlike, LikenessStays, CutChangesAlike, PlainStays}
use Rattle.laws_subtrees.proofs.InCut.likeness.Instances.{cut-like, like-cut_world, rebind-like}
use Rattle.laws_subtrees.proofs.InCut.likeness.Reads.{anything_in-like, kind_at-like, handle-like, place-like, referred-like}
use Rattle.laws_subtrees.proofs.InCut.likeness.Memory.{mapping_at-like, region_at-like, keeper-like, reach-like, next_page-like}
use Rattle.laws_subtrees.proofs.InCut.likeness.Holds.{decider-like, is_frozen-like, is_frozen_for-like, is_free-like}
use Rattle.laws_subtrees.proofs.InCut.likeness.Talks.{thread_there-like, talk_at-like, fault_at-like, thread_at-like, line_client-like, line_server-like}
use Rattle.laws_subtrees.proofs.InCut.likeness.Waits.{candidate-like}
use Rattle.laws_subtrees.proofs.InCut.likeness.Walks.{residents-like, beneath-like, leaf-like}
use Rattle.laws_subtrees.proofs.InCut.likeness.Servers.{client_of-like, faulter_of-like, cut-served}
use Rattle.laws_subtrees.proofs.InCut.likeness.Rows.{mutex_lock-like}
use Rattle.laws_subtrees.proofs.InCut.likeness.ChangeLists.{changes-like, cut-changes, plain-changes}

pub cut_is_likeness : CutIsLikeness
cut_is_likeness w nester slot plain = cut-like w nester slot plain

pub cut_is_served_alike : CutIsServedAlike
cut_is_served_alike w nester slot valid few plain = cut-served w nester slot valid plain few

pub likeness_is_cut_world : LikenessIsCutWorld
likeness_is_cut_world root see small big like = like-cut_world like

pub rebinding_is_likeness : RebindingIsLikeness
rebinding_is_likeness bind c alone = rebind-like bind c alone

pub likeness_reads_alike : LikenessReadsAlike
likeness_reads_alike root see small big like = (
  record {
    objects = anything_in-like like;
    kinds = kind_at-like like;
    handles = handle-like like;
    places = place-like like;
    references = referred-like like;
    mappings = mapping_at-like like;
    regions = region_at-like like;
    keepers = keeper-like like;
    reaches = reach-like like;
    next_pages = next_page-like like;
  },
  record {
    threads = thread_there-like like;
    talks = talk_at-like like;
    faults = fault_at-like like;
    ends = thread_at-like like;
    residents = residents-like like;
    beneath = beneath-like like;
    leaves = leaf-like like;
  },
)

pub likeness_holds_alike : LikenessHoldsAlike
likeness_holds_alike root see small big like free = record {
  deciders = decider-like like free;
  frozen = is_frozen-like like free;
  frozen_for = is_frozen_for-like like free;
  free = is_free-like like free;
  candidates = candidate-like like free;
}

pub likeness_serves_alike : LikenessServesAlike
likeness_serves_alike root see small big like facts = record {
  clients = client_of-like like facts;
  faulters = faulter_of-like like facts;
  client_lines = line_client-like like facts.apart;
  server_lines = λ server. line_server-like like server (client_of-like like facts server);
}

pub lock_acts_alike : LockActsAlike
lock_acts_alike root see small big like c m = mutex_lock-like like c m

pub likeness_stays : LikenessStays
likeness_stays root see small big cs ds like changes = changes-like small big cs ds changes like

pub cut_changes_alike : CutChangesAlike
cut_changes_alike w nester slot cs ds plain changes = cut-changes w nester slot cs ds plain changes

pub plain_stays : PlainStays
plain_stays w nester slot cs ds plain changes inside = plain-changes w nester slot cs ds plain changes inside
