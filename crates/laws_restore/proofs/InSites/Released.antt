-- The release leaves what was built.
use Rattle.std.proofs.Common.{◌≡◌, [], sym, ap, ◌∙◌}
use Rattle.fk_model.specs.declared.statuses.status.TheConstants.{OK}
use Rattle.fk_model.specs.Outcomes.Said.{Answered}
use Rattle.laws_jobs.specs.Machines.{Reply, reply_of}
use Rattle.laws_jobs.proofs.Holds.{release_comes_to}
use Rattle.laws_restore.specs.Sites.Ready.{Releases}
use Rattle.laws_restore.proofs.InSites.Others.{holding}
use Rattle.laws_restore.proofs.InSites.Ended.{built_is_cut}

pub releases : Releases
releases nester slot g w reply shows pin answered =
    let its = release_comes_to nester slot w (holding nester slot g w shows) answered.ready in
    let told : reply ≡ reply_of (Answered OK []) = sym answered.said ∙ ap reply_of its.said in
    rw its.world (ap (λ (r : Reply). r.status) told, its.unheld, its.cut ∙ built_is_cut nester slot g w shows pin)
