-- The next call of a restorer is ready.
use Rattle.laws_jobs.proofs.Ready.{unheld_call_ready}
use Rattle.laws_restore.specs.Sites.Orders.{stage_of, words_of}
use Rattle.laws_restore.specs.Sites.Ready.{NextIsReady}
use Rattle.laws_restore.proofs.InSites.Others.{holding}
use Rattle.laws_restore.proofs.InSites.Comes.{comes}
use Rattle.fk_model.specs.Outcomes.Said.{Answered}

pub next_is_ready : NextIsReady
next_is_ready nester slot g w o shows may valid calm =
    let its = comes nester slot g w shows valid o may in
    unheld_call_ready nester slot w (stage_of slot o) (words_of o) its.changes (Answered its.reply.status its.reply.words)
    (holding nester slot g w shows) calm its.row
