use Rattle.std.proofs.Common.{◌≡◌, length, ap, subst, ◌∙◌, inl, inr, rules, refl}
use Rattle.fk_trace_text.specs.Trace.{Spells, BeginsWithNone}
use Rattle.fk_trace_text.proofs.Traces.{Spells-same, Spells-not_bad, trace_text-all}
use Rattle.fk_workers.specs.Books.Shown.{HasRun, MayMove}
use Rattle.fk_workers.specs.Books.Plays.{MayPlay}
use Rattle.fk_workers.proofs.InBooks.Playing.{none_follows, legal_more, spelled_more}
use Rattle.fk_workers.proofs.books.plays.play_all.Goals as goal

pub returns-in_default-clause-back : goal.returns-in_default-clause-back
returns-in_default-clause-back g c = λ moves spells.
    Spells-not_bad (MayPlay (g.C.Playable.shown c.args.first)) c.args.trace.now moves 0 spells (inl (c.in_default.ensures.none, refl))

pub returns-in_default-2-clause-cause : goal.returns-in_default-2-clause-cause
returns-in_default-2-clause-cause g c =
    let shown = g.C.Playable.shown in
    let book = c.loop-rest.book in
    let inv = c.loop-rest.invariant in
    let kept : HasRun (shown c.args.first) book.history (shown book.core) = subst (λ b. HasRun (shown b) book.history (shown book.core)) inv.boot inv.kept in
    let none : BeginsWithNone (MayMove (shown book.core)) c.loop-rest.rest.now = rw c.in_default-2.is at c.in_ok-after.ensures.none in
    inr (
      book.history,
      record {
        legal = inv.legal;
        rest = c.loop-rest.rest.now;
        spelled = inv.spelled;
        goes_on = search rules;
        stops = none_follows (shown c.args.first) (shown book.core) book.history c.loop-rest.rest.now kept none;
      },
      c.len-index.ensures ∙ ap length c.history.ensures,
    )

pub returns-in_default-2-clause-back : goal.returns-in_default-2-clause-back
returns-in_default-2-clause-back g c = λ moves spells.
    Spells-not_bad (MayPlay (g.C.Playable.shown c.args.first)) c.args.trace.now moves c.len-index.result spells
    (returns-in_default-2-clause-cause g c)

pub loop-rest-preserved : goal.loop-rest-preserved
loop-rest-preserved g c =
    let shown = g.C.Playable.shown in
    let book = c.loop-rest.book in
    let inv = c.loop-rest.invariant in
    let kept : HasRun (shown c.args.first) book.history (shown book.core) = subst (λ b. HasRun (shown b) book.history (shown book.core)) inv.boot inv.kept in
    let made = rw c.in-Some-2.is at c.in_ok-after.ensures.made in
    let one = made.2 in
    record {
      boot = one.boot ∙ inv.boot;
      kept = c.play_next.ensures.kept.1;
      legal = legal_more (shown c.args.first) (shown book.core) book.history _ made.0 c.loop-rest.rest.now _ kept one.moved.may made.1 inv.legal one.history;
      spelled = spelled_more c.args.trace.now c.loop-rest.rest.now _ book.history _ made.0 inv.spelled made.1 one.history;
    }

pub returns-clause-back : goal.returns-clause-back
returns-clause-back g c = λ moves spells.
    let M = MayPlay (g.C.Playable.shown c.args.first) in
    let none : length c.loop-rest.rest.now ≡ 0 = search rules in
    let read : Spells M c.args.trace.now c.loop-rest.book.history = record {
      legal = c.loop-rest.invariant.legal;
      spelled = trace_text-all c.args.trace.now
          c.loop-rest.book.history c.loop-rest.rest.now c.loop-rest.invariant.spelled none;
    } in
    Spells-same M c.args.trace.now c.loop-rest.book.history moves read spells
