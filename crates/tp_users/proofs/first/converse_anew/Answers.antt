use Rattle.std.proofs.Common.{sym, subst}
use Rattle.std.proofs.lemmas.Result.{on_ok_weaker}
use Rattle.nbd_session.specs.Session.{State}
use Rattle.nbd_session.specs.Clauses.{IsReady}
use Rattle.nbd_session.specs.Talk.{Converses}
use Rattle.tp_users.specs.First.{CountedCall, counted, outline_of_counted}
use Rattle.tp_users.proofs.first.converse_anew.Goals as goal

pub converse-requires : goal.converse-requires
converse-requires g c =
    subst (λ (t : State). IsReady t.phase (g.V.Volumes.view.outline c.args.pool.now) (g.V.Volumes.view.more c.args.pool.now)) (sym c.in_ok-session.ensures.opened) c.requires

pub returns-clause-talks : goal.returns-clause-talks
returns-clause-talks g c =
    on_ok_weaker c.converse.result
    (λ talks s shown.
    let t = talks s shown in (
      c.converse.new.session,
      t.0,
      subst (λ (old : State). Converses outline_of_counted CountedCall old c.args.text.now (counted s (g.V.Volumes.view.failures c.args.pool.now)) c.args.out.now.items c.converse.new.out.items c.converse.new.session t.0)
          c.in_ok-session.ensures.opened t.1,
      t.2,
    )) c.converse.ensures.talks
