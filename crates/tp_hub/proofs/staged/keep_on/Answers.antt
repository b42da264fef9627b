use Rattle.std.proofs.Common.{◌+◌, ◌∙◌, ◌≡◌, ◌≤◌, Option, Some, ap, refl, subst, sym}
use Rattle.std.proofs.lemmas.Option.{IfSome_then}
use Rattle.tp_msg.specs.declared.message.Message.{Message}
use Rattle.tp_hub.specs.declared.event.Event.{Event}
use Rattle.tp_hub.specs.Runs.{incoming}
use Rattle.tp_hub.specs.Serving.{sessions_of}
use Rattle.tp_hub.specs.Staged.{AsksCommit, IsKeptFor, message_in, most_kept, read_in, standing}
use Rattle.tp_hub.specs.Stages.{IsFor}
use Rattle.tp_hub.proofs.Staging.{flush_is_commit, flush_keeps_none}
use Rattle.tp_hub.proofs.staged.keep_on.Given as given
use Rattle.tp_hub.proofs.staged.keep_on.Goals as goal

pub returns-in-Ok-clause-kept : goal.returns-in-Ok-clause-kept
returns-in-Ok-clause-kept g c old before =
    let o = c.order_for in
    subst (λ (e : Event). IsKeptFor g.V.Volumes.view old (incoming e) o.result c.args.out.now o.new.out (standing g.V.Midway.SharedReads.of g.V.Midway.SharedReads.left o.new.place c.args.sessions.now o.new.order)) (sym c.in-Message.is)
    (o.ensures.kept c.in-Message.line.now (sym c.in-Ok.ensures.reads) old before)

asks_message : (g : given.Over) (c : goal.After-order_for g) → AsksCommit (sessions_of c.args.sessions.now) c.args.event.now × (message_in c.args.event.now ≡ Some c.in-Ok.message)
asks_message g c =
    let at = sessions_of c.args.sessions.now in
    let reads = c.in-Ok.ensures.reads in
    let its = sym (ap read_in reads) in
    subst (λ (e : Event). AsksCommit at e × (message_in e ≡ Some c.in-Ok.message)) (sym c.in-Message.is) ((c.in-Ok.message, sym reads), its)

pub returns-in-Ok-clause-asks : goal.returns-in-Ok-clause-asks
returns-in-Ok-clause-asks g c =
    let a = asks_message g c in
    IfSome_then c.order_for.result c.order_for.ensures.its (λ ran its. (a.0, subst (IsFor c.args.place.now c.args.order.now) (sym a.1) its))

pub returns-in-Ok-clause-few : goal.returns-in-Ok-clause-few
returns-in-Ok-clause-few g c =
    let view = g.V.Volumes.view in
    IfSome_then c.order_for.result c.order_for.ensures.few (λ ran few old q before is.
    subst (λ (o : Option Message). view.flushes q ≤ view.flushes old.pool + most_kept o) (sym (asks_message g c).1) (few old q before is))

pub returns-in-Ok-clause-unasked : goal.returns-in-Ok-clause-unasked
returns-in-Ok-clause-unasked g c none =
    let a = asks_message g c in
    let same = c.order_for.ensures.other (λ its. none a.0 (subst (IsFor c.args.place.now c.args.order.now) (sym a.1) its)) in
    (same.0, refl, same.1)

pub returns-in-Ok-clause-fewer : goal.returns-in-Ok-clause-fewer
returns-in-Ok-clause-fewer g c asks its none = c.order_for.ensures.fewer (subst (IsFor c.args.place.now c.args.order.now) (asks_message g c).1 its) none

pub returns-in-Ok-clause-order : goal.returns-in-Ok-clause-order
returns-in-Ok-clause-order g c asks its =
    let a = asks_message g c in
    c.order_for.ensures.order (subst (IsFor c.args.place.now c.args.order.now) a.1 its) ∙ sym a.1

pub returns-in-Ok-clause-made : goal.returns-in-Ok-clause-made
returns-in-Ok-clause-made g c last asks its none = c.order_for.ensures.made last (subst (IsFor c.args.place.now c.args.order.now) (asks_message g c).1 its) none

pub returns-in_default-clause-unasked : goal.returns-in_default-clause-unasked
returns-in_default-clause-unasked g c none =
    let at = sessions_of c.args.sessions.now in
    c.flush_for.ensures.unasked (λ asks its. none (flush_is_commit at c.args.event.now asks) (subst (IsFor c.args.place.now c.args.order.now) (sym (flush_keeps_none at c.args.event.now asks)) its))
