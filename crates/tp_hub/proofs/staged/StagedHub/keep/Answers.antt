use Rattle.std.proofs.Common.{◌∙◌, subst, sym}
use Rattle.std.proofs.lemmas.Option.{IfSome_then}
use Rattle.tp_hub.specs.Runs.{incoming}
use Rattle.tp_hub.specs.Staged.{IsBefore, Standing, standing}
use Rattle.tp_hub.proofs.Staging.{has_fewer, idle_whole, is_kept, its_event, kept_stands, may_keep, serving_of, there_before}
use Rattle.tp_hub.proofs.staged.StagedHub.keep.Goals as goal

pub keep_on-requires-clause-before : goal.keep_on-requires-clause-before
keep_on-requires-clause-before g c = serving_of g.V.Volumes.view g.K.Start.is_start _ c.self.invariant

pub invariant_of-self : goal.invariant_of-self
invariant_of-self g c =
    let of = g.V.Midway.SharedReads.of in
    let left = g.V.Midway.SharedReads.left in
    let i = c.self.inside in
    let k = c.keep_on in
    kept_stands g.V.Volumes.view g.K.Start.is_start k.result (standing of left i.stage i.sessions i.order) (standing of left k.new.place k.new.sessions k.new.order) (incoming c.args.event.now) c.args.out.now k.new.out c.self.invariant k.ensures.kept k.ensures.read

pub returns-clause-before : goal.returns-clause-before
returns-clause-before g c = (c.self.invariant.old, subst (λ (s : Standing _). IsBefore g.V.Volumes.view c.self.invariant.old s) c.self.view_is c.self.invariant.before)

pub returns-clause-kept : goal.returns-clause-kept
returns-clause-kept g c old before = c.keep_on.ensures.kept old (subst (λ (s : Standing _). IsBefore g.V.Volumes.view old s) (sym c.self.view_is) before)

pub returns-clause-asks : goal.returns-clause-asks
returns-clause-asks g c =
    let of = g.V.Midway.SharedReads.of in
    let left = g.V.Midway.SharedReads.left in
    let i = c.self.inside in
    let there = there_before g.V.Volumes.view of left i.stage i.sessions i.order c.self.invariant.old c.self.invariant.before in
    IfSome_then c.keep_on.result c.keep_on.ensures.asks (λ ran asks. is_kept of left c.args.event.now i.stage i.sessions i.order c.args.self.now there c.self.view_is asks.0 asks.1)

pub returns-clause-owed : goal.returns-clause-owed
returns-clause-owed g c =
    let view = g.V.Volumes.view in
    let of = g.V.Midway.SharedReads.of in
    let left = g.V.Midway.SharedReads.left in
    let k = c.keep_on in
    IfSome_then k.result k.ensures.few (λ ran few old new before is.
    few old new.pool (subst (λ (s : Standing _). IsBefore view old s) (sym c.self.view_is) before) (idle_whole of left k.new.place k.new.sessions k.new.order new is))

pub returns-clause-unasked : goal.returns-clause-unasked
returns-clause-unasked g c none =
    let of = g.V.Midway.SharedReads.of in
    let left = g.V.Midway.SharedReads.left in
    let i = c.self.inside in
    let there = there_before g.V.Volumes.view of left i.stage i.sessions i.order c.self.invariant.old c.self.invariant.before in
    let same = c.keep_on.ensures.unasked (λ asks its. none (is_kept of left c.args.event.now i.stage i.sessions i.order c.args.self.now there c.self.view_is asks its)) in
    (λ k. standing of left (same.0 k) (same.1 k) (same.2 k)) ∙ c.self.view_is

pub returns-clause-fewer : goal.returns-clause-fewer
returns-clause-fewer g c may none =
    let of = g.V.Midway.SharedReads.of in
    let left = g.V.Midway.SharedReads.left in
    let i = c.self.inside in
    let k = c.keep_on in
    let there = there_before g.V.Volumes.view of left i.stage i.sessions i.order c.self.invariant.old c.self.invariant.before in
    let m = may_keep of left c.args.event.now i.stage i.sessions i.order c.args.self.now there c.self.view_is may in
    has_fewer of left c.args.event.now i.stage i.sessions i.order c.args.self.now there c.self.view_is k.new.place k.new.sessions k.new.order (k.ensures.fewer m.0 m.1 none)

pub returns-clause-its : goal.returns-clause-its
returns-clause-its g c may =
    let of = g.V.Midway.SharedReads.of in
    let left = g.V.Midway.SharedReads.left in
    let i = c.self.inside in
    let k = c.keep_on in
    let there = there_before g.V.Volumes.view of left i.stage i.sessions i.order c.self.invariant.old c.self.invariant.before in
    let m = may_keep of left c.args.event.now i.stage i.sessions i.order c.args.self.now there c.self.view_is may in
    let behind = invariant_of-self g c in
    its_event of left c.args.event.now k.new.place k.new.sessions k.new.order (there_before g.V.Volumes.view of left k.new.place k.new.sessions k.new.order behind.old behind.before) (k.ensures.order m.0 m.1)

pub returns-clause-made : goal.returns-clause-made
returns-clause-made g c last may none =
    let of = g.V.Midway.SharedReads.of in
    let left = g.V.Midway.SharedReads.left in
    let i = c.self.inside in
    let there = there_before g.V.Volumes.view of left i.stage i.sessions i.order c.self.invariant.old c.self.invariant.before in
    let m = may_keep of left c.args.event.now i.stage i.sessions i.order c.args.self.now there c.self.view_is may in
    c.keep_on.ensures.made last m.0 m.1 none
