use Rattle.std.proofs.Common.{◌≡◌, subst}
use Rattle.std.specs.Prelude.{Err}
use Rattle.tp_disk.specs.declared.disk.Fault.{Fault}
use Rattle.tp_tm.specs.Tm.{Tm}
use Rattle.tp_meta.specs.Midway.{StoresCommit}
use Rattle.tp_meta.proofs.committing.commit_store.Goals as goal

pub returns-in-Ok-go_on_store-clause-any_moment : goal.returns-in-Ok-go_on_store-clause-any_moment
returns-in-Ok-go_on_store-clause-any_moment g c =
    let old = g.D.Disk.state c.args.disk.now in
    let new = g.D.Disk.state c.end_store.new.disk in
    let named = c.in-Ok-go_on_store.ensures.named old c.in-Ok.ensures.written in
    let whole : StoresCommit c.args.tm.now c.end_store.new.tm c.args.stale.now c.end_store.new.stale c.args.next c.end_store.result old new
    = subst (λ (t : Tm). StoresCommit t c.end_store.new.tm c.args.stale.now c.end_store.new.stale c.args.next c.end_store.result old new) c.begin_store.ensures.unchanged (c.end_store.ensures.committed old named) in
    whole.any_moment

pub returns-in-Ok-go_on_store-clause-stored : goal.returns-in-Ok-go_on_store-clause-stored
returns-in-Ok-go_on_store-clause-stored g c =
    let old = g.D.Disk.state c.args.disk.now in
    let new = g.D.Disk.state c.end_store.new.disk in
    let named = c.in-Ok-go_on_store.ensures.named old c.in-Ok.ensures.written in
    let whole : StoresCommit c.args.tm.now c.end_store.new.tm c.args.stale.now c.end_store.new.stale c.args.next c.end_store.result old new
    = subst (λ (t : Tm). StoresCommit t c.end_store.new.tm c.args.stale.now c.end_store.new.stale c.args.next c.end_store.result old new) c.begin_store.ensures.unchanged (c.end_store.ensures.committed old named) in
    whole.stored

pub returns-in-Ok-go_on_store-clause-holds : goal.returns-in-Ok-go_on_store-clause-holds
returns-in-Ok-go_on_store-clause-holds g c =
    let old = g.D.Disk.state c.args.disk.now in
    let new = g.D.Disk.state c.end_store.new.disk in
    let named = c.in-Ok-go_on_store.ensures.named old c.in-Ok.ensures.written in
    let whole : StoresCommit c.args.tm.now c.end_store.new.tm c.args.stale.now c.end_store.new.stale c.args.next c.end_store.result old new
    = subst (λ (t : Tm). StoresCommit t c.end_store.new.tm c.args.stale.now c.end_store.new.stale c.args.next c.end_store.result old new) c.begin_store.ensures.unchanged (c.end_store.ensures.committed old named) in
    whole.holds

pub returns-in-Ok-go_on_store-clause-current : goal.returns-in-Ok-go_on_store-clause-current
returns-in-Ok-go_on_store-clause-current g c =
    let old = g.D.Disk.state c.args.disk.now in
    let new = g.D.Disk.state c.end_store.new.disk in
    let named = c.in-Ok-go_on_store.ensures.named old c.in-Ok.ensures.written in
    let whole : StoresCommit c.args.tm.now c.end_store.new.tm c.args.stale.now c.end_store.new.stale c.args.next c.end_store.result old new
    = subst (λ (t : Tm). StoresCommit t c.end_store.new.tm c.args.stale.now c.end_store.new.stale c.args.next c.end_store.result old new) c.begin_store.ensures.unchanged (c.end_store.ensures.committed old named) in
    whole.current

pub returns-in-Ok-go_on_store-clause-same_data : goal.returns-in-Ok-go_on_store-clause-same_data
returns-in-Ok-go_on_store-clause-same_data g c =
    let old = g.D.Disk.state c.args.disk.now in
    let new = g.D.Disk.state c.end_store.new.disk in
    let named = c.in-Ok-go_on_store.ensures.named old c.in-Ok.ensures.written in
    let whole : StoresCommit c.args.tm.now c.end_store.new.tm c.args.stale.now c.end_store.new.stale c.args.next c.end_store.result old new
    = subst (λ (t : Tm). StoresCommit t c.end_store.new.tm c.args.stale.now c.end_store.new.stale c.args.next c.end_store.result old new) c.begin_store.ensures.unchanged (c.end_store.ensures.committed old named) in
    whole.same_data

pub returns-in-Ok-go_on_store-clause-kept : goal.returns-in-Ok-go_on_store-clause-kept
returns-in-Ok-go_on_store-clause-kept g c =
    let old = g.D.Disk.state c.args.disk.now in
    let new = g.D.Disk.state c.end_store.new.disk in
    let named = c.in-Ok-go_on_store.ensures.named old c.in-Ok.ensures.written in
    let whole : StoresCommit c.args.tm.now c.end_store.new.tm c.args.stale.now c.end_store.new.stale c.args.next c.end_store.result old new
    = subst (λ (t : Tm). StoresCommit t c.end_store.new.tm c.args.stale.now c.end_store.new.stale c.args.next c.end_store.result old new) c.begin_store.ensures.unchanged (c.end_store.ensures.committed old named) in
    whole.kept

pub returns-in-Ok-go_on_store-clause-unchanged : goal.returns-in-Ok-go_on_store-clause-unchanged
returns-in-Ok-go_on_store-clause-unchanged g c =
    let old = g.D.Disk.state c.args.disk.now in
    let new = g.D.Disk.state c.end_store.new.disk in
    let named = c.in-Ok-go_on_store.ensures.named old c.in-Ok.ensures.written in
    let whole : StoresCommit c.args.tm.now c.end_store.new.tm c.args.stale.now c.end_store.new.stale c.args.next c.end_store.result old new
    = subst (λ (t : Tm). StoresCommit t c.end_store.new.tm c.args.stale.now c.end_store.new.stale c.args.next c.end_store.result old new) c.begin_store.ensures.unchanged (c.end_store.ensures.committed old named) in
    whole.unchanged

pub returns-in-Ok-go_on_store-clause-ran : goal.returns-in-Ok-go_on_store-clause-ran
returns-in-Ok-go_on_store-clause-ran g c =
    let old = g.D.Disk.state c.args.disk.now in
    let new = g.D.Disk.state c.end_store.new.disk in
    let named = c.in-Ok-go_on_store.ensures.named old c.in-Ok.ensures.written in
    let whole : StoresCommit c.args.tm.now c.end_store.new.tm c.args.stale.now c.end_store.new.stale c.args.next c.end_store.result old new
    = subst (λ (t : Tm). StoresCommit t c.end_store.new.tm c.args.stale.now c.end_store.new.stale c.args.next c.end_store.result old new) c.begin_store.ensures.unchanged (c.end_store.ensures.committed old named) in
    whole.ran

pub returns-in-Err-clause-any_moment : goal.returns-in-Err-clause-any_moment
returns-in-Err-clause-any_moment g c = c.in-Err.ensures.failed.any_moment

pub returns-in-Err-go_on_store-clause-any_moment : goal.returns-in-Err-go_on_store-clause-any_moment
returns-in-Err-go_on_store-clause-any_moment g c =
    let old = g.D.Disk.state c.args.disk.now in
    let new = g.D.Disk.state c.go_on_store.new.disk in
    let stops = c.in-Err-go_on_store.ensures.failed old c.in-Ok.ensures.written in
    (subst (λ (t : Tm). StoresCommit {A = Unit {0}} {E = Fault} t t c.args.stale.now c.args.stale.now c.args.next (Err c.in-Err-go_on_store.field-0) old new) c.begin_store.ensures.unchanged stops).any_moment

pub returns-in-Err-clause-same_data : goal.returns-in-Err-clause-same_data
returns-in-Err-clause-same_data g c = c.in-Err.ensures.failed.same_data

pub returns-in-Err-go_on_store-clause-same_data : goal.returns-in-Err-go_on_store-clause-same_data
returns-in-Err-go_on_store-clause-same_data g c =
    let old = g.D.Disk.state c.args.disk.now in
    let new = g.D.Disk.state c.go_on_store.new.disk in
    let stops = c.in-Err-go_on_store.ensures.failed old c.in-Ok.ensures.written in
    (subst (λ (t : Tm). StoresCommit {A = Unit {0}} {E = Fault} t t c.args.stale.now c.args.stale.now c.args.next (Err c.in-Err-go_on_store.field-0) old new) c.begin_store.ensures.unchanged stops).same_data

pub returns-in-Err-clause-unchanged : goal.returns-in-Err-clause-unchanged
returns-in-Err-clause-unchanged g c = c.in-Err.ensures.failed.unchanged

pub returns-in-Err-go_on_store-clause-unchanged : goal.returns-in-Err-go_on_store-clause-unchanged
returns-in-Err-go_on_store-clause-unchanged g c = c.begin_store.ensures.unchanged

pub returns-in-Err-clause-ran : goal.returns-in-Err-clause-ran
returns-in-Err-clause-ran g c = c.in-Err.ensures.failed.ran

pub returns-in-Err-go_on_store-clause-ran : goal.returns-in-Err-go_on_store-clause-ran
returns-in-Err-go_on_store-clause-ran g c =
    let old = g.D.Disk.state c.args.disk.now in
    let new = g.D.Disk.state c.go_on_store.new.disk in
    let stops = c.in-Err-go_on_store.ensures.failed old c.in-Ok.ensures.written in
    (subst (λ (t : Tm). StoresCommit {A = Unit {0}} {E = Fault} t t c.args.stale.now c.args.stale.now c.args.next (Err c.in-Err-go_on_store.field-0) old new) c.begin_store.ensures.unchanged stops).ran
