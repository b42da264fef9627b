use Rattle.std.proofs.Common.{inr, ap, refl, subst, sym, ◌∙◌}
use Rattle.std.specs.Prelude.{Err, Ok}
use Rattle.std.proofs.lemmas.Bool.{false≢true}
use Rattle.tp_model.specs.declared.mode.Mode.TheVariants as mode
use Rattle.tp_model.specs.declared.refusal.Refusal.TheVariants.{Failed, Fault}
use Rattle.tp_model.specs.Calls.{is_failed, Refused}
use Rattle.tp_pool.specs.Flushes.{FlushesSo}
use Rattle.tp_pool.specs.Held.{AnswersSo, Held, PoolAnswered, failed_by}
use Rattle.tp_pool.proofs.Calling.{Laws, called_failed}
use Rattle.tp_pool.proofs.Keeping.{flushes_are, not_read_only, read_only_called, read_only_settled}
use Rattle.tp_pool.proofs.Answering.{flush_failed, flush_read_only}
use Rattle.tp_pool.proofs.Flushing.{flush_nothing, flushed_failed}
use Rattle.tp_pool.proofs.Parts.{keeps_failed, keeps_made}
use Rattle.tp_pool.proofs.pool.Pool.keep_or_fail.Goals as goal

pub returns-in-Failed-clause-called : goal.returns-in-Failed-clause-called
returns-in-Failed-clause-called g c call is =
    let met = g.met.M.Metadata in
    let laws : Laws g.M.Metadata.geometry g.M.Metadata.stands g.M.Metadata.marks g.M.Metadata.room = record { within = met.within; honest = met.honest; left = met.left; frame = met.frame } in
    let flushes = flushes_are call is in
    called_failed laws c.args.self.now call (ap is_failed (sym (ap (λ (h : Held g.row.M.Denot). h.mode) c.self.view_is) ∙ c.in-Failed.is)) flushes.refuses flushes.failed_keeps_not

pub returns-in-ReadOnly-clause-called : goal.returns-in-ReadOnly-clause-called
returns-in-ReadOnly-clause-called g c call is =
    let met = g.met.M.Metadata in
    let laws : Laws g.M.Metadata.geometry g.M.Metadata.stands g.M.Metadata.marks g.M.Metadata.room = record { within = met.within; honest = met.honest; left = met.left; frame = met.frame } in
    read_only_called laws call (flushes_are call is) c.args.self.now (sym (ap (λ (h : Held g.row.M.Denot). h.mode) c.self.view_is) ∙ c.in-ReadOnly.is)

pub returns-in-ReadOnly-clause-settled : goal.returns-in-ReadOnly-clause-settled
returns-in-ReadOnly-clause-settled g c s shown =
    let met = g.met.M.Metadata in
    let laws : Laws g.M.Metadata.geometry g.M.Metadata.stands g.M.Metadata.marks g.M.Metadata.room = record { within = met.within; honest = met.honest; left = met.left; frame = met.frame } in
    read_only_settled laws c.args.self.now (sym (ap (λ (h : Held g.row.M.Denot). h.mode) c.self.view_is) ∙ c.in-ReadOnly.is) s shown

pub returns-in-Failed-clause-answered : goal.returns-in-Failed-clause-answered
returns-in-Failed-clause-answered g c call is =
    flush_failed g.M.Metadata.geometry g.M.Metadata.stands call is c.args.self.now (ap is_failed (sym (ap (λ (h : Held g.row.M.Denot). h.mode) c.self.view_is) ∙ c.in-Failed.is))

pub returns-in-ReadOnly-clause-answered : goal.returns-in-ReadOnly-clause-answered
returns-in-ReadOnly-clause-answered g c call is =
    flush_read_only g.M.Metadata.geometry g.M.Metadata.stands call is c.args.self.now (sym (ap (λ (h : Held g.row.M.Denot). h.mode) c.self.view_is) ∙ c.in-ReadOnly.is)

pub returns-in-Failed-clause-flushes : goal.returns-in-Failed-clause-flushes
returns-in-Failed-clause-flushes g c call is =
    flushed_failed g.M.Metadata.geometry g.M.Metadata.stands g.M.Metadata.marks g.M.Metadata.room g.M.Metadata.changed c.args.self.now call (Refused Failed) (ap is_failed (sym (ap (λ (h : Held g.row.M.Denot). h.mode) c.self.view_is) ∙ c.in-Failed.is))

pub returns-in-ReadOnly-clause-flushes : goal.returns-in-ReadOnly-clause-flushes
returns-in-ReadOnly-clause-flushes g c call is =
    flush_nothing g.M.Metadata.geometry g.M.Metadata.stands g.M.Metadata.marks g.M.Metadata.room g.M.Metadata.changed call is c.args.self.now (sym (ap (λ (h : Held g.row.M.Denot). h.mode) c.self.view_is) ∙ c.in-ReadOnly.is)

pub returns-in-Ok-clause-called : goal.returns-in-Ok-clause-called
returns-in-Ok-clause-called g c call is =
    let M = g.M.Metadata in
    let met = g.met.M.Metadata in
    let laws : Laws M.geometry M.stands M.marks M.room = record { within = met.within; honest = met.honest; left = met.left; frame = met.frame } in
    let was : Held g.row.M.Denot = record { disk = g.D.Disk.state c.self.inside.disk; metadata = c.self.inside.metadata; holders = c.self.inside.holders.items; mode = c.self.inside.mode } in
    let disk = g.D.Disk.state c.commit.new.disk in
    let mid : Held g.row.M.Denot = record was { disk = disk; metadata = c.commit.new.self } in
    subst (λ (h : Held g.row.M.Denot). PoolAnswered M.geometry M.stands h mid call (Ok tt)) c.self.view_is
    (keeps_made laws M.changed was c.in-Writable.is disk c.commit.new.self c.in-Ok.ensures.geometry call is _ c.in-Ok.ensures mid refl).called

pub returns-in-Ok-clause-answered : goal.returns-in-Ok-clause-answered
returns-in-Ok-clause-answered g c call is =
    let M = g.M.Metadata in
    let met = g.met.M.Metadata in
    let laws : Laws M.geometry M.stands M.marks M.room = record { within = met.within; honest = met.honest; left = met.left; frame = met.frame } in
    let was : Held g.row.M.Denot = record { disk = g.D.Disk.state c.self.inside.disk; metadata = c.self.inside.metadata; holders = c.self.inside.holders.items; mode = c.self.inside.mode } in
    let disk = g.D.Disk.state c.commit.new.disk in
    let mid : Held g.row.M.Denot = record was { disk = disk; metadata = c.commit.new.self } in
    subst (λ (h : Held g.row.M.Denot). AnswersSo M.geometry M.stands h mid call (Ok tt)) c.self.view_is
    (keeps_made laws M.changed was c.in-Writable.is disk c.commit.new.self c.in-Ok.ensures.geometry call is _ c.in-Ok.ensures mid refl).answered

pub returns-in-Ok-clause-flushes : goal.returns-in-Ok-clause-flushes
returns-in-Ok-clause-flushes g c call is =
    let M = g.M.Metadata in
    let met = g.met.M.Metadata in
    let laws : Laws M.geometry M.stands M.marks M.room = record { within = met.within; honest = met.honest; left = met.left; frame = met.frame } in
    let was : Held g.row.M.Denot = record { disk = g.D.Disk.state c.self.inside.disk; metadata = c.self.inside.metadata; holders = c.self.inside.holders.items; mode = c.self.inside.mode } in
    let disk = g.D.Disk.state c.commit.new.disk in
    let mid : Held g.row.M.Denot = record was { disk = disk; metadata = c.commit.new.self } in
    subst (λ (h : Held g.row.M.Denot). FlushesSo M.geometry M.stands M.marks M.room M.changed h mid call (Ok tt)) c.self.view_is
    (keeps_made laws M.changed was c.in-Writable.is disk c.commit.new.self c.in-Ok.ensures.geometry call is _ c.in-Ok.ensures mid refl).flushes

pub returns-in-Ok-clause-held : goal.returns-in-Ok-clause-held
returns-in-Ok-clause-held g c = ap (λ (h : Held g.row.M.Denot). record h { disk = g.D.Disk.state c.commit.new.disk; metadata = c.commit.new.self; mode = c.self.inside.mode }) c.self.view_is

pub returns-in-Ok-clause-geometry : goal.returns-in-Ok-clause-geometry
returns-in-Ok-clause-geometry g c = c.in-Ok.ensures.geometry ∙ ap (λ (h : Held g.row.M.Denot). g.M.Metadata.geometry h.metadata) c.self.view_is

pub returns-in-Ok-clause-read_only : goal.returns-in-Ok-clause-read_only
returns-in-Ok-clause-read_only g c reads = absurd (not_read_only c.args.self.now.mode (sym (ap (λ (h : Held g.row.M.Denot). h.mode) c.self.view_is) ∙ c.in-Writable.is) reads)

pub returns-in-Ok-clause-failed : goal.returns-in-Ok-clause-failed
returns-in-Ok-clause-failed g c fails = absurd (false≢true (sym (ap is_failed (sym (ap (λ (h : Held g.row.M.Denot). h.mode) c.self.view_is) ∙ c.in-Writable.is)) ∙ ap is_failed fails))

pub returns-in-Ok-clause-settled : goal.returns-in-Ok-clause-settled
returns-in-Ok-clause-settled g c s shown = c.in-Ok.ensures.ran.settled

pub returns-in-Err-clause-called : goal.returns-in-Err-clause-called
returns-in-Err-clause-called g c call is =
    let M = g.M.Metadata in
    let met = g.met.M.Metadata in
    let laws : Laws M.geometry M.stands M.marks M.room = record { within = met.within; honest = met.honest; left = met.left; frame = met.frame } in
    let was : Held g.row.M.Denot = record { disk = g.D.Disk.state c.self.inside.disk; metadata = c.self.inside.metadata; holders = c.self.inside.holders.items; mode = c.self.inside.mode } in
    let disk = g.D.Disk.state c.commit.new.disk in
    let mid : Held g.row.M.Denot = record was { disk = disk; metadata = c.commit.new.self } in
    subst (λ (h : Held g.row.M.Denot). PoolAnswered M.geometry M.stands h (failed_by Fault mid) call (Err Fault)) c.self.view_is
    (keeps_failed laws M.changed was c.in-Writable.is disk c.commit.new.self c.in-Err.ensures.geometry call is _ c.in-Err.ensures (failed_by Fault mid) refl).called

pub returns-in-Err-clause-answered : goal.returns-in-Err-clause-answered
returns-in-Err-clause-answered g c call is =
    let M = g.M.Metadata in
    let met = g.met.M.Metadata in
    let laws : Laws M.geometry M.stands M.marks M.room = record { within = met.within; honest = met.honest; left = met.left; frame = met.frame } in
    let was : Held g.row.M.Denot = record { disk = g.D.Disk.state c.self.inside.disk; metadata = c.self.inside.metadata; holders = c.self.inside.holders.items; mode = c.self.inside.mode } in
    let disk = g.D.Disk.state c.commit.new.disk in
    let mid : Held g.row.M.Denot = record was { disk = disk; metadata = c.commit.new.self } in
    subst (λ (h : Held g.row.M.Denot). AnswersSo M.geometry M.stands h (failed_by Fault mid) call (Err Fault)) c.self.view_is
    (keeps_failed laws M.changed was c.in-Writable.is disk c.commit.new.self c.in-Err.ensures.geometry call is _ c.in-Err.ensures (failed_by Fault mid) refl).answered

pub returns-in-Err-clause-flushes : goal.returns-in-Err-clause-flushes
returns-in-Err-clause-flushes g c call is =
    let M = g.M.Metadata in
    let met = g.met.M.Metadata in
    let laws : Laws M.geometry M.stands M.marks M.room = record { within = met.within; honest = met.honest; left = met.left; frame = met.frame } in
    let was : Held g.row.M.Denot = record { disk = g.D.Disk.state c.self.inside.disk; metadata = c.self.inside.metadata; holders = c.self.inside.holders.items; mode = c.self.inside.mode } in
    let disk = g.D.Disk.state c.commit.new.disk in
    let mid : Held g.row.M.Denot = record was { disk = disk; metadata = c.commit.new.self } in
    subst (λ (h : Held g.row.M.Denot). FlushesSo M.geometry M.stands M.marks M.room M.changed h (failed_by Fault mid) call (Err Fault)) c.self.view_is
    (keeps_failed laws M.changed was c.in-Writable.is disk c.commit.new.self c.in-Err.ensures.geometry call is _ c.in-Err.ensures (failed_by Fault mid) refl).flushes

pub returns-in-Err-clause-held : goal.returns-in-Err-clause-held
returns-in-Err-clause-held g c = ap (λ (h : Held g.row.M.Denot). record h { disk = g.D.Disk.state c.commit.new.disk; metadata = c.commit.new.self; mode = mode.Failed }) c.self.view_is

pub returns-in-Err-clause-geometry : goal.returns-in-Err-clause-geometry
returns-in-Err-clause-geometry g c = c.in-Err.ensures.geometry ∙ ap (λ (h : Held g.row.M.Denot). g.M.Metadata.geometry h.metadata) c.self.view_is

pub returns-in-Err-clause-read_only : goal.returns-in-Err-clause-read_only
returns-in-Err-clause-read_only g c reads = absurd (not_read_only c.args.self.now.mode (sym (ap (λ (h : Held g.row.M.Denot). h.mode) c.self.view_is) ∙ c.in-Writable.is) reads)

pub returns-in-Err-clause-failed : goal.returns-in-Err-clause-failed
returns-in-Err-clause-failed g c fails = absurd (false≢true (sym (ap is_failed (sym (ap (λ (h : Held g.row.M.Denot). h.mode) c.self.view_is) ∙ c.in-Writable.is)) ∙ ap is_failed fails))

pub returns-in-Err-clause-only : goal.returns-in-Err-clause-only
returns-in-Err-clause-only g c = inr refl
