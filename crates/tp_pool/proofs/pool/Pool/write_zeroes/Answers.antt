use Rattle.std.proofs.Common.{rules, ◌+◌, ap, refl, sym, true, ◌∙◌}
use Rattle.std.specs.Prelude.{nat_lt}
use Rattle.tp_model.specs.declared.refusal.Refusal.TheVariants.{Failed}
use Rattle.tp_model.specs.Calls.{Refused, WriteZeroes, exists, has_data_room, has_metadata_room, is_failed, is_read_only}
use Rattle.tp_pool.proofs.Ranges.{law_within, lies_in, range_fits}
use Rattle.tp_pool.specs.Held.{Held}
use Rattle.tp_pool.proofs.Answering.{failed_answers, settled_answers}
use Rattle.tp_pool.proofs.Calling.{Laws, called_failed}
use Rattle.tp_pool.proofs.Flushing.{flushed_failed, settled_flushes}
use Rattle.tp_pool.proofs.Zeroes.{zeroes_tests_are}
use Rattle.tp_pool.proofs.pool.Pool.write_zeroes.Goals as goal

pub returns-then-is_failed-clause-called : goal.returns-then-is_failed-clause-called
returns-then-is_failed-clause-called g c =
    let met = g.met.M.Metadata in
    let laws : Laws g.M.Metadata.geometry g.M.Metadata.stands g.M.Metadata.marks g.M.Metadata.room = record { within = met.within; honest = met.honest; left = met.left; frame = met.frame } in
    let count = c.args.count in
    let id = c.args.id in
    let at = c.args.sector in
    let no_hole = c.args.no_hole in
    let fua = c.args.fua in
    called_failed laws c.args.self.now (WriteZeroes id at count no_hole fua) (sym (ap (λ (h : Held g.row.M.Denot). is_failed h.mode) c.self.view_is) ∙ sym c.is_failed.ensures ∙ c.if-is_failed.true)
    (λ s failed. zeroes_tests_are s id at count no_hole fua true (exists s id) (is_read_only s.mode) (nat_lt 0 count) (has_metadata_room s 512) (has_data_room s (WriteZeroes id at count no_hole fua) id) failed refl refl refl refl refl) refl

pub returns-then-is_failed-clause-answered : goal.returns-then-is_failed-clause-answered
returns-then-is_failed-clause-answered g c =
    failed_answers g.M.Metadata.geometry g.M.Metadata.stands c.args.self.now (WriteZeroes c.args.id c.args.sector c.args.count c.args.no_hole c.args.fua) (sym (ap (λ (h : Held g.row.M.Denot). is_failed h.mode) c.self.view_is) ∙ sym c.is_failed.ensures ∙ c.if-is_failed.true) refl

pub returns-clause-answered : goal.returns-clause-answered
returns-clause-answered g c =
    settled_answers g.M.Metadata.geometry g.M.Metadata.stands (WriteZeroes c.args.id c.args.sector c.args.count c.args.no_hole c.args.fua) c.args.self.now c.try_write_zeroes-answer.new.self c.settle.new.self c.try_write_zeroes-answer.result c.settle.result refl
    c.settle.ensures.same c.settle.ensures.ok c.settle.ensures.err c.try_write_zeroes-answer.ensures.tried

pub returns-then-is_failed-clause-flushes : goal.returns-then-is_failed-clause-flushes
returns-then-is_failed-clause-flushes g c =
    flushed_failed g.M.Metadata.geometry g.M.Metadata.stands g.M.Metadata.marks g.M.Metadata.room g.M.Metadata.changed c.args.self.now (WriteZeroes c.args.id c.args.sector c.args.count c.args.no_hole c.args.fua) (Refused Failed) (sym (ap (λ (h : Held g.row.M.Denot). is_failed h.mode) c.self.view_is) ∙ sym c.is_failed.ensures ∙ c.if-is_failed.true)

pub returns-clause-flushes : goal.returns-clause-flushes
returns-clause-flushes g c =
    let t = c.try_write_zeroes-answer in
    settled_flushes g.M.Metadata.geometry g.M.Metadata.stands g.M.Metadata.marks g.M.Metadata.room g.M.Metadata.changed (WriteZeroes c.args.id c.args.sector c.args.count c.args.no_hole c.args.fua) c.args.self.now t.new.self c.settle.new.self t.result c.settle.result refl refl c.settle.ensures.same c.settle.ensures.ok c.settle.ensures.err t.ensures.flushes t.ensures.changes

pub try_write_zeroes-answer-requires-clause-range : goal.try_write_zeroes-answer-requires-clause-range
try_write_zeroes-answer-requires-clause-range g c limits = range_fits g.M.Metadata.geometry g.M.Metadata.stands c.args.self.now c.args.id (c.args.sector + c.args.count) limits c.requires.range

pub try_write_zeroes-answer-requires-clause-lies : goal.try_write_zeroes-answer-requires-clause-lies
try_write_zeroes-answer-requires-clause-lies g c = lies_in g.M.Metadata.geometry g.M.Metadata.stands (law_within g.met.M.Metadata.within) c.args.self.now c.args.id (c.args.sector + c.args.count) (search rules) c.requires.range
