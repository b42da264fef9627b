use Rattle.std.proofs.Common.{ap, sym, ◌≡◌, ◌∙◌, List}
use Rattle.std.specs.Prelude.{nat_lt}
use Rattle.tp_model.specs.Pool.{hold_count}
use Rattle.tp_holders.specs.Holders.{Holding, holds_of}
use Rattle.tp_pool.specs.Held.{Held}
use Rattle.tp_pool.proofs.Calling.{Laws}
use Rattle.tp_pool.proofs.Growing.{grown_missing, grown_sized}
use Rattle.tp_pool.proofs.Serving.{no_size, size_told}
use Rattle.tp_pool.proofs.pool.Pool.test_grown.Goals as goal

pub returns-in_default-clause-told : goal.returns-in_default-clause-told
returns-in_default-clause-told g c now kept st fails =
    let M = g.M.Metadata in
    let met = g.met.M.Metadata in
    let laws : Laws M.geometry M.stands M.marks M.room = record { within = met.within; honest = met.honest; left = met.left; frame = met.frame } in
    let size = M.geometry c.args.self.now.metadata in
    grown_missing size c.args.id c.args.blocks c.args.self.now.holders now
    (no_size laws size now.volumes c.args.id c.in_ok-present.field-0 c.in_default.is (c.in_ok-present.ensures.told now kept st))

pub returns-clause-told : goal.returns-clause-told
returns-clause-told g c now kept st =
    let M = g.M.Metadata in
    let met = g.met.M.Metadata in
    let laws : Laws M.geometry M.stands M.marks M.room = record { within = met.within; honest = met.honest; left = met.left; frame = met.frame } in
    let size = M.geometry c.args.self.now.metadata in
    let holders : c.deref.result.now ≡ c.args.self.now.holders = c.deref.ensures.0 ∙ ap (λ (h : Held g.row.M.Denot). h.holders) (c.self.view_is ∙ c.in_ok-present.ensures.held) in
    grown_sized size c.args.id c.args.blocks c.in-Some.present c.args.self.now.holders now c.is_held-is_busy.result c.test_size.result c.test_size.ensures
    (c.is_held-is_busy.ensures ∙ ap (λ (l : List Holding). nat_lt 0 (hold_count (holds_of l) c.args.id)) holders)
    (size_told laws size now.volumes c.args.id c.in-Some.present (sym c.in-Some.is ∙ c.in_ok-present.ensures.told now kept st))
