use Rattle.std.proofs.Common.{◌≡◌, [], sym, ap, subst, ◌∙◌}
use Rattle.tp_refs.specs.Store.{committed}
use Rattle.tp_tm.specs.Tm.{Tm, kept_now}
use Rattle.tp_tm.specs.Holds.{Holds}
use Rattle.tp_tm.proofs.Counting.{keep_holds}
use Rattle.tp_tm.proofs.Tm.keep.Goals as goal

pub returns-clause-holds : goal.returns-clause-holds
returns-clause-holds c disk held s h =
    let after : record { geometry = c.self.inside.geometry; metadata_now = c.keep.new.self.now; metadata_kept = c.keep.new.self.kept; data_now = c.keep-2.new.self.now; data_kept = c.keep-2.new.self.kept; held_root = c.self.inside.held_root } ≡ kept_now c.args.self.now =
    (λ i. record { geometry = c.self.inside.geometry; metadata_now = (c.keep.ensures i).now; metadata_kept = (c.keep.ensures i).kept; data_now = (c.keep-2.ensures i).now; data_kept = (c.keep-2.ensures i).kept; held_root = c.self.inside.held_root }) ∙ ap kept_now c.self.view_is in
    subst (λ (t : Tm). Holds t disk [] held (committed s)) (sym after) (keep_holds c.args.self.now disk held s h)
