use Rattle.std.proofs.Common.{None, ◌≡◌, [], false, refl, sym, ap, subst, ◌∙◌}
use Rattle.tp_stored.specs.Commit.{held_by}
use Rattle.tp_tm.specs.Tm.{IsSized, Tm, kept_now}
use Rattle.tp_tm.specs.Holds.{Holds}
use Rattle.tp_meta.specs.declared.whole.Meta.{Meta}
use Rattle.tp_model.specs.Disk.{seen}
use Rattle.tp_meta.proofs.Areas.{all_current}
use Rattle.tp_meta.proofs.Standing.{stands_unchanged}
use Rattle.tp_meta.proofs.whole.Meta.unchanged.Goals as goal

pub returns-clause-stands : goal.returns-clause-stands
returns-clause-stands c disk s honest left holds geometry held alike marks stale =
    let last = c.args.last.now in
    let m : Meta = record { mapping = c.new-mapping.result; last = last; transaction_id = last.transaction_id; needs_check = last.needs_check; devices = None; marks = c.args.room.marks; is_changed = false; stale = c.args.room.stale } in
    let same = sym c.new-mapping.ensures.store in
    stands_unchanged m disk s honest left (subst (λ (t : Tm). Holds t disk [] (held_by last.geometry last.root last.held_root) s) same holds) (ap (λ (t : Tm). t.geometry) c.new-mapping.ensures.store ∙ geometry) c.new-mapping.ensures.root (ap (λ (t : Tm). t.held_root) c.new-mapping.ensures.store ∙ held) tt
    (subst (λ (t : Tm). IsSized t) same c.geometry.ensures.sized) (subst (λ (t : Tm). kept_now t ≡ t) same alike) marks refl refl (all_current m.mapping.tm c.args.room.stale.value (seen disk.cells) stale)
