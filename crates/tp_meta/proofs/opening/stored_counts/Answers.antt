use Rattle.std.proofs.Common.{Err, ap, inr, subst, sym, ◌∙◌}
use Rattle.std.proofs.lemmas.Result.{err_from_is_err_and}
use Rattle.tp_model.specs.declared.refusal.Refusal.TheVariants.{Damaged}
use Rattle.tp_model.specs.Disk.{DiskState, seen}
use Rattle.tp_layout.specs.declared.counts.Part.TheVariants.{Data}
use Rattle.tp_image.specs.Areas.{HoldsCounts}
use Rattle.tp_tm.specs.Tm.{Tm, now_of}
use Rattle.tp_meta.proofs.Clearing.{err_is}
use Rattle.tp_meta.proofs.Kept.{found_parts}
use Rattle.tp_meta.proofs.opening.stored_counts.Goals as goal

pub returns-in_err-others-clause-damaged : goal.returns-in_err-others-clause-damaged
returns-in_err-others-clause-damaged g c =
    let p = err_from_is_err_and c.from_residual-in_err-others.result c.from_residual-in_err-others.ensures.1 in
    let sb = c.args.superblock.now in
    let same = c.in_ok-metadata.ensures.state in
    rw (p.1, p.2) (λ e honest. inr (
      Data,
      λ counts has.
          c.in_err-others.ensures.damaged (ap Err (err_is _ Damaged e)) (ap (λ (d : DiskState). d.is_honest) same ∙ honest) counts
          (subst (λ (d : DiskState). HoldsCounts (seen d.cells) sb.geometry Data c.slot-area.result counts) (sym same) (has c.slot-area.result c.slot-area.ensures)),
    ))

pub returns-clause-found : goal.returns-clause-found
returns-clause-found g c honest part area is =
    let old = g.D.Disk.state c.args.disk.now in
    let sb = c.args.superblock.now in
    let slot = c.slot-area.result in
    let same = c.in_ok-metadata.ensures.state in
    let metadata = c.in_ok-metadata.ensures.found honest in
    let others = subst (λ (d : DiskState). HoldsCounts (seen d.cells) sb.geometry Data slot c.in_ok-others.others.now) same
    (c.in_ok-others.ensures.found (ap (λ (d : DiskState). d.is_honest) same ∙ honest)) in
    subst (λ (t : Tm). HoldsCounts (seen old.cells) sb.geometry part area (now_of t part)) (sym c.new.ensures)
    (found_parts (seen old.cells) sb.geometry slot
    (record { geometry = sb.geometry; metadata_now = c.in_ok-metadata.metadata.now; metadata_kept = c.in_ok-metadata.metadata.kept; data_now = c.in_ok-others.others.now; data_kept = c.in_ok-others.others.kept; held_root = sb.held_root }) metadata others part area (c.slot-area.ensures ∙ sym is))

pub returns-clause-held : goal.returns-clause-held
returns-clause-held g c = ap (λ (t : Tm). t.held_root) c.new.ensures
