use Rattle.std.proofs.Common.{◌≡◌, ℕ, ◌<◌, Bool, ap, arith, inl, subst, sym, ◌∙◌}
use Rattle.std.specs.Ordering.{nat_cmp}
use Rattle.std.specs.FinMap.{FinMap}
use Rattle.std.specs.Prelude.{if◌then◌else◌}
use Rattle.tp_model.specs.declared.mode.Mode.TheVariants as mode
use Rattle.tp_model.specs.Calls.{is_failed}
use Rattle.tp_model.specs.Disk.{seen}
use Rattle.tp_model.specs.Pool.{hold_count}
use Rattle.tp_model.proofs.DiskLaws.{length-sector_at, length-seen, whole-seen}
use Rattle.tp_shown.proofs.Sound.{contents_are_sound}
use Rattle.tp_holders.specs.Holders.{holds_of}
use Rattle.tp_holders.proofs.Rows.{holds_none}
use Rattle.tp_pool.proofs.Opened.{none_held, opened_works, wants_check}
use Rattle.tp_pool.proofs.pool.Pool.over.Goals as goal
use Rattle.tp_pool.proofs.pool.Pool.over.Goals.{then-needs_check, else-needs_check}

pub returns-clause-shows : goal.returns-clause-shows
returns-clause-shows g c now kept s stands opened spare settled =
    let is = c.needs_check.ensures (g.D.Disk.state c.args.disk) now kept stands in
    let mode_is : c.if-needs_check.mode ≡ (if now.needs_check then mode.ReadOnly else mode.Writable) = elim c.if-needs_check.branch [
      | then-needs_check w ↦ w.mode-is ∙ ap (λ (b : Bool). if b then mode.ReadOnly else mode.Writable) (sym w.if-needs_check.true ∙ is)
      | else-needs_check w ↦ w.mode-is ∙ ap (λ (b : Bool). if b then mode.ReadOnly else mode.Writable) (sym w.if-needs_check.false ∙ is)
    ] in
    let state = g.D.Disk.state c.args.disk in
    let formed = g.met.D.Disk.well_formed c.args.disk in
    let within = g.met.M.Metadata.within c.args.metadata state now kept stands in
    inl (
      now,
      kept,
      record {
        standing = stands;
        has = opened.has;
        mode_is = opened.mode ∙ sym mode_is;
        holds = opened.holds ∙ sym (ap holds_of c.new.ensures ∙ holds_none);
        spare = spare;
        works = ap is_failed mode_is ∙ opened_works now.needs_check;
        check = λ wants. mode_is ∙ ap (λ (b : Bool). if b then mode.ReadOnly else mode.Writable) wants;
        settled = λ read_only. settled (wants_check now.needs_check (sym read_only ∙ mode_is));
        sound = contents_are_sound (g.M.Metadata.geometry c.args.metadata) now (seen state.cells) s within.limits within.volumes_now opened.has
            (omega (arith, c.requires.disk, length-seen formed)) (λ i lt. length-sector_at (seen state.cells) i (whole-seen formed) lt);
        found = λ id some. absurd (none_held id (subst (λ (h : FinMap nat_cmp ℕ). 0 < hold_count h id) opened.holds some));
        known = λ id some. absurd (none_held id (subst (λ (h : FinMap nat_cmp ℕ). 0 < hold_count h id) opened.holds some));
      },
    )
