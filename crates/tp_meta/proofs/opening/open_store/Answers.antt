use Rattle.std.proofs.Common.{◌≡◌, ◌⊎◌, ap, subst, arith, ◌∙◌, length}
use Rattle.std.specs.Prelude.{IsTrue, Err, not}
use Rattle.std.proofs.lemmas.Result.{err_from_is_err_and}
use Rattle.tp_model.specs.declared.refusal.Refusal.TheVariants.{Damaged, Fault}
use Rattle.tp_model.specs.Disk.{DiskState, seen}
use Rattle.tp_layout.specs.declared.counts.Part.{Part}
use Rattle.tp_tm.specs.Tm.{now_of}
use Rattle.tp_meta.specs.Opening.{HasCounts, IsShort, LacksCounts}
use Rattle.tp_meta.proofs.Clearing.{err_is, no_refusal, not_err}
use Rattle.tp_meta.proofs.Telling.{not_refused, opened_holds, seen_size, told_full, told_of_counts, told_uncounted}
use Rattle.tp_meta.proofs.opening.open_store.Goals as goal

pub returns-in_err-superblock-clause-refused : goal.returns-in_err-superblock-clause-refused
returns-in_err-superblock-clause-refused g c =
    let p = err_from_is_err_and c.from_residual.result c.from_residual.ensures.1 in
    rw (p.1, p.2) (λ no_fault no_memory honest last s commit.
    no_refusal (seen (g.D.Disk.state c.args.disk.now).cells) last c.in_err-superblock.field-0.0 commit.chosen (c.in_err-superblock.ensures.found (λ e. no_fault (err_is _ Fault e)) honest))

pub returns-in_err-tm-clause-told : goal.returns-in_err-tm-clause-told
returns-in_err-tm-clause-told g c =
    let p = err_from_is_err_and c.from_residual-in_err-tm.result c.from_residual-in_err-tm.ensures.1 in
    let image = seen (g.D.Disk.state c.args.disk.now).cells in
    let sb = c.in_ok-superblock.superblock in
    let same = c.in_ok-superblock.ensures.state in
    let why = λ (honest : IsTrue (g.D.Disk.state c.args.disk.now).is_honest) (damaged : c.in_err-tm.field-0.0 ≡ Damaged). subst (λ (d : DiskState). IsShort (seen d.cells) sb ⊎ LacksCounts (seen d.cells) sb) same (c.in_err-tm.ensures.damaged (ap Err damaged) (ap (λ (d : DiskState). d.is_honest) same ∙ honest)) in
    rw (p.1, p.2) (λ no_fault no_memory honest.
    told_of_counts image sb c.in_err-tm.field-0.0 (c.in_ok-superblock.ensures.found (λ e. not_err sb Fault e) honest) c.in_err-tm.ensures.only (why honest) (λ e. no_fault (ap Err e)) (λ e. no_memory (ap Err e)))

pub returns-in_err-tm-clause-refused : goal.returns-in_err-tm-clause-refused
returns-in_err-tm-clause-refused g c =
    let p = err_from_is_err_and c.from_residual-in_err-tm.result c.from_residual-in_err-tm.ensures.1 in
    let image = seen (g.D.Disk.state c.args.disk.now).cells in
    let sb = c.in_ok-superblock.superblock in
    let same = c.in_ok-superblock.ensures.state in
    let why = λ (honest : IsTrue (g.D.Disk.state c.args.disk.now).is_honest) (damaged : c.in_err-tm.field-0.0 ≡ Damaged). subst (λ (d : DiskState). IsShort (seen d.cells) sb ⊎ LacksCounts (seen d.cells) sb) same (c.in_err-tm.ensures.damaged (ap Err damaged) (ap (λ (d : DiskState). d.is_honest) same ∙ honest)) in
    rw (p.1, p.2) (λ no_fault no_memory honest last s commit. not_refused image last s commit c.in_err-tm.field-0.0
    (told_of_counts image sb c.in_err-tm.field-0.0 (c.in_ok-superblock.ensures.found (λ e. not_err sb Fault e) honest) c.in_err-tm.ensures.only (why honest) no_fault no_memory))

pub returns-then-used_metadata-metadata_blocks-clause-told : goal.returns-then-used_metadata-metadata_blocks-clause-told
returns-then-used_metadata-metadata_blocks-clause-told g c no_fault no_memory honest =
    let image = seen (g.D.Disk.state c.args.disk.now).cells in
    let sb = c.in_ok-superblock.superblock in
    let same = c.in_ok-superblock.ensures.state in
    let has = λ (part : Part). subst (λ (d : DiskState). HasCounts (seen d.cells) sb part (now_of c.in_ok-tm.tm part)) same (c.in_ok-tm.ensures.found (ap (λ (d : DiskState). d.is_honest) same ∙ honest) part) in
    told_full image sb c.in_ok-tm.tm (c.in_ok-superblock.ensures.found (λ e. not_err sb Fault e) honest) has c.in_ok-tm.ensures.alike.0
    (omega (arith, c.used_metadata.ensures, c.metadata_blocks.ensures.value, c.metadata_blocks.ensures.within.metadata_least, c.if-used_metadata-metadata_blocks.true))

pub returns-then-used_metadata-metadata_blocks-clause-refused : goal.returns-then-used_metadata-metadata_blocks-clause-refused
returns-then-used_metadata-metadata_blocks-clause-refused g c no_fault no_memory honest last s commit =
    let image = seen (g.D.Disk.state c.args.disk.now).cells in
    let sb = c.in_ok-superblock.superblock in
    let same = c.in_ok-superblock.ensures.state in
    let has = λ (part : Part). subst (λ (d : DiskState). HasCounts (seen d.cells) sb part (now_of c.in_ok-tm.tm part)) same (c.in_ok-tm.ensures.found (ap (λ (d : DiskState). d.is_honest) same ∙ honest) part) in
    not_refused image last s commit Damaged
    (told_full image sb c.in_ok-tm.tm (c.in_ok-superblock.ensures.found (λ e. not_err sb Fault e) honest) has c.in_ok-tm.ensures.alike.0
    (omega (arith, c.used_metadata.ensures, c.metadata_blocks.ensures.value, c.metadata_blocks.ensures.within.metadata_least, c.if-used_metadata-metadata_blocks.true)))

pub returns-then-not-are_counted-clause-told : goal.returns-then-not-are_counted-clause-told
returns-then-not-are_counted-clause-told g c no_fault no_memory honest =
    let image = seen (g.D.Disk.state c.args.disk.now).cells in
    let sb = c.in_ok-superblock.superblock in
    let same = c.in_ok-superblock.ensures.state in
    let has = λ (part : Part). subst (λ (d : DiskState). HasCounts (seen d.cells) sb part (now_of c.in_ok-tm.tm part)) same (c.in_ok-tm.ensures.found (ap (λ (d : DiskState). d.is_honest) same ∙ honest) part) in
    told_uncounted image sb c.in_ok-tm.tm (c.in_ok-superblock.ensures.found (λ e. not_err sb Fault e) honest) has (c.are_counted.ensures.no (ap not c.if-not-are_counted.true))

pub returns-then-not-are_counted-clause-refused : goal.returns-then-not-are_counted-clause-refused
returns-then-not-are_counted-clause-refused g c no_fault no_memory honest last s commit =
    let image = seen (g.D.Disk.state c.args.disk.now).cells in
    let sb = c.in_ok-superblock.superblock in
    let same = c.in_ok-superblock.ensures.state in
    let has = λ (part : Part). subst (λ (d : DiskState). HasCounts (seen d.cells) sb part (now_of c.in_ok-tm.tm part)) same (c.in_ok-tm.ensures.found (ap (λ (d : DiskState). d.is_honest) same ∙ honest) part) in
    not_refused image last s commit Damaged
    (told_uncounted image sb c.in_ok-tm.tm (c.in_ok-superblock.ensures.found (λ e. not_err sb Fault e) honest) has (c.are_counted.ensures.no (ap not c.if-not-are_counted.true)))

pub returns-clause-told : goal.returns-clause-told
returns-clause-told g c no_fault no_memory honest =
    let old = g.D.Disk.state c.args.disk.now in
    let sb = c.in_ok-superblock.superblock in
    let same = c.in_ok-superblock.ensures.state in
    let sized : old.size ≡ length (seen old.cells) = seen_size old (g.met.D.Disk.well_formed c.args.disk.now) in
    record {
      chosen = c.in_ok-superblock.ensures.found (λ e. not_err sb Fault e) honest;
      whole = omega (arith, c.in_ok-tm.ensures.whole, ap (λ (d : DiskState). d.size) same, sized);
      counts = λ (part : Part). subst (λ (d : DiskState). HasCounts (seen d.cells) sb part (now_of c.in_ok-tm.tm part)) same (c.in_ok-tm.ensures.found (ap (λ (d : DiskState). d.is_honest) same ∙ honest) part);
      counted = c.are_counted.ensures.yes c.if-not-are_counted.false;
    }

pub returns-clause-holds : goal.returns-clause-holds
returns-clause-holds g c honest last s commit =
    let image = seen (g.D.Disk.state c.args.disk.now).cells in
    let sb = c.in_ok-superblock.superblock in
    let same = c.in_ok-superblock.ensures.state in
    let then = c.in_ok-tm.ensures.state in
    let has = λ (part : Part). subst (λ (d : DiskState). HasCounts (seen d.cells) sb part (now_of c.in_ok-tm.tm part)) same (c.in_ok-tm.ensures.found (ap (λ (d : DiskState). d.is_honest) same ∙ honest) part) in
    opened_holds image last s commit c.in_ok-tm.tm sb (g.D.Disk.state c.stored_counts.new.disk) (ap (λ (d : DiskState). seen d.cells) (then ∙ same))
    (c.in_ok-superblock.ensures.found (λ e. not_err sb Fault e) honest) has c.in_ok-tm.ensures.alike.0 c.in_ok-tm.ensures.alike.1
