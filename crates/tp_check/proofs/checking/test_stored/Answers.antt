use Rattle.std.proofs.Common.{◌≡◌, ℕ, List, length, sym, ap, ◌∙◌, subst, arith}
use Rattle.std.specs.Prelude.{◌==◌, IsTrue, count_by}
use Rattle.std.proofs.lemmas.Result.{err_from_is_err_and}
use Rattle.tp_model.specs.Disk.{DiskState, seen}
use Rattle.tp_model.specs.Geometry.{Geometry}
use Rattle.tp_layout.specs.declared.counts.Part.TheVariants.{Data, Metadata}
use Rattle.tp_image.specs.Areas.{HoldsCounts}
use Rattle.tp_check.specs.declared.error.CheckError.{CheckError}
use Rattle.tp_check.specs.declared.error.CheckError.TheVariants.{BadCount}
use Rattle.std.specs.Prelude.{Err}
use Rattle.tp_check.proofs.Passing.{error_is}
use Rattle.tp_check.proofs.Storing.{counts_few, counts_true, counts_untrue}
use Rattle.tp_check.proofs.checking.test_stored.Given.{Over}
use Rattle.tp_check.proofs.checking.test_stored.Goals as goal
use Rattle.tp_check.proofs.checking.test_stored.Goals.{After-data_names-data_names, In_ok-test_counts}

-- the lists of a walk are as long as the parts
metadata_long : (g : Over) (c : After-data_names-data_names g) → length c.args.walk.now.metadata ≡ c.args.superblock.now.geometry.metadata_blocks
metadata_long g c = c.metadata_names-metadata_names.ensures.long ∙ ap (λ (x : Geometry). x.metadata_blocks) c.requires.geometry

others_long : (g : Over) (c : After-data_names-data_names g) → length c.args.walk.now.others ≡ c.args.superblock.now.geometry.data_blocks
others_long g c = c.data_names-data_names.ensures.long ∙ ap (λ (x : Geometry). x.data_blocks) c.requires.geometry

pub returns-in_err-test_counts-clause-bad : goal.returns-in_err-test_counts-clause-bad
returns-in_err-test_counts-clause-bad g c e honest w =
    let a = (goal.at.returns-in_err-test_counts-clause-bad g c).After-data_names-data_names in
    let image = seen (g.D.Disk.state c.args.disk.now).cells in
    let p = err_from_is_err_and c.from_residual.result c.from_residual.ensures.1 in
    let is = error_is c.from_residual.result p.0 c.in_err-test_counts.field-0.0 BadCount p.1 p.2 e in
    counts_untrue image c.args.superblock.now c.args.walk.now w (sym c.requires.geometry) (sym c.requires.roots) (metadata_long g a) (others_long g a) Metadata c.slot-area.result c.slot-area.ensures
    (λ held. c.in_err-test_counts.ensures.bad (ap (λ (x : CheckError). Err x) is) honest (subst (λ (xs : List ℕ). HoldsCounts image c.args.superblock.now.geometry Metadata c.slot-area.result xs) (sym c.metadata_names-metadata_names.ensures.names) held))

pub returns-in_err-test_counts-2-clause-bad : goal.returns-in_err-test_counts-2-clause-bad
returns-in_err-test_counts-2-clause-bad g c e honest w =
    let a = (goal.at.returns-in_err-test_counts-2-clause-bad g c).After-data_names-data_names in
    let image = seen (g.D.Disk.state c.args.disk.now).cells in
    let state : g.D.Disk.state c.test_counts.new.disk ≡ g.D.Disk.state c.args.disk.now = c.in_ok-test_counts.ensures.state in
    let p = err_from_is_err_and c.from_residual-in_err-test_counts-2.result c.from_residual-in_err-test_counts-2.ensures.1 in
    let is = error_is c.from_residual-in_err-test_counts-2.result p.0 c.in_err-test_counts-2.field-0.0 BadCount p.1 p.2 e in
    counts_untrue image c.args.superblock.now c.args.walk.now w (sym c.requires.geometry) (sym c.requires.roots) (metadata_long g a) (others_long g a) Data c.slot-area.result c.slot-area.ensures
    (λ held. c.in_err-test_counts-2.ensures.bad (ap (λ (x : CheckError). Err x) is) (subst (λ (z : DiskState). IsTrue z.is_honest) (sym state) honest)
    (subst (λ (z : DiskState). HoldsCounts (seen z.cells) c.args.superblock.now.geometry Data c.slot-area.result c.data_names-data_names.result.now) (sym state)
    (subst (λ (xs : List ℕ). HoldsCounts image c.args.superblock.now.geometry Data c.slot-area.result xs) (sym c.data_names-data_names.ensures.names) held)))

-- the counts of the metadata blocks that are stored
held : (g : Over) (c : In_ok-test_counts g) → IsTrue (g.D.Disk.state c.args.disk.now).is_honest
    → HoldsCounts (seen (g.D.Disk.state c.args.disk.now).cells) c.args.superblock.now.geometry Metadata c.slot-area.result c.args.walk.now.metadata
held g c honest =
    subst (λ (xs : List ℕ). HoldsCounts (seen (g.D.Disk.state c.args.disk.now).cells) c.args.superblock.now.geometry Metadata c.slot-area.result xs) c.metadata_names-metadata_names.ensures.names (c.in_ok-test_counts.ensures.stored honest)

pub returns-then-free_among-lt128-clause-bad : goal.returns-then-free_among-lt128-clause-bad
returns-then-free_among-lt128-clause-bad g c e honest w =
    let a = (goal.at.returns-then-free_among-lt128-clause-bad g c).After-data_names-data_names in
    let free : c.free_among.result ≡ count_by (λ n. n == 0) c.args.walk.now.metadata = c.free_among.ensures ∙ ap (λ (xs : List ℕ). count_by (λ n. n == 0) xs) c.metadata_names-metadata_names.ensures.names in
    counts_few (seen (g.D.Disk.state c.args.disk.now).cells) c.args.superblock.now c.args.walk.now w (sym c.requires.geometry) (sym c.requires.roots) (metadata_long g a) (others_long g a) c.slot-area.result c.slot-area.ensures
    (held g (goal.at.returns-then-free_among-lt128-clause-bad g c).In_ok-test_counts honest) (omega (arith, free, c.if-free_among-lt128.true))

pub returns-clause-stored : goal.returns-clause-stored
returns-clause-stored g c honest w =
    let a = (goal.at.returns-clause-stored g c).After-data_names-data_names in
    let image = seen (g.D.Disk.state c.args.disk.now).cells in
    let state : g.D.Disk.state c.test_counts.new.disk ≡ g.D.Disk.state c.args.disk.now = c.in_ok-test_counts.ensures.state in
    let free : c.free_among.result ≡ count_by (λ n. n == 0) c.args.walk.now.metadata = c.free_among.ensures ∙ ap (λ (xs : List ℕ). count_by (λ n. n == 0) xs) c.metadata_names-metadata_names.ensures.names in
    let others = subst (λ (xs : List ℕ). HoldsCounts image c.args.superblock.now.geometry Data c.slot-area.result xs) c.data_names-data_names.ensures.names
    (subst (λ (z : DiskState). HoldsCounts (seen z.cells) c.args.superblock.now.geometry Data c.slot-area.result c.data_names-data_names.result.now) state
    (c.in_ok-test_counts-2.ensures.stored (subst (λ (z : DiskState). IsTrue z.is_honest) (sym state) honest))) in
    counts_true image c.args.superblock.now c.args.walk.now w (sym c.requires.geometry) (sym c.requires.roots) (metadata_long g a) (others_long g a) c.slot-area.result c.slot-area.ensures
    (held g (goal.at.returns-clause-stored g c).In_ok-test_counts honest) others (omega (arith, free, c.if-free_among-lt128.false))
