use Rattle.std.proofs.Common.{◌≡◌, Some, Bool, false, replicate, [], refl, sym, ap, subst, ◌∙◌}
use Rattle.std.specs.Prelude.{IsTrue}
use Rattle.tp_model.specs.DiskStops.{Leaves}
use Rattle.tp_layout.specs.declared.superblock.Superblock.{Superblock}
use Rattle.tp_stored.specs.Commit.{IsCommit, held_by}
use Rattle.tp_stored.specs.Contents.{Contents, contents_of}
use Rattle.tp_tm.specs.Tm.{Tm, kept_now}
use Rattle.tp_tm.specs.Holds.{Holds}
use Rattle.tp_meta.specs.Format.{fresh_nodes}
use Rattle.tp_meta.specs.Standing.{StandsFor, fresh_contents}
use Rattle.tp_meta.proofs.Contents.{not_begun}
use Rattle.tp_meta.proofs.FirstCommit.{first_contents}
use Rattle.tp_meta.proofs.Numbered.{counted_stands}
use Rattle.tp_meta.proofs.Reformatted.{chosen_left, reformats}
use Rattle.tp_meta.proofs.Standing.{settled_leaves}
use Rattle.tp_meta.proofs.whole.Meta.format.Goals as goal

pub returns-clause-stands : goal.returns-clause-stands
returns-clause-stands g c honest =
    let new = g.D.Disk.state c.format.new.disk in
    let sizes = c.args.geometry in
    let done = c.in_ok-tm.ensures in
    let tm = c.in_ok-tm.tm in
    let s = fresh_nodes sizes in
    let last = c.first_superblock.result in
    let is = c.first_superblock.ensures.value in
    let commit = subst (λ (x : Superblock). Leaves (λ image. IsCommit image x s) new.cells) (sym is) (settled_leaves _ s new.cells done.settled done.commit) in
    let still : IsTrue new.is_honest = done.same.is_honest ∙ honest in
    let own = ap (λ (t : Tm). t.geometry) done.answer in
    let holds = subst (λ (x : Superblock). Holds tm new [] (held_by x.geometry x.root x.held_root) s) (sym is) done.holds in
    let alike : kept_now tm ≡ tm = subst (λ (t : Tm). kept_now t ≡ t) (sym done.answer) refl in
    let stands = c.unchanged-meta.ensures.stands new s still commit holds (own ∙ sym (ap (λ (x : Superblock). x.geometry) is)) (ap (λ (t : Tm). t.held_root) done.answer ∙ sym (ap (λ (x : Superblock). x.held_root) is)) alike
    (c.in-Ok.ensures.marks ∙ ap (λ n. replicate {A = Bool} n false) (c.data_blocks.ensures.value ∙ sym (ap (λ (x : Superblock). x.geometry.data_blocks) is))) c.in-Ok.ensures.stale in
    let contents : contents_of last s ≡ _ = ap (λ (x : Superblock). contents_of x s) is ∙ first_contents sizes c.data_blocks.ensures.within in (
      counted_stands c.unchanged-meta.result (Some 0) new (fresh_contents sizes) (fresh_contents sizes)
          (subst (λ (k : Contents). StandsFor c.unchanged-meta.result new k k) contents stands) refl,
      ap (λ (t : Tm). t.geometry) c.unchanged-meta.ensures.tm ∙ own,
    )

pub returns-in_default-clause-any_moment : goal.returns-in_default-clause-any_moment
returns-in_default-clause-any_moment g c last honest was = not_begun last c.args.geometry (g.D.Disk.state c.args.disk.now) was

pub returns-in_default-clause-commits : goal.returns-in_default-clause-commits
returns-in_default-clause-commits g c last kept honest was =
    let old = g.D.Disk.state c.args.disk.now in
    let sizes = c.args.geometry in
    let within = c.data_blocks.ensures.within in
    reformats last kept sizes within old.cells was old old (not_begun last sizes old (chosen_left last kept sizes within old.cells was))

pub returns-in_err-tm-clause-commits : goal.returns-in_err-tm-clause-commits
returns-in_err-tm-clause-commits g c last kept honest was =
    let old = g.D.Disk.state c.args.disk.now in
    let sizes = c.args.geometry in
    let within = c.data_blocks.ensures.within in
    reformats last kept sizes within old.cells was old (g.D.Disk.state c.format.new.disk)
    (c.format.ensures.any_moment last honest (chosen_left last kept sizes within old.cells was))

pub returns-clause-commits : goal.returns-clause-commits
returns-clause-commits g c last kept honest was =
    let old = g.D.Disk.state c.args.disk.now in
    let sizes = c.args.geometry in
    let within = c.data_blocks.ensures.within in
    reformats last kept sizes within old.cells was old (g.D.Disk.state c.format.new.disk)
    (c.format.ensures.any_moment last honest (chosen_left last kept sizes within old.cells was))
