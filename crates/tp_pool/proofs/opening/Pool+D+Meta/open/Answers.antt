use Rattle.std.proofs.Common.{◌≡◌, ◌+◌, ◌≤◌, ap, refl, subst, sym, ◌∙◌}
use Rattle.tp_model.specs.Disk.{DiskState, IsSettled, seen}
use Rattle.tp_model.specs.Geometry.{Geometry}
use Rattle.tp_stored.specs.Contents.{IsOpened}
use Rattle.tp_stored.proofs.Opened.{stands_for_opened}
use Rattle.tp_pool.proofs.Images.{pool_there}
use Rattle.tp_pool.proofs.Opened.{has_spare, stands_over}
use Rattle.tp_pool.proofs.opening.Pool+D+Meta.open.Goals as goal

pub returns-clause-shows : goal.returns-clause-shows
returns-clause-shows g c honest settled k contents s holds opened =
    let old = g.D.Disk.state c.args.disk in
    let new = g.D.Disk.state c.open.new.disk in
    let same : new ≡ old = c.in-Ok.ensures.state in
    let made = c.in-Ok.ensures.stands honest settled k contents holds in
    c.over.ensures.shows contents contents s made.0
    (subst (λ (h : Geometry). IsOpened h contents (seen new.cells) s) (sym made.1) (subst (λ (d : DiskState). IsOpened k contents (seen d.cells) s) (sym same) opened))
    (subst (λ (h : Geometry). contents.meta_used + 128 ≤ h.metadata_blocks) (sym made.1) (has_spare k contents (seen old.cells) holds))
    (λ wants. record { contents = refl; cells = subst (λ (d : DiskState). IsSettled d.cells) (sym same) settled })

pub returns-clause-reopened : goal.returns-clause-reopened
returns-clause-reopened g c honest settled =
    let old = g.D.Disk.state c.args.disk in
    let same = c.over.ensures.disk ∙ c.in-Ok.ensures.state in
    record {
      settled = subst (λ (d : DiskState). IsSettled d.cells) (sym same) settled;
      image_is = ap (λ (d : DiskState). seen d.cells) same;
      shows_it = λ k s is stands.
          returns-clause-shows g c honest settled k is.0 s is.1 ((stands_for_opened k is.0 (seen old.cells) is.1 s).0 stands);
    }

pub returns-clause-found : goal.returns-clause-found
returns-clause-found g c honest settled is =
    let there = pool_there (seen (g.D.Disk.state c.args.disk).cells) is in (there.0, there.1, (returns-clause-reopened g c honest settled).shows_it is.0 there.0 is.1 there.1)

pub returns-clause-stands : goal.returns-clause-stands
returns-clause-stands g c honest settled k contents holds =
    stands_over _ _ _ _ contents k c.over.ensures.metadata c.over.ensures.disk (c.in-Ok.ensures.stands honest settled k contents holds)
