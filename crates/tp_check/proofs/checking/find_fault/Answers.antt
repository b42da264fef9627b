use Rattle.std.proofs.Common.{◌≡◌, ℕ, ◌≤◌, List, length, sym, ◌∙◌, subst, arith}
use Rattle.std.specs.Prelude.{IsTrue}
use Rattle.std.proofs.lemmas.List.{length-map}
use Rattle.std.proofs.lemmas.Result.{err_from_is_err_and, on_ok_weaker}
use Rattle.tp_model.specs.Disk.{DiskState, newest, seen}
use Rattle.tp_model.specs.Geometry.{Geometry, sectors_of_image}
use Rattle.tp_layout.specs.Super.{roots_of}
use Rattle.tp_layout.specs.declared.superblock.Version.{Version}
use Rattle.tp_image.specs.Clean.{HasTrueCounts}
use Rattle.tp_image.specs.Faults.{HasBadCount}
use Rattle.tp_check.specs.declared.error.CheckError.{CheckError}
use Rattle.tp_check.specs.Found.{HasFault}
use Rattle.tp_check.specs.Walk.{HasTreeFault, IsWhole}
use Rattle.tp_check.proofs.Passing.{err_passed}
use Rattle.tp_check.proofs.Verdicts.{clean_from, last_told, tree_told}
use Rattle.tp_check.proofs.checking.find_fault.Given.{Over}
use Rattle.tp_check.proofs.checking.find_fault.Goals as goal
use Rattle.tp_check.proofs.checking.find_fault.Goals.{In_ok-superblock, In_ok-walk_all}

-- the disk is as long as its superblock says
whole : (g : Over) (c : In_ok-superblock g) → sectors_of_image c.in_ok-superblock.superblock.geometry ≤ length (seen (g.D.Disk.state c.args.disk.now).cells)
whole g c =
    let size = (g.met.D.Disk.well_formed c.args.disk.now).size_is in
    omega (arith, c.in_ok-superblock.ensures.whole, size, length-map (g.D.Disk.state c.args.disk.now).cells newest)

pub returns-in_err-walk_all-clause-fault : goal.returns-in_err-walk_all-clause-fault
returns-in_err-walk_all-clause-fault g c =
    let p = err_from_is_err_and c.from_residual-in_err-walk_all.result c.from_residual-in_err-walk_all.ensures.1 in
    let disk = g.D.Disk.state c.args.disk.now in
    let s = c.in_ok-superblock.superblock in
    let err = c.in_err-walk_all.field-0.0 in
    let state : g.D.Disk.state c.superblock_on.new.disk ≡ disk = c.in_ok-superblock.ensures.state in
    err_passed (λ (e : CheckError). IsTrue disk.is_honest → HasFault (seen disk.cells) e) c.from_residual-in_err-walk_all.result p.0 err p.1 p.2 (λ honest.
    tree_told (seen disk.cells) s (c.in_ok-superblock.ensures.found honest) (whole g (goal.at.returns-in_err-walk_all-clause-fault g c).In_ok-superblock) err
    (subst (λ (v : Version). HasTreeFault (seen disk.cells) v s.geometry (roots_of s) err) c.in-Ok.ensures.version_is
    (subst (λ (x : List ℕ). HasTreeFault (seen disk.cells) c.in-Ok.walk.version s.geometry x err) c.in-Ok.ensures.roots_is
    (subst (λ (x : Geometry). HasTreeFault (seen disk.cells) c.in-Ok.walk.version x c.in-Ok.walk.roots err) c.in-Ok.ensures.geometry
    (subst (λ (z : DiskState). HasTreeFault (seen z.cells) c.in-Ok.walk.version c.in-Ok.walk.geometry c.in-Ok.walk.roots err) state
    (c.in_err-walk_all.ensures.fault (subst (λ (z : DiskState). IsTrue z.is_honest) (sym state) honest)))))))

-- what the whole walk found
found : (g : Over) (c : In_ok-walk_all g) → IsTrue (g.D.Disk.state c.args.disk.now).is_honest → IsWhole (seen (g.D.Disk.state c.args.disk.now).cells) c.walk_all.new.walk
found g c honest =
    let state : g.D.Disk.state c.superblock_on.new.disk ≡ g.D.Disk.state c.args.disk.now = c.in_ok-superblock.ensures.state in
    subst (λ (z : DiskState). IsWhole (seen z.cells) c.walk_all.new.walk) state (c.in_ok-walk_all.ensures.whole (subst (λ (z : DiskState). IsTrue z.is_honest) (sym state) honest))

-- the disk is as it was
still : (g : Over) (c : In_ok-walk_all g) → g.D.Disk.state c.walk_all.new.disk ≡ g.D.Disk.state c.args.disk.now
still g c = c.in_ok-walk_all.ensures.state ∙ c.in_ok-superblock.ensures.state

pub returns-clause-clean : goal.returns-clause-clean
returns-clause-clean g c =
    let a = (goal.at.returns-clause-clean g c).In_ok-walk_all in
    let disk = g.D.Disk.state c.args.disk.now in
    let s = c.in_ok-superblock.superblock in
    let p = c.walk_all.new.walk in
    on_ok_weaker c.test_stored.result (λ stored honest.
    let w = found g a honest in
    let counts = subst (λ (z : DiskState). (v : IsWhole (seen z.cells) p) → HasTrueCounts (seen z.cells) s v.nodes) (still g a) (stored (subst (λ (z : DiskState). IsTrue z.is_honest) (sym (still g a)) honest)) w in
    clean_from (seen disk.cells) s (c.in_ok-superblock.ensures.found honest) (whole g (goal.at.returns-clause-clean g c).In_ok-superblock) p (c.in_ok-walk_all.ensures.same.version ∙ c.in-Ok.ensures.version_is) (c.in_ok-walk_all.ensures.same.geometry ∙ c.in-Ok.ensures.geometry)
    (c.in_ok-walk_all.ensures.same.roots ∙ c.in-Ok.ensures.roots_is) w counts) c.test_stored.ensures.stored

pub returns-clause-fault : goal.returns-clause-fault
returns-clause-fault g c =
    let a = (goal.at.returns-clause-fault g c).In_ok-walk_all in
    let disk = g.D.Disk.state c.args.disk.now in
    let s = c.in_ok-superblock.superblock in
    last_told (seen disk.cells) s (IsTrue disk.is_honest) c.test_stored.result (λ honest. c.in_ok-superblock.ensures.found honest) (whole g (goal.at.returns-clause-fault g c).In_ok-superblock) c.test_stored.ensures.only (λ is honest.
    subst (λ (z : DiskState). HasBadCount (seen z.cells) s) (still g a)
    (c.test_stored.ensures.bad is (subst (λ (z : DiskState). IsTrue z.is_honest) (sym (still g a)) honest) (subst (λ (z : DiskState). IsWhole (seen z.cells) c.walk_all.new.walk) (sym (still g a)) (found g a honest))))
