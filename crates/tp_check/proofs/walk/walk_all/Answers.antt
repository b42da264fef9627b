use Rattle.std.proofs.Common.{◌≡◌, ℕ, ◌≤◌, length, List, ◌∷◌, sym, ◌∙◌, subst}
use Rattle.std.specs.Prelude.{Contains, IsTrue}
use Rattle.std.proofs.lemmas.Result.{err_from_is_err_and}
use Rattle.tp_model.specs.Disk.{DiskState, seen}
use Rattle.tp_model.specs.Geometry.{Geometry, IsTreeBlock}
use Rattle.tp_layout.specs.Super.{held_refs}
use Rattle.tp_layout.specs.declared.superblock.Version.{Version}
use Rattle.tp_check.specs.declared.error.CheckError.{CheckError}
use Rattle.tp_check.specs.Walk.{HasTreeFault, IsRooted, IsWalked}
use Rattle.tp_check.proofs.Closing.{fresh_walk}
use Rattle.tp_check.proofs.Passing.{err_passed}
use Rattle.tp_check.proofs.Walking.{all_whole, few_roots, first_there, held_there, rooted_on, rooted_still}
use Rattle.tp_check.proofs.walk.walk_all.Given.{Over}
use Rattle.tp_check.proofs.walk.walk_all.Goals as goal
use Rattle.tp_check.proofs.walk.walk_all.Goals.{After-roots-root, In_ok-walk_devices}

-- the root is one of both
root_there : (g : Over) (c : After-roots-root g) → Contains c.args.walk.now.roots c.roots-root.result.0
root_there g c = subst (λ (rs : List ℕ). Contains rs c.roots-root.result.0) (sym c.roots-root.ensures) (first_there c.roots-root.result.0 c.roots-root.result.1)

pub walk_devices-requires-clause-place : goal.walk_devices-requires-clause-place
walk_devices-requires-clause-place g c = c.requires.places c.roots-root.result.0 (root_there g (goal.at.walk_devices-requires-clause-place g c).After-roots-root)

-- at the beginning nothing was walked
begun : (g : Over) (c : After-roots-root g) → IsWalked (seen (g.D.Disk.state c.args.disk.now).cells) c.args.walk.now
begun g c =
    let few : length c.args.walk.now.roots ≤ 2 = subst (λ (rs : List ℕ). length rs ≤ 2) (sym c.roots-root.ensures) (few_roots c.roots-root.result.0 c.roots-root.result.1) in
    fresh_walk (seen (g.D.Disk.state c.args.disk.now).cells) c.args.walk.now.version c.args.walk.now.geometry c.args.walk.now.roots c.args.walk.now c.requires.fresh few

pub returns-in_err-walk_devices-clause-fault : goal.returns-in_err-walk_devices-clause-fault
returns-in_err-walk_devices-clause-fault g c =
    let p = err_from_is_err_and c.from_residual.result c.from_residual.ensures.1 in
    let disk = g.D.Disk.state c.args.disk.now in
    err_passed (λ (e : CheckError). IsTrue disk.is_honest → HasTreeFault (seen disk.cells) c.args.walk.now.version c.args.walk.now.geometry c.args.walk.now.roots e)
    c.from_residual.result p.0 c.in_err-walk_devices.field-0.0 p.1 p.2 (λ honest. c.in_err-walk_devices.ensures.fault honest (begun g (goal.at.returns-in_err-walk_devices-clause-fault g c).After-roots-root))

-- behind the first walk
first : (g : Over) (c : In_ok-walk_devices g) → IsTrue (g.D.Disk.state c.args.disk.now).is_honest → IsRooted (seen (g.D.Disk.state c.args.disk.now).cells) c.args.walk.now c.walk_devices.new.walk c.roots-root.result.0
first g c honest =
    let few : length c.args.walk.now.roots ≤ 2 = subst (λ (rs : List ℕ). length rs ≤ 2) (sym c.roots-root.ensures) (few_roots c.roots-root.result.0 c.roots-root.result.1) in
    c.in_ok-walk_devices.ensures.rooted honest (fresh_walk (seen (g.D.Disk.state c.args.disk.now).cells) c.args.walk.now.version c.args.walk.now.geometry c.args.walk.now.roots c.args.walk.now c.requires.fresh few)

-- the roots are the same behind it
both : (g : Over) (c : In_ok-walk_devices g) → c.walk_devices.new.walk.roots ≡ c.roots-root.result.0 ∷ held_refs c.roots-root.result.1
both g c = c.in_ok-walk_devices.ensures.same.roots ∙ c.roots-root.ensures

pub returns-then-number-eq0-clause-whole : goal.returns-then-number-eq0-clause-whole
returns-then-number-eq0-clause-whole g c honest =
    let a = (goal.at.returns-then-number-eq0-clause-whole g c).In_ok-walk_devices in
    all_whole (seen (g.D.Disk.state c.args.disk.now).cells) c.args.walk.now c.walk_devices.new.walk c.roots-root.result.0 c.roots-root.result.1 (both g a) (first g a honest)
    (λ some. absurd (some (sym c.number.ensures.value ∙ c.if-number-eq0.true)))

pub walk_devices-requires-2-clause-place : goal.walk_devices-requires-2-clause-place
walk_devices-requires-2-clause-place g c =
    let some : c.roots-root.result.1 ≡ 0 → ⊥ = λ none. c.if-number-eq0.false (c.number.ensures.value ∙ none) in
    let there = subst (λ (rs : List ℕ). Contains rs c.roots-root.result.1) (sym c.roots-root.ensures) (held_there c.roots-root.result.0 c.roots-root.result.1 some) in
    subst (λ (x : Geometry). IsTreeBlock x c.roots-root.result.1) (sym c.in_ok-walk_devices.ensures.same.geometry) (c.requires.places c.roots-root.result.1 there)

pub walk_devices-requires-2-clause-there : goal.walk_devices-requires-2-clause-there
walk_devices-requires-2-clause-there g c =
    let some : c.roots-root.result.1 ≡ 0 → ⊥ = λ none. c.if-number-eq0.false (c.number.ensures.value ∙ none) in
    subst (λ (rs : List ℕ). Contains rs c.roots-root.result.1) (sym (both g (goal.at.walk_devices-requires-2-clause-there g c).In_ok-walk_devices)) (held_there c.roots-root.result.0 c.roots-root.result.1 some)

-- the disk is as it was, and all that was walked is known
second : (g : Over) (c : In_ok-walk_devices g) → IsTrue (g.D.Disk.state c.args.disk.now).is_honest
    → (IsTrue (g.D.Disk.state c.walk_devices.new.disk).is_honest) × IsWalked (seen (g.D.Disk.state c.walk_devices.new.disk).cells) c.walk_devices.new.walk
second g c honest =
    let state : g.D.Disk.state c.walk_devices.new.disk ≡ g.D.Disk.state c.args.disk.now = c.in_ok-walk_devices.ensures.state in
    (subst (λ (z : DiskState). IsTrue z.is_honest) (sym state) honest, subst (λ (z : DiskState). IsWalked (seen z.cells) c.walk_devices.new.walk) (sym state) (first g c honest).walked)

pub returns-in_err-walk_devices-2-clause-fault : goal.returns-in_err-walk_devices-2-clause-fault
returns-in_err-walk_devices-2-clause-fault g c =
    let p = err_from_is_err_and c.from_residual-in_err-walk_devices-2.result c.from_residual-in_err-walk_devices-2.ensures.1 in
    let disk = g.D.Disk.state c.args.disk.now in
    let now = c.walk_devices.new.walk in
    let same = c.in_ok-walk_devices.ensures.same in
    let err = c.in_err-walk_devices-2.field-0.0 in
    let state : g.D.Disk.state c.walk_devices.new.disk ≡ disk = c.in_ok-walk_devices.ensures.state in
    err_passed (λ (e : CheckError). IsTrue disk.is_honest → HasTreeFault (seen disk.cells) c.args.walk.now.version c.args.walk.now.geometry c.args.walk.now.roots e)
    c.from_residual-in_err-walk_devices-2.result p.0 err p.1 p.2 (λ honest.
    let b = second g (goal.at.returns-in_err-walk_devices-2-clause-fault g c).In_ok-walk_devices honest in
    subst (λ (v : Version). HasTreeFault (seen disk.cells) v c.args.walk.now.geometry c.args.walk.now.roots err) same.version
    (subst (λ (x : List ℕ). HasTreeFault (seen disk.cells) now.version c.args.walk.now.geometry x err) same.roots
    (subst (λ (x : Geometry). HasTreeFault (seen disk.cells) now.version x now.roots err) same.geometry
    (subst (λ (z : DiskState). HasTreeFault (seen z.cells) now.version now.geometry now.roots err) state (c.in_err-walk_devices-2.ensures.fault b.0 b.1)))))

pub returns-clause-whole : goal.returns-clause-whole
returns-clause-whole g c honest =
    let a = (goal.at.returns-clause-whole g c).In_ok-walk_devices in
    let disk = g.D.Disk.state c.args.disk.now in
    let old = c.args.walk.now in
    let now = c.walk_devices.new.walk in
    let new = c.walk_devices-2.new.walk in
    let root = c.roots-root.result.0 in
    let held = c.roots-root.result.1 in
    let state : g.D.Disk.state c.walk_devices.new.disk ≡ disk = c.in_ok-walk_devices.ensures.state in
    let b = second g a honest in
    let next : IsRooted (seen disk.cells) now new held = subst (λ (z : DiskState). IsRooted (seen z.cells) now new held) state (c.in_ok-walk_devices-2.ensures.rooted b.0 b.1) in
    let one = first g a honest in
    let same = c.in_ok-walk_devices-2.ensures.same in
    all_whole (seen disk.cells) old new root held (same.roots ∙ both g a) (rooted_still (seen disk.cells) old now new root held same one next) (λ some. rooted_on (seen disk.cells) old now new held one.grows next)
