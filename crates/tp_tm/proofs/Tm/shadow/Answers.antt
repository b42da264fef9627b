use Rattle.std.proofs.Common.{rules, ◌≡◌, ◌<◌, ◌≤◌, ◌++◌, ◌∷◌, ℕ, List, Err, IsTrue, sym, ap, subst, ◌∙◌, arith}
use Rattle.tp_counts.specs.declared.error.StoreError.TheVariants.{Damaged}
use Rattle.tp_layout.specs.Node.{IsNode, NodeValue, node_bytes}
use Rattle.tp_refs.specs.Store.{Store, children, node_at, node_from, with_count}
use Rattle.tp_tm.specs.Tm.{Tm, free_data}
use Rattle.tp_tm.specs.Holds.{Holds, IsRankOf, Released}
use Rattle.tp_tm.proofs.Free.{untaken_data, untaken_free, untaken_used}
use Rattle.tp_tm.proofs.Releasing.{kind_is, spelled, under_all}
use Rattle.tp_tm.proofs.Sharing.{copied, opened_holds}
use Rattle.tp_tm.proofs.Standing.{kept_at, now_at}
use Rattle.tp_tm.proofs.Tm.shadow.Given.{Over}
use Rattle.tp_tm.proofs.Tm.shadow.Goals as goal
use Rattle.tp_tm.proofs.Tm.shadow.Goals.{After-fresh-to, After-number, After-pass_on}

pub returns-then-is_private-clause-shadowed : goal.returns-then-is_private-clause-shadowed
returns-then-is_private-clause-shadowed g c honest opens held s h ranked room =
    let old = c.args.self.now in
    let x = c.args.block in
    let counts = c.is_private.ensures.private.0 c.if-is_private.true in
    opened_holds old (g.D.Disk.state c.args.disk.now) opens held s x h
    (now_at old s x c.is_private.ensures.long c.requires.inside h.stands.counts ∙ counts.0)
    (kept_at old s x c.is_private.ensures.kept_long c.requires.inside h.stands.kept ∙ counts.1)

-- the node that was read is the one that the store has there
read_is : (g : Over) (c : After-fresh-to g) → IsTrue (g.D.Disk.state c.args.disk.now).is_honest → (opens held : List ℕ) (s : Store) → Holds c.args.self.now (g.D.Disk.state c.args.disk.now) opens (c.args.block ∷ held) s
    → IsRankOf c.args.kind (node_at s c.args.block).rank → (n : NodeValue) × (IsNode n × (n.kind ≡ c.args.kind) × (c.read.new.bytes ≡ node_bytes n) × (node_at s c.args.block ≡ node_from c.args.self.now.geometry.metadata_blocks n))
read_is g c honest opens held s h ranked =
    let old = c.args.self.now in
    let disk = g.D.Disk.state c.args.disk.now in
    let x = c.args.block in
    let under = under_all c.args.kind (node_at s x).rank ranked in
    let more : 0 < 7 = omega arith in
    let sp = spelled old disk opens held s x 7 c.args.kind h under more in
    (sp.0, (sp.1.0.good, kind_is old disk opens held s x 7 c.args.kind h under more, c.in_ok-read.ensures.found honest ∙ sp.1.0.bytes, sp.1.1))

pub returns-in_err-read-clause-damaged : goal.returns-in_err-read-clause-damaged
returns-in_err-read-clause-damaged g c e honest opens held s h ranked room =
    let old = c.args.self.now in
    let disk = g.D.Disk.state c.args.disk.now in
    let x = c.args.block in
    let under = under_all c.args.kind (node_at s x).rank ranked in
    let more : 0 < 7 = omega arith in
    let l : c.read.result ≡ Err Damaged = search (rules, e) in
    let sp = spelled old disk opens held s x 7 c.args.kind h under more in
    c.read.ensures.damaged l honest sp.0 sp.1.0 (kind_is old disk opens held s x 7 c.args.kind h under more)

-- the store with the fresh block taken, by the number that the call has
taken : (g : Over) (c : After-number g) (opens held : List ℕ) (s : Store) → Holds c.args.self.now (g.D.Disk.state c.args.disk.now) opens (c.args.block ∷ held) s
    → Holds c.fresh-to.new.self (g.D.Disk.state c.args.disk.now) (c.fresh-to.result ∷ opens) (c.number.result ∷ held) (with_count s c.fresh-to.result 1)
taken g c opens held s h =
    subst (λ b. Holds c.fresh-to.new.self (g.D.Disk.state c.args.disk.now) (c.fresh-to.result ∷ opens) (b ∷ held) (with_count s c.fresh-to.result 1)) (sym c.number.ensures.value)
    (c.fresh-to.ensures.holds (g.D.Disk.state c.args.disk.now) opens (c.args.block ∷ held) s h)

named : (g : Over) (c : After-number g) (s : Store) (n : NodeValue) → node_at s c.args.block ≡ node_from c.args.self.now.geometry.metadata_blocks n
    → node_at (with_count s c.fresh-to.result 1) c.number.result ≡ node_from c.fresh-to.new.self.geometry.metadata_blocks n
named g c s n is =
    ap (node_at s) c.number.ensures.value ∙ is ∙ ap (λ (t : Tm). node_from t.geometry.metadata_blocks n) (sym c.fresh-to.ensures.taken)

pub returns-in_err-pass_on-clause-damaged : goal.returns-in_err-pass_on-clause-damaged
returns-in_err-pass_on-clause-damaged g c e honest opens held s h ranked room =
    let n = read_is g (goal.at.returns-in_err-pass_on-clause-damaged g c).After-fresh-to honest opens held s h ranked in
    let l : c.pass_on.result ≡ Err Damaged = search (rules, e) in
    c.pass_on.ensures.damaged l (g.D.Disk.state c.args.disk.now) (c.fresh-to.result ∷ opens) held (with_count s c.fresh-to.result 1) n.0 n.1.0 n.1.1 n.1.2
    (taken g (goal.at.returns-in_err-pass_on-clause-damaged g c).After-number opens held s h) (named g (goal.at.returns-in_err-pass_on-clause-damaged g c).After-number s n.0 n.1.3) (omega (arith, room))

pub returns-in_err-pass_on-clause-free : goal.returns-in_err-pass_on-clause-free
returns-in_err-pass_on-clause-free g c =
    omega (arith, c.fresh-to.ensures.room, untaken_free c.fresh-to.new.self c.pass_on.new.self c.pass_on.ensures.untaken)

pub returns-clause-free : goal.returns-clause-free
returns-clause-free g c =
    omega (arith, c.fresh-to.ensures.room, untaken_free c.fresh-to.new.self c.pass_on.new.self c.pass_on.ensures.untaken)

pub returns-in_err-pass_on-clause-used : goal.returns-in_err-pass_on-clause-used
returns-in_err-pass_on-clause-used g c =
    omega (arith, c.fresh-to.ensures.used, untaken_used c.fresh-to.new.self c.pass_on.new.self c.pass_on.ensures.untaken)

pub returns-clause-used : goal.returns-clause-used
returns-clause-used g c =
    omega (arith, c.fresh-to.ensures.used, untaken_used c.fresh-to.new.self c.pass_on.new.self c.pass_on.ensures.untaken)

pub returns-in_err-pass_on-clause-free_data : goal.returns-in_err-pass_on-clause-free_data
returns-in_err-pass_on-clause-free_data g c =
    subst (λ (t : Tm). free_data t ≤ free_data c.pass_on.new.self) c.fresh-to.ensures.taken (untaken_data c.fresh-to.new.self c.pass_on.new.self c.pass_on.ensures.untaken)

pub returns-clause-free_data : goal.returns-clause-free_data
returns-clause-free_data g c =
    subst (λ (t : Tm). free_data t ≤ free_data c.pass_on.new.self) c.fresh-to.ensures.taken (untaken_data c.fresh-to.new.self c.pass_on.new.self c.pass_on.ensures.untaken)

pub returns-clause-shadowed : goal.returns-clause-shadowed
returns-clause-shadowed g c honest opens held s h ranked room =
    let n = read_is g (goal.at.returns-clause-shadowed g c).After-fresh-to honest opens held s h ranked in
    let d = (goal.at.returns-clause-shadowed g c).After-number in
    let disk = g.D.Disk.state c.args.disk.now in
    let made : Released (with_count s c.fresh-to.result 1) c.pass_on.new.self disk (c.fresh-to.result ∷ opens) (children (node_at s c.number.result) ++ held) =
    c.in_ok-pass_on.ensures.passed disk (c.fresh-to.result ∷ opens) held (with_count s c.fresh-to.result 1) n.0 n.1.0 n.1.1 n.1.2 (taken g d opens held s h) (named g d s n.0 n.1.3) in
    copied s c.fresh-to.new.self c.pass_on.new.self disk opens held c.args.block c.fresh-to.result
    (c.fresh-to.ensures.holds disk opens (c.args.block ∷ held) s h)
    (subst (λ b. Released (with_count s c.fresh-to.result 1) c.pass_on.new.self disk (c.fresh-to.result ∷ opens) (children (node_at s b) ++ held)) c.number.ensures.value made)
    (λ b apart. c.pass_on.ensures.others b (λ e. apart (e ∙ c.number.ensures.value)))
