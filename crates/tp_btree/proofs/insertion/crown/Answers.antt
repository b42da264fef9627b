use Rattle.std.proofs.Common.{rules, ◌≡◌, ◌∙◌, ◌+◌, ◌<◌, ◌∷◌, ℕ, List, Err, ap, sym, subst, refl, arith, false}
use Rattle.tp_counts.specs.declared.error.StoreError.TheVariants.{Damaged}
use Rattle.tp_model.specs.Disk.{DiskState}
use Rattle.tp_layout.specs.Value.{node_value}
use Rattle.tp_refs.specs.Store.{Store, count_of, node_at}
use Rattle.tp_refs.specs.Balance.{occurrences}
use Rattle.tp_refs.proofs.Steps.{held_closed, held_live, one_same}
use Rattle.tp_tm.specs.Tm.{Tm}
use Rattle.tp_tm.specs.Holds.{Holds}
use Rattle.tp_btree.specs.Inserts.{IsWritten, Ran}
use Rattle.tp_btree.proofs.Steps.{ranked}
use Rattle.tp_btree.proofs.Crowning.{crowned, over}
use Rattle.tp_btree.proofs.Writing.{written_value}
use Rattle.std.proofs.lemmas.Result.{err_from_is_err_and}
use Rattle.tp_counts.proofs.Refusing.{fault_is}
use Rattle.tp_btree.proofs.Running.{ran_read, ran_taken, ran_then}
use Rattle.tp_btree.proofs.insertion.crown.Goals as goal

-- a held block is live and not open
live : (s : Store) (t : Tm) (d : DiskState) (opens held : List ℕ) (b : ℕ) → Holds t d opens (b ∷ held) s → 0 < count_of s b
live s t d opens held b h = held_live s opens (b ∷ held) b h.balanced (omega (arith, one_same b b refl))

closed : (s : Store) (t : Tm) (d : DiskState) (opens held : List ℕ) (b : ℕ) → Holds t d opens (b ∷ held) s → occurrences b opens ≡ 0
closed s t d opens held b h = held_closed s opens (b ∷ held) b h.balanced (omega (arith, one_same b b refl))

pub returns-in_err-below-clause-damaged : goal.returns-in_err-below-clause-damaged
returns-in_err-below-clause-damaged g c e honest opens held s k h rank fits some =
    let tm = c.args.tm.now in
    let d = g.D.Disk.state c.args.disk.now in
    let f : c.step_at.result ≡ Err Damaged = search (rules, e) in
    absurd (c.step_at.ensures.damaged f honest opens (c.args.lower ∷ c.args.upper ∷ held) s h (live s tm d opens (c.args.upper ∷ held) c.args.lower h) (closed s tm d opens (c.args.upper ∷ held) c.args.lower h)
    (ranked c.args.kind k (node_at s c.args.lower).rank rank fits) (omega (arith, rank, fits, c.most_level.ensures)))

pub returns-then-below-most_level-clause-damaged : goal.returns-then-below-most_level-clause-damaged
returns-then-below-most_level-clause-damaged g c e honest opens held s k h rank fits some =
    let tm = c.args.tm.now in
    let d = g.D.Disk.state c.args.disk.now in
    let p = c.in_ok-below.ensures.step honest opens (c.args.lower ∷ c.args.upper ∷ held) s h (live s tm d opens (c.args.upper ∷ held) c.args.lower h) (closed s tm d opens (c.args.upper ∷ held) c.args.lower h)
    (ranked c.args.kind k (node_at s c.args.lower).rank rank fits) in
    omega (arith, p.rank, rank, c.if-below-most_level.true, c.most_level-2.ensures)

pub returns-clause-crowned : goal.returns-clause-crowned
returns-clause-crowned g c honest opens held s k h rank fits some =
    let tm = c.args.tm.now in
    let m = tm.geometry.metadata_blocks in
    let t1 = c.fresh-own.new.self in
    let d = g.D.Disk.state c.args.disk.now in
    let d1 = g.D.Disk.state c.step_at.new.disk in
    let d2 = g.D.Disk.state c.write.new.disk in
    let u = c.write.new.tm in
    let own = c.fresh-own.result in
    let level = c.in_ok-below.below.level + 1 in
    let p = c.in_ok-below.ensures.step honest opens (c.args.lower ∷ c.args.upper ∷ held) s h (live s tm d opens (c.args.upper ∷ held) c.args.lower h) (closed s tm d opens (c.args.upper ∷ held) c.args.lower h)
    (ranked c.args.kind k (node_at s c.args.lower).rank rank fits) in
    let wrote : IsWritten m t1 d1 u d2 (node_value c.node_over-node.result) = subst (λ (z : Tm). IsWritten z.geometry.metadata_blocks t1 d1 u d2 (node_value c.node_over-node.result)) c.fresh-own.ensures.taken c.in_ok-write.ensures.written in
    let h1 : Holds tm d1 opens (c.args.lower ∷ c.args.upper ∷ held) s = subst (λ (z : DiskState). Holds tm z opens (c.args.lower ∷ c.args.upper ∷ held) s) (sym c.in_ok-below.ensures.state) h in
    crowned m tm t1 d d1 u d2 c.args.kind opens held s k level own c.args.lower c.args.middle c.args.upper (omega (arith, p.rank, rank)) refl c.fresh-own.ensures.inside h
    (c.fresh-own.ensures.unnamed d opens (c.args.lower ∷ c.args.upper ∷ held) s h) (c.fresh-own.ensures.holds d1 opens (c.args.lower ∷ c.args.upper ∷ held) s h1)
    (written_value m t1 d1 u d2 (node_value c.node_over-node.result) (over c.args.kind level own c.args.lower c.args.middle c.args.upper)
    (c.node_over-node.ensures.value ∙ ap (λ b. over c.args.kind level own b c.args.middle c.args.upper) c.number.ensures.value) wrote)

pub returns-then-below-most_level-clause-ran : goal.returns-then-below-most_level-clause-ran
returns-then-below-most_level-clause-ran g c =
    ran_read 1 false c.args.tm.now c.args.tm.now (g.D.Disk.state c.args.disk.now) (g.D.Disk.state c.step_at.new.disk) refl refl refl refl (omega arith) (omega arith) c.in_ok-below.ensures.state

pub returns-then-middle-eq0-clause-ran : goal.returns-then-middle-eq0-clause-ran
returns-then-middle-eq0-clause-ran g c =
    ran_read 1 false c.args.tm.now c.args.tm.now (g.D.Disk.state c.args.disk.now) (g.D.Disk.state c.step_at.new.disk) refl refl refl refl (omega arith) (omega arith) c.in_ok-below.ensures.state

pub returns-in_err-write-clause-ran : goal.returns-in_err-write-clause-ran
returns-in_err-write-clause-ran g c =
    let tm = c.args.tm.now in
    let t1 = c.fresh-own.new.self in
    let u = c.write.new.tm in
    let d0 = g.D.Disk.state c.args.disk.now in
    let d1 = g.D.Disk.state c.step_at.new.disk in
    let d2 = g.D.Disk.state c.write.new.disk in
    let p = err_from_is_err_and c.from_residual-in_err-write.result c.from_residual-in_err-write.ensures.1 in
    subst (λ b. Ran 1 b tm u d0 d2) (sym (fault_is c.from_residual-in_err-write.result p.0 c.in_err-write.field-0.0 p.1 p.2))
    (ran_then 0 1 1 _ tm tm u d0 d1 d2 (omega arith) (ran_read 0 false tm tm d0 d1 refl refl refl refl (omega arith) (omega arith) c.in_ok-below.ensures.state)
    (ran_taken _ tm t1 u d1 d2 c.fresh-own.result c.fresh-own.ensures.taken c.fresh-own.ensures.room c.fresh-own.ensures.used c.in_err-write.ensures.ran))

pub returns-clause-ran : goal.returns-clause-ran
returns-clause-ran g c =
    let tm = c.args.tm.now in
    let t1 = c.fresh-own.new.self in
    let u = c.write.new.tm in
    let d0 = g.D.Disk.state c.args.disk.now in
    let d1 = g.D.Disk.state c.step_at.new.disk in
    let d2 = g.D.Disk.state c.write.new.disk in
    ran_then 0 1 1 false tm tm u d0 d1 d2 (omega arith) (ran_read 0 false tm tm d0 d1 refl refl refl refl (omega arith) (omega arith) c.in_ok-below.ensures.state)
    (ran_taken false tm t1 u d1 d2 c.fresh-own.result c.fresh-own.ensures.taken c.fresh-own.ensures.room c.fresh-own.ensures.used c.in_ok-write.ensures.ran)
