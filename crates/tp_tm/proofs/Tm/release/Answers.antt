use Rattle.std.proofs.Common.{◌∷◌, subst, sym}
use Rattle.std.proofs.lemmas.Result.{on_ok_weaker}
use Rattle.tp_refs.specs.Store.{node_at}
use Rattle.tp_tm.specs.Holds.{Holds, IsRankOf}
use Rattle.tp_tm.proofs.Free.{untaken_data, untaken_free, untaken_used}
use Rattle.tp_tm.proofs.Releasing.{under_all}
use Rattle.tp_tm.proofs.Sharing.{fewer_untaken}
use Rattle.tp_tm.proofs.Tm.release.Goals as goal

pub returns-clause-released : goal.returns-clause-released
returns-clause-released g c =
    on_ok_weaker c.release_to.result
    (λ made honest opens held s h ranked. made honest opens held s
    (subst (λ x. Holds c.args.self.now (g.D.Disk.state c.args.disk.now) opens (x ∷ held) s) (sym c.number.ensures.value) h)
    (under_all c.args.kind _ (subst (λ x. IsRankOf c.args.kind (node_at s x).rank) (sym c.number.ensures.value) ranked)))
    c.release_to.ensures.released

pub returns-clause-damaged : goal.returns-clause-damaged
returns-clause-damaged g c e honest opens held s h ranked =
    c.release_to.ensures.damaged e honest opens held s
    (subst (λ x. Holds c.args.self.now (g.D.Disk.state c.args.disk.now) opens (x ∷ held) s) (sym c.number.ensures.value) h)
    (under_all c.args.kind _ (subst (λ x. IsRankOf c.args.kind (node_at s x).rank) (sym c.number.ensures.value) ranked))

pub returns-clause-free : goal.returns-clause-free
returns-clause-free g c = untaken_free c.args.self.now c.release_to.new.self (fewer_untaken c.args.self.now c.release_to.new.self c.release_to.ensures.fewer)

pub returns-clause-free_data : goal.returns-clause-free_data
returns-clause-free_data g c = untaken_data c.args.self.now c.release_to.new.self (fewer_untaken c.args.self.now c.release_to.new.self c.release_to.ensures.fewer)

pub returns-clause-used : goal.returns-clause-used
returns-clause-used g c = untaken_used c.args.self.now c.release_to.new.self (fewer_untaken c.args.self.now c.release_to.new.self c.release_to.ensures.fewer)
