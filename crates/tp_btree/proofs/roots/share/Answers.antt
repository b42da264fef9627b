use Rattle.std.proofs.Common.{◌∷◌, ◌+◌, refl}
use Rattle.std.proofs.lemmas.Result.{on_ok_weaker}
use Rattle.tp_refs.specs.Store.{count_of, with_count}
use Rattle.tp_btree.proofs.Rooting.{passed}
use Rattle.tp_btree.proofs.roots.share.Goals as goal

pub returns-clause-shared : goal.returns-clause-shared
returns-clause-shared c = on_ok_weaker c.share.result
    (λ f disk opens held s h. passed s c.share.new.self disk opens (c.args.root ∷ c.args.root ∷ held)
    (record { after = with_count s c.args.root (count_of s c.args.root + 1); holds = f disk opens held s h; same = record { nodes = refl; kept = refl } })) c.share.ensures.holds

pub returns-clause-named : goal.returns-clause-named
returns-clause-named c = on_ok_weaker c.share.result
    (λ f disk opens held s h live closed. passed s c.share.new.self disk opens (c.args.root ∷ held)
    (record { after = with_count s c.args.root (count_of s c.args.root + 1); holds = f disk opens held s h live closed; same = record { nodes = refl; kept = refl } })) c.share.ensures.named
