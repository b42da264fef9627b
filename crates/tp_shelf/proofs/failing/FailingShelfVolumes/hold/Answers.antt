use Rattle.std.proofs.Common.{◌∷◌, [], ◌++◌, ◌∙◌, ap, arith, false, refl}
use Rattle.tp_model.specs.Calls.{Done}
use Rattle.tp_holders.specs.Holders.{holds_of}
use Rattle.tp_holders.proofs.Rows.{holds_pushed, total_is}
use Rattle.tp_shelf.proofs.Breaking.{meets}
use Rattle.tp_shelf.proofs.failing.FailingShelfVolumes.hold.Goals as goal

pub push-requires : goal.push-requires
push-requires c = omega (arith, c.requires, total_is c.args.self.now.holders.items)

pub returns : goal.returns
returns c =
    let holds = ap holds_of c.push.ensures.items ∙ (ap (λ v. holds_of (c.args.self.now.holders.items ++ v ∷ [])) c.of.ensures ∙ holds_pushed c.args.self.now.holders.items _) in
    meets _ _ _ c.args.self.now _ _ Done false false c.if-self.false c.if-self.false refl holds refl refl refl (λ flushes done. absurd cc) (λ id blocks is tells. absurd cc)
