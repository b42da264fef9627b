use Rattle.std.proofs.Common.{◌∷◌, [], ◌++◌, ◌∙◌, ap, arith, inl, refl}
use Rattle.tp_model.specs.declared.refusal.Refusal.TheVariants.{NoSuchDevice}
use Rattle.tp_model.specs.Calls.{Done, Refused}
use Rattle.tp_holders.specs.Holders.{holds_of}
use Rattle.tp_holders.proofs.Rows.{holds_pushed, total_is}
use Rattle.tp_shelf.proofs.Shelving.{meets}
use Rattle.tp_shelf.proofs.shelf.ShelfVolumes.hold.Goals as goal

pub push-requires : goal.push-requires
push-requires c = omega (arith, c.requires, total_is c.args.self.now.holders.items)

pub returns-then-number-ge2 : goal.returns-then-number-ge2
returns-then-number-ge2 c = meets _ _ _ c.args.self.now _ _ (Refused NoSuchDevice) refl refl refl (λ is. absurd cc) (inl refl) refl refl (λ id blocks is tells. absurd cc)

pub returns : goal.returns
returns c = meets _ _ _ c.args.self.now _ _ Done refl refl (ap holds_of c.push.ensures.items ∙ (ap (λ v. holds_of (c.args.self.now.holders.items ++ v ∷ [])) c.of.ensures ∙ holds_pushed c.args.self.now.holders.items _)) (λ is. absurd cc) refl refl refl (λ id blocks is tells. absurd cc)
