use Rattle.std.proofs.Common.{rules, ◌≡◌, ℕ, Option, subst}
use Rattle.std.specs.Prelude.{IfSome}
use Rattle.tp_sharing.specs.Volumes.{devices_in}
use Rattle.tp_meta.proofs.Looking.{looks_up}
use Rattle.tp_meta.proofs.pool_metadata.MetaMetadata.devices.Goals as goal

pub returns-in-Some : goal.returns-in-Some
returns-in-Some g c = record {
  told = λ now kept st. subst (λ (o : Option ℕ). IfSome o (λ n. n ≡ devices_in now.volumes)) c.in-Some.is st.numbered;
  damaged = search rules;
  state = search rules;
}

pub returns : goal.returns
returns g c = looks_up c.args.self.now c.devices.ensures
