use Rattle.std.proofs.Common.{rules, arith}
use Rattle.tp_list_mapping.proofs.Stands.{devices_counted}
use Rattle.tp_list_mapping.proofs.list.ListMappingMapping.devices.Goals as goal

pub returns-then-count-gt65536 : goal.returns-then-count-gt65536
returns-then-count-gt65536 g c = record {
  told = search rules;
  damaged = λ e honest now kept s. absurd (omega (arith, devices_counted c.args.self.now now kept s, s.within.volumes_now.few, c.len-count.ensures, c.if-count-gt65536.true));
  state = search rules;
}

pub returns : goal.returns
returns g c = record {
  told = λ honest now kept s. omega (arith, devices_counted c.args.self.now now kept s, c.len-count.ensures);
  damaged = search rules;
  state = search rules;
}
