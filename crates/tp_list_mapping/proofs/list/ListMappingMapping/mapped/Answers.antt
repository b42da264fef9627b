use Rattle.std.proofs.Common.{rules, ◌∙◌, ap, arith, sym}
use Rattle.tp_sharing.specs.Volumes.{mapped_of}
use Rattle.tp_list_mapping.specs.List.{volumes}
use Rattle.tp_list_mapping.proofs.Stands.{few_mapped}
use Rattle.tp_list_mapping.proofs.list.ListMappingMapping.mapped.Goals as goal

pub returns-then-count-gt16777216 : goal.returns-then-count-gt16777216
returns-then-count-gt16777216 g c = record {
  told = search rules;
  damaged = λ e honest now kept s. omega (
    arith,
    few_mapped c.args.self.now now kept s c.args.device c.in-Some.count (ap (λ l. mapped_of c.args.device (volumes l)) (sym c.deref.ensures.value) ∙ sym c.in-Some.ensures),
    c.if-count-gt16777216.true,
    s.most,
  );
  state = search rules;
}
