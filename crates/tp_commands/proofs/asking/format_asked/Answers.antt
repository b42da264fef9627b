use Rattle.std.proofs.Common.{inr, refl}
use Rattle.tp_commands.proofs.asking.format_asked.Goals as goal

pub returns-then-may_destroy : goal.returns-then-may_destroy
returns-then-may_destroy g c = inr (inr (g.I.Images.deeds c.may_destroy.new.images, g.S.Stream.calls c.may_destroy.new.stream, c.if-may_destroy.ensures.agreed refl, c.format_image.ensures))
