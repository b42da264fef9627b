use Rattle.tp_lines.specs.Pipes.{IsPiped}
use Rattle.tp_lines.proofs.Piping.{piped_flush}
use Rattle.tp_lines.proofs.pipe.PipedStream.flush.Goals as goal

pub invariant_of-self : goal.invariant_of-self
invariant_of-self g c =
    let piped = c.args.self.now in
    let held = g.R.Read.remaining in
    let told = g.W.Write.contents in
    let k = g.K.Begins.opening in
    let before : IsPiped k.left (held piped.input.now) k.told (told piped.output.now) piped.log.calls = record { read = piped.read; ends = piped.ends; wrote = piped.wrote } in
    let after : IsPiped k.left (held piped.input.now) k.told (told c.flush.new.self) c.note.new.self.calls =
    piped_flush k.left (held piped.input.now) k.told (told piped.output.now) (told c.flush.new.self) piped.log.calls c.note.new.self.calls c.is_ok-done.result before c.flush.ensures.bytes c.note.ensures in
    record { reader = piped.reader; writer = piped.writer; read = after.read; ends = after.ends; wrote = after.wrote }
