use Rattle.std.proofs.Common.{List, ℕ, subst, sym}
use Rattle.tp_lines.specs.Pipes.{IsPiped, IsRead}
use Rattle.tp_lines.proofs.Piping.{piped_read}
use Rattle.tp_lines.proofs.pipe.PipedStream.receive.Goals as goal

pub invariant_of-self : goal.invariant_of-self
invariant_of-self g c =
    let piped = c.args.self.now in
    let held = g.R.Read.remaining in
    let told = g.W.Write.contents in
    let k = g.K.Begins.opening in
    let before : IsPiped k.left (held piped.input.now) k.told (told piped.output.now) piped.log.calls = record { read = piped.read; ends = piped.ends; wrote = piped.wrote } in
    let seen : IsRead c.read_into-received.result (held piped.input.now) (held c.read_into-received.new.input) c.as_slice.result.now =
    subst (λ (bytes : List ℕ). IsRead c.read_into-received.result (held piped.input.now) (held c.read_into-received.new.input) bytes) (sym c.as_slice.ensures.value) c.read_into-received.ensures.read in
    let after : IsPiped k.left (held c.read_into-received.new.input) k.told (told piped.output.now) c.note.new.self.calls =
    piped_read k.left (held piped.input.now) (held c.read_into-received.new.input) k.told (told piped.output.now) piped.log.calls c.note.new.self.calls c.read_into-received.result c.as_slice.result.now before seen c.note.ensures in
    record { reader = piped.reader; writer = piped.writer; read = after.read; ends = after.ends; wrote = after.wrote }
