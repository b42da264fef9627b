use Rattle.tp_hub.proofs.Streaming.{sent_part, sent_whole}
use Rattle.tp_hub.proofs.stream.send_all.Goals as goal

pub returns-then-not-write_out : goal.returns-then-not-write_out
returns-then-not-write_out g c = sent_part _ _ c.args.bytes.now c.if-not-write_out.ensures

pub returns : goal.returns
returns g c =
    let told = g.S.Stream.calls in
    sent_whole (told c.args.stream.now) (told c.write_out.new.stream) (told c.flush.new.self) c.args.bytes.now c.flush.result c.if-not-write_out.ensures c.flush.ensures
