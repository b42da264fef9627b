use Rattle.std.proofs.Common.{◌≡◌, ap, ◌∙◌, arith}
use Rattle.std.specs.Prelude.{bytes_eq}
use Rattle.tp_model.specs.Sectors.{zero_sector}
use Rattle.tp_devices.proofs.Heading.{zero_bytes}
use Rattle.tp_devices.proofs.is_zero.Goals as goal

pub returns : goal.returns
returns c =
    let same : c.zeros.result.now ≡ zero_sector = zero_bytes c.zeros.result.now (omega (arith, c.zeros.ensures.length)) c.zeros.ensures.sectors in
    c.eq.ensures ∙ ap (bytes_eq c.args.sector.now) same
