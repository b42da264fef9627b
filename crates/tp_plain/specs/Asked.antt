-- Internal: a request of the program as one of the definitions.
use Rattle.std.specs.Prelude.{Bool, ◌&&◌}
use Rattle.tp_model.specs.Requests as wire
use Rattle.tp_plain.specs.declared.requests.Request.{Request}

abbrev pub asked : Request → wire.Request
asked r = record { kind = r.kind; flags = r.flags; offset = r.offset; bytes = r.bytes }

abbrev pub has_good_form : wire.Request → Bool
has_good_form r = wire.is_known r && wire.has_good_flags r && wire.is_aligned r
