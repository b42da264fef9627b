use denote.Param.Send.{sendable}
use Rattle.tp_crowd.proofs.staying.fn.attend_ruled.scope.Goals as goal

pub attend_watched-is_manned-requires-send-V : goal.attend_watched-is_manned-requires-send-V
attend_watched-is_manned-requires-send-V g c κs within = search sendable depth 20

pub attend_watched-is_manned-requires-send-K : goal.attend_watched-is_manned-requires-send-K
attend_watched-is_manned-requires-send-K g c κs within = search sendable depth 20

pub attend_watched-is_manned-requires-send-V-Midway :
    goal.attend_watched-is_manned-requires-send-V-Midway
attend_watched-is_manned-requires-send-V-Midway g c κs within = search sendable depth 20
