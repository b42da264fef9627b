use denote.Param.Send.{sendable}
use Rattle.tp_crowd.proofs.staying.fn.attend_beside.scope.Goals as goal

pub attend_house-is_manned-requires-send-V : goal.attend_house-is_manned-requires-send-V
attend_house-is_manned-requires-send-V g c = search sendable depth 20

pub attend_house-is_manned-requires-send-K : goal.attend_house-is_manned-requires-send-K
attend_house-is_manned-requires-send-K g c = search sendable

pub attend_house-is_manned-requires-send-V-Midway : goal.attend_house-is_manned-requires-send-V-Midway
attend_house-is_manned-requires-send-V-Midway g c = λ κs below. search sendable depth 20
