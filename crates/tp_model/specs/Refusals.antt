-- Trusted reading: the number of each refusal (own), and the errors of requests (NBD's proto.md, "Error values").
use Rattle.std.specs.Prelude.{ℕ, Bool, true, false, Result, Ok, Err}
use Rattle.tp_model.specs.declared.refusal.Refusal.{Refusal}
use Rattle.tp_model.specs.declared.refusal.NbdError.{NbdError}
use Rattle.tp_model.specs.declared.refusal.NbdError.TheVariants.{NotPermitted, InputOutput, Invalid, NoSpace}
use Rattle.tp_model.specs.declared.refusal.Refusal.TheVariants.{BadGeometry, Damaged, NotAPool, BadVersion, Fault, Memory, BadSyntax, UnknownMessage, BadDeviceId, Exists, NoSuchDevice, Busy, StaleTransactionId, NoMetadataSpace, TooManyDevices, ReadOnly, Failed, SessionInUse, NoSession, NoDataSpace, HeldRootExists, NoHeldRoot, BadSize, BadSuper, BadNode, BadOrder, BadCount, OutOfPlace, HalfEmpty, BadMapped, BadRecordSize}

abbrev pub refusal_number : Refusal → ℕ
refusal_number BadGeometry = 1
refusal_number Damaged = 2
refusal_number NotAPool = 3
refusal_number BadVersion = 4
refusal_number Fault = 5
refusal_number Memory = 10
refusal_number BadSyntax = 11
refusal_number UnknownMessage = 12
refusal_number BadDeviceId = 13
refusal_number Exists = 14
refusal_number NoSuchDevice = 15
refusal_number Busy = 16
refusal_number StaleTransactionId = 17
refusal_number NoMetadataSpace = 18
refusal_number TooManyDevices = 19
refusal_number ReadOnly = 20
refusal_number Failed = 21
refusal_number SessionInUse = 22
refusal_number NoSession = 23
refusal_number NoDataSpace = 24
refusal_number BadSize = 25
refusal_number HeldRootExists = 26
refusal_number NoHeldRoot = 27
refusal_number BadSuper = 30
refusal_number BadNode = 31
refusal_number BadOrder = 32
refusal_number BadCount = 33
refusal_number OutOfPlace = 34
refusal_number HalfEmpty = 35
refusal_number BadMapped = 36
refusal_number BadRecordSize = 37

abbrev pub nbd_code : NbdError → ℕ
nbd_code NotPermitted = 1
nbd_code InputOutput = 5
nbd_code Invalid = 22
nbd_code NoSpace = 28

-- the error of a request that the pool refuses so
abbrev pub nbd_error : Refusal → NbdError
nbd_error ReadOnly = NotPermitted
nbd_error NoMetadataSpace = NoSpace
nbd_error NoDataSpace = NoSpace
nbd_error reason = InputOutput

abbrev pub is_fault_refusal : Refusal → Bool
is_fault_refusal Fault = true
is_fault_refusal reason = false

-- whether a call was refused because the disk failed
abbrev pub is_fault : {T : Type 0} → Result T Refusal → Bool
is_fault (Ok x) = false
is_fault (Err reason) = is_fault_refusal reason
