-- Trusted reading: the messages to a pool (the kernel's thin-provisioning.rst, "Messages"; `grow`, the limits and the order of the tests are own).
use Rattle.std.specs.Prelude.{◌≡◌, ℕ, ◌<◌, ◌^◌, Bool, true, false, not, ◌&&◌, ◌==◌, if◌then◌else◌, List, [], ◌∷◌, ◌++◌, length, Option, None, Some, is_some, Result, Ok, Err, nat_lt, codes, bytes_eq}
use Rattle.std.specs.Fmt.{decimal}
use Rattle.std.specs.Option.{option_map_or}
use Rattle.std.specs.Str.{all_ascii_digits}
use Rattle.tp_model.specs.declared.refusal.Refusal.{Refusal}
use Rattle.tp_model.specs.declared.refusal.Refusal.TheVariants.{BadSyntax, UnknownMessage, BadDeviceId}
use Rattle.tp_model.specs.Digits.{number_after}
use Rattle.tp_msg.specs.declared.message.Message.{Message}
use Rattle.tp_msg.specs.declared.message.Message.TheVariants.{CreateThin, CreateSnap, Delete, SetTransactionId, Grow, ReserveMetadataSnap, ReleaseMetadataSnap}

-- ---- what each message's line is

abbrev pub IsMessage : Message → Type 0
IsMessage (CreateThin id) = id < 16777216
IsMessage (CreateSnap id origin) = (id < 16777216) × (origin < 16777216)
IsMessage (Delete id) = id < 16777216
IsMessage (SetTransactionId current next) = (current < 2 ^ 64) × (next < 2 ^ 64)
IsMessage (Grow id blocks) = (id < 16777216) × (blocks < 2 ^ 64)
IsMessage ReserveMetadataSnap = Unit {0}
IsMessage ReleaseMetadataSnap = Unit {0}

abbrev pub spelling : Message → List ℕ
spelling (CreateThin id) = codes "create_thin " ++ decimal id
spelling (CreateSnap id origin) = codes "create_snap " ++ (decimal id ++ (codes " " ++ decimal origin))
spelling (Delete id) = codes "delete " ++ decimal id
spelling (SetTransactionId current next) = codes "set_transaction_id " ++ (decimal current ++ (codes " " ++ decimal next))
spelling (Grow id blocks) = codes "grow " ++ (decimal id ++ (codes " " ++ decimal blocks))
spelling ReserveMetadataSnap = codes "reserve_metadata_snap"
spelling ReleaseMetadataSnap = codes "release_metadata_snap"

abbrev pub IsNoMessage : List ℕ → Type 0
IsNoMessage line = (m : Message) → IsMessage m → line ≡ spelling m → ⊥

-- ---- what any line is read as: the tests in their order

-- the bytes before the first space (32), or all where there is none
abbrev pub first_word : List ℕ → List ℕ
first_word [] = []
first_word (c ∷ cs) = if c == 32 then [] else c ∷ first_word cs

-- the bytes behind the first space, or none where there is none
abbrev pub behind : List ℕ → List ℕ
behind [] = []
behind (c ∷ cs) = if c == 32 then cs else behind cs

-- at least one byte, and of more than one the first is no zero (48)
abbrev pub begins_as_number : List ℕ → Bool
begins_as_number [] = false
begins_as_number (c ∷ []) = true
begins_as_number (c ∷ d ∷ ds) = not (c == 48)

abbrev pub is_number : List ℕ → Bool
is_number word = begins_as_number word && all_ascii_digits word

-- the number that a word of digits writes, however large
abbrev pub number : List ℕ → ℕ
number word = number_after 0 word

abbrev pub device_id : List ℕ → Result ℕ Refusal
device_id word = if nat_lt (number word) 16777216 then Ok (number word) else Err BadDeviceId

abbrev pub transaction_id : List ℕ → Result ℕ Refusal
transaction_id word = if nat_lt (number word) (2 ^ 64) then Ok (number word) else Err BadSyntax

-- a single word that is an id
abbrev pub one_id : List ℕ → Result ℕ Refusal
one_id arguments = if is_number arguments then device_id arguments else Err BadSyntax

abbrev pub message_of : (ℕ → Message) → Result ℕ Refusal → Result Message Refusal
message_of message (Ok id) = Ok (message id)
message_of message (Err reason) = Err reason

abbrev pub create_thin : List ℕ → Result Message Refusal
create_thin arguments = message_of CreateThin (one_id arguments)

abbrev pub delete : List ℕ → Result Message Refusal
delete arguments = message_of Delete (one_id arguments)

abbrev pub are_numbers : List ℕ → List ℕ → Bool
are_numbers first second = is_number first && is_number second

abbrev pub message_of_two : (ℕ → ℕ → Message) → Result ℕ Refusal → Result ℕ Refusal → Result Message Refusal
message_of_two message (Err reason) second = Err reason
message_of_two message (Ok first) (Err reason) = Err reason
message_of_two message (Ok first) (Ok second) = Ok (message first second)

abbrev pub snapshot_of : Result ℕ Refusal → Result ℕ Refusal → Result Message Refusal
snapshot_of = message_of_two CreateSnap

abbrev pub exchange_of : Result ℕ Refusal → Result ℕ Refusal → Result Message Refusal
exchange_of = message_of_two SetTransactionId

-- blocks that are too many come before an id that is too large
abbrev pub growth_of : Result ℕ Refusal → Result ℕ Refusal → Result Message Refusal
growth_of = message_of_two (λ blocks id. Grow id blocks)

-- two words that are numbers come before ids that are too large
abbrev pub create_snap : List ℕ → Result Message Refusal
create_snap arguments =
    if are_numbers (first_word arguments) (behind arguments)
    then snapshot_of (device_id (first_word arguments)) (device_id (behind arguments))
    else Err BadSyntax

abbrev pub set_transaction_id : List ℕ → Result Message Refusal
set_transaction_id arguments =
    if are_numbers (first_word arguments) (behind arguments)
    then exchange_of (transaction_id (first_word arguments)) (transaction_id (behind arguments))
    else Err BadSyntax

-- a number of blocks has the limit of a transaction id, and its refusal
abbrev pub grow : List ℕ → Result Message Refusal
grow arguments =
    if are_numbers (first_word arguments) (behind arguments)
    then growth_of (transaction_id (behind arguments)) (device_id (first_word arguments))
    else Err BadSyntax

-- the messages of one word, which is the whole line
abbrev pub one_word : List ℕ → Option Message
one_word line =
    if bytes_eq line (codes "reserve_metadata_snap") then Some ReserveMetadataSnap
    else (if bytes_eq line (codes "release_metadata_snap") then Some ReleaseMetadataSnap
    else None)

abbrev pub by_word : List ℕ → List ℕ → Result Message Refusal
by_word word arguments =
    if bytes_eq word (codes "create_thin") then create_thin arguments
    else (if bytes_eq word (codes "create_snap") then create_snap arguments
    else (if bytes_eq word (codes "delete") then delete arguments
    else (if bytes_eq word (codes "set_transaction_id") then set_transaction_id arguments
    else (if bytes_eq word (codes "grow") then grow arguments
    else Err (if is_some (one_word word) then BadSyntax else UnknownMessage)))))

abbrev pub reading : List ℕ → Result Message Refusal
reading line =
    if nat_lt 256 (length line) then Err BadSyntax
    else option_map_or Ok (one_word line) (by_word (first_word line) (behind line))
