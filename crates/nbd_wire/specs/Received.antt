-- Internal: reading from its front what the server sends.
use Rattle.std.specs.Borrow.{Bor}
use Rattle.std.specs.Option.{option_map}
use Rattle.std.specs.Prelude.{◌≡◌, ℕ, Option, Some, None, Bool, List, take, drop, replicate, length, nat_lt, ◌==◌, bytes_eq, if◌then◌else◌}
use Rattle.nbd_wire.specs.declared.replies.BlockSizes.{BlockSizes}
use Rattle.nbd_wire.specs.declared.replies.Export.{Export}
use Rattle.nbd_wire.specs.declared.replies.OptionReply.{OptionReply}
use Rattle.nbd_wire.specs.declared.replies.SimpleReply.{SimpleReply}
use Rattle.nbd_wire.specs.declared.writing.ReplyType.{ReplyType}
use Rattle.nbd_wire.specs.declared.writing.ReplyType.TheVariants.{Acknowledged, Server, Information, Context, Unsupported, Policy, Invalid, Unknown}
use Rattle.nbd_wire.specs.declared.TheConstants.{GREETING_MAGIC, OPTION_MAGIC, REPLY_MAGIC, SIMPLE_REPLY_MAGIC, HANDSHAKE_FLAGS, INFO_EXPORT, INFO_BLOCK_SIZE}
use Rattle.nbd_wire.specs.Numbers.{number}

-- what the program read and what follows it, or nothing
abbrev pub ReadIs : {A : Type 0} → Option (A × Bor (List ℕ)) → Option (A × List ℕ) → Type 0
ReadIs found told = option_map (λ r. (r.0, r.1.now)) found ≡ told

unfoldable pub simple_reply_in : List ℕ → Option (SimpleReply × List ℕ)
simple_reply_in text =
    let a = drop 4 text in
    let b = drop 4 a in
    if nat_lt (length text) 16 then None
    else if number 4 text == SIMPLE_REPLY_MAGIC then Some (record { error = number 4 a; cookie = number 8 b }, drop 16 text) else None

unfoldable pub greeting_in : List ℕ → Option (List ℕ)
greeting_in text =
    let a = drop 8 text in
    let b = drop 8 a in
    if nat_lt (length text) 18 then None
    else if number 8 text == GREETING_MAGIC then
    if number 8 a == OPTION_MAGIC then
    if number 2 b == HANDSHAKE_FLAGS then Some (drop 18 text) else None else None else None

-- the type that a number is of
unfoldable pub reply_of : ℕ → Option ReplyType
reply_of code =
    if code == 1 then Some Acknowledged else if code == 2 then Some Server else if code == 3 then Some Information else if code == 4 then Some Context
    else if code == 0x80000001 then Some Unsupported else if code == 0x80000002 then Some Policy else if code == 0x80000003 then Some Invalid
    else if code == 0x80000006 then Some Unknown else None

abbrev pub OptionReplyIs : Option (OptionReply × Bor (List ℕ)) → Option (ℕ × ReplyType × List ℕ × List ℕ) → Type 0
OptionReplyIs found told = option_map (λ r. (r.0.option, r.0.reply, r.0.payload.now, r.1.now)) found ≡ told

unfoldable pub option_reply_in : List ℕ → Option (ℕ × ReplyType × List ℕ × List ℕ)
option_reply_in text =
    let a = drop 8 text in
    let b = drop 4 a in
    let c = drop 4 b in
    let behind = drop 20 text in
    let len = number 4 c in
    if nat_lt (length text) 20 then None
    else if number 8 text == REPLY_MAGIC then
    if nat_lt (length behind) len then None
    else option_map (λ reply. (number 4 a, reply, take len behind, drop len behind)) (reply_of (number 4 b)) else None

unfoldable pub export_info_in : List ℕ → Option (Export × List ℕ)
export_info_in text =
    let a = drop 2 text in
    let b = drop 8 a in
    if nat_lt (length text) 12 then None
    else if number 2 text == INFO_EXPORT then Some (record { size = number 8 a; flags = number 2 b }, drop 12 text) else None

unfoldable pub block_size_info_in : List ℕ → Option (BlockSizes × List ℕ)
block_size_info_in text =
    let a = drop 2 text in
    let b = drop 4 a in
    let c = drop 4 b in
    if nat_lt (length text) 14 then None
    else if number 2 text == INFO_BLOCK_SIZE then Some (record { least = number 4 a; preferred = number 4 b; most = number 4 c }, drop 14 text) else None

-- what follows the zeroes behind the answer to EXPORT_NAME, where there are any
unfoldable pub is_padding : List ℕ → Bool
is_padding text = bytes_eq text (replicate 124 0)

unfoldable pub behind_padding : Bool → List ℕ → Option (List ℕ)
behind_padding no_zeroes text =
    if no_zeroes then Some text
    else if nat_lt (length text) 124 then None
    else if is_padding (take 124 text) then Some (drop 124 text) else None

unfoldable pub export_reply_in : Bool → List ℕ → Option (Export × List ℕ)
export_reply_in no_zeroes text =
    let a = drop 8 text in
    if nat_lt (length text) 10 then None
    else option_map (λ rest. (record { size = number 8 text; flags = number 2 a }, rest)) (behind_padding no_zeroes (drop 10 text))
