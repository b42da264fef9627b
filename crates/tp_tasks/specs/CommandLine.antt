-- Trusted reading: the command line: what `clap` makes of the words, the task that they name, and whether it is to be explained.
use Rattle.std.specs.Prelude.{◌≡◌, ◌≢◌, ◌⊎◌, ◌<◌, ◌≤◌, ◌^◌, ◌*◌, ◌+◌, ◌-◌, ◌==◌, ◌||◌, ℕ, Bool, true, false, List, [], ◌∷◌, ◌++◌, Option, None, Some, codes, drop, if◌then◌else◌, is_some, length, slice_index, take, ⊤, IfSome}
use Rattle.std.specs.Bool.{MatchBool}
use Rattle.std.specs.List.{after_first, before_first, position_or_len}
use Rattle.std.specs.Borrow.{Bor}
use Rattle.std.specs.Option.{option_map_or}
use Rattle.std.specs.Str.{bytes_eq}
use Rattle.std.specs.Str.Parse.{IsNumeral, digits_value, without_leading_plus}
use Rattle.clap.specs.Words.{App, Kinds, Row, Rule, all_of, fault_of, first_of, new_app, new_rule, subcommand_of, with_rule, with_subcommand, IsAmong}
pub use Rattle.clap.specs.Words.{Text}
use Rattle.clap.specs.declared.builder.action.ArgAction.TheVariants.{Append, SetTrue}
use Rattle.clap.specs.declared.builder.value_parser.ValueParser.{ValueParser}
use Rattle.clap.specs.declared.builder.value_parser.ValueParser.TheVariants.{Unsigned}
use Rattle.clap.specs.declared.error.kind.ErrorKind.{ErrorKind}
use Rattle.clap.specs.declared.error.kind.ErrorKind.TheVariants.{DisplayHelp, DisplayVersion}
use Rattle.tp_tasks.specs.declared.task.Asked.{Asked}
use Rattle.tp_tasks.specs.declared.task.Task.{Task}
use Rattle.tp_tasks.specs.declared.task.Task.TheVariants.{Format, Create, Message, Status, Report, DeltaAt, Check, Feed, Serve, Play, Run, Ask}
use Rattle.tp_tasks.specs.declared.task.Listing.TheVariants.{Volumes, Map, Delta, Free}
use Rattle.tp_tasks.specs.declared.task.Sizes.{Sizes}
use Rattle.tp_tasks.specs.declared.task.Texts.{Texts}
use Rattle.tp_tasks.specs.declared.task.Wanted.{Wanted}
use Rattle.tp_tasks.specs.declared.task.Image.{Image}
use Rattle.tp_tasks.specs.declared.task.Image.TheVariants.{Memory, File}
use Rattle.tp_tasks.specs.declared.task.Unread.{Unread}
use Rattle.tp_tasks.specs.declared.task.Unread.TheVariants as unread

-- ---- the commands

-- an argument that has to be there
abbrev pub text_rule : Text → Rule
text_rule id = record (new_rule id) { required = true }

-- one that is a number of 64 bits
abbrev pub number_parser : ValueParser
number_parser = Unsigned 0 18446744073709551615

abbrev pub number_rule : Text → Rule
number_rule id = record (text_rule id) { parser = Some number_parser }

abbrev pub optional_number_rule : Text → Rule
optional_number_rule id = record (new_rule id) { parser = Some number_parser }

-- a flag `--name`
abbrev pub flag_rule : Text → Text → Rule
flag_rule id name = record (new_rule id) { long = Some name; action = Some SetTrue }

-- an option `--name VALUE`, whose value help calls by a name of one word
abbrev pub option_rule : Text → Text → Rule
option_rule id name = record (new_rule id) { long = Some name; value_names = 1 }

-- the same of one that is a number of 64 bits
abbrev pub number_option_rule : Text → Text → Rule
number_option_rule id name = record (option_rule id name) { parser = Some number_parser }

-- an option `--name VALUE` that has to be there
abbrev pub wanted_rule : Text → Text → Rule
wanted_rule id name = record (option_rule id name) { required = true }

-- the same of one that is a number of 64 bits
abbrev pub wanted_number_rule : Text → Text → Rule
wanted_number_rule id name = record (wanted_rule id name) { parser = Some number_parser }

-- an option `--name VALUE` that has to be there, and may be there several times
abbrev pub repeated_rule : Text → Text → Rule
repeated_rule id name = record (option_rule id name) { required = true; action = Some Append }

-- an argument that may be left out
abbrev pub optional_rule : Text → Rule
optional_rule id = new_rule id

-- a command of an image
abbrev pub image_app : Text → App
image_app name = with_rule (new_app name) (text_rule (codes "IMAGE"))

-- `thinpool format IMAGE BLOCK_SECTORS VIRTUAL_BLOCKS METADATA_BLOCKS DATA_BLOCKS [--overwrite]`
abbrev pub format_app : App
format_app =
    with_rule (with_rule (with_rule (with_rule (with_rule (image_app (codes "format"))
    (number_rule (codes "BLOCK_SECTORS"))) (number_rule (codes "VIRTUAL_BLOCKS"))) (number_rule (codes "METADATA_BLOCKS"))) (number_rule (codes "DATA_BLOCKS")))
    (flag_rule (codes "OVERWRITE") (codes "overwrite"))

-- `thinpool create IMAGE --size SIZE --volume-size SIZE --volumes N [--block-size SIZE] [--overwrite]`
abbrev pub create_app : App
create_app =
    with_rule (with_rule (with_rule (with_rule (with_rule (image_app (codes "create"))
    (wanted_rule (codes "SIZE") (codes "size"))) (wanted_rule (codes "VOLUME_SIZE") (codes "volume-size"))) (wanted_number_rule (codes "VOLUMES") (codes "volumes")))
    (option_rule (codes "BLOCK_SIZE") (codes "block-size"))) (flag_rule (codes "OVERWRITE") (codes "overwrite"))

-- `thinpool message IMAGE LINE`
abbrev pub message_app : App
message_app = with_rule (image_app (codes "message")) (text_rule (codes "LINE"))

-- `thinpool status IMAGE [ID]`
abbrev pub status_app : App
status_app = with_rule (image_app (codes "status")) (optional_number_rule (codes "ID"))

-- `--json`: what is listed is one line of JSON
abbrev pub json_rule : Rule
json_rule = flag_rule (codes "JSON") (codes "json")

-- `thinpool ls IMAGE [--json]`
abbrev pub list_app : App
list_app = with_rule (image_app (codes "ls")) json_rule

-- `thinpool map IMAGE ID [--json]`
abbrev pub map_app : App
map_app = with_rule (with_rule (image_app (codes "map")) (number_rule (codes "ID"))) json_rule

-- `--at`: what stands where the image does is the control place of a server
abbrev pub at_rule : Rule
at_rule = flag_rule (codes "AT") (codes "at")

-- `thinpool delta IMAGE OLD NEW [--json]`, and `thinpool delta --at PLACE OLD NEW [--json]`
abbrev pub delta_app : App
delta_app = with_rule (with_rule (with_rule (with_rule (image_app (codes "delta")) (number_rule (codes "OLD"))) (number_rule (codes "NEW"))) json_rule) at_rule

-- `thinpool free IMAGE [--json]`
abbrev pub free_app : App
free_app = with_rule (image_app (codes "free")) json_rule

-- `thinpool check IMAGE [--clear-needs-check-flag]`
abbrev pub check_app : App
check_app = with_rule (image_app (codes "check")) (flag_rule (codes "CLEAR") (codes "clear-needs-check-flag"))

-- `--extended`: clients are offered what `run` offers
abbrev pub extended_rule : Rule
extended_rule = flag_rule (codes "EXTENDED") (codes "extended")

-- `thinpool feed IMAGE [--extended]`
abbrev pub feed_app : App
feed_app = with_rule (image_app (codes "feed")) extended_rule

-- `thinpool serve IMAGE ADDR COUNT [--control ADDRESS]`
abbrev pub serve_app : App
serve_app =
    with_rule (with_rule (with_rule (image_app (codes "serve"))
    (text_rule (codes "ADDR"))) (number_rule (codes "COUNT"))) (option_rule (codes "CONTROL") (codes "control"))

-- `thinpool play IMAGE SCRIPT [--extended]`
abbrev pub play_app : App
play_app = with_rule (with_rule (image_app (codes "play")) (text_rule (codes "SCRIPT"))) extended_rule

-- a command of which some is told: `[--low-water PERCENT] [--quiet]`
abbrev pub told_app : App → App
told_app app = with_rule (with_rule app (number_option_rule (codes "LOW_WATER") (codes "low-water"))) (flag_rule (codes "QUIET") (codes "quiet"))

-- a command that creates socket files: `[--socket-mode MODE] [--socket-group GROUP]`
abbrev pub socket_app : App → App
socket_app app = with_rule (with_rule app (option_rule (codes "SOCKET_MODE") (codes "socket-mode"))) (option_rule (codes "SOCKET_GROUP") (codes "socket-group"))

-- `thinpool run IMAGE --listen WHERE.. [--control WHERE] [--default ID] [--clones] [--write-through] [--exit-on-failure] [--low-water PERCENT] [--quiet] [--socket-mode MODE] [--socket-group GROUP]`
abbrev pub run_app : App
run_app =
    socket_app (told_app (with_rule (with_rule (with_rule (with_rule (with_rule (with_rule (image_app (codes "run")) (repeated_rule (codes "LISTEN") (codes "listen"))) (option_rule (codes "CONTROL") (codes "control")))
    (number_option_rule (codes "DEFAULT") (codes "default"))) (flag_rule (codes "CLONES") (codes "clones"))) (flag_rule (codes "WRITE_THROUGH") (codes "write-through")))
    (flag_rule (codes "EXIT_ON_FAILURE") (codes "exit-on-failure"))))

-- `thinpool ask WHERE LINE [LINE2] [LINE3] [LINE4]`
abbrev pub ask_app : App
ask_app =
    with_rule (with_rule (with_rule (with_rule (with_rule (new_app (codes "ask"))
    (text_rule (codes "WHERE"))) (text_rule (codes "LINE"))) (optional_rule (codes "LINE2"))) (optional_rule (codes "LINE3"))) (optional_rule (codes "LINE4"))

abbrev pub without_subcommands : App
without_subcommands =
    let app = new_app (codes "thinpool") in
    record app { top = record app.top { has_version = true; subcommand_required = true; arg_required_else_help = true } }

-- `--explain`, which each command has
abbrev pub explain_rule : Rule
explain_rule = flag_rule (codes "EXPLAIN") (codes "explain")

-- with this command, and that flag of it
abbrev pub with_command : App → App → App
with_command app command = with_subcommand app (with_rule command explain_rule).top

-- with the commands that make an image, tell it a message, or tell its status
abbrev pub with_first : App → App
with_first app = with_command (with_command (with_command (with_command app format_app) create_app) message_app) status_app

-- with those that list what is in an image
abbrev pub with_listings : App → App
with_listings app = with_command (with_command (with_command (with_command app list_app) map_app) delta_app) free_app

abbrev pub thinpool_app : App
thinpool_app =
    with_command (with_command (with_command (with_command (with_command (with_command (with_listings (with_first without_subcommands))
    check_app) feed_app) serve_app) play_app) run_app) ask_app

-- ---- the flag in front of the command

-- the word behind the program's name is `--explain`
abbrev pub is_explained : List Text → Bool
is_explained (name ∷ word ∷ rest) = bytes_eq word (codes "--explain")
is_explained words = false

-- the words that `clap` is given: all of them, but for that one
abbrev pub without_flag : List Text → List Text
without_flag (name ∷ word ∷ rest) = if bytes_eq word (codes "--explain") then name ∷ rest else name ∷ word ∷ rest
without_flag words = words

-- the mistakes that it finds in them
abbrev pub mistakes : List Text → Kinds
mistakes words = fault_of thinpool_app (without_flag words)

-- the command that they name, with what is found of its arguments
abbrev pub command_in : List Text → Option (Text × List Row)
command_in words = subcommand_of thinpool_app (without_flag words)

-- ---- the task

-- the text reads as this number of 64 bits
abbrev pub IsNumber : Text → ℕ → Type 0
IsNumber text n =
    let digits = without_leading_plus text in
    (IsNumeral 10 digits × (digits_value 10 digits < 2 ^ 64)) × (n ≡ digits_value 10 digits)

-- `mem:` is a pool in memory, and every other text the path of a file
abbrev pub IsImage : Text → Image → Type 0
IsImage text Memory = text ≡ codes "mem:"
IsImage text (File path) = (text ≢ codes "mem:") × (path.now ≡ text)

-- what was found of an argument
abbrev pub HasText : Text → List Row → Bor Text → Type 0
HasText id rows text = first_of id rows ≡ Some text.now

abbrev pub LacksText : Text → List Row → Type 0
LacksText id rows = first_of id rows ≡ None

-- of one that may be left out
abbrev pub MayHaveText : Text → List Row → Option (Bor Text) → Type 0
MayHaveText id rows None = LacksText id rows
MayHaveText id rows (Some text) = HasText id rows text

abbrev pub HasNumber : Text → List Row → ℕ → Type 0
HasNumber id rows n = (text : Text) × (first_of id rows ≡ Some text) × IsNumber text n

abbrev pub LacksNumber : Text → List Row → Type 0
LacksNumber id rows = (text : Text) → first_of id rows ≡ Some text → (n : ℕ) → IsNumber text n → ⊥

-- of one that may be left out
abbrev pub MayHaveNumber : Text → List Row → Option ℕ → Type 0
MayHaveNumber id rows None = LacksText id rows
MayHaveNumber id rows (Some n) = HasNumber id rows n

-- it is there, and is no number
abbrev pub HasNoNumber : Text → List Row → Type 0
HasNoNumber id rows = (is_some (first_of id rows) ≡ true) × LacksNumber id rows

-- a flag is used where the text that was found of it is `true`
abbrev pub is_used : Text → List Row → Bool
is_used id rows = option_map_or (λ text. bytes_eq text (codes "true")) (first_of id rows) false

abbrev pub HasSizes : List Row → Sizes → Type 0
HasSizes rows sizes =
    HasNumber (codes "BLOCK_SECTORS") rows sizes.block_sectors
    × HasNumber (codes "VIRTUAL_BLOCKS") rows sizes.virtual_blocks
    × HasNumber (codes "METADATA_BLOCKS") rows sizes.metadata_blocks
    × HasNumber (codes "DATA_BLOCKS") rows sizes.data_blocks

abbrev pub LacksSizes : List Row → Type 0
LacksSizes rows =
    LacksNumber (codes "BLOCK_SECTORS") rows
    ⊎ LacksNumber (codes "VIRTUAL_BLOCKS") rows
    ⊎ LacksNumber (codes "METADATA_BLOCKS") rows
    ⊎ LacksNumber (codes "DATA_BLOCKS") rows

-- ---- a size

-- how many bytes a letter behind a number makes of one: K or k, M or m, G or g, T or t, P or p; any other byte is no such letter, and makes 1
abbrev pub unit_of : ℕ → ℕ
unit_of letter =
    if (letter == 75) || (letter == 107) then 2 ^ 10
    else if (letter == 77) || (letter == 109) then 2 ^ 20
    else if (letter == 71) || (letter == 103) then 2 ^ 30
    else if (letter == 84) || (letter == 116) then 2 ^ 40
    else if (letter == 80) || (letter == 112) then 2 ^ 50
    else 1

abbrev pub last_byte : Text → ℕ
last_byte text = slice_index text (length text - 1)

-- the text in front of that letter, or all of it where there is none
abbrev pub digits_of : Text → Text
digits_of text = if unit_of (last_byte text) == 1 then text else take (length text - 1) text

-- the text ends with `iB`, as in 10GiB, and the text in front of that
abbrev pub is_binary : Text → Bool
is_binary text = bytes_eq (drop (length text - 2) text) (codes "iB")

abbrev pub without_binary : Text → Text
without_binary text = if is_binary text then take (length text - 2) text else text

-- the text has a point
abbrev pub HasPoint : Text → Type 0
HasPoint text = position_or_len (λ b. b == 46) text < length text

-- Two numbers in front of a point and behind it, the second of one to nine digits, are `count / power`, where `power` is of ten.
abbrev pub AreParts : Text → Text → ℕ → ℕ → Type 0
AreParts whole fraction count power =
    (slice_index fraction 0 ≢ 43) × (length fraction ≤ 9) × (power ≡ 10 ^ length fraction)
    × (n : ℕ) × (part : ℕ) × IsNumber whole n × IsNumber fraction part × (count ≡ n * power + part) × (count < 2 ^ 64)

-- the text reads as the number `count / power`, which may have a point
abbrev pub IsDecimal : Text → ℕ → ℕ → Type 0
IsDecimal text count power =
    ((HasPoint text → ⊥) × IsNumber text count × (power ≡ 1))
    ⊎ (HasPoint text × AreParts (before_first (λ b. b == 46) text) (after_first (λ b. b == 46) text) count power)

-- The text reads as this number of bytes, of 64 bits: a number, which may have a point where it makes whole bytes, and perhaps a letter, behind which `iB` changes nothing.
abbrev pub IsSize : Text → ℕ → Type 0
IsSize text n =
    let short = without_binary text in
    let unit = unit_of (last_byte short) in
    (count : ℕ) × (power : ℕ) × (is_binary text ≡ true → unit ≢ 1) × IsDecimal (digits_of short) count power × (n * power ≡ count * unit) × (n < 2 ^ 64)

abbrev pub HasSize : Text → List Row → ℕ → Type 0
HasSize id rows n = (text : Text) × (first_of id rows ≡ Some text) × IsSize text n

abbrev pub LacksSize : Text → List Row → Type 0
LacksSize id rows = (text : Text) → first_of id rows ≡ Some text → (n : ℕ) → IsSize text n → ⊥

-- of one that may be left out
abbrev pub MayHaveSize : Text → List Row → Option ℕ → Type 0
MayHaveSize id rows None = LacksText id rows
MayHaveSize id rows (Some n) = HasSize id rows n

-- it is there, and is no size
abbrev pub HasNoSize : Text → List Row → Type 0
HasNoSize id rows = (is_some (first_of id rows) ≡ true) × LacksSize id rows

abbrev pub HasWanted : List Row → Wanted → Type 0
HasWanted rows wanted =
    HasSize (codes "SIZE") rows wanted.size × HasSize (codes "VOLUME_SIZE") rows wanted.volume_size × HasNumber (codes "VOLUMES") rows wanted.volumes
    × MayHaveSize (codes "BLOCK_SIZE") rows wanted.block_size

abbrev pub LacksWanted : List Row → Type 0
LacksWanted rows = LacksSize (codes "SIZE") rows ⊎ LacksSize (codes "VOLUME_SIZE") rows ⊎ LacksNumber (codes "VOLUMES") rows ⊎ HasNoSize (codes "BLOCK_SIZE") rows

-- ---- the task of each command, from what was found of its arguments

abbrev pub IsFormat : List Row → Task → Type 0
IsFormat rows (Format image sizes overwrites) = HasText (codes "IMAGE") rows image × HasSizes rows sizes × (overwrites ≡ is_used (codes "OVERWRITE") rows)
IsFormat rows task = ⊥

abbrev pub IsCreate : List Row → Task → Type 0
IsCreate rows (Create image wanted overwrites) = HasText (codes "IMAGE") rows image × HasWanted rows wanted × (overwrites ≡ is_used (codes "OVERWRITE") rows)
IsCreate rows task = ⊥

abbrev pub IsMessage : List Row → Task → Type 0
IsMessage rows (Message image line) = HasText (codes "IMAGE") rows image × HasText (codes "LINE") rows line
IsMessage rows task = ⊥

abbrev pub IsStatus : List Row → Task → Type 0
IsStatus rows (Status image id) = HasText (codes "IMAGE") rows image × MayHaveNumber (codes "ID") rows id
IsStatus rows task = ⊥

abbrev pub IsList : List Row → Task → Type 0
IsList rows (Report image Volumes is_json) = HasText (codes "IMAGE") rows image × (is_json ≡ is_used (codes "JSON") rows)
IsList rows task = ⊥

abbrev pub IsMap : List Row → Task → Type 0
IsMap rows (Report image (Map id) is_json) = HasText (codes "IMAGE") rows image × HasNumber (codes "ID") rows id × (is_json ≡ is_used (codes "JSON") rows)
IsMap rows task = ⊥

abbrev pub IsDelta : List Row → Task → Type 0
IsDelta rows (Report image (Delta old new) is_json) =
    HasText (codes "IMAGE") rows image × HasNumber (codes "OLD") rows old × HasNumber (codes "NEW") rows new × (is_json ≡ is_used (codes "JSON") rows) × (is_used (codes "AT") rows ≡ false)
IsDelta rows (DeltaAt place old new is_json) =
    HasText (codes "IMAGE") rows place × HasNumber (codes "OLD") rows old × HasNumber (codes "NEW") rows new × (is_json ≡ is_used (codes "JSON") rows) × (is_used (codes "AT") rows ≡ true)
IsDelta rows task = ⊥

abbrev pub IsFree : List Row → Task → Type 0
IsFree rows (Report image Free is_json) = HasText (codes "IMAGE") rows image × (is_json ≡ is_used (codes "JSON") rows)
IsFree rows task = ⊥

abbrev pub IsCheck : List Row → Task → Type 0
IsCheck rows (Check image clears) = HasText (codes "IMAGE") rows image × (clears ≡ is_used (codes "CLEAR") rows)
IsCheck rows task = ⊥

abbrev pub IsFeed : List Row → Task → Type 0
IsFeed rows (Feed image is_extended) =
    ((text : Bor Text) × HasText (codes "IMAGE") rows text × IsImage text.now image) × (is_extended ≡ is_used (codes "EXTENDED") rows)
IsFeed rows task = ⊥

-- a number of clients, 1 to 64
abbrev pub HasClients : List Row → ℕ → Type 0
HasClients rows n = HasNumber (codes "COUNT") rows n × (1 ≤ n) × (n ≤ 64)

abbrev pub LacksClients : List Row → Type 0
LacksClients rows = (n : ℕ) → HasNumber (codes "COUNT") rows n → 1 ≤ n → n ≤ 64 → ⊥

abbrev pub IsServe : List Row → Task → Type 0
IsServe rows (Serve image address clients control) =
    HasText (codes "IMAGE") rows image × HasText (codes "ADDR") rows address × HasClients rows clients × MayHaveText (codes "CONTROL") rows control
IsServe rows task = ⊥

abbrev pub IsPlay : List Row → Task → Type 0
IsPlay rows (Play image script is_extended) =
    ((text : Bor Text) × HasText (codes "IMAGE") rows text × IsImage text.now image) × HasText (codes "SCRIPT") rows script × (is_extended ≡ is_used (codes "EXTENDED") rows)
IsPlay rows task = ⊥

-- ---- texts, once to four times

abbrev pub text_if : Option (Bor Text) → List Text
text_if None = []
text_if (Some text) = text.now ∷ []

abbrev pub texts_in : Texts → List Text
texts_in texts = texts.first.now ∷ (text_if texts.second ++ (text_if texts.third ++ text_if texts.fourth))

-- of an argument that may be there several times
abbrev pub HasTexts : Text → List Row → Texts → Type 0
HasTexts id rows texts = all_of id rows ≡ Some (texts_in texts)

abbrev pub LacksTexts : Text → List Row → Type 0
LacksTexts id rows = (texts : Texts) → HasTexts id rows texts → ⊥

-- a number up to a greatest one, of an argument that may be left out
abbrev pub MayHaveUpTo : ℕ → Text → List Row → Option ℕ → Type 0
MayHaveUpTo most id rows None = LacksText id rows
MayHaveUpTo most id rows (Some n) = HasNumber id rows n × (n ≤ most)

-- it is there, and is none
abbrev pub HasNoneUpTo : ℕ → Text → List Row → Type 0
HasNoneUpTo most id rows = (is_some (first_of id rows) ≡ true) × ((n : ℕ) → HasNumber id rows n → n ≤ most → ⊥)

-- a number that may be left out is the same one up to it
abbrev pub IsUpTo : ℕ → Option ℕ → Option ℕ → Type 0
IsUpTo most number few = (few ≡ number) × IfSome few (λ n. n ≤ most)

-- it is there, and above it
abbrev pub IsAbove : ℕ → Option ℕ → Type 0
IsAbove most None = ⊥
IsAbove most (Some n) = n ≤ most → ⊥

-- ---- the mode of a file

-- the text reads as this mode: octal digits, up to 0777
abbrev pub IsMode : Text → ℕ → Type 0
IsMode text n =
    let digits = without_leading_plus text in
    IsNumeral 8 digits × (n ≡ digits_value 8 digits) × (n ≤ 511)

abbrev pub HasMode : Text → List Row → ℕ → Type 0
HasMode id rows n = (text : Text) × (first_of id rows ≡ Some text) × IsMode text n

abbrev pub LacksMode : Text → List Row → Type 0
LacksMode id rows = (text : Text) → first_of id rows ≡ Some text → (n : ℕ) → IsMode text n → ⊥

-- of one that may be left out
abbrev pub MayHaveMode : Text → List Row → Option ℕ → Type 0
MayHaveMode id rows None = LacksText id rows
MayHaveMode id rows (Some n) = HasMode id rows n

-- it is there, and is no mode
abbrev pub HasNoMode : Text → List Row → Type 0
HasNoMode id rows = (is_some (first_of id rows) ≡ true) × LacksMode id rows

abbrev pub IsRun : List Row → Task → Type 0
IsRun rows (Run image service) =
    HasText (codes "IMAGE") rows image × HasTexts (codes "LISTEN") rows service.places × MayHaveText (codes "CONTROL") rows service.control
    × MayHaveUpTo 16777215 (codes "DEFAULT") rows service.default × MayHaveUpTo 100 (codes "LOW_WATER") rows service.low_water × (service.is_quiet ≡ is_used (codes "QUIET") rows)
    × (service.has_clones ≡ is_used (codes "CLONES") rows) × (service.writes_through ≡ is_used (codes "WRITE_THROUGH") rows)
    × (service.ends_on_failure ≡ is_used (codes "EXIT_ON_FAILURE") rows)
    × MayHaveMode (codes "SOCKET_MODE") rows service.rights.mode × MayHaveText (codes "SOCKET_GROUP") rows service.rights.group
IsRun rows task = ⊥

abbrev pub IsAsk : List Row → Task → Type 0
IsAsk rows (Ask place lines) =
    HasText (codes "WHERE") rows place × HasText (codes "LINE") rows lines.first
    × MayHaveText (codes "LINE2") rows lines.second × MayHaveText (codes "LINE3") rows lines.third × MayHaveText (codes "LINE4") rows lines.fourth
IsAsk rows task = ⊥

-- what holds where the command has one of these ten names, each its own, or none of them
abbrev pub by_name : Text → (format create message status check feed serve play run ask other : Type 0) → Type 0
by_name name format create message status check feed serve play run ask other =
    MatchBool (bytes_eq name (codes "format")) format
    (MatchBool (bytes_eq name (codes "create")) create
    (MatchBool (bytes_eq name (codes "message")) message
    (MatchBool (bytes_eq name (codes "status")) status
    (MatchBool (bytes_eq name (codes "check")) check
    (MatchBool (bytes_eq name (codes "feed")) feed
    (MatchBool (bytes_eq name (codes "serve")) serve
    (MatchBool (bytes_eq name (codes "play")) play
    (MatchBool (bytes_eq name (codes "run")) run
    (MatchBool (bytes_eq name (codes "ask")) ask other)))))))))

-- the same of the four names of what lists
abbrev pub by_listing : Text → (list map delta free other : Type 0) → Type 0
by_listing name list map delta free other =
    MatchBool (bytes_eq name (codes "ls")) list
    (MatchBool (bytes_eq name (codes "map")) map
    (MatchBool (bytes_eq name (codes "delta")) delta
    (MatchBool (bytes_eq name (codes "free")) free other)))

abbrev pub IsListing : Text → List Row → Task → Type 0
IsListing name rows task = by_listing name (IsList rows task) (IsMap rows task) (IsDelta rows task) (IsFree rows task) ⊥

abbrev pub IsTask : Text → List Row → Task → Type 0
IsTask name rows task =
    by_name name (IsFormat rows task) (IsCreate rows task) (IsMessage rows task) (IsStatus rows task) (IsCheck rows task) (IsFeed rows task) (IsServe rows task)
    (IsPlay rows task) (IsRun rows task) (IsAsk rows task) (IsListing name rows task)

-- what the command wants is not there
abbrev pub LacksListing : Text → List Row → Type 0
LacksListing name rows = by_listing name
    (LacksText (codes "IMAGE") rows)
    (LacksText (codes "IMAGE") rows ⊎ LacksNumber (codes "ID") rows)
    (LacksText (codes "IMAGE") rows ⊎ LacksNumber (codes "OLD") rows ⊎ LacksNumber (codes "NEW") rows)
    (LacksText (codes "IMAGE") rows)
    ⊤

abbrev pub LacksTask : Text → List Row → Type 0
LacksTask name rows = by_name name
    (LacksText (codes "IMAGE") rows ⊎ LacksSizes rows)
    (LacksText (codes "IMAGE") rows ⊎ LacksWanted rows)
    (LacksText (codes "IMAGE") rows ⊎ LacksText (codes "LINE") rows)
    (LacksText (codes "IMAGE") rows ⊎ HasNoNumber (codes "ID") rows)
    (LacksText (codes "IMAGE") rows)
    (LacksText (codes "IMAGE") rows)
    (LacksText (codes "IMAGE") rows ⊎ LacksText (codes "ADDR") rows ⊎ LacksClients rows)
    (LacksText (codes "IMAGE") rows ⊎ LacksText (codes "SCRIPT") rows)
    (LacksText (codes "IMAGE") rows ⊎ LacksTexts (codes "LISTEN") rows ⊎ HasNoneUpTo 16777215 (codes "DEFAULT") rows ⊎ HasNoneUpTo 100 (codes "LOW_WATER") rows ⊎ HasNoMode (codes "SOCKET_MODE") rows)
    (LacksText (codes "WHERE") rows ⊎ LacksText (codes "LINE") rows)
    (LacksListing name rows)

-- of what was found of a subcommand
abbrev pub IsTaskOf : Option (Text × List Row) → Task → Type 0
IsTaskOf None task = ⊥
IsTaskOf (Some p) task = IsTask p.0 p.1 task

abbrev pub LacksTaskOf : Option (Text × List Row) → Type 0
LacksTaskOf None = ⊤
LacksTaskOf (Some p) = LacksTask p.0 p.1

-- the words name the task, or none
abbrev pub Name : List Text → Task → Type 0
Name words task = IsTaskOf (command_in words) task

abbrev pub NameNone : List Text → Type 0
NameNone words = LacksTaskOf (command_in words)

-- the command has the flag among its arguments
abbrev pub is_explained_after : Option (Text × List Row) → Bool
is_explained_after None = false
is_explained_after (Some p) = is_used (codes "EXPLAIN") p.1

-- they have no mistake and name the task, and it is to be explained exactly where they have the flag, before or after the command
abbrev pub AskFor : List Text → Asked → Type 0
AskFor words asked = (mistakes words ≡ []) × Name words asked.task × (asked.explains ≡ (is_explained words || is_explained_after (command_in words)))

abbrev pub is_told : ErrorKind → Type 0
is_told kind = (kind ≡ DisplayHelp) ⊎ (kind ≡ DisplayVersion)

-- help was asked for
abbrev pub AskHelp : List Text → Type 0
AskHelp words = (kind : ErrorKind) × IsAmong kind (mistakes words) × is_told kind

-- the words have a mistake, or name no task
abbrev pub AreWrong : List Text → Type 0
AreWrong words =
    ((kind : ErrorKind) × IsAmong kind (mistakes words) × (kind ≢ DisplayHelp) × (kind ≢ DisplayVersion))
    ⊎ ((mistakes words ≡ []) × NameNone words)

-- why words are no command
abbrev pub IsUnread : List Text → Unread → Type 0
IsUnread words unread.Memory = Unit {0}
IsUnread words (unread.Help text) = AskHelp words
IsUnread words (unread.Misused text) = AreWrong words

-- the words have no mistake, and name a task
abbrev pub NameTask : List Text → Type 0
NameTask words = (task : Task) × (mistakes words ≡ []) × Name words task

-- the task is to play a script
abbrev pub IsScript : Task → Type 0
IsScript (Play image script is_extended) = ⊤
IsScript task = ⊥

-- the words have no mistake, and name that task
abbrev pub NameScript : List Text → Type 0
NameScript words = (task : Task) × (mistakes words ≡ []) × Name words task × IsScript task
