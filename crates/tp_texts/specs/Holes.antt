-- Internal: the text of a hole in an array of JSON.
use Rattle.std.specs.Prelude.{ℕ, ◌-◌, nat_lt, Bool, false, if◌then◌else◌, List, [], ◌++◌}
use Rattle.serde_json.specs.Written.{comma_if, compact_text}
use Rattle.tp_texts.specs.Json.{part_data}

abbrev pub hole_object : Bool → ℕ → ℕ → ℕ → List ℕ
hole_object is_later unit from end = if nat_lt from end then comma_if is_later ++ compact_text (part_data unit false from (end - from)) else []
