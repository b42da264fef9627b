-- Trusted reading: meta contexts, and what BLOCK_STATUS is answered, as functions of what they say (NBD's proto.md, "Metadata querying",
-- "NBD_OPT_LIST_META_CONTEXT", "NBD_OPT_SET_META_CONTEXT", "NBD_REPLY_TYPE_BLOCK_STATUS"). There are two contexts: base:allocation, and
-- thinpool:since: with what stands behind it, the id of an older volume.
use Rattle.std.specs.Prelude.{◌≡◌, ℕ, ◌+◌, ◌*◌, ◌<◌, ◌^◌, Bool, ◌||◌, ◌==◌, if◌then◌else◌, List, [], ◌∷◌, ◌++◌, length, take, drop, All, codes, bytes_eq}
use Rattle.std.specs.Fmt.{decimal}
use Rattle.std.specs.List.{flat_map, list_any}
use Rattle.nbd_wire.specs.declared.chunks.ChunkType.TheVariants.{Status}
use Rattle.nbd_wire.specs.declared.contexts.MetaContext.{MetaContext}
use Rattle.nbd_wire.specs.declared.contexts.MetaContext.TheVariants.{Allocation, Since}
use Rattle.nbd_wire.specs.declared.TheConstants.{ALLOCATION_CONTEXT, SINCE_CONTEXT}
use Rattle.nbd_wire.specs.Numbers.{bytes}
use Rattle.nbd_wire.specs.Replies.{server_data}
use Rattle.nbd_wire.specs.Chunks.{chunk, chunk_head}

-- the number of each context
abbrev pub context_code : MetaContext → ℕ
context_code Allocation = ALLOCATION_CONTEXT
context_code Since = SINCE_CONTEXT

-- the name of the first one, and the query that stands for all contexts of its namespace
abbrev pub allocation : List ℕ
allocation = codes "base:allocation"

abbrev pub base : List ℕ
base = codes "base:"

-- the data of LIST_META_CONTEXT and SET_META_CONTEXT: the name of a volume, the number of queries, and the queries, each text behind its length
unfoldable pub query_text : List ℕ → List (List ℕ) → List ℕ
query_text name queries = server_data name ++ (bytes 4 (length queries) ++ flat_map server_data queries)

pub record IsQuery (text name : List ℕ) (queries : List (List ℕ)) : Type 0 where
  pub name_fits : length name < 2 ^ 32
  pub count_fits : length queries < 2 ^ 32
  pub each_fits : All (λ (query : List ℕ). length query < 2 ^ 32) queries
  pub text_is : text ≡ query_text name queries

abbrev pub has_query : List ℕ → List (List ℕ) → Bool
has_query wanted queries = list_any (λ query. bytes_eq query wanted) queries

-- what the names of the others begin with, and the name of that of an older volume
abbrev pub since : List ℕ
since = codes "thinpool:since:"

abbrev pub since_name : ℕ → List ℕ
since_name id = since ++ decimal id

-- what stands behind that in a query which begins so, and else what was told before
abbrev pub since_or : List ℕ → List ℕ → List ℕ
since_or query before = if bytes_eq (take 15 query) since then drop 15 query else before

-- and in the last query which begins so; nothing where none does
abbrev pub since_in : List (List ℕ) → List ℕ → List ℕ
since_in [] before = before
since_in (query ∷ queries) before = since_in queries (since_or query before)

abbrev pub since_of : List (List ℕ) → List ℕ
since_of queries = since_in queries []

-- SET_META_CONTEXT selects base:allocation by its whole name alone
abbrev pub asks_for : List (List ℕ) → Bool
asks_for queries = has_query allocation queries

-- LIST_META_CONTEXT lists it where no query is made, and for its namespace too
abbrev pub lists : List (List ℕ) → Bool
lists queries = length queries == 0 || has_query allocation queries || has_query base queries

-- the data of a reply META_CONTEXT: the number of a context and its name
unfoldable pub context_data : ℕ → List ℕ → List ℕ
context_data id name = bytes 4 id ++ name

-- so many bytes of the volume, and the flags of all of them
unfoldable pub extent_text : ℕ → ℕ → List ℕ
extent_text len flags = bytes 4 len ++ bytes 4 flags

abbrev pub FitExtents : List (ℕ × ℕ) → Type 0
FitExtents extents = All (λ (extent : ℕ × ℕ). (extent.0 < 2 ^ 32) × (extent.1 < 2 ^ 32)) extents

abbrev pub extents_text : List (ℕ × ℕ) → List ℕ
extents_text extents = flat_map (λ extent. extent_text extent.0 extent.1) extents

-- what stands before so many extents: the fixed part, and the number of the context
unfoldable pub status_head : Bool → MetaContext → ℕ → ℕ → List ℕ
status_head is_last context cookie count = chunk_head is_last Status cookie (4 + 8 * count) ++ bytes 4 (context_code context)

-- the extents of a BLOCK_STATUS in one context, in the order of the volume
abbrev pub status_chunk : Bool → MetaContext → ℕ → List (ℕ × ℕ) → List ℕ
status_chunk is_last context cookie extents = chunk is_last Status cookie (bytes 4 (context_code context) ++ extents_text extents)
