-- Trusted reading: the tests of a request on the wire that come before the pool's (NBD's proto.md, "Request types", with the choices that
-- it leaves; own: a request past the end and one of an odd size is refused).
use Rattle.std.specs.Prelude.{ℕ, ◌+◌, ◌%◌, Bool, not, ◌&&◌, ◌||◌, ◌==◌, if◌then◌else◌, [], ◌∷◌, Option, nat_lt}
use Rattle.std.specs.List.{list_any}
use Rattle.tp_model.specs.declared.refusal.NbdError.{NbdError}
use Rattle.tp_model.specs.declared.refusal.NbdError.TheVariants.{Invalid, NoSpace}
use Rattle.tp_model.specs.Calls.{first_failed}

-- a request's type, flags, offset and length in bytes, as they stand on the wire
pub record Request : Type 0 where
  pub kind : ℕ
  pub flags : ℕ
  pub offset : ℕ
  pub bytes : ℕ

abbrev pub is_read : Request → Bool
is_read r = r.kind == 0

abbrev pub is_write : Request → Bool
is_write r = r.kind == 1

abbrev pub is_flush : Request → Bool
is_flush r = r.kind == 3

abbrev pub is_trim : Request → Bool
is_trim r = r.kind == 4

abbrev pub is_write_zeroes : Request → Bool
is_write_zeroes r = r.kind == 6

abbrev pub is_known : Request → Bool
is_known r = list_any (λ kind. r.kind == kind) (0 ∷ 1 ∷ 3 ∷ 4 ∷ 6 ∷ [])

-- flag 1 is FUA, flag 2 NO_HOLE, which write-zeroes alone may have
abbrev pub has_good_flags : Request → Bool
has_good_flags r = nat_lt r.flags (if is_write_zeroes r then 4 else 2)

abbrev pub is_aligned : Request → Bool
is_aligned r = if is_flush r then r.offset == 0 && r.bytes == 0 else r.offset % 512 == 0 && r.bytes % 512 == 0

-- the error of the first test that fails, for a volume of this many bytes
abbrev pub form_error : ℕ → Request → Option NbdError
form_error size r = first_failed (
    (not (is_known r && has_good_flags r), Invalid)
    ∷ (not (is_aligned r), Invalid)
    ∷ (nat_lt 1048576 r.bytes, Invalid)
    ∷ (nat_lt size (r.offset + r.bytes), if is_write r || is_write_zeroes r then NoSpace else Invalid) ∷ [])
