-- Internal: which descriptors a disk's file may have.
use Rattle.std.specs.Prelude.{pos, ◌<ℤ◌}
use Rattle.std.specs.Fd.{file_raw_fd}
use Rattle.std.specs.declared.fs.File.{File}

-- The file's descriptor is none of 0, 1 and 2, those of standard input, output and error.
abbrev pub IsNoStream : File → Type 0
IsNoStream file = pos 2 <ℤ file_raw_fd file
