-- Trusted reading: what each error of a check says of the image (own).
use Rattle.std.specs.Prelude.{List}
use Rattle.tp_model.specs.Sectors.{Sector}
use Rattle.tp_layout.specs.Super.{roots_of}
use Rattle.tp_image.specs.Faults.{HasBadCount, HasBadMapped, HasBadNode, HasBadOrder, HasBadRecordSize, HasBadSuper, HasHalfEmpty, HasOutOfPlace, IsSo}
use Rattle.tp_check.specs.declared.error.CheckError.{CheckError}
use Rattle.tp_check.specs.declared.error.CheckError.TheVariants.{Fault, Memory, BadSuper, BadNode, BadOrder, BadCount, OutOfPlace, HalfEmpty, BadMapped, BadRecordSize}

-- of a check that could not be made nothing is said
abbrev pub HasFault : List Sector → CheckError → Type 0
HasFault image Fault = Unit {0}
HasFault image Memory = Unit {0}
HasFault image BadSuper = HasBadSuper image
HasFault image BadNode = IsSo image (λ s. HasBadNode image s.version s.geometry (roots_of s))
HasFault image BadOrder = IsSo image (λ s. HasBadOrder image s.geometry (roots_of s))
HasFault image BadCount = IsSo image (λ s. HasBadCount image s)
HasFault image OutOfPlace = IsSo image (λ s. HasOutOfPlace image s.geometry (roots_of s))
HasFault image HalfEmpty = IsSo image (λ s. HasHalfEmpty image s.geometry (roots_of s))
HasFault image BadMapped = IsSo image (λ s. HasBadMapped image s.geometry (roots_of s))
HasFault image BadRecordSize = IsSo image (λ s. HasBadRecordSize image s.version s.geometry (roots_of s))
