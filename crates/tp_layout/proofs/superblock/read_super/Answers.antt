use Rattle.std.proofs.Common.{sym, ap, ◌∙◌, arith}
use Rattle.tp_layout.specs.declared.superblock.Slot.TheVariants.{Foreign, Other, Bad, Good}
use Rattle.tp_layout.specs.Super.{HasMagic, HasVersion, StandsIn, version_number}
use Rattle.tp_layout.proofs.SuperLaws.{magic_from_number, number_from_magic, version_from_number, number_from_version, super_spelled, super_laid, version_same, one_kind}
use Rattle.tp_layout.proofs.superblock.read_super.Goals as goal

pub returns-then-u64_at-ne-MAGIC : goal.returns-then-u64_at-ne-MAGIC
returns-then-u64_at-ne-MAGIC c =
    let stands : StandsIn c.args.slot c.args.sector.now Foreign = λ starts. c.if-u64_at-ne-MAGIC.true (c.u64_at.ensures ∙ number_from_magic c.args.sector.now starts) in
    record { found = stands; only = λ other h. one_kind c.args.slot c.args.sector.now Foreign other stands h }

pub returns-in_default : goal.returns-in_default
returns-in_default c =
    let magic : HasMagic c.args.sector.now = magic_from_number c.args.sector.now c.fits-sector (omega (arith, c.told-sector)) (sym c.u64_at.ensures ∙ c.if-u64_at-ne-MAGIC.false) in
    let stands : StandsIn c.args.slot c.args.sector.now Other = (magic, (λ v. c.in_default.ensures.none v.0 (c.u32_at.ensures ∙ number_from_version c.args.sector.now v.0 v.1))) in
    record { found = stands; only = λ other h. one_kind c.args.slot c.args.sector.now Other other stands h }

pub returns-in-Some-fields_of : goal.returns-in-Some-fields_of
returns-in-Some-fields_of c =
    let number = sym c.u32_at.ensures ∙ c.in-Some.ensures.some ∙ ap version_number (sym c.in-Some-fields_of.ensures.version) in
    let stands : StandsIn c.args.slot c.args.sector.now (Good c.in-Some-fields_of.superblock) = (c.in-Some-fields_of.ensures.found.0, super_spelled _ c.args.sector.now c.fits-sector c.told-sector (sym c.u64_at.ensures ∙ c.if-u64_at-ne-MAGIC.false) number c.in-Some-fields_of.ensures.found.1) in
    record { found = stands; only = λ other h. one_kind c.args.slot c.args.sector.now (Good c.in-Some-fields_of.superblock) other stands h }

pub returns-in-None : goal.returns-in-None
returns-in-None c =
    let magic : HasMagic c.args.sector.now = magic_from_number c.args.sector.now c.fits-sector (omega (arith, c.told-sector)) (sym c.u64_at.ensures ∙ c.if-u64_at-ne-MAGIC.false) in
    let version : HasVersion c.args.sector.now = version_from_number c.args.sector.now _ c.fits-sector (omega (arith, c.told-sector)) (sym c.u32_at.ensures ∙ c.in-Some.ensures.some) in
    let stands : StandsIn c.args.slot c.args.sector.now Bad = (
      magic,
      version,
      (λ s good e.
          let laid = super_laid c.args.slot s c.args.sector.now good e in
          c.in-None.ensures.none s (version_same s.version c.in-Some.version (sym laid.version ∙ (sym c.u32_at.ensures ∙ c.in-Some.ensures.some))) good laid.fields),
    ) in
    record { found = stands; only = λ other h. one_kind c.args.slot c.args.sector.now Bad other stands h }
