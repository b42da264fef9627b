-- Images of commits, and what they stand for.
use Rattle.std.proofs.Common.{◌≡◌, List, refl, sym, ap, subst, ◌∙◌}
use Rattle.tp_model.specs.Geometry.{Geometry, IsWithinLimits}
use Rattle.tp_model.specs.Sectors.{Sector}
use Rattle.tp_model.specs.Pool.{PlainPool}
use Rattle.tp_model.specs.PoolStops.{MayReopen, Nothing}
use Rattle.tp_model.proofs.Found.{MayReopen-nothing}
use Rattle.tp_image.specs.Stands.{StandsFor}
use Rattle.tp_sharing.specs.Volumes.{Volumes}
use Rattle.tp_mapping.specs.Mapping.{IsWithin}
use Rattle.tp_mapping.proofs.Between.{sound_within}
use Rattle.tp_stored.specs.Contents.{Contents, HoldsContents}
use Rattle.tp_stored.proofs.Opened.{stands_for_opened}
use Rattle.tp_shown.proofs.Made.{opened_exists}
use Rattle.tp_pool.specs.Held.{IsPool, IsSomePool}
use Rattle.tp_pool.proofs.Stops.{at_rest, reopens_made}

abbrev pub Image : Type 0
Image = List Sector

-- ---- images of commits

pub contents_within : (g : Geometry) (c : Contents) (image : Image) → HoldsContents g c image → IsWithin g c.volumes
contents_within g c image holds =
    let volumes = ap (λ (k : Contents). k.volumes) holds.4 in
    subst (λ (k : Geometry). IsWithin k c.volumes) holds.3
    (subst (λ (v : Volumes). IsWithin holds.0.geometry v) (sym volumes) (sound_within holds.0.geometry holds.0.root holds.0.held_root holds.1 holds.2.sound))

-- it stands for some pool
pub pool_there : (image : Image) → IsSomePool image → (P : PlainPool) × StandsFor image P
pool_there image is =
    let g = is.0 in
    let c = is.1.0 in
    let holds = is.1.1 in
    let limits = subst IsWithinLimits holds.3 holds.2.sound.limits in
    let opened = opened_exists g c image limits (contents_within g c image holds) in
    (opened.0, (stands_for_opened g c image holds opened.0).1 opened.1)

-- and the pools that it stands for differ in nothing that a stop keeps
pub stands_alike : (image : Image) (P Q : PlainPool) → IsSomePool image → StandsFor image P → StandsFor image Q → MayReopen P Nothing Q
stands_alike image P Q is p q =
    let g = is.0 in
    let c = is.1.0 in
    let holds = is.1.1 in
    let limits = subst IsWithinLimits holds.3 holds.2.sound.limits in
    reopens_made g limits c image image P Q (contents_within g c image holds) ((stands_for_opened g c image holds P).0 p).has holds
    (record { same_length = refl; same = λ i low. refl }) q

pub one_pool : (image : Image) (P Q : PlainPool) → IsSomePool image → StandsFor image P → StandsFor image Q → P ≡ Q
one_pool image P Q is p q =
    MayReopen-nothing Q P (stands_alike image Q P is q p) ∙ sym (MayReopen-nothing Q Q (at_rest image Q Nothing q))

pub some_pool : (g : Geometry) (image : Image) → IsPool g image → IsSomePool image
some_pool g image is = (g, is)
