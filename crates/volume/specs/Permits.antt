-- The stage that a permit is for.
use Rattle.trailer.specs.declared.stage.Stage.{Stage}
use Rattle.trailer.specs.declared.stage.Stage.TheVariants.{Resting, Changing}
use Rattle.volume.specs.declared.permits.Permit.{Permit}
use Rattle.volume.specs.declared.permits.Permit.TheVariants as permit

abbrev pub stage_held : Permit → Stage
stage_held (permit.Resting p) = Resting
stage_held (permit.Changing p) = Changing
