-- The stages of a trailer and their numbers.
use Rattle.std.specs.Prelude.{◌≡◌, ℕ, ◌≢◌, Result, MatchResult}
use Rattle.trailer.specs.declared.stage.Stage.{Stage}
use Rattle.trailer.specs.declared.stage.Stage.TheVariants.{Resting, Changing}
use Rattle.trailer.specs.declared.stage.UnknownStage.{UnknownStage}

-- the number that stands for each stage in the trailer, and wherever a stage is printed
abbrev pub stage_number : Stage → ℕ
stage_number Resting = 0
stage_number Changing = 1

-- the stage with number n, or n itself where it is the number of none
abbrev pub StageRead : ℕ → Result Stage UnknownStage → Type 0
StageRead n r = MatchResult r (λ stage. stage_number stage ≡ n) (λ e. (e.0 ≡ n) × ((stage : Stage) → stage_number stage ≢ n))
