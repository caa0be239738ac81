use Rattle.std.proofs.Common.{◌≡◌, ◌≤◌, length, take, vec_items, vec_len, vec_capacity}
use Rattle.keys.specs.Rings.{suite_of}
use Rattle.volume.specs.States.{state_of}
use Rattle.history.specs.Scripts.{Logged, calls_of, HeldAll, held_stage, worked_all}
use Rattle.history.proofs.drive.Drive.run.Given as goal

abbrev pub invariant-loop-call : goal.invariant-loop-call
invariant-loop-call g l =
    let k = g.K.LoadedKey in
    let m = g.S.Card in
    (vec_len l.log ≡ l.call-index) × (length l.script ≤ vec_capacity l.log) × (l.call-index ≤ length l.script)
    × (calls_of (vec_items l.log) ≡ take l.call-index l.script)
    × (length l.work ≡ length l.initial.work)
    × Logged (suite_of k) (length l.initial.work) (state_of k m l.initial.self.volume) (vec_items l.log) (state_of k m l.self.volume)
    × HeldAll (vec_items l.log) (held_stage l.initial.self.permit) (held_stage l.self.permit)
    × (l.work ≡ worked_all (vec_items l.log) l.initial.work)
