use Rattle.std.proofs.Common.{◌≡◌, ◌^◌, ◌<◌, refl, ◌∙◌, rules}
use Rattle.speck.specs.Words.{rotr, rotl}
use Rattle.speck.specs.Rotate.{shifts, shifts_left}
use Rattle.speck.proofs.Schedule.next.Goals as goal

pub returns : goal.returns
returns c =
    let s = c.self.inside in
    let fk : s.k < 2 ^ 64 = search rules in
    let fl : s.l0 < 2 ^ 64 = search rules in
    let right : c.rotate_right.result ≡ rotr 8 s.l0 = c.rotate_right.ensures ∙ shifts 56 8 refl s.l0 fl in
    let left : c.rotate_left.result ≡ rotl 3 s.k = c.rotate_left.ensures ∙ shifts_left 3 61 refl s.k fk in
    rw (← c.self.view_is, right, left)
