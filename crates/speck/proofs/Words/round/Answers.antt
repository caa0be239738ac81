use Rattle.std.proofs.Common.{◌≡◌, ◌^◌, ◌<◌, refl, ◌∙◌, rules}
use Rattle.speck.specs.Words.{rotr, rotl}
use Rattle.speck.specs.Rotate.{shifts, shifts_left}
use Rattle.speck.proofs.Words.round.Goals as goal

pub returns : goal.returns
returns c =
    let s = c.self.inside in
    let fx : s.x < 2 ^ 64 = search rules in
    let fy : s.y < 2 ^ 64 = search rules in
    let right : c.rotate_right.result ≡ rotr 8 s.x = c.rotate_right.ensures ∙ shifts 56 8 refl s.x fx in
    let left : c.rotate_left.result ≡ rotl 3 s.y = c.rotate_left.ensures ∙ shifts_left 3 61 refl s.y fy in
    rw (← c.self.view_is, right, left)
