use Rattle.std.proofs.Common.{◌≡◌, ℕ, ◌+◌, ◌-◌, ◌%◌, ◌^◌, ◌<◌, refl, ◌∙◌, arith, rules}
use lib.Bits.{bit_xor, xor_lt}
use Rattle.speck.specs.Words.{rotr, rotl}
use Rattle.speck.specs.Rotate.{shifts, shifts_left}
use Rattle.speck.proofs.Words.round_back.Goals as goal

pub returns : goal.returns
returns c =
    let s = c.self.inside in
    let fx : s.x < 2 ^ 64 = search rules in
    let fy : s.y < 2 ^ 64 = search rules in
    let z : ℕ = bit_xor s.y s.x in
    let right : c.rotate_right-y.result ≡ rotr 3 z = c.rotate_right-y.ensures ∙ shifts 61 3 refl z (xor_lt 64 s.y s.x fy fx) in
    let w : ℕ = (bit_xor s.x c.args.k + (2 ^ 64 - c.rotate_right-y.result)) % 2 ^ 64 in
    let fw : w < 2 ^ 64 = omega arith in
    let left : c.rotate_left.result ≡ rotl 8 w = c.rotate_left.ensures ∙ shifts_left 8 56 refl w fw in
    rw (← c.self.view_is, left, right)
