-- A slip which was written says what it was written for.
use Rattle.std.proofs.Common.{◌≡◌, ℕ, ◌^◌, ◌<◌, true, cond, not, ◌&&◌, eqb, ltb, ◌≢◌, Some, None, ap, ◌∙◌, arith}
use Rattle.std.proofs.lemmas.Bool.{lt-ltb, ne_eqb}
use Rattle.octets.specs.Little.{le_number, le_bytes}
use Rattle.octets.proofs.Numbers.{number_bytes}
use Rattle.journal.specs.Slips.{one, two, slip_of, said, slip_bytes}

pub reads : (limit kind a b : ℕ) → a < 2 ^ 32 → b < 2 ^ 32 → slip_of limit (slip_bytes kind a b) ≡ said limit kind a b
unfolding slip_bytes
reads limit kind a b h i = ap (λ z. said limit kind z (le_number (le_bytes 4 b))) (number_bytes 4 a h) ∙ ap (said limit kind a) (number_bytes 4 b i)

pub slip_one : (limit a : ℕ) → a < 2 ^ 32 → a < limit → slip_of limit (slip_bytes 1 a 0) ≡ Some (one a)
slip_one limit a h l = reads limit 1 a 0 h (omega arith) ∙ ap (λ z. cond (z && true) (Some (one a)) None) (lt-ltb a limit l)

pub slip_two : (limit a b : ℕ) → a < 2 ^ 32 → b < 2 ^ 32 → a < limit → b < limit → a ≢ b → slip_of limit (slip_bytes 2 a b) ≡ Some (two a b)
slip_two limit a b h i l k ne =
    reads limit 2 a b h i ∙ ap (λ z. cond (z && (ltb b limit && not (eqb a b))) (Some (two a b)) None) (lt-ltb a limit l)
    ∙ ap (λ z. cond (z && not (eqb a b)) (Some (two a b)) None) (lt-ltb b limit k)
    ∙ ap (λ z. cond (not z) (Some (two a b)) None) (ne_eqb a b ne)
