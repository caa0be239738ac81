-- The field's inverse is one, and the substitution and its inverse undo each other.
use Rattle.std.proofs.Common.{◌≡◌, ℕ, ◌<◌, cond, eqb, List, [], ◌∷◌, map, refl, ap₂}
use Rattle.std.specs.List.{AllByRecursion}
use Rattle.aes_tables.specs.Field.{mul, inverse, sub, sub_back}
use Rattle.aes_tables.specs.Columns.{each_byte}
use Rattle.aes_tables.proofs.Tests.{byte_rule, byte_bound}

pub mul_inverse : (a : ℕ) → a < 256 → mul a (inverse a) ≡ cond (eqb a 0) 0 1
unfolding each_byte mul inverse
mul_inverse = byte_rule (λ a. mul a (inverse a)) (λ a. cond (eqb a 0) 0 1) refl

pub inverse_lt : (a : ℕ) → a < 256 → inverse a < 256
unfolding each_byte mul inverse
inverse_lt = byte_bound inverse refl

pub sub_undone : (a : ℕ) → a < 256 → sub_back (sub a) ≡ a
unfolding each_byte sub sub_back inverse mul
sub_undone = byte_rule (λ a. sub_back (sub a)) (λ a. a) refl

pub sub_redone : (a : ℕ) → a < 256 → sub (sub_back a) ≡ a
unfolding each_byte sub sub_back inverse mul
sub_redone = byte_rule (λ a. sub (sub_back a)) (λ a. a) refl

pub sub_lt : (a : ℕ) → a < 256 → sub a < 256
unfolding each_byte sub inverse mul
sub_lt = byte_bound sub refl

pub sub_back_lt : (a : ℕ) → a < 256 → sub_back a < 256
unfolding each_byte sub_back inverse mul
sub_back_lt = byte_bound sub_back refl

-- one function of bytes undoes another in a whole list
pub map_undone : (f g : ℕ → ℕ) → ((a : ℕ) → a < 256 → g (f a) ≡ a) → (s : List ℕ) → AllByRecursion (λ a. a < 256) s → map g (map f s) ≡ s
map_undone f g e [] h = refl
map_undone f g e (x ∷ xs) h = ap₂ ◌∷◌ (e x h.0) (map_undone f g e xs h.1)
