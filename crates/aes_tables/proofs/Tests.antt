-- Rules of all bytes, proved by one computed equation of two lists each.
use Rattle.std.proofs.Common.{◌≡◌, ℕ, ◌%◌, ◌<◌, List, get_or, sym, ap, ◌∙◌, zero-add, arith}
use Rattle.std.proofs.lemmas.List.FromFn.{get_or-map-range_with_len}
use Rattle.aes_tables.specs.Columns.{each_byte}

pub byte_entry : {A : Type 0} (f : ℕ → A) (a : ℕ) (d : A) → a < 256 → get_or (each_byte f) a d ≡ f a
unfolding each_byte
byte_entry f a d h = get_or-map-range_with_len f 0 256 a a d h (zero-add a)

pub byte_rule : (f g : ℕ → ℕ) → each_byte f ≡ each_byte g → (a : ℕ) → a < 256 → f a ≡ g a
byte_rule f g e a h = sym (byte_entry f a 0 h) ∙ ap (λ (t : List ℕ). get_or t a 0) e ∙ byte_entry g a 0 h

pub byte_bound : (f : ℕ → ℕ) → each_byte f ≡ each_byte (λ a. f a % 256) → (a : ℕ) → a < 256 → f a < 256
byte_bound f e a h = let rule = byte_rule f (λ (x : ℕ). f x % 256) e a h in omega arith
