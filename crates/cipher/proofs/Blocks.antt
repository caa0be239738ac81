-- A block that goes through a map as its number.
use Rattle.std.proofs.Common.{◌≡◌, ℕ, List, ap, ◌∙◌}
use Rattle.octets.specs.Little.{Bytes, le_number, le_bytes}
use Rattle.octets.proofs.Numbers.{bytes_number}

pub by_number : (f : List ℕ → List ℕ) (block after : List ℕ) (number changed : ℕ) → Bytes 16 block → number ≡ le_number block
    → le_bytes 16 changed ≡ f (le_bytes 16 number) → after ≡ le_bytes 16 changed → after ≡ f block
by_number f block after number changed whole read map written = written ∙ map ∙ ap f (ap (le_bytes 16) read ∙ bytes_number 16 block whole)
