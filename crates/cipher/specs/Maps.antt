-- What a block cipher is to those who use it: two maps of blocks for each key.
use Rattle.std.specs.Prelude.{◌≡◌, List, ℕ}
use Rattle.octets.specs.Little.{Bytes}

-- a map of blocks for each key: first the key, then the block
abbrev pub Maps : Type 0
Maps = List ℕ → List ℕ → List ℕ

-- under every key of 32 bytes each map undoes the other on every block of 16 bytes, and keeps blocks blocks
pub record Inverse (forward back : Maps) : Type 0 where
  pub undone : (key block : List ℕ) → Bytes 32 key → Bytes 16 block → back key (forward key block) ≡ block
  pub redone : (key block : List ℕ) → Bytes 32 key → Bytes 16 block → forward key (back key block) ≡ block
  pub forward_block : (key block : List ℕ) → Bytes 32 key → Bytes 16 block → Bytes 16 (forward key block)
  pub back_block : (key block : List ℕ) → Bytes 32 key → Bytes 16 block → Bytes 16 (back key block)
