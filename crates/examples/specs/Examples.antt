-- Worked examples, from the definitions that the contracts cite.
use Rattle.std.specs.Prelude.{◌≡◌, ℕ, ◌+◌, ◌^◌, ◌<◌, ◌≤◌, true, false, None, ◌≢◌, List, [], ◌∷◌, ◌++◌, replicate}
use Rattle.octets.specs.Little.{Bytes, le_number, le_bytes}
use Rattle.xts.specs.Xts.{doubled}
use Rattle.aes_tables.specs.Field.{sub}
use Rattle.speck.specs.Vector as speck
use Rattle.journal.specs.Journals.{raised}
use Rattle.journal.specs.Slips.{slip_of, slip_bytes}
use Rattle.trailer.specs.declared.stage.Stage.TheVariants.{Changing}
use Rattle.trailer.specs.Trailers.{Fields, encode, valid}

-- the bytes of a tweak doubled
abbrev pub doubled_bytes : List ℕ → List ℕ
doubled_bytes t = le_bytes 16 (doubled (le_number t))

-- a flag with one wrong byte at its end
abbrev pub short_flag : List ℕ
short_flag = replicate 519 0xa5 ++ (0 ∷ [])

-- a trailer on its way from check a to check b, of reach R and watermark w
abbrev pub changing : ℕ → ℕ → List ℕ → List ℕ → List ℕ → Fields
changing R w a b label = record { stage = Changing; reach = R; watermark = w; first = a; second = b; label = label }

pub record Worked : Type 0 where
  -- doubling 1 gives 2, and a bit that falls out comes back as 87 hex
  pub doubles : doubled_bytes (1 ∷ replicate 15 0) ≡ 2 ∷ replicate 15 0
  pub carries : doubled_bytes (replicate 15 0 ++ (0x80 ∷ [])) ≡ 0x87 ∷ replicate 15 0
  -- AES's substitution
  pub substitutes_0 : sub 0 ≡ 0x63
  pub substitutes_53 : sub 0x53 ≡ 0xed
  -- Speck128/256 under the key 00 to 1f hex
  pub enciphers : speck.VectorHolds
  -- 519 bytes a5 hex and a 0 are a lowered flag, whatever the card's other sectors are
  pub lowered : (xs : List (List ℕ)) → raised (xs ++ (short_flag ∷ [])) ≡ false
  -- a slip of kind 2 with equal targets is not valid
  pub equal_targets : (limit a : ℕ) → a < 2 ^ 32 → slip_of limit (slip_bytes 2 a a) ≡ None
  -- a changing trailer whose watermark equals its reach is valid, and with one more is not
  pub full :
      (number T R : ℕ) (a b label : List ℕ) → number < 256 → 1 ≤ R → R ≤ T → T + 1 < 2 ^ 32 → Bytes 16 a → Bytes 16 b → Bytes 16 label → a ≢ b
      → (valid number T (encode number (changing R R a b label)) ≡ true)
      × (valid number T (encode number (changing R (R + 1) a b label)) ≡ false)
