-- What holds of XTS whatever the cipher.
use Rattle.std.specs.Prelude.{◌≡◌, ℕ, zero, suc, ◌+◌, ◌-◌, ◌*◌, ◌/◌, ◌%◌, ◌<◌, ◌≤◌, List, ◌++◌, length, take, drop}
use Rattle.octets.specs.Little.{Bytes}
use Rattle.cipher.specs.Maps.{Maps}
use Rattle.xts.specs.Xts.{doubled, under, first_tweak, encipher, decipher}

-- what is said of every key of 64 bytes, every unit number, and every unit of bytes that has at least one whole block
abbrev pub ForEveryUnit : (List ℕ → ℕ → List ℕ → Type 0) → Type 0
ForEveryUnit P = (key : List ℕ) (n : ℕ) (unit : List ℕ) → Bytes 64 key → 16 ≤ length unit → Bytes (length unit) unit → P key n unit

-- Deciphering undoes enciphering and enciphering undoes deciphering, and both give as many bytes as they are given.
pub record Undoes (forward back : Maps) (key : List ℕ) (n : ℕ) (unit : List ℕ) : Type 0 where
  pub undone : decipher forward back key n (encipher forward key n unit) ≡ unit
  pub redone : encipher forward key n (decipher forward back key n unit) ≡ unit
  pub enciphered : Bytes (length unit) (encipher forward key n unit)
  pub deciphered : Bytes (length unit) (decipher forward back key n unit)

abbrev pub EachUndoesTheOther : Maps → Maps → Type 0
EachUndoesTheOther forward back = ForEveryUnit (Undoes forward back)

-- tweak j: tweak 0 doubled j times
abbrev pub tweak : ℕ → ℕ → ℕ
tweak t zero = t
tweak t (suc j) = doubled (tweak t j)

abbrev pub block : List ℕ → ℕ → List ℕ
block xs j = take 16 (drop (16 * j) xs)

-- The standard's own words, block by block: ys is the unit xs of m whole blocks and b bytes more, taken through the map
-- f from tweak 0 on. Block j goes under tweak j. Where there is a tail, the last whole block goes under tweak `one` and
-- gives q: the tail of ys is the first b bytes of q, and its last whole block is the tail of xs with the rest of q,
-- under tweak `other`.
pub record BlockByBlock (f : List ℕ → List ℕ) (t m b one other : ℕ) (xs ys : List ℕ) : Type 0 where
  pub whole : (j : ℕ) → j + 1 < m → block ys j ≡ under f (tweak t j) (block xs j)
  pub even : b ≡ 0 → block ys (m - 1) ≡ under f (tweak t (m - 1)) (block xs (m - 1))
  pub tail : 0 < b → drop (16 * m) ys ≡ take b (under f (tweak t one) (block xs (m - 1)))
  pub head : 0 < b → block ys (m - 1) ≡ under f (tweak t other) (drop (16 * m) xs ++ drop b (under f (tweak t one) (block xs (m - 1))))

-- Enciphering takes tweak m − 1 and then tweak m for the stolen tail, deciphering tweak m and then tweak m − 1.
abbrev pub EnciphersBlockByBlock : Maps → Type 0
EnciphersBlockByBlock forward =
    ForEveryUnit (λ key n unit.
    let m : ℕ = length unit / 16 in
    BlockByBlock (forward (take 32 key)) (first_tweak forward key n) m (length unit % 16) (m - 1) m unit (encipher forward key n unit))

abbrev pub DeciphersBlockByBlock : Maps → Maps → Type 0
DeciphersBlockByBlock forward back =
    ForEveryUnit (λ key n unit.
    let m : ℕ = length unit / 16 in
    BlockByBlock (back (take 32 key)) (first_tweak forward key n) m (length unit % 16) m (m - 1) unit (decipher forward back key n unit))
