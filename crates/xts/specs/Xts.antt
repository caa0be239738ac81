-- XTS of IEEE 1619 with ciphertext stealing, over any map of blocks.
use Rattle.std.specs.Prelude.{ℕ, zero, suc, ◌-◌, ◌*◌, ◌/◌, ◌%◌, ◌^◌, Bool, true, false, cond, List, ◌++◌, length, take, drop, replicate, ◌==◌, bit_xor}
use Rattle.octets.specs.Little.{le_number, le_bytes, xored}
use Rattle.cipher.specs.Maps.{Maps}

-- The next tweak. A tweak is the number of its sixteen little-endian bytes: it is shifted left by one bit, and where a
-- bit falls out 87 hex is added to byte 0 by exclusive-or.
abbrev pub doubled : ℕ → ℕ
doubled t = bit_xor (t * 2 % 2 ^ 128) (t / 2 ^ 127 * 0x87)

module _ (f : List ℕ → List ℕ) where
  -- a block under a tweak: the tweak is added before and after
  abbrev pub under : ℕ → List ℕ → List ℕ
  under t block = xored (f (xored block (le_bytes 16 t))) (le_bytes 16 t)

  -- The last whole block of a unit and a tail of b bytes, b from 1 to 15. The block under one tweak gives q; the first
  -- b bytes of q end the output; the tail, filled up with the last 16 − b bytes of q, goes under another tweak.
  abbrev pub stolen : ℕ → ℕ → List ℕ → List ℕ
  stolen one other xs =
      let b : ℕ = length xs - 16 in
      let q : List ℕ = under one (take 16 xs) in
      under other (drop 16 xs ++ drop b q) ++ take b q

  -- the end of a unit, from tweak m − 1 on: enciphering takes tweak m − 1 and then m, deciphering (back) the other order
  abbrev pub ending : Bool → ℕ → List ℕ → List ℕ
  ending false t xs = stolen t (doubled t) xs
  ending true t xs = stolen (doubled t) t xs

  -- a unit of n + 1 whole blocks, and perhaps a tail, from tweak t on
  unfoldable pub walked : Bool → ℕ → ℕ → List ℕ → List ℕ
  walked back t zero xs = cond (length xs == 16) (under t xs) (ending back t xs)
  walked back t (suc n) xs = under t (take 16 xs) ++ walked back (doubled t) n (drop 16 xs)

-- the whole blocks of a unit, but for the last
abbrev pub before_last : List ℕ → ℕ
before_last unit = length unit / 16 - 1

-- Tweak 0: the unit's number as sixteen bytes, enciphered under the tweak half of the key.
abbrev pub first_tweak : Maps → List ℕ → ℕ → ℕ
first_tweak forward key n = le_number (forward (drop 32 key) (le_bytes 16 n))

-- Unit n under a key of 64 bytes: first the half that enciphers the blocks, then the half that enciphers the tweak.
unfoldable pub encipher : Maps → List ℕ → ℕ → List ℕ → List ℕ
encipher forward key n unit = walked (forward (take 32 key)) false (first_tweak forward key n) (before_last unit) unit

unfoldable pub decipher : Maps → Maps → List ℕ → ℕ → List ℕ → List ℕ
decipher forward back key n unit = walked (back (take 32 key)) true (first_tweak forward key n) (before_last unit) unit

-- A unit through either of the two: enciphered, or where back deciphered.
abbrev pub passed : Bool → Maps → Maps → List ℕ → ℕ → List ℕ → List ℕ
passed false forward back = encipher forward
passed true forward back = decipher forward back

-- The check of a key, by which a volume knows it: sixteen zero bytes as unit 2^64 − 1.
unfoldable pub check : Maps → List ℕ → List ℕ
check forward key = encipher forward key (2 ^ 64 - 1) (replicate 16 0)
