-- A cipher as a volume uses it: its number, its two maps, and XTS over them.
use Rattle.std.specs.Prelude.{ℕ, ◌<◌, List}
use Rattle.cipher.specs.Maps.{Maps, Inverse}
use Rattle.xts.specs.Xts as xts

pub record Suite : Type 0 where
  -- the cipher's own number, which stands in the trailer
  pub number : ℕ
  pub forward : Maps
  pub back : Maps

abbrev pub suite : ℕ → Maps → Maps → Suite
suite n f b = record { number = n; forward = f; back = b }

-- what every cipher that keeps its contract has
pub record Proper (c : Suite) : Type 0 where
  pub number : c.number < 256
  pub inverse : Inverse c.forward c.back

-- the check of a key: sixteen bytes by which a trailer names the key
abbrev pub check : Suite → List ℕ → List ℕ
check c key = xts.check c.forward key

-- a sector enciphered under a key as unit i, and deciphered
abbrev pub sealed : Suite → List ℕ → ℕ → List ℕ → List ℕ
sealed c key i sector = xts.encipher c.forward key i sector

abbrev pub opened : Suite → List ℕ → ℕ → List ℕ → List ℕ
opened c key i sector = xts.decipher c.forward c.back key i sector
