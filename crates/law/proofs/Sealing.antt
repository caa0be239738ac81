-- What XTS over a proper cipher gives: checks of sixteen bytes, sectors for sectors, and deciphering undoes enciphering.
use Rattle.std.proofs.Common.{◌≡◌, ℕ, ◌-◌, ◌^◌, ◌≤◌, List, length, replicate, sym, subst, arith}
use Rattle.octets.specs.Little.{Bytes}
use Rattle.card.specs.Meaning.{Sector}
use Rattle.xts.specs.Xts as xts
use Rattle.xts.specs.Theorems.{Undoes}
use Rattle.xts.proofs.Laws.{each_undoes_the_other}
use Rattle.trailer.proofs.Fields.{zeros}
use Rattle.law.specs.Suites.{Suite, Proper, check, sealed, opened}

-- a key of 64 bytes
abbrev pub Key : List ℕ → Type 0
Key k = Bytes 64 k

module _ (c : Suite) (p : Proper c) where
  undoes : (n : ℕ) (k : List ℕ) (i : ℕ) (s : List ℕ) → 16 ≤ n → Key k → Bytes n s → Undoes c.forward c.back k i s
  undoes n k i s lo hk hs =
      let long : length s ≡ n = hs.0 in
      each_undoes_the_other c.forward c.back p.inverse k i s hk (omega arith) (subst (λ (m : ℕ). Bytes m s) (sym long) hs)

  enciphered : (n : ℕ) (k : List ℕ) (i : ℕ) (s : List ℕ) → 16 ≤ n → Key k → Bytes n s → Bytes n (sealed c k i s)
  enciphered n k i s lo hk hs = subst (λ (m : ℕ). Bytes m (sealed c k i s)) hs.0 (undoes n k i s lo hk hs).enciphered

  pub check_bytes : (k : List ℕ) → Key k → Bytes 16 (check c k)
  unfolding xts.check
  check_bytes k hk = enciphered 16 k (2 ^ 64 - 1) (replicate 16 0) (omega arith) hk zeros

  pub sealed_sector : (k : List ℕ) (i : ℕ) (s : List ℕ) → Key k → Sector s → Sector (sealed c k i s)
  sealed_sector k i s hk hs = enciphered 520 k i s (omega arith) hk hs

  pub opened_sector : (k : List ℕ) (i : ℕ) (s : List ℕ) → Key k → Sector s → Sector (opened c k i s)
  opened_sector k i s hk hs =
      subst (λ (m : ℕ). Bytes m (opened c k i s)) hs.0 (undoes 520 k i s (omega arith) hk hs).deciphered

  pub opened_sealed : (k : List ℕ) (i : ℕ) (s : List ℕ) → Key k → Sector s → opened c k i (sealed c k i s) ≡ s
  opened_sealed k i s hk hs = (undoes 520 k i s (omega arith) hk hs).undone
