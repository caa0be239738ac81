-- Enciphering and deciphering undo each other, for every cipher that keeps the law.
use Rattle.std.proofs.Common.{◌≡◌, ℕ, suc, ◌+◌, ◌-◌, ◌*◌, ◌/◌, ◌%◌, ◌<◌, ◌≤◌, Bool, true, false, cond, not, List, length, take, ap, ◌∙◌, arith}
use Rattle.octets.specs.Little.{Bytes}
use Rattle.octets.proofs.Lists.{part_bytes}
use Rattle.cipher.specs.Maps.{Maps, Inverse}
use Rattle.xts.specs.Xts.{doubled, stolen, walked, before_last, first_tweak, encipher, decipher}
use Rattle.xts.specs.Theorems.{EachUndoesTheOther, EnciphersBlockByBlock, DeciphersBlockByBlock, tweak}
use Rattle.xts.proofs.Undone.{UndoneBy, walked_bytes, walked_undone}
use Rattle.xts.proofs.Blockwise.{blockwise}

module _ (forward back : Maps) (law : Inverse forward back) (key : List ℕ) (hk : Bytes 32 key) where
  -- the map that enciphers blocks, and the map back
  abbrev way : Bool → List ℕ → List ℕ
  way b = cond b back forward key

  -- the law of the cipher, in either direction
  either : (b : Bool) → UndoneBy (way b) (way (not b))
  either false = record { kept = λ x h. law.forward_block key x hk h; undone = λ x h. law.undone key x hk h }
  either true = record { kept = λ x h. law.back_block key x hk h; undone = λ x h. law.redone key x hk h }

  module _ (t : ℕ) (unit : List ℕ) (lo : 16 ≤ length unit) (a : Bytes (length unit) unit) where
    low : before_last unit * 16 + 16 ≤ length unit
    low = omega arith

    high : length unit < before_last unit * 16 + 32
    high = omega arith

    pub through : (b : Bool) → Bytes (length unit) (walked (way b) b t (before_last unit) unit)
    through b = walked_bytes (way b) (way (not b)) (either b) b t (before_last unit) unit low high a

    pub and_back : (b : Bool) → walked (way (not b)) (not b) t (before_last (walked (way b) b t (before_last unit) unit)) (walked (way b) b t (before_last unit) unit) ≡ unit
    and_back b =
        let ys = walked (way b) b t (before_last unit) unit in
        ap (λ (m : ℕ). walked (way (not b)) (not b) t (m / 16 - 1) ys) (through b).0
        ∙ walked_undone (way b) (way (not b)) (either b) b t (before_last unit) unit low high a

-- Units go block by block. Tweak m is the double of tweak m − 1.
next : (t m : ℕ) → 1 ≤ m → doubled (tweak t (m - 1)) ≡ tweak t m
next t m h = let e : suc (m - 1) ≡ m = omega arith in ap (tweak t) e

pub enciphers_block_by_block : (forward back : Maps) → Inverse forward back → EnciphersBlockByBlock forward
unfolding encipher
enciphers_block_by_block forward back law key n unit hk lo a =
    let k1 = part_bytes 0 32 64 key (omega arith) hk in
    let t = first_tweak forward key n in
    let m : ℕ = length unit / 16 in
    let b : ℕ = length unit % 16 in
    let some : 1 ≤ m = omega arith in
    let long : m * 16 + b ≡ length unit = omega arith in
    let less : b < 16 = omega arith in
    blockwise (forward (take 32 key)) (back (take 32 key)) (either forward back law (take 32 key) k1 false) false t m b (m - 1) m unit some long less a
    (λ zs. ap (λ (u : ℕ). stolen (forward (take 32 key)) (tweak t (m - 1)) u zs) (next t m some))

pub deciphers_block_by_block : (forward back : Maps) → Inverse forward back → DeciphersBlockByBlock forward back
unfolding decipher
deciphers_block_by_block forward back law key n unit hk lo a =
    let k1 = part_bytes 0 32 64 key (omega arith) hk in
    let t = first_tweak forward key n in
    let m : ℕ = length unit / 16 in
    let b : ℕ = length unit % 16 in
    let some : 1 ≤ m = omega arith in
    let long : m * 16 + b ≡ length unit = omega arith in
    let less : b < 16 = omega arith in
    blockwise (back (take 32 key)) (forward (take 32 key)) (either forward back law (take 32 key) k1 true) true t m b m (m - 1) unit some long less a
    (λ zs. ap (λ (u : ℕ). stolen (back (take 32 key)) u (tweak t (m - 1)) zs) (next t m some))

pub each_undoes_the_other : (forward back : Maps) → Inverse forward back → EachUndoesTheOther forward back
unfolding encipher decipher
each_undoes_the_other forward back law key n unit hk lo a =
    let k1 = part_bytes 0 32 64 key (omega arith) hk in
    let t = first_tweak forward key n in
    record {
      undone = and_back forward back law (take 32 key) k1 t unit lo a false;
      redone = and_back forward back law (take 32 key) k1 t unit lo a true;
      enciphered = through forward back law (take 32 key) k1 t unit lo a false;
      deciphered = through forward back law (take 32 key) k1 t unit lo a true;
    }
