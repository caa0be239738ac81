-- Every volume is steady, by the laws of its key and its store, and every key's cipher is proper.
use Rattle.std.specs.Prelude.{ℕ, List}
use Rattle.std.proofs.Common.{sym, subst, inl, inr}
use Rattle.octets.specs.Little.{Bytes}
use Rattle.card.specs.Meaning.{Sound}
use Rattle.card.specs.declared.Card.{Ghosts as Card}
use Rattle.keys.specs.declared.LoadedKey.{Ghosts as LoadedKey}
use Rattle.keys.specs.declared.ring.Keyring.{Keyring}
use Rattle.keys.specs.declared.ring.Keyring.TheVariants.{Empty, One, Two}
use Rattle.keys.specs.Rings.{keys_of}
use Rattle.law.specs.States.{Among, Steady}
use Rattle.volume.specs.declared.state.Volume.{Volume}
use Rattle.volume.specs.States.{state_of}

module _ {K S : Type 0} (key : LoadedKey K) (keyed : (k : K) → Bytes 64 (key.bytes k)) (card : Card S) (sound : (s : S) → Sound (card.meaning s)) where
  ring : (r : Keyring K) (k : List ℕ) → Among k (keys_of key.bytes r) → Bytes 64 k
  ring Empty k h = absurd h
  ring (One a) k (inl e) = subst (λ (j : List ℕ). Bytes 64 j) (sym e) (keyed a)
  ring (One a) k (inr h) = absurd h
  ring (Two a b) k (inl e) = subst (λ (j : List ℕ). Bytes 64 j) (sym e) (keyed a)
  ring (Two a b) k (inr (inl e)) = subst (λ (j : List ℕ). Bytes 64 j) (sym e) (keyed b)
  ring (Two a b) k (inr (inr h)) = absurd h

  pub steady : (v : Volume K S) → Steady (state_of key card v)
  steady v = record { store = sound v.store; keys = ring v.keys }
