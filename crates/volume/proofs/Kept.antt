-- What every call of a volume keeps and shows, by the laws of its keys and its store.
use Rattle.std.specs.Prelude.{◌<◌}
use Rattle.octets.specs.Little.{Bytes}
use Rattle.cipher.specs.Maps.{Inverse}
use Rattle.card.specs.declared.Card.{Ghosts as Card}
use Rattle.keys.specs.declared.LoadedKey.{Ghosts as LoadedKey}
use Rattle.card.specs.Meaning.{Sound}
use Rattle.keys.specs.Rings.{suite_of}
use Rattle.law.specs.Suites.{Proper}
use Rattle.law.specs.States.{State}
use Rattle.showing.specs.Showing.{CallsKeepWhatIsShown, CallsShowWhatIsPut, IsACard}
use Rattle.showing.proofs.Theorems.{calls_keep, calls_show, is_a_card}
use Rattle.volume.specs.declared.state.Volume.{Volume}
use Rattle.volume.specs.States.{state_of}
use Rattle.volume.specs.Steadiness.{steady}

module _ {K S : Type 0} (key : LoadedKey K) (byte : key.numbered < 256) (inverse : Inverse key.forward key.back) (keyed : (k : K) → Bytes 64 (key.bytes k)) (card : Card S) (sound : (s : S) → Sound (card.meaning s)) (v : Volume K S) (w : State) where
  proper : Proper (suite_of key)
  proper = record { number = byte; inverse = inverse }

  pub keeps : CallsKeepWhatIsShown (suite_of key) (state_of key card v) w
  keeps = calls_keep (suite_of key) (state_of key card v) w proper (steady key keyed card sound v)

  pub puts : CallsShowWhatIsPut (suite_of key) (state_of key card v) w
  puts = calls_show (suite_of key) (state_of key card v) w proper (steady key keyed card sound v)

  pub cards : IsACard (suite_of key) (state_of key card v) w
  cards = is_a_card (suite_of key) (state_of key card v) w proper (steady key keyed card sound v)
