-- The state of a volume, as its laws see it.
use Rattle.card.specs.declared.Card.{Ghosts as Card}
use Rattle.keys.specs.declared.LoadedKey.{Ghosts as LoadedKey}
use Rattle.keys.specs.Rings.{keys_of}
use Rattle.law.specs.States.{State}
use Rattle.volume.specs.declared.state.Volume.{Volume}

abbrev pub state_of : {K S : Type 0} → LoadedKey K → Card S → Volume K S → State
state_of k s v = record { store = s.meaning v.store; keys = keys_of k.bytes v.keys; out = v.permit_out }
