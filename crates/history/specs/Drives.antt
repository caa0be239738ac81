-- What one call does to a drive.
use Rattle.std.specs.Prelude.{◌≡◌, ℕ, List, length}
use Rattle.card.specs.declared.Card.{Ghosts as Card}
use Rattle.keys.specs.declared.LoadedKey.{Ghosts as LoadedKey}
use Rattle.keys.specs.Rings.{suite_of}
use Rattle.volume.specs.States.{state_of}
use Rattle.history.specs.declared.drive.Drive.{Drive}
use Rattle.history.specs.declared.script.Call.{Call}
use Rattle.history.specs.declared.script.Entry.{Entry}
use Rattle.history.specs.Scripts.{call_of, told, Happens, Held, held_stage, worked}

-- The entry tells this call; what it tells happened between the two states, with the permit and the work buffer (b, b')
-- before and after.
pub record Made {K S : Type 0} (k : LoadedKey K) (s : Card S) (d : Drive K S) (call : Call) (b : List ℕ) (e : Entry) (d' : Drive K S) (b' : List ℕ) : Type 0 where
  pub tells : call_of e ≡ call
  pub happens : Happens (suite_of k) (state_of k s d.volume) (told (length b) e) (state_of k s d'.volume)
  pub held : Held e (held_stage d.permit) (held_stage d'.permit)
  pub works : b' ≡ worked e b

-- the same of a call that uses no work buffer
abbrev pub MadeWithoutWork : {K S : Type 0} (k : LoadedKey K) (s : Card S) → Drive K S → Call → Entry → Drive K S → Type 0
MadeWithoutWork k s d call e d' = (b : List ℕ) → Made k s d call b e d' b
