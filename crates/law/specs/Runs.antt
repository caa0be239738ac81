-- Runs of a volume, and what is known from a run alone, whatever the trailer says.
use Rattle.std.specs.Prelude.{ℕ, ◌+◌, Bool, true, cond, not, ◌&&◌, List, [], ◌∷◌, ◌++◌, length, Ok, Err, Result, ◌==◌, nat_lt, slice_index_or}
use Rattle.std.specs.Option.{unwrap_or}
use Rattle.std.specs.List.{AllByRecursion}
use Rattle.refusal.specs.declared.Refusal.{Refusal}
use Rattle.octets.specs.Little.{Bytes}
use Rattle.card.specs.Meaning.{at}
use Rattle.trailer.specs.declared.stage.Stage.{Stage}
use Rattle.law.specs.Suites.{Suite, check, opened}
use Rattle.law.specs.States.{State, Steady, place, other}
use Rattle.law.specs.Calls as calls
use Rattle.law.specs.Calls.{Reply}

-- a call with its arguments and its reply; a read and a step tell the length of their buffer
pub data Entry : Type 0 where
  powered_up : Reply → Entry
  counted : Result ℕ Refusal → Entry
  loaded : List (List ℕ) → Reply → Entry
  formatted : ℕ → List ℕ → Reply → Entry
  read : ℕ → ℕ → Result (List ℕ) Refusal → Entry
  wrote : ℕ → List ℕ → Reply → Entry
  claimed : Result Stage Refusal → Entry
  began : Reply → Entry
  stepped : ℕ → Result ℕ Refusal → Entry
  finished : Reply → Entry
  handed_in : Entry

-- the relation that the call's own contract cites; `took` says whether its put took effect
abbrev pub Does : Suite → State → Entry → Bool → State → Type 0
Does c v (powered_up r) took w = calls.PowersUp c v r w
Does c v (counted r) took w = calls.Counted c v r w
Does c v (loaded ks r) took w = calls.Loaded c v ks r w
Does c v (formatted n label r) took w = calls.Formatted c v n label took r w
Does c v (read n size r) took w = calls.Read c v n size r w
Does c v (wrote n b r) took w = calls.Wrote c v n b took r w
Does c v (claimed r) took w = calls.Claimed c v r w
Does c v (began r) took w = calls.Begun c v took r w
Does c v (stepped size r) took w = calls.Stepped c v size took r w
Does c v (finished r) took w = calls.Finished c v took r w
Does c v handed_in took w = calls.HandedIn c v w

-- keys, labels and sectors that a call is given are bytes
abbrev pub Given : Entry → Type 0
Given (powered_up r) = Unit {0}
Given (counted r) = Unit {0}
Given (loaded ks r) = AllByRecursion (λ k. Bytes (length k) k) ks
Given (formatted n label r) = Bytes (length label) label
Given (read n size r) = Unit {0}
Given (wrote n b r) = Bytes (length b) b
Given (claimed r) = Unit {0}
Given (began r) = Unit {0}
Given (stepped size r) = Unit {0}
Given (finished r) = Unit {0}
Given handed_in = Unit {0}

-- a call, whether its put took effect, and the state after it
pub record Event : Type 0 where
  pub entry : Entry
  pub took : Bool
  pub after : State

-- the newest event first
abbrev pub History : Type 0
History = List Event

abbrev pub end_of : State → History → State
end_of v [] = v
end_of v (e ∷ es) = e.after

-- each event follows from the state before it by its call's own relation
abbrev pub Run : Suite → State → History → Type 0
Run c v [] = Unit {0}
Run c v (e ∷ es) = Given e.entry × Does c (end_of v es) e.entry e.took e.after × Run c v es

-- v is what a format of this reach has left, whose put took effect
pub record Starts (c : Suite) (reach : ℕ) (v : State) : Type 0 where
  pub before : State
  pub label : List ℕ
  pub reply : Reply
  pub steady : Steady before
  pub given : Bytes (length label) label
  pub formats : calls.Formatted c before reach label true reply v

-- the keys that a call loads
abbrev pub loads : Entry → List (List ℕ)
loads (powered_up r) = []
loads (counted r) = []
loads (loaded ks (Ok _)) = ks
loads (loaded ks (Err e)) = []
loads (formatted n label r) = []
loads (read n size r) = []
loads (wrote n b r) = []
loads (claimed r) = []
loads (began r) = []
loads (stepped size r) = []
loads (finished r) = []
loads handed_in = []

-- the keys ever loaded
abbrev pub ever : State → History → List (List ℕ)
ever v [] = v.keys
ever v (e ∷ es) = loads e.entry ++ ever v es

-- the reach that a call leaves: another one only by a format whose put took effect
abbrev pub reaching : Bool → Entry → ℕ → ℕ
reaching took (powered_up r) n = n
reaching took (counted r) n = n
reaching took (loaded ks r) n = n
reaching took (formatted m label r) n = cond took m n
reaching took (read i size r) n = n
reaching took (wrote i b r) n = n
reaching took (claimed r) n = n
reaching took (began r) n = n
reaching took (stepped size r) n = n
reaching took (finished r) n = n
reaching took handed_in n = n

-- the number of data sectors, after a format of this reach and these events
abbrev pub reach_of : ℕ → History → ℕ
reach_of reach [] = reach
reach_of reach (e ∷ es) = reaching e.took e.entry (reach_of reach es)

-- at rest under the volume's key, or on the way from an old key to a new one, with a watermark
pub data Change : Type 0 where
  rests : List ℕ → Change
  runs : List ℕ → List ℕ → ℕ → Change

-- the new key is the other one of those that are loaded
abbrev pub begins : Suite → List (List ℕ) → Change → Change
begins c ks (rests k) = runs k (unwrap_or (other c (check c k) ks) []) 0
begins c ks (runs old new w) = runs old new w

abbrev pub goes_on : Change → Change
goes_on (rests k) = rests k
goes_on (runs old new w) = runs old new (w + 1)

abbrev pub ends : Change → Change
ends (rests k) = rests k
ends (runs old new w) = rests new

-- the first of the loaded keys, under which a format puts its trailer
abbrev pub first_key : List (List ℕ) → List ℕ
first_key ks = slice_index_or ks 0 []

-- what a call makes of the change, where the keys ks are loaded
abbrev pub turned : Suite → List (List ℕ) → Bool → Entry → Change → Change
turned c ks took (powered_up r) x = x
turned c ks took (counted r) x = x
turned c ks took (loaded js r) x = x
turned c ks took (formatted n label r) x = cond took (rests (first_key ks)) x
turned c ks took (read n size r) x = x
turned c ks took (wrote n b r) x = x
turned c ks took (claimed r) x = x
turned c ks took (began r) x = cond took (begins c ks x) x
turned c ks took (stepped size r) x = cond took (goes_on x) x
turned c ks took (finished r) x = cond took (ends x) x
turned c ks took handed_in x = x

-- the change; right after the format the volume is at rest under the first key loaded
abbrev pub change : Suite → State → History → Change
change c v [] = rests (first_key v.keys)
change c v (e ∷ es) = turned c (end_of v es).keys e.took e.entry (change c v es)

-- the key that the change has sector i under
abbrev pub key_under : Change → ℕ → List ℕ
key_under (rests k) i = k
key_under (runs old new w) i = cond (nat_lt i w) new old

abbrev pub steps_by : Bool → Entry → ℕ → ℕ
steps_by took (powered_up r) n = n
steps_by took (counted r) n = n
steps_by took (loaded ks r) n = n
steps_by took (formatted m label r) n = cond took 0 n
steps_by took (read i size r) n = n
steps_by took (wrote i b r) n = n
steps_by took (claimed r) n = n
steps_by took (began r) n = cond took 0 n
steps_by took (stepped size (Ok _)) n = n + 1
steps_by took (stepped size (Err e)) n = n
steps_by took (finished r) n = cond took 0 n
steps_by took handed_in n = n

-- the done steps of the change that runs
abbrev pub done_steps : History → ℕ
done_steps [] = 0
done_steps (e ∷ es) = steps_by e.took e.entry (done_steps es)

-- the power is on before and off after: only such a call lost power
abbrev pub loses : State → State → Bool
loses v w = v.store.power && not w.store.power

-- what data sector i shows right after a format of this reach
abbrev pub shown_at_first : Suite → ℕ → State → ℕ → List ℕ
shown_at_first c reach v i = opened c (first_key v.keys) i (at v.store (place v reach i))

-- What sector i may show after a call from v to w, where before it might show xs: b after a done write of b, and b too
-- after one that lost power; what it shows right after a format counts as a done write.
abbrev pub may_show_by : Suite → ℕ → State → State → Bool → Entry → List (List ℕ) → List (List ℕ)
may_show_by c i v w took (powered_up r) xs = xs
may_show_by c i v w took (counted r) xs = xs
may_show_by c i v w took (loaded ks r) xs = xs
may_show_by c i v w took (formatted n label r) xs = cond took (shown_at_first c n w i ∷ []) xs
may_show_by c i v w took (read n size r) xs = xs
may_show_by c i v w took (wrote n b (Ok _)) xs = cond (i == n) (b ∷ []) xs
may_show_by c i v w took (wrote n b (Err e)) xs = cond (i == n && loses v w) (b ∷ xs) xs
may_show_by c i v w took (claimed r) xs = xs
may_show_by c i v w took (began r) xs = xs
may_show_by c i v w took (stepped size r) xs = xs
may_show_by c i v w took (finished r) xs = xs
may_show_by c i v w took handed_in xs = xs

-- the last done write of sector i, and each later write of it that lost power
abbrev pub may_show : Suite → ℕ → State → ℕ → History → List (List ℕ)
may_show c reach v i [] = shown_at_first c reach v i ∷ []
may_show c reach v i (e ∷ es) = may_show_by c i (end_of v es) e.after e.took e.entry (may_show c reach v i es)
