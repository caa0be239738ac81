-- A state in four words, and round keys in states.
use Rattle.std.specs.Prelude.{◌≡◌, ℕ, ◌+◌, ◌-◌, ◌*◌, ◌/◌, ◌%◌, ◌<◌, cond, List, ◌==◌, slice_index_or}
use Rattle.aes_tables.specs.Columns.{at, unmixed}
use Rattle.aes.specs.Aes.{four, listed, round_key}
use Rattle.aes.specs.declared.State.{State}
use Rattle.aes.specs.declared.RoundKeys.{RoundKeys}

abbrev pub bytes_of : State → List ℕ
bytes_of s = four s.a s.b s.c s.d

-- the columns of a state in the other order from the first on
abbrev pub mirrored_bytes : List ℕ → List ℕ
mirrored_bytes s = listed 16 (λ i. at s (i % 4 + 4 * ((4 - i / 4) % 4)))

-- every word of a schedule, unmixed
abbrev pub unmixed_keys : List ℕ → List ℕ
unmixed_keys k = listed 60 (λ i. unmixed (at k i))

-- what stands for the key of round r on the way back: they come in the other order, and those of the full rounds are unmixed
abbrev pub back_key : List ℕ → ℕ → List ℕ
back_key k r = mirrored_bytes (cond (r == 0) (round_key k 14) (cond (r == 14) (round_key k 0) (round_key (unmixed_keys k) (14 - r))))

-- each round key is what a function makes of the number of its round
abbrev pub KeysAre : RoundKeys → (ℕ → List ℕ) → Type 0
KeysAre k key = (bytes_of k.first ≡ key 0) × ((i : ℕ) (d : State) → i < 13 → bytes_of (slice_index_or k.full i d) ≡ key (i + 1)) × (bytes_of k.last ≡ key 14)
