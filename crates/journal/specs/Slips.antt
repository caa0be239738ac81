-- The bytes of a flag and of a slip, and what they say.
use Rattle.std.specs.Prelude.{ℕ, Option, Some, None, cond, not, ◌&&◌, List, ◌∷◌, ◌++◌, take, drop, replicate, ◌==◌, nat_lt, slice_index}
use Rattle.octets.specs.Little.{all_are, le_number, le_bytes}
use Rattle.journal.specs.declared.slip.Targets.{Targets}

-- one target, and two
abbrev pub one : ℕ → Targets
one a = record { first = a; second = None }

abbrev pub two : ℕ → ℕ → Targets
two a b = record { first = a; second = Some b }

-- the little-endian number of the four bytes from place k on
abbrev pub field : List ℕ → ℕ → ℕ
field s k = le_number (take 4 (drop k s))

-- A slip of kind 1 says one target, a, and one of kind 2 says two, a and b; the targets are below limit and differ, and a
-- slip with one target has 0 for the second. Any other says nothing.
abbrev pub said : ℕ → ℕ → ℕ → ℕ → Option Targets
said limit kind a b =
    cond (kind == 1) (cond (nat_lt a limit && b == 0) (Some (one a)) None)
    (cond (kind == 2) (cond (nat_lt a limit && (nat_lt b limit && not (a == b))) (Some (two a b)) None) None)

-- The kind is byte 508 and the targets are the fields at 512 and 516; bytes 0 to 507 and 509 to 511 are 0.
abbrev pub slip_of : ℕ → List ℕ → Option Targets
slip_of limit s =
    cond (all_are 0 (take 508 s) && all_are 0 (take 3 (drop 509 s))) (said limit (slice_index s 508) (field s 512) (field s 516)) None

-- the bytes of the slip of this kind over these targets
unfoldable pub slip_bytes : ℕ → ℕ → ℕ → List ℕ
slip_bytes kind a b = replicate 508 0 ++ (kind ∷ 0 ∷ 0 ∷ 0 ∷ (le_bytes 4 a ++ le_bytes 4 b))

-- the bytes of the slip over a first target and a second
abbrev pub slip_to : ℕ → Option ℕ → List ℕ
slip_to a None = slip_bytes 1 a 0
slip_to a (Some b) = slip_bytes 2 a b

-- the bytes of the slip over these targets
abbrev pub slip_over : Targets → List ℕ
slip_over t = slip_to t.first t.second
