-- A key that is refused refuses the load.
use Rattle.std.proofs.Common.{◌≡◌, ℕ, false, ◌≢◌, List, length, take, drop, inl, inr}
use Rattle.std.specs.List.{AllByRecursion}
use Rattle.refusal.specs.Demands.{FirstUnmet}
use Rattle.xts.specs.Calls.{key_demands}
use Rattle.law.specs.Suites.{Suite}
use Rattle.law.specs.States.{State}
use Rattle.law.specs.Calls.{load_demands}

-- k is one of the keys ks, and once it is known to be 64 bytes long all of them are
pub refused_key : (c : Suite) (v : State) (ks : List (List ℕ)) (k : List ℕ) (n : ℕ) → v.out ≡ false
    → (AllByRecursion (λ j. length j ≡ 64) ks → length k ≡ 64) → (length k ≡ 64 → AllByRecursion (λ j. length j ≡ 64) ks)
    → (AllByRecursion (λ j. take 32 j ≢ drop 32 j) ks → take 32 k ≢ drop 32 k)
    → FirstUnmet (key_demands k) n → FirstUnmet (load_demands c v ks) n
refused_key c v ks k n out one all halves (inl h) = inr (out, inl (λ a. h.0 (one a), h.1))
refused_key c v ks k n out one all halves (inr (l, inl h)) = inr (out, inr (all l, inl (λ a. h.0 (halves a), h.1)))
refused_key c v ks k n out one all halves (inr (l, inr h)) = absurd h.1
