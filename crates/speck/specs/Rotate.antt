-- Rotation, over the number of places: what the shifts of a word give, its bound, and that rotating on undoes it.
use Rattle.std.specs.Prelude.{◌≡◌, ℕ, ◌+◌, ◌*◌, ◌/◌, ◌%◌, ◌^◌, ◌<◌, bit_or}
use Rattle.std.proofs.Common.{sym, ap, ap₂, ◌∙◌, subst, add_comm, add-zero, mul_comm, mul-div_cancel, div-add-mod', div-lt_iff_lt-mul, pow_pos, pow-add}
use Rattle.std.proofs.Math.Nat.{mul-mod_left}
use Rattle.std.proofs.Math.Arith.{mod-mul}
use Rattle.std.specs.Int.Bits.{or_shifted_r}
use Rattle.std.proofs.lemmas.Nat.{div-mul-add, mod-mul-add, mod_below, mul-add-lt, or_comm}

-- (x · c) mod (m · c) is (x mod m) · c
scaled : (x m c : ℕ) → 0 < m → 0 < c → (x * c) % (m * c) ≡ (x % m) * c
scaled x m c hm hc =
    mod-mul (x * c) hm hc
    ∙ ap₂ (λ (q : ℕ) (r : ℕ). (q % m) * c + r) (mul-div_cancel x hc) (mul-mod_left x c) ∙ add-zero ((x % m) * c)

module _ (j k : ℕ) (whole : j + k ≡ 64) where
  powers : 2 ^ 64 ≡ 2 ^ j * 2 ^ k
  powers = ap (λ (n : ℕ). 2 ^ n) (sym whole) ∙ pow-add 2 j k

  high_lt : (x : ℕ) → x < 2 ^ 64 → x / 2 ^ k < 2 ^ j
  high_lt x h = (div-lt_iff_lt-mul (pow_pos k)).1 (subst (λ (n : ℕ). x < n) powers h)

  -- the two shifts that make a rotation right by k places
  pub shifts : (x : ℕ) → x < 2 ^ 64 → bit_or (x / 2 ^ k) ((x * 2 ^ j) % 2 ^ 64) ≡ x / 2 ^ k + (x % 2 ^ k) * 2 ^ j
  shifts x h =
      let e : (x * 2 ^ j) % 2 ^ 64 ≡ (x % 2 ^ k) * 2 ^ j = ap (λ (n : ℕ). (x * 2 ^ j) % n) (powers ∙ mul_comm (2 ^ j) (2 ^ k)) ∙ scaled x (2 ^ k) (2 ^ j) (pow_pos k) (pow_pos j) in
      ap (bit_or (x / 2 ^ k)) e ∙ or_shifted_r (x % 2 ^ k) j (x / 2 ^ k) (high_lt x h) ∙ add_comm ((x % 2 ^ k) * 2 ^ j) (x / 2 ^ k)

  -- the same two, as a rotation left by j places makes them
  pub shifts_left : (x : ℕ) → x < 2 ^ 64 → bit_or ((x * 2 ^ j) % 2 ^ 64) (x / 2 ^ k) ≡ x / 2 ^ k + (x % 2 ^ k) * 2 ^ j
  shifts_left x h = or_comm ((x * 2 ^ j) % 2 ^ 64) (x / 2 ^ k) ∙ shifts x h

  pub turned_lt : (x : ℕ) → x < 2 ^ 64 → x / 2 ^ k + (x % 2 ^ k) * 2 ^ j < 2 ^ 64
  turned_lt x h =
      subst (λ (n : ℕ). n < 2 ^ 64) (add_comm ((x % 2 ^ k) * 2 ^ j) (x / 2 ^ k))
      (subst (λ (n : ℕ). (x % 2 ^ k) * 2 ^ j + x / 2 ^ k < n) (sym powers) (mul-add-lt (x % 2 ^ k) (2 ^ j) (x / 2 ^ k) (2 ^ k) (mod_below x (2 ^ k) (pow_pos k)) (high_lt x h)))

  -- k places and then j more
  pub turned_on : (x : ℕ) → x < 2 ^ 64 → (x / 2 ^ k + (x % 2 ^ k) * 2 ^ j) / 2 ^ j + ((x / 2 ^ k + (x % 2 ^ k) * 2 ^ j) % 2 ^ j) * 2 ^ k ≡ x
  turned_on x h =
      let q : ℕ = x / 2 ^ k in
      let r : ℕ = x % 2 ^ k in
      let low = high_lt x h in
      let swap : q + r * 2 ^ j ≡ r * 2 ^ j + q = add_comm q (r * 2 ^ j) in
      ap₂ (λ (a : ℕ) (b : ℕ). a + b * 2 ^ k) (ap (λ (n : ℕ). n / 2 ^ j) swap ∙ div-mul-add r (2 ^ j) q low) (ap (λ (n : ℕ). n % 2 ^ j) swap ∙ mod-mul-add r (2 ^ j) q low)
      ∙ add_comm r (q * 2 ^ k) ∙ div-add-mod' x (2 ^ k)
