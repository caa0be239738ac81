-- Multiplication in the field is linear, and the two matrices undo each other.
use Rattle.std.proofs.Common.{◌≡◌, ℕ, zero, suc, ◌+◌, ◌-◌, ◌*◌, ◌/◌, ◌%◌, ◌<◌, cond, eqb, List, [], map, get_or, sym, refl, ap, ◌∙◌, ap₂, add-zero, one-mul, zero-add, zero-mul, arith}
use Rattle.std.specs.List.{range_with_len}
use Rattle.std.proofs.lemmas.List.FromFn.{get_or-map-range_with_len}
use lib.Bits.{bit_xor, xor_assoc, xor_self, xor_zero_r, xor_zero_l, xor_comm, xor_lt, xor_block, xor_shr}
use Rattle.aes_tables.specs.Field.{times2, mul_low, mul}
use Rattle.aes_tables.specs.Columns.{at, each_byte, sum4, entry, row_times, mix, mix_back}
use Rattle.aes_tables.proofs.Tests.{byte_entry, byte_bound}

swap : (a b c d : ℕ) → bit_xor (bit_xor a b) (bit_xor c d) ≡ bit_xor (bit_xor a c) (bit_xor b d)
swap a b c d =
    xor_assoc a b (bit_xor c d) ∙ ap (bit_xor a) (sym (xor_assoc b c d) ∙ ap (λ (x : ℕ). bit_xor x d) (xor_comm b c) ∙ xor_assoc c b d)
    ∙ sym (xor_assoc a c (bit_xor b d))

double_xor : (a b : ℕ) → bit_xor a b * 2 ≡ bit_xor (a * 2) (b * 2)
double_xor a b =
    let e : bit_xor (a * 2 + 0) (b * 2 + 0) ≡ bit_xor a b * 2 + 0 = xor_block 1 a b 0 0 (omega arith) (omega arith) in
    sym (simp add-zero at e)

bit_times : (p q m : ℕ) → p < 2 → q < 2 → bit_xor p q * m ≡ bit_xor (p * m) (q * m)
bit_times zero q m h k = ap (λ (x : ℕ). x * m) (xor_zero_l q) ∙ sym (rw (let z : 0 * m ≡ 0 = omega arith in z) (xor_zero_l (q * m)))
bit_times (suc zero) zero m h k = rw (let z : 0 * m ≡ 0 = omega arith in z) (sym (xor_zero_r (1 * m)))
bit_times (suc zero) (suc zero) m h k = let z : 0 * m ≡ 0 = omega arith in z ∙ sym (xor_self (1 * m))
bit_times (suc zero) (suc (suc q)) m h k = absurd (let z : ⊥ = omega arith in z)
bit_times (suc (suc p)) q m h k = absurd (let z : ⊥ = omega arith in z)

times2_xor : (a b : ℕ) → a < 256 → b < 256 → times2 (bit_xor a b) ≡ bit_xor (times2 a) (times2 b)
times2_xor a b h k =
    ap₂ bit_xor (double_xor a b) (ap (λ (x : ℕ). x * 0x11b) (xor_shr a b 7) ∙ bit_times (a / 128) (b / 128) 0x11b (omega arith) (omega arith))
    ∙ swap (a * 2) (b * 2) (a / 128 * 0x11b) (b / 128 * 0x11b)

times_bit : (p a b : ℕ) → p < 2 → p * bit_xor a b ≡ bit_xor (p * a) (p * b)
times_bit zero a b h = simp zero-mul
times_bit (suc zero) a b h = simp one-mul
times_bit (suc (suc p)) a b h = absurd (let z : ⊥ = omega arith in z)

times2_lt : (a : ℕ) → a < 256 → times2 a < 256
unfolding each_byte
times2_lt = byte_bound times2 refl

mul_low_xor : (n a b c : ℕ) → a < 256 → b < 256 → mul_low n (bit_xor a b) c ≡ bit_xor (mul_low n a c) (mul_low n b c)
mul_low_xor zero a b c h k = refl
mul_low_xor (suc n) a b c h k =
    let e : c % 2 < 2 = omega arith in
    ap₂ bit_xor (times_bit (c % 2) a b e) (ap (λ (x : ℕ). mul_low n x (c / 2)) (times2_xor a b h k) ∙ mul_low_xor n (times2 a) (times2 b) (c / 2) (times2_lt a h) (times2_lt b k))
    ∙ swap (c % 2 * a) (c % 2 * b) (mul_low n (times2 a) (c / 2)) (mul_low n (times2 b) (c / 2))

pub mul_xor : (a b c : ℕ) → a < 256 → b < 256 → mul (bit_xor a b) c ≡ bit_xor (mul a c) (mul b c)
unfolding mul
mul_xor a b c = mul_low_xor 8 a b c

mul_sum4 : (k a b c d : ℕ) → a < 256 → b < 256 → c < 256 → d < 256 → mul (sum4 a b c d) k ≡ sum4 (mul a k) (mul b k) (mul c k) (mul d k)
mul_sum4 k a b c d ha hb hc hd =
    mul_xor (bit_xor a b) (bit_xor c d) k (xor_lt 8 a b ha hb) (xor_lt 8 c d hc hd) ∙ ap₂ bit_xor (mul_xor a b k ha hb) (mul_xor c d k hc hd)

sum4_xor : (a b c d e f g h : ℕ) → sum4 (bit_xor a e) (bit_xor b f) (bit_xor c g) (bit_xor d h) ≡ bit_xor (sum4 a b c d) (sum4 e f g h)
sum4_xor a b c d e f g h = ap₂ bit_xor (swap a e b f) (swap c g d h) ∙ swap (bit_xor a b) (bit_xor e f) (bit_xor c d) (bit_xor g h)

-- rows summed and columns summed
turned : (a b c d e f g h i j k l o p q r : ℕ)
    → sum4 (sum4 a b c d) (sum4 e f g h) (sum4 i j k l) (sum4 o p q r) ≡ sum4 (sum4 a e i o) (sum4 b f j p) (sum4 c g k q) (sum4 d h l r)
turned a b c d e f g h i j k l o p q r =
    sum4_xor (bit_xor a b) (bit_xor e f) (bit_xor i j) (bit_xor o p) (bit_xor c d) (bit_xor g h) (bit_xor k l) (bit_xor q r)
    ∙ ap₂ bit_xor (sum4_xor a e i o b f j p) (sum4_xor c g k q d h l r)

pub sum4_ap : {a b c d e f g h : ℕ} → a ≡ e → b ≡ f → c ≡ g → d ≡ h → sum4 a b c d ≡ sum4 e f g h
sum4_ap p q r s = ap₂ bit_xor (ap₂ bit_xor p q) (ap₂ bit_xor r s)

pub row_ap : (cs : List ℕ) (r : ℕ) {a b c d e f g h : ℕ} → a ≡ e → b ≡ f → c ≡ g → d ≡ h → row_times cs r a b c d ≡ row_times cs r e f g h
row_ap cs r p q u v =
    sum4_ap (ap (λ (x : ℕ). mul x (entry cs r 0)) p) (ap (λ (x : ℕ). mul x (entry cs r 1)) q) (ap (λ (x : ℕ). mul x (entry cs r 2)) u) (ap (λ (x : ℕ). mul x (entry cs r 3)) v)

-- a row times a sum
pub row_xor : (cs : List ℕ) (r a b c d e f g h : ℕ) → a < 256 → b < 256 → c < 256 → d < 256 → e < 256 → f < 256 → g < 256 → h < 256
    → row_times cs r (bit_xor a e) (bit_xor b f) (bit_xor c g) (bit_xor d h) ≡ bit_xor (row_times cs r a b c d) (row_times cs r e f g h)
row_xor cs r a b c d e f g h ha hb hc hd he hf hg hh =
    sum4_ap (mul_xor a e (entry cs r 0) ha he) (mul_xor b f (entry cs r 1) hb hf) (mul_xor c g (entry cs r 2) hc hg) (mul_xor d h (entry cs r 3) hd hh)
    ∙ sum4_xor (mul a (entry cs r 0)) (mul b (entry cs r 1)) (mul c (entry cs r 2)) (mul d (entry cs r 3)) (mul e (entry cs r 0)) (mul f (entry cs r 1)) (mul g (entry cs r 2)) (mul h (entry cs r 3))

-- multiplication by each entry of a matrix keeps a byte a byte
abbrev pub Bounded : List ℕ → Type 0
Bounded cs = (k a : ℕ) → a < 256 → mul a (at cs k) < 256

pub mix_bounded : Bounded mix
unfolding each_byte mul
mix_bounded zero = byte_bound (λ a. mul a 2) refl
mix_bounded (suc zero) = byte_bound (λ a. mul a 3) refl
mix_bounded (suc (suc zero)) = byte_bound (λ a. mul a 1) refl
mix_bounded (suc (suc (suc zero))) = byte_bound (λ a. mul a 1) refl
mix_bounded (suc (suc (suc (suc k)))) = byte_bound (λ a. mul a 0) refl

pub mix_back_bounded : Bounded mix_back
unfolding each_byte mul
mix_back_bounded zero = byte_bound (λ a. mul a 14) refl
mix_back_bounded (suc zero) = byte_bound (λ a. mul a 11) refl
mix_back_bounded (suc (suc zero)) = byte_bound (λ a. mul a 13) refl
mix_back_bounded (suc (suc (suc zero))) = byte_bound (λ a. mul a 9) refl
mix_back_bounded (suc (suc (suc (suc k)))) = byte_bound (λ a. mul a 0) refl

pub row_lt : (cs : List ℕ) → Bounded cs → (r a b c d : ℕ) → a < 256 → b < 256 → c < 256 → d < 256 → row_times cs r a b c d < 256
row_lt cs small r a b c d ha hb hc hd =
    xor_lt 8 _ _ (xor_lt 8 _ _ (small ((0 + 4 - r) % 4) a ha) (small ((1 + 4 - r) % 4) b hb)) (xor_lt 8 _ _ (small ((2 + 4 - r) % 4) c hc) (small ((3 + 4 - r) % 4) d hd))

-- what row r of one matrix times column j of the other makes of a byte
abbrev pub met : List ℕ → List ℕ → ℕ → ℕ → ℕ → ℕ
met cs ds r j a =
    sum4 (mul (mul a (entry ds 0 j)) (entry cs r 0)) (mul (mul a (entry ds 1 j)) (entry cs r 1)) (mul (mul a (entry ds 2 j)) (entry cs r 2)) (mul (mul a (entry ds 3 j)) (entry cs r 3))

-- row r of the product of two matrices
pub product_row : (cs ds : List ℕ) → Bounded ds → (r a b c d : ℕ) → a < 256 → b < 256 → c < 256 → d < 256
    → row_times cs r (row_times ds 0 a b c d) (row_times ds 1 a b c d) (row_times ds 2 a b c d) (row_times ds 3 a b c d)
    ≡ sum4 (met cs ds r 0 a) (met cs ds r 1 b) (met cs ds r 2 c) (met cs ds r 3 d)
product_row cs ds small r a b c d ha hb hc hd =
    let t : ℕ → ℕ → ℕ → ℕ = λ i j x. mul (mul x (entry ds i j)) (entry cs r i) in
    let part : (i : ℕ) → mul (row_times ds i a b c d) (entry cs r i) ≡ sum4 (t i 0 a) (t i 1 b) (t i 2 c) (t i 3 d)
    = λ i. mul_sum4 (entry cs r i) (mul a (entry ds i 0)) (mul b (entry ds i 1)) (mul c (entry ds i 2)) (mul d (entry ds i 3))
    (small ((0 + 4 - i) % 4) a ha) (small ((1 + 4 - i) % 4) b hb) (small ((2 + 4 - i) % 4) c hc) (small ((3 + 4 - i) % 4) d hd) in
    sum4_ap (part 0) (part 1) (part 2) (part 3)
    ∙ turned (t 0 0 a) (t 0 1 b) (t 0 2 c) (t 0 3 d) (t 1 0 a) (t 1 1 b) (t 1 2 c) (t 1 3 d) (t 2 0 a) (t 2 1 b) (t 2 2 c) (t 2 3 d) (t 3 0 a) (t 3 1 b) (t 3 2 c) (t 3 3 d)

-- what two matrices ask that undo each other
abbrev pub Meet : List ℕ → List ℕ → Type 0
Meet cs ds = (r j a : ℕ) → r < 4 → j < 4 → a < 256 → met cs ds r j a ≡ cond (eqb r j) a 0

-- what f makes of each row, place and byte
tabled : (ℕ → ℕ → ℕ → ℕ) → List (List (List ℕ))
tabled f = map (λ r. map (λ j. each_byte (f r j)) (range_with_len 0 4)) (range_with_len 0 4)

tabled_at : (f : ℕ → ℕ → ℕ → ℕ) (r j a : ℕ) → r < 4 → j < 4 → a < 256 → get_or (get_or (get_or (tabled f) r []) j []) a 0 ≡ f r j a
unfolding tabled
tabled_at f r j a hr hj ha =
    ap (λ (t : List (List ℕ)). get_or (get_or t j []) a 0) (get_or-map-range_with_len (λ (i : ℕ). map (λ (k : ℕ). each_byte (f i k)) (range_with_len 0 4)) 0 4 r r [] hr (zero-add r))
    ∙ ap (λ (t : List ℕ). get_or t a 0) (get_or-map-range_with_len (λ (k : ℕ). each_byte (f r k)) 0 4 j j [] hj (zero-add j)) ∙ byte_entry (f r j) a 0 ha

meet_by : (cs ds : List ℕ) → tabled (met cs ds) ≡ tabled (λ r j a. cond (eqb r j) a 0) → Meet cs ds
meet_by cs ds e r j a hr hj ha =
    sym (tabled_at (met cs ds) r j a hr hj ha) ∙ ap (λ (t : List (List (List ℕ))). get_or (get_or (get_or t r []) j []) a 0) e
    ∙ tabled_at (λ (r : ℕ) (j : ℕ) (a : ℕ). cond (eqb r j) a 0) r j a hr hj ha

pub mix_met : Meet mix_back mix
unfolding tabled each_byte mul
mix_met = meet_by mix_back mix refl

pub mix_back_met : Meet mix mix_back
unfolding tabled each_byte mul
mix_back_met = meet_by mix mix_back refl
