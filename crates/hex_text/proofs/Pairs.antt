-- Pairs of digits: one more byte of a text, and a text read back.
use Rattle.std.proofs.Common.{◌≡◌, ℕ, zero, suc, ◌+◌, ◌*◌, ◌/◌, ◌%◌, ◌<◌, ◌≤◌, List, [], ◌∷◌, ◌++◌, length, get_or, Option, Some, drop, sym, refl, ap, ◌∙◌, subst, ap₂, append_assoc, arith}
use Rattle.std.proofs.ByRecursion.{All-get_or}
use Rattle.std.proofs.lemmas.List.{append-nil, drop_all, drop_more}
use Rattle.std.proofs.lemmas.Bool.Decides.{nat_tests}
use Rattle.std.specs.List.{AllByRecursion}
use Rattle.std.specs.Option.{SomeIff}
use Rattle.std.specs.Char.{digit_char, digit_value}
use Rattle.hex_text.specs.Texts.{hex_text, hex_bytes, HexDigit, HexDigits, pair_value, Spells}

char_value : (d : ℕ) → d < 16 → digit_value (digit_char d) ≡ d
char_value d h = grind (arith, nat_tests)

high_low : (b : ℕ) → b / 16 * 16 + b % 16 ≡ b
high_low b = omega arith

pub char_ascii : (d : ℕ) → d < 16 → digit_char d < 128
char_ascii d h = grind (arith, nat_tests)

pair_of : (b : ℕ) → b < 256 → pair_value (digit_char (b / 16)) (digit_char (b % 16)) ≡ b
pair_of b h =
    let e = char_value (b / 16) (omega arith) in
    let f = char_value (b % 16) (omega arith) in
    ap₂ (λ (x y : ℕ). x * 16 + y) e f ∙ high_low b

length_text : (bs : List ℕ) → length (hex_text bs) ≡ 2 * length bs
length_text [] = refl
length_text (b ∷ bs) = let e = length_text bs in omega arith

digits_all : (bs : List ℕ) → AllByRecursion (λ b. b < 256) bs → AllByRecursion HexDigit (hex_text bs)
digits_all [] a = tt
digits_all (b ∷ bs) a =
    let h = a.0 in
    let e = char_value (b / 16) (omega arith) in
    let f = char_value (b % 16) (omega arith) in
    (subst (λ (v : ℕ). v < 16) (sym e) (omega arith), (subst (λ (v : ℕ). v < 16) (sym f) (omega arith), digits_all bs a.1))

bytes_text : (bs : List ℕ) → AllByRecursion (λ b. b < 256) bs → hex_bytes (hex_text bs) ≡ bs
bytes_text [] a = refl
bytes_text (b ∷ bs) a = ap₂ ◌∷◌ (pair_of b a.0) (bytes_text bs a.1)

-- what is encoded reads back
pub spelt : (bs : List ℕ) → AllByRecursion (λ b. b < 256) bs → Spells (hex_text bs) bs
spelt bs a = record {
  even = let e = length_text bs in omega arith;
  digits = λ k h. All-get_or HexDigit (hex_text bs) k 0 h (digits_all bs a);
  bytes_are = sym (bytes_text bs a);
}

-- a byte more is encoded
pub text_step : (xs done mid more : List ℕ) (i : ℕ) → i < length xs → hex_text xs ≡ done ++ hex_text (drop i xs)
    → mid ≡ done ++ digit_char (get_or xs i 0 / 16) ∷ [] → more ≡ mid ++ digit_char (get_or xs i 0 % 16) ∷ []
    → hex_text xs ≡ more ++ hex_text (drop (i + 1) xs)
text_step xs done mid more i h inv e f =
    let a : ℕ = digit_char (get_or xs i 0 / 16) in
    let b : ℕ = digit_char (get_or xs i 0 % 16) in
    let rest : List ℕ = hex_text (drop (i + 1) xs) in
    inv ∙ ap (λ (t : List ℕ). done ++ hex_text t) (drop_more xs i 0 h)
    ∙ sym (ap (λ (t : List ℕ). t ++ rest) (f ∙ ap (λ (t : List ℕ). t ++ b ∷ []) e) ∙ append_assoc (done ++ a ∷ []) (b ∷ []) rest ∙ append_assoc done (a ∷ []) (b ∷ rest))

pub text_all : (xs done : List ℕ) (i : ℕ) → length xs ≤ i → hex_text xs ≡ done ++ hex_text (drop i xs) → done ≡ hex_text xs
text_all xs done i h inv = sym (inv ∙ ap (λ (t : List ℕ). done ++ hex_text t) (drop_all i xs h) ∙ append-nil done)

-- what is done and the rest make the whole text: what the rest spells comes after what is done, and where each character of the whole is a digit, so is each of the rest
pub record Goes (text rest done : List ℕ) : Type 0 where
  pub even : length rest % 2 ≡ 0
  pub on : (more : List ℕ) → Spells rest more → Spells text (done ++ more)
  pub all : HexDigits text → HexDigits rest

-- each of the first two is a digit, and so are the others
two_digits : (a b : ℕ) (rest : List ℕ) → HexDigit a → HexDigit b → HexDigits rest → HexDigits (a ∷ b ∷ rest)
two_digits a b rest h k d zero l = h
two_digits a b rest h k d (suc zero) l = k
two_digits a b rest h k d (suc (suc i)) l = d i (omega arith)

pub goes_first : (text : List ℕ) → length text % 2 ≡ 0 → Goes text text []
goes_first text e = record { even = e; on = λ more h. h; all = λ h. h }

-- a pair of digits more is decoded
goes_on : (text rest done two next more : List ℕ) (byte : ℕ) → Goes text rest done → rest ≡ two ++ next → length two ≡ 2
    → (HexDigit (get_or two 0 0) × HexDigit (get_or two 1 0)) × (byte ≡ pair_value (get_or two 0 0) (get_or two 1 0)) → more ≡ done ++ byte ∷ [] → Goes text next more
goes_on text rest done [] next more byte g e l d m = absurd (let z : ⊥ = omega arith in z)
goes_on text rest done (a ∷ []) next more byte g e l d m = absurd (let z : ⊥ = omega arith in z)
goes_on text rest done (a ∷ b ∷ c ∷ two) next more byte g e l d m = absurd (let z : ⊥ = omega arith in z)
goes_on text rest done (a ∷ b ∷ []) next more byte g e l d m =
    let even : length (a ∷ b ∷ next) % 2 ≡ 0 = subst (λ (t : List ℕ). length t % 2 ≡ 0) e g.even in record {
      even = omega arith;
      on = λ rests h. subst (Spells text) (sym (ap (λ (t : List ℕ). t ++ rests) m ∙ append_assoc done (byte ∷ []) rests))
          (g.on (byte ∷ rests) (subst (λ (t : List ℕ). Spells t (byte ∷ rests)) (sym e)
          (record { even = even; digits = two_digits a b next d.0.0 d.0.1 h.digits; bytes_are = ap₂ ◌∷◌ d.1 h.bytes_are })));
      all = λ h k l'. subst HexDigits e (g.all h) (suc (suc k)) (omega arith);
    }

pub goes_more : (text rest done two next more : List ℕ) (read : Option ℕ) (byte : ℕ) → Goes text rest done → rest ≡ two ++ next → length two ≡ 2
    → SomeIff read (HexDigit (get_or two 0 0) × HexDigit (get_or two 1 0)) (pair_value (get_or two 0 0) (get_or two 1 0)) → read ≡ Some byte → more ≡ done ++ byte ∷ [] → Goes text next more
goes_more text rest done two next more read byte g e l d is m =
    goes_on text rest done two next more byte g e l
    (subst (λ (o : Option ℕ). SomeIff o (HexDigit (get_or two 0 0) × HexDigit (get_or two 1 0)) (pair_value (get_or two 0 0) (get_or two 1 0))) is d) m

pub goes_end : (text rest done : List ℕ) → Goes text rest done → length rest < 2 → Spells text done
goes_end text [] done g l = subst (Spells text) (append-nil done) (g.on [] (record { even = refl; digits = λ k h. absurd (let z : ⊥ = omega arith in z); bytes_are = refl }))
goes_end text (a ∷ []) done g l = let e = g.even in absurd (let z : ⊥ = omega arith in z)
goes_end text (a ∷ b ∷ rest) done g l = absurd (let z : ⊥ = omega arith in z)
