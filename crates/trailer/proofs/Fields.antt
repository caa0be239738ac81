-- The bytes of a trailer's sector and its fields: what is put as a trailer is read back, and is valid.
use Rattle.std.proofs.Common.{◌≡◌, ℕ, zero, suc, ◌+◌, ◌<◌, ◌≤◌, Bool, true, false, cond, not, ◌&&◌, eqb, leb, List, [], ◌∷◌, ◌++◌, length, get_or, take, drop, replicate, sym, refl, ap, ◌∙◌, ap₂, arith, length-append}
use lib.ListN.{length-replicate}
use Rattle.std.specs.Str.{bytes_eq}
use Rattle.std.specs.List.{AllByRecursion}
use Rattle.std.proofs.lemmas.Slice.Eq.{bytes_eq-Decides}
use Rattle.std.proofs.lemmas.List.{append_assoc, take_all, take_at, drop_at}
use Rattle.std.proofs.lemmas.Bool.{and_parts, and_from, eq-eqb, eqb-true, le-leb, leb-true, not-true, false≢true}
use Rattle.std.proofs.lemmas.Bool.Decides.{not_from_Decides, Decides-not}
use Rattle.octets.specs.Little.{Bytes, le_bytes, all_are}
use Rattle.octets.proofs.Lists.{of_all, part_bytes, append_bytes}
use Rattle.octets.proofs.Numbers.{le_bytes_bytes, number_bytes, number_lt}
use Rattle.trailer.specs.declared.stage.Stage.{Stage}
use Rattle.trailer.specs.declared.stage.Stage.TheVariants.{Resting, Changing}
pub use Rattle.trailer.specs.Theorems.{Ranged, Staged}
use Rattle.trailer.specs.Theorems.{EncodingStays}
use Rattle.trailer.specs.Stages.{stage_number}
use Rattle.trailer.specs.Trailers.{Fields, encode, decode, field, framed, staged, valid}

zero_each : (n : ℕ) → AllByRecursion (λ b. b < 256) (replicate n 0)
zero_each zero = tt
zero_each (suc n) = (omega arith, zero_each n)

zero_bytes : (n : ℕ) → Bytes n (replicate n 0)
zero_bytes n = of_all n (replicate n 0) (length-replicate n 0) (zero_each n)

pub zeros : Bytes 16 (replicate 16 0)
zeros = zero_bytes 16

-- a part of a sector, and its number
pub field_bytes : (from n : ℕ) (s : List ℕ) → from + n ≤ 520 → Bytes 520 s → Bytes n (field from n s)
field_bytes from n s h b = part_bytes from n 520 s h b

pub decode_ranged : (s : List ℕ) → Bytes 520 s → Ranged (decode s)
unfolding decode
decode_ranged s b = record {
  reach = number_lt 4 (field 460 4 s) (field_bytes 460 4 s (omega arith) b);
  watermark = number_lt 4 (field 464 4 s) (field_bytes 464 4 s (omega arith) b);
  first = field_bytes 472 16 s (omega arith) b;
  second = field_bytes 488 16 s (omega arith) b;
  label = field_bytes 504 16 s (omega arith) b;
}

pub stage_back : (x : Stage) → cond (eqb (stage_number x) 0) Resting Changing ≡ x
stage_back Resting = refl
stage_back Changing = refl

-- the last two fields
second_back : (f s l : List ℕ) (a b : ℕ) → length f ≡ a → length s ≡ b → take b (drop a (f ++ (s ++ l))) ≡ s
second_back f s l a b x y = ap (take b) (drop_at f (s ++ l) a x) ∙ take_at s l b y

label_back : (f s l : List ℕ) (a b : ℕ) → length (f ++ s) ≡ a → length l ≡ b → take b (drop a (f ++ (s ++ l))) ≡ l
label_back f s l a b x y =
    ap (λ xs. take b (drop a xs)) (sym (append_assoc f s l)) ∙ ap (take b) (drop_at (f ++ s) l a x) ∙ take_all b l (omega arith)

pub decode_encode : (n : ℕ) (t : Fields) → Ranged t → decode (encode n t) ≡ t
unfolding decode encode
decode_encode n t r =
    let long : length (t.first ++ t.second) ≡ 32 = length-append t.first t.second ∙ omega (arith, r.first.0, r.second.0) in
    λ i. record {
      stage = stage_back t.stage i;
      reach = number_bytes 4 t.reach r.reach i;
      watermark = number_bytes 4 t.watermark r.watermark i;
      first = take_at t.first (t.second ++ t.label) 16 r.first.0 i;
      second = second_back t.first t.second t.label 16 16 r.first.0 r.second.0 i;
      label = label_back t.first t.second t.label 32 16 long r.label.0 i;
    }

stage_small : (x : Stage) → stage_number x < 256
stage_small Resting = omega arith
stage_small Changing = omega arith

head_bytes : (n : ℕ) (x : Stage) → n < 256 → Bytes 4 (n ∷ stage_number x ∷ 1 ∷ 0 ∷ [])
head_bytes n x h = of_all 4 (n ∷ stage_number x ∷ 1 ∷ 0 ∷ []) refl (h, (stage_small x, (omega arith, (omega arith, tt))))

pub encode_sector : (n : ℕ) (t : Fields) → n < 256 → Ranged t → Bytes 520 (encode n t)
unfolding encode
encode_sector n t h r =
    let checks = t.first ++ (t.second ++ t.label) in
    let gap = replicate 4 0 ++ checks in
    let watermark = le_bytes 4 t.watermark ++ gap in
    let reach = le_bytes 4 t.reach ++ watermark in
    let head : List ℕ = n ∷ stage_number t.stage ∷ 1 ∷ 0 ∷ [] in
    append_bytes 456 64 (replicate 456 0) (head ++ reach) (zero_bytes 456)
    (append_bytes 4 60 head reach (head_bytes n t.stage h)
    (append_bytes 4 56 (le_bytes 4 t.reach) watermark (le_bytes_bytes 4 t.reach)
    (append_bytes 4 52 (le_bytes 4 t.watermark) gap (le_bytes_bytes 4 t.watermark)
    (append_bytes 4 48 (replicate 4 0) checks (zero_bytes 4)
    (append_bytes 16 32 t.first (t.second ++ t.label) r.first (append_bytes 16 16 t.second t.label r.second r.label))))))

-- a run of zeros, as a test and as a list
pub all_are_run : (v : ℕ) (xs : List ℕ) → all_are v xs ≡ true → xs ≡ replicate (length xs) v
all_are_run v [] h = refl
all_are_run v (x ∷ xs) h =
    let p = and_parts (eqb x v) (all_are v xs) h in
    ap₂ ◌∷◌ (eqb-true x v p.0) (all_are_run v xs p.1)

pub run_all_are : (v n : ℕ) → all_are v (replicate n v) ≡ true
run_all_are v zero = refl
run_all_are v (suc n) = and_from (eqb v v) (all_are v (replicate n v)) (eq-eqb v v refl) (run_all_are v n)

-- the stage's rule, as a test and in words
staged_says : (p q : Bool) (t : Fields) → length t.second ≡ 16
    → cond p (eqb t.watermark 0 && all_are 0 t.second) (q && (leb t.watermark t.reach && not (bytes_eq t.first t.second))) ≡ true
    → Staged (cond p Resting Changing) t
staged_says true q t l h =
    let e = and_parts (eqb t.watermark 0) (all_are 0 t.second) h in
    (eqb-true t.watermark 0 e.0, all_are_run 0 t.second e.1 ∙ ap (λ (n : ℕ). replicate n 0) l)
staged_says false true t l h =
    let e = and_parts (leb t.watermark t.reach) (not (bytes_eq t.first t.second)) h in
    let low = leb-true t.watermark t.reach e.0 in
    (omega arith, not_from_Decides (bytes_eq t.first t.second) (bytes_eq-Decides t.first t.second) (not-true (bytes_eq t.first t.second) e.1))
staged_says false false t l h = absurd (false≢true h)

staged_new : (x : Stage) (t : Fields) → Staged x t → staged (stage_number x) t ≡ true
staged_new Resting t h =
    and_from (eqb t.watermark 0) (all_are 0 t.second) (eq-eqb t.watermark 0 h.0) (ap (all_are 0) h.1 ∙ run_all_are 0 16)
staged_new Changing t h =
    let low = h.0 in
    and_from (leb t.watermark t.reach) (not (bytes_eq t.first t.second)) (le-leb t.watermark t.reach (omega arith))
    ((Decides-not (bytes_eq t.first t.second) (bytes_eq-Decides t.first t.second)).1 h.1)

-- what a valid trailer says
pub record Says (n T : ℕ) (s : List ℕ) : Type 0 where
  pub some : 1 ≤ (decode s).reach
  pub room : (decode s).reach ≤ T
  pub stage : Staged (decode s).stage (decode s)

stage_says : (s : List ℕ) → Bytes 520 s → staged (get_or s 457 0) (decode s) ≡ true → Staged (decode s).stage (decode s)
unfolding decode
stage_says s b h = staged_says (eqb (get_or s 457 0) 0) (eqb (get_or s 457 0) 1) (decode s) (field_bytes 488 16 s (omega arith) b).0 h

pub valid_says : (n T : ℕ) (s : List ℕ) → Bytes 520 s → valid n T s ≡ true → Says n T s
unfolding valid
valid_says n T s b h =
    let p = (and_parts (framed n s) (leb 1 (decode s).reach && (leb (decode s).reach T && staged (get_or s 457 0) (decode s))) h).1 in
    let q = and_parts (leb 1 (decode s).reach) (leb (decode s).reach T && staged (get_or s 457 0) (decode s)) p in
    let r = and_parts (leb (decode s).reach T) (staged (get_or s 457 0) (decode s)) q.1 in
    record { some = leb-true 1 (decode s).reach q.0; room = leb-true (decode s).reach T r.0; stage = stage_says s b r.1 }

pub valid_from : (n T : ℕ) (s : List ℕ) → framed n s ≡ true → 1 ≤ (decode s).reach → (decode s).reach ≤ T → staged (get_or s 457 0) (decode s) ≡ true → valid n T s ≡ true
unfolding valid
valid_from n T s f a b h =
    and_from (framed n s) (leb 1 (decode s).reach && (leb (decode s).reach T && staged (get_or s 457 0) (decode s))) f
    (and_from (leb 1 (decode s).reach) (leb (decode s).reach T && staged (get_or s 457 0) (decode s)) (le-leb 1 (decode s).reach a)
    (and_from (leb (decode s).reach T) (staged (get_or s 457 0) (decode s)) (le-leb (decode s).reach T b) h))

encode_framed : (n : ℕ) (t : Fields) → framed n (encode n t) ≡ true
unfolding encode
encode_framed n t = and_from (eqb n n) true (eq-eqb n n refl) refl

encode_stage : (n : ℕ) (t : Fields) → get_or (encode n t) 457 0 ≡ stage_number t.stage
unfolding encode
encode_stage n t = refl

pub valid_new : (n T : ℕ) (t : Fields) → Ranged t → 1 ≤ t.reach → t.reach ≤ T → Staged t.stage t → valid n T (encode n t) ≡ true
valid_new n T t r a b h =
    let e = decode_encode n t r in
    valid_from n T (encode n t) (encode_framed n t) (rw e a) (rw e b) (rw (e, encode_stage n t) (staged_new t.stage t h))

pub encoding_stays : EncodingStays
encoding_stays n T t h r a b x = record { sector = encode_sector n t h r; valid = valid_new n T t r a b x; back = decode_encode n t r }
