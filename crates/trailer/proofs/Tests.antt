-- What each test of a sector says of whether it is valid.
use Rattle.std.proofs.Common.{◌≡◌, ℕ, ◌<◌, ◌≤◌, ◌≢◌, Bool, true, false, cond, not, ◌&&◌, eqb, leb, List, get_or, sym, refl, ap, ◌∙◌, ⊎_elim, arith}
use Rattle.std.specs.Bool.{then_some}
use Rattle.std.specs.Str.{bytes_eq}
use Rattle.std.proofs.lemmas.Bool.{and_left, and_right, cases_lt, lt-leb, ne_eqb}
use Rattle.octets.specs.Little.{Bytes, all_are}
use Rattle.trailer.specs.declared.stage.Stage.{Stage}
use Rattle.trailer.specs.declared.stage.Stage.TheVariants.{Resting, Changing}
use Rattle.trailer.specs.Stages.{stage_number}
use Rattle.trailer.specs.Trailers.{Fields, decode, framed, staged, valid, StagedAs}
use Rattle.trailer.specs.Theorems.{Staged}
use Rattle.trailer.proofs.Fields.{valid_says, stage_back}

pub second_counts : (x y z : Bool) → x ≡ true → z ≡ y → z ≡ (x && y)
second_counts x y z h e = rw (h, e) refl

pub first_counts : (x y : Bool) → x ≡ false → x ≡ (x && y)
first_counts x y h = rw h refl

pub rests_is : (x w : ℕ) (t : Fields) → x ≡ 0 → w ≡ t.watermark → (eqb w 0 && all_are 0 t.second) ≡ staged x t
rests_is x w t e f = rw (e, f) refl

pub changes_is : (x w r : ℕ) (t : Fields) → x ≡ 1 → w ≡ t.watermark → r ≡ t.reach → (leb w r && not (bytes_eq t.first t.second)) ≡ staged x t
changes_is x w r t e f g = rw (e, f, g) refl

-- a byte that is the number of no stage
pub no_stage : (x : ℕ) (t : Fields) → ((g : Stage) → stage_number g ≢ x) → staged x t ≡ false
no_stage x t h = rw (ne_eqb x 0 (λ e. h Resting (sym e)), ne_eqb x 1 (λ e. h Changing (sym e))) refl

-- the stage that was read, where the test is that of its number
pub kept_is : (s : List ℕ) (g : Stage) (kept : Bool) → stage_number g ≡ get_or s 457 0 → kept ≡ staged (get_or s 457 0) (decode s) → StagedAs s (then_some kept g)
unfolding decode
kept_is s g true e k = (sym k, sym (stage_back g) ∙ ap (λ (x : ℕ). cond (eqb x 0) Resting Changing) e)
kept_is s g false e k = sym k

pub same_fields : (t u : Fields) → t.stage ≡ u.stage → t.reach ≡ u.reach → t.watermark ≡ u.watermark → t.first ≡ u.first → t.second ≡ u.second → t.label ≡ u.label → t ≡ u
same_fields t u a b c d e f = λ i. record { stage = a i; reach = b i; watermark = c i; first = d i; second = e i; label = f i }

within : (x : Stage) (t : Fields) → Staged x t → t.watermark ≤ t.reach
within Resting t h = let e = h.0 in omega arith
within Changing t h = let low = h.0 in omega arith

module _ (n T : ℕ) (s : List ℕ) where
  pub not_framed : framed n s ≡ false → valid n T s ≡ false
  unfolding valid
  not_framed h = and_left (framed n s) (leb 1 (decode s).reach && (leb (decode s).reach T && staged (get_or s 457 0) (decode s))) h

  pub not_reaching : (1 ≤ (decode s).reach → (decode s).reach ≤ T → ⊥) → valid n T s ≡ false
  unfolding valid
  not_reaching h =
      let some = leb 1 (decode s).reach in
      let room = leb (decode s).reach T in
      let rule = staged (get_or s 457 0) (decode s) in
      and_right (framed n s) (some && (room && rule))
      (⊎_elim
      (λ (l : (decode s).reach < 1). and_left some (room && rule) (lt-leb 1 (decode s).reach l))
      (λ (l : 1 ≤ (decode s).reach). and_right some (room && rule) (and_left room rule (lt-leb (decode s).reach T (above l))))
      (cases_lt (decode s).reach 1))
    where
      above : 1 ≤ (decode s).reach → T < (decode s).reach
      above l = ⊎_elim (λ (k : T < (decode s).reach). k) (λ (k : (decode s).reach ≤ T). absurd (h l k)) (cases_lt T (decode s).reach)

  pub not_staged : staged (get_or s 457 0) (decode s) ≡ false → valid n T s ≡ false
  unfolding valid
  not_staged h =
      and_right (framed n s) (leb 1 (decode s).reach && (leb (decode s).reach T && staged (get_or s 457 0) (decode s)))
      (and_right (leb 1 (decode s).reach) (leb (decode s).reach T && staged (get_or s 457 0) (decode s))
      (and_right (leb (decode s).reach T) (staged (get_or s 457 0) (decode s)) h))

  -- no valid trailer has a watermark above its reach
  pub valid_within : Bytes 520 s → valid n T s ≡ true → (decode s).watermark ≤ (decode s).reach
  valid_within b h = within (decode s).stage (decode s) (valid_says n T s b h).stage
