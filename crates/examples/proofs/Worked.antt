-- The examples, each by computation or by a lemma of its format.
use Rattle.std.proofs.Common.{◌≡◌, ℕ, ◌+◌, ◌-◌, ◌^◌, ◌<◌, ◌≤◌, Bool, true, false, Some, None, cond, not, ◌&&◌, eqb, ltb, ◌≢◌, List, [], ◌∷◌, ◌++◌, length, get_or, refl, ap, ◌∙◌, ⊎_elim, arith, length-append}
use Rattle.std.proofs.lemmas.List.{get_or-append_right}
use Rattle.std.proofs.lemmas.Bool.{cases_Bool, eq-eqb, and_right}
use Rattle.octets.specs.Little.{Bytes, all_are}
use Rattle.journal.specs.Slips.{two, slip_of, slip_bytes}
use Rattle.journal.specs.Journals.{raised}
use Rattle.journal.proofs.SlipBytes.{reads}
use Rattle.trailer.proofs.Fields.{Ranged, decode_encode, encode_sector, valid_says, valid_new}
use Rattle.trailer.specs.Trailers.{encode, valid}
use Rattle.examples.specs.Examples.{short_flag, changing}

not_raised : all_are 0xa5 short_flag ≡ false
not_raised = refl

pub lowered : (xs : List (List ℕ)) → raised (xs ++ (short_flag ∷ [])) ≡ false
lowered xs =
    let long : length (xs ++ (short_flag ∷ [])) ≡ length xs + 1 = length-append xs (short_flag ∷ []) in
    let end : length (xs ++ (short_flag ∷ [])) - 1 ≡ length xs = omega (arith, long) in
    let last : get_or (xs ++ (short_flag ∷ [])) (length xs) [] ≡ short_flag =
    get_or-append_right xs (short_flag ∷ []) (length xs) (length xs) [] refl (omega arith)
    ∙ ap (λ k. get_or (short_flag ∷ []) k []) (let z : length xs - length xs ≡ 0 = omega arith in z) in
    ap (λ k. all_are 0xa5 (get_or (xs ++ (short_flag ∷ [])) k [])) end ∙ ap (all_are 0xa5) last ∙ not_raised

pub equal_targets : (limit a : ℕ) → a < 2 ^ 32 → slip_of limit (slip_bytes 2 a a) ≡ None
equal_targets limit a h =
    let no : (ltb a limit && (ltb a limit && not (eqb a a))) ≡ false =
    and_right (ltb a limit) (ltb a limit && not (eqb a a)) (and_right (ltb a limit) (not (eqb a a)) (ap not (eq-eqb a a refl))) in
    reads limit 2 a a h h ∙ ap (λ (b : Bool). cond b (Some (two a a)) None) no

pub full : (number T R : ℕ) (a b label : List ℕ) → number < 256 → 1 ≤ R → R ≤ T → T + 1 < 2 ^ 32 → Bytes 16 a → Bytes 16 b → Bytes 16 label → a ≢ b
    → (valid number T (encode number (changing R R a b label)) ≡ true) × (valid number T (encode number (changing R (R + 1) a b label)) ≡ false)
full number T R a b label n some room few ha hb hl differ =
    let over = changing R (R + 1) a b label in
    let ranged : Ranged over = record { reach = omega arith; watermark = omega arith; first = ha; second = hb; label = hl } in (
      valid_new number T (changing R R a b label) (record { reach = omega arith; watermark = omega arith; first = ha; second = hb; label = hl }) some room (omega arith, differ),
      ⊎_elim
          (λ (ok : valid number T (encode number over) ≡ true).
          let says = (valid_says number T (encode number over) (encode_sector number over n ranged) ok).stage in
          let back = decode_encode number over ranged in
          let within = rw back at says in absurd (let z : ⊥ = omega (arith, within.0) in z))
          (λ (no : valid number T (encode number over) ≡ false). no)
          (cases_Bool (valid number T (encode number over))),
    )
