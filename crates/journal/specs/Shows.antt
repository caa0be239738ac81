-- What a journal shows, place by place.
use Rattle.std.specs.Prelude.{◌≡◌, ℕ, ◌-◌, ◌<◌, Some, None, Option, List, [], length, get_or, take, slice_index_or, slice_set, refl}
use Rattle.std.proofs.Common.{◌∙◌, inl, inr, arith}
use Rattle.std.proofs.lemmas.List.{length-set, get_or-take, get_or-set_same, get_or-set_other, length-take-le}
use Rattle.std.proofs.lemmas.Bool.{ne_eqb, eq-eqb, cases_eq}
use Rattle.card.specs.Meaning.{Meaning, Sound}
use Rattle.journal.specs.declared.slip.Targets.{Targets}
use Rattle.journal.specs.Slips.{one}
use Rattle.journal.specs.Journals.{over_second, overlay, shown, journal_of, pending_of}
use Rattle.journal.specs.Steps.{past_second, place_of}

second_length : (s : Option ℕ) (y : List ℕ) (zs : List (List ℕ)) → length (over_second s y zs) ≡ length zs
second_length None y zs = refl
second_length (Some b) y zs = length-set zs b y

over_length : (p : Option Targets) (x y : List ℕ) (zs : List (List ℕ)) → length (overlay p x y zs) ≡ length zs
over_length None x y zs = refl
over_length (Some t) x y zs = second_length t.second y (slice_set zs t.first x) ∙ length-set zs t.first x

pub shown_length : (xs : List (List ℕ)) → length (shown xs) ≡ length xs - 4
unfolding shown
shown_length xs =
    over_length (pending_of xs) (slice_index_or xs (length xs - 4) []) (slice_index_or xs (length xs - 3) []) (take (length xs - 4) xs) ∙ length-take-le (length xs - 4) xs (omega arith)

over_one : (a : ℕ) (xs : List (List ℕ)) (n : ℕ) → n < length xs - 4 → slice_index_or (slice_set (take (length xs - 4) xs) a (slice_index_or xs (length xs - 4) [])) n [] ≡ slice_index_or xs (place_of (Some (one a)) (length xs) n) []
over_one a xs n h =
    let x = get_or xs (length xs - 4) [] in
    let l = length-take-le (length xs - 4) xs (omega arith) in
    elim (cases_eq n a) [
      | inl e ↦ rw (eq-eqb n a e, e) (get_or-set_same (take (length xs - 4) xs) a x [] (omega arith))
      | inr e ↦ rw (ne_eqb n a e) (get_or-set_other (take (length xs - 4) xs) a n x [] e ∙ get_or-take (length xs - 4) xs n [] h)
    ]

over_both : (s : Option ℕ) (a : ℕ) (xs : List (List ℕ)) (n : ℕ) → n < length xs - 4 → slice_index_or (over_second s (slice_index_or xs (length xs - 3) []) (slice_set (take (length xs - 4) xs) a (slice_index_or xs (length xs - 4) []))) n [] ≡ slice_index_or xs (past_second s (length xs) n (place_of (Some (one a)) (length xs) n)) []
over_both None a xs n h = over_one a xs n h
over_both (Some b) a xs n h =
    let x = get_or xs (length xs - 4) [] in
    let y = get_or xs (length xs - 3) [] in
    let zs = take (length xs - 4) xs in
    let l = length-take-le (length xs - 4) xs (omega arith) in
    let l' = length-set zs a x in
    elim (cases_eq n b) [
      | inl e ↦ rw (eq-eqb n b e, e) (get_or-set_same (slice_set zs a x) b y [] (omega arith))
      | inr e ↦ rw (ne_eqb n b e) (get_or-set_other (slice_set zs a x) b n y [] e ∙ over_one a xs n h)
    ]

over_at : (p : Option Targets) (xs : List (List ℕ)) (n : ℕ) → n < length xs - 4 → slice_index_or (overlay p (slice_index_or xs (length xs - 4) []) (slice_index_or xs (length xs - 3) []) (take (length xs - 4) xs)) n [] ≡ slice_index_or xs (place_of p (length xs) n) []
over_at None xs n h = get_or-take (length xs - 4) xs n [] h
over_at (Some t) xs n h = over_both t.second t.first xs n h

pub shown_at : (xs : List (List ℕ)) (n : ℕ) → n < length xs - 4 → slice_index_or (shown xs) n [] ≡ slice_index_or xs (place_of (pending_of xs) (length xs) n) []
unfolding shown
shown_at xs n h = over_at (pending_of xs) xs n h

one_within : (a t n : ℕ) → n < t - 4 → place_of (Some (one a)) t n < t
one_within a t n h = elim (cases_eq n a) [ inl e ↦ rw (eq-eqb n a e) (omega arith) | inr e ↦ rw (ne_eqb n a e) (omega arith) ]

second_within : (s : Option ℕ) (a t n : ℕ) → n < t - 4 → past_second s t n (place_of (Some (one a)) t n) < t
second_within None a t n h = one_within a t n h
second_within (Some b) a t n h = elim (cases_eq n b) [ inl e ↦ rw (eq-eqb n b e) (omega arith) | inr e ↦ rw (ne_eqb n b e) (one_within a t n h) ]

pub place_within : (p : Option Targets) (t n : ℕ) → n < t - 4 → place_of p t n < t
place_within None t n h = omega arith
place_within (Some p) t n h = second_within p.second p.first t n h

pub journal_sound : (m : Meaning) → Sound m → Sound (journal_of m)
journal_sound m h = record {
  few = let e = shown_length m.sectors in omega (arith, h.few);
  each = λ n l.
      let k : n < length m.sectors - 4 = omega (arith, shown_length m.sectors) in
      rw (shown_at m.sectors n k) (h.each _ (place_within (pending_of m.sectors) (length m.sectors) n k));
}
