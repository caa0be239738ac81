-- A read of the place where a sector lies is a read of what the journal shows.
use Rattle.std.proofs.Common.{◌≡◌, ℕ, ◌-◌, ◌<◌, List, Ok, Err, Result, sym, ap, ◌∙◌, subst, arith}
use Rattle.refusal.specs.declared.Refusal.{Refusal}
use Rattle.card.specs.Meaning.{Meaning, count, at}
use Rattle.card.proofs.Refusals.{refused_map}
use Rattle.card.specs.Calls.{ReadAt}
use Rattle.journal.specs.Journals.{journal_of, pending_of}
use Rattle.journal.specs.Steps.{place_of}
use Rattle.journal.specs.Shows.{shown_length, shown_at, place_within}

shows : (m n : Meaning) (k j : ℕ) (b d : List ℕ) (r : Result (Unit {0}) Refusal) → k < count m - 4 → j ≡ place_of (pending_of m.sectors) (count m) k → ReadAt m n j b d r → ReadAt (journal_of m) (journal_of n) k b d r
shows m n k j b d (Ok _) h e w =
    (w.0, w.1, (let l = shown_length m.sectors in omega arith), ap journal_of w.3, w.4 ∙ ap (at m) e ∙ sym (shown_at m.sectors k h))
shows m n k j b d (Err x) h e w =
    refused_map x (λ w. (w.0, ap journal_of w.1, w.2)) (λ w. (w.0, ap journal_of w.1, w.2))
    (λ w. let l = place_within (pending_of m.sectors) (count m) k h in let c = w.2 in absurd (omega arith)) w

pub read_shows : (m o n : Meaning) (k j : ℕ) (b d : List ℕ) (r : Result (Unit {0}) Refusal) → o ≡ m → k < count m - 4 → j ≡ place_of (pending_of m.sectors) (count m) k → ReadAt o n j b d r → ReadAt (journal_of m) (journal_of n) k b d r
read_shows m o n k j b d r q h e w = shows m n k j b d r h e (subst (λ (z : Meaning). ReadAt z n j b d r) q w)
