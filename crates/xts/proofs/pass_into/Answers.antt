use Rattle.std.proofs.Common.{◌≡◌, ℕ, ◌≤◌, List, length, refl, inl, inr, ⊎_elim, rules}
use Rattle.refusal.specs.Demands.{FirstUnmet}
use Rattle.std.proofs.lemmas.Result.{err_from_is_err_and}
use Rattle.xts.specs.Calls.{key_demands, call_demands}
use Rattle.xts.proofs.pass_into.Goals as goal

-- where the lengths of input and output are right, a call refuses a key for what is wrong with the key
of_key : (key input output : List ℕ) (n : ℕ) → (16 ≤ length input) × (length input ≤ 4096) → length output ≡ length input
    → FirstUnmet (key_demands key) n → FirstUnmet (call_demands key input output) n
of_key key input output n unit same =
    ⊎_elim (λ short. inl short)
    (λ long. inr (long.0, inr (unit, inr (same, ⊎_elim (λ equal. inl equal) (λ none. absurd none.1) long.1))))

pub returns-in_err-key : goal.returns-in_err-key
returns-in_err-key g c =
    let p = err_from_is_err_and c.from_residual.result c.from_residual.ensures.1 in
    rw (p.1, p.2) (of_key c.args.key.now c.args.input.now c.args.output.now _ (search rules) c.if-output-input.false c.in_err-key.ensures, refl)
