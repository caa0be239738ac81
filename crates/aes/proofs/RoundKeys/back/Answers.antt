use Rattle.std.proofs.Common.{◌≡◌, ℕ, ◌+◌, ◌-◌, List, get_or, sym, ap, ◌∙◌, arith, rules}
use Rattle.aes.specs.Aes.{mix_columns_back, round_key}
use Rattle.aes.specs.Words.{bytes_of, mirrored_bytes}
use Rattle.aes.specs.declared.State.{State}
use Rattle.aes.specs.Laws.{key_unmixed}
use Rattle.aes.proofs.Made.{made_from}
use Rattle.aes.proofs.Ways.{back_key_at}
use Rattle.aes.proofs.RoundKeys.back.Goals as goal

pub returns : goal.returns
returns c k h = (
  c.mirrored.ensures ∙ ap mirrored_bytes h.2,
  λ i e l.
      let full : List State = c.args.self.now.full in
      let d : State = record { a = 0; b = 0; c = 0; d = 0 } in
      let is = made_from _ _ (λ j key. bytes_of key ≡ mirrored_bytes (mix_columns_back (bytes_of (get_or full (12 - j) d)))) c.from_fn.result (λ j key q called. search rules) 0 13 c.from_fn.ensures.items.each i e (omega arith) l in
      let last : 12 - i + 1 ≡ 13 - i = omega arith in
      is ∙ ap (λ (s : List ℕ). mirrored_bytes (mix_columns_back s)) (h.1 (12 - i) d (omega arith) ∙ ap (round_key k) last)
      ∙ ap mirrored_bytes (sym (key_unmixed k (13 - i) (omega arith))) ∙ sym (back_key_at k i l),
  c.mirrored-2.ensures ∙ ap mirrored_bytes h.0,
)
