use Rattle.std.proofs.Common.{◌≡◌, ℕ, ◌+◌, ◌*◌, ◌/◌, ◌<◌, List, [], length, take, drop, get_or, ap, ◌∙◌, arith, rules}
use Rattle.std.specs.Simd.{first_chunks}
use Rattle.aes_tables.specs.Columns.{at}
use Rattle.aes.specs.Aes.{four}
use Rattle.aes.specs.Words.{bytes_of}
use Rattle.aes.proofs.Chunks.{chunk_at, chunk_key}
use Rattle.aes.proofs.Made.{made_from}
use Rattle.aes.proofs.RoundKeys.new.Goals as goal

pub returns : goal.returns
returns c =
    let words : List ℕ = c.args.words.now in
    let chunks : List (List ℕ) = c.as_chunks.result.0.now in
    let chunk : ℕ → List ℕ = λ r. get_or chunks r [] in
    let key : ℕ → List ℕ = λ r. four (at (chunk r) 0) (at (chunk r) 1) (at (chunk r) 2) (at (chunk r) 3) in
    let fifteen : length words / 4 ≡ 15 = omega arith in
    let is : (r : ℕ) → r < 15 → chunk r ≡ take 4 (drop (4 * r) words) =
    λ r h. ap (λ cs. get_or cs r []) (c.as_chunks.ensures.front ∙ ap (λ n. first_chunks 4 n words) fifteen) ∙ chunk_at 4 15 words r [] h in (
      c.from.ensures ∙ chunk_key words (chunk 0) 0 (is 0 (omega arith)),
      λ i d h.
          made_from _ _ (λ j s. bytes_of s ≡ key (j + 1)) c.from_fn.result (λ j s q called. search rules) 0 13 c.from_fn.ensures.items.each i d (omega arith) h
          ∙ chunk_key words (chunk (i + 1)) (i + 1) (is (i + 1) (omega arith)),
      c.from-2.ensures ∙ chunk_key words (chunk 14) 14 (is 14 (omega arith)),
    )
