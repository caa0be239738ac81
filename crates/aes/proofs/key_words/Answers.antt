use Rattle.std.proofs.Common.{◌≡◌, ℕ, ◌+◌, ◌*◌, ◌/◌, List, [], length, take, drop, get_or, ap, ◌∙◌, arith, rules}
use Rattle.std.proofs.lemmas.List.FromFn.{fill_by_all}
use Rattle.std.specs.Simd.{first_chunks}
use Rattle.octets.specs.Little.{le_number}
use Rattle.aes.specs.Aes.{expanded}
use Rattle.aes.proofs.Chunks.{chunk_at, chunk_number}
use Rattle.aes.proofs.Made.{made_from}
use Rattle.aes.proofs.key_words.Goals as goal

pub returns : goal.returns
unfolding expanded
returns c =
    let bytes : List ℕ = c.args.bytes.now in
    let chunks : List (List ℕ) = c.as_chunks.result.0.now in
    let eight : length bytes / 4 ≡ 8 = omega arith in
    let made = c.from_fn.ensures.items in
    fill_by_all (λ i. le_number (take 4 (drop (4 * i) bytes))) c.from_fn.result 8 0 made.long (λ k h.
    made_from _ _ (λ i word. word ≡ get_or (get_or chunks i []) 0 0 + get_or (get_or chunks i []) 1 0 * 256 + get_or (get_or chunks i []) 2 0 * 65536 + get_or (get_or chunks i []) 3 0 * 16777216)
    c.from_fn.result (λ i word q called. search rules) 0 8 made.each k 0 (omega arith) h
    ∙ chunk_number bytes (get_or chunks k []) k (ap (λ cs. get_or cs k []) (c.as_chunks.ensures.front ∙ ap (λ n. first_chunks 4 n bytes) eight) ∙ chunk_at 4 8 bytes k [] h))
