-- Speck keeps the law of a cipher, given what is used of one round.
use Rattle.std.specs.Prelude.{◌≡◌, ℕ, List}
use Rattle.std.proofs.Common.{ap, ◌∙◌, arith}
use Rattle.octets.specs.Little.{Bytes}
use Rattle.cipher.specs.Maps.{Inverse}
use Rattle.speck.specs.Speck.{Pair, round_key, rounds, rounds_back, pair_of, block_of, speck, speck_back}
use Rattle.speck.specs.Rounds.{Turns, rounds_fit, rounds_back_fit, all_undone, all_redone}
use Rattle.speck.specs.Blocks.{pair_fit, block_pair, pair_block, block_bytes, keys_low}

undone : (t : Turns) (key block : List ℕ) → Bytes 32 key → Bytes 16 block → speck_back key (speck key block) ≡ block
unfolding speck speck_back
undone t key block hk hb =
    let ks = round_key key in
    let low = keys_low key hk in
    let f = pair_fit block hb in
    ap (λ (p : Pair). block_of (rounds_back ks 34 p)) (pair_block (rounds ks 34 (pair_of block)) (rounds_fit ks low t 34 _ (omega arith) f))
    ∙ ap block_of (all_undone ks low t 34 (pair_of block) (omega arith) f) ∙ block_pair block hb

redone : (t : Turns) (key block : List ℕ) → Bytes 32 key → Bytes 16 block → speck key (speck_back key block) ≡ block
unfolding speck speck_back
redone t key block hk hb =
    let ks = round_key key in
    let low = keys_low key hk in
    let f = pair_fit block hb in
    ap (λ (p : Pair). block_of (rounds ks 34 p)) (pair_block (rounds_back ks 34 (pair_of block)) (rounds_back_fit ks low t 34 _ (omega arith) f))
    ∙ ap block_of (all_redone ks low t 34 (pair_of block) (omega arith) f) ∙ block_pair block hb

forward_block : (key block : List ℕ) → Bytes 32 key → Bytes 16 block → Bytes 16 (speck key block)
unfolding speck
forward_block key block hk hb = block_bytes _

back_block : (key block : List ℕ) → Bytes 32 key → Bytes 16 block → Bytes 16 (speck_back key block)
unfolding speck_back
back_block key block hk hb = block_bytes _

pub inverse_by : Turns → Inverse speck speck_back
inverse_by t = record { undone = undone t; redone = redone t; forward_block = forward_block; back_block = back_block }
