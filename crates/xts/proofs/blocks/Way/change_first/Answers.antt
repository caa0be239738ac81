use Rattle.std.proofs.Common.{ℕ, List, ◌++◌, ◌≡◌, length, take, drop, refl, ap, ◌∙◌, rules}
use Rattle.octets.specs.Little.{Bytes, le_number}
use Rattle.octets.proofs.Lists.{part_bytes}
use Rattle.xts.proofs.Steps.{masked}
use Rattle.xts.proofs.blocks.Way.change_first.Goals as goal

pub returns-in-Some : goal.returns-in-Some
returns-in-Some g c =
    let xs = c.args.unit.now in
    let all : Bytes (length xs) xs = (refl, λ k h. search rules) in
    let read : c.in-Some.block.now ≡ take 16 xs = search rules in
    ap (λ (block : List ℕ). block ++ drop 16 xs)
    (c.block_bytes.ensures ∙ masked (g.Self.Way.map c.args.cipher.now) 16 c.args.t c.block_number.result c.map.result (take 16 xs) (part_bytes 0 16 (length xs) xs c.requires all)
    (c.block_number.ensures ∙ ap le_number read) c.map.ensures)
