use Rattle.std.proofs.Common.{◌^◌, ◌<◌, rules}
use Rattle.aes.proofs.Blocks.{words_joined, words_or}
use Rattle.aes.proofs.U128FromState.from.Goals as goal

pub returns : goal.returns
returns c =
    let s = c.args.s in
    let a : s.a < 2 ^ 32 = search rules in
    let b : s.b < 2 ^ 32 = search rules in
    let x : s.c < 2 ^ 32 = search rules in
    let d : s.d < 2 ^ 32 = search rules in
    words_joined _ s.a s.b s.c s.d a b x d (rw (c.from.ensures, c.from-2.ensures, c.from-3.ensures, c.from-4.ensures) (words_or s.a s.b s.c s.d a b x d))
