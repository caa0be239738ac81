use Rattle.std.proofs.Common.{◌++◌, ap, ap₂, ◌∙◌}
use Rattle.octets.specs.Little.{le_bytes}
use Rattle.aes_tables.proofs.Places.{unmixed_bytes}
use Rattle.aes.proofs.State.unmixed.Goals as goal

pub returns : goal.returns
returns c =
    let s = c.args.self in
    ap₂ ◌++◌ (ap (le_bytes 4) c.unmixed_word.ensures ∙ unmixed_bytes s.a)
    (ap₂ ◌++◌ (ap (le_bytes 4) c.unmixed_word-2.ensures ∙ unmixed_bytes s.b)
    (ap₂ ◌++◌ (ap (le_bytes 4) c.unmixed_word-3.ensures ∙ unmixed_bytes s.c) (ap (le_bytes 4) c.unmixed_word-4.ensures ∙ unmixed_bytes s.d)))
