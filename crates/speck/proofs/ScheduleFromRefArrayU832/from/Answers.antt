use Rattle.std.proofs.Common.{◌∙◌, refl}
use Rattle.speck.proofs.KeyWords.{chunk_words}
use Rattle.speck.proofs.ScheduleFromRefArrayU832.from.Goals as goal

pub returns : goal.returns
returns c =
    let w = chunk_words c.args.key.now _ c.told-key c.as_chunks.ensures.front in
    rw (c.from_le_bytes.ensures ∙ w.0, c.from_le_bytes-2.ensures ∙ w.1, c.from_le_bytes-3.ensures ∙ w.2, c.from_le_bytes-4.ensures ∙ w.3) refl
