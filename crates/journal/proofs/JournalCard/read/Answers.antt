use Rattle.std.proofs.Common.{◌∙◌, arith}
use Rattle.journal.proofs.Places.{read_shows}
use Rattle.journal.proofs.JournalCard.read.Goals as goal

pub returns-clause-shows : goal.returns-clause-shows
returns-clause-shows g c =
    let m = g.C.Card.meaning in
    let counted = c.in_ok-layout.ensures in
    let looked = c.in_ok-pending.ensures in
    read_shows (m c.args.self.now.card) (m c.pending.new.self.card) _ c.args.n c.place.result c.args.buf.now c.read.new.buf
    c.read.result (looked.1 ∙ counted.1) (omega arith) (c.place.ensures ∙ (cc)) c.read.ensures
