use Rattle.std.proofs.Common.{ℕ, List, ap, ◌∙◌}
use Rattle.aes_tables.specs.Field.{sub_back}
use Rattle.aes_tables.specs.Columns.{mix_back}
use Rattle.aes.specs.Aes.{aes_back, schedule}
use Rattle.aes.specs.Words.{mirrored_bytes, back_key}
use Rattle.aes.specs.Passes.{passed_by}
use Rattle.aes.proofs.Ways.{pass_back}
use Rattle.aes.proofs.AesCipher.decipher_number.Goals as goal

pub returns : goal.returns
unfolding aes_back
returns c =
    let a = c.args.self.now in
    let key = back_key (schedule a.bytes) in
    c.from-2.ensures ∙ c.mirrored-2.ensures ∙ ap mirrored_bytes (c.pass.ensures key a.turned)
    ∙ ap (λ (s : List ℕ). mirrored_bytes (passed_by sub_back mix_back key s)) (c.mirrored.ensures ∙ ap mirrored_bytes c.from.ensures)
    ∙ pass_back (schedule a.bytes) c.args.block
