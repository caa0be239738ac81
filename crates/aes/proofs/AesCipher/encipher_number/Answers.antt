use Rattle.std.proofs.Common.{ap, ◌∙◌}
use Rattle.aes_tables.specs.Field.{sub}
use Rattle.aes_tables.specs.Columns.{mix}
use Rattle.octets.specs.Little.{le_bytes}
use Rattle.aes.specs.Aes.{aes, schedule, round_key}
use Rattle.aes.specs.Passes.{passed_by}
use Rattle.aes.proofs.Ways.{pass_forward}
use Rattle.aes.proofs.AesCipher.encipher_number.Goals as goal

pub returns : goal.returns
unfolding aes
returns c =
    let a = c.args.self.now in
    let key = round_key (schedule a.bytes) in
    c.from-2.ensures ∙ c.pass.ensures key a.scheduled ∙ ap (passed_by sub mix key) c.from.ensures ∙ pass_forward (schedule a.bytes) (le_bytes 16 c.args.block)
