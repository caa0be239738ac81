use Rattle.std.proofs.Common.{refl}
use Rattle.aes_tables.specs.Field.{sub, inverse, mul}
use Rattle.speck.specs.Speck.{speck, rounds, keys_at}
use Rattle.examples.proofs.Worked as worked
use Rattle.examples.proofs.examples_stand.Goals as goal

pub returns : goal.returns
unfolding sub inverse mul speck rounds keys_at
returns c = record {
  doubles = refl;
  carries = refl;
  substitutes_0 = refl;
  substitutes_53 = refl;
  enciphers = refl;
  lowered = worked.lowered;
  equal_targets = worked.equal_targets;
  full = worked.full;
}
