use Rattle.std.proofs.Common.{ℕ, List, subst}
use Rattle.aes.specs.Aes.{schedule, round_key}
use Rattle.aes.specs.Words.{KeysAre}
use Rattle.aes.proofs.AesCipher.new.Goals as goal

pub invariant_of-result : goal.invariant_of-result
invariant_of-result c =
    let keys = subst (λ (k : List ℕ). KeysAre c.new-keys.result (round_key k)) c.expand.ensures c.new-keys.ensures in
    record {
      sound = (c.told-bytes, λ k h. c.fits-bytes k);
      scheduled = keys;
      turned = c.back.ensures (schedule c.args.bytes.now) keys;
    }
