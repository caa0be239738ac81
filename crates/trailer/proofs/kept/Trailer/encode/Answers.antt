use Rattle.std.proofs.Common.{ℕ, List, [], ◌∷◌, ◌++◌, length, replicate, refl, ap, ◌∙◌, ap₂, arith, rules}
use Rattle.trailer.specs.Stages.{stage_number}
use Rattle.trailer.specs.Trailers.{encode}
use Rattle.octets.proofs.Numbers.{bytes4_is}
use Rattle.trailer.proofs.Places.{all_laid}
use Rattle.trailer.proofs.kept.Trailer.encode.Goals as goal

pub returns : goal.returns
unfolding encode
returns c =
    let t = c.args.self.now in
    let head : ℕ → List ℕ = λ n. replicate 456 0 ++ (c.args.cipher ∷ n ∷ 1 ∷ 0 ∷ []) in
    let rest = replicate 4 0 ++ (t.first ++ (t.second ++ t.label)) in
    let reach = c.to_le_bytes.ensures ∙ bytes4_is t.reach in
    let watermark = c.to_le_bytes-2.ensures ∙ bytes4_is t.watermark in
    all_laid (head c.into.result) c.to_le_bytes.result c.to_le_bytes-2.result t.first t.second t.label refl (ap length reach) (ap length watermark)
    (omega arith) (omega arith) (omega arith) _ c.put.new.s c.put-2.new.s c.put-3.new.s c.put-4.new.s c.put-5.new.s refl
    (search rules) (search rules) (search rules) (search rules) (search rules)
    ∙ ap (λ n. head n ++ (c.to_le_bytes.result ++ (c.to_le_bytes-2.result ++ rest))) c.into.ensures
    ∙ ap₂ (λ a b. head (stage_number t.stage) ++ (a ++ (b ++ rest))) reach watermark
