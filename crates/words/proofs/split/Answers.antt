use Rattle.std.proofs.Common.{ℕ, List, sym, subst, rules, tests, ap, ◌∙◌}
use Rattle.std.proofs.lemmas.Result.{IfOk-weaker}
use Rattle.std.specs.Str.Iter.{split_whitespace_rest}
use Rattle.std.specs.Iterator.Adapters.{take_while_source}
use Rattle.words.specs.Words.{Split}
use Rattle.words.proofs.Places.{split_is}
use Rattle.words.proofs.split.Goals as goal

pub returns : goal.returns
returns c =
    let s = c.take_while.result in
    let line = ap split_whitespace_rest c.take_while.ensures.source ∙ c.split_whitespace.ensures.rest in
    IfOk-weaker c.collect.result _ _ (λ v h.
    let end = h.1.2 tt in
    let told = split_is _ _ (λ x b q k. search (rules, tests)) h.0 s h.1.0 end.0 c.take_while.ensures.closure c.take_while.ensures.done h.1.1 end.1 in
    subst (λ (l : List ℕ). Split l v.items) line (subst (Split (split_whitespace_rest (take_while_source s))) (sym h.2.0) told)) c.collect.ensures.ran
