use Rattle.std.proofs.Common.{[], ◌∷◌, refl, rules}
use Rattle.std.proofs.lemmas.Result.{err_from_is_err_and}
use Rattle.keys.specs.Rings.{suite_of}
use Rattle.volume.specs.States.{state_of}
use Rattle.volume.proofs.Loads.{refused_key}
use Rattle.volume.proofs.state.Volume.take_keys.Goals as goal

pub returns-in_err-new-in-None : goal.returns-in_err-new-in-None
returns-in_err-new-in-None g c =
    let k = g.K.LoadedKey in
    let v = state_of k g.S.Card c.args.self.now in
    let a = c.args.first.now in
    let p = err_from_is_err_and c.from_residual.result c.from_residual.ensures.1 in
    rw (p.1, p.2, c.in-None.is)
    (refused_key (suite_of k) v (a ∷ []) a _ (search rules) (λ h. h.0) (λ l. (l, tt)) (λ h. h.0) c.in_err-new-in-None.ensures, refl)

pub returns-in_err-new-in-Some : goal.returns-in_err-new-in-Some
returns-in_err-new-in-Some g c =
    let k = g.K.LoadedKey in
    let v = state_of k g.S.Card c.args.self.now in
    let a = c.args.first.now in
    let b = c.in-Some.second.now in
    let p = err_from_is_err_and c.from_residual-in_err-new-in-Some.result c.from_residual-in_err-new-in-Some.ensures.1 in
    rw (p.1, p.2, c.in-Some.is)
    (refused_key (suite_of k) v (a ∷ b ∷ []) a _ (search rules) (λ h. h.0) (λ l. (l, (search rules, tt))) (λ h. h.0) c.in_err-new-in-Some.ensures, refl)

pub returns-in_err-new-in-Some-2 : goal.returns-in_err-new-in-Some-2
returns-in_err-new-in-Some-2 g c =
    let k = g.K.LoadedKey in
    let v = state_of k g.S.Card c.args.self.now in
    let a = c.args.first.now in
    let b = c.in-Some.second.now in
    let p = err_from_is_err_and c.from_residual-in_err-new-in-Some-2.result c.from_residual-in_err-new-in-Some-2.ensures.1 in
    rw (p.1, p.2, c.in-Some.is)
    (refused_key (suite_of k) v (a ∷ b ∷ []) b _ (search rules) (λ h. h.1.0) (λ l. (search rules, (l, tt))) (λ h. h.1.0) c.in_err-new-in-Some-2.ensures, refl)
