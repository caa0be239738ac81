-- What a line's words say, and what is wrong with them, from what is known of each word.
use Rattle.std.proofs.Common.{◌≡◌, ℕ, ◌+◌, List, IsErrAnd, Result, sym, subst, ⊎_elim, MatchResult}
use Rattle.std.proofs.lemmas.Result.{err_from_is_err_and}
use Rattle.units.specs.declared.fault.Expected.{Expected}
use Rattle.units.specs.declared.fault.Expected.TheVariants.{Command as noCommand, Cipher, Key, Number, Input, Result as noResult, End, Memory}
use Rattle.units.specs.declared.read.Command.{Command}
use Rattle.words.specs.Words.{word_at}
use Rattle.units.specs.Words.{command_word, input_place, InHex, Missed}
use Rattle.units.specs.Lines.{Words, Unhexed, Unexpected, Wrong}

-- the exit of a `?` hands the error on
pub exit : {T E : Type 0} (P : T → Type 0) (Q : E → Type 0) (r : Result T E) (e : E) → IsErrAnd r (λ y. y ≡ e) → Q e → MatchResult r P Q
exit P Q r e b q = let p = err_from_is_err_and r b in rw (p.1, p.2) q

pub by_missed : {X : Type 0} (Q : Expected → Type 0) (wanted : Expected) (P : X → Type 0) (e : Expected)
    → Q Memory → (((x : X) → P x → ⊥) → Q wanted) → Missed wanted P e → Q e
by_missed Q wanted P e none other missed = ⊎_elim (λ m. subst Q (sym m) none) (λ p. subst Q (sym p.0) (other p.1)) missed

pub unhexed : (word : List ℕ) (ws : Words) (at : ℕ) → word ≡ word_at ws at → ((bytes : List ℕ) → InHex word bytes → ⊥) → Unhexed ws at
unhexed word ws at e never bytes h = never bytes (subst (λ (w : List ℕ). InHex w bytes) (sym e) h)

pub wrong_end : (ws : Words) (c : Command) (e : Expected) → word_at ws 0 ≡ command_word c → Unexpected ws (input_place c + 1) e → Wrong ws e
wrong_end ws c noCommand named u = absurd u
wrong_end ws c Cipher named u = absurd u
wrong_end ws c Key named u = absurd u
wrong_end ws c Number named u = absurd u
wrong_end ws c Input named u = absurd u
wrong_end ws c noResult named u = (c, named, u)
wrong_end ws c End named u = (c, named, u)
wrong_end ws c Memory named u = tt
