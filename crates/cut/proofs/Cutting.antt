-- What a write that the cut layer loses leaves.
use Rattle.std.proofs.Common.{◌≡◌, ℕ, zero, suc, ◌<◌, Bool, true, false, List, length, replicate, Some, None, Ok, Err, Option, Result, sym, refl, ap, ◌∙◌, subst, inl, inr, ⊎_elim, lit<, eq-eqb}
use Rattle.std.specs.List.{AllByRecursion}
use Rattle.refusal.specs.declared.Refusal.{Refusal}
use Rattle.refusal.specs.declared.Refusal.TheVariants.{PowerOff}
use Rattle.octets.proofs.Lists.{of_all}
use Rattle.cut.specs.declared.Script.{Script}
use Rattle.cut.specs.declared.Loss.{Loss}
use Rattle.cut.specs.declared.Loss.TheVariants.{Old, New, Junk}
use Rattle.card.specs.Meaning.{Meaning, Sector, off}
use Rattle.card.specs.Calls.{Torn, WroteAt}
use Rattle.cut.specs.Cuts.{cut_of, firing, Stepped, State, Access, junk, Left, Lost, CutWrote}
use Rattle.card.proofs.Refusals.{refused_any}

-- a step that says a loss has fired
pub step_fires : (o : Option Script) (p : Bool) (o' : Option Script) (p' : Bool) (loss : Loss) → Stepped o p o' p' (Some loss) → (firing o ≡ true) × (p' ≡ false) × (o' ≡ None)
step_fires None p o' p' loss w = absurd w
step_fires (Some s) p o' p' loss w = (eq-eqb s.left 0 w.0, w.3, w.2)

pub step_loses : (o : Option Script) (p : Bool) (o' : Option Script) (p' : Bool) (loss : Loss) (m n : Meaning) (k : ℕ) (b : List ℕ) → Stepped o p o' p' (Some loss) → Left loss m n k b → Lost o m n k b
step_loses None p o' p' loss m n k b w l = absurd w
step_loses (Some s) p o' p' loss m n k b w l = subst (λ (i : Loss). Left i m n k b) w.1 l

-- whatever a write below answers, a cut after it is a torn write
torn_by : (m n : Meaning) (k : ℕ) (b : List ℕ) (r : Result (Unit {0}) Refusal) → Sector b → WroteAt m n k b r → Torn (cut_of true m) (cut_of false n) k
torn_by m n k b (Ok _) h w = inr (w.1, w.2, (b, (h, ap (cut_of false) w.3)))
torn_by m n k b (Err e) h w =
    refused_any e (λ p. absurd (p.0 h.0))
    (λ q. ⊎_elim (λ (x : n ≡ off m). inl (ap (cut_of false) x)) (λ t. inr (t.0, t.1, (t.2.0, (t.2.1.0, ap (cut_of false) t.2.1.1)))) q.1)
    (λ r. inl (ap (cut_of false) r.3)) w

all_same : (n x : ℕ) → x < 256 → AllByRecursion (λ b. b < 256) (replicate n x)
all_same zero x h = tt
all_same (suc n) x h = (h, all_same n x h)

junk_sector : Sector junk
unfolding junk
junk_sector = of_all 520 (replicate 520 90) refl (all_same 520 90 (lit< tt))

pub torn_left : (loss : Loss) (m n : Meaning) (k : ℕ) (b : List ℕ) → Sector b → Left loss m n k b → Torn (cut_of true m) (cut_of false n) k
torn_left Old m n k b h e = inl (ap (cut_of false) e)
torn_left New m n k b h w = torn_by m n k b w.0 h w.1
torn_left Junk m n k b h w = torn_by m n k junk w.0 junk_sector w.1

-- a write that the script cuts: s before it, t after its tests, u after the script fired, v at its end
pub lost_write : (s t u v : State) (loss : Loss) (k : ℕ) (b : List ℕ) → Sector b → Access s k b → t ≡ s
    → Stepped t.script t.powered u.script u.powered (Some loss) → u.below ≡ t.below
    → (v.powered ≡ u.powered) × (v.script ≡ u.script) → Left loss u.below v.below k b
    → ((length b ≡ 520) × Torn (cut_of s.powered s.below) (cut_of v.powered v.below) k) × CutWrote s v k b (Err PowerOff)
lost_write s t u v loss k b hb a e st sm kp lf =
    let p : u.below ≡ s.below = sm ∙ ap (λ (z : State). z.below) e in
    let left : Left loss s.below v.below k b = subst (λ (m : Meaning). Left loss m v.below k b) p lf in
    let stepped : Stepped s.script s.powered u.script u.powered (Some loss) = subst (λ (z : State). Stepped z.script z.powered u.script u.powered (Some loss)) e st in
    let f = step_fires s.script s.powered u.script u.powered loss stepped in
    let gone : v.powered ≡ false = kp.0 ∙ f.1 in (
      (
        a.0,
        subst (λ (q : Bool). Torn (cut_of q s.below) (cut_of v.powered v.below) k) (sym a.1)
            (subst (λ (q : Bool). Torn (cut_of true s.below) (cut_of q v.below) k) (sym gone) (torn_left loss s.below v.below k b hb left)),
      ),
      inr (inr (inl (a, ((f.0, gone, kp.1 ∙ f.2), step_loses s.script s.powered u.script u.powered loss s.below v.below k b stepped left)))),
    )
