-- A volume is a card of what it shows, and its count, read, write and power-up are those of that card.
use Rattle.std.proofs.Common.{◌≡◌, ℕ, ◌<◌, ◌≤◌, Bool, true, false, ◌⊎◌, List, length, Ok, Err, Result, sym, ap, ◌∙◌, subst, inl, inr, ⊎_elim, arith}
use Rattle.std.proofs.lemmas.Bool.{cases_lt}
use Rattle.refusal.specs.declared.Refusal.{Refusal}
use Rattle.refusal.specs.declared.Refusal.TheVariants.{WrongLength, PowerOff, OutOfRange}
use Rattle.refusal.specs.Numbers.{numbered}
use Rattle.refusal.proofs.Numbering.{numbers_differ}
use Rattle.octets.specs.Little.{Bytes}
use Rattle.card.specs.Meaning.{Meaning, Sector, Sound, count, at, put, off}
use Rattle.card.specs.Calls as card
use Rattle.card.specs.Calls.{Refused}
use Rattle.law.specs.Suites.{Suite, Proper}
use Rattle.law.specs.States.{State, Steady, storing, last, trailer, place, key_at}
use Rattle.law.specs.Shown.{counted, shown_at, as_card}
use Rattle.law.specs.Calls.{Reply, Counted, Read, Wrote, PowersUp, read_into, KeptIfRefused}
use Rattle.law.proofs.Sealing.{opened_sector}
use Rattle.law.proofs.Finds.{below_count}
use Rattle.showing.proofs.Live.{live, key_bytes, data_sector, shown_length, shown_one}
use Rattle.showing.proofs.Quiet.{off_kept, on_kept}
use Rattle.showing.proofs.Writing.{written, new_shows}

-- a refusal of one of the three numbers of a card
refused_by :
    {P Q R : Type 0} (e : Refusal)
    → ((numbered e ≡ 1) × P) ⊎ (((numbered e ≡ 2) × Q) ⊎ ((numbered e ≡ 3) × R)) → Refused e P Q R
refused_by {P} {Q} {R} e (inl h) = subst (λ (x : Refusal). Refused x P Q R) (sym (numbers_differ e WrongLength h.0)) h.1
refused_by {P} {Q} {R} e (inr (inl h)) = subst (λ (x : Refusal). Refused x P Q R) (sym (numbers_differ e PowerOff h.0)) h.1
refused_by {P} {Q} {R} e (inr (inr h)) = subst (λ (x : Refusal). Refused x P Q R) (sym (numbers_differ e OutOfRange h.0)) h.1

not_below : (n k : ℕ) → (n < k → ⊥) → k ≤ n
not_below n k h = ⊎_elim (λ (l : n < k). absurd (h l)) (λ (l : k ≤ n). l) (cases_lt n k)

-- two cards with one power
same_card : (ss zs : List (List ℕ)) (b : Bool) → ss ≡ zs → ◌≡◌ {A = Meaning} (record { sectors = ss; power = b }) (record { sectors = zs; power = b })
same_card ss zs b e = ap (λ (xs : List (List ℕ)). record { sectors = xs; power = b }) e

module _ (c : Suite) (v w : State) where
  same : w ≡ v → as_card c w ≡ as_card c v
  same e = ap (as_card c) e

  dark : w ≡ storing v (off v.store) → as_card c w ≡ off (as_card c v)
  dark e = ap (as_card c) e ∙ same_card _ _ false (off_kept c v v.store)

  in_card : (n : ℕ) → n < counted c v → n < count (as_card c v)
  in_card n l = subst (λ (k : ℕ). n < k) (sym (shown_length c v)) l

  past_card : (n : ℕ) → (n < counted c v → ⊥) → count (as_card c v) ≤ n
  past_card n h = subst (λ (k : ℕ). k ≤ n) (sym (shown_length c v)) (not_below n (counted c v) h)

  pub power_up_card : (r : Reply) → PowersUp c v r w → card.PoweredUp (as_card c v) (as_card c w) r
  power_up_card (Ok a) h = ap (as_card c) h ∙ same_card _ _ true (on_kept c v)
  power_up_card (Err e) h = refused_by e (inr (inl (h.0, dark h.1)))

  pub count_card : (r : Result ℕ Refusal) → Counted c v r w → card.Counted (as_card c v) (as_card c w) r
  count_card (Ok n) ((_, lit, _), (is, e)) = (lit, same e, is ∙ sym (shown_length c v))
  count_card (Err e) (inl (unmet, _)) = absurd unmet
  count_card (Err e) (inr (inl (_, two, is))) = refused_by e (inr (inl (two, dark is)))
  count_card (Err e) (inr (inr (_, _, unmet, _))) = absurd unmet

  module _ (n : ℕ) (before after : List ℕ) where
    pub read_card :
        (r : Reply) → Read c v n (length before) (read_into r after) w → KeptIfRefused r before after
        → card.ReadAt (as_card c v) (as_card c w) n before after r
    read_card (Ok a) (((long, _), lit, (l, _)), (is, e)) _ = (long, lit, in_card n l, same e, is ∙ sym (shown_one c v n l))
    read_card (Err e) (inl (inl (short, one), is)) k = refused_by e (inl (one, (short, same is, k)))
    read_card (Err e) (inl (inr (_, none), _)) k = absurd none
    read_card (Err e) (inr (inl ((long, _), two, is))) k = refused_by e (inr (inl (two, (long, dark is, k))))
    read_card (Err e) (inr (inr ((long, _), lit, inl (past, three), is))) k =
        refused_by e (inr (inr (three, (long, lit, past_card n past, same is, k))))
    read_card (Err e) (inr (inr (_, _, inr (_, none), _))) k = absurd none

module _ (c : Suite) (p : Proper c) (v w : State) (s : Steady v) (n : ℕ) (b : List ℕ) (bytes : Bytes (length b) b) where
  abbrev m : Meaning
  m = written c v n b

  sector : length b ≡ 520 → Sector b
  sector long = subst (λ (k : ℕ). Bytes k b) long bytes

  pub write_card : (took : Bool) (r : Reply) → Wrote c v n b took r w → card.WroteAt (as_card c v) (as_card c w) n b r
  write_card true (Ok a) (((long, _), lit, (l, _)), _, is) =
      (long, lit, in_card c v w n l, ap (as_card c) is ∙ same_card _ _ v.store.power (new_shows c p v s n b l (sector long)))
  write_card false (Ok a) h = absurd h
  write_card true (Err e) (((long, _), lit, (l, _)), two, is) =
      let new : as_card c w ≡ off (put (as_card c v) n b) = ap (as_card c) is ∙ same_card _ _ false (off_kept c v m ∙ new_shows c p v s n b l (sector long)) in
      refused_by e (inr (inl (two, (long, inr (lit, in_card c v w n l, (b, (sector long, new)))))))
  write_card false (Err e) (inl (inl (short, one), is)) = refused_by e (inl (one, (short, same c v w is)))
  write_card false (Err e) (inl (inr (_, none), _)) = absurd none
  write_card false (Err e) (inr (inl ((long, _), two, is))) = refused_by e (inr (inl (two, (long, inl (dark c v w is)))))
  write_card false (Err e) (inr (inr ((long, _), lit, inl (past, three), is))) =
      refused_by e (inr (inr (three, (long, lit, past_card c v w n past, same c v w is))))
  write_card false (Err e) (inr (inr (_, _, inr (_, none), _))) = absurd none

module _ (c : Suite) (p : Proper c) (v : State) (s : Steady v) where
  shown_sector : (i : ℕ) → i < counted c v → Sector (shown_at c v i)
  shown_sector i h =
      let b = below_count c v i h in
      let l = live c v s b.valid b.fit in
      opened_sector c p (key_at c v i) i (at v.store (place v (trailer v).reach i)) (key_bytes c v s l i) (data_sector c v s l i b.less)

  few : counted c v ≤ last v.store
  few =
      ⊎_elim
      (λ (h : 0 < counted c v).
      let b = below_count c v 0 h in
      let l = live c v s b.valid b.fit in
      let room = l.room in
      let counts = l.counts in
      omega arith)
      (λ (h : counted c v ≤ 0). omega arith)
      (cases_lt 0 (counted c v))

  pub card_sound : Sound (as_card c v)
  card_sound =
      let long = shown_length c v in
      let store = s.store.few in
      let room = few in
      record {
        few = omega arith;
        each = λ i h. let l : i < counted c v = subst (λ (k : ℕ). i < k) long h in subst Sector (sym (shown_one c v i l)) (shown_sector i l);
      }
