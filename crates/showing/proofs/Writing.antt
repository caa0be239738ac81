-- A write shows its bytes in its sector, and keeps every other.
use Rattle.std.proofs.Common.{◌≡◌, ℕ, ◌+◌, ◌-◌, ◌<◌, Bool, cond, ◌&&◌, ◌≢◌, List, [], length, get_or, set, Ok, Err, sym, ap, ◌∙◌, subst, ap₂, inl, inr, ⊎_elim, arith, length-set, get_or-set_other, get_or-set_same, ext_get_or}
use Rattle.std.proofs.lemmas.Bool.{cases_eq}
use Rattle.octets.specs.Little.{Bytes}
use Rattle.card.specs.Meaning.{Meaning, Sector, at, put}
use Rattle.trailer.specs.Trailers as trailers
use Rattle.trailer.specs.Trailers.{decode, named}
use Rattle.law.specs.Suites.{Suite, Proper, sealed, opened}
use Rattle.law.specs.States.{State, Steady, storing, last, trailer, place, fitting, key_of, key_at}
use Rattle.law.specs.Shown.{counted, shown_at, shown}
use Rattle.law.specs.Calls.{Reply, Met, buffer_demands, number_demands, Wrote}
use Rattle.law.proofs.Sealing.{opened_sealed}
use Rattle.law.proofs.Finds.{below_count}
use Rattle.showing.specs.Showing.{ShowsWritten}
use Rattle.showing.proofs.Live.{live, key_bytes, before_last, shown_length, shown_one}
use Rattle.showing.proofs.Quiet.{put_done, put_refused}

-- the store that a write puts
abbrev pub written : Suite → State → ℕ → List ℕ → Meaning
written c v n b = put v.store (place v (trailer v).reach n) (sealed c (key_at c v n) n b)

module _ (c : Suite) (p : Proper c) (v : State) (s : Steady v) (n : ℕ) (b : List ℕ) (in_count : n < counted c v) (sector : Sector b) where
  abbrev reach : ℕ
  reach = (trailer v).reach

  abbrev here : ℕ
  here = place v reach n

  abbrev bytes : List ℕ
  bytes = sealed c (key_at c v n) n b

  abbrev u : State
  u = storing v (written c v n b)

  below : n < reach
  below = (below_count c v n in_count).less

  before_trailer : here < last v.store
  before_trailer =
      let i = below_count c v n in_count in
      before_last c v s (live c v s i.valid i.fit) n i.less

  key : Bytes 64 (key_at c v n)
  key = let i = below_count c v n in_count in key_bytes c v s (live c v s i.valid i.fit) n

  same_last : last u.store ≡ last v.store
  same_last = ap (λ (k : ℕ). k - 1) (length-set v.store.sectors here bytes)

  elsewhere : (k : ℕ) → k ≢ here → at u.store k ≡ at v.store k
  elsewhere k off = get_or-set_other v.store.sectors here k bytes [] off

  -- the trailer's sector is as it was
  at_last : at u.store (last u.store) ≡ at v.store (last v.store)
  at_last = let l = before_trailer in ap (at u.store) same_last ∙ elsewhere (last v.store) (omega arith)

  same_count : counted c u ≡ counted c v
  same_count =
      ap₂ (λ (k : ℕ) (x : List ℕ). cond (trailers.valid c.number k x && fitting c v.keys (decode x)) (decode x).reach 0) same_last at_last

  one_is : (i : ℕ) → shown_at c u i ≡ opened c (key_at c v i) i (at u.store (place v reach i))
  one_is i =
      ap₂ (λ (k : ℕ) (x : List ℕ). opened c (key_of c v (named (decode x) i)) i (at u.store (k - (decode x).reach + i))) same_last at_last

  here_is : shown_at c u n ≡ b
  here_is =
      let l = before_trailer in
      one_is n
      ∙ ap (opened c (key_at c v n) n) (get_or-set_same v.store.sectors here bytes [] (omega arith))
      ∙ opened_sealed c p (key_at c v n) n b key sector

  others_are : (i : ℕ) → i ≢ n → shown_at c u i ≡ shown_at c v i
  others_are i off = one_is i ∙ ap (opened c (key_at c v i) i) (elsewhere (place v reach i) (λ e. off (omega arith)))

  pub new_shows : shown c u ≡ set (shown c v) n b
  new_shows =
      let xs = shown c v in
      let long = shown_length c v in
      ext_get_or [] (shown c u) (set xs n b) (shown_length c u ∙ same_count ∙ sym long ∙ sym (length-set xs n b))
      (λ i l.
      let iu : i < counted c u = subst (λ (k : ℕ). i < k) (shown_length c u) l in
      let iv : i < counted c v = subst (λ (k : ℕ). i < k) same_count iu in
      shown_one c u i iu
      ∙ ⊎_elim
      (λ (e : i ≡ n).
      ap (shown_at c u) e ∙ here_is
      ∙ sym (ap (λ (k : ℕ). get_or (set xs n b) k []) e ∙ get_or-set_same xs n b [] (subst (λ (k : ℕ). n < k) (sym long) in_count)))
      (λ (off : i ≡ n → ⊥). others_are i off ∙ sym (shown_one c v i iv) ∙ sym (get_or-set_other xs n i b [] off))
      (cases_eq i n))

module _ (c : Suite) (p : Proper c) (v w : State) (s : Steady v) (n : ℕ) (b : List ℕ) (bytes : Bytes (length b) b) where
  new_is : Met (buffer_demands c v (length b)) (number_demands c v n) v → shown c (storing v (written c v n b)) ≡ set (shown c v) n b
  new_is ((long, _), _, (l, _)) = new_shows c p v s n b l (subst (λ (k : ℕ). Bytes k b) long bytes)

  pub write_shows : (took : Bool) (r : Reply) → Wrote c v n b took r w → ShowsWritten c v n b r w
  write_shows took (Ok a) h =
      let d = put_done c v w (buffer_demands c v (length b)) (number_demands c v n) tt (written c v n b) took a h in
      d.1 ∙ new_is d.0
  write_shows took (Err e) h =
      ⊎_elim inl
      (λ d. inr ((d.0.1, d.1), d.0.2.0, d.2 ∙ new_is d.0))
      (put_refused c v w (buffer_demands c v (length b)) (number_demands c v n) tt (written c v n b) took e h)
