-- A volume whose trailer is valid and whose loaded keys fit it.
use Rattle.std.proofs.Common.{◌≡◌, ℕ, ◌<◌, ◌≤◌, Bool, true, cond, leb, List, [], map, length, get_or, ap, ◌∙◌, arith}
use Rattle.std.specs.List.{range_with_len}
use Rattle.std.proofs.lemmas.List.FromFn.{length-map-range_with_len, get_or-map-range_with_len, fill_by_all}
use Rattle.std.proofs.lemmas.Bool.{and_parts, and_from, leb-true}
use Rattle.octets.specs.Little.{Bytes}
use Rattle.card.specs.Meaning.{Sector, count, at}
use Rattle.trailer.specs.Trailers as trailers
use Rattle.trailer.specs.Trailers.{decode, framed}
use Rattle.trailer.proofs.Fields.{Ranged, Staged, decode_ranged, valid_says}
use Rattle.law.specs.Suites.{Suite}
use Rattle.law.specs.States.{State, Steady, last, trailer, place, valid, fit, key_at}
use Rattle.law.specs.Shown.{counted, shown_at, shown}
use Rattle.law.proofs.Finds.{key_at_is}

-- two lists made from functions that agree below n
pub same_map : (f g : ℕ → List ℕ) (n : ℕ) → ((i : ℕ) → i < n → f i ≡ g i) → map f (range_with_len 0 n) ≡ map g (range_with_len 0 n)
same_map f g n h =
    fill_by_all g (map f (range_with_len 0 n)) n [] (length-map-range_with_len f 0 n)
    (λ i l. get_or-map-range_with_len f 0 n i i [] l (omega arith) ∙ h i l)

-- a valid trailer has data sectors, and room for them before itself
valid_room : (n T : ℕ) (s : List ℕ) → trailers.valid n T s ≡ true → (1 ≤ (decode s).reach) × ((decode s).reach ≤ T)
unfolding trailers.valid
valid_room n T s e =
    let a = (and_parts (framed n s) _ e).1 in
    let b = and_parts (leb 1 (decode s).reach) _ a in
    let d = and_parts (leb (decode s).reach T) _ b.1 in
    (leb-true 1 (decode s).reach b.0, leb-true (decode s).reach T d.0)

module _ (c : Suite) (v : State) where
  pub record Live : Type 0 where
    pub some : 1 ≤ (trailer v).reach
    pub room : (trailer v).reach ≤ last v.store
    pub stage : Staged (trailer v).stage (trailer v)
    pub ranged : Ranged (trailer v)
    pub fits : fit c v ≡ true
    pub counts : counted c v ≡ (trailer v).reach

  pub live : Steady v → valid c v ≡ true → fit c v ≡ true → Live
  live s e f =
      let T = last v.store in
      let r = valid_room c.number T (at v.store T) e in
      let within : T < count v.store = omega arith in
      let sector = s.store.each T within in
      let says = valid_says c.number T (at v.store T) sector e in
      record {
        some = r.0;
        room = r.1;
        stage = says.stage;
        ranged = decode_ranged (at v.store T) sector;
        fits = f;
        counts = ap (λ (b : Bool). cond b (trailer v).reach 0) (and_from (valid c v) (fit c v) e f);
      }

  -- the list of what is shown, one by one
  pub shown_length : length (shown c v) ≡ counted c v
  unfolding shown
  shown_length = length-map-range_with_len (shown_at c v) 0 (counted c v)

  pub shown_one : (i : ℕ) → i < counted c v → get_or (shown c v) i [] ≡ shown_at c v i
  unfolding shown
  shown_one i l = get_or-map-range_with_len (shown_at c v) 0 (counted c v) i i [] l (omega arith)

  pub shown_all : (n : ℕ) → counted c v ≡ n → shown c v ≡ map (shown_at c v) (range_with_len 0 n)
  unfolding shown
  shown_all n e = ap (λ (k : ℕ). map (shown_at c v) (range_with_len 0 k)) e

  module _ (s : Steady v) (w : Live) where
    pub key_bytes : (i : ℕ) → Bytes 64 (key_at c v i)
    key_bytes i = s.keys (key_at c v i) (key_at_is c v i w.fits).0

    -- where data sector i lies: before the trailer
    pub before_last : (i : ℕ) → i < (trailer v).reach → place v (trailer v).reach i < last v.store
    before_last i l = let a = w.room in omega arith

    pub data_sector : (i : ℕ) → i < (trailer v).reach → Sector (at v.store (place v (trailer v).reach i))
    data_sector i l = let b = before_last i l in s.store.each (place v (trailer v).reach i) (omega arith)
