-- What an unsettled read knows once its checks have passed. Assumes nothing.
use Rattle.std.specs.Prelude.{◌≡◌, refl, Bool, true, false, cond, ◌&&◌, List, [], ◌∷◌, ◌++◌, ℕ, ◌+◌, ◌-◌, ◌/◌, ◌≤◌, ◌<◌}
use Rattle.std.specs.Prelude.{eqb, length, drop, replicate}
use Rattle.std.proofs.Common.{sym, ap₂, subst, ◌∙◌, div-lt_iff_lt-mul, mul-le-mul, arith, length-drop, take-append-drop}
use Rattle.std.proofs.Common.{length-take-le, eqb-true}
use Rattle.std.proofs.Math.Path.{ap}
use Rattle.lists.specs.Lists.{every}
use Rattle.lists.specs.Sorts.{ranked_ordered}
use Rattle.rules.specs.declared.Pair.{Pair}
use Rattle.rules.specs.declared.Session.{Session}
use Rattle.rules.specs.Tables.{Table, most_rows, ahead, HasRows}
use Rattle.rules.specs.Widths.{rows_less, has_rows}
use Rattle.rules.proofs.Ranking.{ahead_strict}
use Rattle.rules.specs.Session.{no_pair, places, held_pairs, settled}
use Rattle.rules.specs.Read.{field_next, old_depth, new_depth}
use Rattle.rules.specs.Calls.{is_zeros, rows_code, new_block_code_by, new_block_code}
use Rattle.lists.specs.Bools.{and_left, and_right}
use Rattle.session_laws.specs.Record.{RecordFits}
use Rattle.session_laws.specs.Calls.{Lent}
use Rattle.session_laws.specs.Read.{unsettled_out, next_unread}
use Rattle.choosing.specs.Ready.{Ready}

-- rows of the table that is read, and the depth of the other one
abbrev pub own_rows : Bool → Session → ℕ
own_rows field s = cond field s.rows.field.0 s.rows.trim.0

abbrev pub other_depth : Bool → Session → ℕ
other_depth field s = cond field s.depth.trim.0 s.depth.field.0

-- what a read knows of the two tables: rows are left of the one that is read, and the slices have the rows
pub record Due (field : Bool) (f t : Table) (s : Session) : Type 0 where
  pub ready : Ready s
  pub left : old_depth field s < own_rows field s
  pub few : own_rows field s ≤ most_rows
  pub rows : HasRows (cond field f t) (own_rows field s)
  pub other_few : other_depth field s ≤ most_rows
  pub other_rows : HasRows (cond field t f) (other_depth field s)
  pub joined : s.joined ≤ 4294836225

-- ---- The places beyond the held pairs

zero_pair : (p : Pair) → is_zeros p ≡ true → p ≡ no_pair
zero_pair p h =
    let a = eqb p.sum 0 in
    let b = eqb p.field 0 in
    let c = eqb p.trim 0 in
    let x = eqb-true p.sum 0 (and_left a (b && c) h) in
    let y = eqb-true p.field 0 (and_left b c (and_right a (b && c) h)) in
    let z = eqb-true p.trim 0 (and_right b c (and_right a (b && c) h)) in
    λ i. record { sum = x i; field = y i; trim = z i }

all_zeros : (l : List Pair) → every is_zeros l ≡ true → l ≡ replicate (length l) no_pair
unfolding every
all_zeros [] h = refl
all_zeros (p ∷ l) h =
    ap₂ (λ (q : Pair) (m : List Pair). q ∷ m) (zero_pair p (and_left (is_zeros p) (every is_zeros l) h))
    (all_zeros l (and_right (is_zeros p) (every is_zeros l) h))

held_count : (s : Session) → RecordFits s → length s.pairs ≡ 64 → length (held_pairs s) ≡ s.held
held_count s fits n = length-take-le s.held s.pairs (omega (arith, fits.room, fits.query.k.1))

zeros_beyond : (s : Session) → RecordFits s → length s.pairs ≡ 64 → s.pairs ≡ places (held_pairs s)
unfolding places
zeros_beyond s fits n =
    let c = held_count s fits n in
    let e : length (drop s.held s.pairs) ≡ 64 - length (held_pairs s) =
    omega (arith, length-drop s.held s.pairs) in
    sym (take-append-drop s.held s.pairs)
    ∙ ap (λ (m : List Pair). held_pairs s ++ m)
    (all_zeros (drop s.held s.pairs) fits.zeros ∙ ap (λ (i : ℕ). replicate i no_pair) e)

-- ---- An unsettled session over its tables

module _ (f t : Table) (s : Session) (l : Lent f t s) (n : length s.pairs ≡ 64) (h : settled f t s ≡ false) where
  ready : Ready s
  ready =
      let fits = l.fits in
      let more : s.out ≡ s.query.k → ⊥ = (unsettled_out f t s h).wanted in
      record {
        query = fits.query;
        card = fits.card;
        room = fits.room;
        wanted = omega (arith, fits.room);
        count = held_count s fits n;
        zeros = zeros_beyond s fits n;
        order = ranked_ordered ahead ahead_strict (held_pairs s) fits.rank;
      }

  blocks_few : (block depth : ℕ) → 1 ≤ block → depth ≤ most_rows → (depth + block - 1) / block ≤ most_rows
  blocks_few block depth b k =
      let less : (depth + block - 1) / block < 65536 = (div-lt_iff_lt-mul b).1 (omega arith) in
      omega arith

  joined_few : s.joined ≤ 4294836225
  joined_few =
      let fits = l.fits in
      let block = fits.query.block.0 in
      let x =
      blocks_few s.query.block s.depth.field.0 block (omega (arith, fits.field.few, fits.field.within)) in
      let y =
      blocks_few s.query.block s.depth.trim.0 block (omega (arith, fits.trim.few, fits.trim.within)) in
      omega (arith, fits.joined, mul-le-mul x y)

  -- of the table that is read next
  pub due : (b : Bool) → b ≡ field_next f t s → Due b f t s
  due b e =
      let unread = next_unread f t s (unsettled_out f t s h) l.fits.field.within l.fits.trim.within in
      go b (subst (λ c. old_depth c s < own_rows c s) (sym e) unread)
    where
      go : (b : Bool) → old_depth b s < own_rows b s → Due b f t s
      go true left =
          record {
            ready = ready;
            left = left;
            few = l.fits.field.few;
            rows = has_rows f s.rows.field.0 (omega (arith, l.field.count));
            other_few = omega (arith, l.fits.trim.few, l.fits.trim.within);
            other_rows = has_rows t s.depth.trim.0 (omega (arith, l.trim.count, l.fits.trim.within));
            joined = joined_few;
          }
      go false left =
          record {
            ready = ready;
            left = left;
            few = l.fits.trim.few;
            rows = has_rows t s.rows.trim.0 (omega (arith, l.trim.count));
            other_few = omega (arith, l.fits.field.few, l.fits.field.within);
            other_rows = has_rows f s.depth.field.0 (omega (arith, l.field.count, l.fits.field.within));
            joined = joined_few;
          }

-- ---- The new block

module _ (f t : Table) (s : Session) (b : Bool) where
  -- it lies within its table
  pub new_inside : Due b f t s
      → (old_depth b s ≤ new_depth b s) × (new_depth b s ≤ most_rows) × HasRows (cond b f t) (new_depth b s)
  new_inside d =
      let low : new_depth b s ≤ own_rows b s = omega (arith, d.left) in
      (omega (arith, d.left), omega (arith, d.few), rows_less (cond b f t) (new_depth b s) (own_rows b s) low d.rows)

  -- what 6 and 7 say of it is the rule's
  pub code_is : b ≡ field_next f t s → (own : Table) (d e : ℕ) → own ≡ cond b f t → d ≡ old_depth b s → e
      ≡ new_depth b s
      → rows_code own d (e - d) ≡ new_block_code f t s
  unfolding new_block_code_by
  code_is next own d e x y z =
      (λ i. rows_code (x i) (y i) (z i - y i))
      ∙ ap (λ (c : Bool). rows_code (cond c f t) (old_depth c s) (new_depth c s - old_depth c s)) next
