-- What is read of a row, column by column. Assumes nothing.
use Rattle.std.proofs.Common.{◌≡◌, refl, sym, ap, ap₂, ◌∙◌, Bool, true, false, ◌&&◌, List, [], ◌∷◌}
use Rattle.std.proofs.Common.{ℕ, suc, ◌+◌, ◌≤◌, ◌<◌}
use Rattle.std.proofs.Common.{ℤ, pos, Option, Ok, Err, is_some, unwrap_or, add-one, arith}
use Rattle.std.proofs.Math.Bool.{and_assoc, and-true}
use Rattle.lists.specs.Lists.{every, range}
use Rattle.lists.specs.Bools.{and_left, and_out}
use Rattle.lists.specs.Appends.{every_more}
use Rattle.rules.specs.Numbers.{row_limit, row_order, bad_column, unless, first}
use Rattle.rules.specs.Tables.{width, within, coordinate_fits}
use Rattle.rules.specs.File.{columns, is_signed, column_at, column_bytes, column_start, column_fits_at, number_at}
use Rattle.rules.specs.File.{row_bytes, ends_line}
use Rattle.file_laws.specs.Columns.{start_next, signed_back, size_back, column_ends}
use Rattle.column.specs.Column.{column_held, some_fits, formed, formed_ok, formed_err}
use Rattle.codes.specs.Steps.{passed, stopped}
use Rattle.file_row.specs.declared.Row.{Row}
use Rattle.file_row.specs.Held.{follows, held_row_code, read_row_code}
use Rattle.file_row.specs.Held.{columns_held, held_column, coordinate_read, numbers_read}
use Rattle.file_row.specs.Held.{row_read, columns_row, row_held}
use Rattle.file_row.specs.Formed.{row_by_rules, row_formed}

-- what is read of the columns that every card has: pattern number, score, a and b
abbrev front_row : Option ℤ → Option ℤ → Option ℤ → Option ℤ → ℕ → Row
front_row p s a b end =
    record {
      inside = (within (pos 1) (pos 999999) (unwrap_or p (pos 0)) && within (pos 0) (pos 9999) (unwrap_or s (pos 0)))
          && (coordinate_fits 0 (unwrap_or a (pos 0)) && coordinate_fits 1 (unwrap_or b (pos 0)));
      score = unwrap_or s (pos 0);
      end = end;
    }

module _ (bytes : List ℕ) (o : ℕ) where
  -- number j of the row, its column being the one that begins at a place
  module _ (j at : ℕ) (e : at ≡ o + column_start j) where
    abbrev there : Option ℤ
    there = column_held (is_signed j) (columns bytes at (column_bytes j))

    column_told : is_some there ≡ column_fits_at bytes o j
    unfolding column_fits_at
    column_told =
        ap (λ (x : ℕ). is_some (column_held (is_signed j) (columns bytes x (column_bytes j)))) e
        ∙ some_fits (is_signed j) (column_at bytes o j)

    column_read : unwrap_or there (pos 0) ≡ held_column bytes o j
    unfolding held_column
    column_read = ap (λ (x : ℕ). unwrap_or (column_held (is_signed j) (columns bytes x (column_bytes j))) (pos 0)) e

  -- an answer is put together of whether the columns are formed, and of what is read
  pub columns_told : (n : ℕ) (fits : Bool) (row : Row) → fits ≡ columns_held (width n) bytes o
      → row ≡ row_read n bytes o → formed fits row ≡ columns_row n bytes o
  unfolding columns_row
  columns_told n fits row f r = ap₂ formed f r

  -- the columns that every card has, put together
  module _ (p s a b : Option ℤ)
      (ep : p ≡ column_held false (columns bytes o 6))
      (es : s ≡ column_held false (columns bytes (o + 6) 6))
      (ea : a ≡ column_held true (columns bytes (o + 12) 7))
      (eb : b ≡ column_held true (columns bytes (o + 19) 7)) where
    first_place : o ≡ o + column_start 0
    unfolding column_start
    first_place = omega arith

    front_fits : ((is_some p && is_some s) && is_some a) && is_some b ≡ columns_held (width 2) bytes o
    unfolding columns_held column_start every range
    front_fits =
        let ep₀ = ap is_some ep ∙ column_told 0 o first_place in
        let es₀ = ap is_some es ∙ column_told 1 (o + 6) refl in
        let ea₀ = ap is_some ea ∙ column_told 2 (o + 12) refl in
        let eb₀ = ap is_some eb ∙ column_told 3 (o + 19) refl in
        simp (ep₀, es₀, ea₀, eb₀, and_assoc, and-true)

    front_read : front_row p s a b (o + 26) ≡ row_read 2 bytes o
    unfolding numbers_read coordinate_read column_start every range
    front_read =
        let number : Option ℤ → ℤ = λ x. unwrap_or x (pos 0) in
        let ep₀ = ap number ep ∙ column_read 0 o first_place in
        let es₀ = ap number es ∙ column_read 1 (o + 6) refl in
        let ea₀ = ap number ea ∙ column_read 2 (o + 12) refl in
        let eb₀ = ap number eb ∙ column_read 3 (o + 19) refl in
        simp (ep₀, es₀, ea₀, eb₀, and-true)

    pub front_told : formed (((is_some p && is_some s) && is_some a) && is_some b) (front_row p s a b (o + 26))
        ≡ columns_row 2 bytes o
    front_told = columns_told 2 _ _ front_fits front_read

  -- one column more, behind b
  module _ (k : ℕ) (row : Row) (h : 2 ≤ k) (read : row ≡ row_read k bytes o) where
    place : row.end ≡ o + column_start (k + 2)
    place = ap (λ (r : Row). r.end) read

    there_back : column_held false (columns bytes row.end 6) ≡ there (k + 2) row.end place
    there_back = rw (signed_back (k + 2) (omega arith))

    pub back_fits : (n : ℕ) → k < n → row.end + 6 + 1 ≤ o + row_bytes n
    unfolding row_bytes
    back_fits n l =
        omega (arith, place, size_back (k + 2) (omega arith), column_ends (k + 2) (width n) (omega arith))

    module _ (x : Option ℤ) (held : x ≡ column_held false (columns bytes row.end 6)) where
      pub back_told : columns_held (width k) bytes o && is_some x ≡ columns_held (width (k + 1)) bytes o
      unfolding columns_held
      back_told =
          let j : k + 1 + 2 ≡ suc (k + 2) = omega arith in
          let told = ap is_some (held ∙ there_back) ∙ column_told (k + 2) row.end place in
          ap (λ (b : Bool). columns_held (width k) bytes o && b) told
          ∙ sym (ap (λ (m : ℕ). columns_held m bytes o) j ∙ every_more (column_fits_at bytes o) (k + 2))

      pub back_read :
          record {
            inside = row.inside && coordinate_fits k (unwrap_or x (pos 0));
            score = row.score;
            end = row.end + 6;
          } ≡ row_read (k + 1) bytes o
      unfolding numbers_read coordinate_read
      back_read =
          let j : k + 1 + 2 ≡ suc (k + 2) = omega arith in
          let pattern = within (pos 1) (pos 999999) (held_column bytes o 0) in
          let score = within (pos 0) (pos 9999) (held_column bytes o 1) in
          let number : unwrap_or x (pos 0) ≡ held_column bytes o (k + 2) =
          ap (λ (y : Option ℤ). unwrap_or y (pos 0)) (held ∙ there_back) ∙ column_read (k + 2) row.end place in
          let end : row.end + 6 ≡ o + column_start (k + 1 + 2) =
          omega (arith, place, ap column_start j, start_next (k + 2), size_back (k + 2) (omega arith)) in
          let inside : row.inside && coordinate_fits k (unwrap_or x (pos 0)) ≡ numbers_read (k + 1) bytes o =
          ap₂ (λ (a b : Bool). a && b) (ap (λ (r : Row). r.inside) read) (ap (coordinate_fits k) number)
          ∙ and_assoc (pattern && score) (every (coordinate_read bytes o) (range 0 k)) (coordinate_read bytes o k)
          ∙ ap (λ (b : Bool). (pattern && score) && b) (sym (every_more (coordinate_read bytes o) k))
          ∙ ap (λ (m : ℕ). (pattern && score) && every (coordinate_read bytes o) (range 0 m)) (sym (add-one k)) in
          λ i. record { inside = inside i; score = (ap (λ (r : Row). r.score) read) i; end = end i }

  module _ (n : ℕ) (row : Row) where
    pub columns_ok : columns_row n bytes o ≡ Ok row
        → (columns_held (width n) bytes o ≡ true) × (row ≡ row_read n bytes o)
    unfolding columns_row
    columns_ok = formed_ok row (columns_held (width n) bytes o) (row_read n bytes o)

    pub columns_err : columns_row n bytes o ≡ Err row
        → (columns_held (width n) bytes o ≡ false) × (row ≡ row_read n bytes o)
    unfolding columns_row
    columns_err = formed_err row (columns_held (width n) bytes o) (row_read n bytes o)

    -- LF follows the columns
    pub row_ends : columns_row n bytes o ≡ Ok row → o + row_bytes n ≡ row.end + 1
    unfolding row_bytes
    row_ends h = omega (arith, ap (λ (r : Row). r.end) (columns_ok h).1)

    pub none_told : columns_row n bytes o ≡ Err row → Err row ≡ row_held n bytes o
    unfolding row_held
    none_told h = let c = columns_err h in rw (c.0) (ap Err (c.1))

    pub line_told : columns_row n bytes o ≡ Ok row → formed (ends_line bytes row.end) row ≡ row_held n bytes o
    unfolding row_held
    line_told h =
        let c = columns_ok h in
        rw (c.0) (ap (λ (r : Row). formed (ends_line bytes r.end) r) (c.1))

    -- what is read of columns that are formed is what the rules say
    pub row_some : columns_row n bytes o ≡ Ok row
        → (columns_held (width n) bytes o ≡ true) × (row_by_rules n bytes o ≡ row)
    row_some h = let c = columns_ok h in (c.0, sym (c.1 ∙ row_formed n bytes o c.0))

    -- the checks of what was read of columns that are formed: LF comes first
    pub read_code : (before : Option ℤ) → columns_row n bytes o ≡ Ok row →
        first
        (unless (ends_line bytes row.end) bad_column
        ∷ unless row.inside row_limit
        ∷ unless (follows before row.score) row_order
        ∷ []) ≡ held_row_code n bytes o before
    unfolding held_row_code
    read_code before h =
        let r = row_some h in
        let of : Row → ℕ = λ x.
        first
        (unless (ends_line bytes x.end) bad_column
        ∷ unless x.inside row_limit
        ∷ unless (follows before x.score) row_order
        ∷ []) in
        sym (ap of r.1) ∙ rw r.0

    -- those of a row that is formed, LF and all, and of one that is not
    abbrev row_fits : Bool
    row_fits = columns_held (width n) bytes o && ends_line bytes (o + column_start (width n))

    row_ok : row_held n bytes o ≡ Ok row → (row_fits ≡ true) × (row ≡ row_by_rules n bytes o)
    unfolding row_held
    row_ok h =
        let r = formed_ok row row_fits (row_read n bytes o) h in
        (r.0, r.1 ∙ row_formed n bytes o (and_left (columns_held (width n) bytes o) _ r.0))

    line_ok : row_held n bytes o ≡ Ok row → (columns_row n bytes o ≡ Ok row) × (ends_line bytes row.end ≡ true)
    unfolding row_held columns_row
    line_ok h =
        let r = formed_ok row row_fits (row_read n bytes o) h in
        let parts = and_out (columns_held (width n) bytes o) (ends_line bytes (o + column_start (width n))) r.0 in
        (rw (parts.0) (ap Ok (sym r.1)), ap (λ (x : Row). ends_line bytes x.end) r.1 ∙ parts.1)

    pub read_score : row_held n bytes o ≡ Ok row → row.score ≡ number_at bytes o 1
    read_score h = ap (λ (r : Row). r.score) (row_ok h).1

    pub row_bad : (before : Option ℤ) → row_held n bytes o ≡ Err row → bad_column ≡ held_row_code n bytes o before
    unfolding held_row_code row_held
    row_bad before h = rw (formed_err row row_fits (row_read n bytes o) h).0

    pub row_good : (before : Option ℤ) → row_held n bytes o ≡ Ok row
        → read_row_code row before ≡ held_row_code n bytes o before
    unfolding read_row_code
    row_good before h = simp (line_ok h).1 at (read_code before (line_ok h).0)

-- the steps of reading a row
pub ruleset read_steps = (row_ends, none_told)

-- those of checking it
pub ruleset number_steps = (passed, stopped)

pub ruleset check_steps = (row_bad, row_good, read_score)
