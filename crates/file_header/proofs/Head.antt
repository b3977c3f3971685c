-- What is read of the header: the checks of it are the rules', and its count is the file's. Assumes nothing.
use Rattle.std.proofs.Common.{◌≡◌, sym, ap, ap₂, ◌∙◌, Bool, true, false, cond, leb, ◌&&◌, List, ℕ, ◌≤◌, ◌<◌}
use Rattle.std.proofs.Common.{length}
use Rattle.std.proofs.Common.{ℤ, pos, Option, is_some, unwrap_or, Ok, Err, le-leb}
use Rattle.std.proofs.Math.Bool.{and_assoc}
use Rattle.std.proofs.lemmas.Bool.{lt-leb}
use Rattle.rules.specs.Numbers.{cut_file, bad_column}
use Rattle.rules.specs.Tables.{nat_of}
use Rattle.rules.specs.File.{columns, header_bytes, ends_line, header_fits, file_count, kind_fits, head_code}
use Rattle.file_laws.specs.Kinds.{row_short}
use Rattle.column.specs.Column.{column_held, some_fits, formed, formed_ok, formed_err}
use Rattle.codes.specs.Steps.{passed, stopped}
use Rattle.file_header.specs.declared.Header.{Header}
use Rattle.file_header.specs.Held.{header_read, whole_header, no_header, header_held, header_code}
use Rattle.file_header.specs.Formed.{header_by_rules, header_formed}

module _ (bytes : List ℕ) where
  -- a file is long enough for a header, or too short
  held_whole : header_bytes ≤ length bytes → header_held bytes ≡ whole_header bytes
  unfolding header_held
  held_whole w = rw (le-leb header_bytes (length bytes) w)

  pub short_held : length bytes < header_bytes → Err no_header ≡ header_held bytes
  unfolding header_held
  short_held h = rw (lt-leb header_bytes (length bytes) h)

  -- what is read of the two columns, put together
  module _ (n k : Option ℤ) (en : n ≡ column_held false (columns bytes 0 6))
      (ek : k ≡ column_held false (columns bytes 6 6)) where
    header_looked : (is_some n && is_some k) && ends_line bytes 12 ≡ header_fits bytes
    unfolding header_fits
    header_looked =
        simp (
          ap is_some en ∙ some_fits false (columns bytes 0 6),
          ap is_some ek ∙ some_fits false (columns bytes 6 6),
          and_assoc,
        )

    pub header_told : header_bytes ≤ length bytes →
        formed ((is_some n && is_some k) && ends_line bytes 12)
        (record { count = nat_of (unwrap_or n (pos 0)); kind = nat_of (unwrap_or k (pos 0)) })
        ≡ header_held bytes
    header_told w =
        let number : Option ℤ → ℕ = λ x. nat_of (unwrap_or x (pos 0)) in
        let read : record { count = number n; kind = number k } ≡ header_read bytes =
        λ i. record { count = ap number en i; kind = ap number ek i } in
        ap₂ formed header_looked read ∙ sym (held_whole w)

  -- what the answer tells
  header_ok : (h : Header) → header_held bytes ≡ Ok h → (header_fits bytes ≡ true) × (h ≡ header_by_rules bytes)
  unfolding header_held
  header_ok h = go (leb header_bytes (length bytes))
    where
      go : (t : Bool) → cond t (whole_header bytes) (Err no_header) ≡ Ok h
          → (header_fits bytes ≡ true) × (h ≡ header_by_rules bytes)
      go true e =
          let r = formed_ok h (header_fits bytes) (header_read bytes) e in
          (r.0, r.1 ∙ header_formed bytes r.0)
      go false e = cc

  header_err : (h : Header) → header_bytes ≤ length bytes → header_held bytes ≡ Err h
      → (header_fits bytes ≡ false) × (h ≡ header_read bytes)
  header_err h w e = formed_err h (header_fits bytes) (header_read bytes) (sym (held_whole w) ∙ e)

  pub count_is : (h : Header) → header_held bytes ≡ Ok h → h.count ≡ file_count bytes
  count_is h e = ap (λ (x : Header). x.count) (header_ok h e).1

  -- the checks of what was read
  module _ (kind : ℤ) where
    pub cut_code : length bytes < header_bytes → cut_file ≡ head_code bytes kind
    unfolding head_code
    cut_code h = rw (lt-leb header_bytes (length bytes) h)

    pub head_bad : (h : Header) → header_bytes ≤ length bytes → header_held bytes ≡ Err h
        → bad_column ≡ head_code bytes kind
    unfolding head_code
    head_bad h w e = rw (le-leb header_bytes (length bytes) w, (header_err h w e).0)

    pub read_code : (h : Header) → header_bytes ≤ length bytes → header_held bytes ≡ Ok h
        → header_code h (length bytes) kind ≡ head_code bytes kind
    unfolding header_code head_code kind_fits
    read_code h w e =
        let r = header_ok h e in
        ap (λ (x : Header). header_code x (length bytes) kind) r.1 ∙ rw (le-leb header_bytes (length bytes) w, r.0)

-- the steps of checking what was read
pub ruleset judging = (passed, stopped, row_short)

-- the steps of checking it
pub ruleset check_steps = (cut_code, head_bad, read_code, count_is)
