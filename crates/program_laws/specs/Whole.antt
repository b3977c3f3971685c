-- What the pairing program prints on accepted input: the best pairs of the two files' tables. Assumes nothing.
use Rattle.std.specs.Prelude.{◌≡◌, refl, true, ℕ, ◌+◌, ◌-◌, max, leb, pos, length}
use Rattle.std.proofs.Common.{sym, ap, ◌∙◌}
use mathlib.Core.List.{List, [], ◌∷◌, ◌++◌, map, Memᴰ}
use Rattle.lists.specs.Lists.{best}
use Rattle.lists.specs.Words.{Distinct}
use Rattle.rules.specs.declared.FieldRows.{FieldRows}
use Rattle.rules.specs.declared.TrimRows.{TrimRows}
use Rattle.std.specs.Prelude.{Ok, Err}
use Rattle.rules.specs.Numbers.{Loaded}
use Rattle.rules.specs.declared.Pair.{Pair}
use Rattle.rules.specs.declared.Query.{Query}
use Rattle.rules.specs.Tables.{Table, kind_coordinates, legal}
use Rattle.rules.specs.Numbers.{table_size, unless, said_of, refusal}
use Rattle.rules.specs.Checks.{first_out}
use Rattle.rules.specs.Calls.{query_code, open_code}
use Rattle.rules.specs.File.{file_table, check_file}
use Rattle.rules.specs.Query.{list, listing, settled_session, program_file_code, input_code, input_query, table_of}
use Rattle.rules.specs.Query.{field_file_kind, trim_file_kind, field_file_table, trim_file_table}
use Rattle.rules.specs.Query.{most_file_bytes, refusal_line, whole_query_code, whole_query}
use Rattle.rules.specs.Sure.{Sure, qualifying_sums}
use Rattle.session_laws.specs.Calls.{OneCard, open_out}
use Rattle.file_laws.specs.Accepted.{accepted}
use Rattle.file_laws.specs.Sizes.{file_numbered}
use Rattle.file_laws.specs.Legal.{accepted_legal}
use Rattle.tables_join.specs.Pairs.{QualifyingPair}
use Rattle.tables_join.specs.WholeList.{list_best, list_listed}
use Rattle.program.specs.Program.{or_refusal, refusal_none, refusal_some}
use Rattle.demand.specs.Sequences.{DepthsUpTo}
use Rattle.program_laws.specs.Depths.{settled_within}

-- of a query over two tables: what is listed, and how far it was read
pub record Answered (q : Query) (f t : Table) : Type 0 where
  pub one_card : OneCard f t
  pub field_legal : legal f ≡ true
  pub trim_legal : legal t ≡ true
  pub in_range_lem : query_code q ≡ 0
  -- the k highest qualifying sums, all of them if fewer
  pub sums : map (λ p. p.sum) (list q f t) ≡ best q.k (qualifying_sums q f t)
  -- each pair is one of two rows that qualify, with its own sum, and comes once
  pub pairs : (p : Pair) → Memᴰ p (list q f t) → QualifyingPair q f t p
  pub once : Distinct (list q f t)
  -- the row limit
  pub row_limit_lem : (m : FieldRows) (n : TrimRows) → Sure q f t m n
      → DepthsUpTo (max m.0 n.0 + q.block - 1) (settled_session q f t)

-- and of what the program prints
pub record Whole (field trim input : List ℕ) : Type 0 where
  pub printed : whole_query field trim input
      ≡ listing (input_query input) (field_file_table field) (trim_file_table trim)
  pub answered : Answered (input_query input) (field_file_table field) (trim_file_table trim)

pub query_answered : (q : Query) (f t : Table) → OneCard f t → legal f ≡ true → legal t ≡ true → query_code q ≡ 0
    → Answered q f t
query_answered q f t cards g h k =
    let l = list_listed q f t g h k cards in
    record {
      one_card = cards;
      field_legal = g;
      trim_legal = h;
      in_range_lem = k;
      sums = list_best q f t g h k cards;
      pairs = l.fit;
      once = l.once;
      row_limit_lem = settled_within q f t cards g h k;
    }

-- a file that passes has a legal table
file_legal : (bytes : List ℕ) (kind : ℕ) → program_file_code bytes kind ≡ 0 → legal (table_of kind bytes) ≡ true
unfolding program_file_code
file_legal bytes kind h = go (check_file bytes (pos kind)) refl
  where
    size : ℕ
    size = unless (leb (length bytes) (most_file_bytes (kind_coordinates kind))) table_size

    passed : refusal (said_of (check_file bytes (pos kind))) ≡ 0
    passed = first_out (size ∷ refusal (said_of (check_file bytes (pos kind))) ∷ []) h 1

    go : (x : Loaded) → check_file bytes (pos kind) ≡ x → legal (table_of kind bytes) ≡ true
    go (Ok n) e =
        ap (λ (k : ℕ). legal (file_table (kind_coordinates kind) bytes k)) (accepted bytes (pos kind) n e).count
        ∙ accepted_legal bytes (pos kind) n e
    go (Err u) e =
        absurd (file_numbered bytes (pos kind) u e (ap (λ (x : Loaded). refusal (said_of x)) (sym e) ∙ passed))

-- accepted input
pub whole_query_lem : (field trim input : List ℕ) → whole_query_code field trim input ≡ 0 → Whole field trim input
unfolding whole_query whole_query_code or_refusal
whole_query_lem field trim input h =
    let q = input_query input in
    let f = field_file_table field in
    let t = trim_file_table trim in
    let files = program_file_code field (field_file_kind field) ∷ program_file_code trim (trim_file_kind trim) ∷ [] in
    let passed = first_out (files ++ (input_code input ∷ open_code q f t ∷ [])) h in
    let opens = open_out q f t (passed 3) in
    record {
      printed = refusal_none (whole_query_code field trim input) (listing q f t) h;
      answered =
          query_answered q f t opens.cards (file_legal field (field_file_kind field) (passed 0))
          (file_legal trim (trim_file_kind trim) (passed 1)) opens.query;
    }

-- refused input: its number alone
pub whole_refused : (field trim input : List ℕ) → (whole_query_code field trim input ≡ 0 → ⊥) →
    whole_query field trim input ≡ refusal_line (whole_query_code field trim input)
unfolding whole_query or_refusal
whole_refused field trim input h =
    refusal_some (whole_query_code field trim input)
    (listing (input_query input) (field_file_table field) (trim_file_table trim)) h
