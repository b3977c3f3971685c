-- Reading the input, and what it comes to. Assumes nothing.
use Rattle.std.proofs.Common.{◌≡◌, true, false, List, ℕ, ℤ, length, Some, None, Ok, Err}
use Rattle.std.proofs.Common.{eq-eqb, ne_eqb}
use Rattle.std.proofs.Math.Bool.{and-false}
use Rattle.rules.specs.declared.Refusal.TheVariants.{CutFile, BadColumn}
use Rattle.rules.specs.Tables.{nat_of}
use Rattle.rules.specs.File.{columns, ends_line}
use Rattle.rules.specs.Query.{input_length, input_fits, input_code, input_query}
use Rattle.column.specs.Column.{column_held, held_some, held_none}
use Rattle.program_input.specs.Given.{evenly, input_held}

module _ (input : List ℕ) where
  pub cut_held : (length input ≡ input_length → ⊥) → Err CutFile ≡ input_held input
  unfolding input_held input_code
  cut_held h = rw (ne_eqb (length input) input_length h)

  -- input of the right length, of which one column is formed otherwise, or its end
  module _ (size : length input ≡ input_length) where
    bad_held : input_fits input ≡ false → Err BadColumn ≡ input_held input
    unfolding input_held input_code
    bad_held h = rw (eq-eqb (length input) input_length size, h)

    pub k_none : column_held false (columns input 0 6) ≡ None → Err BadColumn ≡ input_held input
    k_none h = bad_held (rw (held_none false (columns input 0 6) h))

    pub block_none : column_held false (columns input 6 6) ≡ None → Err BadColumn ≡ input_held input
    block_none h = bad_held (simp (held_none false (columns input 6 6) h, and-false))

    pub radius_none : column_held false (columns input 12 6) ≡ None → Err BadColumn ≡ input_held input
    radius_none h = bad_held (simp (held_none false (columns input 12 6) h, and-false))

    pub end_none : ends_line input 18 ≡ false → Err BadColumn ≡ input_held input
    end_none h = bad_held (simp (h, and-false))

    -- the query that it asks
    pub query_held : (k b r : ℤ) → column_held false (columns input 0 6) ≡ Some k
        → column_held false (columns input 6 6) ≡ Some b → column_held false (columns input 12 6) ≡ Some r
        → ends_line input 18 ≡ true → Ok (evenly (nat_of k) (nat_of b) (nat_of r) 1) ≡ input_held input
    unfolding input_held input_code input_query
    query_held k b r ek eb er e =
        let x = held_some false (columns input 0 6) k ek in
        let y = held_some false (columns input 6 6) b eb in
        let z = held_some false (columns input 12 6) r er in
        simp (eq-eqb (length input) input_length size, x.0, x.1, y.0, y.1, z.0, z.1, e)

pub ruleset read_steps = (cut_held, k_none, block_none, radius_none, end_none, query_held)
