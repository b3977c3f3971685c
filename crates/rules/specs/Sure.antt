-- docs/RULES.md, "Sure readings". Definitions only. Assumes nothing.
use Rattle.std.specs.Prelude.{ℕ, ◌≤◌, ◌≡◌, true, List, map}
use Rattle.lists.specs.Lists.{best}
use Rattle.rules.specs.declared.FieldRows.{FieldRows}
use Rattle.rules.specs.declared.TrimRows.{TrimRows}
use Rattle.rules.specs.declared.Query.{Query}
use Rattle.rules.specs.Tables.{Table, row_count, first_rows, legal, terms, Block, qualifying}

abbrev pub whole : Table → Block
whole t = record { start = 0; rows = t }

-- the sums of all qualifying pairs of two tables
unfoldable pub qualifying_sums : Query → Table → Table → List ℕ
qualifying_sums q f t = map (λ p. p.sum) (qualifying (terms q) (whole f) (whole t))

-- "all legal tables that begin with these rows, or are these rows", the first n of t: whether u is such a table.
-- "A table whose last row is within the reading is known to end there."
pub record Begins (n : ℕ) (t u : Table) : Type 0 where
  pub lawful : legal u ≡ true
  pub alike : first_rows n u ≡ first_rows n t
  pub ends : row_count t ≤ n → u ≡ t

-- A reading of m field rows and n trim rows "is sure of k if all legal tables that begin with these rows, or are these
-- rows, have the same list of k highest qualifying sums (fewer where fewer qualify)".
unfoldable pub Sure : Query → Table → Table → FieldRows → TrimRows → Type 0
Sure q f t m n =
    (f₁ f₂ t₁ t₂ : Table) →
    Begins m.0 f f₁ →
    Begins m.0 f f₂ →
    Begins n.0 t t₁ →
    Begins n.0 t t₂ →
    best q.k (qualifying_sums q f₁ t₁) ≡ best q.k (qualifying_sums q f₂ t₂)
