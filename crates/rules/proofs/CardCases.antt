-- The two cards, run on small numbers. Assumes nothing.
use Rattle.std.specs.Prelude.{ℕ, ◌≡◌, refl, Bool, true, false, List, [], ◌∷◌, map, ℤ, pos, negsuc, replicate}
use Rattle.rules.specs.declared.Kinds.{Kinds}
use Rattle.rules.specs.declared.Session.{Session}
use Rattle.rules.specs.Tables.{Table, table, row_count, field_table, trim_table, qualifies}
use Rattle.rules.specs.Calls.{rows_code, record_code, open_code}
use Rattle.rules.specs.Query.{field_file_kind, trim_file_kind, whole_query, refusal_line}
use Rattle.rules.specs.Run.{run}
use Rattle.rules.proofs.Example.{bytes, text, field_file, input, after_reads}
use Rattle.rules.proofs.Small.{asked, joined_at5}

-- ---- Lightness counts in the distance, as a and b do

abbrev near : ℕ → ℤ → Bool
near radius l = qualifies (asked 1 1 radius) (pos 0 ∷ pos 0 ∷ pos 0 ∷ []) (pos 3 ∷ pos 0 ∷ l ∷ [])

pub only_lightness : near 5 (pos 4) ∷ near 5 (pos 5) ∷ near 4 (pos 4) ∷ [] ≡ true ∷ false ∷ false ∷ []
unfolding run
only_lightness = refl

-- ---- and so it does in the gap of two blocks

abbrev at : ℤ → ℤ → ℤ → Table
at a b l = table 3 (pos 1 ∷ pos 9 ∷ a ∷ b ∷ l ∷ [])

pub third_side : map (joined_at5 (at (pos 0) (pos 0) (pos 0)))
    (at (pos 0) (pos 0) (pos 5)
    ∷ at (pos 0) (pos 0) (pos 6)
    ∷ at (pos 3) (pos 4) (pos 0)
    ∷ at (pos 3) (pos 4) (pos 1)
    ∷ [])
    ≡ 1 ∷ 0 ∷ 1 ∷ 0 ∷ []
unfolding run
third_side = refl

-- ---- Rows: twenty numbers are five rows on the old card, four on the new one

pub twenty : row_count (table 2 (replicate 20 (pos 1))) ∷ row_count (table 3 (replicate 20 (pos 1))) ∷ [] ≡ 5 ∷ 4 ∷ []
twenty = refl

-- "L, 0 to 10,000"
abbrev lightness : ℤ → ℕ
lightness l = rows_code (table 3 (pos 1 ∷ pos 1 ∷ negsuc 12799 ∷ pos 12700 ∷ l ∷ [])) 0 1

pub lightness_range : map lightness (pos 0 ∷ pos 10000 ∷ pos 10001 ∷ negsuc 0 ∷ []) ≡ 0 ∷ 0 ∷ 6 ∷ 6 ∷ []
unfolding run
lightness_range = refl

-- ---- Opening: 10 of both tables before 4 of either, each table by its own kind's width, then 15

abbrev kinds : ℕ → ℕ → Kinds
kinds f t = record { field = record { 0 = f }; trim = record { 0 = t } }

-- a query of length k over so many numbers of each kind
abbrev opened_by : ℕ → ℕ → ℕ → ℕ → ℕ → ℕ
opened_by k f m t n =
    open_code (asked k 1 5) (field_table (kinds f t) (replicate m (pos 1)))
    (trim_table (kinds f t) (replicate n (pos 1)))

pub opened_on : opened_by 1 1 4 2 8 ∷ opened_by 1 3 5 4 10 ∷ [] ≡ 0 ∷ 0 ∷ []
unfolding run
opened_on = refl

pub kinds_first : opened_by 1 2 4 2 4
    ∷ opened_by 1 1 3 1 4
    ∷ opened_by 1 4 5 4 5
    ∷ opened_by 1 0 0 5 0
    ∷ opened_by 0 0 0 0 0
    ∷ []
    ≡ 10 ∷ 10 ∷ 10 ∷ 10 ∷ 1 ∷ []
unfolding run
kinds_first = refl

pub own_widths : opened_by 1 3 4 4 5 ∷ opened_by 1 3 5 2 5 ∷ opened_by 1 1 5 4 5 ∷ [] ≡ 4 ∷ 4 ∷ 4 ∷ []
unfolding run
own_widths = refl

pub unlike_cards : opened_by 1 1 4 4 5 ∷ opened_by 1 3 0 2 4 ∷ opened_by 1 1 0 4 0 ∷ [] ≡ 15 ∷ 15 ∷ 15 ∷ []
unfolding run
unlike_cards = refl

-- ---- 5: a card that is neither

abbrev on_card : ℕ → Session → Session
on_card n s =
    record {
      query = s.query;
      rows = record { field = s.rows.field; trim = s.rows.trim; card = n };
      depth = s.depth;
      last = s.last;
      out = s.out;
      held = s.held;
      pairs = s.pairs;
      joined = s.joined;
    }

pub cards_known : map (λ n. record_code (on_card n (after_reads 2))) (0 ∷ 1 ∷ 2 ∷ 3 ∷ 4 ∷ []) ≡ 5 ∷ 5 ∷ 0 ∷ 0 ∷ 5 ∷ []
unfolding run after_reads
cards_known = refl

-- ---- The program: five spaces and the digit, and nothing else, make a file of the new card

pub peeks : field_file_kind (bytes "     0     3\n")
    ∷ field_file_kind (bytes "xxxxxx     3")
    ∷ field_file_kind (bytes "     0    03\n")
    ∷ field_file_kind (bytes "     0     4\n")
    ∷ trim_file_kind (bytes "     0     4\n")
    ∷ trim_file_kind (bytes "     0    4 \n")
    ∷ trim_file_kind (bytes "     0     ")
    ∷ []
    ≡ 3 ∷ 3 ∷ 1 ∷ 1 ∷ 4 ∷ 2 ∷ 2 ∷ []
unfolding run
peeks = refl

abbrev new_fields : List ℕ
new_fields = text ("     2     3" ∷ "   101    90      0      0     0" ∷ "   102    80      0      0 10000" ∷ [])

abbrev new_trims : List ℕ
new_trims = text ("     2     4" ∷ "   201    70      0      3     4" ∷ "   202    50      0      0  9995" ∷ [])

-- the first rows lie 5 apart, the second ones too, by lightness alone
pub worked_new : whole_query new_fields new_trims input
    ≡ text
    ("     2     1     5"
    ∷ "     1   160   101   201       5       0"
    ∷ "     2   130   102   202       5       0"
    ∷ "     2     2           2"
    ∷ [])
unfolding run
worked_new = refl

-- 15 comes after the input's own refusals
pub unlike_files : whole_query field_file new_trims input ∷ whole_query field_file new_trims (bytes "") ∷ []
    ≡ refusal_line 15 ∷ refusal_line 8 ∷ []
unfolding run
unlike_files = refl
