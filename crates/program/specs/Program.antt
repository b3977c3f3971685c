-- What the program's steps answer, one by one, by the rules' "One whole query"; that they come to the whole.
-- Assumes nothing.
use Rattle.std.specs.Prelude.{◌≡◌, refl, Bool, true, false, cond, List, [], ◌∷◌, ℕ, ◌≤◌, eqb, length}
use Rattle.std.specs.Prelude.{Result, MatchResult}
use Rattle.std.proofs.Common.{ap, ◌∙◌, ne_eqb}
use Rattle.std.proofs.lemmas.Bool.{eqb-false}
use Rattle.lists.specs.Bools.{clash}
use Rattle.rules.specs.declared.Query.{Query}
use Rattle.rules.specs.Tables.{Table}
use Rattle.rules.specs.declared.Refusal.{Refusal}
use Rattle.rules.specs.Numbers.{first, number_of}
use Rattle.rules.specs.Calls.{open_code}
use Rattle.rules.specs.Query.{listing, program_file_code, input_code, input_query, field_file_kind, trim_file_kind}
use Rattle.rules.specs.Query.{field_file_table, trim_file_table}
use Rattle.rules.specs.Query.{refusal_line, whole_query_code, whole_query}
use Rattle.printing.specs.Put.{put_at}
use Rattle.listing.specs.Shown.{listing_room}

-- bytes written from the front of a slice, and their count
pub record Written (bytes before after : List ℕ) (n : ℕ) : Type 0 where
  pub count : n ≡ length bytes
  pub short : n ≤ listing_room
  pub front : after ≡ put_at 0 bytes before

-- what a step answers: how many bytes it wrote from the front, where this code is 0; else what the code refuses by, and
-- nothing is written
abbrev pub Gives : ℕ → List ℕ → List ℕ → List ℕ → Result ℕ Refusal → Type 0
Gives code bytes before after r =
    MatchResult r (λ n. (code ≡ 0) × Written bytes before after n) (λ e. (number_of e ≡ code) × (after ≡ before))

-- the checks of the input and of the opening that it asks for
abbrev pub input_and_opening : List ℕ → Table → Table → ℕ
input_and_opening input f t = first (input_code input ∷ open_code (input_query input) f t ∷ [])

-- the line of a refusal, or what is printed where there is none
unfoldable pub or_refusal : ℕ → List ℕ → List ℕ
or_refusal code bytes = elim (eqb code 0) [ true ↦ bytes | false ↦ refusal_line code ]

pub refusal_none : (code : ℕ) (b : List ℕ) → code ≡ 0 → or_refusal code b ≡ b
unfolding or_refusal
refusal_none code b e = ap (λ (c : ℕ). or_refusal c b) e

pub refusal_some : (code : ℕ) (b : List ℕ) → (code ≡ 0 → ⊥) → or_refusal code b ≡ refusal_line code
unfolding or_refusal
refusal_some code b h = go (eqb code 0) (ne_eqb code 0 h)
  where
    go : (t : Bool) → t ≡ false → ◌≡◌ {A = List ℕ} (elim t [ true ↦ b | false ↦ refusal_line code ]) (refusal_line code)
    go true e = clash refl e
    go false e = refl

-- one check after another
refusal_first : (c d : ℕ) (l : List ℕ) (b : List ℕ) →
    or_refusal (first (c ∷ d ∷ l)) b ≡ or_refusal c (or_refusal (first (d ∷ l)) b)
unfolding or_refusal
refusal_first c d l b = go (eqb c 0) refl
  where
    rest : List ℕ
    rest = or_refusal (first (d ∷ l)) b

    go : (t : Bool) → eqb c 0 ≡ t →
        ◌≡◌ {A = List ℕ} (or_refusal (cond t (first (d ∷ l)) c) b) (elim t [ true ↦ rest | false ↦ refusal_line c ])
    go true e = refl
    go false e = refusal_some c b (eqb-false c 0 e)

-- ---- The whole: the checks one after the other

unfoldable pub answer_bytes : Query → Table → Table → List ℕ
answer_bytes q f t = or_refusal (open_code q f t) (listing q f t)

unfoldable pub input_bytes : List ℕ → Table → Table → List ℕ
input_bytes input f t = or_refusal (input_code input) (answer_bytes (input_query input) f t)

pub whole_is : (field trim input : List ℕ) →
    whole_query field trim input
    ≡ or_refusal (program_file_code field (field_file_kind field))
    (or_refusal (program_file_code trim (trim_file_kind trim))
    (input_bytes input (field_file_table field) (trim_file_table trim)))
unfolding whole_query whole_query_code input_bytes answer_bytes or_refusal
whole_is field trim input =
    let f = field_file_table field in
    let t = trim_file_table trim in
    let a = program_file_code field (field_file_kind field) in
    let b = program_file_code trim (trim_file_kind trim) in
    let c = input_code input in
    let d = open_code (input_query input) f t in
    let l = listing (input_query input) f t in
    refusal_first a b (c ∷ d ∷ []) l
    ∙ ap (or_refusal a) (refusal_first b c (d ∷ []) l ∙ ap (or_refusal b) (refusal_first c d [] l))
