-- Tables that end with their last row, and count as empty when they have none: how both tables are today. Definitions
-- only. Assumes nothing.
use Rattle.std.specs.Prelude.{ℕ, suc, ◌≤◌, ◌<◌, ◌≡◌, Bool, true, List, leb, length, get_or}
use Rattle.join.specs.Join.{Side}

-- what rows such a table has: what stands past the end, a row's weight, the rows that are good by themselves, and at
-- most how many there are
pub record Rows (A : Type 0) : Type 1 where
  pub blank : A
  pub weight : A → ℕ
  pub Good : A → Type 0
  pub most : ℕ

-- no row too many, each good, and no weight above the one before
pub record PlainLegal {A : Type 0} (R : Rows A) (l : List A) : Type 0 where
  pub short : length l ≤ R.most
  pub good : (i : ℕ) → i < length l → R.Good (get_or l i R.blank)
  pub falls : (i : ℕ) → suc i < length l → R.weight (get_or l (suc i) R.blank) ≤ R.weight (get_or l i R.blank)

abbrev pub plain : {A : Type 0} → Rows A → Side A
plain R =
    record {
      blank = R.blank;
      weight = R.weight;
      Legal = PlainLegal R;
      ended = λ l n. leb (length l) n;
      empty = λ l n. leb (length l) 0;
    }

-- a good row as high as x that qualifies with y, for any good x and y; today: a row of x's score at y's place
pub record Matches {A B : Type 0} (R : Rows A) (Q : Rows B) (qual : A → B → Bool) : Type 0 where
  pub like : A → B → A
  pub good : (x : A) (y : B) → R.Good x → Q.Good y → R.Good (like x y)
  pub level : (x : A) (y : B) → R.Good x → Q.Good y → R.weight (like x y) ≡ R.weight x
  pub fits : (x : A) (y : B) → R.Good x → Q.Good y → qual (like x y) y ≡ true
