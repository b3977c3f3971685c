-- Tables in which a row of weight 0 qualifies with nothing: such a table has ended once one was read, and counts as
-- empty once its first row was read and is one. Definitions only. Assumes nothing.
use Rattle.std.specs.Prelude.{ℕ, zero, suc, ◌≡◌, Bool, true, false, ◌&&◌, ◌||◌, List, leb, eqb, length, get_or}
use Rattle.join.specs.Join.{Side}
use Rattle.join.specs.Plain.{Rows, PlainLegal}

-- whether a row of weight 0 is among the first n
unfoldable pub zero_among : {A : Type 0} → Rows A → List A → ℕ → Bool
zero_among R l zero = false
zero_among R l (suc n) = zero_among R l n || eqb (R.weight (get_or l n R.blank)) 0

abbrev pub falling : {A : Type 0} → Rows A → Side A
falling R =
    record {
      blank = R.blank;
      weight = R.weight;
      Legal = PlainLegal R;
      ended = λ l n. leb (length l) n || zero_among R l n;
      empty = λ l n. leb (length l) 0 || (leb 1 n && eqb (R.weight (get_or l 0 R.blank)) 0);
    }

-- A good row as high as x that qualifies with y, for any good x and y above 0: a row of x's weight at y's place. And
-- some good row above 0.
pub record Mates {A B : Type 0} (R : Rows A) (Q : Rows B) (qual : A → B → Bool) : Type 0 where
  pub like : A → B → A
  pub good : (x : A) (y : B) → R.Good x → Q.Good y → R.Good (like x y)
  pub level : (x : A) (y : B) → R.Good x → Q.Good y → R.weight (like x y) ≡ R.weight x
  pub fits : (x : A) (y : B) → R.Good x → Q.Good y → (R.weight x ≡ 0 → ⊥) → (Q.weight y ≡ 0 → ⊥)
      → qual (like x y) y ≡ true
  pub dead : (x : A) (y : B) → R.weight x ≡ 0 → qual x y ≡ false
  pub some : A
  pub some_good : R.Good some
  pub some_high : R.weight some ≡ 0 → ⊥
