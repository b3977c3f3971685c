-- The number of a column, as the rules say, and what is read of columns. Assumes nothing.
use Rattle.std.specs.Prelude.{◌≡◌, refl, Bool, true, false, cond, List, ℕ, ℤ}
use Rattle.std.specs.Prelude.{Option, Some, None, is_some, Result, Ok, Err}
use Rattle.rules.specs.File.{column_fits, column_number}

-- its number, where it is formed as one
unfoldable pub column_held : Bool → List ℕ → Option ℤ
column_held signed l = cond (column_fits signed l) (Some (column_number signed l)) None

module _ (signed : Bool) (l : List ℕ) where
  -- a column that fits holds its number, another none
  pub number_held_lem : column_fits signed l ≡ true → column_held signed l ≡ Some (column_number signed l)
  unfolding column_held
  number_held_lem h = rw h

  pub none_held : column_fits signed l ≡ false → column_held signed l ≡ None
  unfolding column_held
  none_held h = rw h

  pub some_fits : is_some (column_held signed l) ≡ column_fits signed l
  unfolding column_held
  some_fits = go (column_fits signed l)
    where
      go : (t : Bool) → is_some (cond t (Some (column_number signed l)) None) ≡ t
      go true = refl
      go false = refl

  -- what holds a number fits, and what holds none does not
  pub held_some : (z : ℤ) → column_held signed l ≡ Some z → (column_fits signed l ≡ true) × (column_number signed l ≡ z)
  unfolding column_held
  held_some z = go (column_fits signed l)
    where
      go : (t : Bool) → cond t (Some (column_number signed l)) None ≡ Some z → (t ≡ true) × (column_number signed l ≡ z)
      go true e = (refl, cc)
      go false e = cc

  pub held_none : column_held signed l ≡ None → column_fits signed l ≡ false
  unfolding column_held
  held_none = go (column_fits signed l)
    where
      go : (t : Bool) → cond t (Some (column_number signed l)) None ≡ None → t ≡ false
      go true e = cc
      go false e = refl

-- what is read of columns, in Ok where they are formed as they must be, else in Err
abbrev pub formed : {T : Type 0} → Bool → T → Result T T
formed fits read = cond fits (Ok read) (Err read)

-- an answer tells both
module _ {T : Type 0} (x : T) where
  pub formed_ok : (fits : Bool) (read : T) → formed fits read ≡ Ok x → (fits ≡ true) × (x ≡ read)
  formed_ok true read e = (refl, cc)
  formed_ok false read e = cc

  pub formed_err : (fits : Bool) (read : T) → formed fits read ≡ Err x → (fits ≡ false) × (x ≡ read)
  formed_err true read e = cc
  formed_err false read e = (refl, cc)
