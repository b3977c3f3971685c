-- Checks made one after the other: those that passed count for nothing, and one that refuses decides. Assumes nothing.
use Rattle.std.specs.Prelude.{◌≡◌, refl, ℕ, cond, eqb, Result, Ok, Err}
use Rattle.std.proofs.Common.{◌∙◌, sym, ap}
use Rattle.rules.specs.declared.Refusal.{Refusal}
use Rattle.rules.specs.declared.Refusal.TheVariants.{ListLength, BlockSize, RadiusRange, TableSize, BadRecord, RowLimit}
use Rattle.rules.specs.declared.Refusal.TheVariants.{RowOrder, CutFile, BadColumn, WrongKind, ShortSlice, WeightRange}
use Rattle.rules.specs.declared.Refusal.TheVariants.{OtherCard, ToleranceRange}
use Rattle.std.specs.Result.{is_ok}
use Rattle.rules.specs.Numbers.{number_of, code}
use Rattle.rules.specs.Numbered.{refused_is}

module _ {A : Type 0} where
  pub passed : (n x : ℕ) {k : ℕ} (r : Result A Refusal) (a : A) → r ≡ Ok a → code r ≡ n → x ≡ k
      → cond (eqb n 0) x n ≡ k
  passed n x r a was e h = ap (λ m. cond (eqb m 0) x m) (sym e ∙ ap code was) ∙ h

  pub stopped : (n x : ℕ) (r : Result A Refusal) (e : Refusal) → r ≡ Err e → code r ≡ n
      → cond (eqb n 0) x n ≡ number_of e
  stopped n x r e was h = ap (λ m. cond (eqb m 0) x m) (sym h ∙ ap code was) ∙ go e
    where
      go : (r : Refusal) → cond (eqb (number_of r) 0) x (number_of r) ≡ number_of r
      go ListLength = refl
      go BlockSize = refl
      go RadiusRange = refl
      go TableSize = refl
      go BadRecord = refl
      go RowLimit = refl
      go RowOrder = refl
      go CutFile = refl
      go BadColumn = refl
      go WrongKind = refl
      go ShortSlice = refl
      go WeightRange = refl
      go OtherCard = refl
      go ToleranceRange = refl

-- a check has code 0 just where it passed
pub coded : {A : Type 0} (r : Result A Refusal) → eqb (code r) 0 ≡ is_ok r
coded (Ok x) = refl
coded {A} (Err e) = (refused_is {A = A} (Err e) e refl).0
