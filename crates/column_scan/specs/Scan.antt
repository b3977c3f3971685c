-- How a column's bytes are gone through, one after the other. Definitions only. Assumes nothing.
use Rattle.std.specs.Prelude.{ℕ, ◌+◌, ◌*◌, ◌-◌, ◌%◌, Bool, false, cond, ◌&&◌, ◌||◌, not, List, [], ◌∷◌, eqb, length}
use Rattle.std.specs.Prelude.{take, drop}
use mir.Val.{bool_byte}
use Rattle.rules.specs.File.{blank, minus_sign, is_digit}
use Rattle.file_laws.specs.Places.{place_value_at}
use Rattle.column_scan.specs.declared.Scan.{Scan}

-- the bytes from place i up to place e, without that of e itself
unfoldable pub up_to : List ℕ → ℕ → ℕ → List ℕ
up_to bytes i e = take (e - i) (drop i bytes)

-- what a byte is worth as a digit: b - 48 if it is one, nothing if it is a blank or a minus
unfoldable pub byte_worth : Bool → ℕ → ℕ
byte_worth isMinus b = cond isMinus 0 (b % 16)

-- nothing known yet
abbrev pub start : Scan
start = record { seen = false; digits = 0; negative = false; bad = false; worth = 0 }

-- one byte more, of this place value: a blank or a minus stands only where no other byte stood before it
unfoldable pub stepped : Bool → ℕ → Scan → ℕ → Scan
stepped signed place s b =
    record {
      seen = not (eqb b blank);
      digits = s.digits + bool_byte (is_digit b);
      negative = s.negative || (signed && eqb b minus_sign);
      bad = s.bad || (not (is_digit b) && (s.seen || not (eqb b blank || (signed && eqb b minus_sign))));
      worth = s.worth + place * byte_worth (signed && eqb b minus_sign) b;
    }

-- all bytes, each by the entry of those behind it
unfoldable pub scanned : Bool → Scan → List ℕ → Scan
scanned signed s [] = s
scanned signed s (b ∷ l) = scanned signed (stepped signed (place_value_at (length l)) s b) l
