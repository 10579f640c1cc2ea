-- The Gregorian calendar the long way: months and years are added up one by one.
use Rattle.std.specs.Prelude.{ℕ, zero, suc, ◌+◌, ◌%◌, Bool, not, cond, ◌&&◌, ◌||◌, List, [], ◌∷◌, eqb, get_or, take}

-- y is divisible by d
abbrev pub divides : ℕ → ℕ → Bool
divides d y = eqb (y % d) 0

-- divisible by 4 and not by 100, or by 400
unfoldable pub leap : ℕ → Bool
leap y = divides 4 y && not (divides 100 y) || divides 400 y

-- the days of a year
unfoldable pub year_days : ℕ → ℕ
year_days y = cond (leap y) 366 365

-- the days of each month, in a leap year or not; month 0 is none, so that January is entry 1
abbrev pub months : Bool → List ℕ
months l = 0 ∷ 31 ∷ cond l 29 28 ∷ 31 ∷ 30 ∷ 31 ∷ 30 ∷ 31 ∷ 31 ∷ 30 ∷ 31 ∷ 30 ∷ 31 ∷ []

-- the days of month m
unfoldable pub month_days : Bool → ℕ → ℕ
month_days l m = get_or (months l) m 0

-- the numbers of a list, added up
abbrev pub sum : List ℕ → ℕ
sum [] = 0
sum (n ∷ ns) = n + sum ns

-- the days of the year before month m
unfoldable pub days_before_month : Bool → ℕ → ℕ
days_before_month l m = sum (take m (months l))

-- the days of the years 1 to y - 1
unfoldable pub days_before_year : ℕ → ℕ
days_before_year zero = 0
days_before_year (suc zero) = 0
days_before_year (suc (suc y)) = days_before_year (suc y) + year_days (suc y)
