-- Rows 0 to n - 1 of a table: those that pass a test.
use Rattle.std.specs.Prelude.{ℕ, zero, suc, Bool, cond, List, [], ◌∷◌, ◌++◌}

-- those that pass, in order
unfoldable pub passing : (ℕ → Bool) → ℕ → List ℕ
passing p zero = []
passing p (suc n) = passing p n ++ cond (p n) (n ∷ []) []
