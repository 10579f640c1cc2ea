-- The refusals' numbers.
use Rattle.std.specs.Prelude.{ℕ}
use Rattle.refusals.specs.declared.refusal.Refusal.{Refusal}
use Rattle.refusals.specs.declared.refusal.Refusal.TheVariants.{Columns, Count, Position, Order, Index, Moment, Text, Number, Room, Date}

-- the number that C callers get
abbrev pub refusal_number : Refusal → ℕ
refusal_number Columns = 1
refusal_number Count = 2
refusal_number Position = 3
refusal_number Order = 4
refusal_number Index = 5
refusal_number Moment = 6
refusal_number Text = 7
refusal_number Number = 8
refusal_number Room = 9
refusal_number Date = 10
