-- How far a departure is from the count of seconds that it is compared with.
use Rattle.std.specs.Prelude.{ℕ, Bool, false, cond, ltb, leb, ℤ, pos, ◌-ℤ◌, nat_abs, Option, Some, None}
use Rattle.departure_fits.specs.declared.departure.Fit.{Fit}

-- the seconds from its count to a departure: negative where it departs before
abbrev pub since : ℕ → ℕ → ℤ
since s count = pos s -ℤ pos count

-- how far from its count a departure is; 901 seconds, which is too far, where there is none
abbrev pub away : Option Fit → ℕ
away None = 901
away (Some f) = nat_abs (since f.second f.count)

-- two departures, each taken from its count, are within two minutes of each other
abbrev pub near : Option Fit → Option Fit → Bool
near None g = false
near (Some f) None = false
near (Some f) (Some g) = leb (nat_abs (since f.second f.count -ℤ since g.second g.count)) 120

-- the first, unless the second is strictly nearer or the only one
abbrev pub nearer : Option Fit → Option Fit → Option Fit
nearer None g = g
nearer (Some f) None = Some f
nearer (Some f) (Some g) = cond (ltb (nat_abs (since g.second g.count)) (nat_abs (since f.second f.count))) (Some g) (Some f)

-- a departure that is compared with the count, on a day on which the trip runs
abbrev pub if_runs : Bool → ℕ → ℕ → Option Fit
if_runs r s count = cond r (Some (record { second = s; count = count })) None
