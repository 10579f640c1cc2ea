-- How large each table and id may be.
use Rattle.tables.specs.declared.bounds.Bounds.{Bounds}

-- the bounds of document 01's chart
abbrev pub chart_bounds : Bounds
chart_bounds = record { stops = 65535; trips = 65535; calls = 1000000; points = 8192; updates = 256; id = 96; others = 65535 }
