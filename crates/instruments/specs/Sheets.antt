-- What a sheet says: its stations in order.
use Rattle.std.specs.Prelude.{Bool, cond, ◌&&◌, List, [], ◌∷◌, ◌++◌, length, nat_le, nat_lt}
use Rattle.instruments.specs.Items.{items_of}
use Rattle.instruments.specs.declared.sheet.Station.{Station}
use Rattle.instruments.specs.declared.sheet.Sheet.{Sheet}

abbrev pub stations_of : Sheet → List Station
stations_of s = items_of s.stations

-- a station is added where fewer than 16 stand and it has at most 32 gauges and 32 gates
abbrev pub added : List Station → Station → Bool
added xs x = nat_lt (length xs) 16 && (nat_le x.gauges 32 && nat_le x.gates 32)

abbrev pub added_after : List Station → Station → List Station
added_after xs x = cond (added xs x) (xs ++ x ∷ []) xs
