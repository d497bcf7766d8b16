-- What the sheet of an accepted program is.
use Rattle.std.specs.Prelude.{List, Ok, Err, Result}
use Rattle.lines.specs.declared.refusal.Refusal.{Refusal}
use Rattle.lines.specs.declared.refusal.Refusal.TheVariants.{Nothing}
use Rattle.instruments.specs.declared.sheet.Station.{Station}
use Rattle.instruments.specs.declared.sheet.Sheet.{Sheet}
use Rattle.instruments.specs.Sheets.{stations_of}
use Rattle.checker.specs.Accepting.{Place}
use Rattle.checker.specs.Accepting.Place.{empty, full}

-- the stations of a sheet that a call answered, or its refusal
abbrev pub stations_told : Result Sheet Refusal → Result (List Station) Refusal
stations_told (Ok s) = Ok (stations_of s)
stations_told (Err e) = Err e

-- the stations of the program in a place: 25 where the place is empty
abbrev pub place_stations : Place → Result (List Station) Refusal
place_stations empty = Err Nothing
place_stations (full P A) = Ok P.sheet
