-- Programs as trees: their texts and tables.
use Rattle.std.specs.Prelude.{◌≡◌, [], ◌∷◌, ◌++◌, codes, refl}
use Rattle.syntax.specs.Reading.{read, go}
use Rattle.syntax.specs.Reading.Outcome.{done, refused}
use Rattle.std.specs.Fmt.{digits}
use Rattle.syntax.specs.Refusals.{begun_in}
use Rattle.syntax.specs.Refusals.New.{new_line, new_count, new_term, new_type}
use Rattle.syntax.specs.Sound.{sizes}
use Rattle.syntax.specs.Trees.{Parts, Prog, print, table}
use Rattle.syntax.specs.Trees.Parts.{none, number, form}
use Rattle.syntax.specs.declared.grammar.Form.TheVariants.{TNum, TBox, TAt, Site, Bound, Val, Lam, Letd, Getb, Getn, Gauge, Gate}
use Rattle.syntax.specs.declared.program.Ty.TheVariants.{Num as TyAsNum, Never as TyAsNever, Fn as TyAsFn, Boxed as TyAsBoxed, At as TyAsAt}
use Rattle.syntax.specs.declared.program.World.TheVariants.{Site as WorldAsSite, Bound as WorldAsBound}
use Rattle.syntax.specs.declared.program.Mobile.TheVariants.{Code, Number}
use Rattle.syntax.specs.declared.program.Term.TheVariants.{Num as TermAsNum, Value as TermAsValue, Lam as TermAsLam, App as TermAsApp, Here as TermAsHere, Letd as TermAsLetd, Get as TermAsGet, Letcc as TermAsLetcc, Throw as TermAsThrow, Go as TermAsGo, Gauge as TermAsGauge, Gate as TermAsGate}

abbrev one : Prog
one = record {
  stations = record { gauges = 1; gates = 0 } ∷ record { gauges = 0; gates = 1 } ∷ [];
  start = 1;
  main = form Gate (number 0 (form Getn (form Site (number 0 none) (form Gauge (number 0 none) none)) none)) none;
}

one_text : print one ≡ codes "(station 1 0)" ++ 10 ∷ codes "(station 0 1)" ++ 10 ∷ codes "(run 1 (gate 0 (getn (site 0) (gauge 0))))" ++ 10 ∷ []
unfolding digits
one_text = refl

one_table : (table one).tms ≡ TermAsGate 0 1 ∷ TermAsGet Number (WorldAsSite 0) 2 ∷ TermAsGauge 0 ∷ []
one_table = refl

abbrev value : Parts
value = number 0 none

abbrev three : Prog
three = record {
  stations = record { gauges = 32; gates = 0 } ∷ [];
  start = 0;
  main = form Lam (form TAt (form TBox (form TNum none none) none) (form Letd (form Val value (form Getb (form Bound value (form Val value none)) none)) none)) none;
}

three_text : print three ≡ codes "(station 32 0)" ++ 10 ∷ codes "(run 0 (lam (at (box num)) (letd (v 0) (getb (w 0) (v 0)))))" ++ 10 ∷ []
unfolding digits
three_text = refl

three_types : (table three).tys ≡ TyAsAt 1 ∷ TyAsBoxed 2 ∷ TyAsNum ∷ []
three_types = refl

three_terms : (table three).tms ≡ TermAsLam 0 1 ∷ TermAsLetd 2 3 ∷ TermAsValue 0 ∷ TermAsGet Code (WorldAsBound 0) 4 ∷ TermAsValue 0 ∷ []
three_terms = refl

-- How many terms there are in each.
three_sizes : sizes 0 (table three).tms ≡ 5 ∷ 4 ∷ 1 ∷ 2 ∷ 1 ∷ []
three_sizes = refl

-- Where things begin in the text of the first program.
one_lines : begun_in new_line one ≡ 0 ∷ 14 ∷ 28 ∷ []
unfolding digits
one_lines = refl

one_counts : begun_in new_count one ≡ 9 ∷ 11 ∷ 23 ∷ 25 ∷ []
unfolding digits
one_counts = refl

one_terms : begun_in new_term one ≡ 35 ∷ 43 ∷ 58 ∷ []
unfolding digits
one_terms = refl

three_begun : begun_in new_type three ≡ 27 ∷ 31 ∷ 36 ∷ []
unfolding digits
three_begun = refl

-- What is read of texts.
short_count_refused : read (codes "(station 33") ≡ refused 14 9
unfolding go
short_count_refused = refl

count_refused : read (codes "(station 33 0)") ≡ refused 14 9
unfolding go
count_refused = refl

digit_refused : read (codes "(station 3x 0)") ≡ refused 11 10
unfolding go
digit_refused = refl

lam_read : read (codes "(station 1 0)" ++ 10 ∷ codes "(run 0 (lam (fn num none) (getn (w 0) (num 65535))))" ++ 10 ∷ []) ≡ done (record { vals = []; depth = 0; tys = TyAsFn 1 2 ∷ TyAsNum ∷ TyAsNever ∷ []; tms = TermAsLam 0 1 ∷ TermAsGet Number (WorldAsBound 0) 2 ∷ TermAsNum 65535 ∷ []; stations = record { gauges = 1; gates = 0 } ∷ []; start = 0 })
unfolding go
lam_read = refl

number_refused : read (codes "(station 1 0)" ++ 10 ∷ codes "(run 0 (num 65536))") ≡ refused 11 30
unfolding go
number_refused = refl

word_refused : read (codes "(station 1 0)" ++ 10 ∷ codes "(run 0 (lax 65536))") ≡ refused 11 24
unfolding go
word_refused = refl

end_refused : read (codes "(station 1 0)" ++ 10 ∷ codes "(run 0 (num 65535)") ≡ refused 11 32
unfolding go
end_refused = refl

third_digit_refused : read (codes "(station 320 0)") ≡ refused 14 9
unfolding go
third_digit_refused = refl

zero_refused : read (codes "(station 033") ≡ refused 11 10
unfolding go
zero_refused = refl

long_count_refused : read (codes "(station 99999") ≡ refused 14 9
unfolding go
long_count_refused = refl

program1 : read (codes "(station 1 0)" ++ 10 ∷ codes "(station 0 1)" ++ 10 ∷ codes "(run 1 (gate 0 (getn (site 0) (gauge 0))))" ++ 10 ∷ []) ≡ done (record { vals = []; depth = 0; tys = []; tms = TermAsGate 0 1 ∷ TermAsGet Number (WorldAsSite 0) 2 ∷ TermAsGauge 0 ∷ []; stations = record { gauges = 1; gates = 0 } ∷ record { gauges = 0; gates = 1 } ∷ []; start = 1 })
unfolding go
program1 = refl

program2 : read (codes "(station 1 0)" ++ 10 ∷ codes "(run 0 (letd (here (num 7)) (getn (w 0) (v 0))))" ++ 10 ∷ []) ≡ done (record { vals = []; depth = 0; tys = []; tms = TermAsLetd 1 3 ∷ TermAsHere 2 ∷ TermAsNum 7 ∷ TermAsGet Number (WorldAsBound 0) 4 ∷ TermAsValue 0 ∷ []; stations = record { gauges = 1; gates = 0 } ∷ []; start = 0 })
unfolding go
program2 = refl

program3 : read (codes "(station 1 0)" ++ 10 ∷ codes "(run 0 (lam (at (box num)) (letd (v 0) (getb (w 0) (v 0)))))" ++ 10 ∷ []) ≡ done (record { vals = []; depth = 0; tys = TyAsAt 1 ∷ TyAsBoxed 2 ∷ TyAsNum ∷ []; tms = TermAsLam 0 1 ∷ TermAsLetd 2 3 ∷ TermAsValue 0 ∷ TermAsGet Code (WorldAsBound 0) 4 ∷ TermAsValue 0 ∷ []; stations = record { gauges = 1; gates = 0 } ∷ []; start = 0 })
unfolding go
program3 = refl

program4 : read (codes "(station 1 0)" ++ 10 ∷ codes "(run 0 (letcc num (throw num 0 (num 5))))" ++ 10 ∷ []) ≡ done (record { vals = []; depth = 0; tys = TyAsNum ∷ TyAsNum ∷ []; tms = TermAsLetcc 0 1 ∷ TermAsThrow 1 0 2 ∷ TermAsNum 5 ∷ []; stations = record { gauges = 1; gates = 0 } ∷ []; start = 0 })
unfolding go
program4 = refl

program5 : read (codes "(station 1 0)" ++ 10 ∷ codes "(station 1 0)" ++ 10 ∷ codes "(run 0 (letcc num (getn (site 1) (throw num 0 (gauge 0)))))" ++ 10 ∷ []) ≡ done (record { vals = []; depth = 0; tys = TyAsNum ∷ TyAsNum ∷ []; tms = TermAsLetcc 0 1 ∷ TermAsGet Number (WorldAsSite 1) 2 ∷ TermAsThrow 1 0 3 ∷ TermAsGauge 0 ∷ []; stations = record { gauges = 1; gates = 0 } ∷ record { gauges = 1; gates = 0 } ∷ []; start = 0 })
unfolding go
program5 = refl

program6 : read (codes "(station 1 0)" ++ 10 ∷ codes "(run 0 (app (lam num (lam num (v 1))) (num 3)))" ++ 10 ∷ []) ≡ done (record { vals = []; depth = 0; tys = TyAsNum ∷ TyAsNum ∷ []; tms = TermAsApp 1 4 ∷ TermAsLam 0 2 ∷ TermAsLam 1 3 ∷ TermAsValue 1 ∷ TermAsNum 3 ∷ []; stations = record { gauges = 1; gates = 0 } ∷ []; start = 0 })
unfolding go
program6 = refl

program7 : read (codes "(station 1 0)" ++ 10 ∷ codes "(run 0 (go num (site 0) (num 1)))" ++ 10 ∷ []) ≡ done (record { vals = []; depth = 0; tys = TyAsNum ∷ []; tms = TermAsGo 0 (WorldAsSite 0) 1 ∷ TermAsNum 1 ∷ []; stations = record { gauges = 1; gates = 0 } ∷ []; start = 0 })
unfolding go
program7 = refl
