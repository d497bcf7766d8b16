-- The lines of a program's text.
use Rattle.std.proofs.Common.{◌≡◌, ℕ, ◌+◌, ◌-◌, ◌<◌, ◌≤◌, Bool, true, false, cond, ltb, leb, List, [], ◌∷◌, ◌++◌, length, codes, sym, refl, ap, ◌∙◌, subst, arith}
use Rattle.std.proofs.lemmas.Bool.{leb-true, leb-false, le-ltb, ltb-false}
use Rattle.std.proofs.lemmas.List.{length_push, append-nil, append_assoc}
use Rattle.syntax.specs.Grammar.{wants, spelling, parts}
use Rattle.syntax.specs.Grammar.Stop.{space, close, line}
use Rattle.syntax.specs.Grammar.Want.{stop, number, item, word}
use Rattle.syntax.specs.Reading.{Seen, go, passed, push, opened, start_none}
use Rattle.syntax.specs.Reading.Move.{on, off}
use Rattle.syntax.specs.Trees.{Prog, Fit, written, station_parts, run_parts, stations_text, print, Each, Right}
use Rattle.syntax.specs.Trees.Parts.{none, number as number'}
use Rattle.syntax.specs.declared.grammar.Form.TheVariants.{Station, Run}
use Rattle.syntax.specs.declared.grammar.Sort.TheVariants.{First, Further}
use Rattle.instruments.specs.declared.sheet.Station.{Station as Counts}
use Rattle.syntax.proofs.Steps.{go_cons, moved}
use Rattle.syntax.proofs.Runs.{Cap, OnSheet, sheet_ok, sheet_map, at, Runs, runs_by, runs_as, runs_then, number_run, stop_run}
use Rattle.syntax.proofs.Runs.Runs.{runs, ends}
use Rattle.syntax.proofs.Runs.Cap.{deeps, manies, sheets}
use Rattle.syntax.proofs.Forms.{put, parts_run, Room}

abbrev pub with_stations : List Counts → Seen
with_stations hs = record { vals = []; depth = 0; tys = []; tms = []; stations = hs; start = 0 }

first_word : (bs : List ℕ) (hs : List Counts) (i : ℕ) → go (spelling Station ++ bs) (item First ∷ []) (with_stations hs) i ≡ go bs (wants Station []) (opened Station (with_stations hs)) (i + 1 + 1 + 1 + 1 + 1 + 1 + 1 + 1 + 1)
unfolding go
first_word bs hs i = refl

run_word : (bs : List ℕ) (hs : List Counts) (i : ℕ) → go (spelling Run ++ bs) (item Further ∷ []) (with_stations hs) i ≡ go bs (wants Run []) (opened Run (with_stations hs)) (i + 1 + 1 + 1 + 1 + 1)
unfolding go
run_word bs hs i = refl

further_end : (bs : List ℕ) (hs : List Counts) (i : ℕ) → go (codes "tation " ++ bs) (word Further ((codes "tation ", Station) ∷ []) ∷ []) (with_stations hs) i ≡ go bs (wants Station []) (opened Station (with_stations hs)) (i + 1 + 1 + 1 + 1 + 1 + 1 + 1)
unfolding go
further_end bs hs i = refl

further_word : (bs : List ℕ) (hs : List Counts) (i : ℕ) → Runs (go (spelling Station ++ bs) (item Further ∷ []) (with_stations hs) i) (at bs (wants Station []) (opened Station (with_stations hs))) (OnSheet (length hs < 16))
further_word bs hs i =
    runs_by (go_cons 40 (codes "station " ++ bs) (item Further ∷ []) (with_stations hs) i
    ∙ go_cons 115 (codes "tation " ++ bs) (word Further ((codes "station ", Station) ∷ (codes "run ", Run) ∷ []) ∷ []) (with_stations hs) (i + 1))
    (by (leb 16 (length hs)) refl)
  where
    by : (t : Bool) → leb 16 (length hs) ≡ t →
        Runs (moved (codes "tation " ++ bs) (i + 1) (cond t (off 14 (i + 1 - 1)) (on (word Further ((codes "tation ", Station) ∷ []) ∷ []) (with_stations hs)))) (at bs (wants Station []) (opened Station (with_stations hs))) (OnSheet (length hs < 16))
    by true e = ends sheets (λ h. omega (arith, leb-true 16 (length hs) e)) (i + 1 - 1) refl
    by false e = runs (sheet_ok (leb-false 16 (length hs) e)) (i + 1 + 1 + 1 + 1 + 1 + 1 + 1 + 1 + 1) (further_end bs hs (i + 1 + 1))

abbrev pub Few : Counts → Type 0
Few h = (h.gauges ≤ 32) × (h.gates ≤ 32)

site_run : (h : Counts) (hs : List Counts) (bs : List ℕ) (i : ℕ) → Fit (station_parts h) (parts Station) →
    Runs (go (written Station (station_parts h) (10 ∷ bs)) (wants Station []) (opened Station (with_stations hs)) i) (at bs (item Further ∷ []) (with_stations (hs ++ h ∷ []))) (OnSheet (Few h))
site_run h hs bs i f =
    runs_then {G = OnSheet (h.gates ≤ 32)} (sheet_map (Few h) (ltb 32 h.gauges ≡ false) (λ z. le-ltb 32 h.gauges z.0)) (λ a. sheet_map (Few h) (h.gates ≤ 32) (λ z. z.1)) (λ a z. sheet_ok (ltb-false 32 h.gauges (a sheets), z sheets))
    (number_run true space (written Station (number' h.gates none) (10 ∷ bs)) (number true (close Station) ∷ stop line ∷ item Further ∷ []) (opened Station (with_stations hs)) h.gauges i f.0)
    (λ a j. runs_then {H = OnSheet (h.gates ≤ 32)} (sheet_map (h.gates ≤ 32) (ltb 32 h.gates ≡ false) (λ z. le-ltb 32 h.gates z)) (λ b d z. tt) (λ b z. sheet_ok (ltb-false 32 h.gates (b sheets)))
    (number_run true (close Station) (10 ∷ bs) (stop line ∷ item Further ∷ []) (push h.gauges (opened Station (with_stations hs))) h.gates j f.1.0)
    (λ b l. stop_run false line bs (item Further ∷ []) (with_stations (hs ++ h ∷ [])) l))

abbrev pub Sheet : List Counts → List Counts → Type 0
Sheet hs rest = (length hs + length rest ≤ 16) × Each Few rest

stations_run : (rest hs : List Counts) (bs : List ℕ) (i : ℕ) → Each (λ h. Fit (station_parts h) (parts Station)) rest → length hs ≤ 16 →
    Runs (go (stations_text rest bs) (item Further ∷ []) (with_stations hs) i) (at bs (item Further ∷ []) (with_stations (hs ++ rest))) (OnSheet (Sheet hs rest))
stations_run [] hs bs i f l = runs (sheet_ok (omega arith, tt)) i (ap (λ (x : List Counts). go bs (item Further ∷ []) (with_stations x) i) (sym (append-nil hs)))
stations_run (h ∷ rest) hs bs i f l =
    runs_then {G = OnSheet (Few h × Sheet (hs ++ h ∷ []) rest)} (sheet_map (Sheet hs (h ∷ rest)) (length hs < 16) (λ z. let y = z.0 in omega arith))
    (λ a. sheet_map (Sheet hs (h ∷ rest)) (Few h × Sheet (hs ++ h ∷ []) rest) (λ z. (z.1.0, (omega (arith, z.0, length_push hs h), z.1.1))))
    (λ a z. sheet_ok (let y = z sheets in (omega (arith, y.1.0, length_push hs h), (y.0, y.1.1))))
    (further_word (written Station (station_parts h) (10 ∷ stations_text rest bs)) hs i)
    (λ a j. runs_then {H = OnSheet (Few h × Sheet (hs ++ h ∷ []) rest)} (sheet_map (Few h × Sheet (hs ++ h ∷ []) rest) (Few h) (λ z. z.0)) (λ b. sheet_map (Few h × Sheet (hs ++ h ∷ []) rest) (Sheet (hs ++ h ∷ []) rest) (λ z. z.1)) (λ b z. sheet_ok (b sheets, z sheets))
    (site_run h hs (stations_text rest bs) j f.0)
    (λ b k. subst (λ (x : List Counts). Runs (go (stations_text rest bs) (item Further ∷ []) (with_stations (hs ++ h ∷ [])) k) (at bs (item Further ∷ []) (with_stations x)) (OnSheet (Sheet (hs ++ h ∷ []) rest))) (append_assoc hs (h ∷ []) rest)
    (stations_run rest (hs ++ h ∷ []) bs k f.1 (omega (arith, a sheets, length_push hs h)))))

-- what reading a program comes to
abbrev pub final : Prog → Seen
final p = passed (close Run) (put (run_parts p) (opened Run (with_stations p.stations)))

same_room : (p : Prog) (d : Cap) → Room (opened Run (with_stations p.stations)) p.main d → Room (opened Run (with_stations p.stations)) (run_parts p) d
same_room p deeps z = z
same_room p manies z = z
same_room p sheets z = z

room_same : (p : Prog) (d : Cap) → Room (opened Run (with_stations p.stations)) (run_parts p) d → Room (opened Run (with_stations p.stations)) p.main d
room_same p deeps z = z
room_same p manies z = z
room_same p sheets z = z

run_run : (p : Prog) (i : ℕ) → Right p → Runs (go (spelling Run ++ written Run (run_parts p) (10 ∷ [])) (item Further ∷ []) (with_stations p.stations) i) (at [] [] (final p)) (Room (opened Run (with_stations p.stations)) p.main)
run_run p i r =
    runs_by (run_word (written Run (run_parts p) (10 ∷ [])) p.stations i)
    (runs_then (same_room p) (λ a d z. tt) (λ a z d. room_same p d (a d))
    (parts_run (run_parts p) Run (parts Run) (10 ∷ []) (stop line ∷ []) (opened Run (with_stations p.stations)) (i + 1 + 1 + 1 + 1 + 1) (r.start, r.main) refl (omega arith, omega arith, omega arith))
    (λ a j. stop_run false line [] [] (final p) j))

-- the limits other than the length
abbrev pub Caps : Prog → Cap → Type 0
Caps p c = OnSheet (Sheet [] p.stations) c × Room (opened Run (with_stations p.stations)) p.main c

pub prog_run : (p : Prog) → Right p → Runs (go (print p) (item First ∷ []) start_none 0) (at [] [] (final p)) (Caps p)
prog_run p r = by p.stations refl
  where
    by : (l : List Counts) → p.stations ≡ l → Runs (go (print p) (item First ∷ []) start_none 0) (at [] [] (final p)) (Caps p)
    by [] e = absurd (let y = r.some in let z = ap (λ (x : List Counts). length x) e in omega arith)
    by (h ∷ rest) e =
        let fs = subst (λ (x : List Counts). Each (λ h. Fit (station_parts h) (parts Station)) x) e r.stations in
        let bs : List ℕ = spelling Run ++ written Run (run_parts p) (10 ∷ []) in
        runs_by (ap (λ (x : List Counts). go (stations_text x bs) (item First ∷ []) start_none 0) e)
        (runs_as {F = λ c. OnSheet (Sheet [] (h ∷ rest)) c × Room (opened Run (with_stations p.stations)) p.main c} (λ c z. (subst (λ (x : List Counts). OnSheet (Sheet [] x) c) (sym e) z.0, z.1)) (λ c z. (subst (λ (x : List Counts). OnSheet (Sheet [] x) c) e z.0, z.1))
        (runs_by (first_word (written Station (station_parts h) (10 ∷ stations_text rest bs)) [] 0)
        (runs_then {G = λ c. OnSheet (Sheet (h ∷ []) rest) c × Room (opened Run (with_stations p.stations)) p.main c}
        (λ c z. sheet_map (Sheet [] (h ∷ rest)) (Few h) (λ y. y.1.0) c z.0)
        (λ a c z. (sheet_map (Sheet [] (h ∷ rest)) (Sheet (h ∷ []) rest) (λ y. (omega (arith, y.0), y.1.1)) c z.0, z.1))
        (λ a z c. (sheet_ok (let y = (z sheets).0 in (omega (arith, y.0), (a sheets, y.1))) c, (z c).1))
        (site_run h [] (stations_text rest bs) (0 + 1 + 1 + 1 + 1 + 1 + 1 + 1 + 1 + 1) fs.0)
        (λ a j. runs_then {H = λ c. OnSheet (Sheet (h ∷ []) rest) c × Room (opened Run (with_stations p.stations)) p.main c} (λ c z. z.0) (λ b c z. z.1) (λ b z c. (b c, z c))
        (stations_run rest (h ∷ []) bs j fs.1 (omega arith))
        (λ b k. runs_by (ap (λ (x : List Counts). go bs (item Further ∷ []) (with_stations x) k) (sym e)) (run_run p k r))))))
