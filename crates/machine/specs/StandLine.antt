-- Where a machine stands, and the line that says so.
use Rattle.std.specs.Prelude.{◌≡◌, ℕ, List, [], ◌++◌, length, codes, decimal, refl}
use Rattle.std.specs.Fmt.{digits}
use Rattle.std.specs.List.{sum_by}
use Rattle.calculus.specs.Machine
use Rattle.calculus.specs.Run.{Shown, evaluating, returning, finished, Stand, stand_of}
use Rattle.calculus.specs.Marks.{Marks, marks_set}
use Rattle.machine.specs.declared.parts.SiteRow.{SiteRow}
use Rattle.machine.specs.declared.stand.Work.{Work}
use Rattle.machine.specs.declared.stand.Work.TheVariants.{Evaluating, Returning, Finished}
use Rattle.machine.specs.declared.stand.Stand.{Stand as Counted}

-- how many continuations the sites keep
abbrev pub kept_places : List SiteRow → ℕ
kept_places rs = sum_by (λ r. length r.kept.items) rs

-- how many values the sites have published
abbrev pub published_places : List SiteRow → ℕ
published_places rs = sum_by (λ r. length r.published.items) rs

-- what a machine is doing, as the calculus has it
abbrev pub work_of : Work → Shown
work_of Evaluating = evaluating
work_of Returning = returning
work_of Finished = finished

-- Where a machine stands, with as many registers touched as marks are set.
abbrev pub stand_with : Machine.State → Marks → Stand
stand_with M ms = let t = stand_of M [] in record { site = t.site; phase = t.phase; frames = t.frames; kept = t.kept; published = t.published; touched = marks_set ms }

-- what a stand in code says
abbrev pub stand_told : Counted → Stand
stand_told s = record { site = s.site; phase = work_of s.work; frames = s.frames; kept = s.kept; published = s.published; touched = s.touched }

-- the word for what a machine is doing
abbrev pub phase_text : Shown → List ℕ
phase_text evaluating = codes "eval"
phase_text returning = codes "back"
phase_text finished = codes "done"

-- The line: site, phase, the places taken by frames, kept continuations and published values, and the registers touched.
abbrev pub stand_line : Stand → List ℕ
stand_line s =
    codes "(stand " ++ (decimal s.site ++ (codes " " ++ (phase_text s.phase ++
    (codes " " ++ (decimal s.frames ++ (codes " " ++ (decimal s.kept ++ (codes " " ++ (decimal s.published ++
    (codes " " ++ (decimal s.touched ++ codes ")\n")))))))))))

-- a stand with each number
stand_shown : stand_line (record { site = 1; phase = returning; frames = 23; kept = 4; published = 0; touched = 1024 }) ≡ codes "(stand 1 back 23 4 0 1024)\n"
unfolding digits
stand_shown = refl
