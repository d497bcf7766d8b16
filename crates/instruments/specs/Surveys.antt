-- The text of a survey: a line for each gauge, site by site.
use Rattle.std.specs.Prelude.{ℕ, ◌+◌, List, [], ◌∷◌, ◌++◌, Some, None, codes, decimal, Option}
use Rattle.instruments.specs.Registers.{Shown}

-- the line of gauge g of site s, which shows o
abbrev pub gauge_line : ℕ → ℕ → Option ℕ → List ℕ
gauge_line s g None = codes "(silent " ++ (decimal s ++ (codes " " ++ (decimal g ++ codes ")\n")))
gauge_line s g (Some v) = codes "(gauge " ++ (decimal s ++ (codes " " ++ (decimal g ++ (codes " " ++ (decimal v ++ codes ")\n")))))

-- the lines of the gauges of site s from gauge g on
abbrev pub site_text : ℕ → ℕ → List (Option ℕ) → List ℕ
site_text s g [] = []
site_text s g (o ∷ os) = gauge_line s g o ++ site_text s (g + 1) os

-- the lines of the sites from site s on
abbrev pub sites_text : ℕ → Shown → List ℕ
sites_text s [] = []
sites_text s (r ∷ rs) = site_text s 0 r ++ sites_text (s + 1) rs

abbrev pub survey_text : Shown → List ℕ
survey_text rows = sites_text 0 rows
