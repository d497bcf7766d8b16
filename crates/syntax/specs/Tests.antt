-- Soundness as a test that computes: what a place for a text keeps of every program that was read.
use Rattle.std.specs.Prelude.{ℕ, suc, ◌+◌, Bool, true, false, ◌&&◌, List, [], ◌∷◌, length, nat_le, nat_lt}
use Rattle.instruments.specs.declared.sheet.Station.{Station}
use Rattle.syntax.specs.Sound.{size}
use Rattle.syntax.specs.declared.program.Ty.{Ty}
use Rattle.syntax.specs.declared.program.Ty.TheVariants as Ty·row
use Rattle.syntax.specs.declared.program.World.{World}
use Rattle.syntax.specs.declared.program.World.TheVariants.{Site, Bound}
use Rattle.syntax.specs.declared.program.Term.{Term}
use Rattle.syntax.specs.declared.program.Term.TheVariants as Term·row

-- a number of a part is at least `low` and below `high`
abbrev pub inside : ℕ → ℕ → ℕ → Bool
inside low high n = nat_le low n && nat_lt n high

-- a number of the text
abbrev pub small : ℕ → Bool
small n = nat_lt n 65536

-- the parts of a type have numbers from `low` up to and without `high`
abbrev pub type_test : ℕ → ℕ → Ty → Bool
type_test low high Ty·row.Num = true
type_test low high Ty·row.Never = true
type_test low high (Ty·row.Fn a b) = inside low high a && inside low high b
type_test low high (Ty·row.Boxed a) = inside low high a
type_test low high (Ty·row.At a) = inside low high a
type_test low high (Ty·row.Both a b) = inside low high a && inside low high b

abbrev pub world_test : World → Bool
world_test (Site n) = small n
world_test (Bound n) = small n

-- the parts of a term have numbers from `low` up to and without `high`, and its written type is one of `types`
abbrev pub term_test : ℕ → ℕ → ℕ → Term → Bool
term_test types low high (Term·row.Num n) = small n
term_test types low high (Term·row.Value n) = small n
term_test types low high (Term·row.Lam t a) = nat_lt t types && inside low high a
term_test types low high (Term·row.App a b) = inside low high a && inside low high b
term_test types low high (Term·row.Boxed a) = inside low high a
term_test types low high (Term·row.Unbox a) = inside low high a
term_test types low high (Term·row.Here a) = inside low high a
term_test types low high (Term·row.Letd a b) = inside low high a && inside low high b
term_test types low high (Term·row.Get m w a) = world_test w && inside low high a
term_test types low high (Term·row.Pair a b) = inside low high a && inside low high b
term_test types low high (Term·row.Fst a) = inside low high a
term_test types low high (Term·row.Snd a) = inside low high a
term_test types low high (Term·row.Letcc t a) = nat_lt t types && inside low high a
term_test types low high (Term·row.Throw t n a) = nat_lt t types && (small n && inside low high a)
term_test types low high (Term·row.Go t w a) = nat_lt t types && (world_test w && inside low high a)
term_test types low high (Term·row.Gauge n) = small n
term_test types low high (Term·row.Gate n a) = small n && inside low high a
term_test types low high (Term·row.Below t a b x y) = nat_lt t types && (inside low high a && (inside low high b && (inside low high x && inside low high y)))

-- each row passes a test by its number, which begins at k
abbrev pub each_row : {A : Type 0} → (ℕ → A → Bool) → ℕ → List A → Bool
each_row f k [] = true
each_row f k (r ∷ rs) = f k r && each_row f (suc k) rs

-- Numbers lead to rows that are there, parts stand behind their wholes, and the first term has all the others in it; there are 1 to
-- 1,024 terms, at most 512 types and at least one station.
abbrev pub sound_test : List Ty → List Term → List Station → Bool
sound_test types terms stations =
    each_row (λ n r. type_test (n + 1) (length types) r) 0 types
    && (each_row (λ n r. term_test (length types) (n + 1) (length terms) r) 0 terms
    && (nat_lt 0 (length terms) && (nat_le (length terms) 1024 && (nat_le (length types) 512 && (nat_lt 0 (length stations) && nat_le (size terms 0) (length terms))))))

-- a place that is full holds a program that passes the test
abbrev pub kept_test : Bool → List Ty → List Term → List Station → Bool
kept_test true types terms stations = sound_test types terms stations
kept_test false types terms stations = true
