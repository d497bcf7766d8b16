-- The test of soundness says what soundness says.
use Rattle.std.proofs.Common.{◌≡◌, ℕ, zero, suc, ◌+◌, ◌<◌, ◌≤◌, Bool, true, false, ◌&&◌, ltb, leb, List, [], ◌∷◌, length, get_or, sym, refl, ap, ◌∙◌, arith, ltb-true, lt-ltb, le-leb, leb-true}
use Rattle.instruments.specs.declared.sheet.Station.{Station}
use Rattle.syntax.specs.Reading.{Seen, read}
use Rattle.syntax.specs.Reading.Outcome.{done}
use Rattle.syntax.specs.Sound.{Inside, Small, TySound, WorldSound, TermSound, size}
use Rattle.syntax.specs.Tests.{inside, small, type_test, world_test, term_test, each_row, sound_test}
use Rattle.syntax.proofs.Numbered.{read_sound}
use Rattle.syntax.proofs.Sizes.{read_tree}
use Rattle.syntax.specs.declared.program.Ty.{Ty}
use Rattle.syntax.specs.declared.program.Ty.TheVariants as Ty·row
use Rattle.syntax.specs.declared.program.World.{World}
use Rattle.syntax.specs.declared.program.World.TheVariants.{Site, Bound}
use Rattle.syntax.specs.declared.program.Term.{Term}
use Rattle.syntax.specs.declared.program.Term.TheVariants as Term·row

pub both : (a b : Bool) → a && b ≡ true → (a ≡ true) × (b ≡ true)
both true b e = (refl, e)
both false b e = let z : ◌≡◌ {A = ℕ} 0 1 = cc in absurd (omega arith)

pub and : {a b : Bool} → a ≡ true → b ≡ true → a && b ≡ true
and {a} {b} p q = ap (λ x. x && b) p ∙ q

inside_says : (low high n : ℕ) → inside low high n ≡ true → Inside low high n
inside_says low high n e = let p = both (leb low n) (ltb n high) e in (leb-true low n p.0, ltb-true n high p.1)

inside_tests : (low high n : ℕ) → Inside low high n → inside low high n ≡ true
inside_tests low high n h = and (le-leb low n h.0) (lt-ltb n high h.1)

small_says : (n : ℕ) → small n ≡ true → Small n
small_says n e = ltb-true n 65536 e

small_tests : (n : ℕ) → Small n → small n ≡ true
small_tests n h = lt-ltb n 65536 h

world_says : (w : World) → world_test w ≡ true → WorldSound w
world_says (Site n) e = small_says n e
world_says (Bound n) e = small_says n e

world_tests : (w : World) → WorldSound w → world_test w ≡ true
world_tests (Site n) h = small_tests n h
world_tests (Bound n) h = small_tests n h

pub type_says : (low high : ℕ) (r : Ty) → type_test low high r ≡ true → TySound low high r
type_says low high Ty·row.Num e = tt
type_says low high Ty·row.Never e = tt
type_says low high (Ty·row.Fn a b) e = let p0 = both (inside low high a) (inside low high b) e in (inside_says low high a p0.0, inside_says low high b p0.1)
type_says low high (Ty·row.Boxed a) e = inside_says low high a e
type_says low high (Ty·row.At a) e = inside_says low high a e
type_says low high (Ty·row.Both a b) e = let p0 = both (inside low high a) (inside low high b) e in (inside_says low high a p0.0, inside_says low high b p0.1)

pub type_tests : (low high : ℕ) (r : Ty) → TySound low high r → type_test low high r ≡ true
type_tests low high Ty·row.Num h = refl
type_tests low high Ty·row.Never h = refl
type_tests low high (Ty·row.Fn a b) h = and (inside_tests low high a h.0) (inside_tests low high b h.1)
type_tests low high (Ty·row.Boxed a) h = inside_tests low high a h
type_tests low high (Ty·row.At a) h = inside_tests low high a h
type_tests low high (Ty·row.Both a b) h = and (inside_tests low high a h.0) (inside_tests low high b h.1)

term_says : (types low high : ℕ) (r : Term) → term_test types low high r ≡ true → TermSound types low high r
term_says types low high (Term·row.Num n) e = small_says n e
term_says types low high (Term·row.Value n) e = small_says n e
term_says types low high (Term·row.Lam t a) e = let p0 = both (ltb t types) (inside low high a) e in (ltb-true t types p0.0, inside_says low high a p0.1)
term_says types low high (Term·row.App a b) e = let p0 = both (inside low high a) (inside low high b) e in (inside_says low high a p0.0, inside_says low high b p0.1)
term_says types low high (Term·row.Boxed a) e = inside_says low high a e
term_says types low high (Term·row.Unbox a) e = inside_says low high a e
term_says types low high (Term·row.Here a) e = inside_says low high a e
term_says types low high (Term·row.Letd a b) e = let p0 = both (inside low high a) (inside low high b) e in (inside_says low high a p0.0, inside_says low high b p0.1)
term_says types low high (Term·row.Get m w a) e = let p0 = both (world_test w) (inside low high a) e in (world_says w p0.0, inside_says low high a p0.1)
term_says types low high (Term·row.Pair a b) e = let p0 = both (inside low high a) (inside low high b) e in (inside_says low high a p0.0, inside_says low high b p0.1)
term_says types low high (Term·row.Fst a) e = inside_says low high a e
term_says types low high (Term·row.Snd a) e = inside_says low high a e
term_says types low high (Term·row.Letcc t a) e = let p0 = both (ltb t types) (inside low high a) e in (ltb-true t types p0.0, inside_says low high a p0.1)
term_says types low high (Term·row.Throw t n a) e = let p0 = both (ltb t types) (small n && inside low high a) e in let p1 = both (small n) (inside low high a) p0.1 in (ltb-true t types p0.0, small_says n p1.0, inside_says low high a p1.1)
term_says types low high (Term·row.Go t w a) e = let p0 = both (ltb t types) (world_test w && inside low high a) e in let p1 = both (world_test w) (inside low high a) p0.1 in (ltb-true t types p0.0, world_says w p1.0, inside_says low high a p1.1)
term_says types low high (Term·row.Gauge n) e = small_says n e
term_says types low high (Term·row.Gate n a) e = let p0 = both (small n) (inside low high a) e in (small_says n p0.0, inside_says low high a p0.1)
term_says types low high (Term·row.Below t a b x y) e = let p0 = both (ltb t types) (inside low high a && (inside low high b && (inside low high x && inside low high y))) e in let p1 = both (inside low high a) (inside low high b && (inside low high x && inside low high y)) p0.1 in let p2 = both (inside low high b) (inside low high x && inside low high y) p1.1 in let p3 = both (inside low high x) (inside low high y) p2.1 in (ltb-true t types p0.0, inside_says low high a p1.0, inside_says low high b p2.0, inside_says low high x p3.0, inside_says low high y p3.1)

term_tests : (types low high : ℕ) (r : Term) → TermSound types low high r → term_test types low high r ≡ true
term_tests types low high (Term·row.Num n) h = small_tests n h
term_tests types low high (Term·row.Value n) h = small_tests n h
term_tests types low high (Term·row.Lam t a) h = and (lt-ltb t types h.0) (inside_tests low high a h.1)
term_tests types low high (Term·row.App a b) h = and (inside_tests low high a h.0) (inside_tests low high b h.1)
term_tests types low high (Term·row.Boxed a) h = inside_tests low high a h
term_tests types low high (Term·row.Unbox a) h = inside_tests low high a h
term_tests types low high (Term·row.Here a) h = inside_tests low high a h
term_tests types low high (Term·row.Letd a b) h = and (inside_tests low high a h.0) (inside_tests low high b h.1)
term_tests types low high (Term·row.Get m w a) h = and (world_tests w h.0) (inside_tests low high a h.1)
term_tests types low high (Term·row.Pair a b) h = and (inside_tests low high a h.0) (inside_tests low high b h.1)
term_tests types low high (Term·row.Fst a) h = inside_tests low high a h
term_tests types low high (Term·row.Snd a) h = inside_tests low high a h
term_tests types low high (Term·row.Letcc t a) h = and (lt-ltb t types h.0) (inside_tests low high a h.1)
term_tests types low high (Term·row.Throw t n a) h = and (lt-ltb t types h.0) (and (small_tests n h.1) (inside_tests low high a h.2))
term_tests types low high (Term·row.Go t w a) h = and (lt-ltb t types h.0) (and (world_tests w h.1) (inside_tests low high a h.2))
term_tests types low high (Term·row.Gauge n) h = small_tests n h
term_tests types low high (Term·row.Gate n a) h = and (small_tests n h.0) (inside_tests low high a h.1)
term_tests types low high (Term·row.Below t a b x y) h = and (lt-ltb t types h.0) (and (inside_tests low high a h.1) (and (inside_tests low high b h.2) (and (inside_tests low high x h.3) (inside_tests low high y h.4))))

pub each_says : {A : Type 0} (f : ℕ → A → Bool) (k : ℕ) (xs : List A) (d : A) → each_row f k xs ≡ true → (n : ℕ) → n < length xs → f (k + n) (get_or xs n d) ≡ true
each_says f k [] d e n h = absurd (omega arith)
each_says f k (x ∷ xs) d e zero h = let q : k + 0 ≡ k = omega arith in ap (λ m. f m x) q ∙ (both (f k x) (each_row f (suc k) xs) e).0
each_says f k (x ∷ xs) d e (suc n) h =
    let q : k + suc n ≡ suc k + n = omega arith in
    ap (λ m. f m (get_or xs n d)) q ∙ each_says f (suc k) xs d (both (f k x) (each_row f (suc k) xs) e).1 n (omega arith)

pub each_tests : {A : Type 0} (f : ℕ → A → Bool) (k : ℕ) (xs : List A) (d : A) → ((n : ℕ) → n < length xs → f (k + n) (get_or xs n d) ≡ true) → each_row f k xs ≡ true
each_tests f k [] d h = refl
each_tests f k (x ∷ xs) d h =
    let q : k + 0 ≡ k = omega arith in
    and (sym (ap (λ m. f m x) q) ∙ h 0 (omega arith))
    (each_tests f (suc k) xs d (λ n l. let z : k + suc n ≡ suc k + n = omega arith in sym (ap (λ m. f m (get_or xs n d)) z) ∙ h (suc n) (omega arith)))

-- what the test says
pub record Tested (types : List Ty) (terms : List Term) (stations : List Station) : Type 0 where
  pub types_sound : (n : ℕ) → n < length types → TySound (n + 1) (length types) (get_or types n Ty·row.Num)
  pub terms_sound : (n : ℕ) → n < length terms → TermSound (length types) (n + 1) (length terms) (get_or terms n (Term·row.Num 0))
  pub some_term : 0 < length terms
  pub few_terms : length terms ≤ 1024
  pub few_types : length types ≤ 512
  pub some_station : 0 < length stations
  pub one_tree : size terms 0 ≤ length terms

pub test_says : (types : List Ty) (terms : List Term) (stations : List Station) → sound_test types terms stations ≡ true → Tested types terms stations
test_says types terms stations e =
    let p0 = both (each_row (λ n r. type_test (n + 1) (length types) r) 0 types) (each_row (λ n r. term_test (length types) (n + 1) (length terms) r) 0 terms && (ltb 0 (length terms) && (leb (length terms) 1024 && (leb (length types) 512 && (ltb 0 (length stations) && leb (size terms 0) (length terms)))))) e in
    let p1 = both (each_row (λ n r. term_test (length types) (n + 1) (length terms) r) 0 terms) (ltb 0 (length terms) && (leb (length terms) 1024 && (leb (length types) 512 && (ltb 0 (length stations) && leb (size terms 0) (length terms))))) p0.1 in
    let p2 = both (ltb 0 (length terms)) (leb (length terms) 1024 && (leb (length types) 512 && (ltb 0 (length stations) && leb (size terms 0) (length terms)))) p1.1 in
    let p3 = both (leb (length terms) 1024) (leb (length types) 512 && (ltb 0 (length stations) && leb (size terms 0) (length terms))) p2.1 in
    let p4 = both (leb (length types) 512) (ltb 0 (length stations) && leb (size terms 0) (length terms)) p3.1 in
    let p5 = both (ltb 0 (length stations)) (leb (size terms 0) (length terms)) p4.1 in
    record {
      types_sound = λ n h. type_says (n + 1) (length types) (get_or types n Ty·row.Num) (let z : 0 + n ≡ n = omega arith in ap (λ m. type_test (m + 1) (length types) (get_or types n Ty·row.Num)) (sym z) ∙ each_says (λ n r. type_test (n + 1) (length types) r) 0 types Ty·row.Num p0.0 n h);
      terms_sound = λ n h. term_says (length types) (n + 1) (length terms) (get_or terms n (Term·row.Num 0)) (let z : 0 + n ≡ n = omega arith in ap (λ m. term_test (length types) (m + 1) (length terms) (get_or terms n (Term·row.Num 0))) (sym z) ∙ each_says (λ n r. term_test (length types) (n + 1) (length terms) r) 0 terms (Term·row.Num 0) p1.0 n h);
      some_term = ltb-true 0 (length terms) p2.0;
      few_terms = leb-true (length terms) 1024 p3.0;
      few_types = leb-true (length types) 512 p4.0;
      some_station = ltb-true 0 (length stations) p5.0;
      one_tree = leb-true (size terms 0) (length terms) p5.1;
    }

-- every program that is read passes the test
pub read_tested : (bs : List ℕ) (s : Seen) → read bs ≡ done s → sound_test s.tys s.tms s.stations ≡ true
read_tested bs s e =
    let t = read_sound bs s e in
    and (each_tests (λ n r. type_test (n + 1) (length s.tys) r) 0 s.tys Ty·row.Num (λ n h. let z : 0 + n ≡ n = omega arith in ap (λ m. type_test (m + 1) (length s.tys) (get_or s.tys n Ty·row.Num)) z ∙ type_tests (n + 1) (length s.tys) (get_or s.tys n Ty·row.Num) (t.0 n h)))
    (and (each_tests (λ n r. term_test (length s.tys) (n + 1) (length s.tms) r) 0 s.tms (Term·row.Num 0) (λ n h. let z : 0 + n ≡ n = omega arith in ap (λ m. term_test (length s.tys) (m + 1) (length s.tms) (get_or s.tms n (Term·row.Num 0))) z ∙ term_tests (length s.tys) (n + 1) (length s.tms) (get_or s.tms n (Term·row.Num 0)) (t.1 n h)))
    (and (lt-ltb 0 (length s.tms) t.2.0) (and (le-leb (length s.tms) 1024 t.2.1) (and (le-leb (length s.tys) 512 t.2.2) (and (lt-ltb 0 (length s.stations) t.2.3) (le-leb (size s.tms 0) (length s.tms) (omega (arith, read_tree bs s e))))))))
