-- Facts of each form, read off its row.
use Rattle.std.proofs.Common.{◌≡◌, ℕ, suc, false, eqb, List, [], ◌∷◌, length, get_or, drop, refl, ap, arith}
use Rattle.syntax.specs.Grammar.{Kind, Made, row, spelling, last, words, forms, spelled_out, sort_of, parts, width, cells}
use Rattle.syntax.specs.Trees.{own}
use Rattle.syntax.specs.Grammar.Kind.{type, world, term}
use Rattle.syntax.specs.Grammar.Made.{a_type, a_world, a_term, a_station, a_start}
use Rattle.syntax.specs.Texts.{In}
use Rattle.syntax.specs.Texts.In.{here, there}
use Rattle.syntax.specs.declared.grammar.Form.{Form}
use Rattle.syntax.specs.declared.grammar.Form.TheVariants.{TNum, TNone, TFn, TBox, TAt, TBoth, Site, Bound, Num, Val, Lam, App, Boxed, Unbox, Here, Letd, Getb, Getd, Getn, Pair, Fst, Snd, Letcc, Throw, Go, Gauge, Gate, Below, Station, Run}
use Rattle.syntax.specs.declared.grammar.Sort.{Sort}
use Rattle.syntax.specs.declared.grammar.Sort.TheVariants.{Types, Worlds, Terms, First, Further}

-- its word is among those of its sort
pub listed : (f : Form) → In (spelling f) f (words (row f).sort)
listed TNum = here
listed TNone = there here
listed TFn = there (there here)
listed TBox = there (there (there here))
listed TAt = there (there (there (there here)))
listed TBoth = there (there (there (there (there here))))
listed Site = here
listed Bound = there here
listed Num = here
listed Val = there here
listed Lam = there (there here)
listed App = there (there (there here))
listed Boxed = there (there (there (there here)))
listed Unbox = there (there (there (there (there here))))
listed Here = there (there (there (there (there (there here)))))
listed Letd = there (there (there (there (there (there (there here))))))
listed Getb = there (there (there (there (there (there (there (there here)))))))
listed Getd = there (there (there (there (there (there (there (there (there here))))))))
listed Getn = there (there (there (there (there (there (there (there (there (there here)))))))))
listed Pair = there (there (there (there (there (there (there (there (there (there (there here))))))))))
listed Fst = there (there (there (there (there (there (there (there (there (there (there (there here)))))))))))
listed Snd = there (there (there (there (there (there (there (there (there (there (there (there (there here))))))))))))
listed Letcc = there (there (there (there (there (there (there (there (there (there (there (there (there (there here)))))))))))))
listed Throw = there (there (there (there (there (there (there (there (there (there (there (there (there (there (there here))))))))))))))
listed Go = there (there (there (there (there (there (there (there (there (there (there (there (there (there (there (there here)))))))))))))))
listed Gauge = there (there (there (there (there (there (there (there (there (there (there (there (there (there (there (there (there here))))))))))))))))
listed Gate = there (there (there (there (there (there (there (there (there (there (there (there (there (there (there (there (there (there here)))))))))))))))))
listed Below = there (there (there (there (there (there (there (there (there (there (there (there (there (there (there (there (there (there (there here))))))))))))))))))
listed Station = here
listed Run = there here

-- a word has two bytes and more, and begins with a bracket if the form ends with one
pub spelt : (f : Form) → (spelling f ≡ get_or (spelling f) 0 0 ∷ get_or (spelling f) 1 0 ∷ drop 2 (spelling f)) × (eqb (get_or (spelling f) 0 0) 40 ≡ eqb (last f) 41)
spelt TNum = (refl, refl)
spelt TNone = (refl, refl)
spelt TFn = (refl, refl)
spelt TBox = (refl, refl)
spelt TAt = (refl, refl)
spelt TBoth = (refl, refl)
spelt Site = (refl, refl)
spelt Bound = (refl, refl)
spelt Num = (refl, refl)
spelt Val = (refl, refl)
spelt Lam = (refl, refl)
spelt App = (refl, refl)
spelt Boxed = (refl, refl)
spelt Unbox = (refl, refl)
spelt Here = (refl, refl)
spelt Letd = (refl, refl)
spelt Getb = (refl, refl)
spelt Getd = (refl, refl)
spelt Getn = (refl, refl)
spelt Pair = (refl, refl)
spelt Fst = (refl, refl)
spelt Snd = (refl, refl)
spelt Letcc = (refl, refl)
spelt Throw = (refl, refl)
spelt Go = (refl, refl)
spelt Gauge = (refl, refl)
spelt Gate = (refl, refl)
spelt Below = (refl, refl)
spelt Station = (refl, refl)
spelt Run = (refl, refl)

abbrev level : Sort → ℕ
level Types = 0
level Worlds = 1
level Terms = 2
level First = 3
level Further = 4

pub no_line : (k : Kind) → Further ≡ sort_of k → ⊥
no_line type e = let z : ◌≡◌ {A = ℕ} 4 0 = ap level e in omega arith
no_line world e = let z : ◌≡◌ {A = ℕ} 4 1 = ap level e in omega arith
no_line term e = let z : ◌≡◌ {A = ℕ} 4 2 = ap level e in omega arith

-- only a line is followed by something, and only a station counts
pub inner : (f : Form) (k : Kind) → (row f).sort ≡ sort_of k → ((row f).next ≡ []) × ((row f).counts ≡ false)
inner TNum k e = (refl, refl)
inner TNone k e = (refl, refl)
inner TFn k e = (refl, refl)
inner TBox k e = (refl, refl)
inner TAt k e = (refl, refl)
inner TBoth k e = (refl, refl)
inner Site k e = (refl, refl)
inner Bound k e = (refl, refl)
inner Num k e = (refl, refl)
inner Val k e = (refl, refl)
inner Lam k e = (refl, refl)
inner App k e = (refl, refl)
inner Boxed k e = (refl, refl)
inner Unbox k e = (refl, refl)
inner Here k e = (refl, refl)
inner Letd k e = (refl, refl)
inner Getb k e = (refl, refl)
inner Getd k e = (refl, refl)
inner Getn k e = (refl, refl)
inner Pair k e = (refl, refl)
inner Fst k e = (refl, refl)
inner Snd k e = (refl, refl)
inner Letcc k e = (refl, refl)
inner Throw k e = (refl, refl)
inner Go k e = (refl, refl)
inner Gauge k e = (refl, refl)
inner Gate k e = (refl, refl)
inner Below k e = (refl, refl)
inner Station k e = absurd (no_line k e)
inner Run k e = absurd (no_line k e)

-- what it makes is of its sort
abbrev pub Makes : Sort → Made → Type 0
Makes Types (a_type t) = Unit {0}
Makes Types (a_world c) = ⊥
Makes Types (a_term t) = ⊥
Makes Types (a_station g h) = ⊥
Makes Types (a_start n) = ⊥
Makes Worlds (a_type t) = ⊥
Makes Worlds (a_world c) = Unit {0}
Makes Worlds (a_term t) = ⊥
Makes Worlds (a_station g h) = ⊥
Makes Worlds (a_start n) = ⊥
Makes Terms (a_type t) = ⊥
Makes Terms (a_world c) = ⊥
Makes Terms (a_term t) = Unit {0}
Makes Terms (a_station g h) = ⊥
Makes Terms (a_start n) = ⊥
Makes First (a_type t) = ⊥
Makes First (a_world c) = ⊥
Makes First (a_term t) = ⊥
Makes First (a_station g h) = Unit {0}
Makes First (a_start n) = Unit {0}
Makes Further (a_type t) = ⊥
Makes Further (a_world c) = ⊥
Makes Further (a_term t) = ⊥
Makes Further (a_station g h) = Unit {0}
Makes Further (a_start n) = Unit {0}

pub makes : (f : Form) (v : List ℕ) → Makes (row f).sort ((row f).make v)
makes TNum v = tt
makes TNone v = tt
makes TFn v = tt
makes TBox v = tt
makes TAt v = tt
makes TBoth v = tt
makes Site v = tt
makes Bound v = tt
makes Num v = tt
makes Val v = tt
makes Lam v = tt
makes App v = tt
makes Boxed v = tt
makes Unbox v = tt
makes Here v = tt
makes Letd v = tt
makes Getb v = tt
makes Getd v = tt
makes Getn v = tt
makes Pair v = tt
makes Fst v = tt
makes Snd v = tt
makes Letcc v = tt
makes Throw v = tt
makes Go v = tt
makes Gauge v = tt
makes Gate v = tt
makes Below v = tt
makes Station v = tt
makes Run v = tt

-- a word of a kind's sort is a form's of that sort
abbrev Sorted : Sort → List Form → Type 0
Sorted o [] = Unit {0}
Sorted o (f ∷ fs) = ((row f).sort ≡ o) × Sorted o fs

in_sorted : (o : Sort) (fs : List Form) → Sorted o fs → (w : List ℕ) (f : Form) → In w f (spelled_out fs) → (w ≡ spelling f) × ((row f).sort ≡ o)
in_sorted o [] h w f m = elim m [ ]
in_sorted o (g ∷ fs) h w f here = (refl, h.0)
in_sorted o (g ∷ fs) h w f (there m) = in_sorted o fs h.1 w f m

sorted : (k : Kind) → Sorted (sort_of k) (forms (sort_of k))
sorted type = (refl, (refl, (refl, (refl, (refl, (refl, tt))))))
sorted world = (refl, (refl, tt))
sorted term = (refl, (refl, (refl, (refl, (refl, (refl, (refl, (refl, (refl, (refl, (refl, (refl, (refl, (refl, (refl, (refl, (refl, (refl, (refl, (refl, tt))))))))))))))))))))

pub in_kind : (k : Kind) (w : List ℕ) (f : Form) → In w f (words (sort_of k)) → (w ≡ spelling f) × ((row f).sort ≡ sort_of k)
in_kind k w f m = in_sorted (sort_of k) (forms (sort_of k)) (sorted k) w f m

-- as many values as its sort has
pub own_width : (f : Form) (a b : ℕ) (v : List ℕ) → length v ≡ width (parts f) → length (own ((row f).make v) a b v) ≡ cells (row f).sort
own_width TNum a b v h = refl
own_width TNone a b v h = refl
own_width TFn a b v h = refl
own_width TBox a b v h = refl
own_width TAt a b v h = refl
own_width TBoth a b v h = refl
own_width Site a b v h = ap suc h
own_width Bound a b v h = ap suc h
own_width Num a b v h = refl
own_width Val a b v h = refl
own_width Lam a b v h = refl
own_width App a b v h = refl
own_width Boxed a b v h = refl
own_width Unbox a b v h = refl
own_width Here a b v h = refl
own_width Letd a b v h = refl
own_width Getb a b v h = refl
own_width Getd a b v h = refl
own_width Getn a b v h = refl
own_width Pair a b v h = refl
own_width Fst a b v h = refl
own_width Snd a b v h = refl
own_width Letcc a b v h = refl
own_width Throw a b v h = refl
own_width Go a b v h = refl
own_width Gauge a b v h = refl
own_width Gate a b v h = refl
own_width Below a b v h = refl
own_width Station a b v h = refl
own_width Run a b v h = refl
