-- A form that begins has its row, and one that ends is in its place, and its bracket is closed.
use Rattle.std.proofs.Common.{◌≡◌, ℕ, List, [], ◌∷◌, ◌++◌, length, leb, set, refl, subst}
use Rattle.syntax.specs.Grammar.{Want, wants, words, world_by}
use Rattle.syntax.specs.Grammar.Want.{item}
use Rattle.syntax.specs.Grammar.Stop.{close}
use Rattle.syntax.specs.Reading.{Seen, passed, opened, begun, full}
use Rattle.syntax.specs.Place.{Tables}
use Rattle.syntax.specs.Views.{Clear, from, seen, term_form, parts_of_term, type_form, parts_of_type, get_form, kind_of, count_of}
use Rattle.syntax.specs.declared.grammar.Form.{Form}
use Rattle.syntax.specs.declared.grammar.Sort.{Sort}
use Rattle.syntax.specs.declared.grammar.Sort.TheVariants.{Types, Terms}
use Rattle.syntax.specs.declared.reader.Reader.{Reader}
use Rattle.syntax.specs.declared.program.World.{World}
use Rattle.syntax.specs.declared.program.World.TheVariants.{Site, Bound}
use Rattle.syntax.specs.declared.program.Mobile.{Mobile}
use Rattle.syntax.specs.declared.program.Mobile.TheVariants.{Code, Address, Number}
use Rattle.syntax.specs.declared.program.Ty.{Ty}
use Rattle.syntax.specs.declared.program.Ty.TheVariants.{Never, Fn, At, Both, Num as TyAsNum, Boxed as TyAsBoxed}
use Rattle.syntax.specs.declared.program.Term.{Term}
use Rattle.syntax.specs.declared.program.Term.TheVariants.{Num, Value, Lam, App, Boxed, Unbox, Here, Letd, Get, Pair, Fst, Snd, Letcc, Throw, Go, Gauge, Gate, Below}
use Rattle.syntax.proofs.Picks.{back, clear_all}

-- the tables with other types
abbrev pub with_types : Tables → List Ty → Tables
with_types t l = record { types = l; terms = t.terms; stations = t.stations; start = t.start }

-- the tables with other terms
abbrev pub with_terms : Tables → List Term → Tables
with_terms t l = record { types = t.types; terms = l; stations = t.stations; start = t.start }

world_back : (w : World) → world_by (kind_of w) (count_of w) ≡ w
world_back (Site n) = refl
world_back (Bound n) = refl

module _ (q : Tables) (vs : List ℕ) (d n : ℕ) where
  abbrev Ends : Term → Form → Type 0
  Ends t f = passed (close f) (opened f (seen q (parts_of_term t ++ n ∷ vs) d)) ≡ seen (with_terms q (set q.terms n t)) (n ∷ vs) d

  get_ends : (m : Mobile) (w : World) (a : ℕ) → Ends (Get m w a) (get_form m)
  get_ends Code w a = rw (back d, world_back w)
  get_ends Address w a = rw (back d, world_back w)
  get_ends Number w a = rw (back d, world_back w)

  ends : (t : Term) → Ends t (term_form t)
  ends (Num m) = rw (back d)
  ends (Value m) = rw (back d)
  ends (Lam t b) = rw (back d)
  ends (App f a) = rw (back d)
  ends (Boxed a) = rw (back d)
  ends (Unbox a) = rw (back d)
  ends (Here a) = rw (back d)
  ends (Letd a b) = rw (back d)
  ends (Get m w a) = get_ends m w a
  ends (Pair a b) = rw (back d)
  ends (Fst a) = rw (back d)
  ends (Snd a) = rw (back d)
  ends (Letcc t b) = rw (back d)
  ends (Throw t c a) = rw (back d)
  ends (Go t w a) = rw (back d, world_back w)
  ends (Gauge m) = rw (back d)
  ends (Gate m a) = rw (back d)
  ends (Below t a b l o) = rw (back d)

  pub term_ends : (t : Term) (f : Form) → term_form t ≡ f → Ends t f
  term_ends t f e = subst (λ (g : Form). Ends t g) e (ends t)

  abbrev EndsType : Ty → Form → Type 0
  EndsType t f = passed (close f) (opened f (seen q (parts_of_type t ++ n ∷ vs) d)) ≡ seen (with_types q (set q.types n t)) (n ∷ vs) d

  ends_type : (t : Ty) → EndsType t (type_form t)
  ends_type TyAsNum = refl
  ends_type Never = refl
  ends_type (Fn a b) = rw (back d)
  ends_type (TyAsBoxed a) = rw (back d)
  ends_type (At a) = rw (back d)
  ends_type (Both a b) = rw (back d)

  pub type_ends : (t : Ty) (f : Form) → type_form t ≡ f → EndsType t f
  type_ends t f e = subst (λ (g : Form). EndsType t g) e (ends_type t)

-- no byte of a type's or a term's word is refused
pub types_clear : (s : Seen) → Clear Types s (words Types)
types_clear s = clear_all Types s (λ c. refl) (words Types)

pub terms_clear : (s : Seen) → Clear Terms s (words Terms)
terms_clear s = clear_all Terms s (λ c. refl) (words Terms)

-- a type or a term begins, and its row stands at the end of the table
module _ (r r' : Reader) (q : Tables) (vs : List ℕ) (d : ℕ) (k : List Want) (f : Form) (n : ℕ) where
  abbrev Begins : Sort → ℕ → ℕ → Type 0
  Begins o m len = (s : Seen) → s.depth ≡ d → Clear o (begun o s) (words o) → full o s ≡ leb m len → from r (item o ∷ k) s ≡ from r' (wants f k) (opened f (begun o s))

  pub type_begins : (l : List Ty) → Begins Types 512 (length q.types) → n ≡ length q.types → l ≡ q.types ++ TyAsNum ∷ [] →
      from r (item Types ∷ k) (seen q vs d) ≡ from r' (wants f k) (opened f (seen (with_types q l) (n ∷ vs) d))
  type_begins l b e g = rw (e, g) (b (seen q vs d) refl (types_clear (begun Types (seen q vs d))) refl)

  pub term_begins : (l : List Term) → Begins Terms 1024 (length q.terms) → n ≡ length q.terms → l ≡ q.terms ++ Num 0 ∷ [] →
      from r (item Terms ∷ k) (seen q vs d) ≡ from r' (wants f k) (opened f (seen (with_terms q l) (n ∷ vs) d))
  term_begins l b e g = rw (e, g) (b (seen q vs d) refl (terms_clear (begun Terms (seen q vs d))) refl)
