-- The text of a type or a term, a level deeper.
use Rattle.std.proofs.Common.{◌≡◌, ℕ, suc, ◌+◌, ◌-◌, ◌<◌, List, [], ◌∷◌, ◌++◌, length, get_or, take, drop, Some, None, codes, sym, refl, ap, ◌∙◌, append_assoc, append-nil, arith}
use Rattle.std.specs.List.{slice_get}
use Rattle.std.proofs.lemmas.Option.{slice_get-get_or}
use Rattle.std.proofs.lemmas.List.{take-append-drop, drop_more, take_more}
use Rattle.instruments.specs.declared.sheet.Station.{Station}
use Rattle.syntax.specs.Grammar.{spelling, last}
use Rattle.syntax.specs.Spelt.{type_at, nth_term, type_inner, type_text, term_inner, term_text, station_line, station_lines}
use Rattle.syntax.specs.Views.{type_form, term_form}
use Rattle.syntax.specs.declared.grammar.Form.{Form}
use Rattle.syntax.specs.declared.program.Ty.{Ty}
use Rattle.syntax.specs.declared.program.Term.{Term}

down : (k : ℕ) → (k ≡ 0 → ⊥) → k ≡ suc (k - 1)
down k h = omega arith

pub type_more : (k : ℕ) (ts : List Ty) (n : ℕ) (node : Ty) (f : Form) (w : List ℕ) (b : ℕ) → (k ≡ 0 → ⊥) → node ≡ type_at ts n → f ≡ type_form node → w ≡ spelling f → b ≡ last f →
    type_text k ts n ≡ w ++ (type_inner node (type_text (k - 1) ts) ++ b ∷ [])
type_more k ts n node f w b h p q r e =
    ap (λ (x : ℕ). type_text x ts n) (down k h)
    ∙ ap (λ (t : Ty). spelling (type_form t) ++ (type_inner t (type_text (k - 1) ts) ++ last (type_form t) ∷ [])) (sym p)
    ∙ ap (λ (g : Form). spelling g ++ (type_inner node (type_text (k - 1) ts) ++ last g ∷ [])) (sym q)
    ∙ ap (λ (x : List ℕ). x ++ (type_inner node (type_text (k - 1) ts) ++ last f ∷ [])) (sym r)
    ∙ ap (λ (x : ℕ). w ++ (type_inner node (type_text (k - 1) ts) ++ x ∷ [])) (sym e)

pub term_more : (k : ℕ) (ts : List Ty) (ms : List Term) (n : ℕ) (node : Term) (f : Form) (w : List ℕ) → (k ≡ 0 → ⊥) → node ≡ nth_term ms n → f ≡ term_form node → w ≡ spelling f →
    term_text k ts ms n ≡ w ++ (term_inner node (type_text (k - 1) ts) (term_text (k - 1) ts ms) ++ codes ")")
term_more k ts ms n node f w h p q r =
    ap (λ (x : ℕ). term_text x ts ms n) (down k h)
    ∙ ap (λ (t : Term). spelling (term_form t) ++ (term_inner t (type_text (k - 1) ts) (term_text (k - 1) ts ms) ++ codes ")")) (sym p)
    ∙ ap (λ (g : Form). spelling g ++ (term_inner node (type_text (k - 1) ts) (term_text (k - 1) ts ms) ++ codes ")")) (sym q)
    ∙ ap (λ (x : List ℕ). x ++ (term_inner node (type_text (k - 1) ts) (term_text (k - 1) ts ms) ++ codes ")")) (sym r)

-- one station's line among the others
lines_append : (xs ys : List Station) → station_lines (xs ++ ys) ≡ station_lines xs ++ station_lines ys
lines_append [] ys = refl
lines_append (x ∷ xs) ys = ap (λ (l : List ℕ). station_line x ++ l) (lines_append xs ys) ∙ sym (append_assoc (station_line x) (station_lines xs) (station_lines ys))

-- the lines before a station, its own, and those behind it
pub lines_cut : (xs : List Station) (i : ℕ) (d : Station) → i < length xs → station_lines xs ≡ station_lines (take i xs) ++ (station_line (get_or xs i d) ++ station_lines (drop (i + 1) xs))
lines_cut xs i d h =
    ap station_lines (sym (take-append-drop i xs)) ∙ lines_append (take i xs) (drop i xs)
    ∙ ap (λ (l : List Station). station_lines (take i xs) ++ station_lines l) (drop_more xs i d h)

pub lines_more : (xs : List Station) (i : ℕ) (d : Station) → i < length xs → station_lines (take (i + 1) xs) ≡ station_lines (take i xs) ++ station_line (get_or xs i d)
lines_more xs i d h =
    ap station_lines (take_more xs i d h) ∙ lines_append (take i xs) (get_or xs i d ∷ [])
    ∙ ap (λ (l : List ℕ). station_lines (take i xs) ++ l) (append-nil (station_line (get_or xs i d)))
