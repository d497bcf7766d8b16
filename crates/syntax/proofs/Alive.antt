-- What a text can go on with.
use Rattle.std.proofs.Common.{◌≡◌, ℕ, ◌-◌, Bool, false, cond, eqb, leb, List, ◌∷◌, refl, subst}
use Rattle.std.proofs.lemmas.Bool.{and_right}
use Rattle.syntax.specs.Grammar.{Want, words}
use Rattle.syntax.specs.Grammar.Want.{item, word}
use Rattle.syntax.specs.Reading.{Seen, start_none, after, began, spelled, full, begun, many}
use Rattle.syntax.specs.Reading.Move.{on, off}
use Rattle.syntax.proofs.Texts.{Text, shown}
use Rattle.syntax.specs.declared.grammar.Form.{Form}
use Rattle.syntax.specs.declared.grammar.Sort.{Sort}
use Rattle.syntax.specs.declared.grammar.Sort.TheVariants.{Types, Worlds, Terms, First, Further}
use Rattle.syntax.proofs.Sound.{Plain, Fine, Sound, step_sound}
use Rattle.syntax.proofs.Places.{complete}

-- some text of what is wanted goes on with the byte
abbrev pub Goes : List Want → ℕ → Type 0
Goes ws c = (t : Text ws) × ((y : List ℕ) × (shown t ≡ c ∷ y))

pub empty_full : (o : Sort) → full o start_none ≡ false
empty_full Types = refl
empty_full Worlds = refl
empty_full Terms = refl
empty_full First = refl
empty_full Further = refl

pub empty_many : (o : Sort) (c : ℕ) → many o c start_none ≡ false
empty_many Types c = refl
empty_many Worlds c = refl
empty_many Terms c = refl
empty_many First c = refl
empty_many Further c = and_right (eqb c 115) (leb 16 0) refl

from_sound : (ws vs : List Want) (i c : ℕ) (q : Seen) → Sound ws i c (on vs q) → Goes ws c
from_sound ws vs i c q h = let u = complete vs h.0 in let t = h.1 u in (t.0, (shown u, t.1))

pub item_goes : (o : Sort) (ws : List Want) (c : ℕ) (x : List ℕ × Form) (l : List (List ℕ × Form)) → Plain ws → after c (words o) ≡ x ∷ l → Goes (item o ∷ ws) c
item_goes o ws c x l p e =
    let g : Sound (item o ∷ ws) 0 c (began o (x ∷ l) ws start_none 0 c) = subst (λ (k : List (List ℕ × Form)). Sound (item o ∷ ws) 0 c (began o k ws start_none 0 c)) e (step_sound (item o ∷ ws) start_none 0 c p) in
    let f : Sound (item o ∷ ws) 0 c (cond (full o start_none) (off 13 0) (on (word o (x ∷ l) ∷ ws) (begun o start_none))) = subst (λ (b : Bool). Sound (item o ∷ ws) 0 c (cond b (off 12 0) (cond (full o start_none) (off 13 0) (on (word o (x ∷ l) ∷ ws) (begun o start_none))))) (and_right (eqb c 40) (leb 64 0) refl) g in
    let h : Sound (item o ∷ ws) 0 c (on (word o (x ∷ l) ∷ ws) (begun o start_none)) = subst (λ (b : Bool). Sound (item o ∷ ws) 0 c (cond b (off 13 0) (on (word o (x ∷ l) ∷ ws) (begun o start_none)))) (empty_full o) f in
    from_sound (item o ∷ ws) (word o (x ∷ l) ∷ ws) 0 c (begun o start_none) h

pub word_goes : (o : Sort) (ks : List (List ℕ × Form)) (ws : List Want) (c b : ℕ) (w : List ℕ) (f : Form) (l : List (List ℕ × Form)) → Fine (word o ks ∷ ws) → after c ks ≡ (b ∷ w, f) ∷ l → Goes (word o ks ∷ ws) c
word_goes o ks ws c b w f l p e =
    let x : List (List ℕ × Form) = (b ∷ w, f) ∷ l in
    let g : Sound (word o ks ∷ ws) 0 c (spelled o x ws start_none 0 c) = subst (λ (k : List (List ℕ × Form)). Sound (word o ks ∷ ws) 0 c (spelled o k ws start_none 0 c)) e (step_sound (word o ks ∷ ws) start_none 0 c p) in
    let h : Sound (word o ks ∷ ws) 0 c (on (word o x ∷ ws) start_none) = subst (λ (t : Bool). Sound (word o ks ∷ ws) 0 c (cond t (off 14 (0 - 1)) (on (word o x ∷ ws) start_none))) (empty_many o c) g in
    from_sound (word o ks ∷ ws) (word o x ∷ ws) 0 c start_none h
