-- What is known of a form that is one of a list.
use Rattle.std.proofs.Common.{◌≡◌, ℕ, ◌+◌, ◌-◌, false, List, [], ◌∷◌, refl, ap, ◌∙◌, arith}
use Rattle.syntax.specs.Grammar.{Want, wants, words, forms, spelled_out, spelling}
use Rattle.syntax.specs.Grammar.Stop.{close}
use Rattle.syntax.specs.Grammar.Want.{number}
use Rattle.syntax.specs.Reading.{Seen, Outcome, many}
use Rattle.syntax.specs.Texts.{In}
use Rattle.syntax.specs.Texts.In.{here, there}
use Rattle.syntax.specs.Views.{Clean, Clear, from, longer}
use Rattle.syntax.specs.declared.reader.Reader.{Reader}
use Rattle.syntax.specs.declared.grammar.Form.{Form}
use Rattle.syntax.specs.declared.grammar.Form.TheVariants.{Num, Val, Boxed, Unbox, Here, Getb, Getd, Getn, Fst, Snd, Gauge}
use Rattle.syntax.specs.declared.grammar.Sort.{Sort}
use Rattle.syntax.specs.declared.grammar.Sort.TheVariants.{Worlds, Terms}

abbrev pub All : (Form → Type 0) → List Form → Type 0
All P [] = Unit {0}
All P (f ∷ fs) = P f × All P fs

pub in_all : (P : Form → Type 0) (w : List ℕ) (f : Form) (fs : List Form) → In w f (spelled_out fs) → All P fs → P f
in_all P w f [] m h = elim m [ ]
in_all P w f (g ∷ fs) here h = h.0
in_all P w f (g ∷ fs) (there m) h = in_all P w f fs m h.1

-- it is none of them
abbrev pub NoneOf : List Form → Form → Type 0
NoneOf [] f = Unit {0}
NoneOf (g ∷ gs) f = (f ≡ g → ⊥) × NoneOf gs f

pub not_none : (w : List ℕ) (f : Form) (fs : List Form) → In w f (spelled_out fs) → NoneOf fs f → ⊥
not_none w f [] m h = elim m [ ]
not_none w f (g ∷ fs) here h = h.0 refl
not_none w f (g ∷ fs) (there m) h = not_none w f fs m h.1

-- where no line can be one too many
clean_all : (o : Sort) (s : Seen) → ((c : ℕ) → many o c s ≡ false) → (w : List ℕ) → Clean o s w
clean_all o s h [] = tt
clean_all o s h (b ∷ w) = (h b, clean_all o s h w)

pub clear_all : (o : Sort) (s : Seen) → ((c : ℕ) → many o c s ≡ false) → (ks : List (List ℕ × Form)) → Clear o s ks
clear_all o s h [] = tt
clear_all o s h ((w, f) ∷ ks) = (clean_all o s h w, clear_all o s h ks)

pub back : (d : ℕ) → (d + 1) - 1 ≡ d
back d = omega arith

world_open : (w : List ℕ) (f : Form) → In w f (words Worlds) → (k : List Want) → wants f k ≡ number false (close f) ∷ k
world_open w f m k = in_all (λ (g : Form). wants g k ≡ number false (close g) ∷ k) w f (forms Worlds) m (refl, (refl, tt))

pub world_names : (o : Outcome) (c : Reader) (w : List ℕ) (f : Form) (k : List Want) (s : Seen) → In w f (words Worlds) → o ≡ from c (wants f k) s → o ≡ from c (number false (close f) ∷ k) s
world_names o c w f k s m e = e ∙ ap (λ (ws : List Want). from c ws s) (world_open w f m k)

-- a term with a world or with fewer than two parts, or one of the longer
abbrev pub shorter : List Form
shorter = Num ∷ Val ∷ Boxed ∷ Unbox ∷ Here ∷ Getb ∷ Getd ∷ Getn ∷ Fst ∷ Snd ∷ Gauge ∷ []

pub in_longer : (f : Form) → In (spelling f) f (words Terms) → NoneOf shorter f → In (spelling f) f (spelled_out longer)
in_longer f m = in_all (λ (g : Form). NoneOf shorter g → In (spelling g) g (spelled_out longer)) (spelling f) f (forms Terms) m (
  λ h. absurd (h.0 refl),
  (
    λ h. absurd (h.1.0 refl),
    (
      λ h. here,
      (
        λ h. there here,
        (
          λ h. absurd (h.1.1.0 refl),
          (
            λ h. absurd (h.1.1.1.0 refl),
            (
              λ h. absurd (h.1.1.1.1.0 refl),
              (
                λ h. there (there here),
                (
                  λ h. absurd (h.1.1.1.1.1.0 refl),
                  (
                    λ h. absurd (h.1.1.1.1.1.1.0 refl),
                    (
                      λ h. absurd (h.1.1.1.1.1.1.1.0 refl),
                      (
                        λ h. there (there (there here)),
                        (
                          λ h. absurd (h.1.1.1.1.1.1.1.1.0 refl),
                          (
                            λ h. absurd (h.1.1.1.1.1.1.1.1.1.0 refl),
                            (
                              λ h. there (there (there (there here))),
                              (
                                λ h. there (there (there (there (there here)))),
                                (
                                  λ h. there (there (there (there (there (there here))))),
                                  (
                                    λ h. absurd (h.1.1.1.1.1.1.1.1.1.1.0 refl),
                                    (
                                      λ h. there (there (there (there (there (there (there here)))))),
                                      (
                                        λ h. there (there (there (there (there (there (there (there here))))))),
                                        tt,
                                      ),
                                    ),
                                  ),
                                ),
                              ),
                            ),
                          ),
                        ),
                      ),
                    ),
                  ),
                ),
              ),
            ),
          ),
        ),
      ),
    ),
  ),
)
