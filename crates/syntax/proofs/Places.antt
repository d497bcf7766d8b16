-- Where refusal 11 stands, and that what is accepted is a text.
use Rattle.std.proofs.Common.{◌≡◌, ℕ, ◌+◌, Bool, true, false, cond, ltb, ◌⊎◌, List, [], ◌∷◌, ◌++◌, length, sym, refl, ap, ◌∙◌, subst, inl, inr, ⊎_elim, arith}
use Rattle.syntax.specs.Grammar.{Want, wants}
use Rattle.syntax.specs.Grammar.Stop.{space, close, line}
use Rattle.syntax.specs.Grammar.Want.{stop, number, digits, item, word}
use Rattle.syntax.specs.Reading.{Seen, Move, Outcome, go, step, over}
use Rattle.syntax.specs.Reading.Move.{on, off}
use Rattle.syntax.specs.Reading.Outcome.{done, refused}
use Rattle.syntax.proofs.Texts.{Text, shown}
use Rattle.std.proofs.lemmas.List.{append_assoc, append-nil}
use Rattle.syntax.specs.Reading.{start_none, read}
use Rattle.syntax.specs.Texts.In.{here, there}
use Rattle.syntax.proofs.Texts.Text.{end, past, nought, some, rest, pick, spell}
use Rattle.syntax.specs.declared.grammar.Form.TheVariants.{TNum, Bound, Val, Station, Run}
use Rattle.syntax.specs.declared.grammar.Sort.{Sort}
use Rattle.syntax.specs.declared.grammar.Sort.TheVariants.{Types, Worlds, Terms, First, Further}
use Rattle.syntax.proofs.Steps.{go_cons, moved}
use Rattle.syntax.proofs.Theory.{Follows, takes, beyond}
use Rattle.syntax.proofs.Sound.{Plain, Fine, Sound, step_sound, plain_wants}

-- refusal 11 at p over bs: some text begins with the bytes before p, and none with the byte at p too;
-- where the bytes end there, they are no text
pub record Place (bs : List ℕ) (ws : List Want) (i p : ℕ) : Type 0 where
  pub before : List ℕ
  pub after : List ℕ
  pub split : bs ≡ before ++ after
  pub place : p ≡ i + length before
  pub text : Text ws
  pub more : List ℕ
  pub alive : shown text ≡ before ++ more
  pub dead : (d : ℕ) (x y : List ℕ) → after ≡ d ∷ x → (t : Text ws) → shown t ≡ before ++ d ∷ y → ⊥
  pub short : after ≡ [] → (t : Text ws) → shown t ≡ before → ⊥

-- the shortest item of each sort
term : {ws : List Want} → Text ws → Text (item Terms ∷ ws)
term t = pick Terms 40 118 (32 ∷ []) Val (there here) (nought _ (close Val) t)

further : {ws : List Want} → Text ws → Text (item Further ∷ ws)
further t = pick Further 40 114 (117 ∷ 110 ∷ 32 ∷ []) Run (there here) (nought _ space (term (past (close Run) (past line t))))

fill : (o : Sort) {ws : List Want} → Text ws → Text (item o ∷ ws)
fill Types t = pick Types 110 117 [] TNum here (past (close TNum) t)
fill Worlds t = pick Worlds 40 119 (32 ∷ []) Bound (there here) (nought _ (close Bound) t)
fill Terms t = term t
fill First t = pick First 40 115 (116 ∷ 97 ∷ 116 ∷ 105 ∷ 111 ∷ 110 ∷ 32 ∷ []) Station here (nought _ space (nought _ (close Station) (past line (further t))))
fill Further t = further t

pub plain_text : (ws : List Want) → Plain ws → Text ws
plain_text [] p = end
plain_text (stop a ∷ ws) p = past a (plain_text ws p)
plain_text (number k a ∷ ws) p = nought k a (plain_text ws p)
plain_text (digits k q v a ∷ ws) p = absurd p
plain_text (item o ∷ ws) p = fill o (plain_text ws p)
plain_text (word o ks ∷ ws) p = absurd p

-- every state can be completed
pub complete : (ws : List Want) → Fine ws → Text ws
complete [] p = end
complete (stop a ∷ ws) p = past a (plain_text ws p)
complete (number k a ∷ ws) p = nought k a (plain_text ws p)
complete (digits k q v a ∷ ws) p = rest k q v a [] tt p.0 (plain_text ws p.1)
complete (item o ∷ ws) p = fill o (plain_text ws p)
complete (word o ks ∷ ws) p = spell o ks p.1 p.0.b p.0.w p.0.f p.0.found (plain_text (wants p.0.f ws) (plain_wants p.0.f ws p.2))

pub nothing : {v : Want} {vs : List Want} (t : Text (v ∷ vs)) → shown t ≡ [] → ⊥
nothing (past a t) e = let z : ◌≡◌ {A = ℕ} 0 1 = cc in omega arith
nothing (nought k a t) e = let z : ◌≡◌ {A = ℕ} 0 1 = cc in omega arith
nothing (some k a c ds h n hs l t) e = let z : ◌≡◌ {A = ℕ} 0 1 = cc in omega arith
nothing (rest k p v a [] hs l t) e = let z : ◌≡◌ {A = ℕ} 0 1 = cc in omega arith
nothing (rest k p v a (d ∷ ds) hs l t) e = let z : ◌≡◌ {A = ℕ} 0 1 = cc in omega arith
nothing (pick o b d w f m t) e = let z : ◌≡◌ {A = ℕ} 0 1 = cc in omega arith
nothing (spell o ks h b w f m t) e = let z : ◌≡◌ {A = ℕ} 0 1 = cc in omega arith

stuck : (bs : List ℕ) (ws : List Want) (i p : ℕ) → Fine ws → p ≡ i → ((d : ℕ) (x y : List ℕ) → bs ≡ d ∷ x → (t : Text ws) → shown t ≡ d ∷ y → ⊥) → (bs ≡ [] → (t : Text ws) → shown t ≡ [] → ⊥) → Place bs ws i p
stuck bs ws i p f e n m = record { before = []; after = bs; split = refl; place = omega arith; text = complete ws f; more = shown (complete ws f); alive = refl; dead = n; short = m }

step_on : (c : ℕ) (bs : List ℕ) (ws vs : List Want) (s s' : Seen) (i p : ℕ) → step ws s i c ≡ on vs s' → ((u : Text vs) → (t : Text ws) × (shown t ≡ c ∷ shown u)) → Place bs vs (i + 1) p → Place (c ∷ bs) ws i p
step_on c bs ws vs s s' i p e back r =
    let t = back r.text in
    record {
      before = c ∷ r.before;
      after = r.after;
      split = ap (λ x. c ∷ x) r.split;
      place = omega (arith, r.place);
      text = t.0;
      more = r.more;
      alive = t.1 ∙ ap (λ x. c ∷ x) r.alive;
      dead = λ d x y q u h. let f = subst (λ (m : Move). Follows (λ x. beyond x u i) i m (r.before ++ d ∷ y)) e (takes u s i c (r.before ++ d ∷ y) h) in r.dead d x y q f.0 f.1;
      short = λ q u h. let f = subst (λ (m : Move). Follows (λ x. beyond x u i) i m r.before) e (takes u s i c r.before h) in r.short q f.0 f.1;
    }

step_off : (c : ℕ) (bs : List ℕ) (ws : List Want) (s : Seen) (i p q : ℕ) → Fine ws → step ws s i c ≡ off 11 q → p ≡ i → Place (c ∷ bs) ws i p
step_off c bs ws s i p q f e k = stuck (c ∷ bs) ws i p f k (λ d x y g t h.
    let z : d ≡ c = cc in
    let h' : shown t ≡ c ∷ y = h ∙ ap (λ w. w ∷ y) z in
    subst (λ (m : Move). Follows (λ x. beyond x t i) i m y) e (takes t s i c y h') refl)
    (λ q t h. let z : ◌≡◌ {A = ℕ} 0 1 = cc in omega arith)

pub refused_at : (bs : List ℕ) (ws : List Want) (s : Seen) (i p : ℕ) → Fine ws → go bs ws s i ≡ refused 11 p → Place bs ws i p
unfolding go
refused_at [] ws s i p f h = at ws f h
  where
    at : (vs : List Want) → Fine vs → over vs s i ≡ refused 11 p → Place [] vs i p
    at [] g e = absurd (let z : ◌≡◌ {A = ℕ} 0 1 = cc in omega arith)
    at (v ∷ vs) g e = stuck [] (v ∷ vs) i p g (let z : i ≡ p = cc in sym z) (λ d x y q t k. let z : ◌≡◌ {A = ℕ} 0 1 = cc in omega arith) (λ q t k. nothing t k)
refused_at (c ∷ bs) ws s i p f h = at (step ws s i c) refl (step_sound ws s i c f) (sym (go_cons c bs ws s i) ∙ h) (λ vs s' g e. refused_at bs vs s' (i + 1) p g e)
  where
    at : (m : Move) → step ws s i c ≡ m → Sound ws i c m → moved bs i m ≡ refused 11 p → ((vs : List Want) (s' : Seen) → Fine vs → go bs vs s' (i + 1) ≡ refused 11 p → Place bs vs (i + 1) p) → Place (c ∷ bs) ws i p
    at (on vs s') e g k r = step_on c bs ws vs s s' i p e g.1 (r vs s' g.0 k)
    at (off n q) e g k r =
        let n-is : n ≡ 11 = cc in
        let q-is : q ≡ p = cc in
        step_off c bs ws s i p q f (e ∙ ap (λ x. off x q) n-is) (sym q-is ∙ g n-is)

-- what is accepted is a text
pub accepted : (bs : List ℕ) (ws : List Want) (s : Seen) (i : ℕ) (s' : Seen) → Fine ws → go bs ws s i ≡ done s' → (t : Text ws) × (shown t ≡ bs)
unfolding go
accepted [] ws s i s' f h = at ws h
  where
    at : (vs : List Want) → over vs s i ≡ done s' → (t : Text vs) × (shown t ≡ [])
    at [] e = (end, refl)
    at (v ∷ vs) e = absurd (let z : ◌≡◌ {A = ℕ} 0 1 = cc in omega arith)
accepted (c ∷ bs) ws s i s' f h = at (step ws s i c) (step_sound ws s i c f) (sym (go_cons c bs ws s i) ∙ h) (λ vs u g e. accepted bs vs u (i + 1) s' g e)
  where
    at : (m : Move) → Sound ws i c m → moved bs i m ≡ done s' → ((vs : List Want) (u : Seen) → Fine vs → go bs vs u (i + 1) ≡ done s' → (t : Text vs) × (shown t ≡ bs)) → (t : Text ws) × (shown t ≡ c ∷ bs)
    at (on vs u) g k r = let a = r vs u g.0 k in let b = g.1 a.0 in (b.0, b.1 ∙ ap (λ x. c ∷ x) a.1)
    at (off n q) g k r = absurd (let z : ◌≡◌ {A = ℕ} 0 1 = cc in omega arith)

pub short_done : (b : Bool) (o : Outcome) (s : Seen) → cond b (refused 10 65536) o ≡ done s → o ≡ done s
short_done true o s e = absurd (let z : ◌≡◌ {A = ℕ} 0 1 = cc in omega arith)
short_done false o s e = e

pub accepted_right : (bs : List ℕ) (s : Seen) → read bs ≡ done s → (t : Text (item First ∷ [])) × (shown t ≡ bs)
accepted_right bs s e = accepted bs (item First ∷ []) start_none 0 s tt (short_done (ltb 65536 (length bs)) _ s e)

-- the one place
pub record Longer (a b r : List ℕ) : Type 0 where
  pub d : ℕ
  pub x : List ℕ
  pub y : List ℕ
  pub rest : r ≡ d ∷ x
  pub is : b ≡ a ++ d ∷ y

grow : (c e : ℕ) (a b r : List ℕ) → c ≡ e → Longer a b r → Longer (c ∷ a) (e ∷ b) r
grow c e a b r q l = record { d = l.d; x = l.x; y = l.y; rest = l.rest; is = ap (λ (z : ℕ). z ∷ b) (sym q) ∙ ap (λ (z : List ℕ). c ∷ z) l.is }

pub splits : (a r b q : List ℕ) → a ++ r ≡ b ++ q → (a ≡ b) ⊎ (Longer a b r ⊎ Longer b a q)
splits [] r [] q e = inl refl
splits [] r (d ∷ b) q e = inr (inl (record { d = d; x = b ++ q; y = b; rest = e; is = refl }))
splits (d ∷ a) r [] q e = inr (inr (record { d = d; x = a ++ r; y = a; rest = sym e; is = refl }))
splits (c ∷ a) r (d ∷ b) q e =
    let z : c ≡ d = cc in
    let w : a ++ r ≡ b ++ q = cc in
    ⊎_elim (λ (p : a ≡ b). inl (ap (λ (x : ℕ). x ∷ a) z ∙ ap (λ (x : List ℕ). d ∷ x) p))
    (⊎_elim (λ (l : Longer a b r). inr (inl (grow c d a b r z l))) (λ (l : Longer b a q). inr (inr (grow d c b a q (sym z) l))))
    (splits a r b q w)

apart_places : (bs : List ℕ) (ws : List Want) (i p q : ℕ) (P : Place bs ws i p) (Q : Place bs ws i q) → Longer P.before Q.before P.after → ⊥
apart_places bs ws i p q P Q l =
    P.dead l.d l.x (l.y ++ Q.more) l.rest Q.text
    (Q.alive ∙ ap (λ (z : List ℕ). z ++ Q.more) l.is ∙ append_assoc P.before (l.d ∷ l.y) Q.more)

pub one_place : (bs : List ℕ) (ws : List Want) (i p q : ℕ) → Place bs ws i p → Place bs ws i q → p ≡ q
one_place bs ws i p q P Q =
    ⊎_elim (λ (e : P.before ≡ Q.before). P.place ∙ ap (λ (z : List ℕ). i + length z) e ∙ sym Q.place)
    (⊎_elim (λ (l : Longer P.before Q.before P.after). absurd (apart_places bs ws i p q P Q l)) (λ (l : Longer Q.before P.before Q.after). absurd (apart_places bs ws i q p Q P l)))
    (splits P.before P.after Q.before Q.after (sym P.split ∙ Q.split))

pub not_done : (bs : List ℕ) (ws : List Want) (i p : ℕ) (P : Place bs ws i p) (t : Text ws) → shown t ≡ bs → ⊥
not_done bs ws i p P t e = at P.after refl
  where
    at : (l : List ℕ) → P.after ≡ l → ⊥
    at [] q = P.short q t (e ∙ P.split ∙ ap (λ (z : List ℕ). P.before ++ z) q ∙ append-nil P.before)
    at (d ∷ x) q = P.dead d x x q t (e ∙ P.split ∙ ap (λ (z : List ℕ). P.before ++ z) q)
