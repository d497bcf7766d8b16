-- What holds of a text is refused, there or sooner.
use Rattle.std.proofs.Common.{◌≡◌, ℕ, ◌+◌, ◌-◌, ◌*◌, ◌^◌, ◌<◌, ◌≤◌, Bool, true, false, cond, ◌&&◌, eqb, ltb, leb, ◌⊎◌, List, [], ◌∷◌, ◌++◌, length, decimal, sym, refl, ap, ◌∙◌, subst, inl, inr, ⊎_elim, arith}
use Rattle.std.proofs.lemmas.Bool.{ltb-false, leb-true, le-leb, le-ltb, lt-ltb, and_parts, and_from, both_ways, cases_eq, cases_lt}
use Rattle.std.proofs.lemmas.List.{append_assoc, length_push, length-append}
use Rattle.syntax.specs.Grammar.{Stop, Want, byte, words}
use Rattle.syntax.specs.Grammar.Want.{stop, number, digits, item, word}
use Rattle.syntax.specs.Reading.{Seen, Outcome, go, read, start_none, after as rests, began, begun, digit, full}
use Rattle.syntax.specs.Reading.Move.{on, off}
use Rattle.syntax.specs.Reading.Outcome.{done, refused}
use Rattle.syntax.specs.Texts.{In, Digits, valued}
use Rattle.syntax.proofs.Texts.{Text, shown, Whole, NthIn}
use Rattle.syntax.proofs.Same.{beyond_above, sorted, told, nth_in}
use Rattle.syntax.proofs.Spelled.{spelt_out}
use Rattle.syntax.proofs.Numbers.{own}
use Rattle.std.proofs.lemmas.Fmt.{digits_decimal, digits_value-decimal}
use Rattle.syntax.specs.Refusals.{New}
use Rattle.syntax.specs.Texts.In.{here, there}
use Rattle.syntax.proofs.Texts.Text.{end, past, nought, some, rest, pick, spell}
use Rattle.syntax.specs.Refusals.New.{new_line, new_count, new_term, new_type}
use Rattle.syntax.specs.Refusals.{tally, Wrong, Stands, Nth, Deep, Many, Sheeted, Holds, Before, Given}
use Rattle.syntax.specs.Refusals.Sheeted.{a_line, a_count}
use Rattle.syntax.specs.Refusals.Holds.{too_long, no_text, too_deep, too_many, too_wide}
use Rattle.syntax.specs.declared.grammar.Form.{Form}
use Rattle.syntax.specs.declared.grammar.Sort.{Sort}
use Rattle.syntax.specs.declared.grammar.Sort.TheVariants.{Types, Worlds, Terms, First, Further}
use Rattle.syntax.specs.Promises.{Texts, whole, RefusedExactly, AcceptedExactly, Answered}
use Rattle.syntax.specs.Trees.{Prog}
use Rattle.syntax.proofs.Exact.{read_right}
use Rattle.syntax.proofs.Steps.{go_cons, moved, number_some, digits_sheet, digits_on}
use Rattle.syntax.proofs.Theory.{Follows, takes, mark, beyond, places_first, no_digit, valued_ge}
use Rattle.syntax.proofs.Places.{Longer, splits, Place, not_done, one_place, refused_at, accepted}
use Rattle.syntax.proofs.Refused.{Onward, goes_on, read_holds}
use Rattle.syntax.proofs.Depths.{Inv, Clean, Neat, closers, not_open}
use Rattle.syntax.proofs.Reach.{held, Comes, come, Halt, halt}
use Rattle.syntax.proofs.Reach.Comes.{stops, comes}
use Rattle.syntax.proofs.Begun.{both_lines, Lined}
use Rattle.syntax.proofs.Ways.{Way, way}

here_wanted : (x : New) (n : ℕ) (before : List ℕ) (ws : List Want) (s : Seen) (t : Whole) (to-come : List ℕ) (w : Way before ws s t to-come) → NthIn x n t (length before) → (mark x ws ≡ true) × (length (w.past x) ≡ n)
here_wanted x n before ws s t to-come w h =
    let i : ℕ = length before in
    sorted i n (w.past x) h.0 h.1.0 (beyond x w.left i) (w.below x) (beyond_above x w.left i) h.1.1.1 (mark x ws)
    (ap (λ (l : List ℕ). w.past x ++ l) (sym (places_first x w.left i)) ∙ sym (w.all x) ∙ h.1.1.0)

-- what is wanted where a thing begins
never : {A : Type 0} → false ≡ true → A
never e = absurd (both_ways false refl e)

heads_term : (ws : List Want) → mark new_term ws ≡ true → (vs : List Want) × (ws ≡ item Terms ∷ vs)
heads_term [] e = never e
heads_term (stop a ∷ ws) e = never e
heads_term (number k a ∷ ws) e = never e
heads_term (digits k p v a ∷ ws) e = never e
heads_term (item Types ∷ ws) e = never e
heads_term (item Worlds ∷ ws) e = never e
heads_term (item Terms ∷ ws) e = (ws, refl)
heads_term (item First ∷ ws) e = never e
heads_term (item Further ∷ ws) e = never e
heads_term (word o ks ∷ ws) e = never e

heads_type : (ws : List Want) → mark new_type ws ≡ true → (vs : List Want) × (ws ≡ item Types ∷ vs)
heads_type [] e = never e
heads_type (stop a ∷ ws) e = never e
heads_type (number k a ∷ ws) e = never e
heads_type (digits k p v a ∷ ws) e = never e
heads_type (item Types ∷ ws) e = (ws, refl)
heads_type (item Worlds ∷ ws) e = never e
heads_type (item Terms ∷ ws) e = never e
heads_type (item First ∷ ws) e = never e
heads_type (item Further ∷ ws) e = never e
heads_type (word o ks ∷ ws) e = never e

heads_line : (ws : List Want) → mark new_line ws ≡ true → (vs : List Want) × ((ws ≡ item First ∷ vs) ⊎ (ws ≡ item Further ∷ vs))
heads_line [] e = never e
heads_line (stop a ∷ ws) e = never e
heads_line (number k a ∷ ws) e = never e
heads_line (digits k p v a ∷ ws) e = never e
heads_line (item Types ∷ ws) e = never e
heads_line (item Worlds ∷ ws) e = never e
heads_line (item Terms ∷ ws) e = never e
heads_line (item First ∷ ws) e = (ws, inl refl)
heads_line (item Further ∷ ws) e = (ws, inr refl)
heads_line (word o ks ∷ ws) e = never e

heads_count : (ws : List Want) → mark new_count ws ≡ true → (a : Stop) × ((vs : List Want) × (ws ≡ number true a ∷ vs))
heads_count [] e = never e
heads_count (stop a ∷ ws) e = never e
heads_count (number true a ∷ ws) e = (a, (ws, refl))
heads_count (number false a ∷ ws) e = never e
heads_count (digits k p v a ∷ ws) e = never e
heads_count (item o ∷ ws) e = never e
heads_count (word o ks ∷ ws) e = never e

-- a bracket opens only where an item is wanted
neat_first : (b : Bool) (w : List ℕ) (f : Form) (ks : List (List ℕ × Form)) → Neat b ks → In (40 ∷ w) f ks → ⊥
neat_first b w f ks h here = both_ways false refl h.0
neat_first b w f ks h (there {ks = l} m) = neat_first b w f l h.2 m

no_digit_bracket : digit 40 ≡ true → ⊥
no_digit_bracket e = both_ways false refl e

heads_item : {ws : List Want} (u : Text ws) (y : List ℕ) → Clean ws → shown u ≡ 40 ∷ y → (o : Sort) × ((vs : List Want) × (ws ≡ item o ∷ vs))
heads_item end y h e = absurd (let z : ◌≡◌ {A = ℕ} 0 1 = cc in omega arith)
heads_item (past a t) y h e = absurd (let z : byte a ≡ 40 = cc in both_ways (eqb (byte a) 40) (not_open a) (ap (λ (x : ℕ). eqb x 40) z))
heads_item (nought k a t) y h e = absurd (let z : ◌≡◌ {A = ℕ} 48 40 = cc in omega arith)
heads_item (some k a c ds g n hs l t) y h e = absurd (let z : c ≡ 40 = cc in no_digit_bracket (ap digit (sym z) ∙ g))
heads_item (rest k p v a [] hs l t) y h e = absurd (let z : byte a ≡ 40 = cc in both_ways (eqb (byte a) 40) (not_open a) (ap (λ (x : ℕ). eqb x 40) z))
heads_item (rest k p v a (d ∷ ds) hs l t) y h e = absurd (let z : d ≡ 40 = cc in no_digit_bracket (ap digit (sym z) ∙ hs.0))
heads_item (pick {ws} o b d w f m t) y h e = (o, (ws, refl))
heads_item (spell o ks g b w f m t) y h e = absurd (let z : b ≡ 40 = cc in neat_first h.0 w f ks h.1 (subst (λ (x : ℕ). In (x ∷ w) f ks) z m))

-- an item begins with a byte that a word of its sort has first
item_word : (o : Sort) (ws : List Want) (u : Text (item o ∷ ws)) (c : ℕ) (y : List ℕ) → shown u ≡ c ∷ y → (x : List ℕ × Form) × ((l : List (List ℕ × Form)) × (rests c (words o) ≡ x ∷ l))
item_word o ws u c y e = by (rests c (words o)) refl (takes u start_none 0 c y e)
  where
    by : (l : List (List ℕ × Form)) → rests c (words o) ≡ l → Follows (λ x. beyond x u 0) 0 (began o l ws start_none 0 c) y → (x : List ℕ × Form) × ((l : List (List ℕ × Form)) × (rests c (words o) ≡ x ∷ l))
    by [] h f = absurd (f refl)
    by (x ∷ l) h f = (x, (l, h))

-- reading is refused, by n at p or sooner
pub record Sooner (bs : List ℕ) (m q : ℕ) : Type 0 where
  pub n : ℕ
  pub p : ℕ
  pub answer : go bs (item First ∷ []) start_none 0 ≡ refused n p
  pub order : (p < q) ⊎ ((p ≡ q) × (n ≤ m))

module _ (o : Sort) (vs : List Want) (s : Seen) (i c : ℕ) (after : List ℕ) (x : List ℕ × Form) (l : List (List ℕ × Form)) (e : rests c (words o) ≡ x ∷ l) where
  item_go : go (c ∷ after) (item o ∷ vs) s i ≡ moved after i (cond (eqb c 40 && leb 64 s.depth) (off 12 i) (cond (full o s) (off 13 i) (on (word o (x ∷ l) ∷ vs) (begun o s))))
  item_go = go_cons c after (item o ∷ vs) s i ∙ ap (λ (k : List (List ℕ × Form)). moved after i (began o k vs s i c)) e

  item_deep : c ≡ 40 → 64 ≤ s.depth → go (c ∷ after) (item o ∷ vs) s i ≡ refused 12 i
  item_deep q h =
      item_go ∙ ap (λ (b : Bool). moved after i (cond b (off 12 i) (cond (full o s) (off 13 i) (on (word o (x ∷ l) ∷ vs) (begun o s)))))
      (and_from (eqb c 40) (leb 64 s.depth) (ap (λ (y : ℕ). eqb y 40) q) (le-leb 64 s.depth h))

  item_full : full o s ≡ true → (go (c ∷ after) (item o ∷ vs) s i ≡ refused 12 i) ⊎ (go (c ∷ after) (item o ∷ vs) s i ≡ refused 13 i)
  item_full f = by (eqb c 40 && leb 64 s.depth) item_go
    where
      by : (b : Bool) → go (c ∷ after) (item o ∷ vs) s i ≡ moved after i (cond b (off 12 i) (cond (full o s) (off 13 i) (on (word o (x ∷ l) ∷ vs) (begun o s)))) →
          (go (c ∷ after) (item o ∷ vs) s i ≡ refused 12 i) ⊎ (go (c ∷ after) (item o ∷ vs) s i ≡ refused 13 i)
      by true h = inl h
      by false h = inr (h ∙ ap (λ (b : Bool). moved after i (cond b (off 13 i) (on (word o (x ∷ l) ∷ vs) (begun o s)))) f)

deep_at : (before after more : List ℕ) (ws : List Want) (s : Seen) → Inv before ws s → (u : Text ws) → shown u ≡ 40 ∷ more → tally 41 before + 64 ≤ tally 40 before → go (40 ∷ after) ws s (length before) ≡ refused 12 (length before)
deep_at before after more ws s v u e h = by (heads_item u more v.clean e)
  where
    at : (o : Sort) (vs : List Want) → Inv before (item o ∷ vs) s → (t : Text (item o ∷ vs)) → shown t ≡ 40 ∷ more → go (40 ∷ after) (item o ∷ vs) s (length before) ≡ refused 12 (length before)
    at o vs w t f = let y = item_word o vs t 40 more f in item_deep o vs s (length before) 40 after y.0 y.1.0 y.1.1 refl (omega (arith, h, w.count, w.depth))

    by : (o : Sort) × ((vs : List Want) × (ws ≡ item o ∷ vs)) → go (40 ∷ after) ws s (length before) ≡ refused 12 (length before)
    by k = subst (λ (z : List Want). Inv before z s → (t : Text z) → shown t ≡ 40 ∷ more → go (40 ∷ after) z s (length before) ≡ refused 12 (length before)) (sym k.1.1) (at k.0 k.1.0) v u e

deep_law : (bs : List ℕ) (q : ℕ) → Deep bs q → Sooner bs 12 q
deep_law bs q d = by (come x.before (40 ∷ x.after) bs x.split)
  where
    x : Stands bs q (40 ∷ [])
    x = d.0

    by : Comes bs x.before (40 ∷ x.after) → Sooner bs 12 q
    by (stops n p h e) = record { n = n; p = p; answer = e; order = inl (omega (arith, x.place)) }
    by (comes ws s r e) =
        let t = spelt_out x.some x.right in
        let w = way r t.text (40 ∷ x.more) (t.is ∙ x.alive) in
        record { n = 12; p = length x.before; answer = e ∙ deep_at x.before x.after x.more ws s (held r) w.left w.is d.1; order = inr (sym x.place, omega arith) }

full_law : (bs : List ℕ) (q c : ℕ) (x : Stands bs q (c ∷ [])) (y : New) (o : Sort) (n : ℕ) → Nth y n x.some q → ((ws : List Want) → mark y ws ≡ true → (vs : List Want) × (ws ≡ item o ∷ vs)) →
    ((ws : List Want) (s : Seen) (t : Whole) (w : Way x.before ws s t (c ∷ x.more)) → length (w.past y) ≡ n → full o s ≡ true) → Sooner bs 13 q
full_law bs q c x y o n h heads fills = by (come x.before (c ∷ x.after) bs x.split)
  where
    by : Comes bs x.before (c ∷ x.after) → Sooner bs 13 q
    by (stops m p l e) = record { n = m; p = p; answer = e; order = inl (omega (arith, x.place)) }
    by (comes ws s r e) =
        let t = spelt_out x.some x.right in
        let w = way r t.text (c ∷ x.more) (t.is ∙ x.alive) in
        let a = here_wanted y n x.before ws s t.text (c ∷ x.more) w (nth_in y n t.text x.some (length x.before) (sym (t.at y)) (subst (Nth y n x.some) x.place h)) in
        let k = heads ws a.0 in
        let g : (go (c ∷ x.after) ws s (length x.before) ≡ refused 12 (length x.before)) ⊎ (go (c ∷ x.after) ws s (length x.before) ≡ refused 13 (length x.before)) =
        subst (λ (z : List Want). (u : Text z) → shown u ≡ c ∷ x.more → (go (c ∷ x.after) z s (length x.before) ≡ refused 12 (length x.before)) ⊎ (go (c ∷ x.after) z s (length x.before) ≡ refused 13 (length x.before))) (sym k.1)
        (λ u f. let b = item_word o k.0 u c x.more f in item_full o k.0 s (length x.before) c x.after b.0 b.1.0 b.1.1 (fills ws s t.text w a.1))
        w.left w.is in
        ⊎_elim (λ (f : go (c ∷ x.after) ws s (length x.before) ≡ refused 12 (length x.before)). record { n = 12; p = length x.before; answer = e ∙ f; order = inr (sym x.place, omega arith) })
        (λ (f : go (c ∷ x.after) ws s (length x.before) ≡ refused 13 (length x.before)). record { n = 13; p = length x.before; answer = e ∙ f; order = inr (sym x.place, omega arith) }) g

many_law : (bs : List ℕ) (q : ℕ) → Many bs q → Sooner bs 13 q
many_law bs q d = ⊎_elim
    (λ (h : Nth new_term 1024 d.1.0.some q). full_law bs q d.0 d.1.0 new_term Terms 1024 h heads_term (λ ws s t w e. le-leb 1024 (length s.tms) (let z = w.sizes in omega (arith, z.tms))))
    (λ (h : Nth new_type 512 d.1.0.some q). full_law bs q d.0 d.1.0 new_type Types 512 h heads_type (λ ws s t w e. le-leb 512 (length s.tys) (let z = w.sizes in omega (arith, z.tys))))
    d.1.1

-- the 17th line
line_goes : (s : Seen) (i : ℕ) (after : List ℕ) → s.depth ≡ 0 → 16 ≤ length s.stations → go (40 ∷ 115 ∷ after) (item Further ∷ []) s i ≡ refused 14 i
line_goes s i after d h =
    go_cons 40 (115 ∷ after) (item Further ∷ []) s i
    ∙ ap (λ (b : ℕ). moved (115 ∷ after) i (cond (leb 64 b) (off 12 i) (on (word Further both_lines ∷ []) s))) d
    ∙ go_cons 115 after (word Further both_lines ∷ []) s (i + 1)
    ∙ ap (λ (b : Bool). moved after (i + 1) (cond b (off 14 (i + 1 - 1)) (on (word Further (rests 115 both_lines) ∷ []) s))) (le-leb 16 (length s.stations) h)
    ∙ ap (refused 14) (let z : i + 1 - 1 ≡ i = omega arith in z)

line_law : (bs : List ℕ) (q : ℕ) (x : Stands bs q (40 ∷ 115 ∷ [])) → Nth new_line 16 x.some q → Sooner bs 14 q
line_law bs q x h = by (come x.before (40 ∷ 115 ∷ x.after) bs x.split)
  where
    by : Comes bs x.before (40 ∷ 115 ∷ x.after) → Sooner bs 14 q
    by (stops m p l e) = record { n = m; p = p; answer = e; order = inl (omega (arith, x.place)) }
    by (comes ws s r e) =
        let i : ℕ = length x.before in
        let t = spelt_out x.some x.right in
        let w = way r t.text (40 ∷ 115 ∷ x.more) (t.is ∙ x.alive) in
        let a = here_wanted new_line 16 x.before ws s t.text (40 ∷ 115 ∷ x.more) w (nth_in new_line 16 t.text x.some (length x.before) (sym (t.at new_line)) (subst (Nth new_line 16 x.some) x.place h)) in
        let k = heads_line ws a.0 in
        let v = held r in
        ⊎_elim
        (λ (f : ws ≡ item First ∷ k.0). absurd (let z = subst (λ (y : List Want). Lined x.before (w.past new_line) y (length s.stations)) f w.lines in omega (arith, z.0, a.1)))
        (λ (f : ws ≡ item Further ∷ k.0).
        let z = subst (λ (y : List Want). Lined x.before (w.past new_line) y (length s.stations)) f w.lines in
        let g : ws ≡ item Further ∷ [] = f ∙ ap (λ (y : List Want). item Further ∷ y) z.2 in
        let d : s.depth ≡ 0 = sym (subst (λ (y : List Want). closers y ≡ s.depth) g v.depth) in
        record {
          n = 14;
          p = i;
          answer = e ∙ ap (λ (y : List Want). go (40 ∷ 115 ∷ x.after) y s (length x.before)) g ∙ line_goes s (length x.before) x.after d (omega (arith, z.0, a.1));
          order = inr (sym x.place, omega arith);
        })
        k.1

-- a count that passes 32
digits_law : (a : Stop) (ws : List Want) (s : Seen) (after : List ℕ) (ds more : List ℕ) (j v i : ℕ) (u : Text (digits true j v a ∷ ws)) → shown u ≡ ds ++ more → Digits ds → 32 < valued v ds → v ≤ 32 →
    go (ds ++ after) (digits true j v a ∷ ws) s i ≡ refused 14 j
digits_law a ws s after [] more j v i u e h l m = absurd (omega arith)
digits_law a ws s after (d ∷ ds) more j v i u e h l m = by u e (λ w f o. digits_law a ws s after ds more j (v * 10 + (d - 48)) (i + 1) w f h.1 l o)
  where
    by : (u : Text (digits true j v a ∷ ws)) → shown u ≡ d ∷ ds ++ more →
        ((w : Text (digits true j (v * 10 + (d - 48)) a ∷ ws)) → shown w ≡ ds ++ more → v * 10 + (d - 48) ≤ 32 → go (ds ++ after) (digits true j (v * 10 + (d - 48)) a ∷ ws) s (i + 1) ≡ refused 14 j) →
        go (d ∷ ds ++ after) (digits true j v a ∷ ws) s i ≡ refused 14 j
    by (rest k j v a [] hs g t) f r = absurd (let z : byte a ≡ d = cc in both_ways (digit (byte a)) (no_digit a) (ap digit z ∙ h.0))
    by (rest k j v a (c ∷ cs) hs g t) f r =
        let z : c ≡ d = cc in
        let y : cs ++ byte a ∷ shown t ≡ ds ++ more = cc in
        let g' : valued (v * 10 + (d - 48)) cs < 65536 = subst (λ (b : ℕ). valued (v * 10 + (b - 48)) cs < 65536) z g in
        let b : v * 10 + (d - 48) < 65536 = omega (arith, valued_ge (v * 10 + (d - 48)) cs) in
        ⊎_elim
        (λ (o : 32 < v * 10 + (d - 48)). digits_sheet (d ∷ ds ++ after) i true a ws s d (ds ++ after) refl j v (no_digit a) h.0 (d - 48) refl b (lt-ltb 32 (v * 10 + (d - 48)) o))
        (λ (o : v * 10 + (d - 48) ≤ 32). digits_on (d ∷ ds ++ after) i true a ws s d (ds ++ after) refl j v (no_digit a) h.0 (d - 48) refl b (le-ltb 32 (v * 10 + (d - 48)) o)
        ∙ r (rest true j (v * 10 + (d - 48)) a cs hs.1 g' t) y o)
        (cases_lt 32 (v * 10 + (d - 48)))

number_law : (a : Stop) (ws : List Want) (s : Seen) (after : List ℕ) (ds more : List ℕ) (i : ℕ) (u : Text (number true a ∷ ws)) → shown u ≡ ds ++ more → Digits ds → 32 < valued 0 ds →
    go (ds ++ after) (number true a ∷ ws) s i ≡ refused 14 i
number_law a ws s after [] more i u e h l = absurd (omega arith)
number_law a ws s after (d ∷ ds) more i u e h l = by u e
  where
    by : (u : Text (number true a ∷ ws)) → shown u ≡ d ∷ ds ++ more → go (d ∷ ds ++ after) (number true a ∷ ws) s i ≡ refused 14 i
    by (nought k a t) f = absurd (zero ds (let z : byte a ∷ shown t ≡ ds ++ more = cc in z) (let z : 48 ≡ d = cc in z) h l)
      where
        zero : (es : List ℕ) → byte a ∷ shown t ≡ es ++ more → 48 ≡ d → Digits (d ∷ es) → 32 < valued 0 (d ∷ es) → ⊥
        zero [] g z k b = omega arith
        zero (c ∷ es) g z k b = let y : byte a ≡ c = cc in both_ways (digit (byte a)) (no_digit a) (ap digit y ∙ k.1.0)
    by (some k a c cs g n hs b t) f =
        let z : c ≡ d = cc in
        let y : cs ++ byte a ∷ shown t ≡ ds ++ more = cc in
        let b' : valued (d - 48) cs < 65536 = subst (λ (x : ℕ). valued (x - 48) cs < 65536) z b in
        let v : 0 * 10 + (d - 48) ≡ d - 48 = omega arith in
        let q = and_parts (leb 48 d) (leb d 57) h.0 in
        number_some (d ∷ ds ++ after) i true a ws s d (ds ++ after) refl h.0 (λ r. n (z ∙ r)) (d - 48) refl
        ∙ digits_law a ws s after ds more i (d - 48) (i + 1) (rest true i (d - 48) a cs hs b' t) y h.1 (subst (λ (x : ℕ). 32 < valued x ds) v l) (omega (arith, leb-true d 57 q.1))

count_law : (bs : List ℕ) (q n : ℕ) (ds : List ℕ) → Digits ds → 32 < valued 0 ds → (x : Stands bs q ds) → Nth new_count n x.some q → Sooner bs 14 q
count_law bs q n ds g l x h = by (come x.before (ds ++ x.after) bs x.split)
  where
    by : Comes bs x.before (ds ++ x.after) → Sooner bs 14 q
    by (stops m p l e) = record { n = m; p = p; answer = e; order = inl (omega (arith, x.place)) }
    by (comes ws s r e) =
        let t = spelt_out x.some x.right in
        let w = way r t.text (ds ++ x.more) (t.is ∙ x.alive) in
        let a = here_wanted new_count n x.before ws s t.text (ds ++ x.more) w (nth_in new_count n t.text x.some (length x.before) (sym (t.at new_count)) (subst (Nth new_count n x.some) x.place h)) in
        let k = heads_count ws a.0 in
        record {
          n = 14;
          p = length x.before;
          answer = e ∙ subst (λ (z : List Want). (u : Text z) → shown u ≡ ds ++ x.more → go (ds ++ x.after) z s (length x.before) ≡ refused 14 (length x.before)) (sym k.1.1)
              (λ u f. number_law k.0 k.1.0 s x.after ds x.more (length x.before) u f g l) w.left w.is;
          order = inr (sym x.place, omega arith);
        }

sheet_law : (bs : List ℕ) (q : ℕ) → Sheeted bs q → Sooner bs 14 q
sheet_law bs q (a_line x h) = line_law bs q x h
sheet_law bs q (a_count v l u x n h) =
    let b : v < 2 ^ 64 = omega arith in
    count_law bs q n (decimal v) (digits_decimal own v b) (subst (λ (y : ℕ). 32 < y) (sym (digits_value-decimal own v b)) l) x h

-- no text goes on so
place : (bs : List ℕ) (q : ℕ) → Wrong bs q → Place bs (item First ∷ []) 0 q
place bs q w =
    let t = spelt_out w.some w.right in
    record {
      before = w.before;
      after = w.after;
      split = w.split;
      place = omega (arith, w.place);
      text = t.text;
      more = w.more;
      alive = t.is ∙ w.alive;
      dead = λ d x y e u h. let g = told u in w.dead d x y e g.prog g.right (g.same ∙ h);
      short = λ e u h. let g = told u in w.short e g.prog g.right (g.same ∙ h);
    }

wrong_law : (bs : List ℕ) (q : ℕ) → Wrong bs q → Sooner bs 11 q
wrong_law bs q w = at (go bs (item First ∷ []) start_none 0) refl
  where
    later : (n p : ℕ) (h : Halt bs n p) → Onward h.before h.wanted h.seen h.c → p < q
    later n p h o = ⊎_elim
        (λ (e : w.before ≡ h.before ++ h.c ∷ []). omega (arith, h.low, w.place, ap (λ (x : List ℕ). length x) e, length_push h.before h.c))
        (⊎_elim
        (λ (l : Longer w.before (h.before ++ h.c ∷ []) w.after). absurd (w.dead l.d l.x (l.y ++ o.more) l.rest (told o.text).prog (told o.text).right
        ((told o.text).same ∙ o.alive ∙ sym (append_assoc h.before (h.c ∷ []) o.more) ∙ ap (λ (x : List ℕ). x ++ o.more) l.is ∙ append_assoc w.before (l.d ∷ l.y) o.more)))
        (λ (l : Longer (h.before ++ h.c ∷ []) w.before h.after).
        let e : length w.before ≡ length (h.before ++ h.c ∷ []) + length (l.d ∷ l.y) = ap (λ (x : List ℕ). length x) l.is ∙ length-append (h.before ++ h.c ∷ []) (l.d ∷ l.y) in
        omega (arith, h.low, w.place, e, length_push h.before h.c)))
        (splits w.before w.after (h.before ++ h.c ∷ []) h.after (sym w.split ∙ h.split ∙ sym (append_assoc h.before (h.c ∷ []) h.after)))

    at : (o : Outcome) → go bs (item First ∷ []) start_none 0 ≡ o → Sooner bs 11 q
    at (done s) e = let a = accepted bs (item First ∷ []) start_none 0 s tt e in absurd (not_done bs (item First ∷ []) 0 q (place bs q w) a.0 a.1)
    at (refused n p) e = ⊎_elim
        (λ (z : n ≡ 11). record {
          n = n;
          p = p;
          answer = e;
          order = inr (one_place bs (item First ∷ []) 0 p q (refused_at bs (item First ∷ []) start_none 0 p tt (e ∙ ap (λ (x : ℕ). refused x p) z)) (place bs q w), omega arith);
        })
        (λ (z : n ≡ 11 → ⊥). let h = halt bs n p z e in record { n = n; p = p; answer = e; order = inl (later n p h (goes_on h.before h.c h.seen h.found h.reach z)) })
        (cases_eq n 11)

go_law : (bs : List ℕ) {m q : ℕ} → Holds bs m q → length bs ≤ 65536 → (m ≡ 10 → ⊥) × Sooner bs m q
go_law bs (too_long h) l = absurd (omega arith)
go_law bs (no_text {p} h) l = (omega arith, wrong_law bs p h)
go_law bs (too_deep {p} h) l = (omega arith, deep_law bs p h)
go_law bs (too_many {p} h) l = (omega arith, many_law bs p h)
go_law bs (too_wide {p} h) l = (omega arith, sheet_law bs p h)

-- what holds of the bytes has an answer that comes before it
abbrev Answer : List ℕ → ℕ → ℕ → Type 0
Answer bs m q = (n : ℕ) × ((p : ℕ) × ((read bs ≡ refused n p) × Before n p m q))

answer : (bs : List ℕ) (m q : ℕ) → Holds bs m q → Answer bs m q
answer bs m q h = by (ltb 65536 (length bs)) refl
  where
    by : (b : Bool) → ltb 65536 (length bs) ≡ b → Answer bs m q
    by true e = (10, (65536, (ap (λ (t : Bool). cond t (refused 10 65536) (go bs (item First ∷ []) start_none 0)) e, inl refl)))
    by false e =
        let a = go_law bs h (ltb-false 65536 (length bs) e) in
        (a.1.n, (a.1.p, (ap (λ (t : Bool). cond t (refused 10 65536) (go bs (item First ∷ []) start_none 0)) e ∙ a.1.answer, inr (a.0, a.1.order))))

given : (bs : List ℕ) (n p : ℕ) → read bs ≡ refused n p → Given bs n p
given bs n p e = record {
  holds = read_holds bs n p e;
  first = λ m q h.
      let a = answer bs m q h in
      let z : refused a.0 a.1.0 ≡ refused n p = sym a.1.1.0 ∙ e in
      let x : a.0 ≡ n = cc in
      let y : a.1.0 ≡ p = cc in
      subst (λ (j : ℕ). Before n j m q) y (subst (λ (j : ℕ). Before j a.1.0 m q) x a.1.1.1);
}

-- of two refusals that each come before the other one is the other
ten : (bs : List ℕ) {n p : ℕ} → Holds bs n p → n ≡ 10 → p ≡ 65536
ten bs (too_long h) e = refl
ten bs (no_text h) e = absurd (omega arith)
ten bs (too_deep h) e = absurd (omega arith)
ten bs (too_many h) e = absurd (omega arith)
ten bs (too_wide h) e = absurd (omega arith)

same_given : (bs : List ℕ) (n p m q : ℕ) → Holds bs n p → Holds bs m q → Before n p m q → Before m q n p → (n ≡ m) × (p ≡ q)
same_given bs n p m q h k (inl e) (inl f) = (omega arith, ten bs h e ∙ sym (ten bs k f))
same_given bs n p m q h k (inl e) (inr f) = absurd (f.0 e)
same_given bs n p m q h k (inr e) (inl f) = absurd (e.0 f)
same_given bs n p m q h k (inr e) (inr f) = both e.1 f.1
  where
    both : (p < q) ⊎ ((p ≡ q) × (n ≤ m)) → (q < p) ⊎ ((q ≡ p) × (m ≤ n)) → (n ≡ m) × (p ≡ q)
    both (inl x) (inl y) = absurd (omega arith)
    both (inl x) (inr y) = absurd (omega (arith, y.0))
    both (inr x) (inl y) = absurd (omega (arith, x.0))
    both (inr x) (inr y) = (omega (arith, x.1, y.1), x.0)

pub refused_exactly : RefusedExactly
refused_exactly bs n p = (
  λ e. given bs n p e,
  λ g.
      let a = answer bs n p g.holds in
      let h = read_holds bs a.0 a.1.0 a.1.1.0 in
      let z = same_given bs n p a.0 a.1.0 g.holds h (g.first a.0 a.1.0 h) a.1.1.1 in
      a.1.1.0 ∙ ap (λ (x : ℕ). refused x a.1.0) (sym z.0) ∙ ap (refused n) (sym z.1),
)

pub accepted_exactly : AcceptedExactly
accepted_exactly bs = (λ s e n p h. let a = answer bs n p h in let z : done s ≡ refused a.0 a.1.0 = sym e ∙ a.1.1.0 in let y : ◌≡◌ {A = ℕ} 0 1 = cc in omega arith, λ none. by none (read bs) refl)
  where
    by : ((n p : ℕ) → Holds bs n p → ⊥) → (o : Outcome) → read bs ≡ o → (s : Seen) × (read bs ≡ done s)
    by none (done s) e = (s, e)
    by none (refused n p) e = absurd (none n p (read_holds bs n p e))

pub answered : Answered
answered bs = by (read bs) refl
  where
    by : (o : Outcome) → read bs ≡ o → ((p : Prog) × (Texts bs p × (read bs ≡ done (whole p)))) ⊎ ((n : ℕ) × ((p : ℕ) × (Given bs n p × (read bs ≡ refused n p))))
    by (done s) e = let a = read_right bs s e in inl (a.0, (a.1.0, e ∙ ap done a.1.1))
    by (refused n p) e = inr (n, (p, (given bs n p e, e)))
