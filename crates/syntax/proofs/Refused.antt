-- Every refusal that is given holds.
use Rattle.std.proofs.Common.{◌≡◌, ℕ, ◌+◌, ◌-◌, ◌*◌, ◌^◌, ◌<◌, ◌≤◌, Bool, true, false, cond, eqb, ltb, leb, List, [], ◌∷◌, ◌++◌, length, decimal, sym, refl, ap, ◌∙◌, subst, inl, inr, ⊎_elim, arith}
use Rattle.std.proofs.lemmas.Bool.{eqb-true, ltb-true, leb-true, and_parts, both_ways, cases_eq}
use Rattle.std.proofs.lemmas.List.{append_assoc, length_push}
use Rattle.syntax.specs.Grammar.{Stop, Want, byte}
use Rattle.syntax.specs.Grammar.Want.{digits, item, word}
use Rattle.syntax.specs.Reading.{Seen, Move, go, read, start_none, after as rests, digit, full, many, counted}
use Rattle.syntax.specs.Reading.Move.{on, off}
use Rattle.syntax.specs.Reading.Outcome.{refused}
use Rattle.syntax.proofs.Texts.{shown, places, Whole, NthIn}
use Rattle.syntax.proofs.Same.{told, nth_told}
use Rattle.syntax.proofs.Numbers.{own}
use Rattle.syntax.proofs.Spelled.{spelt_out}
use Rattle.std.proofs.lemmas.Fmt.{decimal-digits_value}
use Rattle.syntax.specs.Refusals.{New, new_item, noted}
use Rattle.syntax.proofs.Texts.Text.{rest}
use Rattle.syntax.specs.Refusals.New.{new_line, new_count, new_term, new_type}
use Rattle.syntax.specs.Refusals.{Wrong, Stands, Holds}
use Rattle.syntax.specs.Refusals.Sheeted.{a_line, a_count}
use Rattle.syntax.specs.Refusals.Holds.{too_long, no_text, too_deep, too_many, too_wide}
use Rattle.syntax.specs.declared.grammar.Form.{Form}
use Rattle.syntax.specs.declared.grammar.Sort.{Sort}
use Rattle.syntax.specs.declared.grammar.Sort.TheVariants.{Types, Worlds, Terms, First, Further}
use Rattle.syntax.proofs.Theory.{beyond, places_first}
use Rattle.syntax.proofs.Places.{plain_text, refused_at}
use Rattle.syntax.proofs.Alive.{Goes, item_goes, word_goes}
use Rattle.syntax.proofs.Reach.{Stepped, Reach, held, halved, more_tail, halt}
use Rattle.syntax.proofs.Reach.Stepped.{wrong, stopped, zeroed, digited, numbered, longer, passes, deeper, fuller, started, whole, letter, crowded}
use Rattle.syntax.proofs.Begun.{Choice, nos_after}
use Rattle.syntax.proofs.Begun.Choice.{second, station, run}
use Rattle.syntax.proofs.Ways.{Way, way}

-- a text that goes on from a place that reading comes to
pub record Onward (before : List ℕ) (ws : List Want) (s : Seen) (c : ℕ) : Type 0 where
  pub text : Whole
  pub more : List ℕ
  pub alive : shown text ≡ before ++ c ∷ more
  pub along : Way before ws s text (c ∷ more)

onward : {before : List ℕ} {ws : List Want} {s : Seen} (r : Reach before ws s) (c : ℕ) → Goes ws c → Onward before ws s c
onward {before} r c g =
    let f = (held r).from g.0 in
    let e : shown f.0 ≡ before ++ c ∷ g.1.0 = f.1 ∙ ap (λ (x : List ℕ). before ++ x) g.1.1 in
    record { text = f.0; more = g.1.0; alive = e; along = way r f.0 (c ∷ g.1.0) e }

-- a limit's refusal stands where a text goes on
module _ (before : List ℕ) (c : ℕ) (s : Seen) where
  abbrev Onwards : List Want → Move → Type 0
  Onwards ws (on vs q) = Unit {0}
  Onwards ws (off n p) = (n ≡ 11 → ⊥) → Onward before ws s c

  pub goes_on : {ws : List Want} {m : Move} → Stepped s (length before) c ws m → Reach before ws s → Onwards ws m
  goes_on wrong r = λ z. absurd (z refl)
  goes_on (stopped e) r = tt
  goes_on (zeroed e) r = tt
  goes_on (digited e n) r = tt
  goes_on (numbered e) r = tt
  goes_on (longer e l n) r = tt
  goes_on (passes {k} {j} {v} {a} {ws} e l n) r = λ z. let u = plain_text ws (held r).fine.1 in onward r c (rest k j v a (c ∷ []) (e, tt) l u, (byte a ∷ shown u, refl))
  goes_on (deeper {o} {ws} x l e f g) r = λ z. onward r c (item_goes o ws c x l (held r).fine e)
  goes_on (fuller {o} {ws} x l e f) r = λ z. onward r c (item_goes o ws c x l (held r).fine e)
  goes_on (started x l e f) r = tt
  goes_on (whole f l e) r = tt
  goes_on (letter b w f l e g) r = tt
  goes_on (crowded {o} {ks} {ws} b w f l e g) r = λ z. onward r c (word_goes o ks ws c b w f l (held r).fine e)

-- the text has such a thing where something of the sort is wanted
nth_item : (x : New) (o : Sort) (n : ℕ) (before : List ℕ) (ws : List Want) (s : Seen) (t : Whole) (l : List ℕ) (w : Way before (item o ∷ ws) s t l) → new_item x o ≡ true → length (w.past x) ≡ n → NthIn x n t (length before)
nth_item x o n before ws s t l w e h =
    (w.past x, (beyond x w.left (length before), (w.all x ∙ ap (λ (y : List ℕ). w.past x ++ y) (places_first x w.left (length before) ∙ ap (λ (b : Bool). noted b (length before) (beyond x w.left (length before))) e), h)))

module _ (before after : List ℕ) (c : ℕ) (s : Seen) where
  abbrev all : List ℕ
  all = before ++ c ∷ after

  abbrev stands : (ws : List Want) (o : Onward before ws s c) → Stands all (length before) (c ∷ [])
  stands ws o = record { before = before; after = after; split = refl; place = refl; some = (told o.text).prog; right = (told o.text).right; more = o.more; alive = (told o.text).same ∙ o.alive }

  deep_holds : (o : Sort) (ws : List Want) → Reach before (item o ∷ ws) s → Onward before (item o ∷ ws) s c → c ≡ 40 → 64 ≤ s.depth → Holds all 12 (length before)
  deep_holds o ws r n q d =
      let v = held r in
      too_deep (
        record {
          before = before;
          after = after;
          split = ap (λ (y : ℕ). before ++ y ∷ after) q;
          place = refl;
          some = (told n.text).prog;
          right = (told n.text).right;
          more = n.more;
          alive = (told n.text).same ∙ n.alive ∙ ap (λ (y : ℕ). before ++ y ∷ n.more) q;
        },
        omega (arith, v.count, v.depth, d),
      )

  full_holds : (o : Sort) (ws : List Want) → Onward before (item o ∷ ws) s c → full o s ≡ true → Holds all 13 (length before)
  full_holds Types ws n f =
      let z = n.along.sizes in
      too_many (c, (stands (item Types ∷ ws) n, inr (nth_told new_type 512 n.text (told n.text).prog (length before) ((told n.text).at new_type) (nth_item new_type Types 512 before ws s n.text (c ∷ n.more) n.along refl (omega (arith, z.tys, z.few_tys, leb-true 512 (length s.tys) f))))))
  full_holds Worlds ws n f = absurd (both_ways false refl f)
  full_holds Terms ws n f =
      let z = n.along.sizes in
      too_many (c, (stands (item Terms ∷ ws) n, inl (nth_told new_term 1024 n.text (told n.text).prog (length before) ((told n.text).at new_term) (nth_item new_term Terms 1024 before ws s n.text (c ∷ n.more) n.along refl (omega (arith, z.tms, z.few_tms, leb-true 1024 (length s.tms) f))))))
  full_holds First ws n f = absurd (both_ways false refl f)
  full_holds Further ws n f = absurd (both_ways false refl f)

  count_holds : (k : Bool) (j v : ℕ) (a : Stop) (ws : List Want) → Reach before (digits k j v a ∷ ws) s → Onward before (digits k j v a ∷ ws) s c → digit c ≡ true → v * 10 + (c - 48) < 65536 → counted k (v * 10 + (c - 48)) ≡ true → Holds all 14 j
  count_holds k j v a ws r n d l e =
      let z = and_parts k (ltb 32 (v * 10 + (c - 48))) e in
      let h = (halved r).0 in
      let g = more_tail before j v c h d in
      let w = n.along in
      let y = w.count z.0 in
      let i : ℕ = length before in
      let at : (x : List ℕ) → before ++ c ∷ x ≡ g.pre ++ (g.ds ++ x) = λ x. sym (append_assoc before (c ∷ []) x) ∙ ap (λ (b : List ℕ). b ++ x) g.is ∙ append_assoc g.pre g.ds x in
      let d-is : decimal (v * 10 + (c - 48)) ≡ g.ds =
      subst (λ (x : ℕ). decimal x ≡ g.ds) g.value (decimal-digits_value own g.ds g.all g.some (λ q. absurd (g.lead q)) (subst (λ (x : ℕ). x < 2 ^ 64) (sym g.value) (let b : v * 10 + (c - 48) < 2 ^ 64 = omega arith in b))) in
      let by : (x : List ℕ) → before ++ c ∷ x ≡ g.pre ++ (decimal (v * 10 + (c - 48)) ++ x) = λ x. at x ∙ ap (λ (ds : List ℕ). g.pre ++ (ds ++ x)) (sym d-is) in
      too_wide (a_count (v * 10 + (c - 48)) (ltb-true 32 (v * 10 + (c - 48)) z.1) l
      (record { before = g.pre; after = after; split = by after; place = sym g.place; some = (told n.text).prog; right = (told n.text).right; more = n.more; alive = (told n.text).same ∙ n.alive ∙ by n.more })
      (length y.0) (nth_told new_count (length y.0) n.text (told n.text).prog j ((told n.text).at new_count)
      (y.0, (places new_count w.left i, (w.all new_count ∙ ap (λ (x : List ℕ). x ++ places new_count w.left i) y.1 ∙ append_assoc y.0 (j ∷ []) (places new_count w.left i), refl)))))

  line_holds : (o : Sort) (ks : List (List ℕ × Form)) (ws : List Want) (b : ℕ) (v : List ℕ) (f : Form) (l : List (List ℕ × Form)) → Onward before (word o ks ∷ ws) s c → rests c ks ≡ (b ∷ v, f) ∷ l → many o c s ≡ true → Holds all 14 (length before - 1)
  line_holds Types ks ws b v f l n e m = absurd (both_ways false refl m)
  line_holds Worlds ks ws b v f l n e m = absurd (both_ways false refl m)
  line_holds Terms ks ws b v f l n e m = absurd (both_ways false refl m)
  line_holds First ks ws b v f l n e m = absurd (both_ways false refl m)
  line_holds Further ks ws b v f l n e m = by n.along.lines.0
    where
      z : (eqb c 115 ≡ true) × (leb 16 (length s.stations) ≡ true)
      z = and_parts (eqb c 115) (leb 16 (length s.stations)) m

      no : rests c ks ≡ [] → ⊥
      no x = let w : (b ∷ v, f) ∷ l ≡ [] = sym e ∙ x in let y : ◌≡◌ {A = ℕ} 0 1 = cc in omega arith

      by : Choice before (n.along.past new_line) ks (length s.stations) → Holds all 14 (length before - 1)
      by (second pre k x y q g) =
          let c-is : c ≡ 115 = eqb-true c 115 z.0 in
          let w = n.along in
          let len : length before ≡ length pre + 1 = ap (λ (i : List ℕ). length i) x ∙ length_push pre 40 in
          let k-len : length (w.past new_line) ≡ length k + 1 = ap (λ (i : List ℕ). length i) y ∙ length_push k (length pre) in
          let at : (i : List ℕ) → before ++ c ∷ i ≡ pre ++ (40 ∷ 115 ∷ i) = λ i. ap (λ (j : List ℕ). j ++ c ∷ i) x ∙ append_assoc pre (40 ∷ []) (c ∷ i) ∙ ap (λ (j : ℕ). pre ++ 40 ∷ j ∷ i) c-is in
          let p-is : length pre ≡ length before - 1 = omega arith in
          subst (λ (i : ℕ). Holds all 14 i) p-is
          (too_wide (a_line (record { before = pre; after = after; split = at after; place = refl; some = (told n.text).prog; right = (told n.text).right; more = n.more; alive = (told n.text).same ∙ n.alive ∙ at n.more })
          (nth_told new_line 16 n.text (told n.text).prog (length pre) ((told n.text).at new_line) (
            k,
            (
              places new_line w.left (length before),
              (
                w.all new_line ∙ ap (λ (i : List ℕ). i ++ places new_line w.left (length before)) y ∙ append_assoc k (length pre ∷ []) (places new_line w.left (length before)),
                omega (arith, k-len, w.lines.1, leb-true 16 (length s.stations) z.1, g),
              ),
            ),
          ))))
      by (station x y g) = absurd (⊎_elim no (λ (h : eqb c 115 ≡ false). both_ways (eqb c 115) h z.0) (nos_after c ks y).1)
      by (run x y) = absurd (⊎_elim no (λ (h : eqb c 115 ≡ false). both_ways (eqb c 115) h z.0) (nos_after c ks y).1)

  abbrev Held : Move → Type 0
  Held (on vs q) = Unit {0}
  Held (off n p) = (n ≡ 11 → ⊥) → Holds all n p

  step_holds : {ws : List Want} {m : Move} → Stepped s (length before) c ws m → Reach before ws s → Onwards before c s ws m → Held m
  step_holds wrong r u = λ z. absurd (z refl)
  step_holds (stopped e) r u = tt
  step_holds (zeroed e) r u = tt
  step_holds (digited e n) r u = tt
  step_holds (numbered e) r u = tt
  step_holds (longer e l n) r u = tt
  step_holds (passes {k} {j} {v} {a} {ws} e l n) r u = λ z. count_holds k j v a ws r (u z) e l n
  step_holds (deeper {o} {ws} x l e f g) r u = λ z. deep_holds o ws r (u z) f g
  step_holds (fuller {o} {ws} x l e f) r u = λ z. full_holds o ws (u z) f
  step_holds (started x l e f) r u = tt
  step_holds (whole f l e) r u = tt
  step_holds (letter b w f l e g) r u = tt
  step_holds (crowded {o} {ks} {ws} b w f l e g) r u = λ z. line_holds o ks ws b w f l (u z) e g

limit_holds : (bs : List ℕ) (n p : ℕ) → (n ≡ 11 → ⊥) → go bs (item First ∷ []) start_none 0 ≡ refused n p → Holds bs n p
limit_holds bs n p z e =
    let h = halt bs n p z e in
    subst (λ (x : List ℕ). Holds x n p) (sym h.split) (step_holds h.before h.after h.c h.seen h.found h.reach (goes_on h.before h.c h.seen h.found h.reach) z)

wrong_holds : (bs : List ℕ) (p : ℕ) → go bs (item First ∷ []) start_none 0 ≡ refused 11 p → Wrong bs p
wrong_holds bs p e =
    let h = refused_at bs (item First ∷ []) start_none 0 p tt e in
    let g = told h.text in
    record {
      before = h.before;
      after = h.after;
      split = h.split;
      place = omega (arith, h.place);
      some = g.prog;
      right = g.right;
      more = h.more;
      alive = g.same ∙ h.alive;
      dead = λ d x y k q r l. let s = spelt_out q r in h.dead d x y k s.text (s.is ∙ l);
      short = λ k q r l. let s = spelt_out q r in h.short k s.text (s.is ∙ l);
    }

pub go_holds : (bs : List ℕ) (n p : ℕ) → go bs (item First ∷ []) start_none 0 ≡ refused n p → Holds bs n p
go_holds bs n p e = ⊎_elim
    (λ (z : n ≡ 11). subst (λ (x : ℕ). Holds bs x p) (sym z) (no_text (wrong_holds bs p (e ∙ ap (λ (x : ℕ). refused x p) z))))
    (λ (z : n ≡ 11 → ⊥). limit_holds bs n p z e)
    (cases_eq n 11)

pub read_holds : (bs : List ℕ) (n p : ℕ) → read bs ≡ refused n p → Holds bs n p
read_holds bs n p e = by (ltb 65536 (length bs)) refl e
  where
    by : (b : Bool) → ltb 65536 (length bs) ≡ b → cond b (refused 10 65536) (go bs (item First ∷ []) start_none 0) ≡ refused n p → Holds bs n p
    by true h k =
        let x : 10 ≡ n = cc in
        let y : 65536 ≡ p = cc in
        subst (λ (j : ℕ). Holds bs n j) y (subst (λ (j : ℕ). Holds bs j 65536) x (too_long (ltb-true 65536 (length bs) h)))
    by false h k = go_holds bs n p k
