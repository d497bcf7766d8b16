-- Judging inside a binder: what is bound around it, and what is left when its scope ends.
use Rattle.std.proofs.Common.{◌≡◌, ℕ, ◌+◌, ◌<◌, ◌≤◌, List, [], ◌∷◌, ◌++◌, map, length, take, vec_items, sym, ap, ◌∙◌, subst, add-one, arith}
use Rattle.instruments.specs.declared.sheet.Station.{Station}
use Rattle.syntax.specs.declared.program.Ty.{Ty as TypeRow}
use Rattle.syntax.specs.declared.program.Term.{Term as TermRow}
use Rattle.calculus.specs.Types.{Ty}
use Rattle.calculus.specs.Typing.{binding_value, binding_world, binding_continuation}
use Rattle.checker.specs.declared.context.Bound.{Bound}
use Rattle.checker.specs.declared.context.Height.{Height}
use Rattle.checker.specs.declared.context.Context.{Context}
use Rattle.checker.specs.TypeTable.{meaning, Laid}
use Rattle.checker.specs.Scopes.{values_of, continuations_of, rows_of, meaning_of, context_of, bound_of, around, world_of, Kept, BoundValue, BoundWorld, BoundContinuation}
use Rattle.std.proofs.lemmas.List.{map-append, take-take}
use Rattle.checker.specs.Judging.{checked_program, EachBelow, SoundTerms, Asks, Grown, Same, Under}

pub kept_then : {h : Height} {c d e : Context} → Kept h c d → Kept h d e → Kept h c e
kept_then p q = record { values = q.values ∙ p.values; continuations = q.continuations ∙ p.continuations; written = q.written ∙ p.written }

-- the scope has ended: what was bound is bound
pub ended : {c d e : Context} → Kept c.height c d → Kept c.height d e → e.height ≡ c.height → Same c e
ended p q h = record { height = h; kept = kept_then p q }

-- binding adds no type
pub grown_from : {d e : Context} {m : ℕ} (c : Context) → rows_of d ≡ rows_of c → Grown d m e → Grown c m e
grown_from {d} {e} {m} c r g =
    record {
      laid = g.laid;
      front = subst (λ (x : List TypeRow). take (length x) (rows_of e) ≡ x) r g.front;
      few = omega (arith, g.few, ap length r);
    }

each_append : (n : ℕ) (bs : List Bound) (b : Bound) → EachBelow n bs → b.ty < n → EachBelow n (bs ++ b ∷ [])
each_append n [] b e h = (h, tt)
each_append n (x ∷ bs) b e h = (e.0, each_append n bs b e.1 h)

module _ (c d : Context) (rows : rows_of d ≡ rows_of c) (written : d.written ≡ c.written) where
  pub same_meaning : meaning_of d ≡ meaning_of c
  same_meaning = ap (λ w. meaning w (rows_of d)) written ∙ ap (λ (x : List TypeRow). meaning c.written x) rows

  pub same_program : (stations : List Station) (terms : List TermRow) → checked_program d stations terms ≡ checked_program c stations terms
  same_program stations terms =
      ap (λ (x : List TypeRow). record { sheet = stations; types = x; terms = terms; start = 0 }) (ap (λ w. take w (rows_of d)) written ∙ ap (λ (x : List TypeRow). take c.written x) rows)

  same_laid : Laid c.written (rows_of c) → Laid d.written (rows_of d)
  same_laid l = subst (λ w. Laid w (rows_of d)) (sym written) (subst (Laid c.written) (sym rows) l)

-- a value more
module _ {c d : Context} {b : Bound} (h : BoundValue c d b) where
  value_continuations : continuations_of d ≡ continuations_of c
  value_continuations = ap (λ (x : Height). take x.continuations (vec_items d.continuations)) h.height ∙ h.kept.continuations

  pub value_context : context_of d ≡ binding_value (context_of c) (meaning_of c b.ty) (world_of b.world)
  value_context =
      ap (λ (M : ℕ → Ty). around M (values_of d) d.height.worlds (continuations_of d)) (same_meaning c d h.rows h.kept.written)
      ∙ ap (λ (vs : List Bound). around (meaning_of c) vs d.height.worlds (continuations_of d)) h.values
      ∙ ap (λ (x : Height). around (meaning_of c) (values_of c ++ b ∷ []) x.worlds (continuations_of d)) h.height
      ∙ ap (λ (ks : List Bound). around (meaning_of c) (values_of c ++ b ∷ []) c.height.worlds ks) value_continuations
      ∙ ap (λ vs. record { values = vs; worlds = c.height.worlds; continuations = map (bound_of (meaning_of c)) (continuations_of c) }) (map-append (bound_of (meaning_of c)) (values_of c) (b ∷ []))

  pub value_asks : {terms : List TermRow} {term : ℕ} → Asks c terms term → b.ty < length (rows_of c) → c.height.values + 1 ≤ term → Asks d terms term
  value_asks {terms} {term} a t v =
      let w : d.written ≡ c.written = h.kept.written in
      let l : length (rows_of d) ≡ length (rows_of c) = ap length h.rows in
      record {
        ready = record {
          laid = same_laid c d h.rows w a.ready.laid;
          values = subst (EachBelow (length (rows_of d))) (sym h.values) (subst (λ n. EachBelow n (values_of c ++ b ∷ [])) (sym l) (each_append (length (rows_of c)) (values_of c) b a.ready.values t));
          continuations = subst (EachBelow d.written) (sym value_continuations) (subst (λ n. EachBelow n (continuations_of c)) (sym w) a.ready.continuations);
        };
        sound = subst (λ n. SoundTerms n terms) (sym w) a.sound;
        within = a.within;
        short = a.short;
        room = omega (arith, a.room, w, l);
        few = omega (arith, a.few, w);
        values = omega (arith, v, ap (λ (x : Height). x.values) h.height);
        worlds = omega (arith, a.worlds, ap (λ (x : Height). x.worlds) h.height);
        continuations = omega (arith, a.continuations, ap (λ (x : Height). x.continuations) h.height);
      }

-- a world more
module _ {c d : Context} (h : BoundWorld c d) where
  pub world_values : values_of d ≡ values_of c
  world_values = ap (λ (x : Height). take x.values (vec_items d.values)) h.height ∙ h.kept.values

  world_continuations : continuations_of d ≡ continuations_of c
  world_continuations = ap (λ (x : Height). take x.continuations (vec_items d.continuations)) h.height ∙ h.kept.continuations

  pub world_context : context_of d ≡ binding_world (context_of c)
  world_context =
      ap (λ (M : ℕ → Ty). around M (values_of d) d.height.worlds (continuations_of d)) (same_meaning c d h.rows h.kept.written)
      ∙ ap (λ (vs : List Bound). around (meaning_of c) vs d.height.worlds (continuations_of d)) world_values
      ∙ ap (λ (x : Height). around (meaning_of c) (values_of c) x.worlds (continuations_of d)) h.height
      ∙ ap (λ (ks : List Bound). around (meaning_of c) (values_of c) (c.height.worlds + 1) ks) world_continuations
      ∙ ap (λ n. around (meaning_of c) (values_of c) n (continuations_of c)) (add-one c.height.worlds)

  pub world_asks : {terms : List TermRow} {term : ℕ} → Asks c terms term → c.height.worlds + 1 ≤ term → Asks d terms term
  world_asks {terms} {term} a v =
      let w : d.written ≡ c.written = h.kept.written in
      let l : length (rows_of d) ≡ length (rows_of c) = ap length h.rows in
      record {
        ready = record {
          laid = same_laid c d h.rows w a.ready.laid;
          values = subst (EachBelow (length (rows_of d))) (sym world_values) (subst (λ n. EachBelow n (values_of c)) (sym l) a.ready.values);
          continuations = subst (EachBelow d.written) (sym world_continuations) (subst (λ n. EachBelow n (continuations_of c)) (sym w) a.ready.continuations);
        };
        sound = subst (λ n. SoundTerms n terms) (sym w) a.sound;
        within = a.within;
        short = a.short;
        room = omega (arith, a.room, w, l);
        few = omega (arith, a.few, w);
        values = omega (arith, a.values, ap (λ (x : Height). x.values) h.height);
        worlds = omega (arith, v, ap (λ (x : Height). x.worlds) h.height);
        continuations = omega (arith, a.continuations, ap (λ (x : Height). x.continuations) h.height);
      }

-- a continuation more
module _ {c d : Context} {b : Bound} (h : BoundContinuation c d b) where
  continuation_values : values_of d ≡ values_of c
  continuation_values = ap (λ (x : Height). take x.values (vec_items d.values)) h.height ∙ h.kept.values

  pub continuation_context : context_of d ≡ binding_continuation (context_of c) (meaning_of c b.ty) (world_of b.world)
  continuation_context =
      ap (λ (M : ℕ → Ty). around M (values_of d) d.height.worlds (continuations_of d)) (same_meaning c d h.rows h.kept.written)
      ∙ ap (λ (ks : List Bound). around (meaning_of c) (values_of d) d.height.worlds ks) h.continuations
      ∙ ap (λ (x : Height). around (meaning_of c) (values_of d) x.worlds (continuations_of c ++ b ∷ [])) h.height
      ∙ ap (λ (vs : List Bound). around (meaning_of c) vs c.height.worlds (continuations_of c ++ b ∷ [])) continuation_values
      ∙ ap (λ ks. record { values = map (bound_of (meaning_of c)) (values_of c); worlds = c.height.worlds; continuations = ks }) (map-append (bound_of (meaning_of c)) (continuations_of c) (b ∷ []))

  pub continuation_asks : {terms : List TermRow} {term : ℕ} → Asks c terms term → b.ty < c.written → c.height.continuations + 1 ≤ term → Asks d terms term
  continuation_asks {terms} {term} a t v =
      let w : d.written ≡ c.written = h.kept.written in
      let l : length (rows_of d) ≡ length (rows_of c) = ap length h.rows in
      record {
        ready = record {
          laid = same_laid c d h.rows w a.ready.laid;
          values = subst (EachBelow (length (rows_of d))) (sym continuation_values) (subst (λ n. EachBelow n (values_of c)) (sym l) a.ready.values);
          continuations = subst (EachBelow d.written) (sym h.continuations) (subst (λ n. EachBelow n (continuations_of c ++ b ∷ [])) (sym w) (each_append c.written (continuations_of c) b a.ready.continuations t));
        };
        sound = subst (λ n. SoundTerms n terms) (sym w) a.sound;
        within = a.within;
        short = a.short;
        room = omega (arith, a.room, w, l);
        few = omega (arith, a.few, w);
        values = omega (arith, a.values, ap (λ (x : Height). x.values) h.height);
        worlds = omega (arith, a.worlds, ap (λ (x : Height). x.worlds) h.height);
        continuations = omega (arith, v, ap (λ (x : Height). x.continuations) h.height);
      }

pub kept_under : {h k : Height} {c d e : Context} → Kept k c d → Under h k → vec_items e.values ≡ vec_items d.values → vec_items e.continuations ≡ vec_items d.continuations → e.written ≡ d.written → Kept h c e
kept_under {h} {k} {c} {d} {e} p u a b w =
    let x = u.values in
    let y = u.continuations in
    record {
      values = ap (take h.values) a ∙ sym (take-take h.values k.values (vec_items d.values) x) ∙ ap (take h.values) p.values ∙ take-take h.values k.values (vec_items c.values) x;
      continuations = ap (take h.continuations) b ∙ sym (take-take h.continuations k.continuations (vec_items d.continuations) y) ∙ ap (take h.continuations) p.continuations ∙ take-take h.continuations k.continuations (vec_items c.continuations) y;
      written = w ∙ p.written;
    }

-- what is below a binder of worlds is below the binder of values inside it
pub kept_below : {d e : Context} (c : Context) → d.height ≡ record { values = c.height.values; worlds = c.height.worlds + 1; continuations = c.height.continuations } → Kept d.height d e → Kept c.height d e
kept_below {d} {e} c h k =
    record {
      values = subst (λ (x : Height). take x.values (vec_items e.values) ≡ take x.values (vec_items d.values)) h k.values;
      continuations = subst (λ (x : Height). take x.continuations (vec_items e.continuations) ≡ take x.continuations (vec_items d.continuations)) h k.continuations;
      written = k.written;
    }

-- what was bound is under what is bound
pub under_value : {c d : Context} {b : Bound} → BoundValue c d b → Under c.height d.height
under_value h = record { values = omega (arith, ap (λ (x : Height). x.values) h.height); worlds = omega (arith, ap (λ (x : Height). x.worlds) h.height); continuations = omega (arith, ap (λ (x : Height). x.continuations) h.height) }

pub under_world : {c d : Context} → BoundWorld c d → Under c.height d.height
under_world h = record { values = omega (arith, ap (λ (x : Height). x.values) h.height); worlds = omega (arith, ap (λ (x : Height). x.worlds) h.height); continuations = omega (arith, ap (λ (x : Height). x.continuations) h.height) }

pub under_continuation : {c d : Context} {b : Bound} → BoundContinuation c d b → Under c.height d.height
under_continuation h = record { values = omega (arith, ap (λ (x : Height). x.values) h.height); worlds = omega (arith, ap (λ (x : Height). x.worlds) h.height); continuations = omega (arith, ap (λ (x : Height). x.continuations) h.height) }

pub under_then : {h k l : Height} → Under h k → Under k l → Under h l
under_then p q = record { values = omega (arith, p.values, q.values); worlds = omega (arith, p.worlds, q.worlds); continuations = omega (arith, p.continuations, q.continuations) }
