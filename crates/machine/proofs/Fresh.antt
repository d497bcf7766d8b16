-- Empty tables are sound.
use Rattle.std.proofs.Common.{◌≡◌, ℕ, zero, suc, ◌+◌, ◌<◌, ◌≤◌, ◌⊎◌, List, [], ◌∷◌, map, length, take, set, sym, refl, ap, ◌∙◌, subst, inl, inr, ⊎_elim, arith}
use mathlib.Core.Option.{some, none-ne-some}
use lib.ListN.{get_elem?}
use Rattle.machine.specs.Sound.{Each, CellIn, FrameIn, ValueIn, ContinuationIn, RowIn}
use Rattle.calculus.specs.Types.{Sheet}
use Rattle.calculus.specs.Tables.{empty_table}
use Rattle.calculus.specs.Machine
use Rattle.machine.specs.Meaning.{value_of, continuation_of, published_of, kept_of, cells_of, chains_of, state_of}
use Rattle.machine.specs.Sound.{StateIn}
use Rattle.machine.specs.declared.parts.Environment.TheVariants as Env
use Rattle.machine.specs.declared.parts.Continuation.TheVariants as Cont
use Rattle.machine.specs.declared.parts.Phase.TheVariants as Now
use Rattle.machine.specs.declared.parts.State.{State}
use Rattle.machine.specs.Start.{NewRow, NewStore}
use Rattle.machine.specs.declared.parts.Cell.{Cell}
use Rattle.machine.specs.declared.parts.SiteRow.{SiteRow}
use Rattle.machine.specs.declared.parts.Store.{Store}

pub each_none : {A : Type 0} (P : ℕ → A → Type 0) (xs : List A) → xs ≡ [] → Each P xs
each_none P [] e i x q = absurd (none-ne-some x q)
each_none P (y ∷ xs) e i x q = absurd (let z : ◌≡◌ {A = ℕ} 0 1 = cc in omega arith)

row_in : (cs : List Cell) (m : ℕ) (r : SiteRow) → NewRow r → RowIn cs m r
row_in cs m r h =
    let a = ap length h.published in
    let b = ap length h.kept in
    record {
      published_in = each_none (λ _ v. ValueIn cs (length cs) v) r.published.items h.published;
      kept_in = each_none (λ _ c. ContinuationIn m c) r.kept.items h.kept;
      published_few = omega arith;
      kept_few = omega arith;
    }

pub fresh : (t : Store) → t.cells.items ≡ [] → t.frames.items ≡ [] → Each (λ _ r. NewRow r) t.rows → length t.rows ≡ 16 → t.bindings ≡ 0 → t.pairs ≡ 0 → NewStore t
fresh t cs fs rows sixteen b p =
    let u = ap length cs in
    let v = ap length fs in
    record {
      store_in = record {
        cells_in = each_none (λ i c. CellIn t.cells.items i c) t.cells.items cs;
        frames_in = each_none (λ i f. FrameIn t.cells.items i f) t.frames.items fs;
        rows_in = λ i r e. row_in t.cells.items (length t.frames.items) r (rows i r e);
        rows_are = sixteen;
        counts = omega arith;
        bindings_few = omega arith;
        pairs_few = omega arith;
        frames_few = omega arith;
      };
      cells = cs;
      frames = fs;
      bindings = b;
      pairs = p;
      rows = rows;
    }

both_same : {A : Type 0} {x y : A} {xs ys : List A} → x ≡ y → xs ≡ ys → (x ∷ xs) ≡ (y ∷ ys)
both_same p q = λ i. p i ∷ q i

-- the sites' tables of such tables
empty_rows : {A : Type 0} (f : SiteRow → List A) (rows : List SiteRow) (S : Sheet) → Each (λ _ r. f r ≡ []) rows → length S ≤ length rows → take (length S) (map f rows) ≡ empty_table S
empty_rows f rows [] all l = refl
empty_rows f [] (h ∷ S) all l = absurd (omega arith)
empty_rows f (r ∷ rows) (h ∷ S) all l = both_same (all 0 r refl) (empty_rows f rows S (λ k x e. all (suc k) x e) (omega arith))

pub begun_in : (t : Store) (n start : ℕ) → NewStore t → n ≤ 16 → start < n → StateIn n start Cont.Finish (Now.Eval 0 Env.Empty) t
begun_in t n start h few in-sheet = record { store_in = h.store_in; stations_few = few; site_in = in-sheet; work_in = (tt, tt) }

module _ (t : Store) (h : NewStore t) (S : Sheet) (n start : ℕ) (long : length S ≡ n) (few : n ≤ 16) (in-sheet : start < n) where
  abbrev begun : State
  begun = record { stations = n; site = start; continuation = Cont.Finish; phase = Now.Eval 0 Env.Empty; store = t; sound = ∣ begun_in t n start h few in-sheet ∣₁ }

  pub begun_means : state_of begun ≡ Machine.state (record { published = empty_table S; kept = empty_table S }) start Machine.finish (Machine.eval 0 Machine.empty) (record { frames = 0; bindings = 0; pairs = 0 })
  begun_means =
      let rows = t.rows in
      let sixteen = h.store_in.rows_are in
      let P = empty_rows (published_of (cells_of begun)) rows S (λ i r e. ap (map (value_of (cells_of begun))) (h.rows i r e).published) (omega arith) in
      let K = empty_rows (kept_of (chains_of begun)) rows S (λ i r e. ap (map (continuation_of (chains_of begun))) (h.rows i r e).kept) (omega arith) in
      let P' = ap (λ m. take m (map (published_of (cells_of begun)) rows)) (sym long) ∙ P in
      let K' = ap (λ m. take m (map (kept_of (chains_of begun)) rows)) (sym long) ∙ K in
      λ i. Machine.state (record { published = P' i; kept = K' i }) start Machine.finish (Machine.eval 0 Machine.empty) (record { frames = length (h.frames i); bindings = h.bindings i; pairs = h.pairs i })

-- an entry of a list with one entry changed
set_cases : {A : Type 0} (xs : List A) (i k : ℕ) (a r : A) → get_elem? (set xs i a) k ≡ some r → (r ≡ a) ⊎ ((k ≡ i → ⊥) × (get_elem? xs k ≡ some r))
set_cases [] i k a r e = absurd (none-ne-some r e)
set_cases (x ∷ xs) zero zero a r e = inl (cc)
set_cases (x ∷ xs) zero (suc k) a r e = inr ((λ q. omega arith), e)
set_cases (x ∷ xs) (suc i) zero a r e = inr ((λ q. omega arith), e)
set_cases (x ∷ xs) (suc i) (suc k) a r e = ⊎_elim inl (λ h. inr ((λ q. h.0 (omega arith)), h.1)) (set_cases xs i k a r e)

-- one row more is clear
pub cleared_more : (rows : List SiteRow) (i : ℕ) (q : SiteRow) → NewRow q → ((k : ℕ) (r : SiteRow) → get_elem? rows k ≡ some r → k < i → NewRow r) → (k : ℕ) (r : SiteRow) → get_elem? (set rows i q) k ≡ some r → k < i + 1 → NewRow r
cleared_more rows i q new inv k r e l = ⊎_elim (λ s. subst NewRow (sym s) new) (λ h. let m : k < i = after k i l h.0 in inv k r h.1 m) (set_cases rows i k q r e)
  where
    after : (k i : ℕ) → k < i + 1 → (k ≡ i → ⊥) → k < i
    after k i l n = grind (arith, n)
