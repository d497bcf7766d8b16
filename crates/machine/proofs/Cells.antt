-- A new cell: what holds stays, and all that there was means the same.
use Rattle.std.proofs.Common.{◌≡◌, ℕ, suc, ◌+◌, ◌≤◌, List, [], ◌∷◌, ◌++◌, map, length, get_or, sym, refl, ap, ◌∙◌, subst, arith}
use Rattle.rows.specs.Rows.{Rows}
use Rattle.machine.specs.Meaning.{Meaning, blank, cell_of, meanings, value_of, chains, published_of}
use Rattle.machine.specs.Sound.{CellIn, FrameIn, Each, RowIn, StoreIn}
use Rattle.machine.specs.Store.{with_cells, CellPushed}
use Rattle.machine.proofs.Growth.{default_here, each_push, map_same}
use Rattle.machine.proofs.Stays.{value_up, cell_up, task_up, value_stays, meanings_push, meanings_length, chains_stay}
use Rattle.machine.proofs.Frames.{length_push}
use Rattle.machine.specs.declared.parts.Cell.{Cell}
use Rattle.machine.specs.declared.parts.SiteRow.{SiteRow}
use Rattle.machine.specs.declared.parts.Store.{Store}

row_more : (cs ds : List Cell) (m : ℕ) (r : SiteRow) → length cs ≤ length (cs ++ ds) → RowIn cs m r → RowIn (cs ++ ds) m r
row_more cs ds m r l h = record {
  published_in = λ i v e. value_up cs ds (length cs) (length (cs ++ ds)) l v (h.published_in i v e);
  kept_in = h.kept_in;
  published_few = h.published_few;
  kept_few = h.kept_few;
}

-- published values over more cells
published_over : (ms ns : List Meaning) (cs : List Cell) (m : ℕ) (rs : List SiteRow) → length ms ≡ length cs → Each (λ _ r. RowIn cs m r) rs → map (published_of (ms ++ ns)) rs ≡ map (published_of ms) rs
published_over ms ns cs m rs long all =
    map_same (published_of (ms ++ ns)) (published_of ms) rs
    (λ i r e. map_same (value_of (ms ++ ns)) (value_of ms) r.published.items (λ j v q. value_stays ms ns cs v (rw long ((all i r e).published_in j v q))))

-- tables with one cell more
pub record Grown (s t : Store) (c : Cell) (b p : ℕ) : Type 0 where
  pub store_in : StoreIn t
  pub cells_are : t.cells.items ≡ s.cells.items ++ c ∷ []
  pub cells_long : length t.cells.items ≡ suc (length s.cells.items)
  pub frames_same : t.frames.items ≡ s.frames.items
  pub here : get_or (meanings t.cells.items) (length s.cells.items) blank ≡ cell_of (meanings s.cells.items) c
  pub chains_same : chains (meanings t.cells.items) t.frames.items ≡ chains (meanings s.cells.items) s.frames.items
  pub published_same : map (published_of (meanings t.cells.items)) t.rows ≡ map (published_of (meanings s.cells.items)) s.rows
  pub rows_same : t.rows ≡ s.rows
  pub bindings_are : t.bindings ≡ b
  pub pairs_are : t.pairs ≡ p

module _ (s : Store) (T : StoreIn s) (c : Cell) (c-in : CellIn s.cells.items (length s.cells.items) c) (b p : ℕ) (counted : b + p ≡ s.bindings + s.pairs + 1) (b-few : b ≤ 4096) (p-few : p ≤ 2048) where
  grown_main : (v : Rows Cell) → v.items ≡ s.cells.items ++ c ∷ [] → Grown s (with_cells s v b p) c b p
  grown_main v items =
      let cs = s.cells.items in
      let fs = s.frames.items in
      let ms = meanings cs in
      let long : length v.items ≡ suc (length cs) = ap length items ∙ length_push cs c in
      let more : length (cs ++ c ∷ []) ≡ suc (length cs) = length_push cs c in
      let ms-long : length ms ≡ length cs = meanings_length cs in
      let ms' : meanings v.items ≡ ms ++ cell_of ms c ∷ [] = ap meanings items ∙ meanings_push cs c in
      let cells-all : Each (λ i x. CellIn (cs ++ c ∷ []) i x) (cs ++ c ∷ []) =
      each_push (λ i x. CellIn (cs ++ c ∷ []) i x) cs c (λ i x q. cell_up cs (c ∷ []) i i (omega arith) x (T.cells_in i x q)) (cell_up cs (c ∷ []) (length cs) (length cs) (omega arith) c c-in) in
      let frames-all : Each (λ i f. FrameIn (cs ++ c ∷ []) i f) fs =
      λ i f q. (task_up cs (c ∷ []) (length cs) (length (cs ++ c ∷ [])) (omega arith) f.task (T.frames_in i f q).0, (T.frames_in i f q).1) in
      let rows_all : Each (λ _ r. RowIn (cs ++ c ∷ []) (length fs) r) s.rows =
      λ i r q. row_more cs (c ∷ []) (length fs) r (omega arith) (T.rows_in i r q) in
      record {
        store_in = record {
          cells_in = rw items cells-all;
          frames_in = rw items frames-all;
          rows_in = rw items rows_all;
          rows_are = T.rows_are;
          counts = (let k = T.counts in omega arith);
          bindings_few = b-few;
          pairs_few = p-few;
          frames_few = T.frames_few;
        };
        cells_are = items;
        cells_long = long;
        frames_same = refl;
        here = ap (λ w. get_or w (length cs) blank) ms' ∙ ap (λ n. get_or (ms ++ cell_of ms c ∷ []) n blank) (sym ms-long) ∙ default_here ms (cell_of ms c) blank;
        chains_same = ap (λ w. chains w fs) ms' ∙ chains_stay ms (cell_of ms c ∷ []) cs fs ms-long T.frames_in;
        published_same = ap (λ w. map (published_of w) s.rows) ms' ∙ published_over ms (cell_of ms c ∷ []) cs (length fs) s.rows ms-long T.rows_in;
        rows_same = refl;
        bindings_are = refl;
        pairs_are = refl;
      }

  pub grown : (t : Store) → CellPushed s t c b p → Grown s t c b p
  grown t q = let G : Store → Type 0 = λ x. Grown s x c b p in subst G (sym q.rest) (grown_main t.cells q.cells)
