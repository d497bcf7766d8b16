-- What a call that takes a place in a table leaves.
use Rattle.std.specs.Prelude.{◌≡◌, ℕ, ◌<◌, ◌≤◌, List, [], ◌∷◌, ◌++◌, length, Some, None, Ok, Err, Option as Maybe, Result, slice_set}
use Rattle.std.proofs.Math.Option.{Option, some, none as nothing}
use Rattle.std.proofs.Math.ListN.{get_elem?}
use Rattle.rows.specs.Rows.{Rows}
use Rattle.machine.specs.declared.parts.Value.{Value}
use Rattle.machine.specs.declared.parts.Cell.{Cell}
use Rattle.machine.specs.declared.parts.Continuation.{Continuation}
use Rattle.machine.specs.declared.parts.Frame.{Frame}
use Rattle.machine.specs.declared.parts.SiteRow.{SiteRow}
use Rattle.machine.specs.declared.parts.Store.{Store}
use Rattle.lines.specs.declared.refusal.StepFault.{StepFault}
use Rattle.lines.specs.declared.refusal.StepFault.TheVariants.{Full}
use Rattle.lines.specs.declared.refusal.Table.{Table}

-- A room test passes where so many places are within the limit, and else names the table.
abbrev pub Fits : {U : Type 0} → Result U StepFault → Table → ℕ → ℕ → Type 0
Fits (Ok u) k limit n = n ≤ limit
Fits (Err e) k limit n = (e ≡ Full k) × (limit < n)

-- A place is taken where so many are within the limit; else the table is named, and nothing changes.
abbrev pub Takes : {A : Type 0} → Result A StepFault → Table → ℕ → ℕ → Type 0 → (A → Type 0) → Type 0
Takes (Ok a) k limit n same after = (n ≤ limit) × after a
Takes (Err e) k limit n same after = (e ≡ Full k) × (limit < n) × same

-- A row stands behind the others, and its place is their number.
abbrev pub Added : {A : Type 0} → ℕ → List A → A → List A → Type 0
Added place xs x ys = (place ≡ length xs) × (ys ≡ xs ++ x ∷ [])

abbrev pub with_frames : Store → Rows Frame → Store
with_frames s v = record { cells = s.cells; bindings = s.bindings; pairs = s.pairs; frames = v; rows = s.rows }

abbrev pub with_cells : Store → Rows Cell → ℕ → ℕ → Store
with_cells s v b p = record { cells = v; bindings = b; pairs = p; frames = s.frames; rows = s.rows }

abbrev pub with_row : Store → ℕ → SiteRow → Store
with_row s w r = record { cells = s.cells; bindings = s.bindings; pairs = s.pairs; frames = s.frames; rows = slice_set s.rows w r }

-- One frame more, and all else as it was.
pub record FramePushed (s t : Store) (f : Frame) : Type 0 where
  pub frames : t.frames.items ≡ s.frames.items ++ f ∷ []
  pub rest : t ≡ with_frames s t.frames

-- One cell more, with the counts b and p then, and all else as it was.
pub record CellPushed (s t : Store) (c : Cell) (b p : ℕ) : Type 0 where
  pub cells : t.cells.items ≡ s.cells.items ++ c ∷ []
  pub rest : t ≡ with_cells s t.cells b p

-- One published value more at a site.
pub record RowPublished (r q : SiteRow) (v : Value) : Type 0 where
  pub published : q.published.items ≡ r.published.items ++ v ∷ []
  pub kept : q.kept ≡ r.kept

-- One kept continuation more at a site.
pub record RowKept (r q : SiteRow) (k : Continuation) : Type 0 where
  pub kept : q.kept.items ≡ r.kept.items ++ k ∷ []
  pub published : q.published ≡ r.published

-- how many values and continuations the row of a site has
abbrev pub published_in : Option SiteRow → ℕ
published_in nothing = 0
published_in (some r) = length r.published.items

abbrev pub kept_in : Option SiteRow → ℕ
kept_in nothing = 0
kept_in (some r) = length r.kept.items

abbrev pub published_count : Store → ℕ → ℕ
published_count s w = published_in (get_elem? s.rows w)

abbrev pub kept_count : Store → ℕ → ℕ
kept_count s w = kept_in (get_elem? s.rows w)

-- One row of the sites becomes another, and all else is as it was.
pub record RowSet (s t : Store) (w : ℕ) (old new : SiteRow) : Type 0 where
  pub was : get_elem? s.rows w ≡ some old
  pub rest : t ≡ with_row s w new

-- A value is published at a site: its label is the count of those before it.
abbrev pub Published : Store → Store → ℕ → Value → ℕ → Type 0
Published s t w v l = (old : SiteRow) × (new : SiteRow) × RowSet s t w old new × (l ≡ length old.published.items) × RowPublished old new v

-- A continuation is kept at a site: its number is the count of those before it.
abbrev pub Kept : Store → Store → ℕ → Continuation → ℕ → Type 0
Kept s t w k c = (old : SiteRow) × (new : SiteRow) × RowSet s t w old new × (c ≡ length old.kept.items) × RowKept old new k

-- an answer of the code, as the calculus writes it
abbrev pub reads : {A : Type 0} → Maybe A → Option A
reads None = nothing
reads (Some a) = some a

-- the entry of a site's table, if there is one
abbrev pub PublishedAt : Store → ℕ → ℕ → Maybe Value → Type 0
PublishedAt s w l o = (row : SiteRow) × (get_elem? s.rows w ≡ some row) × (reads o ≡ get_elem? row.published.items l)

abbrev pub KeptAt : Store → ℕ → ℕ → Maybe Continuation → Type 0
KeptAt s w c o = (row : SiteRow) × (get_elem? s.rows w ≡ some row) × (reads o ≡ get_elem? row.kept.items c)
