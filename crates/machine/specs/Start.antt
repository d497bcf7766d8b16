-- Tables with nothing in them.
use Rattle.std.specs.Prelude.{◌≡◌, []}
use Rattle.machine.specs.Sound.{Each, StoreIn}
use Rattle.machine.specs.declared.parts.SiteRow.{SiteRow}
use Rattle.machine.specs.declared.parts.Store.{Store}

-- A site that has published and kept nothing.
pub record NewRow (r : SiteRow) : Type 0 where
  pub published : r.published.items ≡ []
  pub kept : r.kept.items ≡ []

-- Tables where no place is taken.
pub record NewStore (t : Store) : Type 0 where
  pub store_in : StoreIn t
  pub cells : t.cells.items ≡ []
  pub frames : t.frames.items ≡ []
  pub bindings : t.bindings ≡ 0
  pub pairs : t.pairs ≡ 0
  pub rows : Each (λ _ r. NewRow r) t.rows
