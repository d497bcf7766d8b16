-- What a contract sees of a table.
use Rattle.std.specs.Prelude.{List, refl}
use Rattle.std.specs.Coded.{Coded, code_by, coded_list}

-- the rows, in their order
pub record Rows (T : Type 0) : Type 0 where
  pub items : List T

-- a table is stored as the list of its rows
abbrev pub rows_code : {T : Type 0} → Coded T → Coded (Rows T)
rows_code {T} code =
    code_by (List T) (coded_list code) (λ t. t.items) (λ xs. record { items = xs }) (λ _. refl)
