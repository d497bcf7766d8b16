-- Tables whose entries name only earlier entries.
use Rattle.std.specs.Prelude.{List, [], ◌∷◌, ◌++◌}

-- What the entries of a table stand for, from the first on: each is made from what the earlier ones stand for.
abbrev pub grow : {C M : Type 0} → (List M → C → M) → List M → List C → List M
grow f done [] = done
grow f done (c ∷ cs) = grow f (done ++ f done c ∷ []) cs
