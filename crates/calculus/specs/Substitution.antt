-- Substitution. A binding is put in for the outermost level of its kind: level 0 becomes the binding, and level k + 1 becomes
-- level k. What is put in is closed, so this is the same under every binder.
use Rattle.std.specs.Prelude.{ℕ, zero, suc, List, [], ◌∷◌}
use Rattle.calculus.specs.Types.{World, site, bound}
use Rattle.calculus.specs.Terms.{Target, outer, kept, Term, val, lit, var, lab, lam, app, boxed, unbox, here, letd, get, pairing, fst, snd, letcc, throw, go, gauge, gate, below, Binding, value, label, world, continuation}

abbrev pub substitute_var : Binding → ℕ → Term
substitute_var (value v) zero = val v
substitute_var (value v) (suc k) = var k
substitute_var (label s l) zero = lab s l
substitute_var (label s l) (suc k) = var k
substitute_var (world s) k = var k
substitute_var (continuation s c) k = var k

abbrev pub substitute_bound : Binding → ℕ → World
substitute_bound (value v) k = bound k
substitute_bound (label s l) k = bound k
substitute_bound (world s) zero = site s
substitute_bound (world s) (suc k) = bound k
substitute_bound (continuation s c) k = bound k

abbrev pub substitute_world : Binding → World → World
substitute_world b (site s) = site s
substitute_world b (bound k) = substitute_bound b k

abbrev pub substitute_outer : Binding → ℕ → Target
substitute_outer (value v) k = outer k
substitute_outer (label s l) k = outer k
substitute_outer (world s) k = outer k
substitute_outer (continuation s c) zero = kept s c
substitute_outer (continuation s c) (suc k) = outer k

abbrev pub substitute_target : Binding → Target → Target
substitute_target b (outer k) = substitute_outer b k
substitute_target b (kept s c) = kept s c

-- The binding in place of the outermost level of its kind, in a term.
abbrev pub substitute : Binding → Term → Term
substitute b (val v) = val v
substitute b (lit n) = lit n
substitute b (var k) = substitute_var b k
substitute b (lab s l) = lab s l
substitute b (lam A m) = lam A (substitute b m)
substitute b (app m n) = app (substitute b m) (substitute b n)
substitute b (boxed m) = boxed (substitute b m)
substitute b (unbox m) = unbox (substitute b m)
substitute b (here m) = here (substitute b m)
substitute b (letd m n) = letd (substitute b m) (substitute b n)
substitute b (get f w m) = get f (substitute_world b w) (substitute b m)
substitute b (pairing m n) = pairing (substitute b m) (substitute b n)
substitute b (fst m) = fst (substitute b m)
substitute b (snd m) = snd (substitute b m)
substitute b (letcc A m) = letcc A (substitute b m)
substitute b (throw A t m) = throw A (substitute_target b t) (substitute b m)
substitute b (go A w m) = go A (substitute_world b w) (substitute b m)
substitute b (gauge n) = gauge n
substitute b (gate n m) = gate n (substitute b m)
substitute b (below A m n p q) = below A (substitute b m) (substitute b n) (substitute b p) (substitute b q)

-- Bindings, the innermost first, are put in from the outermost on.
abbrev pub close : List Binding → Term → Term
close [] m = m
close (b ∷ ρ) m = substitute b (close ρ m)
