use Rattle.std.proofs.Common.{Bool, ◌&&◌, sym, refl, ap, ◌∙◌, rules}
use Rattle.checker.specs.TypeTable.{meaning}
use Rattle.checker.specs.Comparing.{alike}
use Rattle.checker.proofs.Compare.{side, not_num, not_none, not_fn, not_box, not_at, not_both}
use Rattle.checker.proofs.Laying.{laid_of}
use Rattle.checker.proofs.types.TypeRows.+same.Goals as goal

pub same-requires : goal.same-requires
same-requires t c =
    let k = side (laid_of c.args.self.now) c.requires.left c.requires.right c.in-Fn-Fn.is-0 c.in-Fn-Fn.is-1 in
    (search rules, (k.inside.0, k.within.0))

pub same-requires-then-same : goal.same-requires-then-same
same-requires-then-same t c =
    let k = side (laid_of c.args.self.now) c.requires.left c.requires.right c.in-Fn-Fn.is-0 c.in-Fn-Fn.is-1 in
    (search rules, (k.inside.1, k.within.1))

pub same-requires-in-Boxed-Boxed : goal.same-requires-in-Boxed-Boxed
same-requires-in-Boxed-Boxed t c =
    let k = side (laid_of c.args.self.now) c.requires.left c.requires.right c.in-Boxed-Boxed.is-0 c.in-Boxed-Boxed.is-1 in
    (search rules, (k.inside, k.within))

pub same-requires-in-At-At : goal.same-requires-in-At-At
same-requires-in-At-At t c =
    let k = side (laid_of c.args.self.now) c.requires.left c.requires.right c.in-At-At.is-0 c.in-At-At.is-1 in
    (search rules, (k.inside, k.within))

pub same-requires-in-Both-Both : goal.same-requires-in-Both-Both
same-requires-in-Both-Both t c =
    let k = side (laid_of c.args.self.now) c.requires.left c.requires.right c.in-Both-Both.is-0 c.in-Both-Both.is-1 in
    (search rules, (k.inside.0, k.within.0))

pub same-requires-then-same-2 : goal.same-requires-then-same-2
same-requires-then-same-2 t c =
    let k = side (laid_of c.args.self.now) c.requires.left c.requires.right c.in-Both-Both.is-0 c.in-Both-Both.is-1 in
    (search rules, (k.inside.1, k.within.1))

pub returns-in-Num-Num : goal.returns-in-Num-Num
returns-in-Num-Num t c = sym (side (laid_of c.args.self.now) c.requires.left c.requires.right c.in-Num-Num.is-0 c.in-Num-Num.is-1).is

pub returns-in-Never-Never : goal.returns-in-Never-Never
returns-in-Never-Never t c = sym (side (laid_of c.args.self.now) c.requires.left c.requires.right c.in-Never-Never.is-0 c.in-Never-Never.is-1).is

pub returns-in-Boxed-Boxed : goal.returns-in-Boxed-Boxed
returns-in-Boxed-Boxed t c = c.same-in-Boxed-Boxed.ensures ∙ sym (side (laid_of c.args.self.now) c.requires.left c.requires.right c.in-Boxed-Boxed.is-0 c.in-Boxed-Boxed.is-1).is

pub returns-in-At-At : goal.returns-in-At-At
returns-in-At-At t c = c.same-in-At-At.ensures ∙ sym (side (laid_of c.args.self.now) c.requires.left c.requires.right c.in-At-At.is-0 c.in-At-At.is-1).is

pub returns-then-same : goal.returns-then-same
returns-then-same t c =
    let M = meaning c.args.self.now.written c.args.self.now.rows.now in
    c.same-then-same.ensures ∙ sym ((side (laid_of c.args.self.now) c.requires.left c.requires.right c.in-Fn-Fn.is-0 c.in-Fn-Fn.is-1).is ∙ ap (λ (b : Bool). b && alike (M c.in-Fn-Fn.r) (M c.in-Fn-Fn.s)) (sym c.same.ensures ∙ c.if-same.true))

pub returns-else-same : goal.returns-else-same
returns-else-same t c =
    let M = meaning c.args.self.now.written c.args.self.now.rows.now in
    c.if-same.false ∙ sym ((side (laid_of c.args.self.now) c.requires.left c.requires.right c.in-Fn-Fn.is-0 c.in-Fn-Fn.is-1).is ∙ ap (λ (b : Bool). b && alike (M c.in-Fn-Fn.r) (M c.in-Fn-Fn.s)) (sym c.same.ensures ∙ c.if-same.false))

pub returns-then-same-2 : goal.returns-then-same-2
returns-then-same-2 t c =
    let M = meaning c.args.self.now.written c.args.self.now.rows.now in
    c.same-then-same-2.ensures ∙ sym ((side (laid_of c.args.self.now) c.requires.left c.requires.right c.in-Both-Both.is-0 c.in-Both-Both.is-1).is ∙ ap (λ (b : Bool). b && alike (M c.in-Both-Both.r) (M c.in-Both-Both.s)) (sym c.same-in-Both-Both.ensures ∙ c.if-same-2.true))

pub returns-else-same-2 : goal.returns-else-same-2
returns-else-same-2 t c =
    let M = meaning c.args.self.now.written c.args.self.now.rows.now in
    c.if-same-2.false ∙ sym ((side (laid_of c.args.self.now) c.requires.left c.requires.right c.in-Both-Both.is-0 c.in-Both-Both.is-1).is ∙ ap (λ (b : Bool). b && alike (M c.in-Both-Both.r) (M c.in-Both-Both.s)) (sym c.same-in-Both-Both.ensures ∙ c.if-same-2.false))

pub returns-in_default : goal.returns-in_default
returns-in_default t c = sym ((side (laid_of c.args.self.now) c.requires.left c.requires.right c.in_default.is-0 refl).is ∙ not_num (meaning c.args.self.now.written c.args.self.now.rows.now) _ c.in_default.not-Num-1)

pub returns-in_default-2 : goal.returns-in_default-2
returns-in_default-2 t c = sym ((side (laid_of c.args.self.now) c.requires.left c.requires.right c.in_default.is-0 refl).is ∙ not_none (meaning c.args.self.now.written c.args.self.now.rows.now) _ c.in_default.not-Never-1)

pub returns-in_default-3 : goal.returns-in_default-3
returns-in_default-3 t c = sym ((side (laid_of c.args.self.now) c.requires.left c.requires.right c.in_default.is-0 refl).is ∙ not_fn (meaning c.args.self.now.written c.args.self.now.rows.now) _ _ _ c.in_default.not-Fn-1)

pub returns-in_default-4 : goal.returns-in_default-4
returns-in_default-4 t c = sym ((side (laid_of c.args.self.now) c.requires.left c.requires.right c.in_default.is-0 refl).is ∙ not_box (meaning c.args.self.now.written c.args.self.now.rows.now) _ _ c.in_default.not-Boxed-1)

pub returns-in_default-5 : goal.returns-in_default-5
returns-in_default-5 t c = sym ((side (laid_of c.args.self.now) c.requires.left c.requires.right c.in_default.is-0 refl).is ∙ not_at (meaning c.args.self.now.written c.args.self.now.rows.now) _ _ c.in_default.not-At-1)

pub returns-in_default-6 : goal.returns-in_default-6
returns-in_default-6 t c = sym ((side (laid_of c.args.self.now) c.requires.left c.requires.right c.in_default.is-0 refl).is ∙ not_both (meaning c.args.self.now.written c.args.self.now.rows.now) _ _ _ c.in_default.not-Both-1)
