use Rattle.std.proofs.Common.{◌≡◌, length, ap, ◌∙◌, arith, rules}
use mathlib.Core.Option.{Option as Lookup}
use native.Mathlib.Decide.{ℕ_discrete}
use Rattle.lines.specs.declared.refusal.CheckFault.TheVariants.{Elsewhere}
use Rattle.calculus.specs.Types.{Ty, World, world_discrete}
use Rattle.calculus.specs.Checker.{typed, bound_value}
use Rattle.checker.specs.Scopes.{rows_of, meaning_of, values_of, world_of, bound_of}
use Rattle.checker.proofs.Verdicts.{needs_met, needs_unmet}
use Rattle.checker.proofs.Arms.{row_sizes, same_self, grown_none, grown_more, found, looked, not_looked, looked_below, place_other}
use Rattle.checker.proofs.context.Context.value.Goals as goal

pub returns-in_default : goal.returns-in_default
returns-in_default c =
    let s = c.args.self.now in
    record {
      judged = record { answer = ap (λ (x : Lookup (Ty × World)). bound_value c.args.spot.term (world_of c.args.world) x) (not_looked (bound_of (meaning_of s)) (values_of s) c.args.count (found c.args.count c.bound_values.ensures c.bound_at.ensures c.in_default.is)) };
      same = same_self s;
    }

pub returns-then-eq : goal.returns-then-eq
returns-then-eq c =
    let s = c.args.self.now in
    let A = c.requires.asks in
    let sz = row_sizes c.requires in
    let b = c.in-Some.found in
    let e = found c.args.count c.bound_values.ensures c.bound_at.ensures c.in-Some.is in
    let p : b.world ≡ c.args.world = search rules in
    record {
      judged = record {
        answer = record {
          number = looked_below (length (rows_of s)) (values_of s) c.args.count b A.ready.values e;
          verdict = ap (λ (x : Lookup (Ty × World)). bound_value c.args.spot.term (world_of c.args.world) x) (looked (bound_of (meaning_of s)) (values_of s) c.args.count b e)
              ∙ needs_met (world_discrete ℕ_discrete (world_of b.world) (world_of c.args.world)) (Elsewhere c.args.spot.term) (typed (meaning_of s b.ty)) (ap world_of p);
          grown = grown_more (omega (arith, sz)) (grown_none s A.ready);
        };
      };
      same = same_self s;
    }

pub returns-else-eq : goal.returns-else-eq
returns-else-eq c =
    let s = c.args.self.now in
    let b = c.in-Some.found in
    let e = found c.args.count c.bound_values.ensures c.bound_at.ensures c.in-Some.is in
    record {
      judged = record {
        answer =
            ap (λ (x : Lookup (Ty × World)). bound_value c.args.spot.term (world_of c.args.world) x) (looked (bound_of (meaning_of s)) (values_of s) c.args.count b e)
            ∙ needs_unmet (world_discrete ℕ_discrete (world_of b.world) (world_of c.args.world)) (Elsewhere c.args.spot.term) (typed (meaning_of s b.ty)) (place_other b.world c.args.world (λ q. search rules));
      };
      same = same_self s;
    }
