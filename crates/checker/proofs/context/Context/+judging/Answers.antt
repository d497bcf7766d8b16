use Rattle.std.proofs.Common.{◌≡◌, ℕ, length, sym, refl, ap, ◌∙◌, arith, rules}
use native.Mathlib.Decide.{dec_lt}
use mathlib.Core.Option.{Option as Lookup}
use Rattle.lines.specs.declared.refusal.CheckFault.TheVariants.{Mismatch, BoundWorld, NotOnSheet}
use Rattle.instruments.specs.Sheets.{stations_of}
use Rattle.calculus.specs.Types.{Ty, num, none, fn, both, World, bound, gates_there}
use Rattle.calculus.specs.Typing.{Context as Around, binding_value, binding_world}
use Rattle.calculus.specs.Program.{Program, type_of}
use Rattle.calculus.specs.Checker.{typed, then_type, need, when_at, when_mobile, expecting, when_site, bound_continuation, judge}
use Rattle.checker.specs.declared.context.At.TheVariants.{Level}
use Rattle.checker.specs.declared.context.Height.{Height}
use Rattle.checker.specs.Scopes.{meaning_of, context_of, world_of, bound_of, continuations_of}
use Rattle.checker.specs.Judging.{checked_program, verdict, Same}
use Rattle.checker.proofs.Verdicts.{keeps, context_kept, program_kept}
use Rattle.checker.proofs.Arms.{same_self, same_then, grown_more, next_part, row_parts, row_sizes, first_part, stops, fits, unfit, held_fits, held_unfit, stops_held, by_row, registered_goes, found, looked, not_looked, looked_below, judged_from}
use Rattle.checker.proofs.Steps.{begun, judged_next, judged_stops, held_next, held_stops, body_verdict, value_written, continuation_written, body_next, body_held, body_stops, body_unheld, written_still, finished, built_last, onwards, stays_on, located, asked_next, written_stays, written_in}
use Rattle.checker.proofs.Opening.{fn_goes, fn_stops, fn_inside, boxed_goes, boxed_stops, boxed_inside, at_goes, at_stops, at_inside, both_goes, both_stops, both_inside, num_is, num_not, never_is, never_not, mobile_goes, mobile_stops}
use Rattle.checker.proofs.Binders.{kept_then, ended, grown_from, kept_under, kept_below, same_meaning, same_program, value_context, value_asks, world_context, world_asks, continuation_asks, under_value, under_world, under_continuation, under_then}
use Rattle.checker.proofs.context.Context.+judging.Goals as goal

pub app-judge-requires : goal.app-judge-requires
app-judge-requires t c = (search rules, first_part c.requires c.args.function (row_parts c.requires).0 (omega (arith, row_sizes c.requires)))

pub app-returns-in_default : goal.app-returns-in_default
app-returns-in_default t c = record { judged = record { answer = fn_stops c.in_ok-whole.ensures.judged.answer (λ x y q. c.in_default.not-Fn x y (c.row.ensures ∙ q)) _ _ }; same = c.judge.ensures.same }

pub app-judge_as-requires : goal.app-judge_as-requires
app-judge_as-requires t c =
    let r = c.requires.asks.ready in
    let t1 = c.in_ok-whole.ensures.judged.answer in
    let w1 = onwards (judged_next r c.args.spot c.args.function c.args.world _ (begun c.requires c.args.world) t1 c.judge.ensures.same) (fn_goes t1 c.in-Fn.from c.in-Fn.to (sym c.row.ensures ∙ c.in-Fn.is) _ _) in
    (search rules, (asked_next c.requires w1 c.args.argument (row_parts c.requires).1 (omega (arith, row_sizes c.requires)), (fn_inside t1 c.in-Fn.from c.in-Fn.to (sym c.row.ensures ∙ c.in-Fn.is)).0))

pub app-returns-in_err-judge_as : goal.app-returns-in_err-judge_as
app-returns-in_err-judge_as t c =
    let r = c.requires.asks.ready in
    let t1 = c.in_ok-whole.ensures.judged.answer in
    let w1 = onwards (judged_next r c.args.spot c.args.function c.args.world _ (begun c.requires c.args.world) t1 c.judge.ensures.same) (fn_goes t1 c.in-Fn.from c.in-Fn.to (sym c.row.ensures ∙ c.in-Fn.is) _ _) in
    record {
      judged = stops c.in_err-judge_as.field-0.0 c.from_residual-in_err-judge_as.ensures.1 (held_stops r c.args.spot c.args.argument c.args.world _ w1 c.in_err-judge_as.ensures.held.answer refl);
      same = same_then w1.same c.judge_as.ensures.same;
    }

pub app-returns : goal.app-returns
app-returns t c =
    let r = c.requires.asks.ready in
    let t1 = c.in_ok-whole.ensures.judged.answer in
    let w1 = onwards (judged_next r c.args.spot c.args.function c.args.world _ (begun c.requires c.args.world) t1 c.judge.ensures.same) (fn_goes t1 c.in-Fn.from c.in-Fn.to (sym c.row.ensures ∙ c.in-Fn.is) _ _) in
    let t2 = c.in_ok-judge_as.ensures.held.answer in
    let w2 = held_next r c.args.spot c.args.argument c.args.world w1 t2 refl c.judge_as.ensures.same in
    let k = stays_on r w1 t2.grown c.judge_as.ensures.same c.in-Fn.to (fn_inside t1 c.in-Fn.from c.in-Fn.to (sym c.row.ensures ∙ c.in-Fn.is)).1 in
    record { judged = record { answer = finished w2 k.0 k.1 (omega (arith, row_sizes c.requires)) }; same = w2.same }

pub unbox-judge-requires : goal.unbox-judge-requires
unbox-judge-requires t c = (search rules, first_part c.requires c.args.part (row_parts c.requires) (omega (arith, row_sizes c.requires)))

pub unbox-returns : goal.unbox-returns
unbox-returns t c =
    let t1 = c.in_ok-whole.ensures.judged.answer in
    let q = sym c.row.ensures ∙ c.in-Boxed.is in
    record {
      judged = record { answer = record { number = (boxed_inside t1 c.in-Boxed.inner q); verdict = boxed_goes t1 c.in-Boxed.inner q _ _; grown = grown_more (omega (arith, row_sizes c.requires)) t1.grown } };
      same = c.judge.ensures.same;
    }

pub unbox-returns-in_default : goal.unbox-returns-in_default
unbox-returns-in_default t c = record { judged = record { answer = boxed_stops c.in_ok-whole.ensures.judged.answer (λ x q. c.in_default.not-Boxed x (c.row.ensures ∙ q)) _ _ }; same = c.judge.ensures.same }

pub fst-judge-requires : goal.fst-judge-requires
fst-judge-requires t c = (search rules, first_part c.requires c.args.part (row_parts c.requires) (omega (arith, row_sizes c.requires)))

pub fst-returns : goal.fst-returns
fst-returns t c =
    let t1 = c.in_ok-whole.ensures.judged.answer in
    let q = sym c.row.ensures ∙ c.in-Both.is in
    record {
      judged = record { answer = record { number = (both_inside t1 _ _ q).0; verdict = both_goes t1 _ _ q _ _; grown = grown_more (omega (arith, row_sizes c.requires)) t1.grown } };
      same = c.judge.ensures.same;
    }

pub fst-returns-in_default : goal.fst-returns-in_default
fst-returns-in_default t c = record { judged = record { answer = both_stops c.in_ok-whole.ensures.judged.answer (λ x y q. c.in_default.not-Both x y (c.row.ensures ∙ q)) _ _ }; same = c.judge.ensures.same }

pub snd-judge-requires : goal.snd-judge-requires
snd-judge-requires t c = (search rules, first_part c.requires c.args.part (row_parts c.requires) (omega (arith, row_sizes c.requires)))

pub snd-returns : goal.snd-returns
snd-returns t c =
    let t1 = c.in_ok-whole.ensures.judged.answer in
    let q = sym c.row.ensures ∙ c.in-Both.is in
    record {
      judged = record { answer = record { number = (both_inside t1 _ _ q).1; verdict = both_goes t1 _ _ q _ _; grown = grown_more (omega (arith, row_sizes c.requires)) t1.grown } };
      same = c.judge.ensures.same;
    }

pub snd-returns-in_default : goal.snd-returns-in_default
snd-returns-in_default t c = record { judged = record { answer = both_stops c.in_ok-whole.ensures.judged.answer (λ x y q. c.in_default.not-Both x y (c.row.ensures ∙ q)) _ _ }; same = c.judge.ensures.same }

pub here-judge-requires : goal.here-judge-requires
here-judge-requires t c = (search rules, first_part c.requires c.args.part (row_parts c.requires) (omega (arith, row_sizes c.requires)))

pub here-build-requires : goal.here-build-requires
here-build-requires t c = omega (arith, c.in_ok-inner.ensures.judged.answer.grown.few, c.requires.asks.room, c.requires.asks.few, row_sizes c.requires)

pub here-returns : goal.here-returns
here-returns t c =
    let r = c.requires.asks.ready in
    let w1 = judged_next r c.args.spot c.args.part c.args.world _ (begun c.requires c.args.world) c.in_ok-inner.ensures.judged.answer c.judge.ensures.same in
    record {
      judged = record { answer = built_last r w1 c.in_ok-inner.ensures.judged.answer.number tt c.build.ensures refl (omega (arith, row_sizes c.requires)) };
      same = same_then w1.same c.build.ensures.same;
    }

pub pair-judge-requires : goal.pair-judge-requires
pair-judge-requires t c = (search rules, first_part c.requires c.args.left (row_parts c.requires).0 (omega (arith, row_sizes c.requires)))

pub pair-judge-requires-2 : goal.pair-judge-requires-2
pair-judge-requires-2 t c =
    let r = c.requires.asks.ready in
    let w1 = judged_next r c.args.spot c.args.left c.args.world _ (begun c.requires c.args.world) c.in_ok-first.ensures.judged.answer c.judge.ensures.same in
    (search rules, asked_next c.requires w1 c.args.right (row_parts c.requires).1 (omega (arith, row_sizes c.requires)))

pub pair-returns-in_err-second : goal.pair-returns-in_err-second
pair-returns-in_err-second t c =
    let r = c.requires.asks.ready in
    let w1 = judged_next r c.args.spot c.args.left c.args.world _ (begun c.requires c.args.world) c.in_ok-first.ensures.judged.answer c.judge.ensures.same in
    record {
      judged = stops c.in_err-second.field-0.0 c.from_residual-in_err-second.ensures.1 (judged_stops r c.args.spot c.args.right c.args.world _ w1 c.in_err-second.ensures.judged.answer);
      same = same_then w1.same c.judge-2.ensures.same;
    }

pub pair-build-requires : goal.pair-build-requires
pair-build-requires t c =
    let r = c.requires.asks.ready in
    let w1 = judged_next r c.args.spot c.args.left c.args.world _ (begun c.requires c.args.world) c.in_ok-first.ensures.judged.answer c.judge.ensures.same in
    let w2 = judged_next r c.args.spot c.args.right c.args.world _ w1 c.in_ok-second.ensures.judged.answer c.judge-2.ensures.same in
    omega (arith, w2.grown.few, c.requires.asks.room, c.requires.asks.few, row_sizes c.requires)

pub pair-returns : goal.pair-returns
pair-returns t c =
    let r = c.requires.asks.ready in
    let w1 = judged_next r c.args.spot c.args.left c.args.world _ (begun c.requires c.args.world) c.in_ok-first.ensures.judged.answer c.judge.ensures.same in
    let w2 = judged_next r c.args.spot c.args.right c.args.world _ w1 c.in_ok-second.ensures.judged.answer c.judge-2.ensures.same in
    let t2 = c.in_ok-second.ensures.judged.answer in
    let k = stays_on r w1 t2.grown c.judge-2.ensures.same c.in_ok-first.first c.in_ok-first.ensures.judged.answer.number in
    record {
      judged = record { answer = built_last r w2 (k.0, t2.number) tt c.build.ensures (ap (λ (P : Ty). both P (meaning_of c.judge-2.new.self c.in_ok-second.second)) k.1) (omega (arith, row_sizes c.requires)) };
      same = same_then w2.same c.build.ensures.same;
    }

pub judge_as-returns-in_err-expect : goal.judge_as-returns-in_err-expect
judge_as-returns-in_err-expect t c =
    let A = c.requires.asks in
    let t1 = c.in_ok-given.ensures.judged.answer in
    let s1 : Same c.args.self.now c.judge.new.self = c.judge.ensures.same in
    record { held = stops_held c.in_err-expect.field-0.0 c.from_residual-in_err-expect.ensures.1 (held_unfit c.args.spot.term (meaning_of c.args.self.now c.args.needed) t1 (meaning_of c.judge.new.self c.args.needed) c.in_err-expect.field-0.0 (keeps A.ready t1.grown s1 c.args.needed (omega (arith, c.requires.needed, A.ready.laid.some))) (sym c.expect.ensures ∙ c.in_err-expect.was)); same = s1 }

pub judge_as-returns : goal.judge_as-returns
judge_as-returns t c =
    let A = c.requires.asks in
    let t1 = c.in_ok-given.ensures.judged.answer in
    let s1 : Same c.args.self.now c.judge.new.self = c.judge.ensures.same in
    record { held = record { answer = held_fits c.args.spot.term (meaning_of c.args.self.now c.args.needed) t1 (meaning_of c.judge.new.self c.args.needed) c.in_ok-expect.field-0 (keeps A.ready t1.grown s1 c.args.needed (omega (arith, c.requires.needed, A.ready.laid.some))) (sym c.expect.ensures ∙ c.in_ok-expect.was) }; same = s1 }

pub judge_num-returns : goal.judge_num-returns
judge_num-returns t c =
    let t1 = c.in_ok-given.ensures.judged.answer in
    let s1 : Same c.args.self.now c.judge.new.self = c.judge.ensures.same in
    record { held = record { answer = fits c.args.spot.term num t1 (num_is t1 (sym c.row.ensures ∙ c.in-Num.is)) }; same = s1 }

pub judge_num-returns-in_default : goal.judge_num-returns-in_default
judge_num-returns-in_default t c =
    let t1 = c.in_ok-given.ensures.judged.answer in
    let s1 : Same c.args.self.now c.judge.new.self = c.judge.ensures.same in
    record { held = record { answer = unfit c.args.spot.term num t1 (num_not t1 (λ q. c.in_default.not-Num (c.row.ensures ∙ q))) }; same = s1 }

pub judge-returns-in-Num : goal.judge-returns-in-Num
judge-returns-in-Num t c = by_row c.requires c.in-Num.is c.numeral.ensures

pub judge-returns-in-Value : goal.judge-returns-in-Value
judge-returns-in-Value t c = by_row c.requires c.in-Value.is c.value.ensures

pub judge-returns-in-Lam : goal.judge-returns-in-Lam
judge-returns-in-Lam t c = by_row c.requires c.in-Lam.is c.lam.ensures

pub judge-returns-in-App : goal.judge-returns-in-App
judge-returns-in-App t c = by_row c.requires c.in-App.is c.app.ensures

pub judge-returns-in-Boxed : goal.judge-returns-in-Boxed
judge-returns-in-Boxed t c = by_row c.requires c.in-Boxed.is c.boxed.ensures

pub judge-returns-in-Unbox : goal.judge-returns-in-Unbox
judge-returns-in-Unbox t c = by_row c.requires c.in-Unbox.is c.unbox.ensures

pub judge-returns-in-Here : goal.judge-returns-in-Here
judge-returns-in-Here t c = by_row c.requires c.in-Here.is c.here.ensures

pub judge-returns-in-Letd : goal.judge-returns-in-Letd
judge-returns-in-Letd t c = by_row c.requires c.in-Letd.is c.letd.ensures

pub judge-returns-in-Get : goal.judge-returns-in-Get
judge-returns-in-Get t c = by_row c.requires c.in-Get.is c.get.ensures

pub judge-returns-in-Pair : goal.judge-returns-in-Pair
judge-returns-in-Pair t c = by_row c.requires c.in-Pair.is c.pair.ensures

pub judge-returns-in-Fst : goal.judge-returns-in-Fst
judge-returns-in-Fst t c = by_row c.requires c.in-Fst.is c.fst.ensures

pub judge-returns-in-Snd : goal.judge-returns-in-Snd
judge-returns-in-Snd t c = by_row c.requires c.in-Snd.is c.snd.ensures

pub judge-returns-in-Letcc : goal.judge-returns-in-Letcc
judge-returns-in-Letcc t c = by_row c.requires c.in-Letcc.is c.letcc.ensures

pub judge-returns-in-Throw : goal.judge-returns-in-Throw
judge-returns-in-Throw t c = by_row c.requires c.in-Throw.is c.throw.ensures

pub judge-returns-in-Go : goal.judge-returns-in-Go
judge-returns-in-Go t c = by_row c.requires c.in-Go.is c.go.ensures

pub judge-returns-in-Gauge : goal.judge-returns-in-Gauge
judge-returns-in-Gauge t c = by_row c.requires c.in-Gauge.is c.gauge.ensures

pub judge-returns-in-Gate : goal.judge-returns-in-Gate
judge-returns-in-Gate t c = by_row c.requires c.in-Gate.is c.gate.ensures

pub judge-returns-in-Below : goal.judge-returns-in-Below
judge-returns-in-Below t c = by_row c.requires c.in-Below.is c.below.ensures

pub judge_under-returns-in_err-number-clause-kept : goal.judge_under-returns-in_err-number-clause-kept
judge_under-returns-in_err-number-clause-kept t c = kept_under c.judge.ensures.same.kept c.requires.under c.drop-scope.ensures.values c.drop-scope.ensures.continuations c.drop-scope.ensures.written

pub judge_under-returns-clause-kept : goal.judge_under-returns-clause-kept
judge_under-returns-clause-kept t c = kept_under c.judge.ensures.same.kept c.requires.under c.drop-scope-2.ensures.values c.drop-scope-2.ensures.continuations c.drop-scope-2.ensures.written

pub get-judge-requires : goal.get-judge-requires
get-judge-requires t c = (search rules, first_part c.requires c.args.part (row_parts c.requires).1 (omega (arith, row_sizes c.requires)))

pub get-returns-then-is_carried : goal.get-returns-then-is_carried
get-returns-then-is_carried t c =
    let r = c.requires.asks.ready in
    let w0 = onwards (begun c.requires c.args.world) (located (stations_of c.args.spot.setting.now.sheet.now) c.args.self.now.height.worlds c.args.there c.args.spot.term c.in_ok-elsewhere.elsewhere (λ (u : World). then_type (judge (checked_program c.args.self.now (stations_of c.args.spot.setting.now.sheet.now) c.args.spot.setting.now.terms.now) c.args.part (context_of c.args.self.now) u) (λ (P : Ty). when_mobile c.args.mobile P (Mismatch c.args.part) (typed P))) c.in_ok-elsewhere.ensures) in
    let w1 = judged_next r c.args.spot c.args.part c.in_ok-elsewhere.elsewhere _ w0 c.in_ok-given.ensures.judged.answer c.judge.ensures.same in
    let t1 = c.in_ok-given.ensures.judged.answer in
    let w2 = onwards w1 (w1.left ∙ mobile_goes t1 c.args.mobile (Mismatch c.args.part) (typed (meaning_of c.judge.new.self c.in_ok-given.given)) (sym c.is_carried.ensures ∙ c.if-is_carried.true)) in
    record { judged = record { answer = finished w2 t1.number refl (omega (arith, row_sizes c.requires)) }; same = w2.same }

pub get-returns-else-is_carried : goal.get-returns-else-is_carried
get-returns-else-is_carried t c =
    let r = c.requires.asks.ready in
    let w0 = onwards (begun c.requires c.args.world) (located (stations_of c.args.spot.setting.now.sheet.now) c.args.self.now.height.worlds c.args.there c.args.spot.term c.in_ok-elsewhere.elsewhere (λ (u : World). then_type (judge (checked_program c.args.self.now (stations_of c.args.spot.setting.now.sheet.now) c.args.spot.setting.now.terms.now) c.args.part (context_of c.args.self.now) u) (λ (P : Ty). when_mobile c.args.mobile P (Mismatch c.args.part) (typed P))) c.in_ok-elsewhere.ensures) in
    let w1 = judged_next r c.args.spot c.args.part c.in_ok-elsewhere.elsewhere _ w0 c.in_ok-given.ensures.judged.answer c.judge.ensures.same in
    record {
      judged = record { answer = w1.left ∙ mobile_stops c.in_ok-given.ensures.judged.answer c.args.mobile _ _ (sym c.is_carried.ensures ∙ c.if-is_carried.false) };
      same = w1.same;
    }

pub go-judge-requires : goal.go-judge-requires
go-judge-requires t c = (search rules, first_part c.requires c.args.part (row_parts c.requires).2 (omega (arith, row_sizes c.requires)))

pub go-returns : goal.go-returns
go-returns t c =
    let r = c.requires.asks.ready in
    let t1 = c.in_ok-given.ensures.judged.answer in
    let w0 = onwards (begun c.requires c.args.world) (located (stations_of c.args.spot.setting.now.sheet.now) c.args.self.now.height.worlds c.args.there c.args.spot.term c.in_ok-elsewhere.elsewhere (λ (u : World). expecting c.args.part (judge (checked_program c.args.self.now (stations_of c.args.spot.setting.now.sheet.now) c.args.spot.setting.now.terms.now) c.args.part (context_of c.args.self.now) u) none (typed (type_of (checked_program c.args.self.now (stations_of c.args.spot.setting.now.sheet.now) c.args.spot.setting.now.terms.now) c.args.written))) c.in_ok-elsewhere.ensures) in
    let w1 = held_next r c.args.spot c.args.part c.in_ok-elsewhere.elsewhere w0 (fits c.args.part none t1 (never_is t1 (sym c.row.ensures ∙ c.in-Never.is))) refl c.judge.ensures.same in
    let l = (row_parts c.requires).0 in
    record { judged = record { answer = finished w1 (written_in r w1 c.args.written l).1 (written_stays r w1 c.args.spot c.args.written l) (omega (arith, row_sizes c.requires)) }; same = w1.same }

pub go-returns-in_default : goal.go-returns-in_default
go-returns-in_default t c =
    let r = c.requires.asks.ready in
    let t1 = c.in_ok-given.ensures.judged.answer in
    let w0 = onwards (begun c.requires c.args.world) (located (stations_of c.args.spot.setting.now.sheet.now) c.args.self.now.height.worlds c.args.there c.args.spot.term c.in_ok-elsewhere.elsewhere (λ (u : World). expecting c.args.part (judge (checked_program c.args.self.now (stations_of c.args.spot.setting.now.sheet.now) c.args.spot.setting.now.terms.now) c.args.part (context_of c.args.self.now) u) none (typed (type_of (checked_program c.args.self.now (stations_of c.args.spot.setting.now.sheet.now) c.args.spot.setting.now.terms.now) c.args.written))) c.in_ok-elsewhere.ensures) in
    record {
      judged = record { answer = held_stops r c.args.spot c.args.part c.in_ok-elsewhere.elsewhere _ w0 (unfit c.args.part none t1 (never_not t1 (λ q. c.in_default.not-Never (c.row.ensures ∙ q)))) refl };
      same = c.judge.ensures.same;
    }

pub gate-judge_num-requires : goal.gate-judge_num-requires
gate-judge_num-requires t c = (search rules, first_part c.requires c.args.part (row_parts c.requires).1 (omega (arith, row_sizes c.requires)))

pub gate-returns : goal.gate-returns
gate-returns t c =
    let sz = row_sizes c.requires in
    let t1 = c.in_ok-given.ensures.held.answer in
    let k = when_site (world_of c.args.world) (BoundWorld c.args.spot.term) (λ s. need (dec_lt c.args.number (gates_there (stations_of c.args.spot.setting.now.sheet.now) s)) (NotOnSheet c.args.spot.term) (typed num)) in
    record {
      judged = record {
        answer = record {
          number = t1.number;
          verdict = t1.goes k ∙ registered_goes (gates_there (stations_of c.args.spot.setting.now.sheet.now)) (world_of c.args.world) c.args.number c.args.spot.term c.in_ok-register_at.field-0 (typed num) (sym c.register_at.ensures ∙ c.in_ok-register_at.was) ∙ ap typed (sym t1.is);
          grown = grown_more (omega (arith, sz)) t1.grown;
        };
      };
      same = c.judge_num.ensures.same;
    }

pub lam-judge_under-requires : goal.lam-judge_under-requires
lam-judge_under-requires t c =
    let A = c.requires.asks in
    let rs = row_parts c.requires in
    let bv = c.bind_value.ensures in
    (search rules, (value_asks bv (first_part c.requires c.args.body rs.1 (omega (arith, row_sizes c.requires))) (omega (arith, rs.0, A.ready.laid.some)) (omega (arith, A.values, rs.1.0)), under_value bv))

pub lam-returns-in_err-to : goal.lam-returns-in_err-to
lam-returns-in_err-to t c =
    let r = c.requires.asks.ready in
    let l = (row_parts c.requires).0 in
    let bv = c.bind_value.ensures in
    let s2 : Same c.args.self.now c.judge_under.new.self = ended bv.kept c.judge_under.ensures.kept c.judge_under.ensures.height in
    let o = body_verdict c.args.self.now c.bind_value.new.self c.args.spot c.args.body c.args.world bv.rows bv.kept.written (value_written r bv c.args.spot l) in
    record { judged = stops c.in_err-to.field-0.0 c.from_residual.ensures.1 (body_stops _ o (begun c.requires c.args.world) c.in_err-to.ensures.judged.answer); same = s2 }

pub lam-build-requires : goal.lam-build-requires
lam-build-requires t c =
    let g = grown_from c.args.self.now c.bind_value.ensures.rows c.in_ok-to.ensures.judged.answer.grown in
    omega (arith, g.few, c.requires.asks.room, c.requires.asks.few, row_sizes c.requires)

pub lam-returns : goal.lam-returns
lam-returns t c =
    let r = c.requires.asks.ready in
    let l = (row_parts c.requires).0 in
    let bv = c.bind_value.ensures in
    let s2 : Same c.args.self.now c.judge_under.new.self = ended bv.kept c.judge_under.ensures.kept c.judge_under.ensures.height in
    let o = body_verdict c.args.self.now c.bind_value.new.self c.args.spot c.args.body c.args.world bv.rows bv.kept.written (value_written r bv c.args.spot l) in
    let t1 = c.in_ok-to.ensures.judged.answer in
    let w1 = body_next bv.rows o s2 _ (begun c.requires c.args.world) t1 in
    let i = written_in r w1 c.args.written l in
    record {
      judged = record { answer = built_last r w1 (i.1, t1.number) i.0 c.build.ensures (ap (λ (P : Ty). fn P (meaning_of c.judge_under.new.self c.in_ok-to.to)) (written_stays r w1 c.args.spot c.args.written l)) (omega (arith, row_sizes c.requires)) };
      same = same_then s2 c.build.ensures.same;
    }

pub boxed-judge_under-requires : goal.boxed-judge_under-requires
boxed-judge_under-requires t c =
    let rs = row_parts c.requires in
    let bw = c.bind_world.ensures in
    (search rules, (world_asks bw (first_part c.requires c.args.body rs (omega (arith, row_sizes c.requires))) (omega (arith, c.requires.asks.worlds, rs.0)), under_world bw))

pub boxed-returns-in_err-part : goal.boxed-returns-in_err-part
boxed-returns-in_err-part t c =
    let bw = c.bind_world.ensures in
    let s2 : Same c.args.self.now c.judge_under.new.self = ended bw.kept c.judge_under.ensures.kept c.judge_under.ensures.height in
    let o = body_verdict c.args.self.now c.bind_world.new.self c.args.spot c.args.body (Level c.args.self.now.height.worlds) bw.rows bw.kept.written (world_context bw) in
    record { judged = stops c.in_err-part.field-0.0 c.from_residual.ensures.1 (body_stops _ o (begun c.requires c.args.world) c.in_err-part.ensures.judged.answer); same = s2 }

pub boxed-build-requires : goal.boxed-build-requires
boxed-build-requires t c =
    let g = grown_from c.args.self.now c.bind_world.ensures.rows c.in_ok-part.ensures.judged.answer.grown in
    omega (arith, g.few, c.requires.asks.room, c.requires.asks.few, row_sizes c.requires)

pub boxed-returns : goal.boxed-returns
boxed-returns t c =
    let r = c.requires.asks.ready in
    let bw = c.bind_world.ensures in
    let s2 : Same c.args.self.now c.judge_under.new.self = ended bw.kept c.judge_under.ensures.kept c.judge_under.ensures.height in
    let o = body_verdict c.args.self.now c.bind_world.new.self c.args.spot c.args.body (Level c.args.self.now.height.worlds) bw.rows bw.kept.written (world_context bw) in
    let t1 = c.in_ok-part.ensures.judged.answer in
    let w1 = body_next bw.rows o s2 _ (begun c.requires c.args.world) t1 in
    record { judged = record { answer = built_last r w1 t1.number tt c.build.ensures refl (omega (arith, row_sizes c.requires)) }; same = same_then s2 c.build.ensures.same }

pub letcc-judge_under-requires : goal.letcc-judge_under-requires
letcc-judge_under-requires t c =
    let rs = row_parts c.requires in
    let bc = c.bind_continuation.ensures in
    (search rules, (continuation_asks bc (first_part c.requires c.args.body rs.1 (omega (arith, row_sizes c.requires))) rs.0 (omega (arith, c.requires.asks.continuations, rs.1.0)), under_continuation bc))

pub letcc-returns-in_err-given : goal.letcc-returns-in_err-given
letcc-returns-in_err-given t c =
    let r = c.requires.asks.ready in
    let l = (row_parts c.requires).0 in
    let bc = c.bind_continuation.ensures in
    let s2 : Same c.args.self.now c.judge_under.new.self = ended bc.kept c.judge_under.ensures.kept c.judge_under.ensures.height in
    let o = body_verdict c.args.self.now c.bind_continuation.new.self c.args.spot c.args.body c.args.world bc.rows bc.kept.written (continuation_written r bc c.args.spot l) in
    record { judged = stops c.in_err-given.field-0.0 c.from_residual.ensures.1 (body_stops _ o (begun c.requires c.args.world) c.in_err-given.ensures.judged.answer); same = s2 }

pub letcc-returns-in_err-expect : goal.letcc-returns-in_err-expect
letcc-returns-in_err-expect t c =
    let r = c.requires.asks.ready in
    let l = (row_parts c.requires).0 in
    let bc = c.bind_continuation.ensures in
    let s2 : Same c.args.self.now c.judge_under.new.self = ended bc.kept c.judge_under.ensures.kept c.judge_under.ensures.height in
    let o = body_verdict c.args.self.now c.bind_continuation.new.self c.args.spot c.args.body c.args.world bc.rows bc.kept.written (continuation_written r bc c.args.spot l) in
    let t1 = c.in_ok-given.ensures.judged.answer in
    let k1 = written_still r bc.rows t1.grown s2 c.args.spot c.args.written l in
    record {
      judged = stops c.in_err-expect.field-0.0 c.from_residual-in_err-expect.ensures.1 (body_unheld c.args.body _ _ o (begun c.requires c.args.world) (held_unfit c.args.body _ t1 (meaning_of c.judge_under.new.self c.args.written) c.in_err-expect.field-0.0 k1 (sym c.expect.ensures ∙ c.in_err-expect.was)));
      same = s2;
    }

pub letcc-returns : goal.letcc-returns
letcc-returns t c =
    let r = c.requires.asks.ready in
    let l = (row_parts c.requires).0 in
    let bc = c.bind_continuation.ensures in
    let s2 : Same c.args.self.now c.judge_under.new.self = ended bc.kept c.judge_under.ensures.kept c.judge_under.ensures.height in
    let o = body_verdict c.args.self.now c.bind_continuation.new.self c.args.spot c.args.body c.args.world bc.rows bc.kept.written (continuation_written r bc c.args.spot l) in
    let t1 = c.in_ok-given.ensures.judged.answer in
    let k1 = written_still r bc.rows t1.grown s2 c.args.spot c.args.written l in
    let w1 = body_held bc.rows o s2 (begun c.requires c.args.world) (held_fits c.args.body _ t1 (meaning_of c.judge_under.new.self c.args.written) c.in_ok-expect.field-0 k1 (sym c.expect.ensures ∙ c.in_ok-expect.was)) in
    record { judged = record { answer = finished w1 (written_in r w1 c.args.written l).1 k1 (omega (arith, row_sizes c.requires)) }; same = s2 }

pub letd-judge-requires : goal.letd-judge-requires
letd-judge-requires t c = (search rules, first_part c.requires c.args.address (row_parts c.requires).0 (omega (arith, row_sizes c.requires)))

pub letd-returns-in_default : goal.letd-returns-in_default
letd-returns-in_default t c = record { judged = record { answer = at_stops c.in_ok-whole.ensures.judged.answer (λ x q. c.in_default.not-At x (c.row.ensures ∙ q)) _ _ }; same = c.judge.ensures.same }

pub letd-judge_under-requires : goal.letd-judge_under-requires
letd-judge_under-requires t c =
    let A = c.requires.asks in
    let rs = row_parts c.requires in
    let sz = row_sizes c.requires in
    let t1 = c.in_ok-whole.ensures.judged.answer in
    let s1 : Same c.args.self.now c.judge.new.self = c.judge.ensures.same in
    let m = at_inside t1 c.in-At.inner (sym c.row.ensures ∙ c.in-At.is) in
    let bw = c.bind_world.ensures in
    let bv = c.bind_value.ensures in
    let a0 = next_part A t1.grown s1 c.args.body rs.1 (omega (arith, sz)) in
    let hv : c.judge.new.self.height.values ≡ c.args.self.now.height.values = ap (λ (x : Height). x.values) s1.height in
    let hw : c.judge.new.self.height.worlds ≡ c.args.self.now.height.worlds = ap (λ (x : Height). x.worlds) s1.height in
    let a1 = world_asks bw a0 (omega (arith, A.worlds, rs.1.0, hw)) in
    let a2 = value_asks bv a1 (omega (arith, m, ap length bw.rows)) (omega (arith, A.values, rs.1.0, hv, ap (λ (x : Height). x.values) bw.height)) in
    (search rules, (a2, under_then (under_world bw) (under_value bv)))

pub letd-returns : goal.letd-returns
letd-returns t c =
    let A = c.requires.asks in
    let sz = row_sizes c.requires in
    let t1 = c.in_ok-whole.ensures.judged.answer in
    let s1 : Same c.args.self.now c.judge.new.self = c.judge.ensures.same in
    let bw = c.bind_world.ensures in
    let bv = c.bind_value.ensures in
    let hw : c.judge.new.self.height.worlds ≡ c.args.self.now.height.worlds = ap (λ (x : Height). x.worlds) s1.height in
    let ctx : context_of c.bind_value.new.self ≡ binding_value (binding_world (context_of c.args.self.now)) (meaning_of c.judge.new.self c.in-At.inner) (bound c.args.self.now.height.worlds) =
    value_context bv ∙ ap (λ (x : Around). binding_value x (meaning_of c.bind_world.new.self c.in-At.inner) (bound c.judge.new.self.height.worlds)) (world_context bw ∙ ap binding_world (context_kept A.ready t1.grown s1))
    ∙ ap (λ (P : Ty). binding_value (binding_world (context_of c.args.self.now)) P (bound c.judge.new.self.height.worlds)) (ap (λ (M : ℕ → Ty). M c.in-At.inner) (same_meaning c.judge.new.self c.bind_world.new.self bw.rows bw.kept.written))
    ∙ ap (λ n. binding_value (binding_world (context_of c.args.self.now)) (meaning_of c.judge.new.self c.in-At.inner) (bound n)) hw in
    let prog : checked_program c.bind_value.new.self (stations_of c.args.spot.setting.now.sheet.now) c.args.spot.setting.now.terms.now ≡ (checked_program c.args.self.now (stations_of c.args.spot.setting.now.sheet.now) c.args.spot.setting.now.terms.now) = same_program c.bind_world.new.self c.bind_value.new.self bv.rows bv.kept.written (stations_of c.args.spot.setting.now.sheet.now) c.args.spot.setting.now.terms.now ∙ same_program c.judge.new.self c.bind_world.new.self bw.rows bw.kept.written (stations_of c.args.spot.setting.now.sheet.now) c.args.spot.setting.now.terms.now ∙ program_kept A.ready t1.grown s1 (stations_of c.args.spot.setting.now.sheet.now) c.args.spot.setting.now.terms.now in
    let o : then_type (verdict c.args.self.now (stations_of c.args.spot.setting.now.sheet.now) c.args.spot.setting.now.terms.now c.args.address c.args.world) (λ (X : Ty). when_at X (Mismatch c.args.address) (λ (P : Ty). judge (checked_program c.args.self.now (stations_of c.args.spot.setting.now.sheet.now) c.args.spot.setting.now.terms.now) c.args.body (binding_value (binding_world (context_of c.args.self.now)) P (bound c.args.self.now.height.worlds)) (world_of c.args.world))) ≡ verdict c.bind_value.new.self (stations_of c.args.spot.setting.now.sheet.now) c.args.spot.setting.now.terms.now c.args.body c.args.world =
    at_goes t1 c.in-At.inner (sym c.row.ensures ∙ c.in-At.is) (Mismatch c.args.address) (λ (P : Ty). judge (checked_program c.args.self.now (stations_of c.args.spot.setting.now.sheet.now) c.args.spot.setting.now.terms.now) c.args.body (binding_value (binding_world (context_of c.args.self.now)) P (bound c.args.self.now.height.worlds)) (world_of c.args.world))
    ∙ ap (λ (x : Around). judge (checked_program c.args.self.now (stations_of c.args.spot.setting.now.sheet.now) c.args.spot.setting.now.terms.now) c.args.body x (world_of c.args.world)) (sym ctx) ∙ ap (λ (p : Program). judge p c.args.body (context_of c.bind_value.new.self) (world_of c.args.world)) (sym prog) in
    let s2 : Same c.judge.new.self c.judge_under.new.self = ended (kept_then bw.kept (kept_below c.judge.new.self bw.height bv.kept)) c.judge_under.ensures.kept c.judge_under.ensures.height in
    record { judged = judged_from c.args.self.now c.judge.new.self c.bind_value.new.self A.ready t1.grown s1 (bv.rows ∙ bw.rows) o (omega (arith, sz)) c.judge_under.ensures.judged; same = same_then s1 s2 }

pub throw-returns-in_default : goal.throw-returns-in_default
throw-returns-in_default t c =
    record { judged = record { answer = ap (λ (x : Lookup (Ty × World)). bound_continuation c.args.spot.term x (λ (P : Ty) (u : World). expecting c.args.part (judge (checked_program c.args.self.now (stations_of c.args.spot.setting.now.sheet.now) c.args.spot.setting.now.terms.now) c.args.part (context_of c.args.self.now) u) P (typed (type_of (checked_program c.args.self.now (stations_of c.args.spot.setting.now.sheet.now) c.args.spot.setting.now.terms.now) c.args.written)))) (not_looked (bound_of (meaning_of c.args.self.now)) (continuations_of c.args.self.now) c.args.continuation (found c.args.continuation c.bound_continuations.ensures c.bound_at.ensures c.in_default.is)) }; same = same_self c.args.self.now }

pub throw-judge_as-requires : goal.throw-judge_as-requires
throw-judge_as-requires t c =
    let r = c.requires.asks.ready in
    let e = found c.args.continuation c.bound_continuations.ensures c.bound_at.ensures c.in-Some.is in
    (search rules, (first_part c.requires c.args.part (row_parts c.requires).2 (omega (arith, row_sizes c.requires)), looked_below c.args.self.now.written (continuations_of c.args.self.now) c.args.continuation c.in-Some.target r.continuations e))

pub throw-returns-in_err-judge_as : goal.throw-returns-in_err-judge_as
throw-returns-in_err-judge_as t c =
    let r = c.requires.asks.ready in
    let e = found c.args.continuation c.bound_continuations.ensures c.bound_at.ensures c.in-Some.is in
    let w0 = onwards (begun c.requires c.args.world) (ap (λ (x : Lookup (Ty × World)). bound_continuation c.args.spot.term x (λ (P : Ty) (u : World). expecting c.args.part (judge (checked_program c.args.self.now (stations_of c.args.spot.setting.now.sheet.now) c.args.spot.setting.now.terms.now) c.args.part (context_of c.args.self.now) u) P (typed (type_of (checked_program c.args.self.now (stations_of c.args.spot.setting.now.sheet.now) c.args.spot.setting.now.terms.now) c.args.written)))) (looked (bound_of (meaning_of c.args.self.now)) (continuations_of c.args.self.now) c.args.continuation c.in-Some.target e)) in
    record {
      judged = stops c.in_err-judge_as.field-0.0 c.from_residual.ensures.1 (held_stops r c.args.spot c.args.part c.in-Some.target.world _ w0 c.in_err-judge_as.ensures.held.answer refl);
      same = c.judge_as.ensures.same;
    }

pub throw-returns : goal.throw-returns
throw-returns t c =
    let r = c.requires.asks.ready in
    let e = found c.args.continuation c.bound_continuations.ensures c.bound_at.ensures c.in-Some.is in
    let w0 = onwards (begun c.requires c.args.world) (ap (λ (x : Lookup (Ty × World)). bound_continuation c.args.spot.term x (λ (P : Ty) (u : World). expecting c.args.part (judge (checked_program c.args.self.now (stations_of c.args.spot.setting.now.sheet.now) c.args.spot.setting.now.terms.now) c.args.part (context_of c.args.self.now) u) P (typed (type_of (checked_program c.args.self.now (stations_of c.args.spot.setting.now.sheet.now) c.args.spot.setting.now.terms.now) c.args.written)))) (looked (bound_of (meaning_of c.args.self.now)) (continuations_of c.args.self.now) c.args.continuation c.in-Some.target e)) in
    let w1 = held_next r c.args.spot c.args.part c.in-Some.target.world w0 c.in_ok-judge_as.ensures.held.answer refl c.judge_as.ensures.same in
    let l = (row_parts c.requires).0 in
    record { judged = record { answer = finished w1 (written_in r w1 c.args.written l).1 (written_stays r w1 c.args.spot c.args.written l) (omega (arith, row_sizes c.requires)) }; same = w1.same }

pub below-judge_num-requires : goal.below-judge_num-requires
below-judge_num-requires t c = (search rules, first_part c.requires c.args.left (row_parts c.requires).1 (omega (arith, row_sizes c.requires)))

pub below-judge_num-requires-2 : goal.below-judge_num-requires-2
below-judge_num-requires-2 t c =
    let r = c.requires.asks.ready in
    let w1 = held_next r c.args.spot c.args.left c.args.world (begun c.requires c.args.world) c.in_ok-judge_num.ensures.held.answer refl c.judge_num.ensures.same in
    (search rules, asked_next c.requires w1 c.args.right (row_parts c.requires).2 (omega (arith, row_sizes c.requires)))

pub below-returns-in_err-judge_num-2 : goal.below-returns-in_err-judge_num-2
below-returns-in_err-judge_num-2 t c =
    let r = c.requires.asks.ready in
    let w1 = held_next r c.args.spot c.args.left c.args.world (begun c.requires c.args.world) c.in_ok-judge_num.ensures.held.answer refl c.judge_num.ensures.same in
    record {
      judged = stops c.in_err-judge_num-2.field-0.0 c.from_residual-in_err-judge_num-2.ensures.1 (held_stops r c.args.spot c.args.right c.args.world _ w1 c.in_err-judge_num-2.ensures.held.answer refl);
      same = same_then w1.same c.judge_num-2.ensures.same;
    }

pub below-judge_as-requires : goal.below-judge_as-requires
below-judge_as-requires t c =
    let r = c.requires.asks.ready in
    let w1 = held_next r c.args.spot c.args.left c.args.world (begun c.requires c.args.world) c.in_ok-judge_num.ensures.held.answer refl c.judge_num.ensures.same in
    let w2 = held_next r c.args.spot c.args.right c.args.world w1 c.in_ok-judge_num-2.ensures.held.answer refl c.judge_num-2.ensures.same in
    (search rules, (asked_next c.requires w2 c.args.less (row_parts c.requires).3 (omega (arith, row_sizes c.requires)), (written_in r w2 c.args.written (row_parts c.requires).0).0))

pub below-returns-in_err-judge_as : goal.below-returns-in_err-judge_as
below-returns-in_err-judge_as t c =
    let r = c.requires.asks.ready in
    let w1 = held_next r c.args.spot c.args.left c.args.world (begun c.requires c.args.world) c.in_ok-judge_num.ensures.held.answer refl c.judge_num.ensures.same in
    let w2 = held_next r c.args.spot c.args.right c.args.world w1 c.in_ok-judge_num-2.ensures.held.answer refl c.judge_num-2.ensures.same in
    record {
      judged = stops c.in_err-judge_as.field-0.0 c.from_residual-in_err-judge_as.ensures.1 (held_stops r c.args.spot c.args.less c.args.world _ w2 c.in_err-judge_as.ensures.held.answer (written_stays r w2 c.args.spot c.args.written (row_parts c.requires).0));
      same = same_then w2.same c.judge_as.ensures.same;
    }

pub below-judge_as-requires-2 : goal.below-judge_as-requires-2
below-judge_as-requires-2 t c =
    let r = c.requires.asks.ready in
    let w1 = held_next r c.args.spot c.args.left c.args.world (begun c.requires c.args.world) c.in_ok-judge_num.ensures.held.answer refl c.judge_num.ensures.same in
    let w2 = held_next r c.args.spot c.args.right c.args.world w1 c.in_ok-judge_num-2.ensures.held.answer refl c.judge_num-2.ensures.same in
    let w3 = held_next r c.args.spot c.args.less c.args.world w2 c.in_ok-judge_as.ensures.held.answer (written_stays r w2 c.args.spot c.args.written (row_parts c.requires).0) c.judge_as.ensures.same in
    (search rules, (asked_next c.requires w3 c.args.otherwise (row_parts c.requires).4 (omega (arith, row_sizes c.requires)), (written_in r w3 c.args.written (row_parts c.requires).0).0))

pub below-returns-in_err-judge_as-2 : goal.below-returns-in_err-judge_as-2
below-returns-in_err-judge_as-2 t c =
    let r = c.requires.asks.ready in
    let w1 = held_next r c.args.spot c.args.left c.args.world (begun c.requires c.args.world) c.in_ok-judge_num.ensures.held.answer refl c.judge_num.ensures.same in
    let w2 = held_next r c.args.spot c.args.right c.args.world w1 c.in_ok-judge_num-2.ensures.held.answer refl c.judge_num-2.ensures.same in
    let w3 = held_next r c.args.spot c.args.less c.args.world w2 c.in_ok-judge_as.ensures.held.answer (written_stays r w2 c.args.spot c.args.written (row_parts c.requires).0) c.judge_as.ensures.same in
    record {
      judged = stops c.in_err-judge_as-2.field-0.0 c.from_residual-in_err-judge_as-2.ensures.1 (held_stops r c.args.spot c.args.otherwise c.args.world _ w3 c.in_err-judge_as-2.ensures.held.answer (written_stays r w3 c.args.spot c.args.written (row_parts c.requires).0));
      same = same_then w3.same c.judge_as-2.ensures.same;
    }

pub below-returns : goal.below-returns
below-returns t c =
    let r = c.requires.asks.ready in
    let w1 = held_next r c.args.spot c.args.left c.args.world (begun c.requires c.args.world) c.in_ok-judge_num.ensures.held.answer refl c.judge_num.ensures.same in
    let w2 = held_next r c.args.spot c.args.right c.args.world w1 c.in_ok-judge_num-2.ensures.held.answer refl c.judge_num-2.ensures.same in
    let w3 = held_next r c.args.spot c.args.less c.args.world w2 c.in_ok-judge_as.ensures.held.answer (written_stays r w2 c.args.spot c.args.written (row_parts c.requires).0) c.judge_as.ensures.same in
    let w4 = held_next r c.args.spot c.args.otherwise c.args.world w3 c.in_ok-judge_as-2.ensures.held.answer (written_stays r w3 c.args.spot c.args.written (row_parts c.requires).0) c.judge_as-2.ensures.same in
    let l = (row_parts c.requires).0 in
    record {
      judged = record { answer = finished w4 (written_in r w4 c.args.written l).1 (written_stays r w4 c.args.spot c.args.written l) (omega (arith, row_sizes c.requires)) };
      same = w4.same;
    }
