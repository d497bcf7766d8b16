use Rattle.std.proofs.Common.{◌<◌, ◌≤◌, length, arith, sym, refl, ◌∙◌, subst, rules}
use mathlib.Core.Option.{some}
use Rattle.instruments.specs.Sheets.{stations_of}
use Rattle.checker.specs.Accepting.{place as program_place}
use Rattle.machine.specs.Answers.{of_terms}
use Rattle.machine.specs.Safe.{Holds}
use Rattle.machine.specs.Calls.{place as place_of}
use Rattle.machine.proofs.Copies.{copied, on_limits, start_within, started_copy, start_tells}
use Rattle.machine.proofs.place.Machine.start.Goals as goal

pub restart-requires : goal.restart-requires
restart-requires c =
    let m = c.args.self.now in
    let t = c.in-Some.tables in
    let S = stations_of c.in_ok-sheet.sheet in
    let w = start_within t.types.now t.terms.now S t.start (program_place c.args.program.now) c.in-Some.ensures.is c.in-Some.ensures.carries c.in_ok-sheet.ensures in
    record { few = c.len.ensures.bound; within = subst (λ n. t.start < n) (sym c.len.ensures.value) w }

pub invariant_of-self : goal.invariant_of-self
invariant_of-self c =
    let m = c.args.self.now in
    let t = c.in-Some.tables in
    let S = stations_of c.in_ok-sheet.sheet in
    let P = copied t.types.now t.terms.now S t.start in
    let h = started_copy t.types.now t.terms.now S t.start (program_place c.args.program.now) c.restart.new.self c.in-Some.ensures.is c.in-Some.ensures.carries c.in_ok-sheet.ensures (c.restart.ensures.stations ∙ c.len.ensures.value) (c.restart.ensures.means P (sym c.len.ensures.value) refl) in
    let few : length t.terms.now ≤ 1024 = search rules in
    record { carried = ∣ subst (λ ts. Holds (of_terms ts) S c.restart.new.self) (sym (c.replace-2.ensures.copied few)) h ∣₁ }

pub returns : goal.returns
returns c =
    let m = c.args.self.now in
    let t = c.in-Some.tables in
    let S = stations_of c.in_ok-sheet.sheet in
    let P = copied t.types.now t.terms.now S t.start in
    let sheet = c.in_ok-sheet.sheet in
    let few = on_limits S (omega (arith, c.len.ensures.value, c.len.ensures.bound)) sheet.fitted in
    let k = start_tells t.types.now t.terms.now S t.start few (program_place c.args.program.now) c.in-Some.ensures.is c.in-Some.ensures.carries c.in_ok-sheet.ensures (place_of m) in
    let types_few : length t.types.now ≤ 512 = search rules in
    let terms_few : length t.terms.now ≤ 1024 = search rules in
    let means = c.restart.ensures.means P (sym c.len.ensures.value) refl in
    record {
      value = k.0;
      after = (λ i. some (record { program = record { sheet = S; types = (c.replace.ensures.copied types_few) i; terms = (c.replace-2.ensures.copied terms_few) i; start = t.start }; state = means i; marks = c.new-self.ensures i })) ∙ k.1;
      law = k.2;
      marks = k.3;
    }
