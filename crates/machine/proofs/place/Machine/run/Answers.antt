use Rattle.std.proofs.Common.{Ok, Err, sym, ap, ◌∙◌, subst}
use Rattle.std.proofs.lemmas.Result.{err_from_is_err_and}
use Rattle.instruments.specs.Sheets.{stations_of}
use Rattle.calculus.specs.Run.{execute}
use Rattle.calculus.specs.Marked.{Marked}
use Rattle.calculus.proofs.Marked.{marked_join}
use Rattle.machine.specs.Answers.{of_terms, shown}
use Rattle.machine.specs.Meaning.{state_of}
use Rattle.machine.specs.Runs.{ran_by}
use Rattle.machine.specs.Safe.{Holds}
use Rattle.machine.specs.Calls.{program_of}
use Rattle.machine.specs.declared.place.Machine.{Machine}
use Rattle.machine.specs.declared.place.Started.{Started}
use Rattle.machine.proofs.Copies.{kept_holds}
use Rattle.machine.proofs.Sheeted.{same_agrees}
use Rattle.machine.proofs.Calling.{run_value, run_place, run_works}
use Rattle.machine.proofs.place.Machine.run.Goals as goal

-- the machine in a full place
abbrev marked : Machine → Started → Marked
marked m d = record { program = program_of m d; state = state_of m.state; marks = m.marks }

pub run-requires : goal.run-requires
run-requires g c =
    let m = c.args.self.now in
    let d = c.in-Some.started in
    let v = shown (g.W.Gauges.readings c.args.works.now) (g.W.Works.settings c.args.works.now) in
    let S = stations_of d.sheet in
    record { holds = (S, subst (λ ts. Holds (of_terms ts) S m.state) (sym c.as_slice.ensures.value) (kept_holds m d c.in-Some.is), same_agrees S v (sym c.in_default-differing_site.ensures)) }

pub invariant_of-self : goal.invariant_of-self
invariant_of-self g c =
    let m = c.args.self.now in
    let d = c.in-Some.started in
    let v = shown (g.W.Gauges.readings c.args.works.now) (g.W.Works.settings c.args.works.now) in
    let S = stations_of d.sheet in
    let h = subst (λ ts. Holds (of_terms ts) S m.state) (sym c.as_slice.ensures.value) (kept_holds m d c.in-Some.is) in
    let k = subst (λ ts. Holds (of_terms ts) S c.run.new.self) c.as_slice.ensures.value (c.run.ensures.holds S h (same_agrees S v (sym c.in_default-differing_site.ensures))).0 in
    record { carried = rw c.in-Some.is (∣ k ∣₁) }

pub returns-in_default-clause-joins : goal.returns-in_default-clause-joins
returns-in_default-clause-joins g c = marked_join

pub returns-in-Some-differing_site-clause-joins : goal.returns-in-Some-differing_site-clause-joins
returns-in-Some-differing_site-clause-joins g c = marked_join

pub returns-in_err-run : goal.returns-in_err-run
returns-in_err-run g c =
    let m = c.args.self.now in
    let d = c.in-Some.started in
    let v = shown (g.W.Gauges.readings c.args.works.now) (g.W.Works.settings c.args.works.now) in
    let u = shown (g.W.Gauges.readings c.run.new.works) (g.W.Works.settings c.run.new.works) in
    let b = c.args.budget in
    let r = Err c.in_err-run.field-0.0 in
    let M = state_of c.run.new.self in
    let ms = c.run.new.marks in
    let is = c.in_err-run.ensures.ran ∙ ap (λ ts. ran_by m.marks (execute (of_terms ts) b v (state_of m.state))) c.as_slice.ensures.value in
    let same = c.in_default-differing_site.ensures in
    let told = c.in_err-run.ensures.told in
    let q = err_from_is_err_and c.from_residual.result c.from_residual.ensures.1 in
    rw c.in-Some.is (record {
      value = q.1 ∙ ap Err q.2 ∙ run_value (marked m d) v b same r M u ms told is;
      after = run_place (marked m d) v b same r M u ms told is;
      works = run_works (marked m d) v b same r M u ms told is;
      joins = marked_join;
    })

pub returns : goal.returns
returns g c =
    let m = c.args.self.now in
    let d = c.in-Some.started in
    let v = shown (g.W.Gauges.readings c.args.works.now) (g.W.Works.settings c.args.works.now) in
    let u = shown (g.W.Gauges.readings c.run.new.works) (g.W.Works.settings c.run.new.works) in
    let b = c.args.budget in
    let r = Ok c.in_ok-run.run' in
    let M = state_of c.run.new.self in
    let ms = c.run.new.marks in
    let is = c.in_ok-run.ensures.ran ∙ ap (λ ts. ran_by m.marks (execute (of_terms ts) b v (state_of m.state))) c.as_slice.ensures.value in
    let same = c.in_default-differing_site.ensures in
    let told = c.in_ok-run.ensures.told in
    rw c.in-Some.is (record {
      value = run_value (marked m d) v b same r M u ms told is;
      after = run_place (marked m d) v b same r M u ms told is;
      works = run_works (marked m d) v b same r M u ms told is;
      joins = marked_join;
    })
