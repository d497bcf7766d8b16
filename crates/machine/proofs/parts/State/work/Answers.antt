use Rattle.std.proofs.Common.{◌≡◌, length, sym, subst}
use Rattle.calculus.specs.Machine
use Rattle.calculus.specs.Program.{Program}
use Rattle.calculus.specs.Step.{Works}
use Rattle.calculus.specs.Limits.{lacking, no_place}
use Rattle.machine.specs.Meaning.{state_of, sites_of, places_of}
use Rattle.machine.specs.Sound.{TaskIn}
use Rattle.machine.specs.Answers.{Goes, Ends, Lands, answered, shown, held, over, framed, worked, of_terms}
use Rattle.machine.proofs.Sorts.{wants_function, wants_code, wants_address, wants_pair, chosen_numbers}
use Rattle.machine.specs.declared.parts.Continuation.{Continuation}
use Rattle.machine.specs.declared.parts.Task.{Task}
use Rattle.machine.specs.declared.parts.Value.{Value}
use Rattle.machine.specs.declared.parts.State.{State}
use Rattle.machine.proofs.parts.State.work.Goals as goal

-- what is asked of the task, at the variant that it has
module _ (v : Works) (s : State) (P : Program) (next : Continuation) (u : Value) {a b : Task} where
  live_at : a ≡ b → Lands s.stations (framed v s P next u a) → Lands s.stations (framed v s P next u b)
  live_at e h = subst (λ t. Lands s.stations (framed v s P next u t)) e h

  task_at : a ≡ b → TaskIn s.store.cells.items (length s.store.cells.items) a → TaskIn s.store.cells.items (length s.store.cells.items) b
  task_at e h = subst (TaskIn s.store.cells.items (length s.store.cells.items)) e h

pub call-requires : goal.call-requires
call-requires g c =
    let s = c.args.self.now in
    let v = shown (g.W.Gauges.readings c.args.works.now) (g.W.Works.settings c.args.works.now) in
    let P = of_terms c.args.program.now in
    let e = c.in-Applied.is in
    record { function = task_at v s P c.args.next c.args.value e c.requires.task; work = c.requires.work; kind = wants_function s.stations (held s c.in-Applied.function) _ (live_at v s P c.args.next c.args.value e c.requires.live) }

pub unbox-requires : goal.unbox-requires
unbox-requires g c =
    let s = c.args.self.now in
    let v = shown (g.W.Gauges.readings c.args.works.now) (g.W.Works.settings c.args.works.now) in
    let P = of_terms c.args.program.now in
    record { work = c.requires.work; kind = wants_code s.stations (held s c.args.value) _ (live_at v s P c.args.next c.args.value c.in-Unbox.is c.requires.live) }

pub open_address-requires : goal.open_address-requires
open_address-requires g c =
    let s = c.args.self.now in
    let v = shown (g.W.Gauges.readings c.args.works.now) (g.W.Works.settings c.args.works.now) in
    let P = of_terms c.args.program.now in
    let e = c.in-Open.is in
    record { environment = task_at v s P c.args.next c.args.value e c.requires.task; work = c.requires.work; kind = wants_address s.stations (held s c.args.value) _ (live_at v s P c.args.next c.args.value e c.requires.live) }

pub halves-left-requires : goal.halves-left-requires
halves-left-requires g c =
    let s = c.args.self.now in
    let v = shown (g.W.Gauges.readings c.args.works.now) (g.W.Works.settings c.args.works.now) in
    let P = of_terms c.args.program.now in
    record { value = c.requires.work.0; kind = wants_pair s.stations (held s c.args.value) _ (live_at v s P c.args.next c.args.value c.in-First.is c.requires.live) }

pub halves-right-requires : goal.halves-right-requires
halves-right-requires g c =
    let s = c.args.self.now in
    let v = shown (g.W.Gauges.readings c.args.works.now) (g.W.Works.settings c.args.works.now) in
    let P = of_terms c.args.program.now in
    record { value = c.requires.work.0; kind = wants_pair s.stations (held s c.args.value) _ (live_at v s P c.args.next c.args.value c.in-Second.is c.requires.live) }

pub choose-requires : goal.choose-requires
choose-requires g c =
    let s = c.args.self.now in
    let v = shown (g.W.Gauges.readings c.args.works.now) (g.W.Works.settings c.args.works.now) in
    let P = of_terms c.args.program.now in
    let e = c.in-Compared.is in
    let t = task_at v s P c.args.next c.args.value e c.requires.task in
    let n = chosen_numbers s.stations (held s c.in-Compared.left) (held s c.args.value) _ (live_at v s P c.args.next c.args.value e c.requires.live) in
    record { left = t.0; environment = t.1; work = c.requires.work; first = n.0; second = n.1 }

pub returns-in-Open : goal.returns-in-Open
returns-in-Open g c =
    let s = c.args.self.now in
    let v = shown (g.W.Gauges.readings c.args.works.now) (g.W.Works.settings c.args.works.now) in
    let P = of_terms c.args.program.now in
    subst (λ t. Ends c.open_address.result s c.open_address.new.self v v (worked v s P c.args.next c.args.value t)) (sym c.in-Open.is) (c.open_address.ensures v P)

pub returns-in-First : goal.returns-in-First
returns-in-First g c =
    let s = c.args.self.now in
    let v = shown (g.W.Gauges.readings c.args.works.now) (g.W.Works.settings c.args.works.now) in
    let P = of_terms c.args.program.now in
    let l = lacking no_place (state_of s) in
    let G : Machine.Value → Type 0 = λ u. Goes s c.go_on.new.self v (answered (Machine.when_pair u (λ a b. Machine.next v (sites_of s) s.site (places_of s) (over s c.args.next) (Machine.back a))) l) in
    subst (λ t. Goes s c.go_on.new.self v (worked v s P c.args.next c.args.value t)) (sym c.in-First.is) (subst G (sym c.halves-left.ensures.is) (c.go_on.ensures v))

pub returns-in-Second : goal.returns-in-Second
returns-in-Second g c =
    let s = c.args.self.now in
    let v = shown (g.W.Gauges.readings c.args.works.now) (g.W.Works.settings c.args.works.now) in
    let P = of_terms c.args.program.now in
    let l = lacking no_place (state_of s) in
    let t = c.go_on-in-Second.new.self in
    let G : Machine.Value → Type 0 = λ u. Goes s t v (answered (Machine.when_pair u (λ a b. Machine.next v (sites_of s) s.site (places_of s) (over s c.args.next) (Machine.back b))) l) in
    subst (λ x. Goes s t v (worked v s P c.args.next c.args.value x)) (sym c.in-Second.is) (subst G (sym c.halves-right.ensures.is) (c.go_on-in-Second.ensures v))

pub returns-in-Compared : goal.returns-in-Compared
returns-in-Compared g c =
    let s = c.args.self.now in
    let v = shown (g.W.Gauges.readings c.args.works.now) (g.W.Works.settings c.args.works.now) in
    let P = of_terms c.args.program.now in
    subst (λ t. Goes s c.choose.new.self v (worked v s P c.args.next c.args.value t)) (sym c.in-Compared.is) (c.choose.ensures v)
