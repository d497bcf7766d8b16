use Rattle.std.proofs.Common.{sym, ap, ◌∙◌, subst}
use Rattle.machine.specs.Answers.{Goes, Ends, shown, evaluated}
use Rattle.machine.proofs.Evaluating.{get_answer, go_answer, throw_answer}
use Rattle.machine.proofs.parts.State.evaluate.Goals as goal

pub returns-in-Num : goal.returns-in-Num
returns-in-Num g c =
    let s = c.args.self.now in
    let v = shown (g.W.Gauges.readings c.args.works.now) (g.W.Works.settings c.args.works.now) in
    subst (λ r. Goes s c.go_on.new.self v (evaluated v s c.args.term c.args.environment r)) (sym c.in-Num.is) (c.go_on.ensures v)

pub returns-in-Value : goal.returns-in-Value
returns-in-Value g c =
    let s = c.args.self.now in
    let v = shown (g.W.Gauges.readings c.args.works.now) (g.W.Works.settings c.args.works.now) in
    subst (λ r. Goes s c.value.new.self v (evaluated v s c.args.term c.args.environment r)) (sym c.in-Value.is) (c.value.ensures v)

pub returns-in-Lam : goal.returns-in-Lam
returns-in-Lam g c =
    let s = c.args.self.now in
    let v = shown (g.W.Gauges.readings c.args.works.now) (g.W.Works.settings c.args.works.now) in
    subst (λ r. Goes s c.go_on-in-Lam.new.self v (evaluated v s c.args.term c.args.environment r)) (sym c.in-Lam.is) (c.go_on-in-Lam.ensures v)

pub returns-in-Boxed : goal.returns-in-Boxed
returns-in-Boxed g c =
    let s = c.args.self.now in
    let v = shown (g.W.Gauges.readings c.args.works.now) (g.W.Works.settings c.args.works.now) in
    subst (λ r. Goes s c.go_on-in-Boxed.new.self v (evaluated v s c.args.term c.args.environment r)) (sym c.in-Boxed.is) (c.go_on-in-Boxed.ensures v)

pub returns-in-Get : goal.returns-in-Get
returns-in-Get g c =
    let s = c.args.self.now in
    let v = shown (g.W.Gauges.readings c.args.works.now) (g.W.Works.settings c.args.works.now) in
    let e = ap (evaluated v s c.args.term c.args.environment) c.in-Get.is ∙ get_answer v s c.args.term c.args.environment c.in-Get.mobile c.in-Get.world c.in-Get.part c.site_of-site.result c.site_of-site.ensures in
    subst (Ends c.get.result s c.get.new.self v v) (sym e) (c.get.ensures v)

pub returns-in-Throw : goal.returns-in-Throw
returns-in-Throw g c =
    let s = c.args.self.now in
    let v = shown (g.W.Gauges.readings c.args.works.now) (g.W.Works.settings c.args.works.now) in
    let e = ap (evaluated v s c.args.term c.args.environment) c.in-Throw.is ∙ throw_answer v s c.args.term c.args.environment c.in-Throw.written c.in-Throw.continuation c.in-Throw.part c.kept_of-site.result.0 c.kept_of-site.result.1 c.kept_of-site.ensures in
    subst (Goes s c.resume.new.self v) (sym e) (c.resume.ensures v)

pub returns-in-Go : goal.returns-in-Go
returns-in-Go g c =
    let s = c.args.self.now in
    let v = shown (g.W.Gauges.readings c.args.works.now) (g.W.Works.settings c.args.works.now) in
    let e = ap (evaluated v s c.args.term c.args.environment) c.in-Go.is ∙ go_answer v s c.args.term c.args.environment c.in-Go.written c.in-Go.world c.in-Go.part c.site_of-site-in-Go.result c.site_of-site-in-Go.ensures in
    subst (Goes s c.leave.new.self v) (sym e) (c.leave.ensures v)
